use Rattle.std.proofs.Common.{rules, ◌≡◌, ◌∷◌, ◌++◌, [], None, length, sym, subst}
use Rattle.std.specs.FinMap.{get, insert}
use Rattle.ebpf_btf_decls.proofs.NumberedNames.{known_number, new_number, one_distinct}
use Rattle.ebpf_btf_decls.specs.SectionMaps.{AreDistinct, HasNumber}
use Rattle.ebpf_btf_decls.proofs.numbered_names.NumberedNames.number_of.Goals as goal

pub returns-in-Some-clause-number : goal.returns-in-Some-clause-number
returns-in-Some-clause-number c =
    known_number c.args.self.now.names c.args.self.now.numbers c.requires c.args.name.now c.in-Some.number.now (c.requires.is c.args.name.now c.in-Some.number.now (search rules))

pub returns-clause-number : goal.returns-clause-number
returns-clause-number c =
    let new : get c.args.self.now.numbers c.args.name.now ≡ None = search rules in
    let has : HasNumber c.args.self.now.names (c.args.self.now.names ++ c.args.name.now ∷ []) c.args.name.now (length c.args.self.now.names) = new_number c.args.self.now.names c.args.self.now.numbers c.requires c.args.name.now new in
    let names : c.push.new.self ≡ c.args.self.now.names ++ c.args.name.now ∷ [] = search rules in
    subst (λ n. HasNumber c.args.self.now.names c.push.new.self c.args.name.now n) (sym c.len-number.ensures)
    (subst (λ l. HasNumber c.args.self.now.names l c.args.name.now (length c.args.self.now.names)) (sym names) has)

pub returns-clause-distinct : goal.returns-clause-distinct
returns-clause-distinct c =
    let new : get c.args.self.now.numbers c.args.name.now ≡ None = search rules in
    let one : AreDistinct (c.args.self.now.names ++ c.args.name.now ∷ []) (insert c.args.self.now.numbers c.args.name.now (length c.args.self.now.names)) = one_distinct c.args.self.now.names c.args.self.now.numbers c.requires c.args.name.now new in
    let names : c.push.new.self ≡ c.args.self.now.names ++ c.args.name.now ∷ [] = search rules in
    let numbers : c.insert.new.self ≡ insert c.args.self.now.numbers c.args.name.now (length c.args.self.now.names) = search rules in
    subst (λ l. AreDistinct l c.insert.new.self) (sym names) (subst (AreDistinct (c.args.self.now.names ++ c.args.name.now ∷ [])) (sym numbers) one)
