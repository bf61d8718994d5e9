use Rattle.std.proofs.Common.{rules, ◌≡◌, ℕ, Some, sym, subst}
use Rattle.std.specs.BTreeMap.{BTreeMap, Updates}
use Rattle.std.specs.Cow.{cow_str_bytes}
use Rattle.std.specs.Ordering.{nat_cmp}
use Rattle.ebpf_btf_decls.proofs.NumberedNames.{known_number, one_offset}
use Rattle.ebpf_btf_decls.specs.SectionMaps.{HasNumber}
use Rattle.ebpf_btf_decls.proofs.numbered_names.NumberedNames.number_at.Goals as goal

pub returns-in-Some-clause-number : goal.returns-in-Some-clause-number
returns-in-Some-clause-number c =
    let found = c.requires.offsets c.args.offset c.in-Some.number.now (sym c.in-Some.ensures.value) in
    (found.0, found.1, known_number c.args.self.now.names c.args.self.now.numbers c.requires.distinct found.0 c.in-Some.number.now found.2)

pub returns-clause-numbered : goal.returns-clause-numbered
returns-clause-numbered c =
    let name : c.as_str.result.now ≡ cow_str_bytes c.in_ok-name.name = search rules in
    one_offset c.args.btf.now.strings c.args.self.now c.number_of.new.self c.insert.new.self (cow_str_bytes c.in_ok-name.name) c.args.offset c.in_ok-number.number c.requires c.in_ok-name.ensures.text
    (subst (λ q. HasNumber c.args.self.now.names c.number_of.new.self.names q c.in_ok-number.number) name c.in_ok-number.ensures.number) c.in_ok-number.ensures.distinct
    (subst (λ (m : BTreeMap ℕ ℕ). Updates nat_cmp m c.insert.new.self c.args.offset (Some c.in_ok-number.number)) c.number_of.ensures.offsets c.in_ok-insert.ensures.updates)
