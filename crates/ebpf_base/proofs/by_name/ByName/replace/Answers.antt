use Rattle.std.proofs.Common.{◌≡◌, sym, ap, ◌∙◌, refl, Some, None, Ok, rules}
use Rattle.std.specs.FinMap.{get, insert, from_entries}
use Rattle.ebpf_base.specs.Maps.{by_bytes}
use Rattle.std.proofs.lemmas.Map.Text.{btree_map_updates_text}
use Rattle.ebpf_base.proofs.TextMaps.{get-text, one_set_text}
use Rattle.ebpf_base.proofs.by_name.ByName.replace.Goals as goal

pub returns-in_default : goal.returns-in_default
returns-in_default g c =
    let e : get c.args.self.now c.args.name.now ≡ None = ap (λ m. get m c.args.name.now) (sym c.self.view_is) ∙ get-text _ c.args.name.now ∙ sym c.in_default.ensures.value in
    rw e (refl, ap (λ m. from_entries (by_bytes m.entries)) c.get_mut.follows.holds-at-none ∙ c.self.view_is)

pub returns : goal.returns
returns g c =
    let e : get c.args.self.now c.args.name.now ≡ Some c.in-Some.stored.now = ap (λ m. get m c.args.name.now) (sym c.self.view_is) ∙ get-text _ c.args.name.now ∙ sym c.in-Some.ensures.value in
    let set = one_set_text _ _ c.args.name.now c.replace.new.dest (btree_map_updates_text c.args.name.now c.self.inside.entries (c.get_mut.follows.lender c.replace.new.dest) _ ((c.get_mut.follows.holds c.replace.new.dest).3 (search rules))) in
    rw e (ap Ok c.replace.ensures.value, set ∙ ap (λ v. insert (from_entries (by_bytes c.self.inside.entries.entries)) c.args.name.now v) c.replace.ensures.after ∙ ap (λ m. insert m c.args.name.now c.args.value) c.self.view_is)
