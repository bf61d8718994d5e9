use Rattle.std.proofs.Common.{◌≡◌, sym, ap, ◌∙◌, refl, Some, None, Ok, rules}
use Rattle.std.specs.FinMap.{get, insert, from_entries}
use Rattle.ebpf_base.specs.Maps.{key_total}
use Rattle.ebpf_base.proofs.Maps.{key_exact, get-view, one_set}
use Rattle.ebpf_base.proofs.by_key.ByKey.replace.Goals as goal

pub returns-in_default : goal.returns-in_default
returns-in_default g c =
    let e : get c.args.self.now c.args.key ≡ None = ap (λ m. get m c.args.key) (sym c.self.view_is) ∙ get-view key_total _ c.args.key ∙ sym c.in_default.ensures.value in
    rw e (refl, ap (λ m. from_entries m.entries) c.get_mut.follows.holds-at-none ∙ c.self.view_is)

pub returns : goal.returns
returns g c =
    let e : get c.args.self.now c.args.key ≡ Some c.in-Some.stored.now = ap (λ m. get m c.args.key) (sym c.self.view_is) ∙ get-view key_total _ c.args.key ∙ sym c.in-Some.ensures.value in
    let set = one_set key_total key_exact _ _ c.args.key c.replace.new.dest ((c.get_mut.follows.holds c.replace.new.dest).3 (search rules)).0 in
    rw e (ap Ok c.replace.ensures.value, set ∙ ap (λ v. insert (from_entries c.self.inside.entries.entries) c.args.key v) c.replace.ensures.after ∙ ap (λ m. insert m c.args.key c.args.value) c.self.view_is)
