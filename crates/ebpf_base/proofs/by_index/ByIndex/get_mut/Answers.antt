use Rattle.std.proofs.Common.{refl, sym, ap, ◌∙◌}
use Rattle.std.specs.FinMap.{get, insert, from_entries}
use Rattle.ebpf_base.proofs.Maps.{where_some}
use Rattle.ebpf_base.proofs.Maps.{get-number, one_set_number}
use Rattle.ebpf_base.proofs.by_index.ByIndex.get_mut.Goals as goal

pub returns : goal.returns
returns g c = (
  (
    refl,
    λ w. where_some c.get_mut.result _ c.get_mut.ensures.value (λ some. one_set_number _ _ c.args.index w ((c.get_mut.follows.holds w).3 some).0 ∙ ap (λ m. insert m c.args.index w) c.self.view_is),
    ap (λ m. from_entries m.entries) c.get_mut.follows.holds-at-none ∙ c.self.view_is,
  ),
  record { writes_back = tt; value = c.get_mut.ensures.value ∙ sym (get-number _ c.args.index) ∙ ap (λ m. get m c.args.index) c.self.view_is },
)
