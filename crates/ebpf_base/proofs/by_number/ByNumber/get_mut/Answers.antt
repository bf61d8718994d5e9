use Rattle.std.proofs.Common.{refl, sym, ap, ◌∙◌}
use Rattle.std.specs.Cmp.{nat_cmp_total}
use Rattle.std.specs.FinMap.{get, insert, from_entries, nat_cmp-IsAntisymmetric}
use Rattle.ebpf_base.proofs.Maps.{get-view, one_set, where_some}
use Rattle.ebpf_base.proofs.by_number.ByNumber.get_mut.Goals as goal

pub returns : goal.returns
returns g c = (
  (
    refl,
    λ w. where_some c.get_mut.result _ c.get_mut.ensures.value (λ some. one_set nat_cmp_total nat_cmp-IsAntisymmetric _ _ c.args.key w ((c.get_mut.follows.holds w).3 some).0 ∙ ap (λ m. insert m c.args.key w) c.self.view_is),
    ap (λ m. from_entries m.entries) c.get_mut.follows.holds-at-none ∙ c.self.view_is,
  ),
  record { writes_back = tt; value = c.get_mut.ensures.value ∙ sym (get-view nat_cmp_total _ c.args.key) ∙ ap (λ m. get m c.args.key) c.self.view_is },
)
