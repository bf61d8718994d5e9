use Rattle.std.proofs.Common.{subst, ap, ◌∙◌}
use Rattle.std.specs.Cmp.{nat_cmp_total}
use Rattle.std.specs.FinMap.{entries, nat_cmp-IsAntisymmetric}
use Rattle.std.specs.List.Sorted.{IsPermutation}
use Rattle.std.specs.Map.{keys_of}
use Rattle.ebpf_base.proofs.Maps.{distinct_numbers, sorted_keys}
use Rattle.ebpf_base.proofs.by_index.ByIndex.indices.Goals as goal

pub returns : goal.returns
returns g c =
    let moved : IsPermutation (keys_of c.self.inside.entries.entries) c.sort_unstable.new.self.items = subst (λ ks. IsPermutation ks c.sort_unstable.new.self.items) c.in_ok-indices.ensures.indices c.sort_unstable.ensures.permutation in
    sorted_keys nat_cmp_total nat_cmp-IsAntisymmetric _ _ (distinct_numbers _ c.in_ok-indices.ensures.distinct) moved c.sort_unstable.ensures.sorted
    ∙ ap (λ m. keys_of (entries m)) c.self.view_is
