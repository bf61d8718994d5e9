use Rattle.std.proofs.Common.{◌≡◌, length, ap, arith}
use Rattle.ebpf_core.proofs.Searching.{none_cached}
use Rattle.ebpf_core.proofs.search.CoreSearch.new.Goals as goal

pub invariant_of-result : goal.invariant_of-result
invariant_of-result c =
    let none : length c.new.result.items ≡ 0 = ap length c.new.ensures.items in
    (λ k d inside. absurd (omega arith), none_cached _ c.new-2.result c.new-2.ensures.empty)
