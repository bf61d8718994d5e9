use Rattle.std.proofs.Common.{◌≡◌, drop}
use Rattle.std.specs.FinMap.{get}
use Rattle.std.specs.List.{flat_map}
use Rattle.ebpf_base.specs.Maps.{put_all}
use Rattle.ebpf_kconfig.specs.KconfigExterns.{weak_entry_at}
use Rattle.ebpf_kconfig.proofs.externs.put_weak.Given as goal

-- what is left to put from here is what was to put from the start
abbrev pub invariant-loop-index : goal.invariant-loop-index
invariant-loop-index l =
    put_all l.weak (flat_map (λ index. weak_entry_at (get l.symbols index)) (drop l.index-index l.indices))
    ≡ put_all l.fn.weak (flat_map (λ index. weak_entry_at (get l.symbols index)) l.indices)
