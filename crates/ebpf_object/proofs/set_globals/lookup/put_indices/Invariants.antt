use Rattle.std.proofs.Common.{◌≡◌, drop}
use Rattle.std.specs.FinMap.{get}
use Rattle.std.specs.List.{flat_map}
use Rattle.ebpf_base.specs.Maps.{put_all}
use Rattle.ebpf_object.specs.Patches.{named_at}
use Rattle.ebpf_object.proofs.set_globals.lookup.put_indices.Given as goal

-- what is left to put from here is what was to put from the start
abbrev pub invariant-loop-index : goal.invariant-loop-index
invariant-loop-index l =
    put_all l.numbers (flat_map (λ number. named_at number (get l.symbols number)) (drop l.index-index l.indices))
    ≡ put_all l.fn.numbers (flat_map (λ number. named_at number (get l.symbols number)) l.indices)
