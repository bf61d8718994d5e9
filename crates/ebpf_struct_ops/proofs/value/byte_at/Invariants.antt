use Rattle.std.proofs.Common.{◌≡◌, drop}
use Rattle.std.specs.Prelude.{fold}
use Rattle.ebpf_struct_ops.specs.Values.{byte_after, byte_at}
use Rattle.ebpf_struct_ops.proofs.value.byte_at.Given as goal

-- with the placements that are left, the byte is that of all
abbrev pub invariant-loop-placement : goal.invariant-loop-placement
invariant-loop-placement l = fold (byte_after l.bytes l.offset) l.byte (drop l.placement-index l.placements) ≡ byte_at l.bytes l.placements l.offset
