use Rattle.std.proofs.Common.{◌≡◌, map}
use Rattle.std.specs.List.{range_with_len}
use Rattle.ebpf_struct_ops.specs.Values.{byte_at}
use Rattle.ebpf_struct_ops.proofs.value.value_bytes.Given as goal

-- the bytes before the offset are there
abbrev pub invariant-loop-offset : goal.invariant-loop-offset
invariant-loop-offset l = l.value ≡ map (byte_at l.bytes l.placements) (range_with_len 0 l.offset)
