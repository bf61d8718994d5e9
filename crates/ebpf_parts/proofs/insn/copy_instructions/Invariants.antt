use Rattle.std.proofs.Common.{◌≡◌, ◌*◌, map}
use Rattle.std.specs.List.{range_with_len}
use Rattle.ebpf_parts.specs.Slots.{slot_at}
use Rattle.ebpf_parts.proofs.insn.copy_instructions.Given as goal

abbrev pub invariant-loop-k : goal.invariant-loop-k
invariant-loop-k l = l.slots.items ≡ map (λ k. slot_at l.bytes (8 * k)) (range_with_len 0 l.k)
