use Rattle.std.proofs.Common.{◌≡◌}
use Rattle.ebpf_core.proofs.paths.pieces_of.Given as goal

abbrev pub invariant-loop-piece : goal.invariant-loop-piece
invariant-loop-piece l = l.pieces.items ≡ l.yielded
