use Rattle.std.proofs.Common.{◌≤◌, length}
use Rattle.ebpf_btf.proofs.ReadableOffsets.{NoneFrom}
use Rattle.ebpf_btf.proofs.readable.readable_below.Given as goal

abbrev pub invariant-loop-end : goal.invariant-loop-end
invariant-loop-end l = (l.«end» ≤ length l.strings) × NoneFrom l.strings l.«end»

abbrev pub decreases-loop-end : goal.decreases-loop-end
decreases-loop-end l = l.«end»
