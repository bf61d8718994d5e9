use Rattle.std.proofs.Common.{◌≡◌, ◌-◌, ◌≤◌, length}
use Rattle.ebpf_btf.specs.Offsets.{types_here, AreOffsets}
use Rattle.ebpf_btf.specs.Reading.{types_from, types_of, prepend_types}
use Rattle.ebpf_btf.proofs.parse.read_offsets.Given as goal

abbrev pub invariant-loop-offset : goal.invariant-loop-offset
invariant-loop-offset l = record {
  within : l.offset ≤ length l.part;
  tiled : AreOffsets l.order l.part 0 l.offset l.offsets.items;
  rest : prepend_types (types_here l.order l.part l.offsets.items) (types_from (length l.part - l.offset) l.order l.part l.offset) ≡ types_of l.order l.part;
}

abbrev pub decreases-loop-offset : goal.decreases-loop-offset
decreases-loop-offset l = length l.part - l.offset
