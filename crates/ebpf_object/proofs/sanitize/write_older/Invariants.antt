use Rattle.std.proofs.Common.{◌≡◌, ◌++◌, map, take, drop}
use Rattle.ebpf_object.specs.OlderHelpers.{older}
use Rattle.ebpf_object.proofs.sanitize.write_older.Given as goal

abbrev pub invariant-loop-slot : goal.invariant-loop-slot
invariant-loop-slot l = l.slots ≡ map older (take l.slot-index l.fn.slots) ++ drop l.slot-index l.fn.slots
