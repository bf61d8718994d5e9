use Rattle.std.proofs.Common.{◌≡◌}
use Rattle.std.specs.FinMap.{get, find}
use Rattle.std.specs.List.Sorted.{IsStrictlySortedBy}
use Rattle.std.specs.Map.{keys_of}
use Rattle.ebpf_base.specs.Maps.{key_cmp}
use Rattle.ebpf_object.specs.LinkedPrograms.{replaced}
use Rattle.ebpf_model.specs.Symbols.{FunctionKey}
use Rattle.ebpf_object.proofs.relocate_calls.take_places.Given as goal

-- with the functions that are left in their places, all are
abbrev pub invariant-loop-key : goal.invariant-loop-key
invariant-loop-key l = record {
  sorted : IsStrictlySortedBy key_cmp (keys_of l.key-iterator);
  places : (q : FunctionKey) → replaced (get l.functions q) (find key_cmp q l.key-iterator) ≡ replaced (get l.fn.functions q) (get l.fn.linked q);
}
