use Rattle.std.proofs.Common.{◌≡◌, ℕ}
use Rattle.std.specs.FinMap.{get, find}
use Rattle.std.specs.List.Sorted.{IsStrictlySortedBy}
use Rattle.std.specs.Map.{keys_of}
use Rattle.ebpf_base.specs.Maps.{key_cmp}
use Rattle.ebpf_core_relo.specs.Records.{with_slots}
use Rattle.ebpf_core_relo.proofs.relocate.put_slots.Given as goal

-- with the slots that are left in their places, all are
abbrev pub invariant-loop-key : goal.invariant-loop-key
invariant-loop-key l = record {
  sorted : IsStrictlySortedBy key_cmp (keys_of l.key-iterator);
  function_spans : (q : ℕ × ℕ) → with_slots (find key_cmp q l.key-iterator) (get l.functions q) ≡ with_slots (get l.fn.written q) (get l.fn.functions q);
}
