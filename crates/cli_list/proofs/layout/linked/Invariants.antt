use Rattle.std.proofs.Common.{◌≡◌, ◌<◌, ◌+◌, ◌-◌, ◌^◌, ◌++◌, drop, map}
use Rattle.std.specs.Prelude.{min}
use Rattle.ebpf_linker.specs.LinkMap.{copied_slot_count}
use Rattle.ebpf_reloc.specs.Laws.{copy_of}
use Rattle.cli_list.proofs.layout.linked.Given as goal

-- with the copies that are left, all are there
abbrev pub invariant-loop-copy : goal.invariant-loop-copy
invariant-loop-copy l = record {
  near : l.slots < 2 ^ 64;
  slots : min (l.slots + copied_slot_count (map copy_of (drop l.copy-index l.copies))) (2 ^ 64 - 1) ≡ min (copied_slot_count (map copy_of l.copies)) (2 ^ 64 - 1);
  functions : l.functions.items ++ map (λ c. c.key) (drop l.copy-index l.copies) ≡ map (λ c. c.key) l.copies;
}
