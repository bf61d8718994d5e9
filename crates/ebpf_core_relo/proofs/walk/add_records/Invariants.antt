use Rattle.std.proofs.Common.{◌≡◌, ◌++◌, map, drop, true}
use Rattle.ebpf_core_relo.specs.PrivateContracts.{found_number, part_applied}
use Rattle.ebpf_core_relo.specs.RecordOutcomes.{named_in, outcomes_from, slots_left, outcome_without_texts}
use Rattle.ebpf_core_relo.specs.SpanInputs.{inputs_of}
use Rattle.ebpf_core_relo.proofs.walk.add_records.Given as goal

-- with those that are left the records come to what all come to
abbrev pub invariant-loop-relocation : goal.invariant-loop-relocation
invariant-loop-relocation l =
    let inputs = inputs_of l.fn.search l.walk.function_spans.now in
    record {
      search : l.search ≡ l.fn.search;
      records : l.walk.lists ≡ true
          → map outcome_without_texts l.outcomes.records ++ outcomes_from inputs l.outcomes.written (named_in l.section.name (drop l.relocation-index l.relocations))
          ≡ map outcome_without_texts l.fn.outcomes.records ++ outcomes_from inputs l.fn.outcomes.written (named_in l.section.name l.relocations);
      written : slots_left inputs l.outcomes.written (named_in l.section.name (drop l.relocation-index l.relocations))
          ≡ slots_left inputs l.fn.outcomes.written (named_in l.section.name l.relocations);
      applied : l.walk.stops ≡ true
          → part_applied inputs (found_number l.section.found) (drop l.relocation-index l.relocations) l.outcomes.written
          ≡ part_applied inputs (found_number l.section.found) l.relocations l.fn.outcomes.written;
    }
