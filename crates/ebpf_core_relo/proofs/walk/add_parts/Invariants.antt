use Rattle.std.proofs.Common.{◌≡◌, ◌++◌, map, drop, true}
use Rattle.ebpf_core_relo.specs.RecordOutcomes.{named_records, outcomes_from, slots_left, outcome_without_texts}
use Rattle.ebpf_core_relo.specs.Records.{all_applied}
use Rattle.ebpf_core_relo.specs.SpanInputs.{inputs_of}
use Rattle.ebpf_core_relo.proofs.walk.add_parts.Given as goal

-- with those of the sections that are left the records come to what all come to
abbrev pub invariant-loop-part : goal.invariant-loop-part
invariant-loop-part l =
    let inputs = inputs_of l.fn.search l.walk.function_spans.now in
    record {
      search : l.search ≡ l.fn.search;
      records : l.walk.lists ≡ true
          → map outcome_without_texts l.outcomes.records ++ outcomes_from inputs l.outcomes.written (named_records (drop l.part-index l.parts))
          ≡ map outcome_without_texts l.fn.outcomes.records ++ outcomes_from inputs l.fn.outcomes.written (named_records l.parts);
      written : slots_left inputs l.outcomes.written (named_records (drop l.part-index l.parts))
          ≡ slots_left inputs l.fn.outcomes.written (named_records l.parts);
      applied : l.walk.stops ≡ true
          → all_applied inputs (drop l.part-index l.parts) l.outcomes.written ≡ all_applied inputs l.parts l.fn.outcomes.written;
    }
