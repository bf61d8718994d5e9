use Rattle.std.proofs.Common.{◌≡◌, ◌++◌, ◌-◌, length, map}
use Rattle.std.specs.List.{range_with_len}
use Rattle.ebpf_sections.specs.Records.{slot_at, indices_with}
use Rattle.ebpf_sections.proofs.info_records.slot_indices.Given as goal

-- what is left to do from here is what was to do from the start
abbrev pub invariant-loop-index : goal.invariant-loop-index
invariant-loop-index g l =
    let slot = slot_at g.R.NamesSlot.slot_of g.R.InfoRecord.zero l.records in
    l.indices.items ++ map (λ k. record { slot = slot k; index = k }) (range_with_len l.index (length l.records - l.index)) ≡ indices_with slot (length l.records)
