use Rattle.std.proofs.Common.{◌+◌, ◌-◌, ◌<◌, ◌++◌, length, map, ap, ◌∙◌}
use Rattle.std.proofs.lemmas.List.{get_or_default}
use Rattle.std.specs.List.{range_with_len}
use Rattle.ebpf_sections.specs.Records.{slot_at}
use Rattle.ebpf_sections.proofs.Records.{indices_more}
use Rattle.ebpf_sections.proofs.info_records.slot_indices.Goals as goal

pub loop-index-preserved : goal.loop-index-preserved
loop-index-preserved g c =
    let rows = c.args.records.now in
    let slot = slot_at g.R.NamesSlot.slot_of g.R.InfoRecord.zero rows in
    let i = c.loop-index.index in
    let below : i < length rows = c.loop-index-test.true in
    ap (λ l. l ++ map (λ k. record { slot = slot k; index = k }) (range_with_len (i + 1) (length rows - (i + 1)))) c.in_ok-push.ensures.items
    ∙ indices_more slot c.loop-index.indices.items (length rows) i _ below (ap (λ n. record { slot = n; index = i }) (c.slot-slot.ensures ∙ ap g.R.NamesSlot.slot_of (c.index-records-index.is ∙ get_or_default rows i _ _ below)))
    ∙ c.loop-index.invariant
