use Rattle.std.proofs.Common.{ℕ, ◌<◌, List, All, map, filter, length, get_or, ap, sym, subst, ◌∙◌}
use Rattle.ebpf_sections.specs.Records.{is_among_slots}
use Rattle.ebpf_sections.proofs.Records.{records_found, records_inside}
use Rattle.ebpf_sections.proofs.info_records.InfoRecords.records_among.Goals as goal

pub rebase_at-requires : goal.rebase_at-requires
rebase_at-requires g c =
    let rows = c.self.inside.records.now in
    subst (λ (l : List ℕ). All (λ i. i < length rows) l) (sym c.deref.ensures.value)
    (records_inside g.R.NamesSlot.slot_of g.R.InfoRecord.zero c.args.first c.args.count rows c.in-Some.indices c.in_ok-indices.indices.items
    (c.self.inside.grouped c.in-Some.indices c.in-Some.is) c.in_ok-indices.ensures.moved c.in_ok-indices.ensures.sorted)

pub returns-clause-records : goal.returns-clause-records
returns-clause-records g c =
    let slot_of = g.R.NamesSlot.slot_of in
    let from = g.R.InfoRecord.rebase c.args.base in
    let rows = c.self.inside.records.now in
    c.in_ok-kept.ensures.records
    ∙ ap (map (λ i. from (get_or rows i g.R.InfoRecord.zero))) c.deref.ensures.value
    ∙ records_found slot_of g.R.InfoRecord.zero c.args.first c.args.count rows c.in-Some.indices c.in_ok-indices.indices.items from
    (c.self.inside.grouped c.in-Some.indices c.in-Some.is) c.in_ok-indices.ensures.moved c.in_ok-indices.ensures.sorted
    ∙ ap (λ l. map from (filter (is_among_slots slot_of c.args.first c.args.count) l)) c.self.view_is
