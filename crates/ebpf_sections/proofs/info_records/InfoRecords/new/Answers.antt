use Rattle.std.proofs.Common.{sym, ◌∙◌}
use Rattle.ebpf_sections.proofs.InOrder.{in_order}
use Rattle.ebpf_sections.proofs.info_records.InfoRecords.new.Goals as goal

pub invariant_of-result : goal.invariant_of-result
invariant_of-result g c = (λ none. in_order g.R.NamesSlot.slot_of 0 c.args.records.now (sym c.is_in_order.ensures ∙ c.if-is_in_order.true), (λ gathered same q. absurd (cc), tt))
