use Rattle.std.proofs.Common.{◌≡◌, get_or, ap, sym, ◌∙◌, arith}
use Rattle.std.proofs.lemmas.List.{get_or_default}
use Rattle.ebpf_sections.proofs.InOrder.{begin_behind}
use Rattle.ebpf_sections.proofs.info_records.end_of.Goals as goal

pub returns-else-from-limit-clause-cut : goal.returns-else-from-limit-clause-cut
returns-else-from-limit-clause-cut g c =
    let slot_of = g.R.NamesSlot.slot_of in
    let rows = c.args.rows.now in
    let x = c.index-rows-end.result in
    begin_behind slot_of c.args.limit rows c.loop-end.«end» c.requires.rising c.loop-end.invariant.below (λ d below.
    let here : slot_of (get_or rows c.loop-end.«end» d) ≡ slot_of x = ap slot_of (get_or_default rows c.loop-end.«end» d x below ∙ sym c.index-rows-end.is) in
    omega (arith, here, c.slot.ensures, c.from.ensures, c.if-from-limit.false))
