use Rattle.std.proofs.Common.{◌≡◌, ◌+◌, subst}
use Rattle.ebpf_parsing.specs.Records.{RowsBeginAt}
use Rattle.ebpf_parsing.proofs.InOrder.{in_order}
use Rattle.ebpf_limits.proofs.Counts.{between, count_between}
use Rattle.ebpf_limits.proofs.facts.count_among.Goals as goal

pub lower_bound-start-requires : goal.lower_bound-start-requires
lower_bound-start-requires g c = in_order g.R.NamesSlot.slot_of 0 c.args.rows.now c.requires

pub lower_bound-end-requires : goal.lower_bound-end-requires
lower_bound-end-requires g c = in_order g.R.NamesSlot.slot_of 0 c.args.rows.now c.requires

pub overflow_sub-result : goal.overflow_sub-result
overflow_sub-result g c =
    let low : RowsBeginAt g.R.NamesSlot.slot_of c.args.first c.args.rows.now c.lower_bound-start.result = subst (λ n. RowsBeginAt g.R.NamesSlot.slot_of n c.args.rows.now c.lower_bound-start.result) c.from.ensures c.lower_bound-start.ensures.cut in
    let ends : c.from-2.result + c.from-3.result ≡ c.args.first + c.args.count = (λ i. c.from-2.ensures i + c.from-3.ensures i) in
    let high : RowsBeginAt g.R.NamesSlot.slot_of (c.args.first + c.args.count) c.args.rows.now c.lower_bound-end.result = subst (λ n. RowsBeginAt g.R.NamesSlot.slot_of n c.args.rows.now c.lower_bound-end.result) ends c.lower_bound-end.ensures.cut in
    between g.R.NamesSlot.slot_of c.args.first c.args.count c.args.rows.now c.lower_bound-start.result c.lower_bound-end.result
    low high c.lower_bound-start.ensures.within c.lower_bound-end.ensures.within

pub returns : goal.returns
returns g c =
    let low : RowsBeginAt g.R.NamesSlot.slot_of c.args.first c.args.rows.now c.lower_bound-start.result = subst (λ n. RowsBeginAt g.R.NamesSlot.slot_of n c.args.rows.now c.lower_bound-start.result) c.from.ensures c.lower_bound-start.ensures.cut in
    let ends : c.from-2.result + c.from-3.result ≡ c.args.first + c.args.count = (λ i. c.from-2.ensures i + c.from-3.ensures i) in
    let high : RowsBeginAt g.R.NamesSlot.slot_of (c.args.first + c.args.count) c.args.rows.now c.lower_bound-end.result = subst (λ n. RowsBeginAt g.R.NamesSlot.slot_of n c.args.rows.now c.lower_bound-end.result) ends c.lower_bound-end.ensures.cut in
    count_between g.R.NamesSlot.slot_of c.args.first c.args.count c.args.rows.now c.lower_bound-start.result c.lower_bound-end.result
    low high c.lower_bound-start.ensures.within c.lower_bound-end.ensures.within
