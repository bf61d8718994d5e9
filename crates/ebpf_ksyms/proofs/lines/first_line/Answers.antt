use Rattle.std.proofs.Common.{sym, ◌∙◌}
use Rattle.ebpf_ksyms.proofs.Reading.{line_before, one_line}
use Rattle.ebpf_ksyms.proofs.lines.first_line.Goals as goal

pub returns-in-Some : goal.returns-in-Some
returns-in-Some c = rw c.without_return.ensures (line_before c.args.text.now c.in-Some.end (sym c.line_end.ensures.place ∙ c.in-Some.is))

pub returns-in-None-2 : goal.returns-in-None-2
returns-in-None-2 c = one_line c.args.text.now (sym c.line_end.ensures.place ∙ c.in-None.is) (sym c.is_empty.ensures ∙ c.if-is_empty.false)
