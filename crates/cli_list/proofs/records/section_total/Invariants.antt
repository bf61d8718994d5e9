use Rattle.cli_list.proofs.Counted.{Totals}
use Rattle.cli_list.proofs.records.section_total.Given as goal

-- with the records of the sections that are left it is the number of all
abbrev pub invariant-loop-section : goal.invariant-loop-section
invariant-loop-section l = Totals l.sections l.section-index l.total
