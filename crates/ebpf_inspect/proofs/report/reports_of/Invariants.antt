use Rattle.std.proofs.Common.{take}
use Rattle.std.specs.List.{AllZip}
use Rattle.ebpf_inspect.specs.Named.{IsProgramReport}
use Rattle.ebpf_reloc.specs.SlotTargets.{read}
use Rattle.ebpf_inspect.proofs.report.reports_of.Given as goal

-- the reports of the programs so far
abbrev pub invariant-loop-program : goal.invariant-loop-program
invariant-loop-program l = AllZip (IsProgramReport (read l.functions.parts)) (take l.program-index l.programs) l.reports.items
