use Rattle.std.proofs.Common.{◌≡◌, ◌++◌}
use Rattle.ebpf_kconfig.specs.KconfigExterns.{externs_fault_in, externs_in}
use Rattle.ebpf_kconfig.proofs.externs.externs_in.Given as goal

-- the externs so far, and those of the entries that are left, are those of all
abbrev pub invariant-loop-row : goal.invariant-loop-row
invariant-loop-row l = record {
  externs : l.externs ++ externs_in l.types l.weak l.row-iterator ≡ externs_in l.types l.weak l.rows;
  fault : externs_fault_in l.types l.weak l.row-iterator ≡ externs_fault_in l.types l.weak l.rows;
}
