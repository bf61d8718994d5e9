use Rattle.std.proofs.Common.{◌≡◌, ◌+◌, ◌*◌, ◌++◌, ◌≤◌, length}
use Rattle.ebpf_btf_load.specs.KsymsSections.{ksyms_rows}
use Rattle.ebpf_btf_load.proofs.ksyms.ksyms_rows.Given as goal

-- the entries so far, and those that are left, are all
abbrev pub invariant-loop-row : goal.invariant-loop-row
invariant-loop-row l = record {
  near : l.offset + 4 * length l.row-iterator ≤ 4 * length l.rows;
  count : length l.all.items + length l.row-iterator ≡ length l.rows;
  rows : l.all.items ++ ksyms_rows l.types l.standins l.offset l.row-iterator ≡ ksyms_rows l.types l.standins 0 l.rows;
}
