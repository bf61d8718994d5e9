use Rattle.std.proofs.Common.{◌≡◌, ◌++◌, [], drop}
use Rattle.ebpf_linker.specs.Copies.{Fit}
use Rattle.ebpf_linker.specs.Numbered.{functions_by_number}
use Rattle.ebpf_linker.specs.Result.{func_records, linked_func_info}
use Rattle.ebpf_linker.proofs.records.func_records.Given as goal

abbrev pub invariant-loop-copy : goal.invariant-loop-copy
invariant-loop-copy l = record {
  whole : l.out.items ++ func_records (functions_by_number l.bodies []) l.base (drop l.copy-index l.copies) ≡ linked_func_info (functions_by_number l.bodies []) l.start l.copies;
  fit : Fit l.bodies l.base (drop l.copy-index l.copies);
}
