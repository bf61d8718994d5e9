use Rattle.std.proofs.Common.{◌≡◌, [], drop}
use Rattle.ebpf_linker.specs.Numbered.{functions_by_number}
use Rattle.ebpf_linker.specs.Result.{has_lines}
use Rattle.ebpf_linker.proofs.records.has_lines.Given as goal

abbrev pub invariant-loop-copy : goal.invariant-loop-copy
invariant-loop-copy l = has_lines (functions_by_number l.bodies []) (drop l.copy-index l.copies) ≡ has_lines (functions_by_number l.bodies []) l.copies
