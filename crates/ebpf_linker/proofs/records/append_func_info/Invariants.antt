use Rattle.std.proofs.Common.{◌≡◌, ◌++◌, map, drop}
use Rattle.ebpf_linker.specs.Result.{func_moved}
use Rattle.ebpf_linker.proofs.records.append_func_info.Given as goal

abbrev pub invariant-loop-record : goal.invariant-loop-record
invariant-loop-record l = l.out.items ++ map (func_moved l.base) (drop l.record-index l.records) ≡ l.fn.out.items ++ map (func_moved l.base) l.records
