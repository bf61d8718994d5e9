use Rattle.std.proofs.Common.{◌≡◌, ◌++◌, map, drop, false}
use Rattle.std.specs.List.{list_any}
use Rattle.ebpf_linker.specs.Faults.{is_stray}
use Rattle.ebpf_linker.specs.Result.{line_moved}
use Rattle.ebpf_linker.proofs.records.append_line_info.Given as goal

abbrev pub invariant-loop-line : goal.invariant-loop-line
invariant-loop-line l = record {
  whole : l.out.items ++ map (line_moved l.first l.base) (drop l.line-index l.lines) ≡ l.fn.out.items ++ map (line_moved l.first l.base) l.lines;
  sound : list_any (is_stray l.first l.base) (drop l.line-index l.lines) ≡ false;
}
