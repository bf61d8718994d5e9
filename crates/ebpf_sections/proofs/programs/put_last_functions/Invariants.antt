use Rattle.std.proofs.Common.{◌≡◌, drop, map}
use Rattle.ebpf_base.specs.Maps.{put_all}
use Rattle.ebpf_sections.specs.Programs.{with_key, program_functions, programs_fault}
use Rattle.ebpf_sections.proofs.Lasts.{ProgramLasts}
use Rattle.ebpf_sections.proofs.programs.put_last_functions.Given as goal

-- what is left to do from here is what was to do from the start
abbrev pub invariant-loop-symbol : goal.invariant-loop-symbol
invariant-loop-symbol l = record {
  lasts : ProgramLasts l.last (drop l.symbol-index l.symbols);
  put : put_all l.functions (map with_key (program_functions l.records l.section (drop l.symbol-index l.symbols))) ≡ put_all l.fn.functions (map with_key (program_functions l.records l.section l.symbols));
  fault : programs_fault l.section (drop l.symbol-index l.symbols) ≡ programs_fault l.section l.symbols;
}
