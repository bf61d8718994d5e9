use Rattle.std.proofs.Common.{◌≡◌, drop}
use Rattle.std.specs.List.{flat_map}
use Rattle.ebpf_base.specs.Maps.{put_all}
use Rattle.ebpf_sections.specs.Programs.{program_symbol_row, last_programs}
use Rattle.ebpf_sections.proofs.programs.last_programs.Given as goal

-- what is left to do from here is what was to do from the start
abbrev pub invariant-loop-symbol : goal.invariant-loop-symbol
invariant-loop-symbol l = put_all l.last (flat_map program_symbol_row (drop l.symbol-index l.symbols)) ≡ last_programs l.symbols
