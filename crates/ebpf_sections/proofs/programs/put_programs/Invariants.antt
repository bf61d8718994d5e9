use Rattle.std.proofs.Common.{◌≡◌, drop, Some}
use Rattle.ebpf_base.specs.Maps.{put_all}
use Rattle.ebpf_sections.specs.Programs.{programs_of}
use Rattle.ebpf_sections.proofs.programs.put_programs.Given as goal

-- what is left to do from here is what was to do from the start
abbrev pub invariant-loop-symbol : goal.invariant-loop-symbol
invariant-loop-symbol l = put_all l.programs (programs_of l.metadata.license l.metadata.kernel_version l.section (drop l.symbol-index l.symbols) (Some l.kind)) ≡ put_all l.fn.programs (programs_of l.metadata.license l.metadata.kernel_version l.section l.symbols (Some l.kind))
