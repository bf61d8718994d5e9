use Rattle.std.proofs.Common.{◌≡◌, ◌++◌}
use Rattle.std.specs.List.{filter_map}
use Rattle.ebpf_chosen_programs.specs.PrivateContracts.{program_numbers}
use Rattle.ebpf_chosen_programs.specs.Reached.{program_key}
use Rattle.ebpf_reloc.specs.PrivateContracts.{number_of_key}
use Rattle.ebpf_chosen_programs.proofs.keys.program_numbers.Given as goal

-- with the numbers of the programs that are left, all are there
abbrev pub invariant-loop-program : goal.invariant-loop-program
invariant-loop-program l = l.numbers.items ++ filter_map (λ p. number_of_key l.keys (program_key p)) l.program-iterator ≡ program_numbers l.fn.keys l.fn.programs
