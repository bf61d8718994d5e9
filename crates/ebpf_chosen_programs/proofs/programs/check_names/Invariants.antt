use Rattle.std.proofs.Common.{◌≡◌, drop}
use Rattle.ebpf_base.specs.Faults.{first_some}
use Rattle.ebpf_base.specs.Maps.{lent_bytes}
use Rattle.ebpf_chosen_programs.specs.LeavingOut.{leave_out_fault, unknown_program}
use Rattle.ebpf_chosen_programs.proofs.programs.check_names.Given as goal

-- the names that are left have the fault that all had
abbrev pub invariant-loop-name : goal.invariant-loop-name
invariant-loop-name l = first_some (unknown_program l.programs) (lent_bytes (drop l.name-index l.names)) ≡ leave_out_fault (lent_bytes l.fn.names) l.fn.programs
