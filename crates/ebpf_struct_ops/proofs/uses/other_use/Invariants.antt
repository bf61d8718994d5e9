use Rattle.std.proofs.Common.{◌≡◌, drop}
use Rattle.ebpf_struct_ops.specs.Uses.{other_use}
use Rattle.ebpf_struct_ops.proofs.uses.other_use.Given as goal

-- the programs that are left have the use that all have
abbrev pub invariant-loop-program : goal.invariant-loop-program
invariant-loop-program l = other_use l.maps l.struct_id (drop l.program-index l.programs) ≡ other_use l.maps l.struct_id l.programs
