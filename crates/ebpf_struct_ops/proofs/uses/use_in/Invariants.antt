use Rattle.std.proofs.Common.{◌≡◌, drop}
use Rattle.ebpf_struct_ops.specs.Uses.{use_in}
use Rattle.ebpf_struct_ops.proofs.uses.use_in.Given as goal

-- the programs that are left have the use that all have
abbrev pub invariant-loop-program : goal.invariant-loop-program
invariant-loop-program l = use_in l.name l.struct_id (drop l.program-index l.programs) ≡ use_in l.name l.struct_id l.programs
