use Rattle.ebpf_parts.specs.ProgramTypes.{program_kind}
use Rattle.ebpf_parts.proofs.programs.kind.program_kind.Goals as goal

pub returns : goal.returns
unfolding program_kind
returns c = rw c.as_bytes.ensures.value at c.kind_in.ensures
