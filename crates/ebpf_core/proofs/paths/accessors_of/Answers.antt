use Rattle.ebpf_core.proofs.LocalSides.{parts_listed}
use Rattle.ebpf_core.proofs.paths.accessors_of.Goals as goal

pub returns : goal.returns
returns c = parts_listed _ _ _ _ c.in_ok-pieces.ensures c.as_slice.ensures.value c.all_parts.ensures
