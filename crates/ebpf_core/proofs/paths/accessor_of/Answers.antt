use Rattle.std.proofs.Common.{◌∙◌}
use Rattle.ebpf_core.proofs.LocalSides.{part_read}
use Rattle.ebpf_core.proofs.paths.accessor_of.Goals as goal

pub returns : goal.returns
returns c = c.ok.ensures.value ∙ part_read _ _ c.parse.ensures.value.0
