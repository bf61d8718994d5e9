use Rattle.ebpf_core.specs.LocalPaths.{LocalSideIs}
use Rattle.ebpf_core.proofs.LocalSides.{side_is}
use Rattle.ebpf_core.proofs.Refusals.{without_texts_so}
use Rattle.ebpf_core.proofs.paths.local_path.Goals as goal

pub returns-clause-side : goal.returns-clause-side
returns-clause-side c =
    without_texts_so (LocalSideIs c.args.local.now c.args.relocation.now) _ _ c.local_side.ensures (side_is c.args.local.now c.args.relocation.now)
