use Rattle.ebpf_core.specs.Places.{PathLeads}
use Rattle.ebpf_core.proofs.PlacePaths.{aside, path_leads}
use Rattle.ebpf_core.proofs.place_walk.place_in.Goals as goal

pub returns-clause-leads : goal.returns-clause-leads
returns-clause-leads c =
    aside (PathLeads c.args.local.now c.args.target.now c.args.root_type c.args.path.now) _ _ c.place.ensures
    (path_leads c.args.local.now c.args.target.now c.args.root_type c.args.path.now)
