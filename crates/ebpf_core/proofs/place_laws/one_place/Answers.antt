use Rattle.std.proofs.Common.{sym}
use Rattle.ebpf_core.proofs.PlacePaths.{one_place, path_leads}
use Rattle.ebpf_core.proofs.place_laws.one_place.Goals as goal

pub returns-clause-leads : goal.returns-clause-leads
returns-clause-leads c = λ local target root path. path_leads local target root path

pub returns-clause-alone : goal.returns-clause-alone
returns-clause-alone c = λ local target root path a leads. sym (one_place local target leads)
