use Rattle.ebpf_core_relo.proofs.FurthestOnes.{comes_furthest, nothing_leads}
use Rattle.ebpf_core_relo.proofs.laws.furthest_leads_furthest.Goals as goal

pub returns-clause-furthest : goal.returns-clause-furthest
returns-clause-furthest c = comes_furthest

pub returns-clause-nowhere : goal.returns-clause-nowhere
returns-clause-nowhere c = nothing_leads
