use Rattle.ebpf_core_candidates.proofs.CandidateLaws.{candidates_are_of_either, candidates_are_of_kind, candidates_increase, candidates_of_both_increase}
use Rattle.ebpf_core_candidates.proofs.laws.candidates_are_types.Goals as goal

pub returns-clause-of_kind : goal.returns-clause-of_kind
returns-clause-of_kind c = candidates_are_of_kind

pub returns-clause-increasing : goal.returns-clause-increasing
returns-clause-increasing c = candidates_increase

pub returns-clause-of_either : goal.returns-clause-of_either
returns-clause-of_either c = candidates_are_of_either

pub returns-clause-both_increasing : goal.returns-clause-both_increasing
returns-clause-both_increasing c = candidates_of_both_increase
