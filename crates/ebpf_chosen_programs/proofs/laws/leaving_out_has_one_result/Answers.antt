use Rattle.ebpf_chosen_programs.proofs.LeftOut as left
use Rattle.ebpf_chosen_programs.proofs.laws.leaving_out_has_one_result.Goals as goal

pub returns : goal.returns
returns c = left.one_left
