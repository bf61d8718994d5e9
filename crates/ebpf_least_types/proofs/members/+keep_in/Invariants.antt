use Rattle.ebpf_least_types.proofs.members.+keep_in.Given as goal

abbrev pub decreases-keep_in : goal.decreases-keep_in
decreases-keep_in l = l.levels
