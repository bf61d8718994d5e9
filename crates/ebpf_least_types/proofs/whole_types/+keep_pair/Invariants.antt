use Rattle.ebpf_least_types.proofs.whole_types.+keep_pair.Given as goal

abbrev pub decreases-keep_pair : goal.decreases-keep_pair
decreases-keep_pair l = l.levels
