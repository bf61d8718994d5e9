use Rattle.ebpf_core_candidates.proofs.marks.no_name.Goals as goal

pub returns : goal.returns
returns c = c.in_ok-vec.ensures.items_if_clones_equal (λ y same. same)
