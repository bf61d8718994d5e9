use Rattle.ebpf_reloc.proofs.OneResult as one
use Rattle.ebpf_reloc.proofs.laws.plain_slots_stay.Goals as goal

pub returns-clause-own : goal.returns-clause-own
returns-clause-own c = one.own_slots_stay

pub returns-clause-copied : goal.returns-clause-copied
returns-clause-copied c = one.copied_slots_stay
