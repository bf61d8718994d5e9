use Rattle.ebpf_parts.proofs.Slots as words
use Rattle.ebpf_parts.proofs.laws.slots_are_bytes.Goals as goal

pub returns-clause-one : goal.returns-clause-one
returns-clause-one c = words.slot_is_bytes

pub returns-clause-concatenated : goal.returns-clause-concatenated
returns-clause-concatenated c = words.slots_are_bytes
