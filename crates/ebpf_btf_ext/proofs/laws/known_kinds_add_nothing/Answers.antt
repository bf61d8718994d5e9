use Rattle.ebpf_btf_ext.proofs.KnownKinds.{known_kinds_add_nothing}
use Rattle.ebpf_btf_ext.proofs.laws.known_kinds_add_nothing.Goals as goal

pub returns : goal.returns
returns c = known_kinds_add_nothing
