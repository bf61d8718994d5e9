use Rattle.ebpf_btf_decls.proofs.BothModes.{lenient_declares_as_strict}
use Rattle.ebpf_btf_decls.proofs.laws.lenient_declares_as_strict.Goals as goal

pub returns : goal.returns
returns c = lenient_declares_as_strict
