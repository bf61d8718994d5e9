use Rattle.std.specs.Prelude.{option_map}
use Rattle.ebpf_btf.specs.EssentialNames.{essential_name}
use Rattle.ebpf_btf.specs.Strings.{before_zero}
use Rattle.ebpf_core_candidates.proofs.Names.{IsScanned}
use Rattle.ebpf_core_candidates.proofs.type_names.essential_before_zero.Given as goal

abbrev pub invariant-loop-index : goal.invariant-loop-index
invariant-loop-index l = IsScanned l.bytes l.index l.marks (option_map essential_name (before_zero l.bytes))
