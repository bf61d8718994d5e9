use Rattle.std.proofs.Common.{◌≡◌, drop}
use Rattle.std.specs.List.{list_any}
use Rattle.ebpf_btf.specs.Words.{has_fallback}
use Rattle.ebpf_btf.proofs.btf.Btf.has_fallback.Given as goal

abbrev pub invariant-loop-id : goal.invariant-loop-id
invariant-loop-id l = list_any has_fallback (drop l.id l.self.types) ≡ list_any has_fallback l.self.types
