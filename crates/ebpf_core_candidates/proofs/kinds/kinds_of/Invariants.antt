use Rattle.std.proofs.Common.{◌≡◌, drop, length}
use Rattle.std.specs.Prelude.{◌||◌}
use Rattle.ebpf_btf.specs.declared.kind.BtfKind.{BtfKind}
use Rattle.ebpf_core_candidates.specs.Candidates.{has_kind, is_among_kinds}
use Rattle.ebpf_core_candidates.proofs.kinds.kinds_of.Given as goal

abbrev pub invariant-loop-kind : goal.invariant-loop-kind
invariant-loop-kind l = record {
  few : length l.kinds ≡ 20;
  listed : (kind : BtfKind) → (has_kind l.kinds kind || is_among_kinds (drop l.kind-index l.list) kind) ≡ is_among_kinds l.list kind;
}
