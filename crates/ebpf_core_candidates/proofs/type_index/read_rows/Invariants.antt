use Rattle.std.proofs.Common.{◌≡◌, ◌++◌, drop, length, None, [], true}
use Rattle.std.specs.Prelude.{slice_index_or}
use Rattle.ebpf_base.specs.Faults.{or_else}
use Rattle.ebpf_btf.specs.declared.kind.BtfKind.{BtfKind}
use Rattle.ebpf_core_candidates.specs.Candidates.{candidates, has_kind}
use Rattle.ebpf_core_candidates.specs.TypeRows.{rows, type_rows_from, unreadable_from}
use Rattle.ebpf_btf.specs.Types.{kind_number}
use Rattle.ebpf_core_candidates.proofs.Unnamed.{anonymous_from}
use Rattle.ebpf_core_candidates.proofs.type_index.read_rows.Given as goal

abbrev pub invariant-loop-id : goal.invariant-loop-id
invariant-loop-id l = record {
  rows : l.rows.items ++ type_rows_from l.kinds l.marks l.names l.id (drop l.id l.names.types) ≡ rows l.kinds l.marks l.names;
  without : (kind : BtfKind) → has_kind l.kinds kind ≡ true → slice_index_or l.anonymous.items (kind_number kind) [] ++ anonymous_from l.names kind l.id (drop l.id l.names.types) ≡ candidates l.names kind [];
  unread : (kind : BtfKind) → has_kind l.kinds kind ≡ true → or_else (slice_index_or l.unreadable (kind_number kind) None) (unreadable_from l.names kind l.id (drop l.id l.names.types)) ≡ unreadable_from l.names kind 0 l.names.types;
  kinds : (length l.anonymous.items ≡ 20) × (length l.unreadable ≡ 20);
}
