use Rattle.std.proofs.Common.{◌≡◌, ◌≤◌, vec_capacity, vec_len}
use Rattle.ebpf_btf.specs.Items.{items_at}
use Rattle.ebpf_btf.proofs.rows.read_rows.Given as goal

abbrev pub invariant-loop-k : goal.invariant-loop-k
invariant-loop-k g l = record {
  items : l.items.items ≡ items_at (g.R.Row.row_at l.order l.bytes) l.size l.offset l.k;
  len : vec_len l.items ≡ l.k;
  room : l.count ≤ vec_capacity l.items;
}
