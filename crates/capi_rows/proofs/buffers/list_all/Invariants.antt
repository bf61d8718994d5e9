use Rattle.std.proofs.Common.{◌≡◌, ◌++◌, drop, length}
use Rattle.std.specs.List.{flat_map}
use Rattle.capi_rows.specs.Listings.{rows_by}
use Rattle.capi_rows.proofs.buffers.list_all.Given as goal

-- with those of the things that are left, all are there
abbrev pub invariant-loop-value : goal.invariant-loop-value
invariant-loop-value g l = record {
  rows : l.listing.rows.items ++ rows_by (g.R.RowFrom.rows_of l.context) (g.R.RowFrom.text_of l.context) (length l.listing.text.items) (drop l.value-index l.values) ≡ rows_by (g.R.RowFrom.rows_of l.context) (g.R.RowFrom.text_of l.context) 0 l.values;
  text : l.listing.text.items ++ flat_map (g.R.RowFrom.text_of l.context) (drop l.value-index l.values) ≡ flat_map (g.R.RowFrom.text_of l.context) l.values;
}
