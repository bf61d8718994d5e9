use Rattle.std.proofs.Common.{◌≡◌, map, take}
use Rattle.capi_rows.specs.Records.{reference_row}
use Rattle.capi_rows.proofs.record_rows.list_references.Given as goal

-- the rows of the references so far
abbrev pub invariant-loop-reference : goal.invariant-loop-reference
invariant-loop-reference l = l.rows.items ≡ map reference_row (take l.reference-index l.references)
