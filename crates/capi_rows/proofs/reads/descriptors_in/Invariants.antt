use Rattle.std.proofs.Common.{◌≡◌, ◌++◌, map, drop}
use Rattle.ebpf_object.specs.Stages.{descriptor_of}
use Rattle.capi_rows.specs.Descriptors.{descriptors_in}
use Rattle.capi_rows.proofs.reads.descriptors_in.Given as goal

-- with those of the rows that are left, all are there
abbrev pub invariant-loop-row : goal.invariant-loop-row
invariant-loop-row l = map descriptor_of l.named.items ++ descriptors_in l.text (drop l.row-index l.rows) ≡ descriptors_in l.fn.text l.fn.rows
