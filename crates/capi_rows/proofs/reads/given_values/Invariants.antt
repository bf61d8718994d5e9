use Rattle.std.proofs.Common.{◌≡◌, drop}
use Rattle.std.specs.List.{filter_map}
use Rattle.ebpf_base.specs.Maps.{put_all}
use Rattle.capi_rows.specs.Kconfig.{given_by_row, given_values}
use Rattle.capi_rows.proofs.reads.given_values.Given as goal

-- with those of the rows that are left put over them, all are there
abbrev pub invariant-loop-row : goal.invariant-loop-row
invariant-loop-row l = put_all l.values (filter_map (given_by_row l.text l.bytes) (drop l.row-index l.rows)) ≡ given_values l.fn.text l.fn.bytes l.fn.rows
