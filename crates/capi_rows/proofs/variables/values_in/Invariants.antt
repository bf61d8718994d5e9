use Rattle.std.proofs.Common.{◌≡◌, drop}
use Rattle.std.specs.List.{filter_map}
use Rattle.ebpf_base.specs.Maps.{put_all}
use Rattle.ebpf_object.specs.Patches.{globals_of}
use Rattle.capi_rows.specs.Variables.{value_of_row, values_in}
use Rattle.capi_rows.proofs.variables.values_in.Given as goal

-- with those of the rows that are left put over them, all are there
abbrev pub invariant-loop-row : goal.invariant-loop-row
invariant-loop-row l = put_all (globals_of l.globals.entries) (filter_map (value_of_row l.text l.bytes) (drop l.row-index l.rows)) ≡ values_in l.fn.text l.fn.bytes l.fn.rows
