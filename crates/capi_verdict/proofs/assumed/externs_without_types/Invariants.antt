use Rattle.std.proofs.Common.{◌≡◌}
use Rattle.std.specs.FinMap.{empty, entries}
use Rattle.ebpf_base.specs.Maps.{by_bytes, mapped_entries, put_all}
use Rattle.capi_verdict.specs.Assumed.{found_without_type}
use Rattle.capi_verdict.proofs.assumed.externs_without_types.Given as goal

-- with the externs that are left, all are there
abbrev pub invariant-loop-name : goal.invariant-loop-name
invariant-loop-name l =
    put_all l.all (mapped_entries found_without_type (by_bytes l.name-iterator)) ≡ put_all empty (mapped_entries found_without_type (entries l.externs))
