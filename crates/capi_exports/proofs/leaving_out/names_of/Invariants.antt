use Rattle.std.proofs.Common.{◌≡◌, ◌++◌, drop, map}
use Rattle.ebpf_base.specs.Maps.{lent_bytes}
use Rattle.ebpf_object.specs.Stages.{descriptor_of}
use Rattle.capi_exports.proofs.leaving_out.names_of.Given as goal

-- with the names of the rows that are left, all are there
abbrev pub invariant-loop-name : goal.invariant-loop-name
invariant-loop-name l = lent_bytes l.names.items ++ map (λ d. d.0) (map descriptor_of (drop l.name-index l.rows)) ≡ map (λ d. d.0) (map descriptor_of l.fn.rows)
