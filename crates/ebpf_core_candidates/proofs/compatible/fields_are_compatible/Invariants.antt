use Rattle.std.proofs.Common.{◌≡◌, ◌-◌}
use Rattle.ebpf_core_candidates.specs.Compatibility.{fields_compatible, fields_fit}
use Rattle.ebpf_core_candidates.proofs.compatible.fields_are_compatible.Given as goal

abbrev pub invariant-loop-level : goal.invariant-loop-level
invariant-loop-level l =
    fields_fit (33 - l._level) l.local l.target l.local_id l.pair ≡ fields_compatible l.local l.local_id l.target l.target_id
