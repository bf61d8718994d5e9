use Rattle.std.proofs.Common.{◌≡◌}
use Rattle.std.specs.FinMap.{empty, entries}
use Rattle.ebpf_base.specs.Maps.{by_bytes, put_all}
use Rattle.ebpf_exceptions.specs.Callbacks.{callbacks_among, programs_fault}
use Rattle.ebpf_exceptions.proofs.callbacks.callbacks_among.Given as goal

-- with the callbacks of the programs that are left, all are there; they have the fault that all have
abbrev pub invariant-loop-name : goal.invariant-loop-name
invariant-loop-name l = record {
  found : put_all l.found (callbacks_among l.text l.functions l.first (by_bytes l.name-iterator)) ≡ put_all empty (callbacks_among l.text l.functions l.first (entries l.programs));
  fault : programs_fault l.text l.functions l.first (by_bytes l.name-iterator) ≡ programs_fault l.text l.functions l.first (entries l.programs);
}
