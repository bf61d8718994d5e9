use Rattle.std.proofs.Common.{◌≡◌}
use Rattle.ebpf_base.specs.Faults.{first_some}
use Rattle.ebpf_btf_maps.specs.Pinnings.{entry_fault}
use Rattle.ebpf_btf_maps.proofs.pinning.check_entries.Given as goal

-- the entries that are left have the fault of all
abbrev pub invariant-loop-entry : goal.invariant-loop-entry
invariant-loop-entry l = first_some (entry_fault l.types) l.entry-iterator ≡ first_some (entry_fault l.types) l.entries
