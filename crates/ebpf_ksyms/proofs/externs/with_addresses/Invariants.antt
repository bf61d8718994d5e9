use Rattle.std.proofs.Common.{◌≡◌, ◌++◌, drop}
use Rattle.ebpf_base.specs.Faults.{first_some}
use Rattle.ebpf_ksyms.specs.Externs.{renewed}
use Rattle.ebpf_ksyms.specs.PrivateContracts.{value_named, known_at, typeless_as, typeless_refused}
use Rattle.ebpf_ksyms.proofs.externs.with_addresses.Given as goal

-- with those that are left, all are there, and the first fault of those left is the first of all
abbrev pub invariant-loop-entry : goal.invariant-loop-entry
invariant-loop-entry l = record {
  stands : l.new.items ++ renewed (typeless_as (known_at (value_named l.addresses))) (drop l.entry-index l.all) ≡ renewed (typeless_as (known_at (value_named l.addresses))) l.all;
  fault : first_some (typeless_refused (known_at (value_named l.addresses))) (drop l.entry-index l.all) ≡ first_some (typeless_refused (known_at (value_named l.addresses))) l.all;
}
