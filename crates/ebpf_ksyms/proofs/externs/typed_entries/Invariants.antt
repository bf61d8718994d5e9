use Rattle.std.proofs.Common.{◌≡◌, ◌++◌, drop}
use Rattle.std.specs.Option.{option_copied}
use Rattle.ebpf_base.specs.Faults.{first_some}
use Rattle.ebpf_ksyms.specs.Externs.{renewed}
use Rattle.ebpf_ksyms.specs.PrivateContracts.{id_at, value_named, typed_as, typed_refused}
use Rattle.ebpf_ksyms.proofs.externs.typed_entries.Given as goal

-- with those that are left, all are there, and the first fault of those left is the first of all
abbrev pub invariant-loop-entry : goal.invariant-loop-entry
invariant-loop-entry l = record {
  stands : l.new.items ++ renewed (typed_as (id_at (value_named l.ids)) l.local (option_copied l.kernel)) (drop l.entry-index l.all) ≡ renewed (typed_as (id_at (value_named l.ids)) l.local (option_copied l.kernel)) l.all;
  fault : first_some (typed_refused (id_at (value_named l.ids)) l.local (option_copied l.kernel)) (drop l.entry-index l.all) ≡ first_some (typed_refused (id_at (value_named l.ids)) l.local (option_copied l.kernel)) l.all;
}
