use Rattle.std.proofs.Common.{◌≡◌, ◌++◌, drop}
use Rattle.std.specs.Prelude.{map}
use Rattle.std.specs.Option.{option_copied}
use Rattle.ebpf_ksyms.specs.PrivateContracts.{outcome_by_ids, value_named, untyped_by}
use Rattle.ebpf_ksyms.proofs.externs.outcomes_by_ids.Given as goal

-- with those of the externs that are left, all are there
abbrev pub invariant-loop-entry : goal.invariant-loop-entry
invariant-loop-entry l = l.outcomes.items ++ map (outcome_by_ids (value_named l.ids) (untyped_by (option_copied l.addresses)) l.local (option_copied l.kernel)) (drop l.entry-index l.all) ≡ map (outcome_by_ids (value_named l.ids) (untyped_by (option_copied l.addresses)) l.local (option_copied l.kernel)) l.all
