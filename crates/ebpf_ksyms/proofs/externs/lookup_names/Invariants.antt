use Rattle.std.proofs.Common.{◌≡◌, ◌++◌, drop}
use Rattle.ebpf_base.specs.Maps.{lent_bytes}
use Rattle.ebpf_ksyms.specs.PrivateContracts.{lookup_names}
use Rattle.ebpf_ksyms.proofs.externs.lookup_names.Given as goal

-- with those of the externs that are left, all are there
abbrev pub invariant-loop-entry : goal.invariant-loop-entry
invariant-loop-entry l = lent_bytes l.names.items ++ lookup_names l.local (drop l.entry-index l.all) ≡ lookup_names l.local l.all
