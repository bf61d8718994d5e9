use Rattle.std.proofs.Common.{◌≡◌, ◌++◌, drop}
use Rattle.ebpf_base.specs.Maps.{lent_bytes}
use Rattle.ebpf_ksyms.specs.Externs.{wanted_names}
use Rattle.ebpf_ksyms.proofs.named.wanted_names.Given as goal

-- with those of the externs that are left, all are there
abbrev pub invariant-loop-entry : goal.invariant-loop-entry
invariant-loop-entry l = lent_bytes l.names.items ++ wanted_names (drop l.entry-index l.all) ≡ wanted_names l.all
