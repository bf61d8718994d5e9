use Rattle.std.proofs.Common.{◌≡◌, ◌++◌, drop}
use Rattle.std.specs.FinMap.{get}
use Rattle.std.specs.List.{flat_map}
use Rattle.ebpf_base.specs.Maps.{lent_bytes}
use Rattle.ebpf_ksyms.specs.PrivateContracts.{entry_named}
use Rattle.ebpf_ksyms.proofs.named.entries_named.Given as goal

-- with those of the names that are left, all are there
abbrev pub invariant-loop-name : goal.invariant-loop-name
invariant-loop-name l = l.all.items ++ flat_map (λ name. entry_named name (get l.externs name)) (lent_bytes (drop l.name-index l.names)) ≡ flat_map (λ name. entry_named name (get l.externs name)) (lent_bytes l.names)
