use Rattle.std.proofs.Common.{◌≡◌, drop}
use Rattle.ebpf_base.specs.Maps.{lent_bytes}
use Rattle.ebpf_chosen_programs.specs.PrivateContracts.{name_set, with_names}
use Rattle.ebpf_chosen_programs.proofs.programs.name_set.Given as goal

-- with the names that are left, all are there
abbrev pub invariant-loop-name : goal.invariant-loop-name
invariant-loop-name l = with_names l.set (lent_bytes (drop l.name-index l.names)) ≡ name_set (lent_bytes l.fn.names)
