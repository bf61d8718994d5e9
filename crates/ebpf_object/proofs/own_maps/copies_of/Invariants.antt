use Rattle.std.proofs.Common.{◌≡◌, ◌++◌, drop}
use Rattle.ebpf_base.specs.Maps.{lent_bytes}
use Rattle.ebpf_object.proofs.own_maps.copies_of.Given as goal

-- with those that are left, all are there
abbrev pub invariant-loop-name : goal.invariant-loop-name
invariant-loop-name l = l.copies ++ lent_bytes (drop l.name-index l.names) ≡ lent_bytes l.fn.names
