use Rattle.std.proofs.Common.{◌≡◌, drop}
use Rattle.ebpf_least_types.specs.IdUses.{first_id_use, first_id_use_from}
use Rattle.ebpf_least_types.proofs.id_uses.refuse_id_uses.Given as goal

-- the first use of the objects that are left is the first of all
abbrev pub invariant-loop-number : goal.invariant-loop-number
invariant-loop-number l = first_id_use_from l.number (drop l.number l.objects) ≡ first_id_use l.objects
