use Rattle.std.proofs.Common.{◌≡◌, drop}
use Rattle.std.specs.Prelude.{find}
use Rattle.ebpf_load_info.specs.PrivateContracts.{is_wanted_at}
use Rattle.ebpf_load_info.proofs.attach_all.first_of.Given as goal

-- the first of the ids that are left is the first of all
abbrev pub invariant-loop-id : goal.invariant-loop-id
invariant-loop-id l =
    find (λ id. is_wanted_at l.types id l.wanted) (drop l.id-index l.ids) ≡ find (λ id. is_wanted_at l.types id l.wanted) l.ids
