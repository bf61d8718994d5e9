use Rattle.std.proofs.Common.{◌≡◌, ◌++◌, map}
use Rattle.std.specs.Prelude.{find}
use Rattle.std.specs.Vec.Iter.{into_iter_items}
use Rattle.ebpf_load_info.specs.PrivateContracts.{attached, is_wanted_at}
use Rattle.ebpf_load_info.proofs.attach_all.attached_to.Given as goal

-- with those that are left, all are there
abbrev pub invariant-loop-one : goal.invariant-loop-one
invariant-loop-one l =
    l.targets ++ map (λ one. attached one (find (λ id. is_wanted_at l.types id one) l.ids)) (into_iter_items l.one-iterator)
    ≡ map (λ one. attached one (find (λ id. is_wanted_at l.types id one) l.ids)) l.fn.wanted
