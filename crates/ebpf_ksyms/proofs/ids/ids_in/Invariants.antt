use Rattle.std.proofs.Common.{◌≡◌, ℕ, List, drop}
use Rattle.std.specs.Prelude.{option_map}
use Rattle.ebpf_base.specs.Maps.{lent_bytes}
use Rattle.ebpf_ksyms.specs.PrivateContracts.{finished, ids_in, only_at, value_named}
use Rattle.ebpf_ksyms.proofs.ids.ids_in.Given as goal

-- with the types that are left, each name has its ids
abbrev pub invariant-loop-id : goal.invariant-loop-id
invariant-loop-id l = (q : List ℕ) → option_map (finished l.kernel q l.id (drop l.id l.kernel.types)) (value_named l.ids q) ≡ only_at (lent_bytes l.names) (ids_in l.kernel) q
