-- Names that are lent, in maps by index.
use Rattle.std.proofs.Common.{◌≡◌, ℕ, List, sym, ap, ◌∙◌}
use Rattle.std.specs.FinMap.{FinMap, get, insert, empty, get-empty, nat_cmp-IsAntisymmetric}
use Rattle.std.specs.Cmp.{nat_cmp_total}
use Rattle.std.specs.Option.{option_map}
use Rattle.std.specs.Ordering.{nat_cmp}
use Rattle.ebpf_base.proofs.Mapped.{get-map_values, map_values-from_get, map_values-insert}
use Rattle.cli_common.specs.PrivateContracts.{lent_names}
use denote.Ref.{Bor}

abbrev bytes : Bor (List ℕ) → List ℕ
bytes n = n.now

pub lent_empty : lent_names empty ≡ empty
unfolding lent_names
lent_empty = sym (map_values-from_get bytes nat_cmp_total nat_cmp-IsAntisymmetric empty empty (λ q. get-empty nat_cmp q ∙ sym (ap (option_map bytes) (get-empty nat_cmp q))))

pub lent_insert : (m : FinMap nat_cmp (Bor (List ℕ))) (k : ℕ) (v : Bor (List ℕ)) → lent_names (insert m k v) ≡ insert (lent_names m) k v.now
unfolding lent_names
lent_insert m k v = map_values-insert bytes nat_cmp_total nat_cmp-IsAntisymmetric m k v

pub lent_get : (m : FinMap nat_cmp (Bor (List ℕ))) (k : ℕ) → get (lent_names m) k ≡ option_map (λ (n : Bor (List ℕ)). n.now) (get m k)
unfolding lent_names
lent_get m k = get-map_values bytes m k
