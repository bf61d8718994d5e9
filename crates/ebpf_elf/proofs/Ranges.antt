-- The numbers from a up to n.
use Rattle.std.proofs.Common.{◌≡◌, ◌≤◌, ℕ, Bool, not, length, map, filter, refl, arith}
use Rattle.std.proofs.lemmas.List.Filters.{length-filter_both}
use Rattle.std.specs.List.{range_with_len}
use Rattle.ebpf_base.proofs.Lists.{length-map-range}

-- how many they are, mapped
pub length_numbers : {X : Type 0} (f : ℕ → X) (a n : ℕ) → length (map f (range_with_len a n)) ≡ n
length_numbers f a n = length-map-range f a n

-- and where some of them are taken
pub length_filtered : {X : Type 0} (p : X → Bool) (f : ℕ → X) (a n : ℕ) → length (filter p (map f (range_with_len a n))) ≤ n
length_filtered p f a n = omega (arith, length-filter_both p (λ x. not (p x)) (λ x. refl) (map f (range_with_len a n)), length-map-range f a n)
