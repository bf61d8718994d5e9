-- Items of one size in bytes, one after the other.
use Rattle.std.specs.Prelude.{ℕ, ◌+◌, ◌*◌, List, map}
use Rattle.std.specs.List.{range_with_len}

-- n items of a size in bytes, one after the other from an offset on
unfoldable pub items_at : {X : Type 0} → (ℕ → X) → ℕ → ℕ → ℕ → List X
items_at item size offset n = map (λ k. item (offset + size * k)) (range_with_len 0 n)
