-- One more byte of a value.
use Rattle.std.proofs.Common.{◌≡◌, ℕ, ◌+◌, ◌++◌, List, [], ◌∷◌, map, ap, ◌∙◌, sym, arith}
use Rattle.std.specs.List.{range_with_len}
use Rattle.std.proofs.lemmas.List.FromFn.{map-range_with_len_more}

pub bytes_more : (f : ℕ → ℕ) (value : List ℕ) (n b : ℕ) → value ≡ map f (range_with_len 0 n) → b ≡ f n
    → value ++ b ∷ [] ≡ map f (range_with_len 0 (n + 1))
bytes_more f value n b before next =
    ap (λ v. v ++ b ∷ []) before
    ∙ ap (λ x. map f (range_with_len 0 n) ++ x ∷ []) next
    ∙ sym (map-range_with_len_more f 0 n n (omega arith))
