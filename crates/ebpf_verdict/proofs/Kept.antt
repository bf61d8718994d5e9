-- The items that are kept of a range of numbers, one number after the other.
use Rattle.std.proofs.Common.{◌≡◌, ◌∙◌, ap, sym, ℕ, ◌+◌, ◌-◌, ◌<◌, List, [], ◌∷◌, ◌++◌, Option, Some, None, append_assoc}
use Rattle.std.specs.List.{cons_option, filter_map, range_with_len}
use Rattle.ebpf_base.proofs.Lists.{range_more}

module _ {A : Type 0} (f : ℕ → Option A) (n : ℕ) where
  -- those of the numbers that are left
  abbrev from : ℕ → List A
  from i = filter_map f (range_with_len i (n - i))

  more : (i : ℕ) → i < n → from i ≡ cons_option (f i) (from (i + 1))
  more i below = ap (filter_map f) (range_more i n below)

  pub one_kept : (before after all : List A) (i : ℕ) (x : A) → i < n → Some x ≡ f i → after ≡ before ++ x ∷ [] → before ++ from i ≡ all → after ++ from (i + 1) ≡ all
  one_kept before after all i x below is added whole =
      ap (λ xs. xs ++ from (i + 1)) added
      ∙ append_assoc before (x ∷ []) (from (i + 1))
      ∙ ap (λ o. before ++ cons_option o (from (i + 1))) is
      ∙ ap (λ xs. before ++ xs) (sym (more i below))
      ∙ whole

  pub none_kept : (before all : List A) (i : ℕ) → i < n → None ≡ f i → before ++ from i ≡ all → before ++ from (i + 1) ≡ all
  none_kept before all i below is whole =
      ap (λ o. before ++ cons_option o (from (i + 1))) is ∙ ap (λ xs. before ++ xs) (sym (more i below)) ∙ whole
