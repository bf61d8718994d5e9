-- The relocations of a range: those up to its end, of those from its begin on, where offsets rise.
use Rattle.std.proofs.Common.{◌≡◌, ℕ, Bool, true, false, ◌&&◌, T, List, [], ◌∷◌, refl, sym, ap, ◌∙◌, arith}
use Rattle.std.specs.Prelude.{nat_le, nat_lt, if◌then◌else◌}
use Rattle.std.specs.FinMap.{FinMap, entries, entries_sorted, is_sorted}
use Rattle.std.specs.FinMap.Entries.{below_all, is_sorted-where_key}
use Rattle.std.specs.List.{filter}
use Rattle.std.specs.Ordering.{is_lt, nat_cmp}
use Rattle.std.proofs.lemmas.Bool.Decides.{nat_tests}
use Rattle.ebpf_base.specs.Maps.{entries_from}
use Rattle.ebpf_base.proofs.Lists.{filter-filter}
use Rattle.cli_common.specs.FunctionMaps.{within}
use Rattle.cli_common.specs.PrivateContracts.{up_to}

both_hold : (a b : Bool) → T (a && b) → T a × T b
both_hold true b p = (tt, p)
both_hold false b p = absurd p

is_true : (b : Bool) → T b → b ≡ true
is_true true p = refl
is_true false p = absurd p

-- what stands above an offset that isn't below an end isn't either
not_below : (a b end : ℕ) → is_lt (nat_cmp a b) ≡ true → nat_lt a end ≡ false → nat_lt b end ≡ false
not_below a b end below past = grind (arith, nat_tests)

module _ {X : Type 0} where
  none_below : (end a : ℕ) (es : List (ℕ × X)) → T (below_all nat_cmp a es) → nat_lt a end ≡ false → filter (λ e. nat_lt e.0 end) es ≡ []
  none_below end a [] h past = refl
  none_below end a (e ∷ es) h past =
      let both = both_hold (is_lt (nat_cmp a e.0)) (below_all nat_cmp a es) h in
      let later : nat_lt e.0 end ≡ false = not_below a e.0 end (is_true (is_lt (nat_cmp a e.0)) both.0) past in
      ap (λ b. if b then e ∷ filter (λ e. nat_lt e.0 end) es else filter (λ e. nat_lt e.0 end) es) later ∙ none_below end a es both.1 past

  up_to-filter : (end : ℕ) (es : List (ℕ × X)) → T (is_sorted nat_cmp es) → up_to end es ≡ filter (λ e. nat_lt e.0 end) es
  up_to-filter end [] h = refl
  up_to-filter end (e ∷ es) h =
      let both = both_hold (below_all nat_cmp e.0 es) (is_sorted nat_cmp es) h in
      by_test (nat_lt e.0 end) refl (up_to-filter end es both.1) both.0
    where
      by_test : (b : Bool) → nat_lt e.0 end ≡ b → up_to end es ≡ filter (λ e. nat_lt e.0 end) es → T (below_all nat_cmp e.0 es)
          → (if b then e ∷ up_to end es else []) ≡ (if b then e ∷ filter (λ e. nat_lt e.0 end) es else filter (λ e. nat_lt e.0 end) es)
      by_test true is others below = ap (λ rest. e ∷ rest) others
      by_test false is others below = sym (none_below end e.0 es below is)

  pub up_to_within : (start end : ℕ) (m : FinMap nat_cmp X) → up_to end (entries_from start (entries m)) ≡ within start end (entries m)
  up_to_within start end m =
      up_to-filter end (entries_from start (entries m)) (is_sorted-where_key nat_cmp (nat_le start) (entries m) (entries_sorted m))
      ∙ filter-filter (λ e. nat_lt e.0 end) (λ e. nat_le start e.0) (entries m)
