-- The essential name of a text, byte by byte.
use Rattle.std.proofs.Common.{◌≡◌, ◌+◌, ◌-◌, ◌<◌, ◌≤◌, get_or, ℕ, zero, suc, Bool, true, false, ◌&&◌, cond, List, [], ◌∷◌, ◌++◌, length, take, drop, Option, Some, None, refl, sym, ap, ◌∙◌, true≢false, add-one, arith, length-drop}
use Rattle.std.specs.Prelude.{find, nat_eq, option_map, unwrap_or, is_some}
use Rattle.std.specs.List.{range_with_len, starts_with}
use Rattle.std.proofs.lemmas.Bool.Decides.{nat_tests}
use Rattle.std.proofs.lemmas.List.{drop_more, get_or-drop}
use Rattle.std.specs.Str.Lossy.{replacement_bytes}
use Rattle.ebpf_btf.specs.EssentialNames.{essential_name, flavor_mark, flavor_start}

find_later : (p : ℕ → Bool) (a n : ℕ) → find p (range_with_len (a + 1) n) ≡ option_map suc (find (λ k. p (suc k)) (range_with_len a n))
find_later p a zero = refl
find_later p a (suc n) = rw (add-one a) (by_first (p (suc a)) (find_later p (suc a) n))
  where
    by_first : (b : Bool) → find p (range_with_len (suc a + 1) n) ≡ option_map suc (find (λ k. p (suc k)) (range_with_len (suc a) n))
        → cond b (Some (suc a)) (find p (range_with_len (suc a + 1) n)) ≡ option_map suc (cond b (Some a) (find (λ k. p (suc k)) (range_with_len (suc a) n)))
    by_first true rest = refl
    by_first false rest = rest

abbrev opens : List ℕ → Bool
opens name = starts_with nat_eq name flavor_mark

-- where three underscores are first, by the first byte
flavor_step : (x : ℕ) (xs : List ℕ) → flavor_start (x ∷ xs) ≡ cond (opens (x ∷ xs)) (Some 0) (option_map suc (flavor_start xs))
flavor_step x xs = ap (λ o. cond (opens (x ∷ xs)) (Some 0) o) (find_later (λ n. starts_with nat_eq (drop n (x ∷ xs)) flavor_mark) 0 (length xs))

-- the essential name, by the first byte
pub essential_step : (x : ℕ) (xs : List ℕ) → essential_name (x ∷ xs) ≡ cond (opens (x ∷ xs)) [] (x ∷ essential_name xs)
unfolding essential_name
essential_step x xs = ap (λ o. take (unwrap_or o (length (x ∷ xs))) (x ∷ xs)) (flavor_step x xs) ∙ by_first (opens (x ∷ xs)) (flavor_start xs)
  where
    by_first : (b : Bool) (o : Option ℕ)
        → take (unwrap_or (cond b (Some 0) (option_map suc o)) (length (x ∷ xs))) (x ∷ xs) ≡ cond b [] (x ∷ take (unwrap_or o (length xs)) xs)
    by_first true o = refl
    by_first false None = refl
    by_first false (Some k) = refl

-- ---- three underscores are in a front, or in what follows it

never : (b : Bool) → (b && false) ≡ false
never true = refl
never false = refl

never_second : (b c : Bool) → (b && (c && false)) ≡ false
never_second true c = never c
never_second false c = refl

some_later : (o : Option ℕ) → is_some (option_map suc o) ≡ is_some o
some_later None = refl
some_later (Some k) = refl

-- a front has them at its start or later
found_step : (x : ℕ) (xs : List ℕ) → is_some (flavor_start (x ∷ xs)) ≡ cond (opens (x ∷ xs)) true (is_some (flavor_start xs))
found_step x xs = ap is_some (flavor_step x xs) ∙ by_first (opens (x ∷ xs))
  where
    by_first : (b : Bool) → is_some (cond b (Some 0) (option_map suc (flavor_start xs))) ≡ cond b true (is_some (flavor_start xs))
    by_first true = refl
    by_first false = some_later (flavor_start xs)

short : (x : ℕ) → opens (x ∷ []) ≡ false
short x = never (nat_eq 95 x)

short_two : (x y : ℕ) → opens (x ∷ y ∷ []) ≡ false
short_two x y = never_second (nat_eq 95 x) (nat_eq 95 y)

-- with three underscores in it a front decides alone
pub essential_front : (front rest : List ℕ) → is_some (flavor_start front) ≡ true → essential_name (front ++ rest) ≡ essential_name front
essential_front [] rest found = absurd (true≢false (sym found))
essential_front (x ∷ []) rest found = absurd (true≢false (sym found ∙ found_step x [] ∙ ap (λ b. cond b true false) (short x)))
essential_front (x ∷ y ∷ []) rest found =
    absurd (true≢false (sym found ∙ found_step x (y ∷ []) ∙ ap (λ b. cond b true (is_some (flavor_start (y ∷ [])))) (short_two x y)
    ∙ found_step y [] ∙ ap (λ b. cond b true false) (short y)))
essential_front (x ∷ y ∷ z ∷ front) rest found =
    essential_step x (y ∷ z ∷ (front ++ rest)) ∙ by_first (opens (x ∷ y ∷ z ∷ front)) (sym (found_step x (y ∷ z ∷ front)) ∙ found) (essential_front (y ∷ z ∷ front) rest) ∙ sym (essential_step x (y ∷ z ∷ front))
  where
    by_first : (b : Bool) → cond b true (is_some (flavor_start (y ∷ z ∷ front))) ≡ true
        → (is_some (flavor_start (y ∷ z ∷ front)) ≡ true → essential_name (y ∷ z ∷ (front ++ rest)) ≡ essential_name (y ∷ z ∷ front))
        → cond b [] (x ∷ essential_name (y ∷ z ∷ (front ++ rest))) ≡ cond b [] (x ∷ essential_name (y ∷ z ∷ front))
    by_first true found later = refl
    by_first false found later = ap (λ name. x ∷ name) (later found)

essential_wrong : (rest : List ℕ) → essential_name (replacement_bytes ++ rest) ≡ replacement_bytes ++ essential_name rest
essential_wrong rest =
    essential_step 0xEF (0xBF ∷ 0xBD ∷ rest)
    ∙ ap (λ name. 0xEF ∷ name) (essential_step 0xBF (0xBD ∷ rest) ∙ ap (λ name. 0xBF ∷ name) (essential_step 0xBD rest))

-- without them a front stays, and what follows a U+FFFD decides
pub essential_past : (front rest : List ℕ) → is_some (flavor_start front) ≡ false
    → essential_name (front ++ (replacement_bytes ++ rest)) ≡ front ++ (replacement_bytes ++ essential_name rest)
essential_past [] rest none = essential_wrong rest
essential_past (x ∷ []) rest none =
    essential_step x (replacement_bytes ++ rest) ∙ ap (λ b. cond b [] (x ∷ essential_name (replacement_bytes ++ rest))) (never (nat_eq 95 x))
    ∙ ap (λ name. x ∷ name) (essential_wrong rest)
essential_past (x ∷ y ∷ []) rest none =
    essential_step x (y ∷ (replacement_bytes ++ rest)) ∙ ap (λ b. cond b [] (x ∷ essential_name (y ∷ (replacement_bytes ++ rest)))) (never_second (nat_eq 95 x) (nat_eq 95 y))
    ∙ ap (λ name. x ∷ name) (essential_past (y ∷ []) rest (found_step y [] ∙ ap (λ b. cond b true false) (short y)))
essential_past (x ∷ y ∷ z ∷ front) rest none =
    essential_step x (y ∷ z ∷ (front ++ (replacement_bytes ++ rest))) ∙ by_first (opens (x ∷ y ∷ z ∷ front)) (sym (found_step x (y ∷ z ∷ front)) ∙ none) (essential_past (y ∷ z ∷ front) rest)
  where
    by_first : (b : Bool) → cond b true (is_some (flavor_start (y ∷ z ∷ front))) ≡ false
        → (is_some (flavor_start (y ∷ z ∷ front)) ≡ false → essential_name (y ∷ z ∷ (front ++ (replacement_bytes ++ rest))) ≡ y ∷ z ∷ (front ++ (replacement_bytes ++ essential_name rest)))
        → cond b [] (x ∷ essential_name (y ∷ z ∷ (front ++ (replacement_bytes ++ rest)))) ≡ x ∷ y ∷ z ∷ (front ++ (replacement_bytes ++ essential_name rest))
    by_first true none later = absurd (true≢false none)
    by_first false none later = ap (λ name. x ∷ name) (later none)

-- ---- a search from an index on

abbrev moved : ℕ → Option ℕ → Option ℕ
moved n o = option_map (λ k. n + k) o

-- where three underscores are first from an index on
abbrev pub flavor_from : List ℕ → ℕ → Option ℕ
flavor_from name index = moved index (flavor_start (drop index name))

moved_one : (index next : ℕ) (o : Option ℕ) → next ≡ index + 1 → moved next o ≡ moved index (option_map suc o)
moved_one index next None is = refl
moved_one index next (Some k) is = ap Some (omega arith)

-- where none begins at an index
pub past_one : (name : List ℕ) (index next : ℕ) → next ≡ index + 1 → index < length name → opens (drop index name) ≡ false → flavor_from name next ≡ flavor_from name index
past_one name index next is inside none =
    let here : drop index name ≡ get_or name index 0 ∷ drop (index + 1) name = drop_more name index 0 inside in
    let rest = flavor_start (drop (index + 1) name) in
    let step : flavor_start (drop index name) ≡ option_map suc rest =
    ap flavor_start here ∙ flavor_step (get_or name index 0) (drop (index + 1) name)
    ∙ ap (λ b. cond b (Some 0) (option_map suc rest)) (ap opens (sym here) ∙ none) in
    ap (λ n. moved next (flavor_start (drop n name))) is ∙ moved_one index next rest is ∙ ap (moved index) (sym step)

not_first : (xs : List ℕ) → nat_eq 95 (get_or xs 0 0) ≡ false → opens xs ≡ false
not_first [] other = refl
not_first (x ∷ xs) other = rw other refl

not_second : (xs : List ℕ) → nat_eq 95 (get_or xs 1 0) ≡ false → opens xs ≡ false
not_second [] other = refl
not_second (x ∷ []) other = short x
not_second (x ∷ y ∷ xs) other = rw other (never (nat_eq 95 x))

not_third : (xs : List ℕ) → nat_eq 95 (get_or xs 2 0) ≡ false → opens xs ≡ false
not_third [] other = refl
not_third (x ∷ []) other = short x
not_third (x ∷ y ∷ []) other = short_two x y
not_third (x ∷ y ∷ z ∷ xs) other = rw other (never_second (nat_eq 95 x) (nat_eq 95 y))

-- where the third of three bytes is another
pub past_three : (name : List ℕ) (index : ℕ) → index + 2 < length name → (get_or name (index + 2) 0 ≡ 95 → ⊥) → flavor_from name (index + 3) ≡ flavor_from name index
past_three name index inside other =
    let byte : nat_eq 95 (get_or name (index + 2) 0) ≡ false = grind (arith, nat_tests) in
    let third : opens (drop index name) ≡ false = not_third (drop index name) (ap (nat_eq 95) (get_or-drop index name 2 0) ∙ byte) in
    let second : opens (drop (index + 1) name) ≡ false =
    not_second (drop (index + 1) name) (ap (nat_eq 95) (get_or-drop (index + 1) name 1 0 ∙ ap (λ n. get_or name n 0) (omega arith)) ∙ byte) in
    let first : opens (drop (index + 2) name) ≡ false =
    not_first (drop (index + 2) name) (ap (nat_eq 95) (get_or-drop (index + 2) name 0 0 ∙ ap (λ n. get_or name n 0) (omega arith)) ∙ byte) in
    past_one name (index + 2) (index + 3) (omega arith) (omega arith) first
    ∙ past_one name (index + 1) (index + 2) (omega arith) (omega arith) second
    ∙ past_one name index (index + 1) refl (omega arith) third

none_short : (xs : List ℕ) → length xs ≤ 2 → flavor_start xs ≡ None
none_short [] few = refl
none_short (x ∷ []) few = flavor_step x [] ∙ ap (λ b. cond b (Some 0) (option_map suc (flavor_start []))) (short x)
none_short (x ∷ y ∷ []) few =
    flavor_step x (y ∷ []) ∙ ap (λ b. cond b (Some 0) (option_map suc (flavor_start (y ∷ [])))) (short_two x y) ∙ ap (option_map suc) (none_short (y ∷ []) (omega arith))
none_short (x ∷ y ∷ z ∷ xs) few = absurd (omega arith)

-- fewer than three bytes are left
pub past_end : (name : List ℕ) (index : ℕ) → length name - index ≤ 2 → flavor_from name index ≡ None
past_end name index few = ap (moved index) (none_short (drop index name) (omega (arith, length-drop index name)))
