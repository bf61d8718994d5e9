-- The offsets of strings at which a text can be read.
use Rattle.std.proofs.Common.{◌≡◌, ◌+◌, ◌<◌, ◌≤◌, ◌==◌, ℕ, zero, suc, Bool, true, false, not, cond, List, [], ◌∷◌, length, take, drop, nat_lt, Option, Some, None, Ok, Err, refl, sym, ap, ◌∙◌, arith, ⊎_elim}
use Rattle.std.specs.Prelude.{is_some, option_map, slice_index}
use Rattle.std.specs.List.{prefix_len}
use Rattle.std.proofs.lemmas.Bool.{cases_lt}
use Rattle.std.proofs.lemmas.Bool.Decides.{nat_tests}
use Rattle.ebpf_btf.specs.declared.error.BtfError.TheVariants.{InvalidStringOffset}
use Rattle.std.specs.Str.{bytes_eq}
use Rattle.ebpf_base.specs.Faults.{if_ok}
use Rattle.ebpf_btf.specs.Strings.{AreReadableBelow, before_zero, is_name_at, is_text, text_at, text_or_fault}

-- whether a text can be read
abbrev readable : List ℕ → Bool
readable xs = is_some (before_zero xs)

-- how many bytes stand before the first zero byte
abbrev front : List ℕ → ℕ
front xs = prefix_len (λ b. not (b == 0)) xs

by_index : (xs : List ℕ) → readable xs ≡ nat_lt (front xs) (length xs)
by_index xs = by_test (nat_lt (front xs) (length xs))
  where
    by_test : (b : Bool) → is_some (option_map (λ n. take n xs) (cond b (Some (front xs)) None)) ≡ b
    by_test true = refl
    by_test false = refl

-- a byte that is not zero changes nothing
passed : (x : ℕ) (xs : List ℕ) → (x == 0) ≡ false → readable (x ∷ xs) ≡ readable xs
passed x xs some =
    let first : front (x ∷ xs) ≡ 1 + front xs = rw some refl in
    by_index (x ∷ xs) ∙ ap (λ n. nat_lt n (suc (length xs))) first ∙ same (front xs) (length xs) ∙ sym (by_index xs)
  where
    same : (m n : ℕ) → nat_lt (1 + m) (suc n) ≡ nat_lt m n
    same m n = ⊎_elim (λ (less : m < n). grind (arith, nat_tests)) (λ (more : n ≤ m). grind (arith, nat_tests)) (cases_lt m n)

-- a zero byte ends a text
ended : (x : ℕ) (xs : List ℕ) → (x == 0) ≡ true → readable (x ∷ xs) ≡ true
ended x xs none =
    let first : front (x ∷ xs) ≡ 0 = rw none refl in
    by_index (x ∷ xs) ∙ ap (λ n. nat_lt n (suc (length xs))) first ∙ (let test : nat_lt 0 (suc (length xs)) ≡ true = grind (arith, nat_tests) in test)

-- ---- the last zero byte

pub none_past : (xs : List ℕ) (offset : ℕ) → length xs ≤ offset → readable (drop offset xs) ≡ false
none_past [] zero over = refl
none_past [] (suc offset) over = refl
none_past (x ∷ xs) zero over = absurd (omega arith)
none_past (x ∷ xs) (suc offset) over = none_past xs offset (omega arith)

none_here : (xs : List ℕ) (i : ℕ) → i < length xs → (slice_index xs i == 0) ≡ false → readable (drop (suc i) xs) ≡ false → readable (drop i xs) ≡ false
none_here [] i inside some rest = absurd (omega arith)
none_here (x ∷ xs) zero inside some rest = passed x xs some ∙ rest
none_here (x ∷ xs) (suc i) inside some rest = none_here xs i (omega arith) some rest

one_here : (xs : List ℕ) (offset i : ℕ) → offset ≤ i → i < length xs → (slice_index xs i == 0) ≡ true → readable (drop offset xs) ≡ true
one_here [] offset i before inside none = absurd (omega arith)
one_here (x ∷ xs) (suc offset) zero before inside none = absurd (omega arith)
one_here (x ∷ xs) (suc offset) (suc i) before inside none = one_here xs offset i (omega arith) (omega arith) none
one_here (x ∷ xs) zero zero before inside none = ended x xs none
one_here (x ∷ xs) zero (suc i) before inside none = by_first (one_here xs zero i (omega arith) (omega arith) none) (x == 0) refl
  where
    by_first : readable xs ≡ true → (b : Bool) → (x == 0) ≡ b → readable (x ∷ xs) ≡ true
    by_first rest true is = ended x xs is
    by_first rest false is = passed x xs is ∙ rest

-- no text can be read from an offset on
abbrev pub NoneFrom : List ℕ → ℕ → Type 0
NoneFrom xs n = (offset : ℕ) → n ≤ offset → is_some (before_zero (drop offset xs)) ≡ false

pub none_before : (xs : List ℕ) (n m : ℕ) → n < length xs → m ≡ n + 1 → (slice_index xs n == 0) ≡ false → NoneFrom xs m → NoneFrom xs n
none_before xs n m inside next some rest offset from = ⊎_elim
    (λ (past : n < offset). rest offset (omega arith))
    (λ (here : offset ≤ n). let same : offset ≡ n = omega arith in rw same (none_here xs n inside some (rest (suc n) (omega arith))))
    (cases_lt n offset)

pub readable_here : (xs : List ℕ) (n m : ℕ) → n < length xs → m ≡ n + 1 → (slice_index xs n == 0) ≡ true → NoneFrom xs m → AreReadableBelow xs m
readable_here xs n m inside next none rest offset = ⊎_elim
    (λ (below : offset < m). one_here xs offset n (omega arith) inside none ∙ (let test : nat_lt offset m ≡ true = grind (arith, nat_tests) in sym test))
    (λ (past : m ≤ offset). rest offset past ∙ (let test : nat_lt offset m ≡ false = grind (arith, nat_tests) in sym test))
    (cases_lt offset m)

pub readable_nowhere : (xs : List ℕ) (n : ℕ) → n ≤ 0 → NoneFrom xs n → AreReadableBelow xs 0
readable_nowhere xs n none rest offset =
    rest offset (omega arith) ∙ (let test : nat_lt offset 0 ≡ false = grind (arith, nat_tests) in sym test)

-- ---- names

pub named_here : (strings text : List ℕ) (offset n : ℕ) → AreReadableBelow strings n → offset < n → Ok (is_text text (text_at strings offset)) ≡ is_name_at strings offset text
unfolding text_at
named_here strings text offset n below inside =
    let test : nat_lt offset n ≡ true = grind (arith, nat_tests) in
    by_bytes (before_zero (drop offset strings)) (below offset ∙ test)
  where
    by_bytes : (o : Option (List ℕ)) → is_some o ≡ true → Ok (is_text text (text_or_fault offset o)) ≡ if_ok (text_or_fault offset o) (λ read. Ok (bytes_eq read text))
    by_bytes None some = cc
    by_bytes (Some bytes) some = refl

pub named_nowhere : (strings text : List ℕ) (offset n : ℕ) → AreReadableBelow strings n → n ≤ offset → Err (InvalidStringOffset offset) ≡ is_name_at strings offset text
unfolding text_at
named_nowhere strings text offset n below past =
    let test : nat_lt offset n ≡ false = grind (arith, nat_tests) in
    by_bytes (before_zero (drop offset strings)) (below offset ∙ test)
  where
    by_bytes : (o : Option (List ℕ)) → is_some o ≡ false → Err (InvalidStringOffset offset) ≡ if_ok (text_or_fault offset o) (λ read. Ok (bytes_eq read text))
    by_bytes None none = refl
    by_bytes (Some bytes) none = cc
