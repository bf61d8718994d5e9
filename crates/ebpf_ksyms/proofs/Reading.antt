-- Lines: the words of one, the number that a word states, and their faults and addresses one after the other.
use Rattle.std.proofs.Common.{◌≡◌, ℕ, ◌<◌, ◌≤◌, ◌+◌, Bool, true, false, cond, List, [], ◌∷◌, ◌++◌, length, Option, Some, None, refl, ap, sym, subst, ◌∙◌, arith, append-nil, get_or, ltb, ◌-◌, take, drop, eqb, ◌^◌, ◌&&◌, Result, Ok, Err, map, append_assoc, add-one}
use Rattle.std.proofs.lemmas.Bool.{and_from, and_parts}
use Rattle.std.proofs.lemmas.Bool.Decides.{nat_tests}
use Rattle.std.proofs.lemmas.Grind.{get_or_default_zero}
use Rattle.std.proofs.lemmas.List.{take_rest, map-append}
use Rattle.std.proofs.lemmas.List.Elements.{All-tail, filter_map-append}
use Rattle.std.proofs.lemmas.List.Splits.{slice_split-cons_yes, slice_split_none, slice_split_at, slice_split_first, length-slice_split}
use Rattle.std.proofs.lemmas.List.Sums.{fails_before_first}
use Rattle.std.proofs.lemmas.Str.{NoCharPasses-byte}
use Rattle.std.specs.Char.{is_ascii_whitespace, digit_value}
use Rattle.std.specs.Iterator.{Yields}
use Rattle.std.specs.List.{All, AllPass, slice_split, position, position_or_len, list_all, cons_option, filter_map}
use Rattle.std.specs.Prelude.{filter, nat_lt, MatchOption, ⊤, MatchBool, option_map, slice_get}
use Rattle.std.specs.Result.{OkIff, result_ok}
use Rattle.std.specs.Str.{NoCharPasses}
use Rattle.std.specs.Str.Iter.{CutsAsciiWord}
use Rattle.std.specs.Str.Lines.{lines, lines_of_parts, strip_carriage_return}
use Rattle.std.specs.Str.Parse.{AllDigits, IsNumeral, ParsesUnsigned, digits_value, without_leading_plus}
use Rattle.ebpf_base.proofs.Faults.{first_some-push, or_else-None}
use Rattle.ebpf_base.specs.Faults.{first_some, or_else}
use Rattle.ebpf_base.specs.Maps.{lent_bytes}
use Rattle.ebpf_ksyms.specs.Addresses.{words, address_and_name, is_hexadecimal, stated_address, Item, Line, address_of, addresses, address_in_line, line_fault, line_of_item, lines_fault, named_address_fault, address_if_named, stated_fault, with_before, is_one_of}
use Rattle.ebpf_ksyms.specs.PrivateContracts.{only_at, AreRead, KnownAddresses, with_read_line, read_line_fault, named_line_fault}
use Rattle.ebpf_ksyms.specs.declared.error.KsymsError.{KsymsError}
use denote.Ref.{Bor}

-- ---- the first line of a text, the words of a line, and the number that a word states

-- ---- the words of a line, one after the other

is_word : List ℕ → Bool
is_word part = nat_lt 0 (length part)

module _ (p : ℕ → Bool) where
  parts : List ℕ → List (List ℕ)
  parts line = filter is_word (slice_split p line)

  -- what separates words is passed over
  parts-gap : (gap line : List ℕ) → AllPass p gap → parts (gap ++ line) ≡ parts line
  unfolding parts is_word
  parts-gap [] line h = refl
  parts-gap (b ∷ gap) line h =
      ap (filter is_word) (slice_split-cons_yes p b (gap ++ line) (h 0 b (omega arith)))
      ∙ parts-gap gap line (All-tail (λ x. p x ≡ true) b gap h)

  parts-none : (gap : List ℕ) → AllPass p gap → parts gap ≡ []
  unfolding parts is_word
  parts-none gap h = ap parts (sym (append-nil gap)) ∙ parts-gap gap [] h

  first_is_word : (x : List ℕ) (rest : List (List ℕ)) → 0 < length x → filter is_word (x ∷ rest) ≡ x ∷ filter is_word rest
  unfolding is_word
  first_is_word x rest long =
      let yes : nat_lt 0 (length x) ≡ true = grind (arith, nat_tests) in
      rw yes refl

  no_bytes : (rest : List ℕ) → length rest ≡ 0 → rest ≡ []
  no_bytes [] e = refl
  no_bytes (b ∷ rest) e = absurd (omega arith)

  -- a word, what separates it, and the rest
  parts-word : (x sep rest : List ℕ) → 0 < length x → All (λ b. p b ≡ false) x → AllPass p sep → length sep ≤ 1 → (length sep ≡ 0 → length rest ≡ 0) → parts (x ++ (sep ++ rest)) ≡ x ∷ parts rest
  unfolding parts is_word
  parts-word x [] rest long apart passes short ends =
      let none : rest ≡ [] = no_bytes rest (ends refl) in
      ap (λ r. parts (x ++ r)) none
      ∙ ap parts (append-nil x)
      ∙ ap (filter is_word) (slice_split_none p x apart)
      ∙ first_is_word x [] long
      ∙ ap (λ r. x ∷ parts r) (sym none)
  parts-word x (y ∷ []) rest long apart passes short ends =
      ap (filter is_word) (slice_split_at p x y rest apart (passes 0 y (omega arith)))
      ∙ first_is_word x (slice_split p rest) long
  parts-word x (y ∷ z ∷ sep) rest long apart passes short ends = absurd (omega arith)

-- no byte of a text passes, where none of its characters does
not_above : (b : ℕ) → 128 ≤ b → is_ascii_whitespace b ≡ false
not_above b h = grind (arith, nat_tests)

bytes_apart : (x : List ℕ) → NoCharPasses is_ascii_whitespace x → All (λ b. is_ascii_whitespace b ≡ false) x
bytes_apart x none k d inside =
    rw (get_or_default_zero x k d inside) (
    elim (ltb (get_or x k 0) 128) as (λ b. ltb (get_or x k 0) 128 ≡ b → is_ascii_whitespace (get_or x k 0) ≡ false) [
      | true ↦ λ e. NoCharPasses-byte is_ascii_whitespace x k none inside (grind (arith, nat_tests))
      | false ↦ λ e. not_above (get_or x k 0) (grind (arith, nat_tests))
    ] refl)

-- what one call tells of the words
pub words-step : (line rest : List ℕ) (r : Option (Bor (List ℕ))) → CutsAsciiWord line r rest (λ gap x sep. gap ++ (x ++ (sep ++ rest))) → MatchOption r (words line ≡ []) (λ x. words line ≡ x.now ∷ words rest)
unfolding words parts is_word
words-step line rest None h = parts-none is_ascii_whitespace line h.0
words-step line rest (Some x) h =
    ap words h.3.2
    ∙ parts-gap is_ascii_whitespace h.3.0 _ h.3.3
    ∙ parts-word is_ascii_whitespace x.now h.3.1 rest h.0 (bytes_apart x.now h.1) h.3.4.0 h.3.4.1 h.3.4.2

-- ---- the first line of a text, and what stands behind it, by the place of the first byte 0x0a

-- where the first byte 0x0a stands, or where the text ends
abbrev front : List ℕ → ℕ
front text = position_or_len (λ b. eqb b 10) text

found_at : (text : List ℕ) (n : ℕ) → position (λ b. eqb b 10) text ≡ Some n → (front text ≡ n) × (n < length text)
found_at text n found = by_test (nat_lt (front text) (length text)) refl found
  where
    by_test : (b : Bool) → nat_lt (front text) (length text) ≡ b → cond b (Some (front text)) None ≡ Some n → (front text ≡ n) × (n < length text)
    by_test true inside same =
        let here : front text ≡ n = cc in
        let less : front text < length text = grind (arith, nat_tests) in
        (here, omega (arith, here, less))
    by_test false outside same = absurd (cc)

none_at : (text : List ℕ) → position (λ b. eqb b 10) text ≡ None → length text ≤ front text
none_at text none = by_test (nat_lt (front text) (length text)) refl none
  where
    by_test : (b : Bool) → nat_lt (front text) (length text) ≡ b → cond b (Some (front text)) None ≡ None → length text ≤ front text
    by_test true inside same = absurd (cc)
    by_test false outside same = grind (arith, nat_tests)

parts_more : (x : List ℕ) (parts : List (List ℕ)) → 0 < length parts → lines_of_parts (x ∷ parts) ≡ strip_carriage_return x ∷ lines_of_parts parts
parts_more x [] some = absurd (omega arith)
parts_more x (y ∷ more) some = refl

-- a line that ends before the first byte 0x0a
pub line_before : (text : List ℕ) (n : ℕ) → position (λ b. eqb b 10) text ≡ Some n → lines text ≡ strip_carriage_return (take n text) ∷ lines (take (length text - (n + 1)) (drop (n + 1) text))
line_before text n is =
    let at = found_at text n is in
    rw (take_rest text (n + 1)) (
    ap lines_of_parts (slice_split_first (λ b. eqb b 10) text 0 (subst (λ k. k < length text) (sym at.0) at.1))
    ∙ ap (λ k. lines_of_parts (take k text ∷ slice_split (λ b. eqb b 10) (drop (k + 1) text))) at.0
    ∙ parts_more (take n text) (slice_split (λ b. eqb b 10) (drop (n + 1) text)) (omega (arith, length-slice_split (λ b. eqb b 10) (drop (n + 1) text))))

-- without one a text that isn't empty is the one line
one : (text : List ℕ) → eqb (length text) 0 ≡ false → lines_of_parts (text ∷ []) ≡ text ∷ []
one text some = rw some refl

pub one_line : (text : List ℕ) → position (λ b. eqb b 10) text ≡ None → eqb (length text) 0 ≡ false → lines text ≡ text ∷ []
one_line text none some =
    ap lines_of_parts (slice_split_none (λ b. eqb b 10) text (λ k d low. fails_before_first (λ b. eqb b 10) text k d (omega (arith, none_at text none, low))))
    ∙ one text some

-- ---- the number that a word states, and what `from_str_radix` answers

is_hex : ℕ → Bool
is_hex c = nat_lt (digit_value c) 16

true_from_below : (a b : ℕ) → a < b → nat_lt a b ≡ true
true_from_below a b h = grind (arith, nat_tests)

below_from_true : (a b : ℕ) → nat_lt a b ≡ true → a < b
below_from_true a b h = grind (arith, nat_tests)

all_hex : (ds : List ℕ) → AllDigits 16 ds → list_all is_hex ds ≡ true
unfolding is_hex
all_hex [] h = refl
all_hex (c ∷ ds) h = and_from (is_hex c) (list_all is_hex ds) (true_from_below (digit_value c) 16 h.0) (all_hex ds h.1)

all_digits : (ds : List ℕ) → list_all is_hex ds ≡ true → AllDigits 16 ds
unfolding is_hex
all_digits [] h = tt
all_digits (c ∷ ds) h = (below_from_true (digit_value c) 16 (and_parts (is_hex c) (list_all is_hex ds) h).0, all_digits ds (and_parts (is_hex c) (list_all is_hex ds) h).1)

hexadecimal : (ds : List ℕ) → IsNumeral 16 ds → is_hexadecimal ds ≡ true
unfolding is_hex
hexadecimal ds h = and_from (nat_lt 0 (length ds)) (list_all is_hex ds) (true_from_below 0 (length ds) h.0) (all_hex ds h.1)

numeral : (ds : List ℕ) → is_hexadecimal ds ≡ true → IsNumeral 16 ds
unfolding is_hex
numeral ds h = (below_from_true 0 (length ds) (and_parts (nat_lt 0 (length ds)) (list_all is_hex ds) h).0, all_digits ds (and_parts (nat_lt 0 (length ds)) (list_all is_hex ds) h).1)

-- a number by a test that decides whether there is one
chosen : {E P : Type 0} (b : Bool) (v : ℕ) (r : Result ℕ E) → OkIff r P v → (P → b ≡ true) → (b ≡ true → P) → result_ok r ≡ cond b (Some v) None
chosen b v (Ok x) h there met = let e : b ≡ true = there h.0 in rw e (ap Some h.1)
chosen true v (Err e) h there met = absurd (h (met refl))
chosen false v (Err e) h there met = refl

pub stated : {E : Type 0} (word : List ℕ) (r : Result ℕ E) → ParsesUnsigned 64 16 word r → result_ok r ≡ stated_address word
unfolding stated_address
stated word r h =
    let ds : List ℕ = without_leading_plus word in
    let n : ℕ = digits_value 16 ds in
    chosen (is_hexadecimal ds && nat_lt n (2 ^ 64)) n r h
    (λ p. and_from (is_hexadecimal ds) (nat_lt n (2 ^ 64)) (hexadecimal ds p.0) (true_from_below n (2 ^ 64) p.1))
    (λ e. (numeral ds (and_parts (is_hexadecimal ds) (nat_lt n (2 ^ 64)) e).0, below_from_true n (2 ^ 64) (and_parts (is_hexadecimal ds) (nat_lt n (2 ^ 64)) e).1))

-- ---- lines one after the other: their faults, and the addresses that they give

-- ---- one more line at the end

with_before-push : (before lines : List Line) (line : Line) → with_before before (lines ++ line ∷ []) ≡ with_before before lines ++ (before ++ lines, line) ∷ []
with_before-push before [] line = ap (λ b. (b, line) ∷ []) (sym (append-nil before))
with_before-push before (l ∷ lines) line =
    ap (λ es. (before, l) ∷ es) (
    with_before-push (before ++ l ∷ []) lines line
    ∙ ap (λ b. with_before (before ++ l ∷ []) lines ++ (b, line) ∷ []) (append_assoc before (l ∷ []) lines))

pub lines_fault-push : (wanted : List ℕ → Bool) (lines : List Line) (line : Line) → lines_fault wanted (lines ++ line ∷ []) ≡ or_else (lines_fault wanted lines) (line_fault wanted lines line)
unfolding lines_fault
lines_fault-push wanted lines line =
    ap (first_some (λ e. line_fault wanted e.0 e.1)) (with_before-push [] lines line)
    ∙ first_some-push (λ e. line_fault wanted e.0 e.1) (with_before [] lines) (lines, line)

head-append : {A : Type 0} (xs ys : List A) → slice_get (xs ++ ys) 0 ≡ or_else (slice_get xs 0) (slice_get ys 0)
head-append [] ys = refl
head-append (x ∷ xs) ys = refl

head-cons_option : {A : Type 0} (o : Option A) → slice_get (cons_option o []) 0 ≡ o
head-cons_option None = refl
head-cons_option (Some x) = refl

address_of-push : (name : List ℕ) (lines : List Line) (line : Line) → address_of name (lines ++ line ∷ []) ≡ or_else (address_of name lines) (address_in_line name line)
unfolding address_of addresses
address_of-push name lines line =
    ap (λ xs. slice_get xs 0) (filter_map-append (address_in_line name) lines (line ∷ []))
    ∙ head-append (filter_map (address_in_line name) lines) (cons_option (address_in_line name line) [])
    ∙ ap (or_else (slice_get (filter_map (address_in_line name) lines) 0)) (head-cons_option (address_in_line name line))

pub address_of-none : (name : List ℕ) → address_of name [] ≡ None
unfolding address_of addresses
address_of-none name = refl

pub lines_fault-none : (wanted : List ℕ → Bool) → lines_fault wanted [] ≡ None
unfolding lines_fault
lines_fault-none wanted = refl

-- ---- what is known

module _ (names : List (List ℕ)) (lines : List Line) (known : KnownAddresses) (tells : (q : List ℕ) → known q ≡ only_at names (λ name. address_of name lines) q) where
  pair-known : (pair : Option (List ℕ × List ℕ)) → named_line_fault known pair ≡ named_address_fault (is_one_of names) lines pair
  pair-known None = refl
  pair-known (Some pair) =
      rw (tells pair.1) (
      elim (is_one_of names pair.1) as (λ b. known_by pair (cond b (Some (address_of pair.1 lines)) None) ≡ cond b (stated_fault pair.1 (address_of pair.1 lines) pair.0 (stated_address pair.0)) None) [ true ↦ refl | false ↦ refl ])
    where
      known_by : List ℕ × List ℕ → Option (Option ℕ) → Option KsymsError
      known_by pair None = None
      known_by pair (Some before) = stated_fault pair.1 before pair.0 (stated_address pair.0)

  fault-known : (line : Line) → read_line_fault known line ≡ line_fault (is_one_of names) lines line
  unfolding line_fault
  fault-known (Err e) = refl
  fault-known (Ok line) = pair-known (address_and_name line)

  known-more : (line : Line) (q : List ℕ) → with_read_line known line q ≡ only_at names (λ name. address_of name (lines ++ line ∷ [])) q
  known-more (Err e) q =
      tells q ∙ ap (λ a. cond (is_one_of names q) (Some a) None) (sym (address_of-push q lines (Err e) ∙ or_else-None (address_of q lines)))
  known-more (Ok line) q =
      ap (option_map (λ before. or_else before (address_if_named q (address_and_name line)))) (tells q)
      ∙ inside (is_one_of names q)
      ∙ ap (λ a. cond (is_one_of names q) (Some a) None) (sym (address_of-push q lines (Ok line)))
    where
      inside : (b : Bool) → option_map (λ before. or_else before (address_if_named q (address_and_name line))) (cond b (Some (address_of q lines)) None) ≡ cond b (Some (or_else (address_of q lines) (address_if_named q (address_and_name line)))) None
      inside true = refl
      inside false = refl

-- ---- items of an iterator

lines-push : (items : List Item) (item : Item) → map line_of_item (items ++ item ∷ []) ≡ map line_of_item items ++ line_of_item item ∷ []
lines-push items item = map-append line_of_item items (item ∷ [])

module _ (names : List (List ℕ)) (items : List Item) (item : Item) (known : KnownAddresses) (read : lines_fault (is_one_of names) (map line_of_item items) ≡ None) (tells : (q : List ℕ) → known q ≡ only_at names (λ name. address_of name (map line_of_item items)) q) where
  fault_after : lines_fault (is_one_of names) (map line_of_item (items ++ item ∷ [])) ≡ read_line_fault known (line_of_item item)
  fault_after =
      ap (lines_fault (is_one_of names)) (lines-push items item)
      ∙ lines_fault-push (is_one_of names) (map line_of_item items) (line_of_item item)
      ∙ ap (λ o. or_else o (line_fault (is_one_of names) (map line_of_item items) (line_of_item item))) read
      ∙ sym (fault-known names (map line_of_item items) known tells (line_of_item item))

  pub read-more : read_line_fault known (line_of_item item) ≡ None → lines_fault (is_one_of names) (map line_of_item (items ++ item ∷ [])) ≡ None
  read-more h = fault_after ∙ h

  pub refused-here : (e : KsymsError) → read_line_fault known (line_of_item item) ≡ Some e → lines_fault (is_one_of names) (map line_of_item (items ++ item ∷ [])) ≡ Some e
  refused-here e h = fault_after ∙ h

  pub tells-more : (after : KnownAddresses) → ((q : List ℕ) → after q ≡ with_read_line known (line_of_item item) q) → (q : List ℕ) → after q ≡ only_at names (λ name. address_of name (map line_of_item (items ++ item ∷ []))) q
  tells-more after h q =
      h q
      ∙ known-more names (map line_of_item items) known tells (line_of_item item) q
      ∙ ap (λ ls. only_at names (λ name. address_of name ls) q) (sym (lines-push items item))

-- one more item
pub yields-push : {S A : Type 0} (steps : S → Option A → S → Type 0) (s t u : S) (xs : List A) (x : A) → Yields steps s xs t → steps t (Some x) u → Yields steps s (xs ++ x ∷ []) u
yields-push steps s t u [] x y step = (u, subst (λ r. steps r (Some x) u) (sym y) step, refl)
yields-push steps s t u (z ∷ xs) x y step = (y.0, y.1, yields-push steps y.0 t u xs x y.2 step)

-- ---- all lines, or none

never_zero : (n : ℕ) → eqb (n + 1) 0 ≡ true → ⊥
never_zero n h = grind (arith, nat_tests)

pub no_lines : {S : Type 0} (steps : S → Option Item → S → Type 0) (lines : S) (names : List (Bor (List ℕ))) (known : KnownAddresses) → eqb (length names) 0 ≡ true → ((q : List ℕ) → known q ≡ only_at (lent_bytes names) (λ _. None) q) → AreRead steps lines (lent_bytes names) known
no_lines steps lines [] known none tells = record { items = []; counted = refl; read = lines_fault-none _; addresses = tells }
no_lines steps lines (n ∷ names) known none tells = absurd (never_zero (length names) (rw add-one none))

-- there are names
pub some_names : (names : List (Bor (List ℕ))) → eqb (length names) 0 ≡ false → nat_lt 0 (length (lent_bytes names)) ≡ true
some_names [] none = cc
some_names (n ∷ names) some = grind (arith, nat_tests)

pub first_known : (names : List (List ℕ)) (known : KnownAddresses) → ((q : List ℕ) → known q ≡ only_at names (λ _. None) q) → (q : List ℕ) → known q ≡ only_at names (λ name. address_of name (map line_of_item [])) q
first_known names known tells q = tells q ∙ ap (λ a. cond (is_one_of names q) (Some a) None) (sym (address_of-none q))

-- a refusal of which something follows, out of memory aside
pub match_then : {P Q : Type 0} (b : Bool) → (P → Q) → MatchBool b ⊤ P → MatchBool b ⊤ Q
match_then true f h = tt
match_then false f h = f h
