-- The symbols of a Text section in order of their address: what stands at one address, and two at one.
use Rattle.std.proofs.Common.{append_assoc, length-append, Option, slice_get, ◌≡◌, ℕ, suc, ◌+◌, ◌<◌, Bool, true, false, List, [], ◌∷◌, ◌++◌, length, take, drop, Some, None, refl, sym, ap, ◌∙◌, arith, ◌≤◌, map, filter, subst}
use Rattle.std.proofs.Math.Seq.{take-suc}
use Rattle.std.proofs.lemmas.Bool.Decides.{nat_tests}
use Rattle.std.proofs.lemmas.List.{length-map}
use Rattle.std.specs.List.{find, range_with_len}
use Rattle.std.specs.Prelude.{is_some, if◌then◌else◌, ◌&&◌, slice_index_or, ◌==◌}
use Rattle.ebpf_base.proofs.Lists.{filter-filter, filter-map, first-filter, rest_more}
use Rattle.ebpf_base.specs.Faults.{or_else, first_some}
use Rattle.ebpf_sections.specs.Symbols.{SymbolValue}
use Rattle.ebpf_sections.specs.Texts.{is_text_at, is_defined_text, repeated_address, repeated, conflict_fault, conflict_fault_at, is_at}
use Rattle.ebpf_sections.proofs.InOrder.{Rises, one_at_most}

-- ---- walks over symbols and offsets

-- one more element at the end
find_more : {X : Type 0} (p : X → Bool) (xs : List X) (x : X) → find p (xs ++ x ∷ []) ≡ (if is_some (find p xs) then find p xs else (if p x then Some x else None))
find_more p [] x = refl
find_more p (y ∷ ys) x = elim (p y) as (λ b. (if b then Some y else find p (ys ++ x ∷ [])) ≡ (if is_some (if b then Some y else find p ys) then (if b then Some y else find p ys) else (if p x then Some x else None))) [ true ↦ refl | false ↦ find_more p ys x ]

-- the element at i ends the front, and begins the rest
pub front_more : {X : Type 0} (xs : List X) (i : ℕ) (x : X) → i < length xs → x ≡ slice_index_or xs i x → take (i + 1) xs ≡ take i xs ++ x ∷ []
front_more xs i x below here =
    let on : i + 1 ≡ suc i = omega arith in
    ap (λ n. take n xs) on ∙ take-suc xs i x below ∙ ap (λ y. take i xs ++ y ∷ []) (sym here)

pub find_front : {X : Type 0} (p : X → Bool) (xs : List X) (i : ℕ) (x : X) → i < length xs → x ≡ slice_index_or xs i x
    → find p (take (i + 1) xs) ≡ (if is_some (find p (take i xs)) then find p (take i xs) else (if p x then Some x else None))
find_front p xs i x below here = ap (find p) (front_more xs i x below here) ∙ find_more p (take i xs) x

-- the first repeated address, symbol by symbol
abbrev pub repeated_from : List SymbolValue → List SymbolValue → Option ℕ
repeated_from before [] = None
repeated_from before (y ∷ rest) =
    if is_defined_text y && is_some (find (is_text_at y.address) before) then Some y.address
    else repeated_from (before ++ y ∷ []) rest

abbrev repeated_at : List SymbolValue → ℕ → Option ℕ
repeated_at symbols i = repeated_address (take i symbols) (slice_get symbols i)

place_of : (before : List SymbolValue) (y : SymbolValue) (rest : List SymbolValue) → slice_get (before ++ y ∷ rest) (length before) ≡ Some y
place_of [] y rest = refl
place_of (b ∷ before) y rest = place_of before y rest

front_of : (before rest : List SymbolValue) → take (length before) (before ++ rest) ≡ before
front_of [] rest = refl
front_of (b ∷ before) rest = ap (λ l. b ∷ l) (front_of before rest)

by_place : (before rest : List SymbolValue) (n : ℕ) → n ≡ length before → repeated_from before rest ≡ first_some (repeated_at (before ++ rest)) (range_with_len n (length rest))
by_place before [] n e = refl
by_place before (y ∷ rest) n e =
    let all : List SymbolValue = before ++ y ∷ rest in
    let here : repeated_at all n ≡ repeated_address before (Some y) =
    ap (repeated_at all) e ∙ ap (λ f. repeated_address f (slice_get all (length before))) (front_of before (y ∷ rest)) ∙ ap (repeated_address before) (place_of before y rest) in
    let longer : length (before ++ y ∷ []) ≡ length before + 1 = length-append before (y ∷ []) in
    let next : n + 1 ≡ length (before ++ y ∷ []) = omega (arith, e, longer) in
    let later : repeated_from (before ++ y ∷ []) rest ≡ first_some (repeated_at all) (range_with_len (n + 1) (length rest)) =
    by_place (before ++ y ∷ []) rest (n + 1) next ∙ ap (λ l. first_some (repeated_at l) (range_with_len (n + 1) (length rest))) (append_assoc before (y ∷ []) rest) in
    elim (is_defined_text y && is_some (find (is_text_at y.address) before)) as (λ b. (if b then Some y.address else repeated_from (before ++ y ∷ []) rest)
    ≡ or_else (if b then Some y.address else None) (first_some (repeated_at all) (range_with_len (n + 1) (length rest)))) [
      | true ↦ refl
      | false ↦ later
    ]
    ∙ ap (λ x. or_else x (first_some (repeated_at all) (range_with_len (n + 1) (length rest)))) (sym here)

pub repeated_is : (ys : List SymbolValue) → repeated_from [] ys ≡ repeated ys
repeated_is ys = by_place [] ys 0 refl

-- a symbol that repeats no address
pub repeated_more : (ys : List SymbolValue) (i : ℕ) (y : SymbolValue) → i < length ys → y ≡ slice_index_or ys i y
    → (is_defined_text y && is_some (find (is_text_at y.address) (take i ys))) ≡ false
    → repeated_from (take (i + 1) ys) (drop (i + 1) ys) ≡ repeated_from (take i ys) (drop i ys)
repeated_more ys i y below here apart =
    ap (λ f. repeated_from f (drop (i + 1) ys)) (front_more ys i y below here)
    ∙ sym (ap (repeated_from (take i ys)) (rest_more ys i y below here)
    ∙ ap (λ b. if b then Some y.address else repeated_from (take i ys ++ y ∷ []) (drop (i + 1) ys)) apart)

-- a symbol that does
pub repeated_here : (ys : List SymbolValue) (i : ℕ) (y : SymbolValue) → i < length ys → y ≡ slice_index_or ys i y
    → (is_defined_text y && is_some (find (is_text_at y.address) (take i ys))) ≡ true
    → repeated_from (take i ys) (drop i ys) ≡ Some y.address
repeated_here ys i y below here twice =
    ap (repeated_from (take i ys)) (rest_more ys i y below here)
    ∙ ap (λ b. if b then Some y.address else repeated_from (take i ys ++ y ∷ []) (drop (i + 1) ys)) twice

-- ---- symbols, of which no two are at one address

module _ {X : Type 0} (p : X → Bool) where
  counts_one : (before : List X) (y : X) (rest : List X) → p y ≡ true → 0 < length (filter p (before ++ y ∷ rest))
  counts_one [] y rest passes = rw passes (omega arith)
  counts_one (b ∷ before) y rest passes = by_case (p b) refl (counts_one before y rest passes)
    where
      by_case : (t : Bool) → p b ≡ t → 0 < length (filter p (before ++ y ∷ rest)) → 0 < length (filter p (b ∷ (before ++ y ∷ rest)))
      by_case true e more = rw e (omega arith)
      by_case false e more = rw e more

  -- where at most one passes, none before it does
  none_before : (before : List X) (y : X) (rest : List X) → p y ≡ true → length (filter p (before ++ y ∷ rest)) ≤ 1 → is_some (find p before) ≡ false
  none_before [] y rest passes alone = refl
  none_before (b ∷ before) y rest passes alone = by_case (p b) refl alone (none_before before y rest passes)
    where
      by_case : (t : Bool) → p b ≡ t → length (filter p (b ∷ (before ++ y ∷ rest))) ≤ 1 → (length (filter p (before ++ y ∷ rest)) ≤ 1 → is_some (find p before) ≡ false)
          → is_some (find p (b ∷ before)) ≡ false
      by_case true e alone others =
          let twice : length (b ∷ filter p (before ++ y ∷ rest)) ≤ 1 = rw e at alone in
          absurd (omega (arith, twice, counts_one before y rest passes))
      by_case false e alone others = rw e (others (rw e at alone))

module _ {X : Type 0} (v : X → SymbolValue) where
  -- those of the symbols at an address
  pub at_one_address : (xs ys : List X) (q : ℕ) → filter (λ x. (v x).address == q) ys ≡ filter (λ x. (v x).address == q) xs → filter (is_at q) (map v ys) ≡ filter (is_at q) (map v xs)
  at_one_address xs ys q same = filter-map (is_at q) v ys ∙ ap (map v) same ∙ sym (filter-map (is_at q) v xs)

  -- the defined Text symbols there, which stand in another order
  pub texts_at : (xs zs : List X) (ys : List SymbolValue) (q : ℕ) → map v zs ≡ filter is_defined_text ys → filter (is_at q) (map v xs) ≡ filter (is_at q) (map v zs) → filter (is_at q) (map v xs) ≡ filter (is_text_at q) ys
  texts_at xs zs ys q all same = same ∙ ap (filter (is_at q)) all ∙ filter-filter (is_at q) is_defined_text ys

  pub first_at : (xs : List X) (ys : List SymbolValue) (q : ℕ) → filter (is_at q) (map v xs) ≡ filter (is_text_at q) ys → find (is_at q) (map v xs) ≡ find (is_text_at q) ys
  first_at xs ys q same = sym (first-filter (is_at q) (map v xs)) ∙ ap (λ l. slice_get l 0) same ∙ first-filter (is_text_at q) ys

is_new : (before : List SymbolValue) (y : SymbolValue) (rest : List SymbolValue) → length (filter (is_text_at y.address) (before ++ y ∷ rest)) ≤ 1
    → (is_defined_text y && is_some (find (is_text_at y.address) before)) ≡ false
is_new before y rest alone = by_case (is_defined_text y) refl
  where
    by_case : (b : Bool) → is_defined_text y ≡ b → (is_defined_text y && is_some (find (is_text_at y.address) before)) ≡ false
    by_case false e = rw e refl
    by_case true e =
        let same : (y.address == y.address) ≡ true = grind (arith, nat_tests) in
        let passes : is_text_at y.address y ≡ true = rw (e, same) refl in
        rw e (none_before (is_text_at y.address) before y rest passes alone)

no_repeat : (before rest : List SymbolValue) → ((q : ℕ) → length (filter (is_text_at q) (before ++ rest)) ≤ 1) → repeated_from before rest ≡ None
no_repeat before [] alone = refl
no_repeat before (y ∷ rest) alone =
    rw (is_new before y rest (alone y.address))
    (no_repeat (before ++ y ∷ []) rest (λ q. subst (λ l. length (filter (is_text_at q) l) ≤ 1) (sym (append_assoc before (y ∷ []) rest)) (alone q)))

-- no two are at one address, where all of them rise
pub no_conflict : {X : Type 0} (v : X → SymbolValue) (section : ℕ) (xs : List X) (ys : List SymbolValue) → Rises (λ x. (v x).address) xs → ((q : ℕ) → filter (is_at q) (map v xs) ≡ filter (is_text_at q) ys) → conflict_fault section ys ≡ None
unfolding conflict_fault
no_conflict v section xs ys rising all =
    ap (conflict_fault_at section) (sym (repeated_is ys) ∙ no_repeat [] ys (λ q.
    let one : length (filter (λ x. (v x).address == q) xs) ≤ 1 = one_at_most (λ x. (v x).address) q xs rising in
    let many : length (filter (is_at q) (map v xs)) ≡ length (filter (λ x. (v x).address == q) xs) = ap length (filter-map (is_at q) v xs) ∙ length-map (filter (λ x. (v x).address == q) xs) v in
    subst (λ l. length l ≤ 1) (all q) (subst (λ k. k ≤ 1) (sym many) one)))
