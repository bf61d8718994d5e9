-- The keys of a section's functions, and their order by offset.
use Rattle.std.proofs.Common.{◌≡◌, ℕ, suc, zero, ◌<◌, List, [], ◌∷◌, Some, refl, sym, ap, subst, ◌∙◌, arith, slice_get, ◌+◌, ◌*◌, ◌/◌, ◌%◌, ◌^◌, ◌≤◌, Bool, true, false, cond, ◌++◌, map, filter, length, Option, None, nat_lt, ◌==◌, eqb-true, div-add-mod', mul-le-mul_right, suc-mul, ⊎_elim, if◌then◌else◌}
use Rattle.std.proofs.lemmas.Bool.{cases_lt, eqb-false, ltb-true, and_parts}
use Rattle.std.specs.Cmp.{eq_by_cmp_equiv}
use Rattle.std.specs.List.{AllByRecursion, flat_map, find}
use Rattle.std.specs.Ordering.{eq_by_cmp}
use Rattle.ebpf_base.proofs.Faults.{both_None}
use Rattle.ebpf_base.proofs.Maps.{key_exact, is_equal}
use Rattle.ebpf_base.specs.Faults.{first_some}
use Rattle.ebpf_base.specs.Maps.{key_cmp, key_total}
use Rattle.ebpf_btf_ext.specs.ExtReading.{ExtInfo}
use Rattle.ebpf_model.specs.declared.function.Function.{Function}
use Rattle.ebpf_parts.specs.Sections.{SectionValue}
use Rattle.ebpf_parts.specs.declared.section.EbpfSectionKind.{EbpfSectionKind}
use Rattle.ebpf_parts.specs.declared.section.EbpfSectionKind.TheVariants.{Text, Program as Programs}
use Rattle.ebpf_parsing.specs.Laws.{OffsetsRise}
use Rattle.ebpf_parsing.specs.OfSection.{functions_by, functions_in}
use Rattle.ebpf_sections.specs.Programs.{with_key, program_function, is_program_symbol}
use Rattle.ebpf_sections.specs.Records.{FuncAndLineInfo, func_and_line_info_of}
use Rattle.ebpf_sections.specs.Symbols.{SymbolValue}
use Rattle.ebpf_sections.specs.Texts.{is_text_at, is_defined_text, address_at, symbol_at_offset, text_function, text_function_of, function_at, text_fault_at, size_at, symbol_size_of, offsets_from}
use Rattle.ebpf_sections.proofs.Lasts.{KeysDiffer}
use Rattle.ebpf_sections.proofs.Tiles.{Stands, stands}

-- ---- functions in order of their offset: there is one such order

-- the functions of one list are functions of another
abbrev pub Within : List Function → List Function → Type 0
Within xs ys = (i : ℕ) (f : Function) → slice_get xs i ≡ Some f → (j : ℕ) × (slice_get ys j ≡ Some f)

-- a function in front of others
pub rise_cons : (x : Function) (fs : List Function) → ((j : ℕ) (g : Function) → slice_get fs j ≡ Some g → x.section_offset < g.section_offset) → OffsetsRise fs → OffsetsRise (x ∷ fs)
rise_cons x fs first rest zero zero f g below e h = absurd (let no : ⊥ = omega (arith, below) in no)
rise_cons x fs first rest (suc i) zero f g below e h = absurd (let no : ⊥ = omega (arith, below) in no)
rise_cons x fs first rest zero (suc j) f g below e h = let same : x ≡ f = cc in subst (λ t. t.section_offset < g.section_offset) same (first j g h)
rise_cons x fs first rest (suc i) (suc j) f g below e h = rest i j f g (omega (arith, below)) e h

tail_rise : (x : Function) (xs : List Function) → OffsetsRise (x ∷ xs) → OffsetsRise xs
tail_rise x xs r i j f g below e h = r (suc i) (suc j) f g (omega (arith, below)) e h

first_same : (x y : Function) (xs ys : List Function) → OffsetsRise (x ∷ xs) → OffsetsRise (y ∷ ys)
    → (j : ℕ) → slice_get (y ∷ ys) j ≡ Some x → (k : ℕ) → slice_get (x ∷ xs) k ≡ Some y → x ≡ y
first_same x y xs ys rx ry zero e k h = let same : x ≡ y = cc in same
first_same x y xs ys rx ry (suc j) e zero h = let same : x ≡ y = cc in same
first_same x y xs ys rx ry (suc j) e (suc k) h =
    let a : y.section_offset < x.section_offset = ry 0 (suc j) y x (omega arith) refl e in
    let b : x.section_offset < y.section_offset = rx 0 (suc k) x y (omega arith) refl h in
    absurd (let no : ⊥ = omega (arith, a, b) in no)

-- one behind the first is among those behind the first
tail_place : (x y : Function) (xs ys : List Function) → x ≡ y → OffsetsRise (x ∷ xs) → (i : ℕ) (f : Function) → slice_get xs i ≡ Some f
    → (j : ℕ) → slice_get (y ∷ ys) j ≡ Some f → (k : ℕ) × (slice_get ys k ≡ Some f)
tail_place x y xs ys same rx i f e zero h =
    let here : y ≡ f = cc in
    let a : x.section_offset < f.section_offset = rx 0 (suc i) x f (omega arith) refl e in
    let b : x.section_offset ≡ f.section_offset = ap (λ t. t.section_offset) (same ∙ here) in
    absurd (let no : ⊥ = omega (arith, a, b) in no)
tail_place x y xs ys same rx i f e (suc j) h = (j, h)

pub one_order : (xs ys : List Function) → OffsetsRise xs → OffsetsRise ys → Within xs ys → Within ys xs → xs ≡ ys
one_order [] [] rx ry w v = refl
one_order [] (y ∷ ys) rx ry w v = let found = v 0 y refl in absurd (let e : slice_get [] found.0 ≡ Some y = found.1 in let no : ⊥ = cc in no)
one_order (x ∷ xs) [] rx ry w v = let found = w 0 x refl in absurd (let e : slice_get [] found.0 ≡ Some x = found.1 in let no : ⊥ = cc in no)
one_order (x ∷ xs) (y ∷ ys) rx ry w v =
    let there = w 0 x refl in
    let here = v 0 y refl in
    let same : x ≡ y = first_same x y xs ys rx ry there.0 there.1 here.0 here.1 in
    let rest : xs ≡ ys = one_order xs ys (tail_rise x xs rx) (tail_rise y ys ry)
    (λ i f e. let found = w (suc i) f e in tail_place x y xs ys same rx i f e found.0 found.1)
    (λ i f e. let found = v (suc i) f e in tail_place y x ys xs (sym same) ry i f e found.0 found.1) in
    λ k. same k ∷ rest k

-- ---- the keys of a section's functions

abbrev pub Key : Type 0
Key = ℕ × ℕ

abbrev pub Entry : Type 0
Entry = (ℕ × ℕ) × Function

-- other keys are not equal
keys_differ : (p q : Key) → (p ≡ q → ⊥) → eq_by_cmp key_cmp p q ≡ false
keys_differ p q differ = elim (eq_by_cmp key_cmp p q) as (λ b. eq_by_cmp key_cmp p q ≡ b → eq_by_cmp key_cmp p q ≡ false) [
  | true ↦ λ t. absurd (differ (key_exact p q (is_equal _ t)))
  | false ↦ λ t. t
] refl

-- a key of a section is that of an address where the addresses are equal
pub key_of_address : (number a b : ℕ) → eq_by_cmp key_cmp (number, a) (number, b) ≡ (b == a)
key_of_address number a b = elim (b == a) as (λ t. (b == a) ≡ t → eq_by_cmp key_cmp (number, a) (number, b) ≡ t) [
  | true ↦ λ t. ap (λ x. eq_by_cmp key_cmp (number, a) (number, x)) (eqb-true _ _ t) ∙ (eq_by_cmp_equiv key_total).refl (number, a)
  | false ↦ λ t. keys_differ (number, a) (number, b) (λ same. eqb-false _ _ t (sym (ap (λ k. k.1) same)))
] refl

pub entries_apart : (q : Key) (number : ℕ) (es : List Entry) → (q.0 ≡ number → ⊥) → AllByRecursion (λ e. e.0.0 ≡ number) es → AllByRecursion (λ e. eq_by_cmp key_cmp q e.0 ≡ false) es
entries_apart q number [] differ own = tt
entries_apart q number (e ∷ es) differ own = (keys_differ q e.0 (λ same. differ (ap (λ k. k.0) same ∙ own.0)), entries_apart q number es differ own.1)

-- ---- the section of each function

module _ (infos : FuncAndLineInfo) (s : SectionValue) (ys : List SymbolValue) where
  program_keys : (zs : List SymbolValue) → AllByRecursion (λ e. e.0.0 ≡ s.index.0) (map with_key (map (program_function infos s) zs))
  unfolding program_function
  program_keys [] = tt
  program_keys (z ∷ zs) = (refl, program_keys zs)

  one_text_key : (o : ℕ) (z : Option SymbolValue) (fs : List Function) → AllByRecursion (λ e. e.0.0 ≡ s.index.0) (map with_key fs)
      → AllByRecursion (λ e. e.0.0 ≡ s.index.0) (map with_key (text_function_of infos s o z ++ fs))
  unfolding text_function
  one_text_key o None fs h = h
  one_text_key o (Some y) fs h = (refl, h)

  pub text_keys : (os : List ℕ) → AllByRecursion (λ e. e.0.0 ≡ s.index.0) (map with_key (flat_map (function_at infos s ys) os))
  unfolding function_at
  text_keys [] = tt
  text_keys (o ∷ os) = one_text_key o (symbol_at_offset s ys o) _ (text_keys os)

  keys_by : (kind : EbpfSectionKind) → AllByRecursion (λ e. e.0.0 ≡ s.index.0) (map with_key (functions_by kind infos s ys))
  keys_by Programs = program_keys (filter is_program_symbol ys)
  keys_by Text = text_keys (offsets_from (length s.bytes) s ys 0)
  keys_by _ = tt

pub section_keys : (ext : Option ExtInfo) (s : SectionValue) (ys : List SymbolValue) → AllByRecursion (λ e. e.0.0 ≡ s.index.0) (functions_in ext s ys)
unfolding functions_in
section_keys ext s ys = keys_by (func_and_line_info_of ext s.name) s ys s.kind

-- ---- the addresses in a Text section rise

find_passes : {A : Type 0} (p : A → Bool) (xs : List A) (y : A) → find p xs ≡ Some y → p y ≡ true
find_passes p [] y e = cc
find_passes p (x ∷ xs) y e = elim (p x) as (λ b. p x ≡ b → cond b (Some x) (find p xs) ≡ Some y → p y ≡ true) [
  | true ↦ λ t f. let same : x ≡ y = cc in ap p (sym same) ∙ t
  | false ↦ λ t f. find_passes p xs y f
] refl e

module _ (infos : FuncAndLineInfo) (s : SectionValue) (ys : List SymbolValue) where
  symbol_address : (o : ℕ) (y : SymbolValue) → symbol_at_offset s ys o ≡ Some y → y.address ≡ address_at s o
  unfolding symbol_at_offset
  symbol_address o y e = eqb-true _ _ (and_parts (is_defined_text y) (y.address == address_at s o) (find_passes (is_text_at (address_at s o)) ys y e)).1

-- ---- the offsets in a Text section rise

module _ (infos : FuncAndLineInfo) (s : SectionValue) (ys : List SymbolValue) where
  abbrev functions_from : ℕ → ℕ → List Function
  functions_from n o = flat_map (function_at infos s ys) (offsets_from n s ys o)

  up_one : (o : ℕ) (z : Option SymbolValue) (rest : List Function) → ((i : ℕ) (f : Function) → slice_get rest i ≡ Some f → o ≤ f.section_offset)
      → (i : ℕ) (f : Function) → slice_get (text_function_of infos s o z ++ rest) i ≡ Some f → o ≤ f.section_offset
  unfolding text_function
  up_one o None rest h i f e = h i f e
  up_one o (Some y) rest h zero f e = let same : text_function infos s o y ≡ f = cc in subst (λ g. o ≤ g.section_offset) same (let here : o ≤ o = omega arith in here)
  up_one o (Some y) rest h (suc i) f e = h i f e

  -- all functions from an offset on begin there or behind it
  offsets_up : (n o i : ℕ) (f : Function) → slice_get (functions_from n o) i ≡ Some f → o ≤ f.section_offset
  unfolding offsets_from function_at
  offsets_up zero o i f e = absurd (let no : ⊥ = cc in no)
  offsets_up (suc n) o i f e = elim (nat_lt o (length s.bytes)) as (λ b. slice_get (flat_map (function_at infos s ys) (if b then o ∷ offsets_from n s ys (o + size_at s ys o) else [])) i ≡ Some f → o ≤ f.section_offset) [
    | true ↦ λ g. up_one o (symbol_at_offset s ys o) (functions_from n (o + size_at s ys o))
        (λ k h q. let more : o + size_at s ys o ≤ h.section_offset = offsets_up n (o + size_at s ys o) k h q in omega (arith, more)) i f g
    | false ↦ λ g. absurd (let no : ⊥ = cc in no)
  ] e

  rise_one : (n o : ℕ) → (known : Stands s o (symbol_at_offset s ys o)) → OffsetsRise (functions_from n (o + size_at s ys o))
      → OffsetsRise (function_at infos s ys o ++ functions_from n (o + size_at s ys o))
  unfolding function_at size_at text_function
  rise_one n o known rest =
      let size : size_at s ys o ≡ known.y.size = ap symbol_size_of known.found in
      subst (λ z. OffsetsRise (text_function_of infos s o z ++ functions_from n (o + size_at s ys o))) (sym known.found)
      (rise_cons (text_function infos s o known.y) (functions_from n (o + size_at s ys o))
      (λ j g e. let more : o + size_at s ys o ≤ g.section_offset = offsets_up n (o + size_at s ys o) j g e in
      let below : o < g.section_offset = omega (arith, more, size, known.some) in below) rest)

  pub rise : (n o : ℕ) → first_some (text_fault_at s ys) (offsets_from n s ys o) ≡ None → OffsetsRise (functions_from n o)
  unfolding offsets_from text_fault_at
  rise zero o clear = λ i j f g below e h. absurd (let no : ⊥ = cc in no)
  rise (suc n) o clear = elim (nat_lt o (length s.bytes)) as (λ b. first_some (text_fault_at s ys) (if b then o ∷ offsets_from n s ys (o + size_at s ys o) else []) ≡ None
      → OffsetsRise (flat_map (function_at infos s ys) (if b then o ∷ offsets_from n s ys (o + size_at s ys o) else []))) [
        | true ↦ λ e.
            let both = both_None (text_fault_at s ys o) (first_some (text_fault_at s ys) (offsets_from n s ys (o + size_at s ys o))) e in
            rise_one n o (stands s o (symbol_at_offset s ys o) both.0) (rise n (o + size_at s ys o) both.1)
        | false ↦ λ e. λ i j f g below c h. absurd (let no : ⊥ = cc in no)
      ] clear

-- ---- the addresses in a Text section differ

suc-times : (k m : ℕ) → (k + 1) * m ≡ k * m + m
suc-times k m = ap (λ n. n * m) (let e : k + 1 ≡ suc k = omega arith in e) ∙ suc-mul k m

-- numbers that are less than m apart have other remainders
remainders_differ : (m x y : ℕ) → x < y → y < x + m → x % m ≡ y % m → ⊥
remainders_differ m x y below near same =
    let a : x / m * m + x % m ≡ x = div-add-mod' x m in
    let b : y / m * m + y % m ≡ y = div-add-mod' y m in
    ⊎_elim
    (λ more. let far : (x / m + 1) * m ≤ y / m * m = mul-le-mul_right m (let c : x / m + 1 ≤ y / m = omega arith in c) in
    let wide : (x / m + 1) * m ≡ x / m * m + m = suc-times (x / m) m in
    omega (arith, a, b, far, wide, same))
    (λ less. let low : y / m * m ≤ x / m * m = mul-le-mul_right m less in omega (arith, a, b, low, same))
    (cases_lt (x / m) (y / m))

module _ (infos : FuncAndLineInfo) (s : SectionValue) (ys : List SymbolValue) (short : length s.bytes ≤ 2 ^ 64) where
  under : (m p : ℕ) → p < length s.bytes → length s.bytes ≤ m → p < m
  under m p inside small = omega arith

  addresses_differ : (m o p : ℕ) → o < p → p < m → (s.address + o) % m ≡ (s.address + p) % m → ⊥
  addresses_differ m o p below near = remainders_differ m (s.address + o) (s.address + p) (omega arith) (omega arith)

  apart_one : (o p : ℕ) (z : Option SymbolValue) (fs : List Function) → o < p → p < length s.bytes → ((y : SymbolValue) → z ≡ Some y → y.address ≡ address_at s p)
      → AllByRecursion (λ e. eq_by_cmp key_cmp (s.index.0, address_at s o) e.0 ≡ false) (map with_key fs)
      → AllByRecursion (λ e. eq_by_cmp key_cmp (s.index.0, address_at s o) e.0 ≡ false) (map with_key (text_function_of infos s p z ++ fs))
  unfolding text_function
  apart_one o p None fs below inside at h = h
  apart_one o p (Some y) fs below inside at h = (keys_differ (s.index.0, address_at s o) (s.index.0, y.address) (λ same. addresses_differ (2 ^ 64) o p below (under (2 ^ 64) p inside short) (ap (λ k. k.1) same ∙ at y refl)), h)

  -- an address is none of those from an offset behind it on
  apart_from : (n o p : ℕ) → o < p → AllByRecursion (λ e. eq_by_cmp key_cmp (s.index.0, address_at s o) e.0 ≡ false) (map with_key (flat_map (function_at infos s ys) (offsets_from n s ys p)))
  unfolding offsets_from function_at
  apart_from zero o p below = tt
  apart_from (suc n) o p below = elim (nat_lt p (length s.bytes)) as (λ b. nat_lt p (length s.bytes) ≡ b
      → AllByRecursion (λ e. eq_by_cmp key_cmp (s.index.0, address_at s o) e.0 ≡ false) (map with_key (flat_map (function_at infos s ys) (if b then p ∷ offsets_from n s ys (p + size_at s ys p) else [])))) [
        | true ↦ λ t. apart_one o p (symbol_at_offset s ys p) _ below (ltb-true _ _ t) (λ y e. symbol_address infos s ys p y e) (apart_from n o (p + size_at s ys p) (omega arith))
        | false ↦ λ t. tt
      ] refl

  differ_one : (n o : ℕ) → (known : Stands s o (symbol_at_offset s ys o)) → KeysDiffer key_cmp (map with_key (flat_map (function_at infos s ys) (offsets_from n s ys (o + size_at s ys o))))
      → KeysDiffer key_cmp (map with_key (function_at infos s ys o ++ flat_map (function_at infos s ys) (offsets_from n s ys (o + size_at s ys o))))
  unfolding function_at size_at text_function
  differ_one n o known rest =
      let size : size_at s ys o ≡ known.y.size = ap symbol_size_of known.found in
      let here : known.y.address ≡ address_at s o = symbol_address infos s ys o known.y known.found in
      subst (λ z. KeysDiffer key_cmp (map with_key (text_function_of infos s o z ++ flat_map (function_at infos s ys) (offsets_from n s ys (o + size_at s ys o))))) (sym known.found) (
        subst (λ a. AllByRecursion (λ e. eq_by_cmp key_cmp (s.index.0, a) e.0 ≡ false) (map with_key (flat_map (function_at infos s ys) (offsets_from n s ys (o + size_at s ys o))))) (sym here)
            (apart_from n o (o + size_at s ys o) (omega (arith, size, known.some))),
        rest,
      )

  pub differ : (n o : ℕ) → first_some (text_fault_at s ys) (offsets_from n s ys o) ≡ None → KeysDiffer key_cmp (map with_key (flat_map (function_at infos s ys) (offsets_from n s ys o)))
  unfolding offsets_from text_fault_at
  differ zero o clear = tt
  differ (suc n) o clear = elim (nat_lt o (length s.bytes)) as (λ b. first_some (text_fault_at s ys) (if b then o ∷ offsets_from n s ys (o + size_at s ys o) else []) ≡ None
      → KeysDiffer key_cmp (map with_key (flat_map (function_at infos s ys) (if b then o ∷ offsets_from n s ys (o + size_at s ys o) else [])))) [
        | true ↦ λ e.
            let both = both_None (text_fault_at s ys o) (first_some (text_fault_at s ys) (offsets_from n s ys (o + size_at s ys o))) e in
            differ_one n o (stands s o (symbol_at_offset s ys o) both.0) (differ n (o + size_at s ys o) both.1)
        | false ↦ λ e. tt
      ] clear
