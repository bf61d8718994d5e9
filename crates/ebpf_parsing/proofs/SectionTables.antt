-- Where a file has no fault, none of its sections has; what an object's table of functions has of one section.
use Rattle.std.proofs.Common.{◌≡◌, ℕ, zero, suc, List, [], ◌∷◌, map, Option, Some, None, option_map, subst, slice_get, ◌+◌, ◌-◌, ◌<◌, ◌≤◌, ◌^◌, true, false, not, cond, length, refl, sym, ap, ◌∙◌, arith, if◌then◌else◌, ◌==◌, ◌⊎◌, inl, inr, ⊎_elim}
use Rattle.std.proofs.lemmas.List.{length-take, length-drop}
use Rattle.std.specs.Cmp.{eq_by_cmp_equiv}
use Rattle.std.specs.FinMap.{get, empty, get-empty, find}
use Rattle.std.specs.List.{AllByRecursion, flat_map, range_with_len}
use Rattle.std.specs.List as list
use Rattle.std.specs.Ordering.{eq_by_cmp}
use Rattle.ebpf_base.proofs.Faults.{both_None}
use Rattle.ebpf_base.proofs.Mapped.{later_key_stands}
use Rattle.ebpf_base.specs.Faults.{or_else, first_some, first_in}
use Rattle.ebpf_base.specs.Maps.{last_at, key_cmp, key_total}
use Rattle.ebpf_elf.specs.Faults.{faults}
use Rattle.ebpf_elf.specs.Headers.{section_count, range_of}
use Rattle.ebpf_elf.specs.Relocations.{relocations}
use Rattle.ebpf_elf.specs.Sections.{SectionOf, header, data_of}
use Rattle.ebpf_elf.specs.declared.constants.TheConstants.{SHT_NOBITS}
use Rattle.ebpf_model.specs.declared.function.Function.{Function}
use Rattle.ebpf_parts.specs.Sections.{SectionValue, section_of, section_with, section_fault, section_fault_with, section_name_fault, data_fault, target_fault}
use Rattle.ebpf_parts.specs.declared.error.ParseError.TheVariants.{ElfError}
use Rattle.ebpf_parts.specs.declared.parse_mode.ParseMode.{ParseMode}
use Rattle.ebpf_parsing.specs.FileContents.{parse_fault_as, read_fault, sections_fault, own_symbols, functions, function_entries}
use Rattle.ebpf_parsing.specs.FileTypes.{types_of_file, file_externs_fault, file_types_fault, ext_of}
use Rattle.ebpf_parsing.specs.Laws.{IsTextSection, AreInOrder, own_functions, AtEachAddress, InOrder, SectionsTile}
use Rattle.ebpf_parsing.specs.OfSection.{fault_in, functions_by, functions_in, fault_by}
use Rattle.ebpf_sections.specs.LicenseAndVersion.{license_fault_as, version_fault}
use Rattle.ebpf_sections.specs.Programs.{with_key}
use Rattle.ebpf_sections.specs.Records.{FuncAndLineInfo, func_and_line_info_of}
use Rattle.ebpf_sections.specs.Sections.{other_sections, object_sections, machine_fault_as, order_fault_as, is_type_information}
use Rattle.ebpf_sections.specs.Symbols.{file_symbols, symbols_fault, section_symbols, SymbolValue}
use Rattle.ebpf_sections.specs.Texts.{text_fault, conflict_fault, walk_fault, offsets_from}
use Rattle.ebpf_sections.proofs.ReadSections.{others}
use Rattle.ebpf_sections.proofs.Lasts.{KeysDiffer, last_at-append, last_at-apart, last_at-differ}
use Rattle.ebpf_sections.proofs.Tiles as tiles
use Rattle.ebpf_parsing.proofs.TextKeys.{Key, Entry, entries_apart, section_keys, text_keys, key_of_address, rise, differ, one_order}

-- ---- where a file has no fault, none of its sections has

-- what is made of an item, where none of them has a fault
clear_item : {A B E : Type 0} (f : A → Option E) (g : A → B) (xs : List A) (j : ℕ) (b : B) → first_some f xs ≡ None → slice_get (map g xs) j ≡ Some b → (x : A) × ((g x ≡ b) × (f x ≡ None))
clear_item f g [] j b clear e = absurd (let no : ⊥ = cc in no)
clear_item f g (x ∷ xs) zero b clear e = let same : g x ≡ b = cc in (x, (same, (both_None (f x) (first_some f xs) clear).0))
clear_item f g (x ∷ xs) (suc j) b clear e = clear_item f g xs j b (both_None (f x) (first_some f xs) clear).1 e

clear_sections : (mode : ParseMode) (bytes : List ℕ) → parse_fault_as mode bytes ≡ None → first_some (read_fault mode (types_of_file bytes) bytes) (other_sections bytes) ≡ None
unfolding sections_fault
clear_sections mode bytes clear =
    let a = both_None (option_map ElfError (first_in (faults bytes))) _ clear in
    let m = both_None (machine_fault_as mode bytes) _ a.1 in
    let o = both_None (order_fault_as mode bytes) _ m.1 in
    let b = both_None (license_fault_as mode bytes) _ o.1 in
    let c = both_None (version_fault bytes) _ b.1 in
    let d = both_None (symbols_fault bytes) _ c.1 in
    let e = both_None (file_types_fault mode bytes) _ d.1 in
    (both_None (file_externs_fault bytes) _ e.1).1

module _ (mode : ParseMode) (bytes : List ℕ) (clear : parse_fault_as mode bytes ≡ None) (n : ℕ) (s : SectionValue) (here : slice_get (object_sections bytes) n ≡ Some s) where
  read : (x : SectionOf) × ((section_of x ≡ s) × (read_fault mode (types_of_file bytes) bytes x ≡ None))
  read = clear_item (read_fault mode (types_of_file bytes) bytes) section_of (other_sections bytes) n s (clear_sections mode bytes clear) here

  both : (section_fault read.0 ≡ None) × (fault_in mode (types_of_file bytes) (section_of read.0) (section_symbols (file_symbols bytes) read.0.index) ≡ None)
  both = both_None (section_fault read.0) (fault_in mode (types_of_file bytes) (section_of read.0) (section_symbols (file_symbols bytes) read.0.index)) read.1.1

  -- what the section's kind asks for is there
  pub kind_clear : fault_in mode (types_of_file bytes) s (own_symbols bytes s) ≡ None
  unfolding section_of section_with
  kind_clear = subst (λ t. fault_in mode (types_of_file bytes) t (own_symbols bytes t) ≡ None) read.1.0 both.1

  -- no relocation names symbol 0
  pub targets_clear : target_fault s.relocations ≡ None
  unfolding section_of section_with section_fault section_fault_with
  targets_clear =
      let inner = both_None (section_name_fault read.0) (or_else (data_fault read.0) (target_fault (relocations read.0))) both.0 in
      subst (λ t. target_fault t.relocations ≡ None) read.1.0 (both_None (data_fault read.0) (target_fault (relocations read.0)) inner.1).1

-- ---- what an object's table of functions has of one section

first_or_later : {A : Type 0} (x : A) (xs : List A) (j : ℕ) (y : A) → slice_get (x ∷ xs) j ≡ Some y → (x ≡ y) ⊎ ((k : ℕ) × (slice_get xs k ≡ Some y))
first_or_later x xs zero y e = inl (cc)
first_or_later x xs (suc j) y e = inr (j, e)

module _ (bytes : List ℕ) where
  abbrev section_at : ℕ → SectionOf
  section_at i = record { file = bytes; index = i }

  -- the sections that are read, of so many from a number on
  abbrev others_from : ℕ → ℕ → List SectionOf
  others_from a n = others (map section_at (range_with_len a n))

  abbrev read_from : ℕ → ℕ → List SectionValue
  read_from a n = map section_of (others_from a n)

  number_of : (a : ℕ) → (section_of (section_at a)).index.0 ≡ a
  unfolding section_of section_with
  number_of a = refl

  -- each is one of the file's, from that number on
  place_from : (a n j : ℕ) (s : SectionValue) → slice_get (read_from a n) j ≡ Some s → (k : ℕ) × ((a ≤ k) × (section_of (section_at k) ≡ s))
  place_from a zero j s e = absurd (let no : ⊥ = cc in no)
  place_from a (suc n) j s e =
      elim (is_type_information (section_at a)) as (λ b. slice_get (map section_of (cond (not b) (section_at a ∷ others_from (a + 1) n) (others_from (a + 1) n))) j ≡ Some s → (k : ℕ) × ((a ≤ k) × (section_of (section_at k) ≡ s))) [
        | true ↦ λ f. behind (place_from (a + 1) n j s f)
        | false ↦ λ f. ⊎_elim (λ same. (a, ((let here : a ≤ a = omega arith in here), same))) (λ k. behind (place_from (a + 1) n k.0 s k.1)) (first_or_later (section_of (section_at a)) (read_from (a + 1) n) j s f)
      ] e
    where
      behind : (k : ℕ) × ((a + 1 ≤ k) × (section_of (section_at k) ≡ s)) → (k : ℕ) × ((a ≤ k) × (section_of (section_at k) ≡ s))
      behind p = (p.0, ((let low : a ≤ p.0 = omega (arith, p.1.0) in low), p.1.1))

  number_from : (a n j : ℕ) (s : SectionValue) → slice_get (read_from a n) j ≡ Some s → a ≤ s.index.0
  unfolding section_of section_with
  number_from a n j s e = let place = place_from a n j s e in subst (λ t. a ≤ t.index.0) place.1.1 place.1.0

  data_within : (x : SectionOf) → length (data_of x) ≤ length x.file
  unfolding data_of
  data_within x = elim ((header x).sh_type == SHT_NOBITS) as (λ b. length (if b then [] else range_of x.file (header x)) ≤ length x.file) [
    | true ↦ (let low : 0 ≤ length x.file = omega arith in low)
    | false ↦ simp (length-take, length-drop) (omega arith)
  ]

  -- a section's data is no longer than the file
  short_from : (a n j : ℕ) (s : SectionValue) → slice_get (read_from a n) j ≡ Some s → length s.bytes ≤ length bytes
  unfolding section_of section_with
  short_from a n j s e = let place = place_from a n j s e in subst (λ t. length t.bytes ≤ length bytes) place.1.1 (data_within (section_at place.0))

  -- ---- only the section itself has its number

  module _ (g : SectionValue → List Entry) (own : (s : SectionValue) → AllByRecursion (λ e. e.0.0 ≡ s.index.0) (g s)) (q : Key) where
    none_before : (a n : ℕ) (z : Option Function) → q.0 < a → last_at key_cmp q z (flat_map g (read_from a n)) ≡ z
    none_before a zero z below = refl
    none_before a (suc n) z below =
        let x : SectionValue = section_of (section_at a) in
        elim (is_type_information (section_at a)) as (λ b. last_at key_cmp q z (flat_map g (map section_of (cond (not b) (section_at a ∷ others_from (a + 1) n) (others_from (a + 1) n)))) ≡ z) [
          | true ↦ none_before (a + 1) n z (omega arith)
          | false ↦ last_at-append key_cmp q z (g x) (flat_map g (read_from (a + 1) n))
              ∙ none_before (a + 1) n (last_at key_cmp q z (g x)) (omega arith)
              ∙ last_at-apart key_cmp q z (g x) (entries_apart q x.index.0 (g x) (λ same. let here : x.index.0 ≡ a = number_of a in omega (arith, here, same)) (own x))
        ]

    of_section : (a n j : ℕ) (s : SectionValue) (z : Option Function) → slice_get (read_from a n) j ≡ Some s → q.0 ≡ s.index.0
        → last_at key_cmp q z (flat_map g (read_from a n)) ≡ last_at key_cmp q z (g s)
    of_section a zero j s z e here = absurd (let no : ⊥ = cc in no)
    of_section a (suc n) j s z e here =
        let x : SectionValue = section_of (section_at a) in
        let number : x.index.0 ≡ a = number_of a in
        elim (is_type_information (section_at a)) as (λ b. slice_get (map section_of (cond (not b) (section_at a ∷ others_from (a + 1) n) (others_from (a + 1) n))) j ≡ Some s
        → last_at key_cmp q z (flat_map g (map section_of (cond (not b) (section_at a ∷ others_from (a + 1) n) (others_from (a + 1) n)))) ≡ last_at key_cmp q z (g s)) [
          | true ↦ λ f. of_section (a + 1) n j s z f here
          | false ↦ λ f. last_at-append key_cmp q z (g x) (flat_map g (read_from (a + 1) n)) ∙ ⊎_elim
              (λ same.
              let first : s.index.0 ≡ a = ap (λ t. t.index.0) (sym same) ∙ number in
              none_before (a + 1) n (last_at key_cmp q z (g x)) (omega (arith, first, here)) ∙ ap (λ t. last_at key_cmp q z (g t)) same)
              (λ k.
              let later : a + 1 ≤ s.index.0 = number_from (a + 1) n k.0 s k.1 in
              ap (λ y. last_at key_cmp q y (flat_map g (read_from (a + 1) n))) (last_at-apart key_cmp q z (g x) (entries_apart q x.index.0 (g x) (λ same. omega (arith, number, same, here, later)) (own x)))
              ∙ of_section (a + 1) n k.0 s z k.1 here)
              (first_or_later x (read_from (a + 1) n) j s f)
        ] e

-- ---- functions by their keys

-- the place of a function that is found
place_of : (q : Key) (fs : List Function) (f : Function) → find key_cmp q (map with_key fs) ≡ Some f → (i : ℕ) × (slice_get fs i ≡ Some f)
place_of q [] f e = absurd (let no : ⊥ = cc in no)
place_of q (g ∷ fs) f e = elim (eq_by_cmp key_cmp q (g.section_index.0, g.address)) as (λ b. cond b (Some g) (find key_cmp q (map with_key fs)) ≡ Some f → (i : ℕ) × (slice_get (g ∷ fs) i ≡ Some f)) [
  | true ↦ λ h. (0, h)
  | false ↦ λ h. let later = place_of q fs f h in (suc later.0, later.1)
] e

number_at : (fs : List Function) (number i : ℕ) (f : Function) → AllByRecursion (λ e. e.0.0 ≡ number) (map with_key fs) → slice_get fs i ≡ Some f → f.section_index.0 ≡ number
number_at [] number i f h e = absurd (let no : ⊥ = cc in no)
number_at (g ∷ fs) number zero f h e = let same : g ≡ f = cc in subst (λ t. t.section_index.0 ≡ number) same h.0
number_at (g ∷ fs) number (suc i) f h e = number_at fs number i f h.1 e

apart_at : (q : Key) (fs : List Function) (i : ℕ) (f : Function) → AllByRecursion (λ e. eq_by_cmp key_cmp q e.0 ≡ false) (map with_key fs) → slice_get fs i ≡ Some f
    → eq_by_cmp key_cmp (f.section_index.0, f.address) q ≡ false
apart_at q [] i f h e = absurd (let no : ⊥ = cc in no)
apart_at q (g ∷ fs) zero f h e = let same : g ≡ f = cc in subst (λ t. eq_by_cmp key_cmp (t.section_index.0, t.address) q ≡ false) same ((eq_by_cmp_equiv key_total).symm (g.section_index.0, g.address) q ∙ h.0)
apart_at q (g ∷ fs) (suc i) f h e = apart_at q fs i f h.1 e

-- where the keys differ, each function is found at its own
at_key : (fs : List Function) (i : ℕ) (f : Function) → KeysDiffer key_cmp (map with_key fs) → slice_get fs i ≡ Some f → find key_cmp (f.section_index.0, f.address) (map with_key fs) ≡ Some f
at_key [] i f d e = absurd (let no : ⊥ = cc in no)
at_key (g ∷ fs) zero f d e =
    let same : g ≡ f = cc in
    subst (λ t. find key_cmp (t.section_index.0, t.address) (map with_key (g ∷ fs)) ≡ Some t) same
    (ap (λ b. cond b (Some g) (find key_cmp (g.section_index.0, g.address) (map with_key fs))) ((eq_by_cmp_equiv key_total).refl (g.section_index.0, g.address)))
at_key (g ∷ fs) (suc i) f d e =
    ap (λ b. cond b (Some g) (find key_cmp (f.section_index.0, f.address) (map with_key fs))) (apart_at (g.section_index.0, g.address) fs i f d.0 e) ∙ at_key fs i f d.1 e

-- ---- the Text section

module _ (mode : ParseMode) (bytes : List ℕ) (n : ℕ) (s : SectionValue) (is : IsTextSection mode bytes n s) where
  abbrev infos : FuncAndLineInfo
  infos = func_and_line_info_of (ext_of bytes) s.name

  abbrev symbols : List SymbolValue
  symbols = own_symbols bytes s

  abbrev own : List Function
  own = own_functions bytes s

  abbrev wanted : List Entry
  wanted = map with_key own

  text_clear : text_fault s symbols ≡ None
  unfolding fault_in
  text_clear = ap (λ k. fault_by k mode (types_of_file bytes) s symbols) (sym is.text)
      ∙ kind_clear mode bytes is.clear n s is.here

  walk_clear : walk_fault s symbols ≡ None
  unfolding text_fault
  walk_clear = (both_None (conflict_fault s.index.0 symbols) _ text_clear).1

  given : functions_in (ext_of bytes) s symbols ≡ wanted
  unfolding functions_in
  given = ap (λ k. map with_key (functions_by k infos s symbols)) is.text

  abbrev entries_in : SectionValue → List Entry
  entries_in t = functions_in (ext_of bytes) t (own_symbols bytes t)

  under : (m : ℕ) → length bytes < m → length s.bytes ≤ length bytes → length s.bytes ≤ m
  under m p q = omega (arith, p, q)

  short : length s.bytes ≤ 2 ^ 64
  short = under (2 ^ 64) is.short (short_from bytes 1 (section_count bytes - 1) n s is.here)

  apart : KeysDiffer key_cmp wanted
  apart = differ infos s symbols short (length s.bytes) 0 walk_clear

  numbered : AllByRecursion (λ e. e.0.0 ≡ s.index.0) wanted
  numbered = text_keys infos s symbols (offsets_from (length s.bytes) s symbols 0)

  -- the table has at a key of the section what the section gives
  here : (q : Key) → q.0 ≡ s.index.0 → get (functions bytes) q ≡ find key_cmp q wanted
  unfolding functions function_entries
  here q mine =
      later_key_stands empty (flat_map entries_in (object_sections bytes)) q
      ∙ ap (λ z. last_at key_cmp q z (flat_map entries_in (object_sections bytes))) (get-empty key_cmp q)
      ∙ of_section bytes entries_in (λ t. section_keys (ext_of bytes) t (own_symbols bytes t)) q 1 (section_count bytes - 1) n s None is.here mine
      ∙ ap (last_at key_cmp q None) given
      ∙ last_at-differ key_cmp q key_total wanted apart

  in_table : AreInOrder (functions bytes) s.index.0 own
  in_table = record {
    rise = rise infos s symbols (length s.bytes) 0 walk_clear;
    stand = λ i f e. here (s.index.0, f.address) refl ∙ ap (λ k. find key_cmp (k, f.address) wanted) (sym (number_at own s.index.0 i f numbered e)) ∙ at_key own i f apart e;
    all = λ address f e. place_of (s.index.0, address) own f (sym (here (s.index.0, address) refl) ∙ e);
  }

by_address : (number a : ℕ) (fs : List Function) → AllByRecursion (λ e. e.0.0 ≡ number) (map with_key fs) → find key_cmp (number, a) (map with_key fs) ≡ list.find (λ f. f.address == a) fs
by_address number a [] mine = refl
by_address number a (f ∷ fs) mine =
    let test : eq_by_cmp key_cmp (number, a) (f.section_index.0, f.address) ≡ (f.address == a) = ap (λ k. eq_by_cmp key_cmp (number, a) (k, f.address)) mine.0 ∙ key_of_address number a f.address in
    λ i. cond (test i) (Some f) (by_address number a fs mine.1 i)

pub at_each_address : AtEachAddress
at_each_address mode bytes n s is a =
    here mode bytes n s is (s.index.0, a) refl ∙ by_address s.index.0 a (own_functions bytes s) (numbered mode bytes n s is)

pub in_order : InOrder
in_order mode bytes n s is = in_table mode bytes n s is

pub sections_tile : SectionsTile
sections_tile mode bytes n s is fs order =
    let own = in_table mode bytes n s is in
    let same : fs ≡ own_functions bytes s = one_order fs (own_functions bytes s) order.rise own.rise
    (λ i f e. own.all f.address f (order.stand i f e)) (λ i f e. order.all f.address f (own.stand i f e)) in
    ap (flat_map (λ f. f.instructions)) same
    ∙ tiles.functions_tile (func_and_line_info_of (ext_of bytes) s.name) s (own_symbols bytes s) (text_clear mode bytes n s is)
