-- The relocations of sections of code, by the sections of relocations.
use Rattle.std.proofs.Common.{◌≡◌, ℕ, zero, suc, ◌+◌, ◌-◌, ◌*◌, ◌<◌, ◌≤◌, true, false, cond, List, [], ◌∷◌, ◌++◌, map, filter, length, Option, Some, refl, ap, subst, ◌∙◌, arith, slice_get, eqb-true}
use Rattle.std.specs.Prelude.{◌==◌, if◌then◌else◌}
use Rattle.std.specs.Cmp.{nat_cmp_total}
use Rattle.std.specs.FinMap.{FinMap, entries, nat_cmp-IsAntisymmetric}
use Rattle.std.specs.List.{AllByRecursion, flat_map, range_with_len}
use Rattle.std.specs.Ordering.{nat_cmp}
use Rattle.std.proofs.lemmas.Bool.Decides.{nat_tests}
use Rattle.std.proofs.lemmas.List.{length-append}
use Rattle.std.proofs.lemmas.List.FromFn.{length-map-range_with_len}
use Rattle.ebpf_elf.specs.Relocations.{relocation_sections, relocated_section, entry_count, table_entry, table_entries, entries_for, relocations}
use Rattle.ebpf_elf.specs.Sections.{SectionOf, sections}
use Rattle.ebpf_elf.specs.declared.relocation.ElfRelocation.{ElfRelocation}
use Rattle.ebpf_btf_ext.specs.ExtReading.{ExtInfo}
use Rattle.ebpf_limits.specs.OwnedBytes.{relocation_size, relocations_size, facts_of, facts_at, relocation_bytes, relocations_row, total}
use Rattle.ebpf_limits.proofs.Counts.{Among, Counted, covered, all_map, all_flat_map, all_of}
use Rattle.ebpf_limits.proofs.OwnedTables.{facts_in, sections_all, facts_here}
use Rattle.ebpf_parsing.specs.Sections.{is_kind_of_code, object_sections}
use Rattle.ebpf_parsing.specs.Relocations.{offset_of, relocations_by_offset, relocation_table_at}
use Rattle.ebpf_parsing.specs.FileContents.{relocation_tables, relocation_entries}
use Rattle.ebpf_parsing.specs.OfSection.{relocations_by, relocations_in}
use Rattle.ebpf_parts.specs.Sections.{section_of, section_with}
use Rattle.ebpf_parts.specs.declared.section.EbpfSectionKind.{EbpfSectionKind}
use Rattle.ebpf_parts.specs.declared.section.EbpfSectionKind.TheVariants.{Text, Program as Programs}

-- ---- one table

ones_length : {A : Type 0} (xs : List A) → total (λ x. 1) xs ≡ length xs
ones_length [] = refl
ones_length (x ∷ xs) = let rest = ones_length xs in omega (arith, rest)

-- a table of relocations has no more entries than there are relocations
table_short : (rs : List ElfRelocation) → length (entries (relocations_by_offset rs)) ≤ length rs
table_short rs =
    let whole = covered nat_cmp_total nat_cmp-IsAntisymmetric (λ (r : ElfRelocation). r.offset) (λ e. 1) (λ r. 1) (map offset_of rs) rs
    (each rs) in
    let a = ones_length (entries (relocations_by_offset rs)) in
    let b = ones_length rs in
    omega (arith, whole, a, b)
  where
    each : (rs : List ElfRelocation) → AllByRecursion (Counted nat_cmp_total nat_cmp-IsAntisymmetric (λ (r : ElfRelocation). r.offset) (λ e. 1) (λ r. 1) rs) (map offset_of rs)
    each rs = all_map _ offset_of rs (all_of (λ r. Counted nat_cmp_total nat_cmp-IsAntisymmetric (λ (r : ElfRelocation). r.offset) (λ e. 1) (λ r. 1) rs (offset_of r)) rs (λ r here. (r, here, refl, omega arith)))

-- the sections of relocations that patch a section, of some
abbrev tables_for : SectionOf → List SectionOf → List SectionOf
tables_for s tables = filter (λ t. relocated_section t == s.index) tables

-- one at least, where there is a relocation
one_table : (r : ElfRelocation) (rs : List ElfRelocation) (tables : List SectionOf) → r ∷ rs ≡ flat_map table_entries tables → 1 ≤ length tables
one_table r rs [] same = absurd (let no : ⊥ = cc in no)
one_table r rs (t ∷ tables) same = omega arith

module _ (file : List ℕ) (ext : Option ExtInfo) where
  -- what counts for a section
  abbrev own_bytes : SectionOf → ℕ
  own_bytes s = if is_kind_of_code (facts_of ext s).kind then relocations_size * length (tables_for s (relocation_sections s.file)) + relocation_size * length (relocations s) else 0

  abbrev IsTable : ℕ × FinMap nat_cmp ElfRelocation → Type 0
  IsTable = Counted nat_cmp_total nat_cmp-IsAntisymmetric (λ (s : SectionOf). s.index) relocations_row own_bytes (sections file)

  code_counts : (k : EbpfSectionKind) (n : ℕ) → is_kind_of_code k ≡ true → (if is_kind_of_code k then n else 0) ≡ n
  code_counts k n e = rw e refl

  table_counted : (s : SectionOf) → Among s (sections file) → is_kind_of_code (facts_of ext s).kind ≡ true → (rs : List ElfRelocation) → rs ≡ relocations s → AllByRecursion IsTable (relocation_table_at s.index rs)
  table_counted s here code [] same = tt
  table_counted s here code (r ∷ rs) same =
      let short = table_short (r ∷ rs) in
      let long : length (r ∷ rs) ≡ length (relocations s) = ap length same in
      let counts = code_counts (facts_of ext s).kind (relocations_size * length (tables_for s (relocation_sections s.file)) + relocation_size * length (relocations s)) code in
      let one = one_table r rs (tables_for s (relocation_sections s.file)) same in
      ((s, here, refl, omega (arith, short, long, counts, one)), tt)

  of_kind : (s : SectionOf) → Among s (sections file) → (kind : EbpfSectionKind) → (section_of s).kind ≡ kind → AllByRecursion IsTable (relocations_by kind (section_of s))
  unfolding section_of section_with facts_of
  of_kind s here Programs code = table_counted s here (ap is_kind_of_code code) (relocations s) refl
  of_kind s here Text code = table_counted s here (ap is_kind_of_code code) (relocations s) refl
  of_kind s here _ other = tt

  tables_owned : total relocations_row (entries (relocation_tables file)) ≤ total own_bytes (sections file)
  unfolding relocation_tables relocation_entries relocations_in
  tables_owned =
      covered nat_cmp_total nat_cmp-IsAntisymmetric (λ (s : SectionOf). s.index) relocations_row own_bytes (relocation_entries file) (sections file)
      (all_flat_map IsTable relocations_in (object_sections file) (sections_all file (λ s. AllByRecursion IsTable (relocations_in s)) (λ s here. of_kind s here (section_of s).kind refl)))

  -- ---- over all sections of relocations

  -- what some sections of relocations count for a section
  abbrev for_section : List SectionOf → SectionOf → ℕ
  for_section tables s = if is_kind_of_code (facts_of ext s).kind then relocations_size * length (tables_for s tables) + relocation_size * length (entries_for s.index tables) else 0

  abbrev one_for : SectionOf → SectionOf → ℕ
  one_for r s = if relocated_section r == s.index then (if is_kind_of_code (facts_of ext s).kind then relocations_size + relocation_size * entry_count r else 0) else 0

  split : (r : SectionOf) (tables : List SectionOf) (s : SectionOf) → for_section (r ∷ tables) s ≡ one_for r s + for_section tables s
  split r tables s = elim (relocated_section r == s.index) as (λ b. (if is_kind_of_code (facts_of ext s).kind then relocations_size * length (cond b (r ∷ tables_for s tables) (tables_for s tables)) + relocation_size * length (flat_map table_entries (cond b (r ∷ tables_for s tables) (tables_for s tables))) else 0)
      ≡ (if b then (if is_kind_of_code (facts_of ext s).kind then relocations_size + relocation_size * entry_count r else 0) else 0) + for_section tables s) [
        | false ↦ omega arith
        | true ↦ elim (is_kind_of_code (facts_of ext s).kind) as (λ c. (if c then relocations_size * suc (length (tables_for s tables)) + relocation_size * length (table_entries r ++ entries_for s.index tables) else 0) ≡ (if c then relocations_size + relocation_size * entry_count r else 0) + (if c then relocations_size * length (tables_for s tables) + relocation_size * length (entries_for s.index tables) else 0)) [
          | false ↦ omega arith
          | true ↦ (let a = length-append (table_entries r) (entries_for s.index tables) in let b = length-map-range_with_len (λ k. table_entry r k) 0 (entry_count r) in omega (arith, a, b))
        ]
      ]

  split_all : (r : SectionOf) (tables ss : List SectionOf) → total (for_section (r ∷ tables)) ss ≡ total (one_for r) ss + total (for_section tables) ss
  split_all r tables [] = omega arith
  split_all r tables (s ∷ ss) = let first = split r tables s in let rest = split_all r tables ss in omega (arith, first, rest)

  none_for : (ss : List SectionOf) → total (for_section []) ss ≡ 0
  none_for [] = refl
  none_for (s ∷ ss) = let rest = none_for ss in elim (is_kind_of_code (facts_of ext s).kind) as (λ b. (if b then relocations_size * 0 + relocation_size * 0 else 0) + total (for_section []) ss ≡ 0) [
    | true ↦ omega (arith, rest)
    | false ↦ omega (arith, rest)
  ]

  abbrev numbered : ℕ → SectionOf
  numbered i = record { file = file; index = i }

  -- none of the sections behind the one that is patched
  behind : (r : SectionOf) (a n : ℕ) → relocated_section r < a → total (one_for r) (map numbered (range_with_len a n)) ≡ 0
  behind r a zero past = refl
  behind r a (suc n) past =
      let other : (relocated_section r == a) ≡ false = grind (arith, nat_tests, past) in
      let rest = behind r (a + 1) n (omega (arith, past)) in
      rw other (omega (arith, rest))

  at_most : (r : SectionOf) (most a n : ℕ) → ((k : ℕ) → k < n → relocated_section r ≡ a + k → (if is_kind_of_code (facts_of ext (numbered (a + k))).kind then relocations_size + relocation_size * entry_count r else 0) ≤ most)
      → total (one_for r) (map numbered (range_with_len a n)) ≤ most
  at_most r most a zero each = omega arith
  at_most r most a (suc n) each =
      elim (relocated_section r == a) as (λ b. (relocated_section r == a) ≡ b → (if b then (if is_kind_of_code (facts_of ext (numbered a)).kind then relocations_size + relocation_size * entry_count r else 0) else 0) + total (one_for r) (map numbered (range_with_len (a + 1) n)) ≤ most) [
        | true ↦ λ t.
            (let here : relocated_section r ≡ a = eqb-true _ a t in
            let zero_on : a + 0 ≡ a = omega arith in
            let first = subst (λ i. (if is_kind_of_code (facts_of ext (numbered i)).kind then relocations_size + relocation_size * entry_count r else 0) ≤ most) zero_on (each 0 (omega arith) (omega (arith, here))) in
            let rest = behind r (a + 1) n (omega (arith, here)) in
            omega (arith, first, rest))
        | false ↦ λ t.
            (let rest = at_most r most (a + 1) n (λ k below there.
            let on : a + suc k ≡ a + 1 + k = omega arith in
            subst (λ i. (if is_kind_of_code (facts_of ext (numbered i)).kind then relocations_size + relocation_size * entry_count r else 0) ≤ most) on (each (suc k) (omega (arith, below)) (omega (arith, there)))) in
            omega (arith, rest))
      ] refl

  at_number : (a n k : ℕ) → k < n → slice_get (map numbered (range_with_len a n)) k ≡ Some (numbered (a + k))
  at_number a zero k below = absurd (omega (arith, below))
  at_number a (suc n) zero below = ap (λ i. Some (numbered i)) (let same : a ≡ a + 0 = omega arith in same)
  at_number a (suc n) (suc k) below = at_number (a + 1) n k (omega (arith, below)) ∙ ap (λ i. Some (numbered i)) (let same : a + 1 + k ≡ a + suc k = omega arith in same)

  counts_at : (r : SectionOf) (i : ℕ) → relocated_section r ≡ i → facts_at (facts_in file ext) (Some i) ≡ Some (facts_of ext (numbered i))
      → (if is_kind_of_code (facts_of ext (numbered i)).kind then relocations_size + relocation_size * entry_count r else 0) ≤ relocation_bytes (facts_in file ext) r
  unfolding relocation_bytes
  counts_at r i there facts = rw (there, facts) (omega arith)

  one_within : (r : SectionOf) → total (one_for r) (sections file) ≤ relocation_bytes (facts_in file ext) r
  one_within r = at_most r (relocation_bytes (facts_in file ext) r) 1 _ (λ k below there. counts_at r (1 + k) there (facts_here file ext (numbered (1 + k)) (k, at_number 1 _ k below)))

  exchanged : (tables : List SectionOf) → total (for_section tables) (sections file) ≤ total (relocation_bytes (facts_in file ext)) tables
  exchanged [] = let none = none_for (sections file) in omega (arith, none)
  exchanged (r ∷ tables) =
      let parts = split_all r tables (sections file) in
      let first = one_within r in
      let rest = exchanged tables in
      omega (arith, parts, first, rest)

  own_same : (ns : List ℕ) → total own_bytes (map numbered ns) ≡ total (for_section (relocation_sections file)) (map numbered ns)
  own_same [] = refl
  own_same (n ∷ ns) = let rest = own_same ns in omega (arith, rest)

  pub relocations_owned : total relocations_row (entries (relocation_tables file)) ≤ total (relocation_bytes (facts_in file ext)) (relocation_sections file)
  relocations_owned =
      let a = tables_owned in
      let b : total own_bytes (sections file) ≡ total (for_section (relocation_sections file)) (sections file) = own_same _ in
      let c = exchanged (relocation_sections file) in
      omega (arith, a, b, c)
