-- Sections of relocations of a file, those whose entries stand at the same places, and what an object keeps of a table.
use Rattle.std.proofs.Common.{◌≡◌, ℕ, Bool, true, false, zero, suc, ◌+◌, ◌-◌, List, [], ◌∷◌, map, filter, Option, Some, None, refl, sym, ap, subst, ◌∙◌, ◌<◌, ◌≤◌, cond, ◌||◌, ◌++◌, length, drop}
use Rattle.std.proofs.lemmas.Bool.{or_left, or_right}
use Rattle.std.proofs.lemmas.List.{map-append}
use Rattle.std.proofs.lemmas.List.Folds.{list_any-append}
use Rattle.std.proofs.lemmas.Map.Lookups.{exact_pairs, exact_unsigned}
use Rattle.std.proofs.lemmas.Option.{none-some}
use Rattle.std.specs.Cmp.{nat_cmp_total, IsTotalOrder}
use Rattle.std.specs.FinMap.{FinMap, get, insert, empty, get-empty, IsAntisymmetric, get-insert, same_map, nat_cmp-IsAntisymmetric}
use Rattle.std.specs.List.{find, range_with_len, flat_map}
use Rattle.std.specs.Ordering.{nat_cmp, eq_by_cmp}
use Rattle.std.specs.Prelude.{if◌then◌else◌, ◌==◌, slice_index_or}
use Rattle.std.specs.declared.cmp.Ordering.{Ordering}
use Rattle.ebpf_base.proofs.Mapped.{later_number_stands, later_stands, put_all-append}
use Rattle.ebpf_base.proofs.Maps.{key_exact, is_equal}
use Rattle.ebpf_base.proofs.Lists.{rest_more}
use Rattle.ebpf_base.specs.Faults.{or_else}
use Rattle.ebpf_base.specs.Maps.{put_all, last_at}
use Rattle.ebpf_elf.specs.Headers.{section_count}
use Rattle.ebpf_elf.specs.Relocations.{holds_relocations, relocation_sections, relocation_sections_in, relocated_section, table_entry, table_entries}
use Rattle.ebpf_elf.specs.Sections.{SectionOf, sections}
use Rattle.ebpf_elf.specs.Symbols.{symbol_table_section}
use Rattle.ebpf_elf.specs.declared.relocation.ElfRelocation.{ElfRelocation}
use Rattle.ebpf_parts.proofs.ProgramKinds.{tables_more, tables_none, target_append}
use Rattle.ebpf_parts.specs.Sections.{target_fault}
use Rattle.ebpf_sections.specs.Relocations.{AreOf, AreOfOneFile, relocations_by_offset, relocation_table_at, offset_of, entry_range_cmp, entry_range_total, entry_range_of, entries_at, lacks_symbol, EntryRangesAreCached, table_row}
use Rattle.ebpf_sections.specs.Sections.{is_index}
use Rattle.ebpf_sections.proofs.Entries.{known}
use Rattle.ebpf_sections.proofs.Lasts.{last_at-append, has, false_is_not, whatever, none_last, Lasts, another, fewer_lasts}

-- ---- the sections of a file are of that file

pub some_same : {X : Type 0} (x y : X) → Some x ≡ Some y → x ≡ y
some_same x y e = cc

numbered : (file : List ℕ) (a n : ℕ) → AreOf file (map (λ i. record { file = file; index = i }) (range_with_len a n))
numbered file a zero = tt
numbered file a (suc n) = (refl, numbered file (a + 1) n)

pub all_from : (file : List ℕ) → AreOf file (sections file)
all_from file = numbered file 1 (section_count file - 1)

-- so are those that pass a test
pub some_from : (file : List ℕ) (p : SectionOf → Bool) (xs : List SectionOf) → AreOf file xs → AreOf file (filter p xs)
some_from file p [] h = tt
some_from file p (x ∷ xs) h = step (some_from file p xs h.1) (p x)
  where
    step : AreOf file (filter p xs) → (b : Bool) → AreOf file (if b then x ∷ filter p xs else filter p xs)
    step rest true = (h.0, rest)
    step rest false = rest

tables_in : (file : List ℕ) (t : Option ℕ) → AreOf file (relocation_sections_in file t)
tables_in file None = tt
tables_in file (Some t) = some_from file (λ s. holds_relocations s.file t s.index) (sections file) (all_from file)

pub tables_from : (file : List ℕ) → AreOf file (relocation_sections file)
tables_from file = tables_in file (symbol_table_section file)

one_file : (file : List ℕ) (xs : List SectionOf) → AreOf file xs → AreOfOneFile xs
one_file file [] h = tt
one_file file (x ∷ xs) h = subst (λ (f : List ℕ). AreOf f (x ∷ xs)) (sym h.0) h

-- those for one section
pub of_one_file : (file : List ℕ) (i : ℕ) (tables : List SectionOf) → tables ≡ filter (λ r. relocated_section r == i) (relocation_sections file) → AreOfOneFile tables
of_one_file file i tables e = one_file file tables (subst (λ (l : List SectionOf). AreOf file l) (sym e) (some_from file (λ r. relocated_section r == i) (relocation_sections file) (tables_from file)))

found_among : (file : List ℕ) (p : SectionOf → Bool) (xs : List SectionOf) (s : SectionOf) → AreOf file xs → find p xs ≡ Some s → s.file ≡ file
found_among file p [] s h e = absurd (none-some s e)
found_among file p (x ∷ xs) s h e = step (λ g. found_among file p xs s h.1 g) (p x) e
  where
    step : (find p xs ≡ Some s → s.file ≡ file) → (b : Bool) → (if b then Some x else find p xs) ≡ Some s → s.file ≡ file
    step more true g = sym (ap (λ (t : SectionOf). t.file) (some_same x s g)) ∙ h.0
    step more false g = more g

-- one that is found among those of a file
pub found_from : (file : List ℕ) (p : SectionOf → Bool) (s : SectionOf) → find p (sections file) ≡ Some s → s.file ≡ file
found_from file p s e = found_among file p (sections file) s (all_from file) e

-- ---- what an object keeps of a table of relocations

-- a table of some relocations is not empty
not_empty : (r : ElfRelocation) (rs : List ElfRelocation) → relocations_by_offset (r ∷ rs) ≡ empty → ⊥
not_empty r rs e =
    let there = known nat_cmp nat_cmp_total r.offset later_number_stands (map offset_of (r ∷ rs)) r (0, refl) in
    none-some there.0 (sym (ap (λ (m : FinMap nat_cmp ElfRelocation). get m r.offset) e ∙ get-empty nat_cmp r.offset) ∙ there.1)

pub none_kept : (list : List ElfRelocation) (section : ℕ) (m : FinMap nat_cmp (FinMap nat_cmp ElfRelocation)) → relocations_by_offset list ≡ empty → put_all m (relocation_table_at section list) ≡ m
none_kept [] section m e = refl
none_kept (r ∷ rs) section m e = absurd (not_empty r rs e)

pub some_kept : (list : List ElfRelocation) (section : ℕ) (m : FinMap nat_cmp (FinMap nat_cmp ElfRelocation)) → (relocations_by_offset list ≡ empty → ⊥) → put_all m (relocation_table_at section list) ≡ insert m section (relocations_by_offset list)
some_kept [] section m some = absurd (some refl)
some_kept (r ∷ rs) section m some = refl

-- ---- sections of relocations whose entries stand at the same places

pub places_exact : IsAntisymmetric entry_range_cmp
places_exact = exact_pairs _ nat_cmp key_exact exact_unsigned

-- the entries are those at its places
pub at_places : (s : SectionOf) → table_entries s ≡ entries_at s.file (entry_range_of s)
unfolding table_entry
at_places s = refl

pub cached_is : (s : SectionOf) (cached : FinMap entry_range_cmp Bool) (lacks : Bool) → EntryRangesAreCached s.file cached → get cached (entry_range_of s) ≡ Some lacks → lacks ≡ lacks_symbol (table_entries s)
cached_is s cached lacks so at = so (entry_range_of s) lacks at ∙ sym (ap lacks_symbol (at_places s))

pub cached_more : (s : SectionOf) (cached : FinMap entry_range_cmp Bool) (lacks : Bool) → EntryRangesAreCached s.file cached → lacks ≡ lacks_symbol (table_entries s) → EntryRangesAreCached s.file (insert cached (entry_range_of s) lacks)
cached_more s cached lacks so is p other at = step (eq_by_cmp entry_range_cmp p (entry_range_of s)) refl (sym (get-insert entry_range_total cached (entry_range_of s) lacks p) ∙ at)
  where
    step : (b : Bool) → eq_by_cmp entry_range_cmp p (entry_range_of s) ≡ b → cond b (Some lacks) (get cached p) ≡ Some other → other ≡ lacks_symbol (entries_at s.file p)
    step true same found = sym (some_same lacks other found) ∙ is ∙ ap lacks_symbol (at_places s) ∙ sym (ap (λ q. lacks_symbol (entries_at s.file q)) (places_exact p (entry_range_of s) (is_equal _ same)))
    step false same found = so p other found

-- nothing is cached at the start
pub none_cached : (file : List ℕ) (cached : FinMap entry_range_cmp Bool) → cached ≡ empty → EntryRangesAreCached file cached
none_cached file cached none p lacks at = absurd (none-some lacks (sym (ap (λ (m : FinMap entry_range_cmp Bool). get m p) none ∙ get-empty entry_range_cmp p) ∙ at))

-- ---- faults

pub targets_more : (xs : List SectionOf) (i : ℕ) (x : SectionOf) → i < length xs → x ≡ slice_index_or xs i x
    → target_fault (flat_map table_entries (drop i xs)) ≡ or_else (target_fault (table_entries x)) (target_fault (flat_map table_entries (drop (i + 1) xs)))
targets_more xs i x below here = ap target_fault (tables_more xs i x below here) ∙ target_append (table_entries x) (flat_map table_entries (drop (i + 1) xs))

pub targets_none : (xs : List SectionOf) (i : ℕ) → length xs ≤ i → target_fault (flat_map table_entries (drop i xs)) ≡ None
targets_none xs i past = ap target_fault (tables_none xs i past)

-- ---- the last at each of the places

pub row_more : (xs : List SectionOf) (i : ℕ) (x : SectionOf) → i < length xs → x ≡ slice_index_or xs i x
    → flat_map table_row (drop i xs) ≡ (entry_range_of x, x.index) ∷ flat_map table_row (drop (i + 1) xs)
row_more xs i x below here = ap (flat_map table_row) (rest_more xs i x below here)

abbrev pub TableLasts : FinMap entry_range_cmp ℕ → List SectionOf → Type 0
TableLasts last rest = Lasts entry_range_total table_row last rest

-- entries whose keys all come again need not be put
pub put_all_again : {K X : Type 0} {R : K → K → Ordering} → IsTotalOrder R → IsAntisymmetric R → (m : FinMap R X) (es fs : List (K × X))
    → ((q : K) → has R q es ≡ true → has R q fs ≡ true) → put_all m fs ≡ put_all m (es ++ fs)
put_all_again {K = K} {R = R} o exact m es fs come = same_map o exact _ _ (λ q.
    later_stands o m fs q ∙ step q (has R q es) refl ∙ sym (last_at-append R q (get m q) es fs) ∙ sym (later_stands o m (es ++ fs) q))
  where
    step : (q : K) (b : Bool) → has R q es ≡ b → last_at R q (get m q) fs ≡ last_at R q (last_at R q (get m q) es) fs
    step q true at = whatever R q fs (come q at) _ _
    step q false at = sym (ap (λ v. last_at R q v fs) (none_last R q es at (get m q)))

abbrev offsets : List ElfRelocation → List (ℕ × ElfRelocation)
offsets = map offset_of

module _ (file : List ℕ) (t : SectionOf) (own : t.file ≡ file) where
  same_entries : (x : SectionOf) → x.file ≡ file → entry_range_of t ≡ entry_range_of x → table_entries t ≡ table_entries x
  same_entries x of_file same =
      at_places t ∙ ap (λ f. entries_at f (entry_range_of t)) (own ∙ sym of_file) ∙ ap (entries_at x.file) same ∙ sym (at_places x)

  -- where a later section's entries stand at its places, all its offsets come again
  come_again : (q : ℕ) (rest : List SectionOf) → AreOf file rest → has entry_range_cmp (entry_range_of t) (flat_map table_row rest) ≡ true
      → has nat_cmp q (offsets (table_entries t)) ≡ true → has nat_cmp q (offsets (flat_map table_entries rest)) ≡ true
  come_again q [] of_file there h = false_is_not there
  come_again q (x ∷ rest) of_file there h = ap (has nat_cmp q) (map-append offset_of (table_entries x) (flat_map table_entries rest)) ∙ list_any-append _ (offsets (table_entries x)) (offsets (flat_map table_entries rest)) ∙ step (λ behind. come_again q rest of_file.1 behind h) (eq_by_cmp entry_range_cmp (entry_range_of t) (entry_range_of x)) refl
    where
      step : (has entry_range_cmp (entry_range_of t) (flat_map table_row rest) ≡ true → has nat_cmp q (offsets (flat_map table_entries rest)) ≡ true) → (b : Bool) → eq_by_cmp entry_range_cmp (entry_range_of t) (entry_range_of x) ≡ b → (has nat_cmp q (offsets (table_entries x)) || has nat_cmp q (offsets (flat_map table_entries rest))) ≡ true
      step again true same = or_left _ _ (sym (ap (λ es. has nat_cmp q (offsets es)) (same_entries x of_file.0 (places_exact _ _ (is_equal _ same)))) ∙ h)
      step again false differ = or_right _ _ (again (sym (ap (λ b. b || has entry_range_cmp (entry_range_of t) (flat_map table_row rest)) differ) ∙ there))

-- one more section whose entries are put
pub put_more : (m n : FinMap nat_cmp ElfRelocation) (xs : List SectionOf) (i : ℕ) (x : SectionOf) → i < length xs → x ≡ slice_index_or xs i x
    → n ≡ put_all m (offsets (table_entries x)) → put_all n (offsets (flat_map table_entries (drop (i + 1) xs))) ≡ put_all m (offsets (flat_map table_entries (drop i xs)))
put_more m n xs i x below here put =
    ap (λ k. put_all k (offsets (flat_map table_entries (drop (i + 1) xs)))) put
    ∙ sym (put_all-append m (offsets (table_entries x)) (offsets (flat_map table_entries (drop (i + 1) xs))))
    ∙ sym (ap (put_all m) (ap offsets (tables_more xs i x below here) ∙ map-append offset_of (table_entries x) (flat_map table_entries (drop (i + 1) xs))))

module _ (file : List ℕ) (last : FinMap entry_range_cmp ℕ) (xs : List SectionOf) (i : ℕ) (x : SectionOf) (below : i < length xs) (here : x ≡ slice_index_or xs i x) where
  more : drop i xs ≡ x ∷ drop (i + 1) xs
  more = rest_more xs i x below here

  pub rest_of : AreOf file (drop i xs) → (x.file ≡ file) × AreOf file (drop (i + 1) xs)
  rest_of h = subst (λ (l : List SectionOf). AreOf file l) more h

  pub fewer : TableLasts last (drop i xs) → TableLasts last (drop (i + 1) xs)
  fewer lasts = fewer_lasts entry_range_total table_row last x (drop (i + 1) xs) (subst (λ (l : List SectionOf). TableLasts last l) more lasts)

  -- one whose entries are those of a later section
  pub put_passed : (m : FinMap nat_cmp ElfRelocation) → AreOf file (drop i xs) → TableLasts last (drop i xs) → is_index x.index (get last (entry_range_of x)) ≡ false
      → put_all m (offsets (flat_map table_entries (drop (i + 1) xs))) ≡ put_all m (offsets (flat_map table_entries (drop i xs)))
  put_passed m of_file lasts differs =
      let again = another entry_range_total table_row last x (drop (i + 1) xs) (subst (λ (l : List SectionOf). TableLasts last l) more lasts) (entry_range_of x) x.index refl differs in
      put_all_again nat_cmp_total nat_cmp-IsAntisymmetric m (offsets (table_entries x)) (offsets (flat_map table_entries (drop (i + 1) xs)))
      (λ q h. come_again file x (rest_of of_file).0 q (drop (i + 1) xs) (rest_of of_file).1 again h)
      ∙ sym (ap (put_all m) (ap offsets (tables_more xs i x below here) ∙ map-append offset_of (table_entries x) (flat_map table_entries (drop (i + 1) xs))))
