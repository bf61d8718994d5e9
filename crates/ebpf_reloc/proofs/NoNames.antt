-- Where no slot has a name: each map has a descriptor, or no relocation refers to an extern.
use Rattle.std.proofs.Common.{◌≡◌, ◌+◌, ◌*◌, ◌++◌, ◌^◌, ℕ, Bool, true, false, cond, List, [], ◌∷◌, length, map, Option, Some, None, refl, sym, ap, subst, ◌∙◌, nat_lt, ◌&&◌}
use Rattle.std.specs.Prelude.{ℤ, ◌==◌, ◌||◌, if◌then◌else◌, not, option_map, unwrap_or}
use Rattle.std.specs.declared.cmp.Ordering.{Ordering}
use Rattle.std.specs.Cmp.{nat_cmp_total}
use Rattle.std.specs.FinMap.{FinMap, IsAntisymmetric, contains_key, empty, entries, find, from_entries, get, get-empty, get-entries, get-from_entries, nat_cmp-IsAntisymmetric}
use Rattle.std.specs.List.{cons_option, filter_map, flat_map, list_all, range_with_len}
use Rattle.std.specs.Ordering.{eq_by_cmp, nat_cmp}
use Rattle.ebpf_base.proofs.Mapped.{later_number_stands}
use Rattle.ebpf_base.proofs.Maps.{is_equal}
use Rattle.ebpf_base.specs.Faults.{or_else}
use Rattle.ebpf_base.specs.Maps.{key_cmp, last_at, put_all, text_cmp}
use Rattle.ebpf_elf.specs.declared.relocation.ElfRelocation.{ElfRelocation}
use Rattle.ebpf_model.specs.Symbols.{FunctionKey, is_extern}
use Rattle.ebpf_model.specs.Walks.{found_at}
use Rattle.ebpf_model.specs.declared.function.Function.{Function}
use Rattle.ebpf_model.specs.declared.symbol.Symbol.{Symbol}
use Rattle.ebpf_parts.specs.Maps.{section_index_of, symbol_index_of}
use Rattle.ebpf_parts.specs.Slots.{is_pseudo_call}
use Rattle.ebpf_parts.specs.declared.insn.bpf_insn.{bpf_insn}
use Rattle.ebpf_parts.specs.declared.maps.either.Map.{Map}
use Rattle.ebpf_reloc.specs.NamedSlots.{MapNamingValue, Naming, map_names, maps_without_descriptors, missing_in_section, missing_map, missing_of_symbol, name_at_symbol, name_by, name_if_missing, named_at, named_in, named_slot, own_map, unwritten_extern, unwritten_externs, unwritten_symbol}
use Rattle.ebpf_reloc.specs.Relocated.{Relocations, SectionRelocations, slot_or_zeros}
use Rattle.ebpf_reloc.specs.SlotTargets.{LinkableValue}

both : (a b : Bool) → (a && b) ≡ true → (a ≡ true) × (b ≡ true)
both true b is = (refl, is)
both false b is = absurd (cc)

-- what a test says of all entries it says of the one that is found
found_entry : {K X : Type 0} {R : K → K → Ordering} → IsAntisymmetric R → (p : K × X → Bool) (q : K) (x : X) (es : List (K × X))
    → list_all p es ≡ true → find R q es ≡ Some x → p (q, x) ≡ true
found_entry exact p q x [] all there = absurd (cc)
found_entry {R = R} exact p q x (e ∷ es) all there =
    by (eq_by_cmp R q e.0) refl there (both (p e) (list_all p es) all) (found_entry exact p q x es)
  where
    by : (b : Bool) → eq_by_cmp R q e.0 ≡ b → cond b (Some e.1) (find R q es) ≡ Some x → (p e ≡ true) × (list_all p es ≡ true)
        → (list_all p es ≡ true → find R q es ≡ Some x → p (q, x) ≡ true) → p (q, x) ≡ true
    by false is at held rest = rest held.1 at
    by true is at held rest =
        let same : q ≡ e.0 = exact q e.0 (is_equal _ is) in
        let value : e.1 ≡ x = cc in
        rw (same, ← value) held.0

-- ---- no slot has a name

module _ (naming : Naming) where
  -- none of those with a relocation of the section
  abbrev HasNoName : Option SectionRelocations → Type 0
  HasNoName section_relocations = (offset : ℕ) (slot : bpf_insn) → name_by naming (found_at section_relocations offset) slot ≡ None

  none_of : (section_relocations : Option SectionRelocations) (key : FunctionKey) (f : Function) → HasNoName section_relocations
      → (slots : List ℕ) → filter_map (named_at naming section_relocations key f) slots ≡ []
  none_of section_relocations key f none [] = refl
  none_of section_relocations key f none (i ∷ slots) =
      ap (λ o. cons_option (option_map (named_slot key i) o) (filter_map (named_at naming section_relocations key f) slots))
      (none (f.section_offset + 8 * i) (slot_or_zeros f.instructions i))
      ∙ none_of section_relocations key f none slots

  none_in : (relocations : Relocations) → ((section : ℕ) → HasNoName (get relocations section))
      → (es : List (FunctionKey × Function)) → flat_map (named_in naming relocations) es ≡ []
  none_in relocations none [] = refl
  none_in relocations none (e ∷ es) =
      ap (λ list. list ++ flat_map (named_in naming relocations) es)
      (none_of (get relocations e.1.section_index.0) e.0 e.1 (none e.1.section_index.0) (range_with_len 0 (length e.1.instructions)))
      ∙ none_in relocations none es

-- ---- each map has a descriptor

module _ (descriptors : FinMap text_cmp ℤ) where
  abbrev IsDescribed : List ℕ × Map → Bool
  IsDescribed e = contains_key descriptors e.0

  -- a name, if there is one, has a descriptor
  abbrev IsNotMissing : Option (List ℕ) → Type 0
  IsNotMissing name = name_if_missing descriptors name ≡ None

  described : (name : List ℕ) → contains_key descriptors name ≡ true → IsNotMissing (Some name)
  described name is = ap (λ b. if b then None else Some name) is

  chosen : (b : Bool) (a c : Option (List ℕ)) → IsNotMissing a → IsNotMissing c → IsNotMissing (cond b a c)
  chosen true a c here there = here
  chosen false a c here there = there

  either : (a c : Option (List ℕ)) → IsNotMissing a → IsNotMissing c → IsNotMissing (or_else a c)
  either None c here there = there
  either (Some name) c here there = here

  by_section : (q : ℕ) (before : Option (List ℕ)) (es : List (List ℕ × Map)) → list_all IsDescribed es ≡ true → IsNotMissing before
      → IsNotMissing (last_at nat_cmp q before (map (λ e. (section_index_of e.1, e.0)) es))
  by_section q before [] all known = known
  by_section q before (e ∷ es) all known =
      let held = both (IsDescribed e) (list_all IsDescribed es) all in
      let at = eq_by_cmp nat_cmp q (section_index_of e.1) in
      by_section q (cond at (Some e.0) before) es held.1 (chosen at (Some e.0) before (described e.0 held.0) known)

  -- the name of a map at a symbol, if it has one, and then the others
  at_symbol : (q : ℕ) (before : Option (List ℕ)) (symbol : Option ℕ) (name : List ℕ) (rest : List (ℕ × List ℕ)) → IsNotMissing (Some name) → IsNotMissing before
      → ((o : Option (List ℕ)) → IsNotMissing o → IsNotMissing (last_at nat_cmp q o rest))
      → IsNotMissing (last_at nat_cmp q before (name_at_symbol symbol name ++ rest))
  at_symbol q before None name rest here known others = others before known
  at_symbol q before (Some symbol) name rest here known others =
      let at = eq_by_cmp nat_cmp q symbol in
      others (cond at (Some name) before) (chosen at (Some name) before here known)

  by_symbol : (q : ℕ) (before : Option (List ℕ)) (es : List (List ℕ × Map)) → list_all IsDescribed es ≡ true → IsNotMissing before
      → IsNotMissing (last_at nat_cmp q before (flat_map (λ e. name_at_symbol (symbol_index_of e.1) e.0) es))
  by_symbol q before [] all known = known
  by_symbol q before (e ∷ es) all known =
      let held = both (IsDescribed e) (list_all IsDescribed es) all in
      at_symbol q before (symbol_index_of e.1) e.0 (flat_map (λ e. name_at_symbol (symbol_index_of e.1) e.0) es) (described e.0 held.0) known
      (λ o is. by_symbol q o es held.1 is)

  put : (q : ℕ) (list : List (ℕ × List ℕ)) → IsNotMissing (last_at nat_cmp q None list) → IsNotMissing (get {R = nat_cmp} (put_all empty list) q)
  put q list is =
      subst IsNotMissing (sym (later_number_stands empty list q ∙ ap (λ o. last_at nat_cmp q o list) (get-empty nat_cmp q))) is

  own : (maps : FinMap text_cmp Map) → list_all IsDescribed (entries maps) ≡ true → (symbol section : ℕ)
      → IsNotMissing (own_map (map_names maps) symbol section)
  own maps all symbol section =
      either (get (map_names maps).by_symbol symbol) (get (map_names maps).by_section section)
      (put symbol (flat_map (λ e. name_at_symbol (symbol_index_of e.1) e.0) (entries maps)) (by_symbol symbol None (entries maps) all refl))
      (put section (map (λ e. (section_index_of e.1, e.0)) (entries maps)) (by_section section None (entries maps) all refl))

  module _ (parts : LinkableValue) (maps : FinMap text_cmp Map) (all : list_all IsDescribed (entries maps) ≡ true) where
    abbrev naming : MapNamingValue
    naming = record { symbols = parts.symbols; names = map_names maps; descriptors = descriptors; text_sections = parts.text_sections }

    in_section : (relocation : ElfRelocation) (slot : bpf_insn) (section : Option ℕ) → missing_in_section naming section relocation slot ≡ None
    in_section relocation slot None = refl
    in_section relocation slot (Some section) = by (is_pseudo_call slot || parts.text_sections section)
      where
        by : (b : Bool) → (if b then None else name_if_missing descriptors (own_map (map_names maps) relocation.symbol_index section)) ≡ None
        by true = refl
        by false = own maps all relocation.symbol_index section

    of_symbol : (relocation : ElfRelocation) (slot : bpf_insn) (symbol : Option Symbol) → missing_of_symbol naming symbol relocation slot ≡ None
    of_symbol relocation slot None = refl
    of_symbol relocation slot (Some symbol) = in_section relocation slot symbol.section_index

    none_missing : (relocation : Option ElfRelocation) (slot : bpf_insn) → name_by (missing_map naming) relocation slot ≡ None
    none_missing None slot = refl
    none_missing (Some relocation) slot = of_symbol relocation slot (get parts.symbols relocation.symbol_index)

    -- no slot's own map lacks one
    pub none_without_descriptor : [] ≡ maps_without_descriptors parts maps descriptors
    none_without_descriptor =
        sym (none_in (missing_map naming) parts.relocations (λ section offset slot. none_missing (found_at (get parts.relocations section) offset) slot) (entries parts.functions))

-- ---- no symbol but the null symbol is an extern, and no relocation has the null symbol

abbrev has_symbol : ℕ × ElfRelocation → Bool
has_symbol e = not (e.1.symbol_index == 0)

abbrev is_null_or_none : ℕ × Symbol → Bool
is_null_or_none e = e.0 == 0 || not (is_extern e.1)

module _ (relocations : Relocations) (all : list_all (λ s. list_all has_symbol (entries s.1)) (entries relocations) ≡ true) where
  of_found : (section offset : ℕ) (r : ElfRelocation) (o : Option SectionRelocations) → get relocations section ≡ o → found_at o offset ≡ Some r
      → not (r.symbol_index == 0) ≡ true
  of_found section offset r None is there = absurd (cc)
  of_found section offset r (Some list) is there = by (nat_lt offset (2 ^ 64)) there
    where
      held : list_all has_symbol (entries list) ≡ true
      held = found_entry nat_cmp-IsAntisymmetric (λ s. list_all has_symbol (entries s.1)) section list (entries relocations) all (sym (get-entries relocations section) ∙ is)

      by : (b : Bool) → (if b then get list offset else None) ≡ Some r → not (r.symbol_index == 0) ≡ true
      by false at = absurd (cc)
      by true at = found_entry nat_cmp-IsAntisymmetric has_symbol offset r (entries list) held (sym (get-entries list offset) ∙ at)

  module _ (symbols : FinMap nat_cmp Symbol) (table : List (ℕ × Symbol)) (is : from_entries table ≡ symbols) (only : list_all is_null_or_none table ≡ true) where
    not_extern : (r : ElfRelocation) (slot : bpf_insn) → not (r.symbol_index == 0) ≡ true → unwritten_extern symbols r slot ≡ None
    not_extern r slot has = by (get symbols r.symbol_index) refl
      where
        told : (null extern call : Bool) (name : List ℕ) → not null ≡ true → (null || not extern) ≡ true → (if extern && call then Some name else None) ≡ None
        told true extern call name own one = absurd (cc)
        told false true call name own one = absurd (cc)
        told false false call name own one = refl

        by : (o : Option Symbol) → get symbols r.symbol_index ≡ o → unwritten_symbol o slot ≡ None
        by None there = refl
        by (Some symbol) there =
            told (r.symbol_index == 0) (is_extern symbol) (is_pseudo_call slot) (unwrap_or symbol.name []) has
            (found_entry nat_cmp-IsAntisymmetric is_null_or_none r.symbol_index symbol table only
            (sym (get-from_entries nat_cmp_total table r.symbol_index) ∙ ap (λ m. get m r.symbol_index) is ∙ there))

    unwritten_at : (section offset : ℕ) (slot : bpf_insn) (o : Option ElfRelocation) → found_at (get relocations section) offset ≡ o
        → name_by (unwritten_extern symbols) o slot ≡ None
    unwritten_at section offset slot None there = refl
    unwritten_at section offset slot (Some r) there = not_extern r slot (of_found section offset r (get relocations section) refl there)

    none_called : (functions : FinMap key_cmp Function) → [] ≡ unwritten_externs symbols relocations functions
    none_called functions =
        sym (none_in (unwritten_extern symbols) relocations (λ section offset slot. unwritten_at section offset slot (found_at (get relocations section) offset) refl) (entries functions))

-- no slot calls an extern
pub none_unwritten : (symbols : FinMap nat_cmp Symbol) (table : List (ℕ × Symbol)) (relocations : Relocations) (functions : FinMap key_cmp Function)
    → from_entries table ≡ symbols
    → (list_all is_null_or_none table && list_all (λ s. list_all has_symbol (entries s.1)) (entries relocations)) ≡ true
    → [] ≡ unwritten_externs symbols relocations functions
none_unwritten symbols table relocations functions is all =
    let held = both (list_all is_null_or_none table) (list_all (λ s. list_all has_symbol (entries s.1)) (entries relocations)) all in
    none_called relocations held.1 symbols table is held.0 functions
