-- The tables of maps that are handed in, and the places in their data, slot by slot.
use Rattle.std.proofs.Common.{◌≡◌, ℕ, zero, suc, ◌+◌, ◌-◌, ◌*◌, ◌/◌, ◌%◌, ◌<◌, Bool, true, false, cond, List, [], ◌∷◌, length, map, Some, None, Option, Result, Ok, Err, refl, sym, ap, subst, ◌∙◌, arith, nat_lt, ◌++◌}
use Rattle.std.proofs.lemmas.Bool.Decides.{nat_tests}
use Rattle.std.specs.Prelude.{ℤ, pos, ◌+ℤ◌, ◌==◌, ◌||◌, unwrap_or, option_map}
use Rattle.std.specs.FinMap.{get, get-entries, find, entries, nat_cmp-IsAntisymmetric, FinMap, insert, empty}
use Rattle.std.specs.List.{flat_map}
use Rattle.std.specs.Ordering.{nat_cmp, eq_by_cmp}
use Rattle.std.proofs.lemmas.List.{map-append}
use Rattle.ebpf_base.proofs.Mapped.{put_all-append}
use Rattle.ebpf_base.proofs.Maps.{is_equal}
use Rattle.ebpf_base.proofs.Faults.{both_None}
use Rattle.ebpf_base.specs.Faults.{first_some}
use Rattle.ebpf_base.specs.Maps.{put_all}
use Rattle.ebpf_elf.specs.declared.relocation.ElfRelocation.{ElfRelocation}
use Rattle.ebpf_model.specs.declared.function.Function.{Function}
use Rattle.ebpf_model.specs.declared.symbol.Symbol.{Symbol}
use Rattle.ebpf_parts.specs.Maps.{section_index_of, symbol_index_of}
use Rattle.ebpf_parts.specs.Slots.{is_pseudo_call}
use Rattle.ebpf_parts.specs.declared.insn.bpf_insn.{bpf_insn}
use Rattle.ebpf_reloc.specs.Maps.{address_in, data_address_in_section, data_address_of_symbol, data_address_by, data_address, OffsetsAddUp, MapInputs, fits_imm, value_edit, target_edit, found_edit, map_target_at, edit_in_section, map_edit_of_symbol, map_edit, GivenMap, LentMap, given_map, map_target, symbol_target, at_symbol, tables_of, with_symbol, with_map_target}
use Rattle.ebpf_reloc.specs.Relocated.{slot_or_zeros, edited_next, found_slot, SectionRelocations, edit_of, edit_by, edit_at, is_in_slots, refused, refusal_at, first_refusal}
use Rattle.ebpf_reloc.specs.declared.edit.Edit.{Edit}
use Rattle.ebpf_reloc.specs.declared.edit.Edit.TheVariants.{Stay, Slot, Pair}
use Rattle.ebpf_reloc.specs.declared.maps.MapTables.{MapTables}
use Rattle.ebpf_reloc.specs.declared.maps.MapTarget.{MapTarget}
use Rattle.ebpf_reloc.specs.declared.edit.SlotFault.{SlotFault}

-- ---- no relocation is refused: the one at an offset isn't

at_offset : {E : Type 0} (f : ℕ × ElfRelocation → Option E) (q : ℕ) (r : ElfRelocation) (es : List (ℕ × ElfRelocation)) → first_some f es ≡ None → find nat_cmp q es ≡ Some r → f (q, r) ≡ None
at_offset f q r [] none there = absurd (cc)
at_offset f q r (e ∷ es) none there = by (eq_by_cmp nat_cmp q e.0) refl there (both_None (f e) (first_some f es) none) (at_offset f q r es)
  where
    by : (b : Bool) → eq_by_cmp nat_cmp q e.0 ≡ b → cond b (Some e.1) (find nat_cmp q es) ≡ Some r → (f e ≡ None) × (first_some f es ≡ None)
        → (first_some f es ≡ None → find nat_cmp q es ≡ Some r → f (q, r) ≡ None) → f (q, r) ≡ None
    by false is at both rest = rest both.1 at
    by true is at both rest =
        let same : q ≡ e.0 = nat_cmp-IsAntisymmetric q e.0 (is_equal _ is) in
        let value : e.1 ≡ r = cc in
        rw (same, ← value) both.0

-- ---- one slot

-- a slot is found as it was but for its immediate
found_own : (edit : ℕ → bpf_insn → Edit) (slots : List bpf_insn) (k : ℕ) → found_slot edit slots k ≡ record (slot_or_zeros slots k) { imm = (found_slot edit slots k).imm }
found_own edit slots zero = refl
found_own edit slots (suc k) = by (edit k (found_slot edit slots k))
  where
    by : (e : Edit) → edited_next e (slot_or_zeros slots (suc k)) ≡ record (slot_or_zeros slots (suc k)) { imm = (edited_next e (slot_or_zeros slots (suc k))).imm }
    by Stay = refl
    by (Slot made) = refl
    by (Pair made next) = refl

-- which address a slot refers to does not depend on its immediate
address_own : (inputs : MapInputs) (o : Option ElfRelocation) (slot : bpf_insn) (imm : ℤ) → data_address_by inputs o (record slot { imm = imm }) ≡ data_address_by inputs o slot
address_own inputs None slot imm = refl
address_own inputs (Some r) slot imm = by_symbol (get inputs.symbols r.symbol_index)
  where
    by_symbol : (o : Option Symbol) → data_address_of_symbol inputs o r (record slot { imm = imm }) ≡ data_address_of_symbol inputs o r slot
    by_symbol None = refl
    by_symbol (Some symbol) = elim symbol.section_index as (λ o. data_address_in_section inputs o r symbol (record slot { imm = imm }) ≡ data_address_in_section inputs o r symbol slot) [ None ↦ refl | Some section ↦ refl ]

-- what the slot after a slot with this address is found with
abbrev After : Option ℕ → bpf_insn → bpf_insn → bpf_insn → Type 0
After None slot next after = after ≡ next
After (Some address) slot next after = after ≡ record next { imm = slot.imm +ℤ pos address }

module _ (slot next : bpf_insn) (has_next : Bool) where
  abbrev Follows : Option ℕ → Result Edit SlotFault → Type 0
  Follows address r = ((e : Edit) → r ≡ Ok e → After address slot next (edited_next (edit_of r) next)) × (address ≡ None → edited_next (edit_of r) next ≡ next)

  refuses : (address : Option ℕ) (f : SlotFault) → Follows address (Err f)
  refuses address f = (λ e is. absurd (cc), λ none. refl)

  stays : Follows None (Ok Stay)
  stays = (λ e is. refl, λ none. refl)

  in_data : (target : MapTarget) (address : ℕ) → Follows (cond target.has_data (Some address) None) (target_edit target address slot has_next)
  in_data target address = by target.has_data has_next (fits_imm (slot.imm +ℤ pos address)) refl refl
    where
      by : (d m b : Bool) → has_next ≡ m → fits_imm (slot.imm +ℤ pos address) ≡ b
          → Follows (cond d (Some address) None) (cond d (cond m (value_edit (cond b (Some (slot.imm +ℤ pos address)) None) slot target.descriptor) (Err Rattle.ebpf_reloc.specs.declared.edit.SlotFault.TheVariants.InvalidOffset)) (Ok (Slot (Rattle.ebpf_reloc.specs.Maps.with_source slot 1 target.descriptor))))
      by false m b has holds = (λ e is. refl, λ none. refl)
      by true false b has holds = refuses _ _
      by true true false has holds = refuses _ _
      by true true true has holds = (λ e is. refl, λ none. absurd (cc))

  at_target : (o : Option MapTarget) (section address : ℕ) → Follows (address_in o address) (found_edit o section address slot has_next)
  at_target None section address = refuses None _
  at_target (Some target) section address = in_data target address

  in_place : (inputs : MapInputs) (o : Option ℕ) (r : ElfRelocation) (symbol : Symbol) → Follows (data_address_in_section inputs o r symbol slot) (edit_in_section inputs o r symbol slot has_next)
  in_place inputs None r symbol = stays
  in_place inputs (Some section) r symbol = by (is_pseudo_call slot || inputs.text_sections section)
    where
      by : (b : Bool) → Follows (cond b None (address_in (map_target_at inputs.tables r.symbol_index section) symbol.address)) (cond b (Ok Stay) (found_edit (map_target_at inputs.tables r.symbol_index section) section symbol.address slot has_next))
      by true = stays
      by false = at_target (map_target_at inputs.tables r.symbol_index section) section symbol.address

  follows_symbol : (inputs : MapInputs) (o : Option Symbol) (r : ElfRelocation) → Follows (data_address_of_symbol inputs o r slot) (map_edit_of_symbol inputs o r slot has_next)
  follows_symbol inputs None r = refuses None _
  follows_symbol inputs (Some symbol) r = in_place inputs symbol.section_index r symbol

module _ (inputs : MapInputs) (section_relocations : SectionRelocations) (f : Function) (clear : first_refusal (map_edit inputs) section_relocations f ≡ None) where
  abbrev edit : ℕ → bpf_insn → Edit
  edit = edit_at (map_edit inputs) section_relocations f.section_offset (length f.instructions)

  abbrev here : ℕ → bpf_insn
  here k = found_slot edit f.instructions k

  abbrev more_at : ℕ → Bool
  more_at k = nat_lt (k + 1) (length f.instructions)

  accepted : (k : ℕ) (r : ElfRelocation) → k < length f.instructions → get section_relocations (f.section_offset + 8 * k) ≡ Some r → refused (f.section_offset + 8 * k, r) (map_edit inputs r (here k) (more_at k)) ≡ None
  unfolding first_refusal
  accepted k r inside there =
      let all = at_offset (refusal_at (map_edit inputs) section_relocations f.section_offset f.instructions) (f.section_offset + 8 * k) r (entries section_relocations) clear (sym (get-entries section_relocations (f.section_offset + 8 * k)) ∙ there) in
      let slot : (f.section_offset + 8 * k - f.section_offset) / 8 ≡ k = omega arith in
      let aligned : ((f.section_offset + 8 * k - f.section_offset) % 8 == 0) ≡ true = grind (arith, nat_tests) in
      let among : is_in_slots f.section_offset (length f.instructions) (f.section_offset + 8 * k) ≡ true = grind (arith, nat_tests) in
      rw (among, aligned, slot) at all

  is_ok : (e : ℕ × ElfRelocation) (x : Result Edit SlotFault) → refused e x ≡ None → (made : Edit) × (x ≡ Ok made)
  is_ok e (Ok made) h = (made, refl)
  is_ok e (Err fault) h = absurd (cc)

  -- the slot after slot k
  after : (k : ℕ) (address : ℕ) → k < length f.instructions → data_address inputs section_relocations f k ≡ Some address → (here (suc k)).imm ≡ (here k).imm +ℤ pos address
  after k address inside is = by (get section_relocations (f.section_offset + 8 * k)) refl is
    where
      by : (o : Option ElfRelocation) → get section_relocations (f.section_offset + 8 * k) ≡ o → data_address_by inputs o (slot_or_zeros f.instructions k) ≡ Some address → (edited_next (edit_by (map_edit inputs) (get section_relocations (f.section_offset + 8 * k)) (here k) (more_at k)) (slot_or_zeros f.instructions (suc k))).imm ≡ (here k).imm +ℤ pos address
      by None there at = absurd (cc)
      by (Some r) there at =
          let ok = is_ok _ (map_edit inputs r (here k) (more_at k)) (accepted k r inside there) in
          let own : data_address_of_symbol inputs (get inputs.symbols r.symbol_index) r (here k) ≡ Some address = ap (λ s. data_address_by inputs (Some r) s) (found_own edit f.instructions k) ∙ address_own inputs (Some r) (slot_or_zeros f.instructions k) (here k).imm ∙ at in
          let follows = (follows_symbol (here k) (slot_or_zeros f.instructions (suc k)) (more_at k) inputs (get inputs.symbols r.symbol_index) r).0 ok.0 ok.1 in
          ap (λ o. (edited_next (edit_by (map_edit inputs) o (here k) (more_at k)) (slot_or_zeros f.instructions (suc k))).imm) there
          ∙ ap (λ s. s.imm) (subst (λ a. After a (here k) (slot_or_zeros f.instructions (suc k)) (edited_next (edit_of (map_edit inputs r (here k) (more_at k))) (slot_or_zeros f.instructions (suc k)))) own follows)

  -- the slot after one that refers to no data
  untouched : (k : ℕ) → data_address inputs section_relocations f k ≡ None → here (suc k) ≡ slot_or_zeros f.instructions (suc k)
  untouched k is = by (get section_relocations (f.section_offset + 8 * k)) refl is
    where
      by : (o : Option ElfRelocation) → get section_relocations (f.section_offset + 8 * k) ≡ o → data_address_by inputs o (slot_or_zeros f.instructions k) ≡ None → edited_next (edit_by (map_edit inputs) (get section_relocations (f.section_offset + 8 * k)) (here k) (more_at k)) (slot_or_zeros f.instructions (suc k)) ≡ slot_or_zeros f.instructions (suc k)
      by None there at = ap (λ o. edited_next (edit_by (map_edit inputs) o (here k) (more_at k)) (slot_or_zeros f.instructions (suc k))) there
      by (Some r) there at =
          let own : data_address_of_symbol inputs (get inputs.symbols r.symbol_index) r (here k) ≡ None = ap (λ s. data_address_by inputs (Some r) s) (found_own edit f.instructions k) ∙ address_own inputs (Some r) (slot_or_zeros f.instructions k) (here k).imm ∙ at in
          ap (λ o. edited_next (edit_by (map_edit inputs) o (here k) (more_at k)) (slot_or_zeros f.instructions (suc k))) there
          ∙ (follows_symbol (here k) (slot_or_zeros f.instructions (suc k)) (more_at k) inputs (get inputs.symbols r.symbol_index) r).1 own

pub offsets_add_up : OffsetsAddUp
offsets_add_up inputs section_relocations f k clear inside = by (data_address inputs section_relocations f k) refl
  where
    by : (o : Option ℕ) → data_address inputs section_relocations f k ≡ o
        → (here inputs section_relocations f clear (suc k)).imm ≡ unwrap_or (option_map (λ address. (here inputs section_relocations f clear k).imm +ℤ pos address) o) (slot_or_zeros f.instructions (suc k)).imm
    by None is = ap (λ s. s.imm) (untouched inputs section_relocations f clear k is)
    by (Some address) is = after inputs section_relocations f clear k address (omega arith) is

-- ---- the maps that are handed in, with one more at the end

abbrev Table : Type 0
Table = FinMap nat_cmp MapTarget

put_symbol : (table : Table) (symbol : Option ℕ) (target : MapTarget) → put_all table (at_symbol symbol target) ≡ with_symbol table symbol target
put_symbol table None target = refl
put_symbol table (Some symbol) target = refl

symbols_push : (table : Table) (given : List GivenMap) (m : GivenMap)
    → put_all table (flat_map (λ m. at_symbol (symbol_index_of m.1) (symbol_target m)) (given ++ m ∷ [])) ≡ with_symbol (put_all table (flat_map (λ m. at_symbol (symbol_index_of m.1) (symbol_target m)) given)) (symbol_index_of m.1) (symbol_target m)
symbols_push table [] m = put_all-append table (at_symbol (symbol_index_of m.1) (symbol_target m)) [] ∙ put_symbol table (symbol_index_of m.1) (symbol_target m)
symbols_push table (n ∷ given) m =
    let first = at_symbol (symbol_index_of n.1) (symbol_target n) in
    put_all-append table first (flat_map (λ m. at_symbol (symbol_index_of m.1) (symbol_target m)) (given ++ m ∷ []))
    ∙ symbols_push (put_all table first) given m
    ∙ ap (λ t. with_symbol t (symbol_index_of m.1) (symbol_target m)) (sym (put_all-append table first (flat_map (λ m. at_symbol (symbol_index_of m.1) (symbol_target m)) given)))

sections_push : (table : Table) (given : List GivenMap) (m : GivenMap)
    → put_all table (map (λ m. (section_index_of m.1, map_target m)) (given ++ m ∷ [])) ≡ insert (put_all table (map (λ m. (section_index_of m.1, map_target m)) given)) (section_index_of m.1) (map_target m)
sections_push table [] m = refl
sections_push table (n ∷ given) m = sections_push (insert table (section_index_of n.1) (map_target n)) given m

tables_push : (given : List GivenMap) (m : GivenMap) → tables_of (given ++ m ∷ []) ≡ with_map_target (tables_of given) m.0 m.1
unfolding tables_of
tables_push given m = λ i. record { by_symbol = symbols_push empty given m i; by_section = sections_push empty given m i }

pub tables_none : tables_of [] ≡ record { by_symbol = empty; by_section = empty }
unfolding tables_of
tables_none = refl

-- one more of the maps that were read
pub tables_next : (tables next : MapTables) (lent : List LentMap) (m : LentMap)
    → tables ≡ tables_of (map given_map lent) → next ≡ with_map_target tables m.1 m.2.now → next ≡ tables_of (map given_map (lent ++ m ∷ []))
tables_next tables next lent m before is =
    is ∙ ap (λ t. with_map_target t m.1 m.2.now) before ∙ sym (tables_push (map given_map lent) (given_map m)) ∙ ap tables_of (sym (map-append given_map lent (m ∷ [])))
