-- What edits make of slots, functions after a pass, and the first relocation that a pass cannot
-- apply.
use Rattle.std.specs.Prelude.{ℕ, zero, suc, pos, List, length, map, slice_index_or, ◌+◌, ◌-◌, ◌*◌}
use Rattle.std.specs.Prelude.{◌/◌, ◌%◌, ◌==◌, Bool, ◌&&◌, if◌then◌else◌, nat_le, nat_lt, []}
use Rattle.std.specs.Prelude.{count_by, Option, Some, None, unwrap_or, option_map, Result, Ok, Err}
use Rattle.std.specs.Prelude.{ℤ, ◌∷◌, slice_set}
use Rattle.std.specs.List.{range_with_len}
use Rattle.std.specs.FinMap.{FinMap, get, empty, entries}
use Rattle.std.specs.Ordering.{nat_cmp}
use Rattle.ebpf_base.specs.Faults.{first_some}
use Rattle.ebpf_base.specs.Maps.{key_cmp}
use Rattle.ebpf_elf.specs.declared.relocation.ElfRelocation.{ElfRelocation}
use Rattle.ebpf_model.specs.Walks.{KeepsShape}
use Rattle.ebpf_model.specs.declared.error.EbpfRelocationError.{EbpfRelocationError}
use Rattle.ebpf_model.specs.declared.error.RelocationError.{RelocationError}
use Rattle.ebpf_model.specs.declared.function.Function.{Function}
use Rattle.ebpf_model.specs.declared.symbol.Symbol.{Symbol}
use Rattle.ebpf_parts.specs.declared.insn.bpf_insn.{bpf_insn}
use Rattle.ebpf_reloc.specs.declared.edit.Edit.{Edit}
use Rattle.ebpf_reloc.specs.declared.edit.Edit.TheVariants.{Stay, Slot, Pair}
use Rattle.ebpf_reloc.specs.declared.edit.SlotFault.{SlotFault}
use Rattle.ebpf_reloc.specs.declared.edit.SlotFault.TheVariants.{UnknownSymbol, InvalidOffset}
use Rattle.ebpf_reloc.specs.declared.edit.SlotFault.TheVariants.{SectionNotFound}
use Rattle.ebpf_reloc.specs.declared.edit.SlotFault.TheVariants.{MapAddressOverflow, ExternNotFound}
use Rattle.ebpf_reloc.specs.declared.edit.SlotFault.TheVariants.{UnresolvableSymbol}
use Rattle.ebpf_reloc.specs.declared.edit.SlotRefusal.{SlotRefusal}
use Rattle.ebpf_model.specs.declared.error.RelocationError.TheVariants as error

-- ---- what edits make of the slots of a function, slot by slot

-- the slot at a place, or one of zeros past the end
abbrev pub slot_or_zeros : List bpf_insn → ℕ → bpf_insn
slot_or_zeros slots j =
    slice_index_or slots j (record { code = 0; regs = 0; off = pos 0; imm = pos 0 })

-- the slot that an edit makes of one
abbrev pub edited : Edit → bpf_insn → bpf_insn
edited Stay slot = slot
edited (Slot made) slot = made
edited (Pair made next) slot = made

-- the slot after it, which the edit may give another immediate
abbrev pub edited_next : Edit → bpf_insn → bpf_insn
edited_next Stay slot = slot
edited_next (Slot made) slot = slot
edited_next (Pair made next) slot = record slot { imm = next }

-- Slot j as its own edit finds it: with the immediate that the edit of the slot before it wrote,
-- else as it was.
-- What each edit makes depends on its place and on the slot that it finds.
abbrev pub found_slot : (ℕ → bpf_insn → Edit) → List bpf_insn → ℕ → bpf_insn
found_slot edit slots zero = slot_or_zeros slots 0
found_slot edit slots (suc j) =
    edited_next (edit j (found_slot edit slots j)) (slot_or_zeros slots (suc j))

-- slot j afterwards
abbrev pub slot_after : (ℕ → bpf_insn → Edit) → List bpf_insn → ℕ → bpf_insn
slot_after edit slots j = edited (edit j (found_slot edit slots j)) (found_slot edit slots j)

-- all slots afterwards
unfoldable pub slots_after : (ℕ → bpf_insn → Edit) → List bpf_insn → List bpf_insn
slots_after edit slots = map (slot_after edit slots) (range_with_len 0 (length slots))

-- ---- functions after a pass, and the first relocation that a pass can't apply

-- the relocations of one section by offset, and those of all sections by index
abbrev pub SectionRelocations : Type 0
SectionRelocations = FinMap nat_cmp ElfRelocation

abbrev pub Relocations : Type 0
Relocations = FinMap nat_cmp SectionRelocations

-- What a pass makes of a relocation and of the slot at which it stands, as it is found there; the
-- last value tells whether the function has a slot after it.
abbrev pub EditRule : Type 0
EditRule = ElfRelocation → bpf_insn → Bool → Result Edit SlotFault

abbrev pub edit_of : Result Edit SlotFault → Edit
edit_of (Ok edit) = edit
edit_of (Err fault) = Stay

abbrev pub edit_by : EditRule → Option ElfRelocation → bpf_insn → Bool → Edit
edit_by rule_edit None slot has_next = Stay
edit_by rule_edit (Some relocation) slot has_next = edit_of (rule_edit relocation slot has_next)

-- what becomes of slot j of a function: the edit of the relocation at its offset, where there is
-- one
abbrev pub edit_at : EditRule → SectionRelocations → ℕ → ℕ → ℕ → bpf_insn → Edit
edit_at rule_edit section_relocations start count j slot =
    edit_by rule_edit (get section_relocations (start + 8 * j)) slot (nat_lt (j + 1) count)

-- the relocations of a function's section
abbrev pub relocations_of_section : Relocations → Function → SectionRelocations
relocations_of_section relocations f = unwrap_or (get relocations f.section_index.0) empty

-- a function after the pass: its slots alone are written
unfoldable pub relocated : EditRule → Relocations → Function → Function
relocated rule_edit relocations f = record f {
  instructions =
      slots_after
      (edit_at rule_edit (relocations_of_section relocations f) f.section_offset
      (length f.instructions)) f.instructions;
}

-- whether an offset of the section is in slots from `start` on
abbrev pub is_in_slots : ℕ → ℕ → ℕ → Bool
is_in_slots start count offset = nat_le start offset && nat_lt ((offset - start) / 8) count

abbrev pub refused : ℕ × ElfRelocation → Result Edit SlotFault → Option SlotRefusal
refused e (Ok edit) = None
refused e (Err fault) = Some (record { offset = e.0; relocation = e.1; fault = fault })

-- of a relocation among the slots: it is at the beginning of a slot, and the pass can apply it
-- there
abbrev pub refusal_among : EditRule → SectionRelocations → ℕ → List bpf_insn → ℕ × ElfRelocation
    → Option SlotRefusal
refusal_among rule_edit section_relocations start slots e =
    if (e.0 - start) % 8 == 0
    then refused e
    (rule_edit e.1
    (found_slot (edit_at rule_edit section_relocations start (length slots)) slots
    ((e.0 - start) / 8)) (nat_lt ((e.0 - start) / 8 + 1) (length slots)))
    else refused e (Err InvalidOffset)

-- one among other slots is no concern of these
abbrev pub refusal_at : EditRule → SectionRelocations → ℕ → List bpf_insn → ℕ × ElfRelocation
    → Option SlotRefusal
refusal_at rule_edit section_relocations start slots e =
    if is_in_slots start (length slots) e.0
    then refusal_among rule_edit section_relocations start slots e
    else None

-- the first relocation of a function, by offset, that can't be applied
unfoldable pub first_refusal : EditRule → SectionRelocations → Function → Option SlotRefusal
first_refusal rule_edit section_relocations f =
    first_some (refusal_at rule_edit section_relocations f.section_offset f.instructions)
    (entries section_relocations)

-- the number of a relocation: how many of the section are before it
abbrev pub number_of : SectionRelocations → ℕ → ℕ
number_of section_relocations offset =
    count_by (λ e. nat_lt e.0 offset) (entries section_relocations)

abbrev pub symbol_name_of : Option Symbol → Option (List ℕ)
symbol_name_of None = None
symbol_name_of (Some symbol) = symbol.name

abbrev pub error_by : SlotFault → FinMap nat_cmp Symbol → SectionRelocations → SlotRefusal
    → RelocationError
error_by UnknownSymbol symbols section_relocations r = error.UnknownSymbol r.relocation.symbol_index
error_by InvalidOffset symbols section_relocations r =
    error.InvalidRelocationOffset r.offset (number_of section_relocations r.offset)
error_by (SectionNotFound section) symbols section_relocations r =
    error.SectionNotFound section r.relocation.symbol_index
    (symbol_name_of (get symbols r.relocation.symbol_index))
error_by MapAddressOverflow symbols section_relocations r = error.MapAddressOverflow r.offset
error_by ExternNotFound symbols section_relocations r =
    error.ExternNotFound (unwrap_or (symbol_name_of (get symbols r.relocation.symbol_index)) [])
error_by UnresolvableSymbol symbols section_relocations r =
    error.UnresolvableSymbol (unwrap_or (symbol_name_of (get symbols r.relocation.symbol_index)) [])

-- the error of a relocation that can't be applied
abbrev pub error_of : FinMap nat_cmp Symbol → SectionRelocations → SlotRefusal → RelocationError
error_of symbols section_relocations r = error_by r.fault symbols section_relocations r

-- out of memory, the one answer beside
abbrev pub out_of_memory : EbpfRelocationError
out_of_memory = record { function = []; error = error.OutOfMemory }

-- the fault of a function
abbrev pub function_fault : EditRule → FinMap nat_cmp Symbol → Relocations → Function
    → Option EbpfRelocationError
function_fault rule_edit symbols relocations f =
    option_map
    (λ r.
    record {
      function = f.name;
      error = error_of symbols (relocations_of_section relocations f) r;
    })
    (first_refusal rule_edit (relocations_of_section relocations f) f)

-- the first fault, by the functions' keys and then by the relocations' offsets
unfoldable pub first_fault : EditRule → FinMap nat_cmp Symbol → Relocations
    → FinMap key_cmp Function → Option EbpfRelocationError
first_fault rule_edit symbols relocations functions =
    first_some (λ e. function_fault rule_edit symbols relocations e.1) (entries functions)

-- ---- what the passes leave of functions: all but their slots, and how many these are

-- whatever a pass makes of relocations
abbrev pub PassesKeepShapes : Type 0
PassesKeepShapes =
    (rule_edit : EditRule) (relocations : Relocations) (f : Function)
    → KeepsShape f (relocated rule_edit relocations f)

-- ---- relocations one after another: how slots are written in place, and how the first one that
-- can't be applied is found

-- the slots after an edit of slot j
abbrev pub slots_after_edit : List bpf_insn → ℕ → Edit → List bpf_insn
slots_after_edit slots j Stay = slots
slots_after_edit slots j (Slot made) = slice_set slots j made
slots_after_edit slots j (Pair made next) =
    slice_set (slice_set slots (j + 1) (record (slot_or_zeros slots (j + 1)) { imm = next })) j made

-- the slots after a relocation at a distance from the first of them
abbrev pub slots_after_relocation : EditRule → ℕ → ElfRelocation → List bpf_insn → List bpf_insn
slots_after_relocation rule_edit distance relocation slots =
    if distance % 8 == 0
    then slots_after_edit slots (distance / 8)
    (edit_of
    (rule_edit relocation (slot_or_zeros slots (distance / 8))
    (nat_lt (distance / 8 + 1) (length slots))))
    else slots

-- the slots after relocations in order, up to the first that is past them
abbrev pub slots_after_relocations : EditRule → ℕ → List (ℕ × ElfRelocation) → List bpf_insn
    → List bpf_insn
slots_after_relocations rule_edit start [] slots = slots
slots_after_relocations rule_edit start (e ∷ es) slots =
    if nat_lt ((e.0 - start) / 8) (length slots)
    then slots_after_relocations rule_edit start es
    (slots_after_relocation rule_edit (e.0 - start) e.1 slots)
    else slots

-- a place and the immediate that the slot there is found with
abbrev pub Pending : Type 0
Pending = Option (ℕ × ℤ)

abbrev pub pending_slot : Pending → ℕ → bpf_insn → bpf_insn
pending_slot None j slot = slot
pending_slot (Some p) j slot = if p.0 == j then record slot { imm = p.1 } else slot

-- what an edit of slot j leaves to be found
abbrev pub pending_of : ℕ → Edit → Pending
pending_of j Stay = None
pending_of j (Slot made) = None
pending_of j (Pair made next) = Some (j + 1, next)

abbrev pub pending_after : ℕ → Result Edit SlotFault → Result Pending SlotFault
pending_after j (Ok edit) = Ok (pending_of j edit)
pending_after j (Err fault) = Err fault

-- what a relocation at a distance from the first slot leaves to be found, or why it can't be
-- applied
abbrev pub tried : EditRule → List bpf_insn → Pending → ℕ → ElfRelocation → Result Pending SlotFault
tried rule_edit slots pending distance relocation =
    if distance % 8 == 0
    then pending_after (distance / 8)
    (rule_edit relocation
    (pending_slot pending (distance / 8) (slot_or_zeros slots (distance / 8)))
    (nat_lt (distance / 8 + 1) (length slots)))
    else Err InvalidOffset

abbrev pub scan_on : ℕ × ElfRelocation → Result Pending SlotFault → (Pending → Option SlotRefusal)
    → Option SlotRefusal
scan_on e (Ok pending) rest = rest pending
scan_on e (Err fault) rest = Some (record { offset = e.0; relocation = e.1; fault = fault })

-- the first relocation of some in order that can't be applied, up to the first that is past the
-- slots
abbrev pub scan : EditRule → ℕ → List bpf_insn → Pending → List (ℕ × ElfRelocation)
    → Option SlotRefusal
scan rule_edit start slots pending [] = None
scan rule_edit start slots pending (e ∷ es) =
    if nat_lt ((e.0 - start) / 8) (length slots)
    then scan_on e (tried rule_edit slots pending (e.0 - start) e.1) (λ next.
    scan rule_edit start slots next es)
    else None
