-- The outcome of each relocation that a pass applies or refuses: the edit of its slot, or why it
-- can't be applied. They are in the order of the functions' keys, and in a function by offset. A
-- relocation that leaves its slot has none.
use Rattle.std.specs.Prelude.{◌≡◌, ℕ, ◌+◌, ◌-◌, ◌*◌, ◌/◌, ◌%◌, ◌==◌, ◌<◌, if◌then◌else◌}
use Rattle.std.specs.Prelude.{nat_lt, List, [], ◌∷◌, length}
use Rattle.std.specs.Prelude.{Option, Some, None, Result, Ok, Err}
use Rattle.std.specs.FinMap.{FinMap, get, entries}
use Rattle.std.specs.List.{cons_option, filter_map, flat_map}
use Rattle.std.specs.Ordering.{nat_cmp}
use Rattle.ebpf_base.specs.Faults.{first_some}
use Rattle.ebpf_base.specs.Maps.{key_cmp, text_cmp}
use Rattle.ebpf_elf.specs.declared.relocation.ElfRelocation.{ElfRelocation}
use Rattle.ebpf_model.specs.Symbols.{FunctionKey}
use Rattle.ebpf_model.specs.declared.error.EbpfRelocationError.{EbpfRelocationError}
use Rattle.ebpf_model.specs.declared.function.Function.{Function}
use Rattle.ebpf_model.specs.declared.symbol.ExternDesc.{ExternDesc}
use Rattle.ebpf_model.specs.declared.symbol.Symbol.{Symbol}
use Rattle.ebpf_parts.specs.declared.insn.bpf_insn.{bpf_insn}
use Rattle.ebpf_reloc.specs.Maps.{GivenMap, map_edit}
use Rattle.ebpf_reloc.specs.Passes.{extern_edit, inputs_of}
use Rattle.ebpf_reloc.specs.Relocated.{EditRule, Pending, Relocations, SectionRelocations, edit_at}
use Rattle.ebpf_reloc.specs.Relocated.{edit_of, error_of, first_fault, found_slot, is_in_slots}
use Rattle.ebpf_reloc.specs.Relocated.{pending_of, pending_slot, relocations_of_section}
use Rattle.ebpf_reloc.specs.Relocated.{slot_or_zeros}
use Rattle.ebpf_reloc.specs.SlotTargets.{LinkableValue}
use Rattle.ebpf_reloc.specs.declared.edit.Edit.{Edit}
use Rattle.ebpf_reloc.specs.declared.edit.Edit.TheVariants.{Stay, Slot, Pair}
use Rattle.ebpf_reloc.specs.declared.edit.SlotFault.{SlotFault}
use Rattle.ebpf_reloc.specs.declared.edit.SlotFault.TheVariants.{InvalidOffset}
use Rattle.ebpf_reloc.specs.declared.slot_outcomes.SlotOutcome.{SlotOutcome}

-- ---- the outcomes

-- what a pass makes of a relocation among the slots, which is at the beginning of one
abbrev pub result_among : EditRule → SectionRelocations → ℕ → List bpf_insn → ℕ × ElfRelocation
    → Result Edit SlotFault
result_among rule_edit section_relocations start slots e =
    if (e.0 - start) % 8 == 0
    then rule_edit e.1
    (found_slot (edit_at rule_edit section_relocations start (length slots)) slots
    ((e.0 - start) / 8)) (nat_lt ((e.0 - start) / 8 + 1) (length slots))
    else Err InvalidOffset

abbrev pub slot_outcome : FunctionKey → ℕ → ℕ × ElfRelocation → Result Edit SlotFault → SlotOutcome
slot_outcome key start e result = record {
  key = key;
  slot = (e.0 - start) / 8;
  offset = e.0;
  relocation = e.1;
  result = result;
}

-- a relocation that leaves its slot has none
abbrev pub outcome_if : FunctionKey → ℕ → ℕ × ElfRelocation → Result Edit SlotFault
    → Option SlotOutcome
outcome_if key start e (Ok Stay) = None
outcome_if key start e (Ok (Slot made)) = Some (slot_outcome key start e (Ok (Slot made)))
outcome_if key start e (Ok (Pair made next)) = Some (slot_outcome key start e (Ok (Pair made next)))
outcome_if key start e (Err fault) = Some (slot_outcome key start e (Err fault))

-- one among other slots is no concern of these
abbrev pub outcome_at : EditRule → SectionRelocations → FunctionKey → ℕ → List bpf_insn
    → ℕ × ElfRelocation → Option SlotOutcome
outcome_at rule_edit section_relocations key start slots e =
    if is_in_slots start (length slots) e.0
    then outcome_if key start e (result_among rule_edit section_relocations start slots e)
    else None

-- those of the function at a key, by offset
abbrev pub outcomes_of : EditRule → SectionRelocations → FunctionKey → Function → List SlotOutcome
outcomes_of rule_edit section_relocations key f =
    filter_map (outcome_at rule_edit section_relocations key f.section_offset f.instructions)
    (entries section_relocations)

abbrev pub outcomes_in : EditRule → Relocations → FunctionKey × Function → List SlotOutcome
outcomes_in rule_edit relocations e =
    outcomes_of rule_edit (relocations_of_section relocations e.1) e.0 e.1

-- those of all functions, by the functions' keys
abbrev pub slot_outcomes : EditRule → Relocations → FinMap key_cmp Function → List SlotOutcome
slot_outcomes rule_edit relocations functions =
    flat_map (outcomes_in rule_edit relocations) (entries functions)

-- the outcomes of the relocations to maps, of the maps that are handed in
abbrev pub map_outcomes : LinkableValue → List GivenMap → List SlotOutcome
map_outcomes parts given =
    slot_outcomes (map_edit (inputs_of parts.symbols parts.text_sections given)) parts.relocations
    parts.functions

-- the outcomes of the relocations to externs
abbrev pub extern_outcomes : FinMap nat_cmp Symbol → FinMap text_cmp ExternDesc → Relocations
    → FinMap key_cmp Function → List SlotOutcome
extern_outcomes symbols externs relocations functions =
    slot_outcomes (extern_edit (record { symbols = symbols; externs = externs })) relocations
    functions

-- ---- the first refusal

abbrev pub error_by_result : FinMap nat_cmp Symbol → Relocations → SlotOutcome → Function
    → Result Edit SlotFault → Option EbpfRelocationError
error_by_result symbols relocations row f (Ok edit) = None
error_by_result symbols relocations row f (Err fault) =
    Some
    (record {
      function = f.name;
      error = error_of symbols (relocations_of_section relocations f)
          (record { offset = row.offset; relocation = row.relocation; fault = fault });
    })

abbrev pub error_in : FinMap nat_cmp Symbol → Relocations → SlotOutcome → Option Function
    → Option EbpfRelocationError
error_in symbols relocations row None = None
error_in symbols relocations row (Some f) = error_by_result symbols relocations row f row.result

-- the error of an outcome, where it is a refusal: with the name of its function
abbrev pub outcome_error : FinMap nat_cmp Symbol → Relocations → FinMap key_cmp Function
    → SlotOutcome → Option EbpfRelocationError
outcome_error symbols relocations functions row =
    error_in symbols relocations row (get functions row.key)

-- A pass refuses exactly where an outcome is a refusal, and then with the error of the first.
abbrev pub FirstRefusedOutcome : Type 0
FirstRefusedOutcome =
    (rule_edit : EditRule) (symbols : FinMap nat_cmp Symbol) (relocations : Relocations)
    (functions : FinMap key_cmp Function)
    → first_fault rule_edit symbols relocations functions
    ≡ first_some (outcome_error symbols relocations functions)
    (slot_outcomes rule_edit relocations functions)

-- ---- the slots that outcomes leave

abbrev pub edit_said : Option SlotOutcome → Edit
edit_said None = Stay
edit_said (Some row) = edit_of row.result

abbrev pub outcome_by : EditRule → SectionRelocations → FunctionKey → Function → ℕ
    → Option ElfRelocation → Option SlotOutcome
outcome_by rule_edit section_relocations key f k None = None
outcome_by rule_edit section_relocations key f k (Some relocation) =
    outcome_at rule_edit section_relocations key f.section_offset f.instructions
    (f.section_offset + 8 * k, relocation)

-- the outcome at slot k of a function
abbrev pub outcome_of_slot : EditRule → SectionRelocations → FunctionKey → Function → ℕ
    → Option SlotOutcome
outcome_of_slot rule_edit section_relocations key f k =
    outcome_by rule_edit section_relocations key f k
    (get section_relocations (f.section_offset + 8 * k))

-- A pass makes of each slot, as it is found, what the slot's outcome says: nothing where it has
-- none.
abbrev pub EditsAsSaid : Type 0
EditsAsSaid =
    (rule_edit : EditRule) (section_relocations : SectionRelocations) (key : FunctionKey)
    (f : Function) (k : ℕ)
    → k < length f.instructions
    → edit_at rule_edit section_relocations f.section_offset (length f.instructions) k
    (found_slot (edit_at rule_edit section_relocations f.section_offset (length f.instructions))
    f.instructions k)
    ≡ edit_said (outcome_of_slot rule_edit section_relocations key f k)

-- ---- what contracts of private functions name and no public one

-- what a relocation at a distance from the first slot makes of the slot that is found there
abbrev pub found_result : EditRule → List bpf_insn → Pending → ℕ → ElfRelocation
    → Result Edit SlotFault
found_result rule_edit slots pending distance relocation =
    if distance % 8 == 0
    then rule_edit relocation
    (pending_slot pending (distance / 8) (slot_or_zeros slots (distance / 8)))
    (nat_lt (distance / 8 + 1) (length slots))
    else Err InvalidOffset

-- what is pending after it: a relocation that is inside a slot leaves what was
abbrev pub pending_past : Pending → ℕ → Result Edit SlotFault → Pending
pending_past pending distance result =
    if distance % 8 == 0 then pending_of (distance / 8) (edit_of result) else pending

-- the outcomes of relocations in order, up to the first that is past the slots
abbrev pub outcomes_scanned : EditRule → FunctionKey → ℕ → List bpf_insn → Pending
    → List (ℕ × ElfRelocation) → List SlotOutcome
outcomes_scanned rule_edit key start slots pending [] = []
outcomes_scanned rule_edit key start slots pending (e ∷ es) =
    if nat_lt ((e.0 - start) / 8) (length slots)
    then cons_option
    (outcome_if key start e (found_result rule_edit slots pending (e.0 - start) e.1))
    (outcomes_scanned rule_edit key start slots
    (pending_past pending (e.0 - start)
    (found_result rule_edit slots pending (e.0 - start) e.1)) es)
    else []
