-- The slots that CO-RE records touch, and the outcome of each record of an object, also behind one
-- that is refused.
use Rattle.std.specs.Prelude.{◌≡◌, ◌⊎◌, ℕ, ◌+◌, ◌-◌, ◌/◌, ◌%◌, ◌<◌, ◌==◌, Bool, true, false, List}
use Rattle.std.specs.Prelude.{[], map, flat_map, length, Option, Some, None, option_map, Result, Ok}
use Rattle.std.specs.Prelude.{Err, slice_get, ◌∷◌, fold, is_some, if◌then◌else◌, ◌≢◌, take}
use Rattle.std.specs.FinMap.{FinMap, get, empty}
use Rattle.ebpf_base.specs.Maps.{key_cmp, text_cmp}
use Rattle.ebpf_btf.specs.Strings.{text_at}
use Rattle.ebpf_btf.specs.declared.error.BtfError.{BtfError}
use Rattle.ebpf_btf_ext.specs.declared.relocation.Relocation.{Relocation}
use Rattle.ebpf_core.specs.SamePathValue.{SamePathValue}
use Rattle.ebpf_core.specs.Searches.{outcome_of, Sides}
use Rattle.ebpf_core.specs.declared.outcome.Outcome.{Outcome}
use Rattle.ebpf_parts.specs.Slots.{class_ld}
use Rattle.ebpf_parts.specs.declared.insn.bpf_insn.{bpf_insn}
use Rattle.ebpf_model.specs.Symbols.{FunctionKey}
use Rattle.ebpf_model.specs.Walks.{KeepShapes}
use Rattle.ebpf_model.specs.declared.function.Function.{Function}
use Rattle.ebpf_base.specs.Faults.{if_ok, first_some}
use Rattle.ebpf_btf.specs.Next.{if_some}
use Rattle.ebpf_btf.specs.TypeInfo.{TypeInfo}
use Rattle.ebpf_core.specs.Answers.{of_types, without_texts}
use Rattle.ebpf_core.specs.declared.error.RelocationError.{RelocationError}
use Rattle.ebpf_core.specs.declared.error.RelocationError.TheVariants.{SectionNotFound}
use Rattle.ebpf_elf.specs.declared.section.SectionIndex.{SectionIndex}
use Rattle.ebpf_core_relo.specs.Carried.{written}
use Rattle.ebpf_core_relo.specs.Spans.{spans_of, span_at}
use Rattle.ebpf_core_relo.specs.Records.{RelocationInputs, Written, own_slots, slots_so_far}
use Rattle.ebpf_core_relo.specs.Records.{slots_written, with_slots, record_applied}
use Rattle.ebpf_core_relo.specs.Records.{error_in_section, unnamed_section}
use Rattle.ebpf_core_relo.specs.Absences.{absence_of}
use Rattle.ebpf_core_relo.specs.declared.outcomes.RecordOutcome.{RecordOutcome}
use Rattle.ebpf_core_relo.specs.declared.outcomes.RecordResult.{RecordResult}
use Rattle.ebpf_core_relo.specs.declared.outcomes.RecordResult.TheVariants.{Value, Absent, Refused}
use Rattle.ebpf_core_relo.specs.declared.outcomes.RecordSlot.{RecordSlot}
use Rattle.ebpf_core_relo.specs.declared.error.BtfRelocationError.{BtfRelocationError}

-- ---- the records of an object

-- the index of the section of a name, if the name can be read and such a section is there
abbrev pub section_index_named : RelocationInputs → Result (List ℕ) BtfError → Option ℕ
section_index_named inputs (Ok name) =
    option_map (λ section. section.0) (get inputs.section_infos name)
section_index_named inputs (Err e) = None

abbrev pub section_index_named_at : RelocationInputs → ℕ → Option ℕ
section_index_named_at inputs offset =
    section_index_named inputs (text_at inputs.sides.local.strings offset)

-- records of a section, each with the section's index
abbrev pub records_in_section : Option ℕ → List Relocation → List (ℕ × Relocation)
records_in_section None rs = []
records_in_section (Some section) rs = map (λ r. (section, r)) rs

-- the records of an object in order, each with the index of its section
abbrev pub records_with_sections : RelocationInputs → List (ℕ × List Relocation)
    → List (ℕ × Relocation)
records_with_sections inputs parts =
    flat_map (λ part. records_in_section (section_index_named_at inputs part.0) part.1) parts

-- ---- the slots that a record touches

-- the slot that a record is about: the key of its function, and its number there
abbrev pub record_slot : RelocationInputs → ℕ × Relocation → Option (FunctionKey × ℕ)
record_slot inputs located =
    option_map (λ span. ((located.0, span.address), (located.1.insn_off - span.start) / 8))
    (span_at located.1.insn_off (spans_of inputs.functions located.0))

-- whether there is a slot of class 0, which goes on in the next one
abbrev pub goes_on : Option bpf_insn → Bool
goes_on None = false
goes_on (Some slot) = slot.code % 8 == class_ld

-- A record touches the slot that it is about, and where this one is of class 0 the next one: by the
-- slots before all records.
pub record Touches (inputs : RelocationInputs) (located : ℕ × Relocation) (key : FunctionKey)
    (i : ℕ)
    : Type 0 where
  pub slot : ℕ
  pub about : record_slot inputs located ≡ Some (key, slot)
  pub touched : (i ≡ slot) ⊎
      ((i ≡ slot + 1)
      × (goes_on (slice_get (own_slots (get inputs.functions key)) slot) ≡ true))

-- Record number n writes alone: each record that touches a slot which it touches is number n.
abbrev pub WritesAlone : RelocationInputs → List (ℕ × Relocation) → ℕ → ℕ × Relocation → Type 0
WritesAlone inputs records n located =
    (m : ℕ) (other : ℕ × Relocation) → slice_get records m ≡ Some other
    → (key : FunctionKey) (i : ℕ) → Touches inputs located key i → Touches inputs other key i
    → m ≡ n

-- No record is left out.
abbrev pub RecordsHaveSections : Type 0
RecordsHaveSections =
    (inputs : RelocationInputs) (parts : List (ℕ × List Relocation)) (so_far : Written)
    → slots_written inputs parts ≡ Ok so_far
    → map (λ located. located.1) (records_with_sections inputs parts)
    ≡ flat_map (λ part. part.1) parts

-- a record is about a slot that is there
pub record HasSlot (inputs : RelocationInputs) (located : ℕ × Relocation) : Type 0 where
  pub key : FunctionKey
  pub slot : ℕ
  pub about : record_slot inputs located ≡ Some (key, slot)
  pub there : slot < length (own_slots (get inputs.functions key))

-- So is each.
abbrev pub RecordsHaveSlots : Type 0
RecordsHaveSlots =
    (inputs : RelocationInputs) (parts : List (ℕ × List Relocation)) (so_far : Written)
    → slots_written inputs parts ≡ Ok so_far
    → (n : ℕ) (located : ℕ × Relocation)
    → slice_get (records_with_sections inputs parts) n ≡ Some located
    → HasSlot inputs located

-- ---- what slots carry

-- The slots that a record touches are what they become where its outcome is written into its
-- function's own slots: other records make no difference. The outcome is the value of the same path
-- in the target.
pub record Carries (inputs : RelocationInputs) (so_far : Written) (located : ℕ × Relocation)
    : Type 0 where
  pub key : FunctionKey
  pub slot : ℕ
  pub about : record_slot inputs located ≡ Some (key, slot)
  pub function : Function
  pub there : get inputs.functions key ≡ Some function
  pub outcome : Outcome
  pub found : outcome_of inputs.sides.local inputs.sides.target located.1 ≡ Ok outcome
  pub same_path : SamePathValue inputs.sides.local inputs.sides.target located.1 outcome
  pub slots : List bpf_insn
  pub carried : written located.1.number function.instructions slot outcome ≡ Ok slots
  pub stands : (i : ℕ)
      → Touches inputs located key i
      → slice_get (slots_so_far inputs.functions so_far key) i ≡ slice_get slots i

-- Where a record writes alone, the slots that it touches carry its outcome.
abbrev pub RecordsAloneAreCarried : Type 0
RecordsAloneAreCarried =
    (inputs : RelocationInputs) (parts : List (ℕ × List Relocation)) (so_far : Written)
    → slots_written inputs parts ≡ Ok so_far
    → (n : ℕ) (located : ℕ × Relocation)
    → slice_get (records_with_sections inputs parts) n ≡ Some located
    → WritesAlone inputs (records_with_sections inputs parts) n located
    → Carries inputs so_far located

-- A slot that no record touches is as before.
abbrev pub OtherSlotsStay : Type 0
OtherSlotsStay =
    (inputs : RelocationInputs) (parts : List (ℕ × List Relocation)) (so_far : Written)
    → slots_written inputs parts ≡ Ok so_far
    → (key : FunctionKey) (i : ℕ)
    → ((n : ℕ) (located : ℕ × Relocation)
    → slice_get (records_with_sections inputs parts) n ≡ Some located
    → ¬ (Touches inputs located key i))
    → slice_get (slots_so_far inputs.functions so_far key) i
    ≡ slice_get (own_slots (get inputs.functions key)) i

-- Each function has as many slots as before.
abbrev pub SlotsStayAsMany : Type 0
SlotsStayAsMany =
    (inputs : RelocationInputs) (parts : List (ℕ × List Relocation)) (so_far : Written)
    → slots_written inputs parts ≡ Ok so_far
    → (key : FunctionKey)
    → length (slots_so_far inputs.functions so_far key)
    ≡ length (own_slots (get inputs.functions key))

-- functions with the slots that records have left in the places of their own
abbrev pub HaveSlots : FinMap key_cmp Function → Written → FinMap key_cmp Function → Type 0
HaveSlots before so_far after =
    (key : FunctionKey) → get after key ≡ with_slots (get so_far key) (get before key)

-- Put in place they are the functions' own.
abbrev pub PutSlotsStand : Type 0
PutSlotsStand =
    (inputs : RelocationInputs) (parts : List (ℕ × List Relocation)) (so_far : Written)
    → slots_written inputs parts ≡ Ok so_far
    → (functions : FinMap key_cmp Function)
    → HaveSlots inputs.functions so_far functions
    → (key : FunctionKey)
    → own_slots (get functions key) ≡ slots_so_far inputs.functions so_far key

-- All else of the functions stays.
abbrev pub RecordsKeepShapes : Type 0
RecordsKeepShapes =
    (inputs : RelocationInputs) (parts : List (ℕ × List Relocation)) (so_far : Written)
    → slots_written inputs parts ≡ Ok so_far
    → (functions : FinMap key_cmp Function)
    → HaveSlots inputs.functions so_far functions
    → KeepShapes inputs.functions functions

-- ---- the records of an object

-- a record, and the offset of its section's name
abbrev pub Named : Type 0
Named = ℕ × Relocation

abbrev pub named_in : ℕ → List Relocation → List Named
named_in offset rs = map (λ r. (offset, r)) rs

-- all records in order: the sections one after the other, and in each its records
abbrev pub named_records : List (ℕ × List Relocation) → List Named
named_records parts = flat_map (λ part. named_in part.0 part.1) parts

-- ---- what they write

-- the index of the section whose name is at an offset
abbrev pub section_by : FinMap text_cmp SectionIndex → Result (List ℕ) RelocationError
    → Result ℕ RelocationError
section_by infos name =
    if_ok name (λ text. if_some (get infos text) (λ section. Ok section.0) (Err SectionNotFound))

unfoldable pub section_number_at : TypeInfo → FinMap text_cmp SectionIndex → ℕ
    → Result ℕ RelocationError
section_number_at local infos offset = section_by infos (of_types (text_at local.strings offset))

abbrev pub record_section : RelocationInputs → Named → Result ℕ RelocationError
record_section inputs named = section_number_at inputs.sides.local inputs.section_infos named.0

-- what a record makes of the slots that were written before it, or its fault
abbrev pub applied : RelocationInputs → Result ℕ RelocationError → Written → Relocation
    → Result Written RelocationError
applied inputs section so_far r = if_ok section (λ number. record_applied inputs number so_far r)

-- one that is refused writes nothing
abbrev pub left_by : Written → Result Written RelocationError → Written
left_by so_far (Ok left) = left
left_by so_far (Err fault) = so_far

abbrev pub left_after : RelocationInputs → Written → Named → Written
left_after inputs so_far named =
    left_by so_far (applied inputs (record_section inputs named) so_far named.1)

-- the slots that records leave: the ones write that aren't refused, each over those before it
abbrev pub slots_left : RelocationInputs → Written → List Named → Written
slots_left inputs so_far records = fold (left_after inputs) so_far records

-- ---- their outcomes

-- the slot that a record of a section is about
abbrev pub slot_of_record : RelocationInputs → Result ℕ RelocationError → Relocation
    → Option RecordSlot
slot_of_record inputs (Ok section) r =
    option_map (λ place. record { function = place.0; slot = place.1 })
    (record_slot inputs (section, r))
slot_of_record inputs (Err fault) r = None

-- an outcome without a value is absent, with the reason why there is none
abbrev pub outcome_result : Sides → Relocation → Outcome → RecordResult
outcome_result sides r outcome =
    if is_some outcome.value then Value outcome else Absent (absence_of sides.local sides.target r)

abbrev pub record_result : Sides → Relocation → Result Outcome RelocationError → RecordResult
record_result sides r (Ok outcome) = outcome_result sides r outcome
record_result sides r (Err fault) = Refused fault

-- the outcome of a record of a section, over the slots that were written before it
abbrev pub result_in : RelocationInputs → Result ℕ RelocationError → Written → Relocation
    → RecordResult
result_in inputs section so_far r =
    record_result inputs.sides r
    (if_ok (applied inputs section so_far r) (λ left.
    outcome_of inputs.sides.local inputs.sides.target r))

abbrev pub outcome_in : RelocationInputs → ℕ → Result ℕ RelocationError → Written → Relocation
    → RecordOutcome
outcome_in inputs offset section so_far r =
    record {
      section_name = offset;
      number = r.number;
      slot = slot_of_record inputs section r;
      result = result_in inputs section so_far r;
    }

unfoldable pub outcome_after : RelocationInputs → Written → Named → RecordOutcome
outcome_after inputs so_far named =
    outcome_in inputs named.0 (record_section inputs named) so_far named.1

-- the outcomes of records in order, each over the slots that the records before it left
abbrev pub outcomes_from : RelocationInputs → Written → List Named → List RecordOutcome
outcomes_from inputs so_far [] = []
outcomes_from inputs so_far (named ∷ records) =
    outcome_after inputs so_far named
    ∷ outcomes_from inputs (left_after inputs so_far named) records

-- the outcomes of records, the first over the functions' own slots
abbrev pub record_outcomes : RelocationInputs → List (ℕ × List Relocation) → List RecordOutcome
record_outcomes inputs parts = outcomes_from inputs empty (named_records parts)

abbrev pub record_slots : RelocationInputs → List (ℕ × List Relocation) → Written
record_slots inputs parts = slots_left inputs empty (named_records parts)

-- ---- without the texts in faults that are for people to read

abbrev pub result_without_texts : RecordResult → RecordResult
result_without_texts (Value outcome) = Value outcome
result_without_texts (Absent absence) = Absent absence
result_without_texts (Refused fault) = Refused (without_texts fault)

abbrev pub outcome_without_texts : RecordOutcome → RecordOutcome
outcome_without_texts row = record row { result = result_without_texts row.result }

-- ---- what holds of the outcomes of records, beside the slots that they write

-- Each record has a place, and there its outcome over the slots that the records before it left.
abbrev pub OutcomesAreInOrder : Type 0
OutcomesAreInOrder =
    (inputs : RelocationInputs) (parts : List (ℕ × List Relocation)) (k : ℕ)
    → slice_get (record_outcomes inputs parts) k
    ≡ option_map
    (λ named.
    outcome_after inputs (slots_left inputs empty (take k (named_records parts))) named)
    (slice_get (named_records parts) k)

-- the name of a section, or a text in place of a name that can't be read
abbrev pub name_or_unnamed : ℕ → Result (List ℕ) BtfError → List ℕ
name_or_unnamed offset (Ok name) = name
name_or_unnamed offset (Err e) = unnamed_section offset

-- the refusal of a record, in its section
abbrev pub refusal_in : List ℕ → RecordResult → Option BtfRelocationError
refusal_in name (Value outcome) = None
refusal_in name (Absent absence) = None
refusal_in name (Refused fault) = Some (error_in_section name fault)

abbrev pub refusal : RelocationInputs → RecordOutcome → Option BtfRelocationError
refusal inputs row =
    refusal_in
    (name_or_unnamed row.section_name (text_at inputs.sides.local.strings row.section_name))
    row.result

-- some slots, unless there is a refusal
abbrev pub unless : Option BtfRelocationError → Written → Result Written BtfRelocationError
unless None left = Ok left
unless (Some fault) left = Err fault

-- each part has records
abbrev pub HaveRecords : List (ℕ × List Relocation) → Type 0
HaveRecords parts =
    (n : ℕ) (part : ℕ × List Relocation) → slice_get parts n ≡ Some part → part.1 ≢ []

-- Records one by one and all at once: the slots are refused where a record is, with the first
-- refusal, and else they are those that all records leave. Of a part without records nothing is
-- told here, and its section has to be found there.
abbrev pub FirstRefusalIsTheFault : Type 0
FirstRefusalIsTheFault =
    (inputs : RelocationInputs) (parts : List (ℕ × List Relocation)) → HaveRecords parts
    → slots_written inputs parts
    ≡ unless (first_some (refusal inputs) (record_outcomes inputs parts))
    (record_slots inputs parts)

-- Where no record is refused and no section is missing, the slots are the same, whatever parts have
-- records.
abbrev pub SlotsAreTheSame : Type 0
SlotsAreTheSame =
    (inputs : RelocationInputs) (parts : List (ℕ × List Relocation)) (so_far : Written)
    → slots_written inputs parts ≡ Ok so_far
    → (record_slots inputs parts ≡ so_far)
    × (first_some (refusal inputs) (record_outcomes inputs parts) ≡ None)
