-- What C reads of the CO-RE records of an object: the outcome of each over a kernel's types.
use Rattle.std.specs.Prelude.{◌≡◌, ℕ, List, [], ◌∷◌, length, is_some, Option, Some, None, Result}
use Rattle.std.specs.Prelude.{Ok, Err, unwrap_or, map}
use Rattle.capi_rows.specs.Answers.{Listed}
use Rattle.capi_rows.specs.Refusals.{flag}
use Rattle.capi_rows.specs.Listings.{listed_by, zero_terminated}
use Rattle.capi_rows.specs.declared.refusal.Refusal.{Refusal}
use Rattle.ebpf_btf.specs.Strings.{text_at}
use Rattle.ebpf_btf.specs.TypeInfo.{TypeInfo}
use Rattle.ebpf_btf.specs.declared.error.BtfError.{BtfError}
use Rattle.ebpf_core_relo.specs.declared.absence.Absence.{Absence}
use Rattle.ebpf_core_relo.specs.declared.absence.Absence.TheVariants.{NoType, TypeOfAnotherKind}
use Rattle.ebpf_core_relo.specs.declared.absence.Absence.TheVariants.{NoMember, MemberOfAnotherKind}
use Rattle.ebpf_core_relo.specs.declared.absence.Absence.TheVariants.{NoEnumerator, NoValue}
use Rattle.ebpf_core_relo.specs.declared.outcomes.RecordOutcome.{RecordOutcome}
use Rattle.ebpf_core_relo.specs.declared.outcomes.RecordResult.{RecordResult}
use Rattle.ebpf_core_relo.specs.declared.outcomes.RecordResult.TheVariants.{Value, Absent, Refused}
use Rattle.ebpf_core_relo.specs.declared.outcomes.RecordSlot.{RecordSlot}
use Rattle.ebpf_linker.specs.declared.link_map.PlacedReference.{PlacedReference}
use Rattle.ebpf_object.specs.WrittenSlots.{outcomes_by}
use Rattle.ebpf_object.specs.declared.object.Object.{Object}
use Rattle.ebpf_reloc.specs.declared.link_map.CodeCopy.{CodeCopy}
use Rattle.capi_rows.specs.FileTypes.{CannotRead, types_in}
use Rattle.capi_rows.specs.Numbers.{record_fault}
use Rattle.capi_rows.specs.declared.record_rows.ebpf_code_copy.{ebpf_code_copy}
use Rattle.capi_rows.specs.declared.record_rows.ebpf_code_reference.{ebpf_code_reference}
use Rattle.capi_rows.specs.declared.record_rows.ebpf_record_outcome.{ebpf_record_outcome}

-- ---- one record

-- a value 0, none 1, refused 2
abbrev pub result_number : RecordResult → ℕ
result_number (Value outcome) = 0
result_number (Absent absence) = 1
result_number (Refused fault) = 2

-- the value, 0 where there is none
abbrev pub value_of : RecordResult → ℕ
value_of (Value outcome) = unwrap_or outcome.value 0
value_of _ = 0

abbrev pub absence_number : Absence → ℕ
absence_number NoType = 1
absence_number TypeOfAnotherKind = 2
absence_number NoMember = 3
absence_number MemberOfAnotherKind = 4
absence_number NoEnumerator = 5
absence_number NoValue = 6

-- why there is no value, 0 where that is not why
abbrev pub absence_of_result : RecordResult → ℕ
absence_of_result (Absent absence) = absence_number absence
absence_of_result _ = 0

-- the number by which a pass refuses such a record, 0 where it is not refused
abbrev pub fault_of_result : RecordResult → ℕ
fault_of_result (Refused fault) = (record_fault fault).0
fault_of_result _ = 0

-- the slot of a record; zeros where no function has it
abbrev pub slot_or_zeros : Option RecordSlot → RecordSlot
slot_or_zeros None = record { function = (0, 0); slot = 0 }
slot_or_zeros (Some slot) = slot

-- the row of a record of a section whose name begins at an offset of the text
abbrev pub outcome_row : List ℕ → RecordOutcome → ℕ → ebpf_record_outcome
outcome_row name r name_at = record {
  name_at = name_at;
  name_len = length name;
  number = r.number;
  section = (slot_or_zeros r.slot).function.0;
  address = (slot_or_zeros r.slot).function.1;
  slot = (slot_or_zeros r.slot).slot;
  value = value_of r.result;
  has_slot = flag (is_some r.slot);
  result = result_number r.result;
  absence = absence_of_result r.result;
  fault = fault_of_result r.result;
}

-- ---- all records

abbrev pub text_or_empty : Result (List ℕ) BtfError → List ℕ
text_or_empty (Ok text) = text
text_or_empty (Err e) = []

-- the name of a record's section in the types of its object, empty where it can't be read
abbrev pub section_name_in : Option TypeInfo → ℕ → List ℕ
section_name_in None offset = []
section_name_in (Some types) offset = text_or_empty (text_at types.strings offset)

-- records in their order
abbrev pub listed_outcomes : Option TypeInfo → List RecordOutcome → Listed ebpf_record_outcome
listed_outcomes types records =
    listed_by (λ r name_at. outcome_row (section_name_in types r.section_name) r name_at ∷ [])
    (λ r. zero_terminated (section_name_in types r.section_name)) records

-- those of an object over a kernel's types
abbrev pub outcome_list : Object → TypeInfo → Listed ebpf_record_outcome
outcome_list o target = listed_outcomes o.btf (outcomes_by o target o.btf o.btf_ext)

-- over the types that the bytes spell
pub record IsOutcomeList (bytes : List ℕ) (o : Object) (listed : Listed ebpf_record_outcome)
    : Type 0 where
  pub target : TypeInfo
  pub spelled : types_in bytes ≡ Ok target
  pub is : listed ≡ outcome_list o target

-- the kernel's types can't be read, or memory was refused; whatever the object is
abbrev pub CannotListOutcomes : List ℕ → Object → Refusal → Type 0
CannotListOutcomes bytes o = CannotRead bytes

-- ---- what C reads of a linked program: the copies of functions that it is made of, and the
-- references between them

-- the row of a copy whose function's name begins at an offset of the text
abbrev pub copy_row : CodeCopy → ℕ → ebpf_code_copy
copy_row c name_at = record {
  name_at = name_at;
  name_len = length c.name;
  base = c.base;
  slots = c.slots;
  section = c.key.0;
  address = c.key.1;
}

-- copies in their order
abbrev pub copy_list : List CodeCopy → Listed ebpf_code_copy
copy_list copies =
    listed_by (λ c name_at. copy_row c name_at ∷ []) (λ c. zero_terminated c.name) copies

abbrev pub reference_row : PlacedReference → ebpf_code_reference
reference_row r = record { slot = r.place; base = r.base; is_call = flag r.is_call }

-- references in their order
abbrev pub reference_rows : List PlacedReference → List ebpf_code_reference
reference_rows references = map reference_row references
