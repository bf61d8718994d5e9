-- The reasons for which one program of an object breaks on a kernel.
use Rattle.std.specs.Prelude.{ℕ, ◌-◌, ◌==◌, nat_le, nat_lt, Bool, true, false, ◌&&◌, List, []}
use Rattle.std.specs.Prelude.{◌∷◌, ◌++◌, map, Option, Some, None, option_map, slice_get, unwrap_or}
use Rattle.std.specs.Prelude.{if◌then◌else◌}
use Rattle.std.specs.FinMap.{entries, get}
use Rattle.std.specs.List.{find, position}
use Rattle.std.specs.Option.{option_and_then, option_map_or}
use Rattle.ebpf_base.specs.Faults.{or_else}
use Rattle.ebpf_btf.specs.TypeInfo.{TypeInfo}
use Rattle.ebpf_core_relo.specs.declared.outcomes.RecordOutcome.{RecordOutcome}
use Rattle.ebpf_core_relo.specs.declared.outcomes.RecordResult.{RecordResult}
use Rattle.ebpf_core_relo.specs.declared.outcomes.RecordResult.TheVariants.{Absent}
use Rattle.ebpf_core_relo.specs.declared.outcomes.RecordSlot.{RecordSlot}
use Rattle.ebpf_object.specs.declared.object.Object.{Object}
use Rattle.ebpf_object.specs.declared.prepare_error.PrepareError.{PrepareError}
use Rattle.ebpf_object.specs.declared.prepare_error.PrepareError.TheVariants.{Calls}
use Rattle.ebpf_reloc.specs.declared.link_map.CodeCopy.{CodeCopy}
use Rattle.ebpf_verdict.specs.Targets.{target_of}
use Rattle.ebpf_verdict.specs.declared.cause.Cause.{Cause}
use Rattle.ebpf_verdict.specs.declared.cause.Cause.TheVariants as cause
use Rattle.ebpf_verdict.specs.declared.programs.ProgramCode.{ProgramCode}
use Rattle.ebpf_verdict.specs.declared.programs.ProgramCode.TheVariants as code
use Rattle.ebpf_verdict.specs.declared.programs.ProgramVerdict.{ProgramVerdict}
use Rattle.ebpf_verdict.specs.declared.reasons.SlotReason.{SlotReason}
use Rattle.ebpf_verdict.specs.declared.targets.KernelTarget.{KernelTarget}
use Rattle.ebpf_verdict.specs.declared.targets.KernelTarget.TheVariants.{NotFound}
use Rattle.capi_rows.specs.FaultNumbers.{slot_fault}
use Rattle.capi_rows.specs.ProgramRows.{name_of_section_number}
use Rattle.capi_rows.specs.Records.{fault_of_result}
use Rattle.capi_verdict.specs.Reasons.{plain_reason}
use Rattle.capi_verdict.specs.declared.reason.Reason.{Reason}
use Rattle.capi_verdict.specs.declared.reason.ReasonKind.{ReasonKind}
use Rattle.capi_verdict.specs.declared.reason.ReasonKind.TheVariants.{Relocation, Linking, Poisoned}
use Rattle.capi_verdict.specs.declared.reason.ReasonKind.TheVariants.{Helper, Function, MapType}
use Rattle.capi_verdict.specs.declared.reason.ReasonKind.TheVariants.{Target}

-- ---- where a slot of a linked program comes from

-- the slot is one of a copy's
abbrev pub is_of_copy : ℕ → CodeCopy → Bool
is_of_copy slot c = nat_le c.base slot && nat_lt (slot - c.base) c.slots

-- the slot of the function that is copied there
abbrev pub copied_slot : ℕ → CodeCopy → RecordSlot
copied_slot slot c = record { function = c.key; slot = slot - c.base }

abbrev pub function_slot : List CodeCopy → ℕ → Option RecordSlot
function_slot copies slot = option_map (copied_slot slot) (find (is_of_copy slot) copies)

-- ---- the CO-RE relocation by which a slot is poisoned

abbrev pub is_slot : RecordSlot → Option RecordSlot → Bool
is_slot s None = false
is_slot s (Some t) =
    (t.function.0 == s.function.0) && ((t.function.1 == s.function.1) && (t.slot == s.slot))

abbrev pub is_absent : RecordResult → Bool
is_absent (Absent absence) = true
is_absent _ = false

-- the relocation is at the slot, and has no value
abbrev pub is_absent_at : RecordSlot → RecordOutcome → Bool
is_absent_at s row = is_absent row.result && is_slot s row.slot

abbrev pub absent_at : List RecordOutcome → RecordSlot → Option ℕ
absent_at records s = position (is_absent_at s) records

-- a load of 64 bits has two slots: its relocation is at the first one, and both are poisoned
abbrev pub absent_before : List RecordOutcome → RecordSlot → Option ℕ
absent_before records s =
    if s.slot == 0 then None else absent_at records (record s { slot = s.slot - 1 })

abbrev pub poisoning : List RecordOutcome → RecordSlot → Option ℕ
poisoning records s = or_else (absent_at records s) (absent_before records s)

-- ---- the reason of a slot, by its cause

abbrev pub cause_kind : Cause → ReasonKind
cause_kind cause.Poisoned = Poisoned
cause_kind (cause.NoHelper number) = Helper
cause_kind (cause.NoFunction symbol) = Function
cause_kind (cause.NoMapType map number) = MapType

-- the number of the helper function, of the extern's symbol, of the type of the map
abbrev pub cause_number : Cause → ℕ
cause_number cause.Poisoned = 0
cause_number (cause.NoHelper number) = number
cause_number (cause.NoFunction symbol) = symbol
cause_number (cause.NoMapType map number) = number

abbrev pub symbol_name : Object → ℕ → List ℕ
symbol_name o symbol = unwrap_or (option_and_then (λ s. s.name) (get o.symbol_table symbol)) []

-- of the map at a position in byte order of names
abbrev pub map_name : Object → ℕ → List ℕ
map_name o map = option_map_or (λ e. e.0) (slice_get (entries o.maps) map) []

-- the name of the extern or of the map
abbrev pub cause_subject : Object → Cause → List ℕ
cause_subject o cause.Poisoned = []
cause_subject o (cause.NoHelper number) = []
cause_subject o (cause.NoFunction symbol) = symbol_name o symbol
cause_subject o (cause.NoMapType map number) = map_name o map

abbrev pub cause_relocation : List RecordOutcome → Option RecordSlot → Cause → Option ℕ
cause_relocation records slot cause.Poisoned = option_and_then (poisoning records) slot
cause_relocation records slot _ = None

-- ---- the reasons of a program

-- the number by which a relocation is refused
abbrev pub fault_at : List RecordOutcome → ℕ → ℕ
fault_at records i = option_map_or (λ row. fault_of_result row.result) (slice_get records i) 0

-- the linker refuses programs, and no other pass does
abbrev pub linking_fault : PrepareError → ℕ
linking_fault (Calls e) = (slot_fault 600 e.error).0
linking_fault _ = 0

-- about the function or the program
abbrev pub linking_subject : PrepareError → List ℕ
linking_subject (Calls e) = e.function
linking_subject _ = []

module _ (o : Object) (records : List RecordOutcome) (program : List ℕ) where
  abbrev pub slot_reason : List CodeCopy → SlotReason → Reason
  slot_reason copies r =
      record (plain_reason (cause_kind r.cause) program (cause_subject o r.cause)) {
        slot = Some r.slot;
        function_slot = function_slot copies r.slot;
        relocation = cause_relocation records (function_slot copies r.slot) r.cause;
        number = cause_number r.cause;
      }

  abbrev pub refused_reason : ℕ → Reason
  refused_reason i =
      record (plain_reason Relocation program []) {
        relocation = Some i;
        fault = fault_at records i;
      }

  abbrev pub linking_reason : PrepareError → Reason
  linking_reason e =
      record (plain_reason Linking program (linking_subject e)) { fault = linking_fault e }

  -- those of its slots, then those of the relocations that are refused
  abbrev pub code_reasons : ProgramCode → List Reason
  code_reasons (code.Linked j) =
      map (slot_reason j.linked.map.copies) j.reasons ++ map refused_reason j.refused
  code_reasons (code.Refused e) = linking_reason e ∷ []

-- ---- the target that the kernel lacks

abbrev pub missing_name : KernelTarget → Option (List ℕ)
missing_name (NotFound name) = Some name
missing_name _ = None

-- the name of the type to which the program of a name is attached, where the kernel lacks it
abbrev pub missing_target : Object → TypeInfo → List ℕ → Option (List ℕ)
missing_target o kernel program =
    option_and_then (λ p.
    missing_name
    (target_of (name_of_section_number (entries o.section_infos) p.section_index) kernel))
    (get o.programs program)

abbrev pub target_reasons : List ℕ → Option (List ℕ) → List Reason
target_reasons program None = []
target_reasons program (Some target) = plain_reason Target program target ∷ []

-- ---- all of a program

abbrev pub program_reasons : Object → TypeInfo → List RecordOutcome → ProgramVerdict → List Reason
program_reasons o kernel records v =
    code_reasons o records v.name v.code
    ++ target_reasons v.name (missing_target o kernel v.name)
