-- What the CO-RE records of an object make of the slots of its functions (the kernel's
-- Documentation/bpf/llvm_reloc.rst, "CO-RE Relocations"; Documentation/bpf/btf.rst, 4.2), and why
-- they are refused.
use Rattle.std.specs.Prelude.{ℕ, Bool, List, ◌-◌, ◌/◌, [], ◌∷◌, ◌++◌, Option, Some, None, Result}
use Rattle.std.specs.Prelude.{Ok, Err, codes, ◌≡◌, take, slice_get}
use Rattle.std.specs.FinMap.{FinMap, empty, get, insert}
use Rattle.std.specs.Fmt.{decimal}
use Rattle.ebpf_core.specs.Answers.{without_texts, is_record_memory}
use Rattle.ebpf_core.specs.declared.error.RelocationError.{RelocationError}
use Rattle.ebpf_base.specs.Maps.{key_cmp, text_cmp}
use Rattle.ebpf_btf_ext.specs.declared.relocation.Relocation.{Relocation}
use Rattle.ebpf_base.specs.Faults.{if_ok}
use Rattle.ebpf_btf.specs.Next.{if_some}
use Rattle.ebpf_btf.specs.Strings.{text_at}
use Rattle.ebpf_btf.specs.TypeInfo.{TypeInfo}
use Rattle.ebpf_core.specs.Searches.{outcome_of, Sides}
use Rattle.ebpf_core.specs.declared.error.RelocationError.TheVariants.{BtfError, FunctionNotFound}
use Rattle.ebpf_core.specs.declared.error.RelocationError.TheVariants.{SectionNotFound}
use Rattle.ebpf_elf.specs.declared.section.SectionIndex.{SectionIndex}
use Rattle.ebpf_parts.specs.declared.insn.bpf_insn.{bpf_insn}
use Rattle.ebpf_model.specs.Symbols.{FunctionKey}
use Rattle.ebpf_model.specs.declared.function.Function.{Function}
use Rattle.ebpf_btf.specs.declared.error.BtfError.{BtfError as TypeError}
use Rattle.ebpf_core.specs.Laws.{OutcomeIsRefused}
use Rattle.ebpf_core.specs.declared.outcome.Outcome.{Outcome}
use Rattle.ebpf_core_relo.specs.declared.error.BtfRelocationError.{BtfRelocationError}
use Rattle.ebpf_core_relo.specs.Carried.{written}
use Rattle.ebpf_core_relo.specs.Spans.{spans_of, span_at}
use Rattle.ebpf_core_relo.specs.declared.spans.Span.{Span}

abbrev pub is_memory_in_section : BtfRelocationError → Bool
is_memory_in_section e = is_record_memory e.error

-- an error without the texts in it that are for people to read
abbrev pub without_texts_at : BtfRelocationError → BtfRelocationError
without_texts_at e = record { section = e.section; error = without_texts e.error }

-- a fault in the section of a name
abbrev pub error_in_section : List ℕ → RelocationError → BtfRelocationError
error_in_section name e = record { section = name; error = e }

-- ---- what the CO-RE records of an object make of the slots of its functions (the kernel's
-- Documentation/bpf/llvm_reloc.rst, "CO-RE Relocations"; Documentation/bpf/btf.rst, 4.2)

-- the slots that records have written so far, by the functions' keys
abbrev pub Written : Type 0
Written = FinMap key_cmp (List bpf_insn)

-- what records read: the two sides of types, the functions as they stood, and the sections' indexes
-- by name
pub record RelocationInputs : Type 0 where
  pub sides : Sides
  pub functions : FinMap key_cmp Function
  pub section_infos : FinMap text_cmp SectionIndex

abbrev pub relocation_inputs : Sides → FinMap key_cmp Function → FinMap text_cmp SectionIndex
    → RelocationInputs
relocation_inputs sides functions infos =
    record { sides = sides; functions = functions; section_infos = infos }

-- ---- one record

-- a function's own slots
abbrev pub own_slots : Option Function → List bpf_insn
own_slots None = []
own_slots (Some f) = f.instructions

-- a function's slots as records have left them
abbrev pub slots_by : Option (List bpf_insn) → Option Function → List bpf_insn
slots_by (Some slots) f = slots
slots_by None f = own_slots f

abbrev pub slots_so_far : FinMap key_cmp Function → Written → FunctionKey → List bpf_insn
slots_so_far functions so_far key = slots_by (get so_far key) (get functions key)

-- the outcome of a record in the slot of a function that begins at a place
unfoldable pub put_outcome : RelocationInputs → ℕ → Written → Relocation → Span
    → Result Written RelocationError
put_outcome inputs section so_far r span =
    if_ok (outcome_of inputs.sides.local inputs.sides.target r) (λ outcome.
    if_ok (written r.number (slots_so_far inputs.functions so_far (section, span.address))
    ((r.insn_off - span.start) / 8) outcome) (λ slots.
    Ok (insert so_far (section, span.address) slots)))

-- A record is about the function of its section that holds its instruction, the one with the lowest
-- address.
unfoldable pub record_applied : RelocationInputs → ℕ → Written → Relocation
    → Result Written RelocationError
record_applied inputs section so_far r =
    if_some (span_at r.insn_off (spans_of inputs.functions section))
    (put_outcome inputs section so_far r) (Err FunctionNotFound)

-- ---- records in order

-- the records of a section, one after the other
abbrev pub records_applied : RelocationInputs → ℕ → List Relocation → Written
    → Result Written RelocationError
records_applied inputs section [] so_far = Ok so_far
records_applied inputs section (r ∷ rs) so_far =
    if_ok (record_applied inputs section so_far r) (records_applied inputs section rs)

-- a fault in a section, by the section's name
abbrev pub answer_in_section : {X : Type 0} → List ℕ → Result X RelocationError
    → Result X BtfRelocationError
answer_in_section name (Ok x) = Ok x
answer_in_section name (Err e) = Err (error_in_section name e)

-- the text in place of a name that can't be read, by its offset
abbrev pub unnamed_section : ℕ → List ℕ
unnamed_section offset = codes "section@" ++ decimal offset

-- the records of the section of a name
abbrev pub section_applied : RelocationInputs → List ℕ → List Relocation → Written
    → Result Written RelocationError
section_applied inputs name rs so_far =
    if_some (get inputs.section_infos name) (λ section. records_applied inputs section.0 rs so_far)
    (Err SectionNotFound)

-- the records of the section whose name is at an offset
abbrev pub named_applied : RelocationInputs → ℕ × List Relocation → Written
    → Result Written BtfRelocationError
named_applied inputs part so_far =
    elim (text_at inputs.sides.local.strings part.0) [
      | Ok name ↦ answer_in_section name (section_applied inputs name part.1 so_far)
      | Err e ↦ answer_in_section (unnamed_section part.0) (Err (BtfError e))
    ]

-- all records, section by section
abbrev pub all_applied : RelocationInputs → List (ℕ × List Relocation) → Written
    → Result Written BtfRelocationError
all_applied inputs [] so_far = Ok so_far
all_applied inputs (part ∷ parts) so_far =
    if_ok (named_applied inputs part so_far) (all_applied inputs parts)

-- the slots that the records of an object write, each over those before it, or the first fault
abbrev pub slots_written : RelocationInputs → List (ℕ × List Relocation)
    → Result Written BtfRelocationError
slots_written inputs parts = all_applied inputs parts empty

abbrev pub relocation_inputs_between : TypeInfo → TypeInfo → FinMap key_cmp Function
    → FinMap text_cmp SectionIndex → RelocationInputs
relocation_inputs_between local target functions infos =
    relocation_inputs (record { local = local; target = target }) functions infos

-- ---- the functions with these slots

-- a function with the slots that were written, if some were
abbrev pub with_slots : Option (List bpf_insn) → Option Function → Option Function
with_slots written None = None
with_slots None (Some f) = Some f
with_slots (Some slots) (Some f) = Some (record f { instructions = slots })

-- ---- why the records of an object are refused: where the first fault stands, with all records
-- before it applied

-- A record of a section is refused with a fault, over the slots that those before it wrote: no
-- function holds its instruction, the search for its outcome has the fault, or its slot can't carry
-- the outcome.
pub data RecordIsRefused (inputs : RelocationInputs) (section : ℕ) (so_far : Written)
    (r : Relocation)
    : RelocationError → Type 0 where
  NoFunction : span_at r.insn_off (spans_of inputs.functions section) ≡ None
      → RecordIsRefused inputs section so_far r FunctionNotFound
  NoOutcome : (span : Span) (fault : RelocationError)
      → span_at r.insn_off (spans_of inputs.functions section) ≡ Some span
      → OutcomeIsRefused inputs.sides.local inputs.sides.target r fault
      → RecordIsRefused inputs section so_far r fault
  NotCarried : (span : Span) (outcome : Outcome) (fault : RelocationError)
      → span_at r.insn_off (spans_of inputs.functions section) ≡ Some span
      → outcome_of inputs.sides.local inputs.sides.target r ≡ Ok outcome
      → written r.number (slots_so_far inputs.functions so_far (section, span.address))
      ((r.insn_off - span.start) / 8) outcome
      ≡ Err fault
      → RecordIsRefused inputs section so_far r fault

-- The records before those of part number n, and the first m of that part, were all applied, and
-- left these slots.
abbrev pub AreApplied : RelocationInputs → List (ℕ × List Relocation) → ℕ → ℕ × List Relocation → ℕ
    → Written → Type 0
AreApplied inputs parts n part m so_far =
    slots_written inputs (take n parts ++ (part.0, take m part.1) ∷ []) ≡ Ok so_far

-- The records of an object are refused with a fault: all before it were applied, and then the name
-- of a part's section can't be read, no section has it, or a record of the part is refused.
pub data RecordsAreRefused (inputs : RelocationInputs) (parts : List (ℕ × List Relocation))
    : BtfRelocationError → Type 0 where
  NoName : (n : ℕ) (part : ℕ × List Relocation) (so_far : Written) (e : TypeError)
      → slice_get parts n ≡ Some part
      → slots_written inputs (take n parts) ≡ Ok so_far
      → text_at inputs.sides.local.strings part.0 ≡ Err e
      → RecordsAreRefused inputs parts (error_in_section (unnamed_section part.0) (BtfError e))
  NoSection : (n : ℕ) (part : ℕ × List Relocation) (so_far : Written) (name : List ℕ)
      → slice_get parts n ≡ Some part
      → slots_written inputs (take n parts) ≡ Ok so_far
      → text_at inputs.sides.local.strings part.0 ≡ Ok name
      → get inputs.section_infos name ≡ None
      → RecordsAreRefused inputs parts (error_in_section name SectionNotFound)
  RecordFails : (n m : ℕ) (part : ℕ × List Relocation) (so_far : Written) (name : List ℕ)
      (section : SectionIndex) (r : Relocation) (fault : RelocationError)
      → slice_get parts n ≡ Some part → slice_get part.1 m ≡ Some r
      → AreApplied inputs parts n part m so_far
      → text_at inputs.sides.local.strings part.0 ≡ Ok name
      → get inputs.section_infos name ≡ Some section
      → RecordIsRefused inputs section.0 so_far r fault
      → RecordsAreRefused inputs parts (error_in_section name fault)

-- Where the records of an object have a fault, they are refused so.
abbrev pub FaultsAreRefusals : Type 0
FaultsAreRefusals =
    (inputs : RelocationInputs) (parts : List (ℕ × List Relocation)) (fault : BtfRelocationError)
    → slots_written inputs parts ≡ Err fault
    → RecordsAreRefused inputs parts fault

-- And they are refused with no other fault.
abbrev pub RefusalIsOne : Type 0
RefusalIsOne =
    (inputs : RelocationInputs) (parts : List (ℕ × List Relocation)) (fault : BtfRelocationError)
    → RecordsAreRefused inputs parts fault
    → slots_written inputs parts ≡ Err fault
