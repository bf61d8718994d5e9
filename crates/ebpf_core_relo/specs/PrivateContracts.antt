-- What contracts of private functions name and no public one.
use Rattle.std.specs.Prelude.{◌≡◌, ⊤, [], MatchBool, Result, Ok, Err, ℕ, List, ◌∷◌, ◌++◌, Option}
use Rattle.std.specs.Prelude.{Some, None, nat_le, if◌then◌else◌, ◌+◌, ◌<◌, length, slice_set, Bool, false}
use Rattle.ebpf_core.specs.Answers.{without_texts, is_record_memory}
use Rattle.ebpf_core.specs.declared.error.RelocationError.{RelocationError}
use Rattle.ebpf_core_relo.specs.declared.error.BtfRelocationError.{BtfRelocationError}
use Rattle.ebpf_base.specs.Faults.{if_ok}
use Rattle.ebpf_btf_ext.specs.declared.relocation.Relocation.{Relocation}
use Rattle.ebpf_core.specs.declared.outcome.Outcome.{Outcome}
use Rattle.ebpf_core_relo.specs.RecordOutcomes.{record_result, slot_of_record}
use Rattle.ebpf_core_relo.specs.Records.{RelocationInputs, Written, is_memory_in_section}
use Rattle.ebpf_core_relo.specs.Records.{records_applied, without_texts_at}
use Rattle.ebpf_core_relo.specs.declared.outcomes.RecordOutcome.{RecordOutcome}
use Rattle.std.specs.FinMap.{FinMap, insert}
use Rattle.std.specs.Ordering.{nat_cmp}
use Rattle.ebpf_core_relo.specs.declared.spans.Span.{Span}
use Rattle.ebpf_base.specs.Maps.{key_cmp}
use Rattle.ebpf_parts.specs.declared.insn.bpf_insn.{bpf_insn}
use Rattle.ebpf_model.specs.Symbols.{FunctionKey}
use Rattle.ebpf_model.specs.declared.function.Function.{Function}
use Rattle.std.specs.Option.{option_or}
use Rattle.ebpf_core_relo.specs.Spans.{span_at}
use Rattle.ebpf_core_relo.specs.declared.carried.PatchedSlots.{PatchedSlots}
use Rattle.ebpf_btf.specs.declared.error.BtfError.TheVariants.{InvalidStringOffset}
use Rattle.ebpf_core.specs.declared.error.RelocationError.TheVariants.{BtfError, SectionNotFound}
use Rattle.ebpf_core_relo.specs.declared.walk.FoundSection.{FoundSection}
use Rattle.ebpf_core_relo.specs.declared.walk.FoundSection.TheVariants.{Number, NoName}
use Rattle.ebpf_core_relo.specs.declared.walk.FoundSection.TheVariants.{NoSection}

-- The call leaves what is stated, or answers the stated fault, its texts for people aside, or a
-- out of memory.
abbrev pub Leaves : {X U : Type 0} → Result U RelocationError → X → Result X RelocationError
    → Type 0
Leaves (Ok u) left stated = stated ≡ Ok left
Leaves (Err e) left stated = MatchBool (is_record_memory e) ⊤ (stated ≡ Err (without_texts e))

-- what was written stays where the call refuses, lack of memory aside
abbrev pub StaysRefused : {U X : Type 0} → Result U RelocationError → X → X → Type 0
StaysRefused (Ok u) before after = Unit {0}
StaysRefused (Err e) before after = MatchBool (is_record_memory e) ⊤ (after ≡ before)

-- what a call leaves, of faults with their sections; lack of memory has no section
abbrev pub LeavesAt : {X U : Type 0} → Result U BtfRelocationError → X
    → Result X BtfRelocationError → Type 0
LeavesAt (Ok u) left stated = stated ≡ Ok left
LeavesAt (Err e) left stated =
    MatchBool (is_memory_in_section e) (e.section ≡ []) (stated ≡ Err (without_texts_at e))

-- The refusal is the stated one, its texts for people aside, or lack of memory, which has no
-- section.
abbrev pub IsStatedRefusal : BtfRelocationError → BtfRelocationError → Type 0
IsStatedRefusal e stated =
    MatchBool (is_memory_in_section e) (e.section ≡ []) (stated ≡ without_texts_at e)

-- what a table has of a section
abbrev pub spans_or_none : Option (List Span) → List Span
spans_or_none None = []
spans_or_none (Some spans) = spans

-- a table with one more span behind those of its section, by those that are there
abbrev pub with_span : FinMap nat_cmp (List Span) → ℕ → Span → Option (List Span)
    → FinMap nat_cmp (List Span)
with_span m section span None = insert m section (span ∷ [])
with_span m section span (Some spans) = insert m section (spans ++ span ∷ [])

-- functions of which the one at a key, if it is there, has these slots
abbrev pub with_slots_at : FinMap key_cmp Function → FunctionKey → List bpf_insn → Option Function
    → FinMap key_cmp Function
with_slots_at functions key slots None = functions
with_slots_at functions key slots (Some f) =
    insert functions key (record f { instructions = slots })

-- the first span that holds an offset, list by list
abbrev pub first_at : ℕ → List (List Span) → List Span → Option Span
first_at offset [] last = span_at offset last
first_at offset (run ∷ runs) last = option_or (span_at offset run) (first_at offset runs last)

-- a span, where it begins no later than an offset
abbrev pub if_begun : ℕ → Option Span → Option Span
if_begun offset None = None
if_begun offset (Some s) = if nat_le s.start offset then Some s else None

-- ---- slots of a function that carry the outcome of a record

-- a slot behind another, where it is written too
abbrev pub put_behind : List bpf_insn → ℕ → Option bpf_insn → List bpf_insn
put_behind slots i None = slots
put_behind slots i (Some next) = slice_set slots (i + 1) next

abbrev pub put_at : List bpf_insn → ℕ → PatchedSlots → List bpf_insn
put_at slots i patched = put_behind (slice_set slots i patched.slot) i patched.next

-- a slot behind another is there, where it is to be written
abbrev pub HasRoom : List bpf_insn → ℕ → Option bpf_insn → Type 0
HasRoom slots i None = Unit {0}
HasRoom slots i (Some next) = i + 1 < length slots

-- ---- the sections that records are for, as they are found

abbrev pub found_number : FoundSection → Result ℕ RelocationError
found_number (Number number) = Ok number
found_number (NoName offset) = Err (BtfError (InvalidStringOffset offset))
found_number NoSection = Err SectionNotFound

-- whether a section is found
abbrev pub IsFound : Result ℕ RelocationError → Type 0
IsFound (Ok number) = ⊤
IsFound (Err fault) = ⊥

-- the records of a section, one after the other, where the section is found
abbrev pub part_applied : RelocationInputs → Result ℕ RelocationError → List Relocation → Written
    → Result Written RelocationError
part_applied inputs section rs so_far =
    if_ok section (λ number. records_applied inputs number rs so_far)

-- ---- the outcome of a record, as a walk goes on with it

-- its fault is no lack of memory, and where the walk stops at a fault there is none
abbrev pub IsKept : Bool → Result Outcome RelocationError → Type 0
IsKept stops (Ok outcome) = ⊤
IsKept stops (Err e) = (is_record_memory e ≡ false) × (stops ≡ false)

-- the texts aside that are for people to read
abbrev pub outcome_or_fault : Result Outcome RelocationError → Result Outcome RelocationError
outcome_or_fault (Ok outcome) = Ok outcome
outcome_or_fault (Err e) = Err (without_texts e)

-- the row of a record of a section, by its outcome or fault
abbrev pub row_of : RelocationInputs → ℕ → Result ℕ RelocationError → Relocation
    → Result Outcome RelocationError → RecordOutcome
row_of inputs offset section r applied =
    record {
      section_name = offset;
      number = r.number;
      slot = slot_of_record inputs section r;
      result = record_result inputs.sides r applied;
    }
