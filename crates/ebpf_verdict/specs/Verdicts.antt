-- The verdict of a kernel on an object, and what follows where it is ok.
use Rattle.std.specs.Prelude.{◌≡◌, ℕ, ◌==◌, Bool, true, false, not, ◌&&◌, List, [], length, map}
use Rattle.std.specs.Prelude.{Option, Some, None, is_some, slice_get, if◌then◌else◌}
use Rattle.std.specs.FinMap.{entries, get}
use Rattle.std.specs.List.{filter_map, list_any, range_with_len}
use Rattle.std.specs.Option.{option_and_then, option_map_or}
use Rattle.ebpf_btf.specs.TypeInfo.{TypeInfo}
use Rattle.ebpf_btf_ext.specs.ExtReading.{ExtInfo}
use Rattle.ebpf_btf_ext.specs.declared.relocation.Relocation.{Relocation}
use Rattle.ebpf_core_relo.specs.Records.{Written}
use Rattle.ebpf_core_relo.specs.declared.outcomes.RecordOutcome.{RecordOutcome}
use Rattle.ebpf_core_relo.specs.declared.outcomes.RecordResult.{RecordResult}
use Rattle.ebpf_core_relo.specs.declared.outcomes.RecordResult.TheVariants.{Value, Absent, Refused}
use Rattle.ebpf_core_relo.specs.declared.outcomes.RecordSlot.{RecordSlot}
use Rattle.ebpf_model.specs.Symbols.{FunctionKey}
use Rattle.ebpf_model.specs.declared.function.Function.{Function}
use Rattle.ebpf_object.specs.LinkedPrograms.{linkable_of, programs_in_order}
use Rattle.ebpf_object.specs.Names.{has_function_in}
use Rattle.ebpf_object.specs.Prepared.{Stages}
use Rattle.ebpf_object.specs.Stages.{Wrapped}
use Rattle.ebpf_object.specs.WrittenSlots.{AreRecordOutcomes}
use Rattle.ebpf_object.specs.declared.object.Object.{Object}
use Rattle.ebpf_object.specs.declared.prepare_error.PrepareError.TheVariants.{Calls}
use Rattle.ebpf_parts.specs.Maps.{map_type_of}
use Rattle.ebpf_parts.specs.declared.insn.bpf_insn.{bpf_insn}
use Rattle.ebpf_parts.specs.Slots.{is_poisoned}
use Rattle.ebpf_reachability.specs.Reached.{AreReached}
use Rattle.ebpf_reloc.specs.Linking.{ProgramValue, key_of, IsLinked, IsLinkMapAt}
use Rattle.ebpf_reloc.specs.Linking.{IsProgramRefusal}
use Rattle.ebpf_reloc.specs.SlotTargets.{LinkableValue}
use Rattle.ebpf_reloc.specs.declared.link_map.CodeCopy.{CodeCopy}
use Rattle.ebpf_verdict.specs.Causes.{slot_cause, map_cause}
use Rattle.ebpf_verdict.specs.Reasons.{is_reached, reasons_of}
use Rattle.ebpf_verdict.specs.Writing.{IsWrittenOver, all_passes, no_symbols}
use Rattle.ebpf_verdict.specs.declared.programs.JudgedProgram.{JudgedProgram}
use Rattle.ebpf_verdict.specs.declared.programs.ProgramCode.{ProgramCode}
use Rattle.ebpf_verdict.specs.declared.programs.ProgramCode.TheVariants as code
use Rattle.ebpf_verdict.specs.declared.programs.ProgramVerdict.{ProgramVerdict}
use Rattle.ebpf_verdict.specs.declared.verdict.Verdict.{Verdict}

-- ---- CO-RE relocations that are refused

abbrev pub is_refused_result : RecordResult → Bool
is_refused_result (Value outcome) = false
is_refused_result (Absent absence) = false
is_refused_result (Refused fault) = true

abbrev pub is_refused : RecordOutcome → Bool
is_refused row = is_refused_result row.result

-- whether a program has a copy of the function at a key
abbrev pub is_copied : List CodeCopy → FunctionKey → Bool
is_copied copies key = list_any (λ c. (c.key.0 == key.0) && (c.key.1 == key.1)) copies

-- whether a relocation of a program's copies is refused
abbrev pub is_refused_at : List CodeCopy → Bool → Option RecordSlot → Bool
is_refused_at copies refused None = false
is_refused_at copies refused (Some slot) = refused && is_copied copies slot.function

abbrev pub is_refused_in : List CodeCopy → RecordOutcome → Bool
is_refused_in copies row = is_refused_at copies (is_refused row) row.slot

abbrev pub refused_at : List CodeCopy → List RecordOutcome → ℕ → Option ℕ
refused_at copies records i =
    option_and_then (λ row. if is_refused_in copies row then Some i else None) (slice_get records i)

-- their positions, in order
abbrev pub refused_in : List CodeCopy → List RecordOutcome → List ℕ
refused_in copies records =
    filter_map (refused_at copies records) (range_with_len 0 (length records))

-- ---- the verdict on a program

module _ (kernel : TypeInfo) (map_types : List ℕ) (records : List RecordOutcome)
    (parts : LinkableValue) where
  -- a linked program, with its reasons
  pub record IsJudged (key : FunctionKey) (j : JudgedProgram) : Type 0 where
    pub linked : IsLinked parts key j.linked.function
    pub mapped : IsLinkMapAt parts key j.linked.map
    pub reached : AreReached j.linked.function.instructions j.reached
    pub reasons : j.reasons
        ≡ reasons_of kernel map_types j.reached j.linked.function.instructions
    pub refused : j.refused ≡ refused_in j.linked.map.copies records

  -- a program is linked and judged, or the linker refuses it
  abbrev pub IsCode : ProgramValue → ProgramCode → Type 0
  IsCode program (code.Linked j) = IsJudged (key_of program) j
  IsCode program (code.Refused e) = Wrapped Calls (IsProgramRefusal parts program) e

  pub record IsProgramVerdict (program : ProgramValue) (v : ProgramVerdict) : Type 0 where
    pub named : v.name ≡ program.name
    pub outcome : IsCode program v.code

  -- each program has its verdict, at its position
  pub record AreVerdicts (programs : List ProgramValue) (all : List ProgramVerdict)
      : Type 0 where
    pub as_many : length all ≡ length programs
    pub each : (i : ℕ) (program : ProgramValue)
        → slice_get programs i ≡ Some program
        → (v : ProgramVerdict) × (slice_get all i ≡ Some v) × IsProgramVerdict program v

-- whether a program has no reason to break
abbrev pub code_is_ok : ProgramCode → Bool
code_is_ok (code.Linked j) = (length j.reasons == 0) && (length j.refused == 0)
code_is_ok (code.Refused e) = false

-- ---- the verdict on an object

-- the types of the maps, in byte order of their names
abbrev pub map_types : Object → List ℕ
map_types o = map (λ e. map_type_of e.1) (entries o.maps)

-- whether there is a section of CO-RE relocations that has none
abbrev pub has_empty_part : List (ℕ × List Relocation) → Bool
has_empty_part parts = list_any (λ part. length part.1 == 0) parts

abbrev pub has_empty_section : Option ExtInfo → Bool
has_empty_section ext = option_map_or (λ (e : ExtInfo). has_empty_part e.relocations) ext false

-- The records have their outcomes. Where no pass refuses the object and no extern is lacking, the
-- object was written over these outcomes. Where no pass refuses it, each program is judged, linked
-- from the object that was written.
pub record IsVerdict (o : Object) (kernel : TypeInfo) (v : Verdict) : Type 0 where
  pub slots : Written
  pub records : AreRecordOutcomes o kernel (record { records = v.records; written = slots })
  pub sections : v.has_empty_section ≡ has_empty_section o.btf_ext
  pub unlinked : Object
  pub written : v.refusal ≡ None → v.lacking ≡ [] → IsWrittenOver kernel slots o unlinked
  pub programs : v.refusal ≡ None
      → AreVerdicts kernel (map_types o) v.records
      (linkable_of unlinked (has_function_in unlinked.functions)) (programs_in_order o.programs)
      v.programs

-- no pass refuses the object, no extern is lacking, no relocation is refused, and no program has a
-- reason to break
abbrev pub is_ok : Verdict → Bool
is_ok v =
    not (is_some v.refusal) && (not v.has_empty_section && ((length v.lacking == 0)
    && (not (list_any is_refused v.records)
    && not (list_any (λ p. not (code_is_ok p.code)) v.programs))))

-- ---- what follows where a verdict is ok

-- a finished program runs on a kernel: no slot that is reached is poisoned or calls what the kernel
-- lacks, and no slot refers to a map whose type the kernel lacks
pub record Runs (kernel : TypeInfo) (maps : List ℕ) (slots : List bpf_insn) : Type 0 where
  pub reached : List Bool
  pub answer : AreReached slots reached
  pub unpoisoned : (i : ℕ) (slot : bpf_insn)
      → slice_get slots i ≡ Some slot
      → is_reached reached i ≡ true
      → is_poisoned slot ≡ false
  pub calls : (i : ℕ) (slot : bpf_insn)
      → slice_get slots i ≡ Some slot
      → is_reached reached i ≡ true
      → slot_cause kernel slot ≡ None
  pub mapped : (i : ℕ) (slot : bpf_insn)
      → slice_get slots i ≡ Some slot
      → map_cause kernel maps slot ≡ None

-- An object can be prepared over the types of a kernel, with the descriptors 1, 2, .. of its maps
-- and without any symbols of the kernel; and each of its programs, as it is then, runs.
pub record RunsPrepared (o : Object) (kernel : TypeInfo) : Type 0 where
  pub after : Object
  pub stages : Stages (all_passes kernel o) no_symbols o after
  pub programs : (i : ℕ) (program : ProgramValue)
      → slice_get (programs_in_order o.programs) i ≡ Some program
      → (f : Function)
      × (get after.functions (key_of program) ≡ Some f)
      × Runs kernel (map_types o) f.instructions

abbrev pub OkIsPrepared : Type 0
OkIsPrepared =
    (o : Object) (kernel : TypeInfo) (v : Verdict)
    → IsVerdict o kernel v
    → is_ok v ≡ true
    → RunsPrepared o kernel
