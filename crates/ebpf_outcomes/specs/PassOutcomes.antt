-- An object after the chosen passes, with the outcomes of these: of its CO-RE relocations, of its
-- relocations to maps and externs, and the link maps of its programs. The slots of the finished
-- object are those that they say.
use Rattle.std.specs.Prelude.{◌≡◌, ⊤, Bool, true, false, if◌then◌else◌, List, [], Option, Some}
use Rattle.std.specs.Prelude.{None, Ok, map}
use Rattle.std.specs.List.{AllZip}
use Rattle.ebpf_btf.specs.TypeInfo.{TypeInfo}
use Rattle.ebpf_core_relo.specs.RecordOutcomes.{outcome_without_texts}
use Rattle.ebpf_core_relo.specs.declared.outcomes.RecordOutcome.{RecordOutcome}
use Rattle.ebpf_ksyms.specs.Sources.{Source}
use Rattle.ebpf_object.specs.LinkedPrograms.{linkable_of, programs_in_order}
use Rattle.ebpf_object.specs.Names.{has_function_in}
use Rattle.ebpf_object.specs.Prepared.{Stages}
use Rattle.ebpf_object.specs.Stages.{Chosen}
use Rattle.ebpf_object.specs.WrittenSlots.{outcomes_by, relocated_slots, slots_of_records}
use Rattle.ebpf_object.specs.declared.object.Object.{Object}
use Rattle.ebpf_outcomes.specs.declared.outcomes.PreparedWithOutcomes.{
  PreparedWithOutcomes,
}
use Rattle.ebpf_outcomes.specs.SlotOutcomes.{extern_slots_if, map_slots_if}
use Rattle.ebpf_outcomes.specs.declared.slot_passes.AskedOutcomes.{AskedOutcomes}
use Rattle.ebpf_outcomes.specs.declared.slot_passes.SlotRows.{SlotRows}
use Rattle.ebpf_reloc.specs.Linking.{ProgramValue, IsLinkMapAt, key_of}
use Rattle.ebpf_reloc.specs.SlotTargets.{LinkableValue}
use Rattle.ebpf_reloc.specs.declared.link_map.LinkMap.{LinkMap}

-- ---- CO-RE relocations

-- The outcomes of an object's CO-RE relocations over the types that are chosen; the texts in faults
-- aside that are for people to read. Without types there are none.
abbrev pub AreOutcomes : Option TypeInfo → Object → List RecordOutcome → Type 0
AreOutcomes None o records = records ≡ []
AreOutcomes (Some target) o records =
    map outcome_without_texts records ≡ outcomes_by o target o.btf o.btf_ext

-- the slots that CO-RE relocations write are those that their outcomes leave, each over those
-- before it
abbrev pub OutcomesLeaveSlots : Option TypeInfo → Object → Type 0
OutcomesLeaveSlots None o = ⊤
OutcomesLeaveSlots (Some target) o =
    relocated_slots o target ≡ Ok (slots_of_records o target o.btf o.btf_ext)

-- ---- link maps

-- the link map of each program, in the order of the programs
abbrev pub AreLinkMaps : LinkableValue → List ProgramValue → List LinkMap → Type 0
AreLinkMaps parts programs maps =
    AllZip (λ program m. IsLinkMapAt parts (key_of program) m) programs maps

-- the link map of each program of an object, in byte order of the programs' names; none where
-- programs aren't linked
abbrev pub AreLinkMapsIf : Bool → Object → List LinkMap → Type 0
AreLinkMapsIf false unlinked maps = maps ≡ []
AreLinkMapsIf true unlinked maps =
    AreLinkMaps (linkable_of unlinked (has_function_in unlinked.functions))
    (programs_in_order unlinked.programs) maps

-- ---- maps and externs

-- outcomes that are asked for; none else
abbrev pub if_asked : {A : Type 0} → Bool → List A → List A
if_asked asked rows = if asked then rows else []

-- ---- the whole

-- An object after the chosen passes, with their outcomes. Each pass has its outcomes in the object
-- that it begins with: the CO-RE relocations in the object before all passes, the relocations to
-- maps in the one with the slots that they leave, those to externs once externs are resolved, and
-- the link maps in the functions as linking begins. A pass makes of each slot what its outcome says,
-- and leaves a slot that has none (`OutcomesLeaveSlots`, `EditsAsSaid`, `LinkMapsMatch`). So the
-- slots of the finished object are those that the outcomes say, one pass after the other.
pub record HasOutcomes (steps : Chosen) (asked : AskedOutcomes) (lines : Source) (o : Object)
    (p : PreparedWithOutcomes)
    : Type 0 where
  pub stages : Stages steps lines o p.object
  pub records : AreOutcomes steps.target o p.records
  pub slots : OutcomesLeaveSlots steps.target o
  pub maps : p.maps ≡ if_asked asked.maps (map_slots_if steps.descriptors stages.relocated)
  pub externs : p.externs ≡ if_asked asked.externs (extern_slots_if steps.externs stages.resolved)
  pub link_maps : AreLinkMapsIf steps.calls stages.unlinked p.link_maps

-- ---- what only private contracts and proofs name

-- the passes over maps and externs alone, of which none refuses what is missing
abbrev pub slot_passes : Chosen → Chosen
slot_passes steps = record steps { target = None; calls = false; complete = false }

-- what these passes leave of an object, with their outcomes
pub record HasSlotRows (steps : Chosen) (asked : AskedOutcomes) (lines : Source) (o after : Object)
    (rows : SlotRows)
    : Type 0 where
  pub stages : Stages (slot_passes steps) lines o after
  pub maps : rows.maps ≡ if_asked asked.maps (map_slots_if steps.descriptors o)
  pub externs : rows.externs
      ≡ if_asked asked.externs (extern_slots_if steps.externs stages.resolved)
