-- The outcomes of the passes over maps and externs: for each relocation that a pass applies or
-- refuses the place, and what becomes of the slot or why it is refused.
use Rattle.std.specs.Prelude.{◌≡◌, ℕ, Bool, true, if◌then◌else◌, List, [], map, Option, Some, None}
use Rattle.std.specs.Prelude.{is_some}
use Rattle.std.specs.FinMap.{FinMap, contains_key, get}
use Rattle.std.specs.Ordering.{nat_cmp}
use Rattle.ebpf_base.specs.Faults.{first_some}
use Rattle.ebpf_ksyms.specs.Sources.{Source}
use Rattle.ebpf_model.specs.declared.error.EbpfRelocationError.{EbpfRelocationError}
use Rattle.ebpf_model.specs.declared.symbol.Symbol.{Symbol}
use Rattle.ebpf_object.specs.LinkedPrograms.{linkable_of}
use Rattle.ebpf_object.specs.Names.{has_function_in}
use Rattle.ebpf_object.specs.Prepared.{Stages, before_externs, before_maps}
use Rattle.ebpf_object.specs.Stages.{Chosen, Descriptor, externs_fault_if, fds_fault, own_maps}
use Rattle.ebpf_object.specs.declared.object.Object.{Object}
use Rattle.ebpf_outcomes.specs.declared.slot_outcomes.MapOutcome.{MapOutcome}
use Rattle.ebpf_reloc.specs.NamedSlots.{map_names, own_map}
use Rattle.ebpf_reloc.specs.SlotOutcomes.{map_outcomes, extern_outcomes, outcome_error}
use Rattle.ebpf_reloc.specs.declared.map_names.MapNames.{MapNames}
use Rattle.ebpf_reloc.specs.declared.slot_outcomes.SlotOutcome.{SlotOutcome}

-- ---- maps

-- the outcomes of the relocations to maps, with descriptors of the object's own maps
abbrev pub map_slots : List Descriptor → Object → List SlotOutcome
map_slots descriptors o =
    map_outcomes (linkable_of o (has_function_in o.functions)) (own_maps o.maps descriptors)

abbrev pub own_map_in : MapNames → ℕ → Option ℕ → Option (List ℕ)
own_map_in names symbol None = None
own_map_in names symbol (Some section) = own_map names symbol section

abbrev pub own_map_by : MapNames → ℕ → Option Symbol → Option (List ℕ)
own_map_by names symbol None = None
own_map_by names symbol (Some found) = own_map_in names symbol found.section_index

-- an outcome, with the name of the slot's own map: the map of the relocation's symbol, else that of
-- the symbol's section
abbrev pub map_outcome : MapNames → FinMap nat_cmp Symbol → SlotOutcome → MapOutcome
map_outcome names symbols row = record {
  slot = row;
  map = own_map_by names row.relocation.symbol_index (get symbols row.relocation.symbol_index);
  by_symbol = contains_key names.by_symbol row.relocation.symbol_index;
}

abbrev pub named_map_slots : List Descriptor → Object → List MapOutcome
named_map_slots descriptors o =
    map (map_outcome (map_names o.maps) o.symbol_table) (map_slots descriptors o)

-- ---- externs

-- the outcomes of the relocations to externs; without type information there are none
abbrev pub extern_slots : Object → List SlotOutcome
extern_slots o =
    if is_some o.btf
    then extern_outcomes o.symbol_table o.externs o.relocations o.functions
    else []

-- ---- what refuses an object

-- the error of an outcome that is a refusal
abbrev pub slot_error : Object → SlotOutcome → Option EbpfRelocationError
slot_error o row = outcome_error o.symbol_table o.relocations o.functions row

-- Writing descriptors refuses an object exactly where an outcome is a refusal, and then with the
-- error of the first.
abbrev pub MapsRefuseByOutcomes : Type 0
MapsRefuseByOutcomes =
    (descriptors : List Descriptor) (o : Object)
    → fds_fault (Some descriptors) o
    ≡ first_some (λ row. slot_error o row.slot) (named_map_slots descriptors o)

-- writing externs likewise
abbrev pub ExternsRefuseByOutcomes : Type 0
ExternsRefuseByOutcomes =
    (o : Object) → externs_fault_if true o ≡ first_some (slot_error o) (extern_slots o)

-- ---- the outcomes of a pass, in the object that the passes before it leave

abbrev pub map_slots_if : Option (List Descriptor) → Object → List MapOutcome
map_slots_if None o = []
map_slots_if (Some descriptors) o = named_map_slots descriptors o

abbrev pub extern_slots_if : Bool → Object → List SlotOutcome
extern_slots_if chosen o = if chosen then extern_slots o else []

-- no symbols are read before descriptors are written
pub record AreMapOutcomes (steps : Chosen) (o : Object) (rows : List MapOutcome) : Type 0 where
  pub before : Object
  pub lines : Source
  pub stages : Stages (before_maps steps) lines o before
  pub are : rows ≡ map_slots_if steps.descriptors before

pub record AreExternOutcomes (steps : Chosen) (lines : Source) (o : Object)
    (rows : List SlotOutcome)
    : Type 0 where
  pub before : Object
  pub stages : Stages (before_externs steps) lines o before
  pub are : rows ≡ extern_slots_if steps.externs before
