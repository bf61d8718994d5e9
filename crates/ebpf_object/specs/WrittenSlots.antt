-- An object with descriptors of maps, and with ids and addresses of externs, in the slots of its
-- functions.
use Rattle.std.specs.Prelude.{List, Option, None, is_some, if◌then◌else◌, ◌≡◌, Some, Result, Ok, []}
use Rattle.std.specs.Prelude.{map}
use Rattle.std.specs.FinMap.{FinMap, empty, get}
use Rattle.ebpf_base.specs.Maps.{key_cmp, map_values}
use Rattle.ebpf_btf.specs.TypeInfo.{TypeInfo}
use Rattle.ebpf_core_relo.specs.RecordOutcomes.{record_outcomes, record_slots}
use Rattle.ebpf_core_relo.specs.RecordOutcomes.{outcome_without_texts}
use Rattle.ebpf_core_relo.specs.Records.{Written, relocation_inputs_between, slots_written}
use Rattle.ebpf_core_relo.specs.Records.{with_slots}
use Rattle.ebpf_core_relo.specs.declared.error.BtfRelocationError.{BtfRelocationError}
use Rattle.ebpf_core_relo.specs.declared.outcomes.RecordOutcome.{RecordOutcome}
use Rattle.ebpf_core_relo.specs.declared.outcomes.RecordOutcomes.{RecordOutcomes}
use Rattle.ebpf_btf_ext.specs.ExtReading.{ExtInfo}
use Rattle.ebpf_model.specs.Symbols.{TextSections, FunctionKey}
use Rattle.ebpf_model.specs.declared.error.EbpfRelocationError.{EbpfRelocationError}
use Rattle.ebpf_model.specs.declared.function.Function.{Function}
use Rattle.ebpf_object.specs.declared.object.Object.{Object}
use Rattle.ebpf_reloc.specs.Maps.{GivenMap}
use Rattle.ebpf_reloc.specs.Passes.{with_map_fds, map_fault, externs_written, extern_fault}

-- the object with the descriptors of some maps
abbrev pub with_maps : Object → TextSections → List GivenMap → Object
with_maps o text_sections given =
    record o {
      functions = map_values (with_map_fds o.symbol_table text_sections given o.relocations)
          o.functions;
    }

-- the first of its relocations whose descriptor can't be written
abbrev pub maps_fault : Object → TextSections → List GivenMap → Option EbpfRelocationError
maps_fault o text_sections given =
    map_fault o.symbol_table text_sections given o.relocations o.functions

-- the object with its externs written; without type information it has none
abbrev pub with_externs : Object → Object
with_externs o =
    if is_some o.btf
    then record o {
      functions = map_values (externs_written o.symbol_table o.externs o.relocations)
          o.functions;
    }
    else o

-- the first of its relocations whose extern can't be written
abbrev pub externs_fault : Object → Option EbpfRelocationError
externs_fault o =
    if is_some o.btf then extern_fault o.symbol_table o.externs o.relocations o.functions else None

-- ---- the functions of an object, relocated to the types of a kernel

-- the slots that CO-RE relocations write, where there are types and relocations
abbrev pub relocated_slots_by : Object → TypeInfo → Option TypeInfo → Option ExtInfo
    → Result Written BtfRelocationError
relocated_slots_by o target None ext = Ok empty
relocated_slots_by o target (Some local) None = Ok empty
relocated_slots_by o target (Some local) (Some ext) =
    slots_written (relocation_inputs_between local target o.functions o.section_infos)
    ext.relocations

-- the slots that the relocations of an object write, by the functions' keys, or the first fault
abbrev pub relocated_slots : Object → TypeInfo → Result Written BtfRelocationError
relocated_slots o target = relocated_slots_by o target o.btf o.btf_ext

-- each function has the slots that were written of it, and else those that it had
pub record AreRelocatedToTypes (o : Object) (target : TypeInfo)
    (functions : FinMap key_cmp Function)
    : Type 0 where
  pub slots : Written
  pub written : relocated_slots o target ≡ Ok slots
  pub each : (key : FunctionKey)
      → get functions key ≡ with_slots (get slots key) (get o.functions key)

-- ---- the outcomes of the CO-RE records of an object over the types of a kernel

-- the outcomes of the records, if there are types and records
abbrev pub outcomes_by : Object → TypeInfo → Option TypeInfo → Option ExtInfo → List RecordOutcome
outcomes_by o target None ext = []
outcomes_by o target (Some local) None = []
outcomes_by o target (Some local) (Some ext) =
    record_outcomes (relocation_inputs_between local target o.functions o.section_infos)
    ext.relocations

-- the slots that they write
abbrev pub slots_of_records : Object → TypeInfo → Option TypeInfo → Option ExtInfo → Written
slots_of_records o target None ext = empty
slots_of_records o target (Some local) None = empty
slots_of_records o target (Some local) (Some ext) =
    record_slots (relocation_inputs_between local target o.functions o.section_infos)
    ext.relocations

-- the texts in faults aside that are for people to read
pub record AreRecordOutcomes (o : Object) (target : TypeInfo) (outcomes : RecordOutcomes)
    : Type 0 where
  pub records : map outcome_without_texts outcomes.records ≡ outcomes_by o target o.btf o.btf_ext
  pub written : outcomes.written ≡ slots_of_records o target o.btf o.btf_ext
