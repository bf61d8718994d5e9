-- The numbers and names of the refusals of what a loader asks for beside relocation.
use Rattle.std.specs.Prelude.{ℕ, ◌+◌, List}
use Rattle.capi_rows.specs.Refusals.{at_offset, no_details, of_kind, of_size, of_symbol, of_type}
use Rattle.capi_rows.specs.Refusals.{two_sizes, at_slot, of_count, of_index, of_relocation}
use Rattle.capi_rows.specs.Refusals.{two_addresses, refusal_with_details, detailed_with_name, plain}
use Rattle.capi_rows.specs.Refusals.{refusal_with_name}
use Rattle.capi_rows.specs.FaultNumbers.{file_fault, type_refusal, parse_refusal, slot_refusal}
use Rattle.capi_rows.specs.FaultNumbers.{type_fault}
use Rattle.capi_rows.specs.declared.codes.TheConstants.{MEMORY}
use Rattle.capi_rows.specs.declared.refusal.Details.{Details}
use Rattle.capi_rows.specs.declared.refusal.Refusal.{Refusal}
use Rattle.ebpf_core.specs.declared.error.RelocationError.{RelocationError as RecordError}
use Rattle.ebpf_core.specs.declared.error.RelocationError.TheVariants as core
use Rattle.ebpf_core_relo.specs.declared.error.BtfRelocationError.{BtfRelocationError}
use Rattle.ebpf_initial_slots.specs.declared.error.InitialSlotError.{InitialSlotError}
use Rattle.ebpf_initial_slots.specs.declared.error.InitialSlotError.TheVariants as initial
use Rattle.ebpf_kconfig.specs.declared.error.KconfigError.{KconfigError}
use Rattle.ebpf_kconfig.specs.declared.error.KconfigError.TheVariants as kconfig
use Rattle.ebpf_btf_load.specs.declared.error.KernelTypesError.{KernelTypesError}
use Rattle.ebpf_btf_load.specs.declared.error.KernelTypesError.TheVariants as kernel
use Rattle.ebpf_ksyms.specs.declared.error.KsymsError.{KsymsError}
use Rattle.ebpf_ksyms.specs.declared.error.KsymsError.TheVariants as ksyms
use Rattle.ebpf_object.specs.declared.prepare_error.PrepareError.{PrepareError}
use Rattle.ebpf_object.specs.declared.prepare_error.PrepareError.TheVariants as stage
use Rattle.capi_rows.specs.FileTypes.{file_type_name}

-- ---- 700 to 799: a file's types for the kernel

-- about the type of the file with an id, where it has a name
abbrev pub type_refusal_in : List ℕ → ℕ → ℕ → Refusal
type_refusal_in file number id =
    record { number = number; name = file_type_name file id; details = of_type id no_details }

abbrev pub kernel_types_refusal : List ℕ → KernelTypesError → Refusal
kernel_types_refusal file (kernel.ElfError e) = plain (700 + file_fault e)
kernel_types_refusal file (kernel.BtfError e) = type_refusal 720 e
kernel_types_refusal file (kernel.NoSectionSize id) = type_refusal_in file 740 id
kernel_types_refusal file (kernel.NotAVariable id) = type_refusal_in file 741 id
kernel_types_refusal file (kernel.NoSymbol id) = type_refusal_in file 742 id
kernel_types_refusal file (kernel.UnsupportedExtern id) = type_refusal_in file 743 id
kernel_types_refusal file kernel.TooLarge = plain 744
kernel_types_refusal file kernel.OutOfMemory = plain MEMORY

-- ---- 800 to 899: initial values of maps, about the map

abbrev pub initial_slots_refusal : InitialSlotError → Refusal
initial_slots_refusal (initial.ElfError e) = plain (800 + file_fault e)
initial_slots_refusal (initial.UnknownSymbol place symbol) =
    refusal_with_details 820 (of_symbol symbol (at_offset place no_details))
initial_slots_refusal (initial.OutsideMaps place) =
    refusal_with_details 821 (at_offset place no_details)
initial_slots_refusal (initial.UnsupportedMapType map kind) =
    detailed_with_name 822 map (of_kind kind no_details)
initial_slots_refusal (initial.NotInMaps map _) = refusal_with_name 823 map
initial_slots_refusal (initial.UnsupportedKeySize map size) =
    detailed_with_name 824 map (of_size size no_details)
initial_slots_refusal (initial.UnknownMap map _) = refusal_with_name 825 map
initial_slots_refusal (initial.UnknownProgram map _) = refusal_with_name 826 map
initial_slots_refusal (initial.NotAnEntryPoint map _) = refusal_with_name 827 map
initial_slots_refusal (initial.NoValues map) = refusal_with_name 828 map
initial_slots_refusal (initial.OutsideValues map place) =
    detailed_with_name 829 map (at_offset place no_details)
initial_slots_refusal (initial.Misaligned map place) =
    detailed_with_name 830 map (at_offset place no_details)
initial_slots_refusal initial.OutOfMemory = plain MEMORY

-- ---- 900 to 999: externs of the kernel's configuration, about the extern

abbrev pub kconfig_refusal : KconfigError → Refusal
kconfig_refusal (kconfig.NotAVariable id) = refusal_with_details 900 (of_type id no_details)
kconfig_refusal (kconfig.UnreadableName offset) =
    refusal_with_details 901 (at_offset offset no_details)
kconfig_refusal (kconfig.UnknownName name) = refusal_with_name 902 name
kconfig_refusal (kconfig.UnsupportedType name) = refusal_with_name 903 name
kconfig_refusal (kconfig.NoValue name) = refusal_with_name 904 name
kconfig_refusal (kconfig.WrongSize name size length) =
    detailed_with_name 905 name (two_sizes size length no_details)
kconfig_refusal kconfig.TooLarge = plain 906
kconfig_refusal (kconfig.UnsuitedValue name) = refusal_with_name 907 name
kconfig_refusal (kconfig.ValueOutOfRange name) = refusal_with_name 908 name
kconfig_refusal kconfig.OutOfMemory = plain MEMORY

-- ---- the numbers and names of refusals of whole stages

-- ---- 200 to 299: types; of a record about its section

-- the number of an error of one record, and the numbers that it states
abbrev pub record_fault : RecordError → ℕ × Details
record_fault (core.BtfError e) = type_fault 220 e
record_fault core.SectionNotFound = (240, no_details)
record_fault core.FunctionNotFound = (241, no_details)
record_fault (core.InvalidAccessString _) = (242, no_details)
record_fault (core.InvalidInstructionIndex slot count relocation) =
    (243, of_relocation relocation (of_count count (at_slot slot no_details)))
record_fault (core.ConflictingCandidates _ _) = (244, no_details)
record_fault (core.MaximumNestingLevelReached _) = (245, no_details)
record_fault (core.InvalidAccessIndex _ _ index count _) =
    (246, of_count count (of_index index no_details))
record_fault (core.InvalidRelocationKindForType relocation _ _ _) =
    (247, of_relocation relocation no_details)
record_fault (core.InvalidInstruction relocation slot _) =
    (248, of_relocation relocation (at_slot slot no_details))
record_fault (core.MissingTargetDefinition _ id slot) = (249, of_type id (at_slot slot no_details))
record_fault core.OutOfMemory = (MEMORY, no_details)

abbrev pub types_refusal : BtfRelocationError → Refusal
types_refusal e = detailed_with_name (record_fault e.error).0 e.section (record_fault e.error).1

-- ---- 400 to 499: finding externs, about the extern

abbrev pub ksyms_refusal : KsymsError → Refusal
ksyms_refusal ksyms.TypedKsymRequiresKernelBtf = plain 400
ksyms_refusal (ksyms.VariableNotFound name) = refusal_with_name 401 name
ksyms_refusal (ksyms.IncompatibleFunctionSignature name) = refusal_with_name 402 name
ksyms_refusal (ksyms.IncompatibleVariableType name) = refusal_with_name 403 name
ksyms_refusal (ksyms.InvalidExternType name) = refusal_with_name 404 name
ksyms_refusal (ksyms.AmbiguousResolution name first second) =
    detailed_with_name 405 name (two_addresses first second no_details)
ksyms_refusal (ksyms.KallsymsAccessError _) = plain 406
ksyms_refusal (ksyms.KallsymsParseError text) = refusal_with_name 407 text
ksyms_refusal (ksyms.FunctionNotFound name) = refusal_with_name 408 name
ksyms_refusal (ksyms.BtfError e) = type_refusal 420 e
ksyms_refusal ksyms.OutOfMemory = plain MEMORY

-- ---- of all stages

abbrev pub prepare_refusal : PrepareError → Refusal
prepare_refusal (stage.Parse e) = parse_refusal e
prepare_refusal (stage.Types e) = types_refusal e
prepare_refusal (stage.Maps e) = slot_refusal 300 e
prepare_refusal (stage.Ksyms e) = ksyms_refusal e
prepare_refusal (stage.Externs e) = slot_refusal 500 e
prepare_refusal (stage.Calls e) = slot_refusal 600 e
prepare_refusal stage.OutOfMemory = plain MEMORY
prepare_refusal (stage.MissingDescriptor map) = refusal_with_name 320 map
prepare_refusal (stage.UnknownMap name) = refusal_with_name 321 name
prepare_refusal (stage.UnwrittenExtern name) = refusal_with_name 620 name
