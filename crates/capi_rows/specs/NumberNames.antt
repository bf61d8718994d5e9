-- The name of each number of `enum ebpf_number` (include/ebpf.h): the stage, and the error.
--
-- A worked example: the name of 101 is `parse: BadMagic`, and 159 has none
-- (proofs/NumberNames.antt).
use Rattle.std.specs.Prelude.{ℕ, List, [], ◌∷◌, ◌++◌, ◌-◌, ◌≤◌, codes, length, map}
use Rattle.std.specs.Prelude.{nat_lt, slice_get, Option, Some, None}
use Rattle.std.specs.List.{find}
use Rattle.std.specs.Option.{option_map_or}
use Rattle.capi_rows.specs.declared.codes.Stage.{Stage}

-- of no stage, from 0 on
abbrev pub general_names : List (List ℕ)
general_names =
    codes "Done"
    ∷ codes "Room"
    ∷ codes "OutOfMemory"
    ∷ codes "Closed"
    ∷ codes "NoProgram"
    ∷ codes "NoMap"
    ∷ codes "BadName"
    ∷ codes "BadValue"
    ∷ codes "NoExtern"
    ∷ codes "WrongLength"
    ∷ codes "NoVariable"
    ∷ codes "PassMade"
    ∷ codes "PassOrder"
    ∷ []

-- of files
abbrev pub file_faults : List (List ℕ)
file_faults =
    codes "TooShort"
    ∷ codes "BadMagic"
    ∷ codes "NotElf64"
    ∷ codes "BadByteOrder"
    ∷ codes "BadSectionTable"
    ∷ codes "BadSectionRange"
    ∷ codes "BadStringTable"
    ∷ codes "BadSymbolTable"
    ∷ codes "BadRelocationTable"
    ∷ codes "ExtendedNumbering"
    ∷ []

-- of types
abbrev pub type_faults : List (List ℕ)
type_faults =
    codes "InvalidHeader"
    ∷ codes "InvalidTypeInfo"
    ∷ codes "InvalidInfo"
    ∷ codes "InvalidStringOffset"
    ∷ codes "InvalidRelocationKind"
    ∷ codes "UnexpectedBtfType"
    ∷ codes "UnknownBtfType"
    ∷ codes "UnknownBtfTypeName"
    ∷ codes "MaximumTypeDepth"
    ∷ codes "InvalidDatasec"
    ∷ codes "InvalidSymbolName"
    ∷ codes "InnerMapCannotBePinned"
    ∷ codes "MultiLevelMapInMapNotSupported"
    ∷ codes "InvalidValuesSpec"
    ∷ codes "TooLarge"
    ∷ []

-- of parsing
abbrev pub parse_faults : List (List ℕ)
parse_faults =
    codes "MissingLicenseNullTerminator"
    ∷ codes "InvalidLicense"
    ∷ codes "InvalidKernelVersion"
    ∷ codes "UnsupportedRelocationTarget"
    ∷ codes "InvalidProgramSection"
    ∷ codes "InvalidProgramCode"
    ∷ codes "InvalidMapDefinition"
    ∷ codes "SymbolTableConflict"
    ∷ codes "UnknownSymbol"
    ∷ codes "InvalidSymbol"
    ∷ codes "InvalidGlobalData"
    ∷ codes "SymbolNotFound"
    ∷ codes "MapNotFound"
    ∷ codes "MapSymbolNameNotFound"
    ∷ codes "NoSymbolsForSection"
    ∷ codes "NoBTF"
    ∷ codes "BigEndianCode"
    ∷ codes "TooLarge"
    ∷ codes "OtherMachine"
    ∷ []

-- of a CO-RE relocation
abbrev pub record_faults : List (List ℕ)
record_faults =
    codes "SectionNotFound"
    ∷ codes "FunctionNotFound"
    ∷ codes "InvalidAccessString"
    ∷ codes "InvalidInstructionIndex"
    ∷ codes "ConflictingCandidates"
    ∷ codes "MaximumNestingLevelReached"
    ∷ codes "InvalidAccessIndex"
    ∷ codes "InvalidRelocationKindForType"
    ∷ codes "InvalidInstruction"
    ∷ codes "MissingTargetDefinition"
    ∷ []

-- of slots
abbrev pub slot_faults : List (List ℕ)
slot_faults =
    codes "UnknownSymbol"
    ∷ codes "SectionNotFound"
    ∷ codes "UnknownFunction"
    ∷ codes "FunctionInfoMismatch"
    ∷ codes "UnknownProgram"
    ∷ codes "InvalidRelocationOffset"
    ∷ codes "ExternNotFound"
    ∷ codes "UnresolvableSymbol"
    ∷ codes "UnsupportedTextSymbol"
    ∷ codes "InvalidLineInfo"
    ∷ codes "ProgramTooLong"
    ∷ codes "MapAddressOverflow"
    ∷ []

-- of externs that are looked up
abbrev pub extern_faults : List (List ℕ)
extern_faults =
    codes "TypedKsymRequiresKernelBtf"
    ∷ codes "VariableNotFound"
    ∷ codes "IncompatibleFunctionSignature"
    ∷ codes "IncompatibleVariableType"
    ∷ codes "InvalidExternType"
    ∷ codes "AmbiguousResolution"
    ∷ codes "KallsymsAccessError"
    ∷ codes "KallsymsParseError"
    ∷ codes "FunctionNotFound"
    ∷ []

-- of a file's types for the kernel
abbrev pub kernel_types_faults : List (List ℕ)
kernel_types_faults =
    codes "NoSectionSize"
    ∷ codes "NotAVariable"
    ∷ codes "NoSymbol"
    ∷ codes "UnsupportedExtern"
    ∷ codes "TooLarge"
    ∷ []

-- of initial values of maps
abbrev pub initial_slot_faults : List (List ℕ)
initial_slot_faults =
    codes "UnknownSymbol"
    ∷ codes "OutsideMaps"
    ∷ codes "UnsupportedMapType"
    ∷ codes "NotInMaps"
    ∷ codes "UnsupportedKeySize"
    ∷ codes "UnknownMap"
    ∷ codes "UnknownProgram"
    ∷ codes "NotAnEntryPoint"
    ∷ codes "NoValues"
    ∷ codes "OutsideValues"
    ∷ codes "Misaligned"
    ∷ []

-- of what needs an id of the kernel's own types
abbrev pub least_types_faults : List (List ℕ)
least_types_faults =
    codes "RelocationNeedsKernelId"
    ∷ codes "ExternNeedsKernelId"
    ∷ codes "TargetNeedsKernelId"
    ∷ []

-- of kconfig externs
abbrev pub kconfig_faults : List (List ℕ)
kconfig_faults =
    codes "NotAVariable"
    ∷ codes "UnreadableName"
    ∷ codes "UnknownName"
    ∷ codes "UnsupportedType"
    ∷ codes "NoValue"
    ∷ codes "WrongSize"
    ∷ codes "TooLarge"
    ∷ codes "UnsuitedValue"
    ∷ codes "ValueOutOfRange"
    ∷ []

-- of BTF-defined maps that are completed
abbrev pub btf_map_faults : List (List ℕ)
btf_map_faults =
    codes "UnknownPinning"
    ∷ codes "SecondArena"
    ∷ codes "NoArena"
    ∷ codes "ArenaTooSmall"
    ∷ []

-- of maps of struct_ops
abbrev pub struct_ops_faults : List (List ℕ)
struct_ops_faults =
    codes "NoTypes"
    ∷ codes "NoDatasec"
    ∷ codes "NoKernelStruct"
    ∷ codes "NoDataMember"
    ∷ codes "OtherUse"
    ∷ []

-- of variables of struct_ops
abbrev pub variable_faults : List (List ℕ)
variable_faults =
    codes "NotAVariable"
    ∷ codes "NotAStruct"
    ∷ codes "Anonymous"
    ∷ codes "NoSymbol"
    ∷ codes "OutsideSection"
    ∷ []

-- of relocations of sections of struct_ops
abbrev pub place_faults : List (List ℕ)
place_faults =
    codes "UnknownSymbol"
    ∷ codes "OutsideVariables"
    ∷ codes "NoMember"
    ∷ codes "NotAFunctionPointer"
    ∷ codes "UnknownProgram"
    ∷ codes "NotStructOps"
    ∷ []

-- of members of struct_ops
abbrev pub member_faults : List (List ℕ)
member_faults =
    codes "UnknownSize"
    ∷ codes "BitField"
    ∷ codes "OutsideStruct"
    ∷ codes "Missing"
    ∷ codes "DifferentKinds"
    ∷ codes "NotAProgram"
    ∷ codes "NotAFunctionPointer"
    ∷ codes "DifferentSizes"
    ∷ codes "OutsideValue"
    ∷ []

-- of descriptors that are not complete
abbrev pub descriptor_faults : List (List ℕ)
descriptor_faults =
    codes "MissingDescriptor"
    ∷ codes "UnknownMap"
    ∷ []

-- of externs that are not written before linking
abbrev pub unwritten_faults : List (List ℕ)
unwritten_faults =
    codes "UnwrittenExtern"
    ∷ []

-- A stage: its numbers are from the first one up to the end, which is the first number of the next.
-- Behind the title stand the errors, in the order of their numbers. Numbers past them have no name.
pub record NumberStage : Type 0 where
  pub first : ℕ
  pub end : ℕ
  pub title : List ℕ
  pub errors : List (List ℕ)

abbrev pub stage : ℕ → ℕ → List ℕ → List (List ℕ) → NumberStage
stage first end title errors =
    record { first = first; end = end; title = title; errors = errors }

abbrev pub number_stages : List NumberStage
number_stages =
    stage 0 100 [] general_names
    ∷ stage 100 110 (codes "parse: ") file_faults
    ∷ stage 110 120 (codes "parse: SectionError ") file_faults
    ∷ stage 120 140 (codes "parse: BtfError ") type_faults
    ∷ stage 140 200 (codes "parse: ") parse_faults
    ∷ stage 200 220 (codes "btf: ") type_faults
    ∷ stage 220 240 (codes "types: BtfError ") type_faults
    ∷ stage 240 300 (codes "types: ") record_faults
    ∷ stage 300 320 (codes "maps: ") slot_faults
    ∷ stage 320 400 (codes "maps: ") descriptor_faults
    ∷ stage 400 420 (codes "ksyms: ") extern_faults
    ∷ stage 420 500 (codes "ksyms: BtfError ") type_faults
    ∷ stage 500 600 (codes "externs: ") slot_faults
    ∷ stage 600 620 (codes "calls: ") slot_faults
    ∷ stage 620 700 (codes "calls: ") unwritten_faults
    ∷ stage 700 720 (codes "kernel types: ") file_faults
    ∷ stage 720 740 (codes "kernel types: BtfError ") type_faults
    ∷ stage 740 800 (codes "kernel types: ") kernel_types_faults
    ∷ stage 800 820 (codes "initial slots: ") file_faults
    ∷ stage 820 900 (codes "initial slots: ") initial_slot_faults
    ∷ stage 900 1000 (codes "kconfig: ") kconfig_faults
    ∷ stage 1000 1020 (codes "least types: ") least_types_faults
    ∷ stage 1020 1100 (codes "least types: BtfError ") type_faults
    ∷ stage 1100 1120 (codes "completed maps: ") file_faults
    ∷ stage 1120 1200 (codes "completed maps: ") btf_map_faults
    ∷ stage 1200 1220 (codes "struct_ops: ") file_faults
    ∷ stage 1220 1240 (codes "struct_ops: ") struct_ops_faults
    ∷ stage 1240 1260 (codes "struct_ops: variable ") variable_faults
    ∷ stage 1260 1280 (codes "struct_ops: relocation ") place_faults
    ∷ stage 1280 1300 (codes "struct_ops: member ") member_faults
    ∷ []

abbrev pub with_title : List ℕ → Option (List ℕ) → List ℕ
with_title title None = []
with_title title (Some error) = title ++ error

abbrev pub name_in : ℕ → NumberStage → List ℕ
name_in number s = with_title s.title (slice_get s.errors (number - s.first))

-- the name of a number; empty where the number has none
unfoldable pub number_name : ℕ → List ℕ
number_name number =
    option_map_or (name_in number) (find (λ s. nat_lt number s.end) number_stages) []

-- each name fits 64 bytes, which the header says of `ebpf_number_name`
abbrev pub NumberNamesFit : Type 0
NumberNamesFit = (number : ℕ) → length (number_name number) ≤ 64

-- ---- the stages of the code

abbrev pub stage_value : Stage → NumberStage
stage_value s = record {
  first = s.first;
  end = s.end;
  title = s.title.now;
  errors = map (λ error. error.now) s.errors.now;
}

abbrev pub name_found : ℕ → Option Stage → List ℕ
name_found number found = option_map_or (λ s. name_in number (stage_value s)) found []
