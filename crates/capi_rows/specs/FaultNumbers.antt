-- The numbers and names of refusals of files, types and slots.
use Rattle.std.specs.Prelude.{ℕ, ◌+◌, List, length, Option, Some, None}
use Rattle.ebpf_btf.specs.declared.error.BtfError.{BtfError}
use Rattle.ebpf_btf.specs.declared.error.BtfError.TheVariants as types
use Rattle.ebpf_elf.specs.declared.error.ElfReadError.{ElfReadError}
use Rattle.ebpf_elf.specs.declared.error.ElfReadError.TheVariants as file
use Rattle.ebpf_parts.specs.declared.error.ParseError.{ParseError}
use Rattle.ebpf_parts.specs.declared.error.ParseError.TheVariants as parse
use Rattle.ebpf_model.specs.declared.error.EbpfRelocationError.{EbpfRelocationError}
use Rattle.ebpf_model.specs.declared.error.RelocationError.{RelocationError}
use Rattle.ebpf_model.specs.declared.error.RelocationError.TheVariants as slot
use Rattle.capi_rows.specs.Refusals.{at_address, at_offset, at_section, no_details, of_index}
use Rattle.capi_rows.specs.Refusals.{of_kind, of_relocation, of_size, of_symbol, of_type, two_sizes}
use Rattle.capi_rows.specs.Refusals.{refusal_with_details, detailed_with_name, plain}
use Rattle.capi_rows.specs.Refusals.{refusal_with_name}
use Rattle.capi_rows.specs.declared.codes.TheConstants.{MEMORY}
use Rattle.capi_rows.specs.declared.refusal.Details.{Details}
use Rattle.capi_rows.specs.declared.refusal.Refusal.{Refusal}

-- why a file, or a part of it, can't be read
abbrev pub file_fault : ElfReadError → ℕ
file_fault file.TooShort = 0
file_fault file.BadMagic = 1
file_fault file.NotElf64 = 2
file_fault file.BadByteOrder = 3
file_fault file.BadSectionTable = 4
file_fault file.BadSectionRange = 5
file_fault file.BadStringTable = 6
file_fault file.BadSymbolTable = 7
file_fault file.BadRelocationTable = 8
file_fault file.ExtendedNumbering = 9

-- why types can't be read, where the first of the faults has a number; and the numbers that it
-- states
abbrev pub type_fault : ℕ → BtfError → ℕ × Details
type_fault first types.InvalidHeader = (first, no_details)
type_fault first types.InvalidTypeInfo = (first + 1, no_details)
type_fault first types.InvalidInfo = (first + 2, no_details)
type_fault first (types.InvalidStringOffset offset) = (first + 3, at_offset offset no_details)
type_fault first (types.InvalidRelocationKind kind) = (first + 4, of_kind kind no_details)
type_fault first (types.UnexpectedBtfType id) = (first + 5, of_type id no_details)
type_fault first (types.UnknownBtfType id) = (first + 6, of_type id no_details)
type_fault first (types.UnknownBtfTypeName _) = (first + 7, no_details)
type_fault first (types.MaximumTypeDepth id) = (first + 8, of_type id no_details)
type_fault first types.InvalidDatasec = (first + 9, no_details)
type_fault first types.InvalidSymbolName = (first + 10, no_details)
type_fault first (types.InnerMapCannotBePinned _) = (first + 11, no_details)
type_fault first (types.MultiLevelMapInMapNotSupported _) = (first + 12, no_details)
type_fault first (types.InvalidValuesSpec _) = (first + 13, no_details)
type_fault first types.TooLarge = (first + 14, no_details)
type_fault first types.OutOfMemory = (MEMORY, no_details)

-- the type or the map that such a fault is about
abbrev pub type_fault_name : BtfError → Option (List ℕ)
type_fault_name (types.UnknownBtfTypeName name) = Some name
type_fault_name (types.InnerMapCannotBePinned name) = Some name
type_fault_name (types.MultiLevelMapInMapNotSupported name) = Some name
type_fault_name (types.InvalidValuesSpec name) = Some name
type_fault_name _ = None

abbrev pub type_refusal : ℕ → BtfError → Refusal
type_refusal first e =
    record {
      number = (type_fault first e).0;
      name = type_fault_name e;
      details = (type_fault first e).1;
    }

-- ---- 100 to 199: the file, and the values of variables

abbrev pub parse_refusal : ParseError → Refusal
parse_refusal (parse.ElfError e) = plain (100 + file_fault e)
parse_refusal (parse.SectionError index e) =
    refusal_with_details (110 + file_fault e) (at_section index no_details)
parse_refusal (parse.BtfError e) = type_refusal 120 e
parse_refusal (parse.MissingLicenseNullTerminator bytes) =
    refusal_with_details 140 (of_size (length bytes) no_details)
parse_refusal (parse.InvalidLicense bytes) =
    refusal_with_details 141 (of_size (length bytes) no_details)
parse_refusal (parse.InvalidKernelVersion bytes) =
    refusal_with_details 142 (of_size (length bytes) no_details)
parse_refusal parse.UnsupportedRelocationTarget = plain 143
parse_refusal (parse.InvalidProgramSection section) = refusal_with_name 144 section
parse_refusal parse.InvalidProgramCode = plain 145
parse_refusal (parse.InvalidMapDefinition name) = refusal_with_name 146 name
parse_refusal (parse.SymbolTableConflict section address) =
    refusal_with_details 147 (at_address address (at_section section no_details))
parse_refusal (parse.UnknownSymbol section address) =
    refusal_with_details 148 (at_address address (at_section section no_details))
parse_refusal (parse.InvalidSymbol index name) =
    record { number = 149; name = name; details = of_symbol index no_details }
parse_refusal (parse.InvalidGlobalData name size length) =
    detailed_with_name 150 name (two_sizes size length no_details)
parse_refusal (parse.SymbolNotFound name) = refusal_with_name 151 name
parse_refusal (parse.MapNotFound section) = refusal_with_details 152 (at_section section no_details)
parse_refusal (parse.MapSymbolNameNotFound i) = refusal_with_details 153 (of_index i no_details)
parse_refusal (parse.NoSymbolsForSection section) = refusal_with_name 154 section
parse_refusal parse.NoBTF = plain 155
parse_refusal parse.OutOfMemory = plain MEMORY
parse_refusal parse.BigEndianCode = plain 156
parse_refusal (parse.TooLarge most) = refusal_with_details 157 (of_size most no_details)
parse_refusal (parse.OtherMachine machine) = refusal_with_details 158 (of_kind machine no_details)

-- ---- 300, 500 and 600 on: slots, about the function or the program

-- the number of a fault where the first one has a number, and the numbers that it states
abbrev pub slot_fault : ℕ → RelocationError → ℕ × Details
slot_fault first (slot.UnknownSymbol symbol) = (first, of_symbol symbol no_details)
slot_fault first (slot.SectionNotFound section symbol _) =
    (first + 1, of_symbol symbol (at_section section no_details))
slot_fault first (slot.UnknownFunction address _) = (first + 2, at_address address no_details)
slot_fault first (slot.FunctionInfoMismatch _) = (first + 3, no_details)
slot_fault first (slot.UnknownProgram section address) =
    (first + 4, at_address address (at_section section no_details))
slot_fault first (slot.InvalidRelocationOffset offset relocation) =
    (first + 5, of_relocation relocation (at_offset offset no_details))
slot_fault first (slot.ExternNotFound _) = (first + 6, no_details)
slot_fault first (slot.UnresolvableSymbol _) = (first + 7, no_details)
slot_fault first (slot.UnsupportedTextSymbol symbol) = (first + 8, of_symbol symbol no_details)
slot_fault first (slot.InvalidLineInfo _) = (first + 9, no_details)
slot_fault first (slot.ProgramTooLong _) = (first + 10, no_details)
slot_fault first (slot.MapAddressOverflow offset) = (first + 11, at_offset offset no_details)
slot_fault first slot.OutOfMemory = (MEMORY, no_details)

abbrev pub slot_refusal : ℕ → EbpfRelocationError → Refusal
slot_refusal first e =
    detailed_with_name (slot_fault first e.error).0 e.function (slot_fault first e.error).1
