-- The functions of a Text section, by its symbols.
use Rattle.std.specs.List.{find, flat_map, range_with_len}
use Rattle.std.specs.Prelude.{ℕ, suc, zero, ◌+◌, ◌%◌, ◌^◌, Bool, ◌&&◌, ◌||◌, List, [], ◌∷◌, length}
use Rattle.std.specs.Prelude.{take, slice_get, Option, Some, None, ◌==◌, nat_lt, if◌then◌else◌}
use Rattle.std.specs.Prelude.{slice_range, is_some}
use Rattle.ebpf_base.specs.Faults.{or_else, first_in, first_some}
use Rattle.ebpf_elf.specs.Symbols.{symbols}
use Rattle.ebpf_model.specs.declared.function.Function.{Function}
use Rattle.ebpf_parts.specs.Sections.{SectionValue}
use Rattle.ebpf_parts.specs.Slots.{slots_of, code_faults}
use Rattle.ebpf_parts.specs.declared.error.ParseError.{ParseError}
use Rattle.ebpf_parts.specs.declared.error.ParseError.TheVariants.{SymbolTableConflict}
use Rattle.ebpf_parts.specs.declared.error.ParseError.TheVariants.{UnknownSymbol, InvalidSymbol}
use Rattle.ebpf_sections.specs.Records.{FuncAndLineInfo, slot_of, funcs_at, lines_in}
use Rattle.ebpf_sections.specs.Symbols.{SymbolValue, is_text_symbol}

-- ---- the functions of a Text section, by its symbols

-- a symbol that names a function: Text, and defined
abbrev pub is_defined_text : SymbolValue → Bool
is_defined_text y = is_text_symbol y.kind && y.is_definition

-- one that names a function there
abbrev pub is_text_at : ℕ → SymbolValue → Bool
is_text_at address y = is_defined_text y && y.address == address

-- ---- two symbols at one address

-- the address of a symbol that names a function where one of those before it does
abbrev pub repeated_address : List SymbolValue → Option SymbolValue → Option ℕ
repeated_address before None = None
repeated_address before (Some y) =
    if is_defined_text y && is_some (find (is_text_at y.address) before)
    then Some y.address
    else None

-- the first such address, by the symbols' places
abbrev pub repeated : List SymbolValue → Option ℕ
repeated symbols =
    first_some (λ i. repeated_address (take i symbols) (slice_get symbols i))
    (range_with_len 0 (length symbols))

abbrev pub conflict_fault_at : ℕ → Option ℕ → Option ParseError
conflict_fault_at section None = None
conflict_fault_at section (Some address) = Some (SymbolTableConflict section address)

unfoldable pub conflict_fault : ℕ → List SymbolValue → Option ParseError
conflict_fault section symbols = conflict_fault_at section (repeated symbols)

-- ---- the function at an offset of the section

-- the address of an offset
abbrev pub address_at : SectionValue → ℕ → ℕ
address_at s offset = (s.address + offset) % 2 ^ 64

-- the symbol that begins there
unfoldable pub symbol_at_offset : SectionValue → List SymbolValue → ℕ → Option SymbolValue
symbol_at_offset s symbols offset = find (is_text_at (address_at s offset)) symbols

abbrev pub symbol_size_of : Option SymbolValue → ℕ
symbol_size_of None = 0
symbol_size_of (Some y) = y.size

-- the bytes from an offset on, as many as the symbol's size
abbrev pub text_function_bytes : SectionValue → ℕ → SymbolValue → List ℕ
text_function_bytes s offset y = slice_range s.bytes offset (offset + y.size)

-- the function; its records count slots from the section's first one
unfoldable pub text_function : FuncAndLineInfo → SectionValue → ℕ → SymbolValue → Function
text_function infos s offset y = record {
  address = y.address;
  name = y.name;
  section_index = s.index;
  section_offset = offset;
  instructions = slots_of (text_function_bytes s offset y);
  func_info = funcs_at infos.funcs (slot_of offset) 0;
  line_info = lines_in infos.lines (slot_of offset) (slot_of y.size) 0;
  func_info_rec_size = infos.func_size;
  line_info_rec_size = infos.line_size;
}

abbrev pub text_function_of : FuncAndLineInfo → SectionValue → ℕ → Option SymbolValue
    → List Function
text_function_of infos s offset None = []
text_function_of infos s offset (Some y) = text_function infos s offset y ∷ []

-- why no function begins there
abbrev pub text_fault_of : SectionValue → ℕ → Option SymbolValue → Option ParseError
text_fault_of s offset None = Some (UnknownSymbol s.index.0 (address_at s offset))
text_fault_of s offset (Some y) = first_in (
    ((y.size == 0 || nat_lt (length s.bytes) (offset + y.size), InvalidSymbol y.index (Some y.name))
    ∷ [])
    ∷ code_faults (text_function_bytes s offset y)
    ∷ [])

unfoldable pub function_at : FuncAndLineInfo → SectionValue → List SymbolValue → ℕ → List Function
function_at infos s symbols offset =
    text_function_of infos s offset (symbol_at_offset s symbols offset)

unfoldable pub text_fault_at : SectionValue → List SymbolValue → ℕ → Option ParseError
text_fault_at s symbols offset = text_fault_of s offset (symbol_at_offset s symbols offset)

unfoldable pub size_at : SectionValue → List SymbolValue → ℕ → ℕ
size_at s symbols offset = symbol_size_of (symbol_at_offset s symbols offset)

-- ---- all functions

-- The offsets where functions begin: from one on up to the end of the data, each behind the
-- function before it.
-- There are at most as many as bytes.
unfoldable pub offsets_from : ℕ → SectionValue → List SymbolValue → ℕ → List ℕ
offsets_from zero s symbols offset = []
offsets_from (suc left) s symbols offset =
    if nat_lt offset (length s.bytes)
    then offset ∷ offsets_from left s symbols (offset + size_at s symbols offset)
    else []

abbrev pub offsets : SectionValue → List SymbolValue → List ℕ
offsets s symbols = offsets_from (length s.bytes) s symbols 0

-- the functions of a section, in order of their offset, and its first fault
abbrev pub text_functions : FuncAndLineInfo → SectionValue → List SymbolValue → List Function
text_functions infos s symbols = flat_map (function_at infos s symbols) (offsets s symbols)

abbrev pub walk_fault : SectionValue → List SymbolValue → Option ParseError
walk_fault s symbols = first_some (text_fault_at s symbols) (offsets s symbols)

unfoldable pub text_fault : SectionValue → List SymbolValue → Option ParseError
text_fault s symbols = or_else (conflict_fault s.index.0 symbols) (walk_fault s symbols)

-- a symbol at an address
abbrev pub is_at : ℕ → SymbolValue → Bool
is_at address y = y.address == address
