-- The programs of a Program section, and their functions.
use Rattle.std.specs.FinMap.{FinMap, empty}
use Rattle.std.specs.List.{flat_map}
use Rattle.std.specs.Ordering.{nat_cmp}
use Rattle.std.specs.Prelude.{ℕ, ◌+◌, ◌-◌, Bool, not, ◌&&◌, ◌||◌, List, [], ◌∷◌, length, map}
use Rattle.std.specs.Prelude.{filter, Option, Some, None, ◌==◌, nat_lt, slice_range, if◌then◌else◌}
use Rattle.ebpf_base.specs.Faults.{Row, first_in, first_some}
use Rattle.ebpf_base.specs.Maps.{put_all}
use Rattle.ebpf_elf.specs.Symbols.{symbols}
use Rattle.ebpf_model.specs.Symbols.{FunctionKey}
use Rattle.ebpf_model.specs.declared.function.Function.{Function}
use Rattle.ebpf_model.specs.declared.function.Program.{Program}
use Rattle.ebpf_parts.specs.Sections.{SectionValue}
use Rattle.ebpf_parts.specs.Slots.{slots_of, code_faults}
use Rattle.ebpf_parts.specs.declared.error.ParseError.{ParseError}
use Rattle.ebpf_parts.specs.declared.error.ParseError.TheVariants.{InvalidSymbol}
use Rattle.ebpf_parts.specs.declared.program_section.ProgramSection.{ProgramSection}
use Rattle.ebpf_sections.specs.Records.{FuncAndLineInfo, slot_of, funcs_at, lines_in}
use Rattle.ebpf_sections.specs.Symbols.{SymbolValue, is_text_symbol}

-- ---- the programs of a Program section, and their functions

-- a symbol that names a program: Text, and with a name
abbrev pub is_program_symbol : SymbolValue → Bool
is_program_symbol y = is_text_symbol y.kind && not (length y.name == 0)

-- the bytes of the section from the symbol's address on, as many as its size
abbrev pub program_bytes : SectionValue → SymbolValue → List ℕ
program_bytes s y = slice_range s.bytes y.address (y.address + y.size)

-- where it begins in the section, in bytes
abbrev pub program_offset : SectionValue → SymbolValue → ℕ
program_offset s y = y.address - s.address

-- the function; its records count slots from its first one
unfoldable pub program_function : FuncAndLineInfo → SectionValue → SymbolValue → Function
program_function infos s y = record {
  address = y.address;
  name = y.name;
  section_index = s.index;
  section_offset = y.address;
  instructions = slots_of (program_bytes s y);
  func_info = funcs_at infos.funcs (slot_of (program_offset s y)) (slot_of (program_offset s y));
  line_info =
      lines_in infos.lines (slot_of (program_offset s y)) (slot_of y.size)
      (slot_of (program_offset s y));
  func_info_rec_size = infos.func_size;
  line_info_rec_size = infos.line_size;
}

-- a symbol whose bytes are not all in the section
abbrev pub range_faults : SectionValue → SymbolValue → List (Row ParseError)
range_faults s y = (
  nat_lt y.address s.address
      || nat_lt (length s.bytes) (y.address + y.size),
  InvalidSymbol y.index (Some y.name),
)
    ∷ []

-- why a symbol's program can't be read
unfoldable pub program_fault : SectionValue → SymbolValue → Option ParseError
program_fault s y = first_in (range_faults s y ∷ code_faults (program_bytes s y) ∷ [])

-- the functions of a section's programs, by symbol, and the first fault among them
abbrev pub program_functions : FuncAndLineInfo → SectionValue → List SymbolValue → List Function
program_functions infos s symbols =
    map (program_function infos s) (filter is_program_symbol symbols)

abbrev pub programs_fault : SectionValue → List SymbolValue → Option ParseError
programs_fault s symbols = first_some (program_fault s) (filter is_program_symbol symbols)

-- a function, by section and address
abbrev pub with_key : Function → FunctionKey × Function
with_key f = ((f.section_index.0, f.address), f)

-- a program, by name, with the license and the kernel version of its object
abbrev pub program_of : List ℕ → Option ℕ → SectionValue → ProgramSection → SymbolValue
    → List ℕ × Program
program_of license version s kind y = (
  y.name,
  record {
    license = license;
    kernel_version = version;
    section = kind;
    section_index = s.index.0;
    address = y.address;
  },
)

-- the programs of a section whose name says a kind
abbrev pub programs_of : List ℕ → Option ℕ → SectionValue → List SymbolValue → Option ProgramSection
    → List (List ℕ × Program)
programs_of license version s symbols None = []
programs_of license version s symbols (Some kind) =
    map (program_of license version s kind) (filter is_program_symbol symbols)

-- the index of a program's symbol, by its address
abbrev pub program_symbol_row : SymbolValue → List (ℕ × ℕ)
program_symbol_row y = if is_program_symbol y then (y.address, y.index) ∷ [] else []

-- the index of the last program's symbol at each address
abbrev pub last_programs : List SymbolValue → FinMap nat_cmp ℕ
last_programs symbols = put_all empty (flat_map program_symbol_row symbols)
