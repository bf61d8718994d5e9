-- The symbols of a file with their names, those of a section, and symbols by their names.
use Rattle.std.specs.FinMap.{FinMap, empty}
use Rattle.std.specs.List.{find}
use Rattle.std.specs.Ordering.{nat_cmp, eq_by_cmp}
use Rattle.std.specs.Prelude.{ℕ, Bool, true, false, List, Option, Some, None, ◌==◌, filter, [], map}
use Rattle.std.specs.Prelude.{unwrap_or, is_some, if◌then◌else◌, option_map}
use Rattle.ebpf_base.specs.Faults.{first_some}
use Rattle.ebpf_base.specs.Maps.{put_all, text_cmp}
use Rattle.ebpf_btf.specs.declared.error.BtfError.TheVariants.{InvalidSymbolName}
use Rattle.ebpf_elf.specs.Symbols.{SymbolOf, entry, symbol_name, symbol_kind, symbol_section_index}
use Rattle.ebpf_elf.specs.Symbols.{is_definition, is_weak, symbols}
use Rattle.ebpf_elf.specs.declared.symbol.SymbolKind.{SymbolKind}
use Rattle.ebpf_elf.specs.declared.symbol.SymbolKind.TheVariants.{Text}
use Rattle.ebpf_model.specs.declared.symbol.Symbol.{Symbol}
use Rattle.ebpf_parts.specs.declared.error.ParseError.{ParseError}
use Rattle.ebpf_parts.specs.declared.error.ParseError.TheVariants.{BtfError}

-- ---- the symbols that a section has

-- a symbol, with its name
pub record SymbolValue : Type 0 where
  pub index : ℕ
  pub section_index : Option ℕ
  pub name : List ℕ
  pub address : ℕ
  pub size : ℕ
  pub kind : SymbolKind
  pub is_definition : Bool
  pub is_weak : Bool

abbrev pub is_text_symbol : SymbolKind → Bool
is_text_symbol Text = true
is_text_symbol _ = false

abbrev pub is_in_section : ℕ → Option ℕ → Bool
is_in_section section None = false
is_in_section section (Some s) = s == section

-- the symbols of a section, in order
unfoldable pub section_symbols : List SymbolValue → ℕ → List SymbolValue
section_symbols symbols section = filter (λ y. is_in_section section y.section_index) symbols

-- ---- the symbols of a file, with their names

-- a symbol of a file; its name is empty where it can't be read
unfoldable pub symbol_of : SymbolOf → SymbolValue
symbol_of s = record {
  index = s.index;
  section_index = symbol_section_index (entry s);
  name = unwrap_or (symbol_name s) [];
  address = (entry s).st_value;
  size = (entry s).st_size;
  kind = symbol_kind (entry s);
  is_definition = is_definition (entry s);
  is_weak = is_weak (entry s);
}

-- the symbols of a file by index
abbrev pub file_symbols : List ℕ → List SymbolValue
file_symbols bytes = map symbol_of (symbols bytes)

-- a name that can't be read
abbrev pub symbol_fault : SymbolOf → Option ParseError
symbol_fault s = if is_some (symbol_name s) then None else Some (BtfError InvalidSymbolName)

-- the first symbol by index whose name can't be read
abbrev pub symbols_fault : List ℕ → Option ParseError
symbols_fault bytes = first_some symbol_fault (symbols bytes)

-- what an object keeps of a symbol, by its index
abbrev pub symbol_entry : SymbolValue → ℕ × Symbol
symbol_entry y = (
  y.index,
  record {
    index = y.index;
    section_index = y.section_index;
    name = Some y.name;
    address = y.address;
    size = y.size;
    kind = y.kind;
    is_definition = y.is_definition;
    is_weak = y.is_weak;
  },
)

-- the symbols of an object, by index
abbrev pub symbol_table : List SymbolValue → FinMap nat_cmp Symbol
symbol_table symbols = put_all empty (map symbol_entry symbols)

-- ---- symbols by their names

abbrev pub name_and_index : SymbolValue → List ℕ × ℕ
name_and_index y = (y.name, y.index)

-- the index of the last symbol of each name
abbrev pub symbol_indices_by_name : List SymbolValue → FinMap text_cmp ℕ
symbol_indices_by_name symbols = put_all empty (map name_and_index symbols)

-- whether the first symbol of a name is weak
abbrev pub weak_named : List SymbolValue → List ℕ → Option Bool
weak_named symbols name =
    option_map (λ y. y.is_weak) (find (λ y. eq_by_cmp text_cmp name y.name) symbols)

-- the names of symbols
abbrev pub names_of : List SymbolValue → List (List ℕ)
names_of symbols = map (λ y. y.name) symbols
