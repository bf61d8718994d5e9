-- The inputs of the words of DATASECs, the offset of each type among the bytes, and symbols by
-- binding, type and visibility (ELF-64 gABI, 'Symbol Table': st_info, st_other).
use Rattle.std.specs.Prelude.{ℕ, nat_le, List, [], ◌∷◌, length, slice_get, unwrap_or, if◌then◌else◌}
use Rattle.std.specs.Prelude.{◌+◌, Option, Some, None, Result, Ok, Err, ◌*◌, ◌/◌, ◌%◌, Bool, false}
use Rattle.std.specs.Prelude.{◌&&◌, ◌||◌, ◌==◌, nat_lt, slice_index, is_none}
use Rattle.std.specs.List.{find}
use Rattle.std.specs.Option.{option_map_or}
use Rattle.ebpf_base.specs.declared.endianness.Endianness.{Endianness}
use Rattle.ebpf_btf.specs.Format.{end_of}
use Rattle.ebpf_btf.specs.TypeInfo.{TypeInfo}
use Rattle.ebpf_btf.specs.Types.{kind_of}
use Rattle.ebpf_btf.specs.declared.kind.BtfKind.{BtfKind}
use Rattle.ebpf_btf.specs.declared.types.BtfType.{BtfType}
use Rattle.ebpf_base.specs.Faults.{first_of}
use Rattle.ebpf_btf.specs.Strings.{is_text, text_at}
use Rattle.ebpf_elf.specs.Sections.{SectionOf, header, sections, data_faults, data_of}
use Rattle.ebpf_elf.specs.Symbols.{SymbolOf, symbols, symbol_name}
use Rattle.ebpf_btf.specs.declared.kind.BtfKind.TheVariants as kinds
use Rattle.ebpf_btf_load.specs.declared.error.KernelTypesError.{KernelTypesError}
use Rattle.ebpf_btf_load.specs.declared.sections.Sources.{Sources}

-- ---- the inputs of the words of sections, and the offsets of types among the bytes

-- ---- the offset of each type among the bytes of types

-- the end of a type of a kind that begins at an offset; its beginning if it has no bytes, as void,
-- or passes the end of the bytes
unfoldable pub type_end : Endianness → List ℕ → ℕ → BtfKind → ℕ
type_end o part offset kinds.Unknown = offset
type_end o part offset kind =
    if nat_le (end_of o part offset kind) (length part) then end_of o part offset kind else offset

-- the offsets of consecutive types, the first at this offset
abbrev pub type_starts : Endianness → List ℕ → ℕ → List BtfType → List ℕ
type_starts o part offset [] = []
type_starts o part offset (t ∷ ts) =
    offset ∷ type_starts o part (type_end o part offset (kind_of t)) ts

-- the offset of the type with an id
abbrev pub start_of : List ℕ → ℕ → ℕ
start_of starts id = unwrap_or (slice_get starts id) 0

-- ---- the inputs of the words of sections

pub record TypeSources : Type 0 where
  -- the byte order of the types
  pub order : Endianness
  -- the bytes of the types
  pub part : List ℕ
  pub types : TypeInfo
  -- the offset of each type
  pub starts : List ℕ
  -- the file
  pub file : List ℕ
  -- the entries of the file's symbols
  pub table : List ℕ

-- the offset so many bytes behind the start of the type with an id
abbrev pub place_in : TypeSources → ℕ → ℕ → ℕ
place_in g id within = start_of g.starts id + within

-- the value that was found, or the default at a fault
abbrev pub found_or_none : {X : Type 0} → Result X KernelTypesError → List X
found_or_none (Ok x) = x ∷ []
found_or_none (Err e) = []

-- the list that was found, or the empty list at a fault
abbrev pub list_or_none : {X : Type 0} → Result (List X) KernelTypesError → List X
list_or_none (Ok xs) = xs
list_or_none (Err e) = []

-- an answer, unless there is a fault
abbrev pub if_no_fault : {X : Type 0} → Option KernelTypesError → Result X KernelTypesError
    → Result X KernelTypesError
if_no_fault None answer = answer
if_no_fault (Some e) answer = Err e

-- ---- definitions for contracts of private functions alone

abbrev pub given_of : Sources → TypeSources
given_of s =
    record {
      order = s.order;
      part = s.part.now;
      types = s.types.now;
      starts = s.starts.now;
      file = s.file.now;
      table = s.table.now;
    }

-- ---- symbols by binding, type and visibility (ELF-64 gABI, 'Symbol Table': st_info, st_other).

-- SHT_SYMTAB
abbrev pub is_symbol_table : SectionOf → Bool
is_symbol_table s = (header s).sh_type == 2

-- the bytes of a section, none where they run past the end of the file
abbrev pub entry_bytes : SectionOf → List ℕ
entry_bytes s = if is_none (first_of (data_faults s)) then data_of s else []

-- the entries of the symbols, 24 bytes each
abbrev pub symbol_table_bytes : List ℕ → List ℕ
symbol_table_bytes file =
    option_map_or entry_bytes (find (λ s. is_symbol_table s) (sections file)) []

-- a byte of a symbol's entry
unfoldable pub symbol_byte : List ℕ → ℕ → ℕ → ℕ
symbol_byte table index within =
    if nat_lt index (length table / 24) then slice_index table (24 * index + within) else 0

-- STB_GLOBAL or STB_WEAK, in the high half of st_info
abbrev pub is_bound : List ℕ → SymbolOf → Bool
is_bound table s = symbol_byte table s.index 4 / 16 == 1 || symbol_byte table s.index 4 / 16 == 2

-- STV_INTERNAL or STV_HIDDEN, in the two low bits of st_other
abbrev pub is_hidden : List ℕ → SymbolOf → Bool
is_hidden table s = symbol_byte table s.index 5 % 4 == 1 || symbol_byte table s.index 5 % 4 == 2

-- STT_OBJECT, in the low half of st_info
abbrev pub is_object_symbol : List ℕ → SymbolOf → Bool
is_object_symbol table s = symbol_byte table s.index 4 % 16 == 1 && is_bound table s

-- STT_FUNC
abbrev pub is_function_symbol : List ℕ → SymbolOf → Bool
is_function_symbol table s = symbol_byte table s.index 4 % 16 == 2 && is_bound table s

-- whether a name that can be read is the text at an offset of the strings
abbrev pub is_btf_name : List ℕ → ℕ → Option (List ℕ) → Bool
is_btf_name strings offset None = false
is_btf_name strings offset (Some name) = is_text name (text_at strings offset)

abbrev pub has_btf_name : List ℕ → ℕ → SymbolOf → Bool
has_btf_name strings offset s = is_btf_name strings offset (symbol_name s)

abbrev pub is_variable_symbol : List ℕ → List ℕ → ℕ → SymbolOf → Bool
is_variable_symbol table strings offset s =
    is_object_symbol table s && has_btf_name strings offset s

-- the first symbol of a variable with the name at an offset of the strings (libbpf 1.5, libbpf.c:
-- find_elf_var_sym)
abbrev pub variable_symbol : List ℕ → List ℕ → List ℕ → ℕ → Option SymbolOf
variable_symbol file table strings offset =
    find (λ s. is_variable_symbol table strings offset s) (symbols file)
