-- The symbols of a file: the entries of its first symbol table from index 1 on (ELF-64 gABI,
-- 'Symbol Table').
use Rattle.std.specs.Prelude.{ℕ, ◌+◌, ◌-◌, ◌*◌, ◌/◌, ◌%◌, Bool, not, ◌&&◌, ◌||◌, List, [], map}
use Rattle.std.specs.Prelude.{Option, Some, None, nat_le, ◌==◌, if◌then◌else◌}
use Rattle.std.specs.List.{find, range_with_len}
use Rattle.ebpf_base.specs.declared.endianness.Endianness.{Endianness}
use Rattle.ebpf_base.specs.Numbers.{number_at}
use Rattle.ebpf_elf.specs.declared.constants.TheConstants.{SHN_LORESERVE, SHT_SYMTAB, STT_NOTYPE}
use Rattle.ebpf_elf.specs.declared.constants.TheConstants.{STT_OBJECT, STT_FUNC, STT_SECTION}
use Rattle.ebpf_elf.specs.declared.constants.TheConstants.{STT_FILE, STT_COMMON, STT_TLS}
use Rattle.ebpf_elf.specs.declared.constants.TheConstants.{STT_GNU_IFUNC, STB_WEAK}
use Rattle.ebpf_elf.specs.declared.symbol.SymbolKind.{SymbolKind}
use Rattle.ebpf_elf.specs.declared.symbol.SymbolKind.TheVariants.{Unknown, Text, Data, Section}
use Rattle.ebpf_elf.specs.declared.symbol.SymbolKind.TheVariants.{File, Tls}
use Rattle.ebpf_elf.specs.declared.symbol.SymbolEntry.{SymbolEntry}
use Rattle.ebpf_elf.specs.Headers.{ei_data, section, section_indices, range_of}
use Rattle.ebpf_elf.specs.Names.{string_table_name}

-- the first section of type SYMTAB
unfoldable pub symbol_table_section : List ℕ → Option ℕ
symbol_table_section bytes =
    find (λ i. (section bytes i).sh_type == SHT_SYMTAB) (section_indices bytes)

-- the offset of a symbol's entry in the table i: each entry has 24 bytes
abbrev pub symbol_offset : List ℕ → ℕ → ℕ → ℕ
symbol_offset bytes i k = (section bytes i).sh_offset + 24 * k

abbrev pub symbol_count : List ℕ → ℕ → ℕ
symbol_count bytes i = (section bytes i).sh_size / 24

-- the indices of the symbols of the table i; index 0 (STN_UNDEF) is no symbol
abbrev pub symbol_table_indices : List ℕ → ℕ → List ℕ
symbol_table_indices bytes i = range_with_len 1 (symbol_count bytes i - 1)

-- st_shndx, the section index of a symbol
unfoldable pub st_shndx_at : List ℕ → ℕ → ℕ → ℕ
st_shndx_at bytes i k = number_at (ei_data bytes) 2 bytes (symbol_offset bytes i k + 6)

-- an entry of 24 bytes (Elf64_Sym)
unfoldable pub symbol_at : Endianness → List ℕ → ℕ → SymbolEntry
symbol_at order bytes offset = record {
  st_name = number_at order 4 bytes offset;
  st_info = number_at order 1 bytes (offset + 4);
  st_shndx = number_at order 2 bytes (offset + 6);
  st_value = number_at order 8 bytes (offset + 8);
  st_size = number_at order 8 bytes (offset + 16);
}

-- a symbol, by its index in the symbol table of a file
pub record SymbolOf : Type 0 where
  pub file : List ℕ
  pub table : ℕ
  pub index : ℕ

-- the entry of a symbol
unfoldable pub entry : SymbolOf → SymbolEntry
entry s = symbol_at (ei_data s.file) s.file (symbol_offset s.file s.table s.index)

-- the symbols of a file, in order; there are none without a symbol table
abbrev pub symbols_in : List ℕ → Option ℕ → List SymbolOf
symbols_in bytes None = []
symbols_in bytes (Some t) =
    map (λ k. record { file = bytes; table = t; index = k }) (symbol_table_indices bytes t)

-- the symbols of a table from index a up to n
abbrev pub symbols_from : List ℕ → ℕ → ℕ → ℕ → List SymbolOf
symbols_from bytes t a n =
    map (λ k. record { file = bytes; table = t; index = k }) (range_with_len a (n - a))

abbrev pub symbols : List ℕ → List SymbolOf
symbols bytes = symbols_in bytes (symbol_table_section bytes)

-- the name of a symbol, in the string table that is the link of the symbol table; none where the
-- name cannot be read
abbrev pub symbol_names : SymbolOf → List ℕ
symbol_names s = range_of s.file (section s.file (section s.file s.table).sh_link)

unfoldable pub symbol_name : SymbolOf → Option (List ℕ)
symbol_name s = string_table_name (symbol_names s) (entry s).st_name

-- st_info: the type is the low four bits, the binding the high four
abbrev pub st_type : SymbolEntry → ℕ
st_type e = e.st_info % 16

abbrev pub st_bind : SymbolEntry → ℕ
st_bind e = e.st_info / 16

unfoldable pub symbol_kind : SymbolEntry → SymbolKind
symbol_kind e =
    if st_type e == STT_OBJECT || st_type e == STT_COMMON then Data else
    (if st_type e == STT_FUNC || st_type e == STT_GNU_IFUNC then Text else
    (if st_type e == STT_SECTION then Section else
    (if st_type e == STT_FILE then File else
    (if st_type e == STT_TLS then Tls else Unknown))))

-- index 0 (SHN_UNDEF) and the reserved indices, from SHN_LORESERVE on, are no section
unfoldable pub symbol_section_index : SymbolEntry → Option ℕ
symbol_section_index e =
    if e.st_shndx == 0 || nat_le SHN_LORESERVE e.st_shndx then None else Some e.st_shndx

-- A definition is a function, an object or a symbol with a size, and is not undefined.
-- A symbol with a reserved section index, such as an absolute symbol, is a definition too.
unfoldable pub is_definition : SymbolEntry → Bool
is_definition e =
    not (e.st_shndx == 0)
    && (st_type e == STT_FUNC
    || st_type e == STT_OBJECT
    || (st_type e == STT_NOTYPE && not (e.st_size == 0)))

unfoldable pub is_weak : SymbolEntry → Bool
is_weak e = st_bind e == STB_WEAK
