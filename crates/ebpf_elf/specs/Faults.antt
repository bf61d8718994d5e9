-- The faults of a file, in the order in which `ElfFile::parse` looks for them; the first one is the
-- error (ELF-64 gABI).
use Rattle.std.specs.Prelude.{ℕ, ◌+◌, ◌*◌, ◌%◌, not, ◌&&◌, ◌||◌, List, [], ◌∷◌, length, Option}
use Rattle.std.specs.Prelude.{Some, None, nat_lt, nat_eq, ◌==◌, if◌then◌else◌, slice_index}
use Rattle.std.specs.List.{list_any, starts_with}
use Rattle.ebpf_base.specs.Faults.{Row}
use Rattle.ebpf_elf.specs.declared.constants.TheConstants.{MAGIC, ELFCLASS64, ELFDATA2LSB}
use Rattle.ebpf_elf.specs.declared.constants.TheConstants.{ELFDATA2MSB, SHN_XINDEX}
use Rattle.ebpf_elf.specs.declared.error.ElfReadError.{ElfReadError}
use Rattle.ebpf_elf.specs.declared.error.ElfReadError.TheVariants.{TooShort, BadMagic, NotElf64}
use Rattle.ebpf_elf.specs.declared.error.ElfReadError.TheVariants.{BadByteOrder, BadSectionTable}
use Rattle.ebpf_elf.specs.declared.error.ElfReadError.TheVariants.{BadStringTable, BadSymbolTable}
use Rattle.ebpf_elf.specs.declared.error.ElfReadError.TheVariants.{BadRelocationTable}
use Rattle.ebpf_elf.specs.declared.error.ElfReadError.TheVariants.{ExtendedNumbering}
use Rattle.ebpf_elf.specs.Headers.{e_shoff, e_shentsize, e_shnum, e_shstrndx, section}
use Rattle.ebpf_elf.specs.Headers.{section_indices, is_inside}
use Rattle.ebpf_elf.specs.Names.{is_string_table}
use Rattle.ebpf_elf.specs.Symbols.{symbol_table_section, st_shndx_at, symbol_table_indices}
use Rattle.ebpf_elf.specs.Relocations.{holds_relocations, is_bad_relocation_table}

-- the file's header: its size, EI_MAG0 to EI_MAG3, EI_CLASS and EI_DATA ('ELF Identification')
unfoldable pub identity_faults : List ℕ → List (Row ElfReadError)
identity_faults bytes =
    (nat_lt (length bytes) 64, TooShort)
    ∷ (not (starts_with nat_eq bytes MAGIC), BadMagic)
    ∷ (not (slice_index bytes 4 == ELFCLASS64), NotElf64)
    ∷ (not (slice_index bytes 5 == ELFDATA2LSB || slice_index bytes 5 == ELFDATA2MSB), BadByteOrder)
    ∷ []

-- the table of section headers ('ELF Header'; with a count of 0 or names at SHN_XINDEX, section 0
-- has the numbers)
unfoldable pub table_faults : List ℕ → List (Row ElfReadError)
table_faults bytes =
    (e_shnum bytes == 0 || e_shstrndx bytes == SHN_XINDEX, ExtendedNumbering)
    ∷ (
      not (e_shentsize bytes == 64)
          || nat_lt (length bytes) (e_shoff bytes + 64 * e_shnum bytes),
      BadSectionTable,
    )
    ∷ []

-- the string table of the section names
unfoldable pub names_faults : List ℕ → List (Row ElfReadError)
names_faults bytes =
    (not (e_shstrndx bytes == 0) && not (is_string_table bytes (e_shstrndx bytes)), BadStringTable)
    ∷ []

-- the symbol table in the section i, and the string table that is its link ('Symbol Table')
unfoldable pub symbol_faults : List ℕ → ℕ → List (Row ElfReadError)
symbol_faults bytes i = (
  not ((section bytes i).sh_size % 24 == 0)
      || not (is_inside bytes (section bytes i).sh_offset (section bytes i).sh_size),
  BadSymbolTable,
)
    ∷ (not (is_string_table bytes (section bytes i).sh_link), BadStringTable)
    ∷ []

-- a symbol whose section index is stored elsewhere (SHN_XINDEX)
unfoldable pub xindex_faults : List ℕ → ℕ → List (Row ElfReadError)
xindex_faults bytes i = (
  list_any (λ k. st_shndx_at bytes i k == SHN_XINDEX) (symbol_table_indices bytes i),
  ExtendedNumbering,
)
    ∷ []

-- the relocations against the symbol table ('Relocation')
unfoldable pub relocation_faults : List ℕ → ℕ → List (Row ElfReadError)
relocation_faults bytes i = (
  list_any (λ j. holds_relocations bytes i j && is_bad_relocation_table bytes j)
      (section_indices bytes),
  BadRelocationTable,
)
    ∷ []

-- the faults of the symbol table; none without one
abbrev pub symbol_table_faults : List ℕ → Option ℕ → List (List (Row ElfReadError))
symbol_table_faults bytes None = []
symbol_table_faults bytes (Some i) =
    symbol_faults bytes i ∷ xindex_faults bytes i ∷ relocation_faults bytes i ∷ []

-- with no section headers nothing past the identification is looked at
unfoldable pub faults : List ℕ → List (List (Row ElfReadError))
faults bytes = identity_faults bytes ∷
    (if e_shoff bytes == 0
    then []
    else table_faults bytes
    ∷ names_faults bytes
    ∷ symbol_table_faults bytes (symbol_table_section bytes))
