-- The relocations of a section: the entries, in order, of the sections of relocations whose target
-- it is (ELF-64 gABI, 'Relocation').
use Rattle.std.specs.Prelude.{ℕ, ◌+◌, ◌-◌, ◌*◌, ◌/◌, ◌%◌, ◌^◌, Bool, not, ◌&&◌, ◌||◌, List, [], map}
use Rattle.std.specs.Prelude.{filter, Option, Some, None, nat_lt, ◌==◌, if◌then◌else◌}
use Rattle.std.specs.List.{flat_map, range_with_len}
use Rattle.ebpf_base.specs.declared.endianness.Endianness.{Endianness}
use Rattle.ebpf_base.specs.Numbers.{number_at}
use Rattle.ebpf_elf.specs.declared.constants.TheConstants.{R_BPF_64_64, R_BPF_64_32, SHT_REL}
use Rattle.ebpf_elf.specs.declared.constants.TheConstants.{SHT_RELA}
use Rattle.ebpf_elf.specs.declared.relocation.ElfRelocation.{ElfRelocation}
use Rattle.ebpf_elf.specs.declared.relocation.EntryExtent.{EntryExtent}
use Rattle.ebpf_elf.specs.Headers.{ei_data, section, section_count, is_inside}
use Rattle.ebpf_elf.specs.Symbols.{symbol_table_section}
use Rattle.ebpf_elf.specs.Sections.{SectionOf, header, sections, sections_from}

-- the size of an entry, by the type of its section: Elf64_Rel has 16 bytes, Elf64_Rela 24
abbrev pub relocation_size : ℕ → ℕ
relocation_size kind = if kind == SHT_REL then 16 else 24

-- The section j holds relocations against the symbol table in the section i: its type is REL or
-- RELA, its link is i, and its info is the section that is patched (0, at dynamic relocations, is
-- none).
unfoldable pub holds_relocations : List ℕ → ℕ → ℕ → Bool
holds_relocations bytes i j =
    ((section bytes j).sh_type == SHT_REL || (section bytes j).sh_type == SHT_RELA)
    && not ((section bytes j).sh_info == 0) && (section bytes j).sh_link == i

unfoldable pub is_bad_relocation_table : List ℕ → ℕ → Bool
is_bad_relocation_table bytes j =
    not (nat_lt (section bytes j).sh_info (section_count bytes))
    || not ((section bytes j).sh_size % relocation_size (section bytes j).sh_type == 0)
    || not (is_inside bytes (section bytes j).sh_offset (section bytes j).sh_size)

-- the size in bits of the field that a BPF relocation type patches
abbrev pub size_of_type : ℕ → ℕ
size_of_type kind = if kind == R_BPF_64_64 then 64 else (if kind == R_BPF_64_32 then 32 else 0)

-- an entry: r_offset, then r_info with the symbol in its high half and the type in its low half
unfoldable pub relocation_at : Endianness → List ℕ → ℕ → ElfRelocation
relocation_at order bytes offset = record {
  offset = number_at order 8 bytes offset;
  size = size_of_type (number_at order 8 bytes (offset + 8) % 2 ^ 32);
  symbol_index = number_at order 8 bytes (offset + 8) / 2 ^ 32;
}

-- the sections with relocations against the symbol table, in order; there are none without one
abbrev pub relocation_sections_in : List ℕ → Option ℕ → List SectionOf
relocation_sections_in bytes None = []
relocation_sections_in bytes (Some t) =
    filter (λ s. holds_relocations s.file t s.index) (sections bytes)

-- the sections of relocations from index a up to n
abbrev pub relocation_sections_from : List ℕ → ℕ → ℕ → ℕ → List SectionOf
relocation_sections_from bytes t a n =
    filter (λ s. holds_relocations s.file t s.index) (sections_from bytes a n)

abbrev pub relocation_sections : List ℕ → List SectionOf
relocation_sections bytes = relocation_sections_in bytes (symbol_table_section bytes)

-- sh_info, the index of the section that the entries patch
abbrev pub relocated_section : SectionOf → ℕ
relocated_section s = (header s).sh_info

-- the entries of a section of relocations, by index
abbrev pub entry_count : SectionOf → ℕ
entry_count s = (header s).sh_size / relocation_size (header s).sh_type

-- the position of the entries in the file
abbrev pub extent_of : SectionOf → EntryExtent
extent_of s =
    record {
      offset = (header s).sh_offset;
      entry_size = relocation_size (header s).sh_type;
      count = entry_count s;
    }

unfoldable pub table_entry : SectionOf → ℕ → ElfRelocation
table_entry s k =
    relocation_at (ei_data s.file) s.file
    ((header s).sh_offset + relocation_size (header s).sh_type * k)

abbrev pub table_entries : SectionOf → List ElfRelocation
table_entries s = map (λ k. table_entry s k) (range_with_len 0 (entry_count s))

-- the entries from index a up to n
abbrev pub table_entries_from : SectionOf → ℕ → ℕ → List ElfRelocation
table_entries_from s a n = map (λ k. table_entry s k) (range_with_len a (n - a))

-- the entries of those sections whose target is the section i
abbrev pub entries_for : ℕ → List SectionOf → List ElfRelocation
entries_for i tables = flat_map table_entries (filter (λ r. relocated_section r == i) tables)

-- the relocations of a section, in order
abbrev pub relocations : SectionOf → List ElfRelocation
relocations s = entries_for s.index (relocation_sections s.file)
