-- The fields of the file header, and the header of each section by its index (ELF-64 gABI, 'ELF
-- Header' and 'Sections').
use Rattle.std.specs.Prelude.{ℕ, ◌+◌, ◌-◌, ◌*◌, Bool, ◌||◌, List, length, nat_le, ◌==◌}
use Rattle.std.specs.Prelude.{if◌then◌else◌, slice_index, slice_range}
use Rattle.std.specs.List.{range_with_len}
use Rattle.ebpf_base.specs.declared.endianness.Endianness.{Endianness}
use Rattle.ebpf_base.specs.declared.endianness.Endianness.TheVariants.{Little, Big}
use Rattle.ebpf_base.specs.Numbers.{number_at}
use Rattle.ebpf_elf.specs.declared.constants.TheConstants.{ELFDATA2MSB}
use Rattle.ebpf_elf.specs.declared.header.SectionHeader.{SectionHeader}

-- EI_DATA, the byte at 5
unfoldable pub ei_data : List ℕ → Endianness
ei_data bytes = if slice_index bytes 5 == ELFDATA2MSB then Big else Little

-- e_machine, the machine of the file
unfoldable pub e_machine : List ℕ → ℕ
e_machine bytes = number_at (ei_data bytes) 2 bytes 18

-- e_shoff, the offset of the section headers; 0 where there are none
unfoldable pub e_shoff : List ℕ → ℕ
e_shoff bytes = number_at (ei_data bytes) 8 bytes 40

-- e_shentsize, the size of a section header
unfoldable pub e_shentsize : List ℕ → ℕ
e_shentsize bytes = number_at (ei_data bytes) 2 bytes 58

-- e_shnum, the number of section headers
unfoldable pub e_shnum : List ℕ → ℕ
e_shnum bytes = number_at (ei_data bytes) 2 bytes 60

-- e_shstrndx, the section with the names of the sections; 0 where there are no names
unfoldable pub e_shstrndx : List ℕ → ℕ
e_shstrndx bytes = number_at (ei_data bytes) 2 bytes 62

abbrev pub section_count : List ℕ → ℕ
section_count bytes = if e_shoff bytes == 0 then 0 else e_shnum bytes

-- a section header of 64 bytes (Elf64_Shdr); sh_addralign and sh_entsize, the last 16 bytes, are
-- not read
unfoldable pub header_at : Endianness → List ℕ → ℕ → SectionHeader
header_at order bytes offset = record {
  sh_name = number_at order 4 bytes offset;
  sh_type = number_at order 4 bytes (offset + 4);
  sh_flags = number_at order 8 bytes (offset + 8);
  sh_addr = number_at order 8 bytes (offset + 16);
  sh_offset = number_at order 8 bytes (offset + 24);
  sh_size = number_at order 8 bytes (offset + 32);
  sh_link = number_at order 4 bytes (offset + 40);
  sh_info = number_at order 4 bytes (offset + 44);
}

-- the header of a section, by its index
unfoldable pub section : List ℕ → ℕ → SectionHeader
section bytes i = header_at (ei_data bytes) bytes (e_shoff bytes + 64 * i)

-- the indices of the sections; index 0 (SHN_UNDEF) is no section
abbrev pub section_indices : List ℕ → List ℕ
section_indices bytes = range_with_len 1 (section_count bytes - 1)

-- a range of the file; one of size 0 is always inside
abbrev pub is_inside : List ℕ → ℕ → ℕ → Bool
is_inside bytes offset size = size == 0 || nat_le (offset + size) (length bytes)

-- the bytes from a section's offset on, as many as its size
abbrev pub range_of : List ℕ → SectionHeader → List ℕ
range_of bytes s = slice_range bytes s.sh_offset (s.sh_offset + s.sh_size)
