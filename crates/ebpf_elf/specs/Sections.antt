-- The sections of a file by index, with their names and data (ELF-64 gABI, 'Sections').
use Rattle.std.specs.Prelude.{ℕ, ◌-◌, not, ◌&&◌, List, [], ◌∷◌, map, Option, ◌==◌, if◌then◌else◌}
use Rattle.std.specs.List.{range_with_len}
use Rattle.ebpf_base.specs.Faults.{Row}
use Rattle.ebpf_elf.specs.declared.constants.TheConstants.{SHT_NOBITS}
use Rattle.ebpf_elf.specs.declared.error.ElfReadError.{ElfReadError}
use Rattle.ebpf_elf.specs.declared.error.ElfReadError.TheVariants.{BadSectionRange}
use Rattle.ebpf_elf.specs.declared.header.SectionHeader.{SectionHeader}
use Rattle.ebpf_elf.specs.Headers.{section, section_indices, is_inside, range_of}
use Rattle.ebpf_elf.specs.Names.{section_names, string_table_name}

-- a section, by its index in a file
pub record SectionOf : Type 0 where
  pub file : List ℕ
  pub index : ℕ

-- the header of a section
abbrev pub header : SectionOf → SectionHeader
header s = section s.file s.index

-- the sections of a file, in order
abbrev pub sections : List ℕ → List SectionOf
sections bytes = map (λ i. record { file = bytes; index = i }) (section_indices bytes)

-- the sections from index a up to n
abbrev pub sections_from : List ℕ → ℕ → ℕ → List SectionOf
sections_from bytes a n = map (λ i. record { file = bytes; index = i }) (range_with_len a (n - a))

-- the name of a section; none where it cannot be read
unfoldable pub section_name : SectionOf → Option (List ℕ)
section_name s = string_table_name (section_names s.file) (header s).sh_name

-- a section of type NOBITS occupies no space in the file, whatever its size
unfoldable pub data_faults : SectionOf → List (Row ElfReadError)
data_faults s = (
  not ((header s).sh_type == SHT_NOBITS)
      && not (is_inside s.file (header s).sh_offset (header s).sh_size),
  BadSectionRange,
)
    ∷ []

unfoldable pub data_of : SectionOf → List ℕ
data_of s = if (header s).sh_type == SHT_NOBITS then [] else range_of s.file (header s)
