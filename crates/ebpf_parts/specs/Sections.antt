-- The kind of a section by its name and its header, and its first fault (libbpf's section names,
-- and ELF-64 gABI, 'Sections').
use Rattle.std.specs.Prelude.{ℕ, Bool, not, ◌&&◌, List, [], ◌∷◌, Option, Some, None, ◌==◌, nat_eq}
use Rattle.std.specs.Prelude.{bit_and, if◌then◌else◌, codes, unwrap_or, is_some, option_map}
use Rattle.std.specs.List.{starts_with, list_any}
use Rattle.std.specs.Str.{bytes_eq}
use Rattle.ebpf_base.specs.Faults.{first_of, or_else}
use Rattle.ebpf_elf.specs.Relocations.{relocations}
use Rattle.ebpf_elf.specs.Sections.{SectionOf, header, section_name, data_faults, data_of}
use Rattle.ebpf_elf.specs.declared.constants.TheConstants.{SHF_ALLOC, SHF_EXECINSTR, SHT_PROGBITS}
use Rattle.ebpf_elf.specs.declared.error.ElfReadError.TheVariants.{BadStringTable}
use Rattle.ebpf_elf.specs.declared.header.SectionHeader.{SectionHeader}
use Rattle.ebpf_elf.specs.declared.relocation.ElfRelocation.{ElfRelocation}
use Rattle.ebpf_elf.specs.declared.section.SectionIndex.{SectionIndex}
use Rattle.ebpf_parts.specs.declared.error.ParseError.{ParseError}
use Rattle.ebpf_parts.specs.declared.error.ParseError.TheVariants.{SectionError}
use Rattle.ebpf_parts.specs.declared.error.ParseError.TheVariants.{UnsupportedRelocationTarget}
use Rattle.ebpf_parts.specs.declared.section.EbpfSectionKind.{EbpfSectionKind}
use Rattle.ebpf_parts.specs.declared.section.EbpfSectionKind.TheVariants.{Undefined, Maps, BtfMaps}
use Rattle.ebpf_parts.specs.declared.section.EbpfSectionKind.TheVariants.{Program, Data, Rodata}
use Rattle.ebpf_parts.specs.declared.section.EbpfSectionKind.TheVariants.{Bss, Text, Btf, BtfExt}
use Rattle.ebpf_parts.specs.declared.section.EbpfSectionKind.TheVariants.{License, Version}

-- a name that begins with a prefix
abbrev pub begins_with : List ℕ → List ℕ → Bool
begins_with prefix name = starts_with nat_eq name prefix

-- the kinds that names say: the first that fits
unfoldable pub named_kinds : List ℕ → List (Bool × EbpfSectionKind)
named_kinds name =
    (begins_with (codes "license") name, License)
    ∷ (begins_with (codes "version") name, Version)
    ∷ (begins_with (codes "maps") name, Maps)
    ∷ (begins_with (codes ".maps") name, BtfMaps)
    ∷ (begins_with (codes ".text") name, Text)
    ∷ (begins_with (codes ".bss") name, Bss)
    ∷ (begins_with (codes ".data") name, Data)
    ∷ (begins_with (codes ".rodata") name, Rodata)
    ∷ (bytes_eq name (codes ".BTF"), Btf)
    ∷ (bytes_eq name (codes ".BTF.ext"), BtfExt)
    ∷ []

-- a section of instructions: PROGBITS with the flags ALLOC and EXECINSTR, and not empty
abbrev pub is_code : SectionHeader → Bool
is_code h =
    h.sh_type == SHT_PROGBITS
    && not (bit_and h.sh_flags SHF_ALLOC == 0)
    && not (bit_and h.sh_flags SHF_EXECINSTR == 0)
    && not (h.sh_size == 0)

abbrev pub kind_or : Bool → Option EbpfSectionKind → EbpfSectionKind
kind_or code (Some kind) = kind
kind_or code None = if code then Program else Undefined

abbrev pub kind_of_section : List ℕ → SectionHeader → EbpfSectionKind
kind_of_section name h = kind_or (is_code h) (first_of (named_kinds name))

-- ---- sections, as they are parsed

-- a section, with its name, data and relocations as lists
pub record SectionValue : Type 0 where
  pub index : SectionIndex
  pub kind : EbpfSectionKind
  pub address : ℕ
  pub name : List ℕ
  pub bytes : List ℕ
  pub size : ℕ
  pub relocations : List ElfRelocation

-- the name, empty where it can't be read
abbrev pub name_or_empty : SectionOf → List ℕ
name_or_empty s = unwrap_or (section_name s) []

-- a section of a file, with these relocations
unfoldable pub section_with : List ElfRelocation → SectionOf → SectionValue
section_with list s = record {
  index = record { 0 = s.index };
  kind = kind_of_section (name_or_empty s) (header s);
  address = (header s).sh_addr;
  name = name_or_empty s;
  bytes = data_of s;
  size = (header s).sh_size;
  relocations = list;
}

-- with its own
unfoldable pub section_of : SectionOf → SectionValue
section_of s = section_with (relocations s) s

-- a name that can't be read
abbrev pub section_name_fault : SectionOf → Option ParseError
section_name_fault s =
    if is_some (section_name s) then None else Some (SectionError s.index BadStringTable)

-- data outside the file
abbrev pub data_fault : SectionOf → Option ParseError
data_fault s = option_map (SectionError s.index) (first_of (data_faults s))

-- a relocation against symbol 0
abbrev pub target_fault : List ElfRelocation → Option ParseError
target_fault list =
    if list_any (λ r. r.symbol_index == 0) list then Some UnsupportedRelocationTarget else None

-- why a section can't be read, in this order
unfoldable pub section_fault_with : List ElfRelocation → SectionOf → Option ParseError
section_fault_with list s =
    or_else (section_name_fault s) (or_else (data_fault s) (target_fault list))

unfoldable pub section_fault : SectionOf → Option ParseError
section_fault s = section_fault_with (relocations s) s
