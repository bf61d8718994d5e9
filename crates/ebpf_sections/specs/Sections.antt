-- The machine of a file, and its sections: by name, those of an object, whether one has code,
-- values by section, and the last of data.
use Rattle.std.specs.BTreeMap.{get, BTreeMap}
use Rattle.std.specs.FinMap.{FinMap, empty}
use Rattle.std.specs.Global.{Vec}
use Rattle.std.specs.List.{find, list_any, flat_map}
use Rattle.std.specs.Ordering.{nat_cmp}
use Rattle.std.specs.Prelude.{ℕ, Bool, not, ◌||◌, List, [], ◌∷◌, Option, Some, None, ◌==◌}
use Rattle.std.specs.Prelude.{if◌then◌else◌, codes, map, filter, true, false, ◌&&◌, ◌≡◌}
use Rattle.ebpf_base.specs.Maps.{put_all, text_cmp}
use Rattle.ebpf_base.specs.declared.endianness.Endianness.{Endianness}
use Rattle.ebpf_base.specs.declared.endianness.Endianness.TheVariants.{Little, Big}
use Rattle.ebpf_elf.specs.Headers.{e_machine, ei_data}
use Rattle.ebpf_elf.specs.Names.{is_name}
use Rattle.ebpf_elf.specs.Relocations.{relocation_sections, relocated_section}
use Rattle.ebpf_elf.specs.Sections.{SectionOf, sections, section_name, header}
use Rattle.ebpf_elf.specs.declared.constants.TheConstants.{EM_BPF, EM_NONE, SHT_NOBITS}
use Rattle.ebpf_elf.specs.declared.relocation.ElfRelocation.{ElfRelocation}
use Rattle.ebpf_elf.specs.declared.section.SectionIndex.{SectionIndex}
use Rattle.ebpf_parts.specs.Sections.{kind_of_section, section_of, SectionValue, name_or_empty}
use Rattle.ebpf_parts.specs.declared.error.ParseError.{ParseError}
use Rattle.ebpf_parts.specs.declared.error.ParseError.TheVariants.{BigEndianCode, OtherMachine}
use Rattle.ebpf_parts.specs.declared.parse_mode.ParseMode.{ParseMode}
use Rattle.ebpf_parts.specs.declared.parse_mode.ParseMode.TheVariants.{Strict, Lenient}
use Rattle.ebpf_parts.specs.declared.section.EbpfSectionKind.{EbpfSectionKind}
use Rattle.ebpf_parts.specs.declared.section.EbpfSectionKind.TheVariants.{Text, Program as Programs}
use Rattle.ebpf_parts.specs.declared.section.EbpfSectionKind.TheVariants.{Data, Rodata, Bss}

-- the first section with a name; names that can't be read are passed over
abbrev pub first_section_named : List ℕ → List ℕ → Option SectionOf
first_section_named name bytes = find (λ s. is_name name (section_name s)) (sections bytes)

-- ---- the sections of an object: all but those of type information

abbrev pub is_type_information : SectionOf → Bool
is_type_information s =
    is_name (codes ".BTF") (section_name s) || is_name (codes ".BTF.ext") (section_name s)

abbrev pub other_sections : List ℕ → List SectionOf
other_sections bytes = filter (λ s. not (is_type_information s)) (sections bytes)

abbrev pub object_sections : List ℕ → List SectionValue
object_sections bytes = map section_of (other_sections bytes)

-- ---- the machine, which lenient parsing checks as libbpf does (bpf_object__elf_init of libbpf.c):
-- an object is for eBPF, or for no machine (EM_NONE), as old versions of clang wrote it

unfoldable pub is_for_ebpf : List ℕ → Bool
is_for_ebpf bytes = e_machine bytes == EM_BPF || e_machine bytes == EM_NONE

abbrev pub machine_fault_as : ParseMode → List ℕ → Option ParseError
machine_fault_as Strict bytes = None
machine_fault_as Lenient bytes =
    if is_for_ebpf bytes then None else Some (OtherMachine (e_machine bytes))

-- ---- code in the big-endian order, which lenient parsing refuses as libbpf does: its slots would
-- come out wrong

abbrev pub is_kind_of_code : EbpfSectionKind → Bool
is_kind_of_code Text = true
is_kind_of_code Programs = true
is_kind_of_code _ = false

-- a section of code has bytes in the file: it is not of kind NOBITS, and states a size
abbrev pub has_code : SectionOf → Bool
has_code s =
    is_kind_of_code (kind_of_section (name_or_empty s) (header s))
    && (not ((header s).sh_type == SHT_NOBITS) && not ((header s).sh_size == 0))

abbrev pub is_big : Endianness → Bool
is_big Big = true
is_big Little = false

unfoldable pub has_big_endian_code : List ℕ → Bool
has_big_endian_code bytes = is_big (ei_data bytes) && list_any has_code (sections bytes)

abbrev pub order_fault_as : ParseMode → List ℕ → Option ParseError
order_fault_as Strict bytes = None
order_fault_as Lenient bytes = if has_big_endian_code bytes then Some BigEndianCode else None

-- ---- values by the section that they belong to

abbrev pub group_items : {X : Type 0} → Option (Vec X) → List X
group_items None = []
group_items (Some v) = v.items

-- the values that a map has of a section
abbrev pub group_at : {X : Type 0} → BTreeMap ℕ (Vec X) → ℕ → List X
group_at m q = group_items (get nat_cmp m q)

-- the sections of relocations of a file by the section that they patch
abbrev pub AreTablesOf : List ℕ → BTreeMap ℕ (Vec SectionOf) → Type 0
AreTablesOf file groups =
    (q : ℕ) → group_at groups q ≡ filter (λ r. relocated_section r == q) (relocation_sections file)

-- ---- sections of data with one name, of which the last one counts

abbrev pub is_data_kind : EbpfSectionKind → Bool
is_data_kind Data = true
is_data_kind Rodata = true
is_data_kind Bss = true
is_data_kind _ = false

-- the index of a section of data, by its name
abbrev pub data_row : SectionValue → List (List ℕ × ℕ)
data_row s = if is_data_kind s.kind then (s.name, s.index.0) ∷ [] else []

-- the index of the last section of data of each name
abbrev pub last_data : List SectionValue → FinMap text_cmp ℕ
last_data sections = put_all empty (flat_map data_row sections)

abbrev pub is_index : ℕ → Option ℕ → Bool
is_index i None = true
is_index i (Some j) = i == j

-- the section's index, by its name
abbrev pub section_info_entry : SectionValue → List (List ℕ × SectionIndex)
section_info_entry s = (s.name, s.index) ∷ []

-- a section with these relocations
abbrev pub with_relocations : List ElfRelocation → SectionValue → SectionValue
with_relocations list s = record s { relocations = list }
