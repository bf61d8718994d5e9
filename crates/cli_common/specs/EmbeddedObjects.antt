-- eBPF objects in a file that holds them as data (ELF-64 gABI, 'ELF Header', 'Sections').
use Rattle.std.specs.Prelude.{◌≡◌, ℕ, ◌+◌, ◌*◌, ◌<◌, ◌≤◌, Bool, false, IsTrue, ◌&&◌, ◌||◌, List, []}
use Rattle.std.specs.Prelude.{◌∷◌, length, drop, nat_le, nat_eq, ◌==◌, if◌then◌else◌, slice_index}
use Rattle.std.specs.List.{starts_with}
use Rattle.ebpf_base.specs.Numbers.{number_at}
use Rattle.ebpf_elf.specs.declared.constants.TheConstants.{MAGIC, ELFCLASS64, ELFDATA2LSB}
use Rattle.ebpf_elf.specs.declared.constants.TheConstants.{ELFDATA2MSB, SHT_NOBITS}
use Rattle.ebpf_elf.specs.declared.header.SectionHeader.{SectionHeader}
use Rattle.ebpf_elf.specs.Headers.{header_at, ei_data, e_shoff, e_shnum}
use Rattle.cli_common.specs.declared.embedded.TheConstants.{ET_REL}
use Rattle.ebpf_elf.specs.declared.constants.TheConstants.{EM_BPF}
use Rattle.cli_common.specs.declared.embedded.ObjectRange.{ObjectRange}

-- bytes that begin with the header of an ELF64 file, whose e_type (at 16) is ET_REL and whose
-- e_machine (at 18) is EM_BPF
abbrev pub is_object : List ℕ → Bool
is_object bytes =
    nat_le 64 (length bytes) && starts_with nat_eq bytes MAGIC && slice_index bytes 4 == ELFCLASS64
    && (slice_index bytes 5 == ELFDATA2LSB || slice_index bytes 5 == ELFDATA2MSB)
    && number_at (ei_data bytes) 2 bytes 16 == ET_REL
    && number_at (ei_data bytes) 2 bytes 18 == EM_BPF

-- a number, or a limit that it passes
abbrev pub within : ℕ → ℕ → ℕ
within n limit = if nat_le n limit then n else limit

-- where a section's bytes end, by its header
abbrev pub stated_end : SectionHeader → ℕ
stated_end s = if s.sh_type == SHT_NOBITS then 0 else s.sh_offset + s.sh_size

-- where a section ends whose header stands at an offset of the bytes, at most with them; 0 where
-- the header isn't inside
abbrev pub section_data_end : List ℕ → ℕ → ℕ
section_data_end bytes offset =
    if nat_le (offset + 64) (length bytes)
    then within (stated_end (header_at (ei_data bytes) bytes offset)) (length bytes)
    else 0

-- nothing that belongs to the object which the bytes begin with ends behind this place: its header,
-- its section headers, its sections
pub record Encloses (bytes : List ℕ) (end : ℕ) : Type 0 where
  pub header : 64 ≤ end
  pub section_headers : within (e_shoff bytes + 64 * e_shnum bytes) (length bytes) ≤ end
  pub sections : (i : ℕ) → i < e_shnum bytes → section_data_end bytes (e_shoff bytes + 64 * i) ≤ end

-- the least such place
pub record IsEnd (bytes : List ℕ) (end : ℕ) : Type 0 where
  pub covers : Encloses bytes end
  pub least : (other : ℕ) → Encloses bytes other → end ≤ other

-- no object begins at a place of the file or behind it
abbrev pub HasNone : List ℕ → ℕ → Type 0
HasNone file from = (place : ℕ) → from ≤ place → is_object (drop place file) ≡ false

-- the range of the first object that begins at a place of the file or behind it
pub record IsNext (file : List ℕ) (from : ℕ) (range : ObjectRange) : Type 0 where
  pub behind : from ≤ range.start
  pub begins : IsTrue (is_object (drop range.start file))
  pub first : (place : ℕ) → from ≤ place → place < range.start → is_object (drop place file) ≡ false
  pub ends : (length : ℕ)
      × (IsEnd (drop range.start file) length × (range.end ≡ range.start + length))

-- the ranges of all objects that begin at a place of the file or behind it, none in another one
unfoldable pub AreObjects : List ℕ → ℕ → List ObjectRange → Type 0
AreObjects file from [] = HasNone file from
AreObjects file from (range ∷ rest) = IsNext file from range × AreObjects file range.end rest
