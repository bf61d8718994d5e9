-- The relocation sections of a file, by the offsets of their entries, and the relocations that an
-- object keeps of a section (ELF-64 gABI, 'Relocation').
use Rattle.std.specs.Cmp.{IsTotalOrder, nat_cmp_total, then_total, on_total}
use Rattle.std.specs.Coded.{Coded, coded_ℕ, coded×}
use Rattle.std.specs.FinMap.{FinMap, get, empty}
use Rattle.std.specs.List.{list_any, flat_map, range_with_len}
use Rattle.std.specs.Ordering.{nat_cmp, ordering_then}
use Rattle.std.specs.Prelude.{ℕ, ◌≡◌, ◌+◌, ◌*◌, Bool, ◌==◌, List, [], ◌∷◌, map, Some}
use Rattle.std.specs.declared.cmp.Ordering.{Ordering}
use Rattle.ebpf_base.specs.Maps.{put_all, key_cmp, coded_key, key_total}
use Rattle.ebpf_elf.specs.Headers.{ei_data}
use Rattle.ebpf_elf.specs.Relocations.{relocation_size, relocation_at, entry_count}
use Rattle.ebpf_elf.specs.Sections.{SectionOf, header}
use Rattle.ebpf_elf.specs.declared.relocation.ElfRelocation.{ElfRelocation}

-- ---- the places of the entries of a section of relocations: the offset of the first, their size,
-- and their number

abbrev pub entry_range_cmp : (ℕ × ℕ) × ℕ → (ℕ × ℕ) × ℕ → Ordering
entry_range_cmp a b = ordering_then (key_cmp a.0 b.0) (nat_cmp a.1 b.1)

-- how a model stores them
abbrev pub coded_entry_range : Coded ((ℕ × ℕ) × ℕ)
coded_entry_range = coded× coded_key coded_ℕ

abbrev pub EntryRange : Type 0
EntryRange = (ℕ × ℕ) × ℕ

pub entry_range_total : IsTotalOrder entry_range_cmp
entry_range_total =
    then_total (on_total (λ (p : (ℕ × ℕ) × ℕ). p.0) key_total)
    (on_total (λ (p : (ℕ × ℕ) × ℕ). p.1) nat_cmp_total)

abbrev pub entry_range_of : SectionOf → EntryRange
entry_range_of s = (((header s).sh_offset, relocation_size (header s).sh_type), entry_count s)

-- the entries at places of a file
abbrev pub entries_at : List ℕ → EntryRange → List ElfRelocation
entries_at bytes p =
    map (λ k. relocation_at (ei_data bytes) bytes (p.0.0 + p.0.1 * k)) (range_with_len 0 p.1)

-- whether one of them names no symbol
abbrev pub lacks_symbol : List ElfRelocation → Bool
lacks_symbol list = list_any (λ r. r.symbol_index == 0) list

-- what is cached of entry ranges of a file is so
abbrev pub EntryRangesAreCached : List ℕ → FinMap entry_range_cmp Bool → Type 0
EntryRangesAreCached bytes cached =
    (p : EntryRange) (lacks : Bool)
    → get cached p ≡ Some lacks
    → lacks ≡ lacks_symbol (entries_at bytes p)

-- the index of a section of relocations, by its entries' offsets
abbrev pub table_row : SectionOf → List (EntryRange × ℕ)
table_row t = (entry_range_of t, t.index) ∷ []

-- the number of the last one at each
abbrev pub last_tables : List SectionOf → FinMap entry_range_cmp ℕ
last_tables tables = put_all empty (flat_map table_row tables)

-- sections of relocations of one file
abbrev pub AreOf : List ℕ → List SectionOf → Type 0
AreOf file [] = Unit {0}
AreOf file (t ∷ rest) = (t.file ≡ file) × AreOf file rest

abbrev pub file_of_tables : List SectionOf → List ℕ
file_of_tables [] = []
file_of_tables (t ∷ rest) = t.file

abbrev pub AreOfOneFile : List SectionOf → Type 0
AreOfOneFile tables = AreOf (file_of_tables tables) tables

-- ---- the relocations that an object keeps of a section

-- a relocation, by its offset
abbrev pub offset_of : ElfRelocation → ℕ × ElfRelocation
offset_of r = (r.offset, r)

-- the later of two at one offset counts
abbrev pub relocations_by_offset : List ElfRelocation → FinMap nat_cmp ElfRelocation
relocations_by_offset relocations = put_all empty (map offset_of relocations)

-- an entry of the object, by the section's index; a section without relocations has none
abbrev pub relocation_table_at : ℕ → List ElfRelocation → List (ℕ × FinMap nat_cmp ElfRelocation)
relocation_table_at section [] = []
relocation_table_at section (r ∷ rest) = (section, relocations_by_offset (r ∷ rest)) ∷ []
