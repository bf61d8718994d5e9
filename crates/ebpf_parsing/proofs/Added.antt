-- One more section adds its part; it is read without its relocations.
use Rattle.std.proofs.Common.{◌≡◌, ℕ, Bool, true, false, not, List, ◌∷◌, map, filter, Option, cond, ap, ◌∙◌, [], sym, zero, suc, ◌+◌, length, None, refl}
use Rattle.std.specs.FinMap.{FinMap, get}
use Rattle.std.specs.List.{flat_map}
use Rattle.std.specs.Prelude.{Some, MatchBool, ⊤, if◌then◌else◌, ◌==◌, nat_lt}
use Rattle.ebpf_base.proofs.Mapped.{put_all-flat_map}
use Rattle.ebpf_base.specs.Faults.{or_else, first_some}
use Rattle.ebpf_base.specs.Maps.{put_all, text_cmp}
use Rattle.ebpf_btf.specs.TypeInfo.{TypeInfo}
use Rattle.ebpf_btf_decls.specs.Maps.{TypesInMode, types_in_mode}
use Rattle.ebpf_elf.specs.Relocations.{relocation_sections, relocated_section, table_entries}
use Rattle.ebpf_elf.specs.Sections.{SectionOf}
use Rattle.ebpf_elf.specs.declared.relocation.ElfRelocation.{ElfRelocation}
use Rattle.ebpf_parts.specs.ProgramTypes.{section_as}
use Rattle.ebpf_parts.specs.Sections.{SectionValue, section_of, section_with}
use Rattle.ebpf_parts.specs.declared.maps.either.Map.TheVariants.{Legacy}
use Rattle.ebpf_parts.specs.declared.program_section.ProgramSection.{ProgramSection}
use Rattle.ebpf_parts.specs.declared.parse_mode.ParseMode.{ParseMode}
use Rattle.ebpf_parts.specs.declared.section.EbpfSectionKind.{EbpfSectionKind}
use Rattle.ebpf_parts.specs.declared.section.EbpfSectionKind.TheVariants.{BtfMaps, Data, Rodata, Bss, Text, Program as Programs}
use Rattle.ebpf_parsing.specs.FileContents.{read_fault, symbols_at}
use Rattle.ebpf_parsing.specs.Maps.{data_definition, data_flags, data_bytes, data_map, data_map_fault, btf_defined_maps, btf_defined_maps_fault, legacy_map, legacy_fault, legacy_maps_fault}
use Rattle.ebpf_parsing.specs.ObjectTables.{added, all_added, last_maps, put_by, added_last}
use Rattle.ebpf_parsing.specs.OfSection.{maps_in, programs_in, functions_in, relocations_in, programs_by, functions_by, fault_by, fault_in, program_section_faults}
use Rattle.ebpf_parsing.specs.declared.object_tables.ObjectTables.{ObjectTables}
use Rattle.ebpf_sections.proofs.ReadSections.{others}
use Rattle.ebpf_sections.specs.Programs.{programs_of, program_function, program_fault, with_key}
use Rattle.ebpf_sections.specs.Records.{FuncAndLineInfo, func_and_line_info_of}
use Rattle.ebpf_sections.specs.Sections.{is_type_information, section_info_entry, is_index, with_relocations}
use Rattle.ebpf_sections.specs.Symbols.{SymbolValue, section_symbols}
use Rattle.ebpf_sections.specs.Texts.{function_at, text_fault_at, size_at, symbol_at_offset, text_function, text_function_of, text_fault_of, offsets_from, text_fault, conflict_fault}
use Rattle.ebpf_sections.specs.declared.metadata.FileMetadata.{FileMetadata}

-- ---- one more section adds its part

-- a section, and those after it
pub all_more : (metadata : FileMetadata) (p : ObjectTables) (symbols : List SymbolValue) (s : SectionValue) (rest : List SectionValue)
    → all_added metadata p symbols (s ∷ rest) ≡ all_added metadata (added metadata p s (section_symbols symbols s.index.0)) symbols rest
unfolding added
all_more metadata p symbols s rest = λ i. record {
  maps = put_all-flat_map (λ t. maps_in metadata.mode metadata.btf t (symbols_at symbols t)) p.maps s rest i;
  programs = put_all-flat_map (λ t. programs_in metadata.mode metadata.license metadata.kernel_version t (symbols_at symbols t)) p.programs s rest i;
  functions = put_all-flat_map (λ t. functions_in metadata.btf_ext t (symbols_at symbols t)) p.functions s rest i;
  relocations = put_all-flat_map relocations_in p.relocations s rest i;
  section_infos = put_all-flat_map section_info_entry p.section_infos s rest i;
}

-- another is the first of them
pub kept : (s : SectionOf) (rest : List SectionOf) → is_type_information s ≡ false → others (s ∷ rest) ≡ s ∷ others rest
kept s rest e = ap (λ b. cond (not b) (s ∷ others rest) (others rest)) e

pub one_more : (metadata : FileMetadata) (p : ObjectTables) (symbols : List SymbolValue) (s : SectionOf) (rest : List SectionOf) → is_type_information s ≡ false
    → all_added metadata p symbols (map section_of (others (s ∷ rest))) ≡ all_added metadata (added metadata p (section_of s) (section_symbols symbols s.index)) symbols (map section_of (others rest))
unfolding section_of section_with
one_more metadata p symbols s rest e =
    ap (λ l. all_added metadata p symbols (map section_of l)) (kept s rest e) ∙ all_more metadata p symbols (section_of s) (map section_of (others rest))

pub fault_more : (mode : ParseMode) (types : Option TypeInfo) (bytes : List ℕ) (s : SectionOf) (rest : List SectionOf) → is_type_information s ≡ false
    → first_some (read_fault mode types bytes) (others (s ∷ rest)) ≡ or_else (read_fault mode types bytes s) (first_some (read_fault mode types bytes) (others rest))
fault_more mode types bytes s rest e = ap (first_some (read_fault mode types bytes)) (kept s rest e)

-- the first fault refuses, whatever comes after it
pub refused_first : {E : Type 0} (memory : E → Bool) (e : E) (x rest : Option E) → MatchBool (memory e) ⊤ (x ≡ Some e) → MatchBool (memory e) ⊤ (or_else x rest ≡ Some e)
refused_first memory e x rest h = elim (memory e) as (λ b. MatchBool b ⊤ (x ≡ Some e) → MatchBool b ⊤ (or_else x rest ≡ Some e)) [
  | true ↦ λ g. g
  | false ↦ λ g. ap (λ z. or_else z rest) g
] h

-- ---- a section is read without its relocations, and what it gives but these rests on none of them

-- a section with its relocations
pub section_patched : (s : SectionOf) (tables : List SectionOf) → tables ≡ filter (λ r. relocated_section r == s.index) (relocation_sections s.file)
    → section_of s ≡ with_relocations (flat_map table_entries tables) (section_with [] s)
unfolding section_of section_with
section_patched s tables e = ap (λ ts. with_relocations (flat_map table_entries ts) (section_with [] s)) (sym e)

module _ (list : List ElfRelocation) (s : SectionValue) where
  abbrev p : SectionValue
  p = with_relocations list s

  declared_same : (types : Option TypesInMode) (ys : List SymbolValue) → btf_defined_maps types p ys ≡ btf_defined_maps types s ys
  unfolding btf_defined_maps
  declared_same None ys = refl
  declared_same (Some types) ys = refl

  bytes_same : (k : EbpfSectionKind) → data_bytes k p ≡ data_bytes k s
  bytes_same Bss = refl
  bytes_same _ = refl

  data_same : data_map p ≡ data_map s
  unfolding data_map
  data_same = λ i. Legacy (record { def = data_definition s.size (data_flags s.kind); inner_def = None; section_index = s.index.0; section_kind = s.kind; symbol_index = None; bytes = bytes_same s.kind i })

  last_same : (last : FinMap text_cmp ℕ) → last_maps last p ≡ last_maps last s
  last_same last = ap (λ m. if is_index s.index.0 (get last s.name) then (s.name, m) ∷ [] else []) data_same

  maps_same : (last : FinMap text_cmp ℕ) (mode : ParseMode) (types : Option TypeInfo) (ys : List SymbolValue) (k : EbpfSectionKind) → put_by k last mode types p ys ≡ put_by k last mode types s ys
  unfolding legacy_map
  maps_same last mode types ys Data = last_same last
  maps_same last mode types ys Rodata = last_same last
  maps_same last mode types ys Bss = last_same last
  maps_same last mode types ys BtfMaps = declared_same (types_in_mode mode types) ys
  maps_same last mode types ys _ = refl

  named_same : (license : List ℕ) (version : Option ℕ) (ys : List SymbolValue) (kind : Option ProgramSection) → programs_of license version p ys kind ≡ programs_of license version s ys kind
  named_same license version ys None = refl
  named_same license version ys (Some kind) = refl

  programs_same : (mode : ParseMode) (license : List ℕ) (version : Option ℕ) (ys : List SymbolValue) (k : EbpfSectionKind) → programs_by k mode license version p ys ≡ programs_by k mode license version s ys
  programs_same mode license version ys Programs = named_same license version ys (section_as mode s.name)
  programs_same mode license version ys _ = refl

  -- ---- functions of a Text section

  offsets_same : (ys : List SymbolValue) (left offset : ℕ) → offsets_from left p ys offset ≡ offsets_from left s ys offset
  unfolding offsets_from size_at symbol_at_offset
  offsets_same ys zero offset = refl
  offsets_same ys (suc left) offset = ap (λ rest. if nat_lt offset (length s.bytes) then offset ∷ rest else []) (offsets_same ys left (offset + size_at s ys offset))

  begun_same : (infos : FuncAndLineInfo) (offset : ℕ) (y : Option SymbolValue) → text_function_of infos p offset y ≡ text_function_of infos s offset y
  unfolding text_function
  begun_same infos offset None = refl
  begun_same infos offset (Some y) = refl

  function_same : (infos : FuncAndLineInfo) (ys : List SymbolValue) (offset : ℕ) → function_at infos p ys offset ≡ function_at infos s ys offset
  unfolding function_at symbol_at_offset
  function_same infos ys offset = begun_same infos offset (symbol_at_offset s ys offset)

  functions_same : (infos : FuncAndLineInfo) (ys : List SymbolValue) (k : EbpfSectionKind) → functions_by k infos p ys ≡ functions_by k infos s ys
  unfolding program_function
  functions_same infos ys Programs = refl
  functions_same infos ys Text = λ i. flat_map (λ offset. function_same infos ys offset i) (offsets_same ys (length s.bytes) 0 i)
  functions_same infos ys _ = refl

  -- ---- faults

  refused_same : (offset : ℕ) (y : Option SymbolValue) → text_fault_of p offset y ≡ text_fault_of s offset y
  refused_same offset None = refl
  refused_same offset (Some y) = refl

  text_fault_same : (ys : List SymbolValue) → text_fault p ys ≡ text_fault s ys
  unfolding text_fault text_fault_at symbol_at_offset
  text_fault_same ys = λ i. or_else (conflict_fault s.index.0 ys) (first_some (λ offset. refused_same offset (symbol_at_offset s ys offset) i) (offsets_same ys (length s.bytes) 0 i))

  declared_fault_same : (types : Option TypesInMode) (ys : List SymbolValue) → btf_defined_maps_fault types p ys ≡ btf_defined_maps_fault types s ys
  unfolding btf_defined_maps_fault
  declared_fault_same None ys = refl
  declared_fault_same (Some types) ys = refl

  fault_same : (mode : ParseMode) (types : Option TypeInfo) (ys : List SymbolValue) (k : EbpfSectionKind) → fault_by k mode types p ys ≡ fault_by k mode types s ys
  unfolding program_section_faults program_fault data_map_fault legacy_maps_fault legacy_fault
  fault_same mode types ys Programs = refl
  fault_same mode types ys Text = text_fault_same ys
  fault_same mode types ys BtfMaps = declared_fault_same (types_in_mode mode types) ys
  fault_same mode types ys _ = refl

  pub same_fault : (mode : ParseMode) (types : Option TypeInfo) (ys : List SymbolValue) → fault_in mode types p ys ≡ fault_in mode types s ys
  unfolding fault_in
  same_fault mode types ys = fault_same mode types ys s.kind

  pub same_added : (last : FinMap text_cmp ℕ) (metadata : FileMetadata) (before : ObjectTables) (ys : List SymbolValue)
      → added_last last metadata before p ys ≡ record (added_last last metadata before s ys) { relocations = put_all before.relocations (relocations_in p) }
  unfolding added programs_in functions_in
  same_added last metadata before ys = λ i. record {
    maps = put_all before.maps (maps_same last metadata.mode metadata.btf ys s.kind i);
    programs = put_all before.programs (programs_same metadata.mode metadata.license metadata.kernel_version ys s.kind i);
    functions = put_all before.functions (map with_key (functions_same (func_and_line_info_of metadata.btf_ext s.name) ys s.kind i));
    relocations = put_all before.relocations (relocations_in p);
    section_infos = put_all before.section_infos (section_info_entry s);
  }
