-- The slots that refer to a map without a descriptor, and the calls of externs that no pass has
-- written: each with its place and a name, by the functions' keys and then by slot.
use Rattle.std.specs.FinMap.{FinMap, get, empty, entries, contains_key, insert}
use Rattle.std.specs.List.{filter_map, flat_map, range_with_len}
use Rattle.std.specs.Ordering.{nat_cmp}
use Rattle.std.specs.Prelude.{ℕ, ℤ, ◌+◌, ◌*◌, ◌&&◌, ◌||◌, if◌then◌else◌, List, [], ◌∷◌, map, length}
use Rattle.std.specs.Prelude.{Option, Some, None, option_map, unwrap_or}
use Rattle.ebpf_base.specs.Faults.{or_else}
use Rattle.ebpf_base.specs.Maps.{key_cmp, put_all, text_cmp}
use Rattle.ebpf_elf.specs.declared.relocation.ElfRelocation.{ElfRelocation}
use Rattle.ebpf_model.specs.Symbols.{FunctionKey, TextSections, is_extern, text_sections_in}
use Rattle.ebpf_model.specs.Walks.{found_at}
use Rattle.ebpf_model.specs.declared.function.Function.{Function}
use Rattle.ebpf_model.specs.declared.symbol.Symbol.{Symbol}
use Rattle.ebpf_parts.specs.Maps.{section_index_of, symbol_index_of}
use Rattle.ebpf_parts.specs.Slots.{is_pseudo_call}
use Rattle.ebpf_parts.specs.declared.insn.bpf_insn.{bpf_insn}
use Rattle.ebpf_parts.specs.declared.maps.either.Map.{Map}
use Rattle.ebpf_reloc.specs.Relocated.{Relocations, SectionRelocations, slot_or_zeros}
use Rattle.ebpf_reloc.specs.SlotTargets.{LinkableValue}
use Rattle.ebpf_reloc.specs.declared.map_names.MapNames.{MapNames}
use Rattle.ebpf_reloc.specs.declared.map_names.MapNaming.{MapNaming}
use Rattle.ebpf_reloc.specs.declared.named_slots.NamedSlot.{NamedSlot}
use Rattle.ebpf_reloc.specs.declared.named_slots.SlotNaming.{SlotNaming}
use Rattle.ebpf_reloc.specs.declared.named_slots.SlotNaming.TheVariants.{Maps, Externs}

-- ---- slots with names

-- the name that a relocation gives its slot, if it gives one
abbrev pub Naming : Type 0
Naming = ElfRelocation → bpf_insn → Option (List ℕ)

abbrev pub name_by : Naming → Option ElfRelocation → bpf_insn → Option (List ℕ)
name_by naming None slot = None
name_by naming (Some relocation) slot = naming relocation slot

-- the name of slot i of a function, by the relocations of its section
abbrev pub slot_name : Naming → Option SectionRelocations → Function → ℕ → Option (List ℕ)
slot_name naming section_relocations f i =
    name_by naming (found_at section_relocations (f.section_offset + 8 * i))
    (slot_or_zeros f.instructions i)

abbrev pub named_slot : FunctionKey → ℕ → List ℕ → NamedSlot
named_slot key i name = record { key = key; slot = i; name = name }

-- slot i of the function at a key, with its name
abbrev pub named_at : Naming → Option SectionRelocations → FunctionKey → Function → ℕ
    → Option NamedSlot
named_at naming section_relocations key f i =
    option_map (named_slot key i) (slot_name naming section_relocations f i)

-- the slots with names of the function at a key
abbrev pub named_of : Naming → Option SectionRelocations → FunctionKey → Function → List NamedSlot
named_of naming section_relocations key f =
    filter_map (named_at naming section_relocations key f)
    (range_with_len 0 (length f.instructions))

abbrev pub named_in : Naming → Relocations → FunctionKey × Function → List NamedSlot
named_in naming relocations e =
    named_of naming (get relocations e.1.section_index.0) e.0 e.1

-- the slots with names of all functions
abbrev pub named_slots : Naming → Relocations → FinMap key_cmp Function → List NamedSlot
named_slots naming relocations functions =
    flat_map (named_in naming relocations) (entries functions)

-- ---- maps without a descriptor

abbrev pub name_at_symbol : Option ℕ → List ℕ → List (ℕ × List ℕ)
name_at_symbol None name = []
name_at_symbol (Some symbol) name = (symbol, name) ∷ []

-- the names of an object's maps by symbol and by section, the later in byte order over the earlier
abbrev pub map_names : FinMap text_cmp Map → MapNames
map_names maps = record {
  by_symbol =
      put_all empty (flat_map (λ e. name_at_symbol (symbol_index_of e.1) e.0) (entries maps));
  by_section = put_all empty (map (λ e. (section_index_of e.1, e.0)) (entries maps));
}

-- A slot's own map: that of the symbol of its relocation; where the symbol names no map, that of
-- the symbol's section, as of a variable in `.bss`.
abbrev pub own_map : MapNames → ℕ → ℕ → Option (List ℕ)
own_map names symbol section = or_else (get names.by_symbol symbol) (get names.by_section section)

-- the names of maps, and what a slot's own map is found by
pub record MapNamingValue : Type 0 where
  pub symbols : FinMap nat_cmp Symbol
  pub names : MapNames
  pub descriptors : FinMap text_cmp ℤ
  pub text_sections : TextSections

abbrev pub name_if_missing : FinMap text_cmp ℤ → Option (List ℕ) → Option (List ℕ)
name_if_missing descriptors None = None
name_if_missing descriptors (Some name) =
    if contains_key descriptors name then None else Some name

-- a call of a function and a symbol among the functions refer to no map
abbrev pub missing_in_section : MapNamingValue → Option ℕ → ElfRelocation → bpf_insn
    → Option (List ℕ)
missing_in_section naming None relocation slot = None
missing_in_section naming (Some section) relocation slot =
    if is_pseudo_call slot || naming.text_sections section
    then None
    else name_if_missing naming.descriptors
    (own_map naming.names relocation.symbol_index section)

abbrev pub missing_of_symbol : MapNamingValue → Option Symbol → ElfRelocation → bpf_insn
    → Option (List ℕ)
missing_of_symbol naming None relocation slot = None
missing_of_symbol naming (Some symbol) relocation slot =
    missing_in_section naming symbol.section_index relocation slot

-- the name of a slot's own map, where the map has no descriptor
abbrev pub missing_map : MapNamingValue → Naming
missing_map naming relocation slot =
    missing_of_symbol naming (get naming.symbols relocation.symbol_index) relocation slot

-- the slots whose own map has no descriptor, each with the map's name
abbrev pub maps_without_descriptors : LinkableValue → FinMap text_cmp Map → FinMap text_cmp ℤ
    → List NamedSlot
maps_without_descriptors parts maps descriptors =
    named_slots
    (missing_map
    (record {
      symbols = parts.symbols;
      names = map_names maps;
      descriptors = descriptors;
      text_sections = parts.text_sections;
    }))
    parts.relocations parts.functions

-- ---- externs that no pass has written

abbrev pub unwritten_symbol : Option Symbol → bpf_insn → Option (List ℕ)
unwritten_symbol None slot = None
unwritten_symbol (Some symbol) slot =
    if is_extern symbol && is_pseudo_call slot then Some (unwrap_or symbol.name []) else None

-- The name of the extern that a slot calls, where the slot is as the compiler left it: a pseudo
-- call. A pass that writes it makes it another call.
abbrev pub unwritten_extern : FinMap nat_cmp Symbol → Naming
unwritten_extern symbols relocation slot =
    unwritten_symbol (get symbols relocation.symbol_index) slot

-- the calls of externs that no pass has written, each with the extern's name
abbrev pub unwritten_externs : FinMap nat_cmp Symbol → Relocations → FinMap key_cmp Function
    → List NamedSlot
unwritten_externs symbols relocations functions =
    named_slots (unwritten_extern symbols) relocations functions

-- ---- what contracts of private functions name and no public one

abbrev pub with_name_at : FinMap nat_cmp (List ℕ) → Option ℕ → List ℕ → FinMap nat_cmp (List ℕ)
with_name_at table None name = table
with_name_at table (Some symbol) name = insert table symbol name

-- the names with those of more maps
abbrev pub names_over : MapNames → List (List ℕ × Map) → MapNames
names_over names es = record {
  by_symbol =
      put_all names.by_symbol (flat_map (λ e. name_at_symbol (symbol_index_of e.1) e.0) es);
  by_section = put_all names.by_section (map (λ e. (section_index_of e.1, e.0)) es);
}

-- the names with one map more
abbrev pub with_map_name : MapNames → List ℕ → Map → MapNames
with_map_name names name m = record {
  by_symbol = with_name_at names.by_symbol (symbol_index_of m) name;
  by_section = insert names.by_section (section_index_of m) name;
}

abbrev pub map_naming : MapNaming → MapNamingValue
map_naming naming = record {
  symbols = naming.symbols.now;
  names = naming.names.now;
  descriptors = naming.descriptors.now;
  text_sections = text_sections_in naming.text_sections.now;
}

abbrev pub naming_of : SlotNaming → Naming
naming_of (Maps naming) = missing_map (map_naming naming)
naming_of (Externs symbols) = unwritten_extern symbols.now
