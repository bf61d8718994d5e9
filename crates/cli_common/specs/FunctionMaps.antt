-- The maps that functions use: those that the relocations of their slots refer to.
use Rattle.std.specs.Prelude.{ℕ, ◌+◌, ◌-◌, ◌*◌, ◌/◌, nat_le, nat_lt, ◌&&◌, List, [], ◌∷◌, length}
use Rattle.std.specs.Prelude.{map, Option, Some, None, option_map}
use Rattle.std.specs.FinMap.{FinMap, get, entries, empty}
use Rattle.std.specs.List.{filter, flat_map}
use Rattle.std.specs.Option.{option_map_or, option_to_list}
use Rattle.std.specs.Ordering.{nat_cmp}
use Rattle.ebpf_base.specs.Faults.{or_else}
use Rattle.ebpf_base.specs.Maps.{put_all, key_cmp, text_cmp}
use Rattle.ebpf_elf.specs.declared.relocation.ElfRelocation.{ElfRelocation}
use Rattle.ebpf_model.specs.Symbols.{FunctionKey}
use Rattle.ebpf_model.specs.declared.function.Function.{Function}
use Rattle.ebpf_model.specs.declared.symbol.Symbol.{Symbol}
use Rattle.ebpf_object.specs.declared.object.Object.{Object}
use Rattle.ebpf_parts.specs.Maps.{map_type_of, section_index_of, symbol_index_of}
use Rattle.ebpf_parts.specs.declared.maps.either.Map.{Map}
use Rattle.cli_common.specs.HelperCalls.{put_firsts}
use Rattle.cli_common.specs.declared.map_uses.MapUse.{MapUse}

-- ---- the map that a relocation refers to

-- the names of maps by the index of their symbol, and by that of their section; the later by name
-- stands
pub record NamedMaps : Type 0 where
  pub by_symbol : FinMap nat_cmp (List ℕ)
  pub by_section : FinMap nat_cmp (List ℕ)

abbrev pub at_symbol : Option ℕ → List ℕ → List (ℕ × List ℕ)
at_symbol None name = []
at_symbol (Some symbol) name = (symbol, name) ∷ []

abbrev pub names_by_symbol : FinMap text_cmp Map → FinMap nat_cmp (List ℕ)
names_by_symbol maps =
    put_all empty (flat_map (λ e. at_symbol (symbol_index_of e.1) e.0) (entries maps))

abbrev pub names_by_section : FinMap text_cmp Map → FinMap nat_cmp (List ℕ)
names_by_section maps = put_all empty (map (λ e. (section_index_of e.1, e.0)) (entries maps))

unfoldable pub named_maps : FinMap text_cmp Map → NamedMaps
named_maps maps = record { by_symbol = names_by_symbol maps; by_section = names_by_section maps }

-- the map of a symbol, else the one of its section; a symbol without a section has none
abbrev pub map_in : NamedMaps → ℕ → Option ℕ → Option (List ℕ)
map_in names symbol None = None
map_in names symbol (Some section) =
    or_else (get names.by_symbol symbol) (get names.by_section section)

abbrev pub map_of_symbol : NamedMaps → ℕ → Option Symbol → Option (List ℕ)
map_of_symbol names index None = None
map_of_symbol names index (Some s) = map_in names index s.section_index

-- the name of the map that a relocation refers to
unfoldable pub map_referred : Object → NamedMaps → ElfRelocation → Option (List ℕ)
map_referred o names r = map_of_symbol names r.symbol_index (get o.symbol_table r.symbol_index)

-- ---- the relocations of a function

-- where a function ends in its section, in bytes
abbrev pub end_of : Function → ℕ
end_of f = f.section_offset + 8 * length f.instructions

-- the relocations of some offsets, in their order
abbrev pub within : {X : Type 0} → ℕ → ℕ → List (ℕ × X) → List (ℕ × X)
within start end es = filter (λ e. nat_le start e.0 && nat_lt e.0 end) es

-- those of a function's section within its range
abbrev pub function_relocations : Object → Function → List (ℕ × ElfRelocation)
function_relocations o f =
    option_map_or (λ rs. within f.section_offset (end_of f) (entries rs))
    (get o.relocations f.section_index.0) []

-- ---- the maps of a function

-- the slot of a function at an offset in its section
abbrev pub slot_of : Function → ℕ → ℕ
slot_of f offset = (offset - f.section_offset) / 8

abbrev pub at_slot : Option (List ℕ) → ℕ → List (List ℕ × ℕ)
at_slot None slot = []
at_slot (Some name) slot = (name, slot) ∷ []

-- the maps that relocations refer to, each with its slot
abbrev pub referred : Object → NamedMaps → Function → List (ℕ × ElfRelocation) → List (List ℕ × ℕ)
referred o names f rs = flat_map (λ e. at_slot (map_referred o names e.1) (slot_of f e.0)) rs

-- the slot at which a function first refers to a map, by the map's name
unfoldable pub first_slots : Object → NamedMaps → Function → FinMap text_cmp ℕ
first_slots o names f = put_firsts empty (referred o names f (function_relocations o f))

-- the use of the map of a name, first at a slot
abbrev pub map_use : Object → List ℕ → ℕ → Option MapUse
map_use o name slot =
    option_map (λ m. record { name = name; map_type = map_type_of m; slot = slot })
    (get o.maps name)

abbrev pub uses_at : Object → FinMap text_cmp ℕ → List MapUse
uses_at o slots = flat_map (λ e. option_to_list (map_use o e.0 e.1)) (entries slots)

-- the maps that a function uses, in byte order of their names
unfoldable pub maps_used : Object → NamedMaps → Function → List MapUse
maps_used o names f = uses_at o (first_slots o names f)

abbrev pub if_used : FunctionKey → List MapUse → List (FunctionKey × List MapUse)
if_used key [] = []
if_used key (u ∷ us) = (key, u ∷ us) ∷ []

-- those of each function that uses some, by the functions' keys
unfoldable pub maps_by_function : Object → NamedMaps → FinMap key_cmp (List MapUse)
maps_by_function o names =
    put_all empty (flat_map (λ e. if_used e.0 (maps_used o names e.1)) (entries o.functions))

abbrev pub function_maps : Object → FinMap key_cmp (List MapUse)
function_maps o = maps_by_function o (named_maps o.maps)
