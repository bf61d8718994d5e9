-- The initial values of maps of maps and of arrays of programs (libbpf 1.5, libbpf.c:
-- bpf_object__collect_map_relos): each relocation of the section `.maps` gives a map or a program
-- at an index of a map. At one index the last relocation counts.
--
-- A worked example. The variable `outer` declares a map of maps (type 12) at offset 64 of `.maps`.
-- It has 48 bytes, and its member `values` begins at offset 32. So its values are at the offsets 96
-- and 104 of the section, with the indices 0 and 1. Three relocations, in order:
--
--   offset 96, symbol `a`: index (96 - 64 - 32) / 8 = 0, the map `a`
--   offset 104, symbol `b`: index (104 - 64 - 32) / 8 = 1, the map `b`
--   offset 96, symbol `c`: index 0 again, the map `c`
--
-- `initial_slots` is (outer, 0, c), (outer, 1, b). A relocation at offset 88 is `OutsideValues`,
-- since 88 - 64 < 32. One at offset 100 is `Misaligned`, since 4 is no multiple of 8. One at offset
-- 108 is `OutsideMaps`, since 108 + 8 passes the variable's end at 112.
use Rattle.std.specs.Prelude.{Bool, true, false, ℕ, ◌+◌, ◌-◌, ◌/◌, ◌%◌, ◌==◌, ◌&&◌, ◌||◌, nat_le}
use Rattle.std.specs.Prelude.{nat_lt, not, List, [], ◌∷◌, map, fold, Option, Some, None, option_map}
use Rattle.std.specs.Prelude.{unwrap_or, Result, Ok, Err, if◌then◌else◌, ◌≡◌}
use Rattle.std.specs.FinMap.{FinMap, get, insert, contains_key, entries, empty}
use Rattle.std.specs.List.{find, flat_map}
use Rattle.std.specs.Option.{option_and_then, option_map_or}
use Rattle.std.specs.Ordering.{nat_cmp, eq_by_cmp}
use Rattle.ebpf_base.specs.Faults.{fault_of, first_in, first_some, or_else, if_ok}
use Rattle.ebpf_btf.specs.Next.{if_some}
use Rattle.ebpf_base.specs.Maps.{text_cmp}
use Rattle.ebpf_elf.specs.Faults.{faults}
use Rattle.ebpf_elf.specs.Relocations.{relocations}
use Rattle.ebpf_elf.specs.Sections.{sections}
use Rattle.ebpf_elf.specs.declared.relocation.ElfRelocation.{ElfRelocation}
use Rattle.ebpf_model.specs.declared.function.Program.{Program}
use Rattle.ebpf_model.specs.declared.symbol.Symbol.{Symbol}
use Rattle.ebpf_object.specs.declared.object.Object.{Object}
use Rattle.ebpf_initial_slots.specs.MapVariables.{maps_section_name, map_variables}
use Rattle.ebpf_initial_slots.specs.declared.error.InitialSlotError.{InitialSlotError}
use Rattle.ebpf_initial_slots.specs.declared.error.InitialSlotError.TheVariants.{OutOfMemory}
use Rattle.ebpf_initial_slots.specs.declared.error.InitialSlotError.TheVariants.{ElfError}
use Rattle.ebpf_initial_slots.specs.declared.error.InitialSlotError.TheVariants.{UnknownSymbol}
use Rattle.ebpf_initial_slots.specs.declared.error.InitialSlotError.TheVariants.{OutsideMaps}
use Rattle.ebpf_initial_slots.specs.declared.error.InitialSlotError.TheVariants.{UnsupportedMapType}
use Rattle.ebpf_initial_slots.specs.declared.error.InitialSlotError.TheVariants.{NotInMaps}
use Rattle.ebpf_initial_slots.specs.declared.error.InitialSlotError.TheVariants.{UnsupportedKeySize}
use Rattle.ebpf_initial_slots.specs.declared.error.InitialSlotError.TheVariants.{UnknownMap}
use Rattle.ebpf_initial_slots.specs.declared.error.InitialSlotError.TheVariants.{UnknownProgram}
use Rattle.ebpf_initial_slots.specs.declared.error.InitialSlotError.TheVariants.{NotAnEntryPoint}
use Rattle.ebpf_initial_slots.specs.declared.error.InitialSlotError.TheVariants.{NoValues}
use Rattle.ebpf_initial_slots.specs.declared.error.InitialSlotError.TheVariants.{OutsideValues}
use Rattle.ebpf_initial_slots.specs.declared.error.InitialSlotError.TheVariants.{Misaligned}
use Rattle.ebpf_initial_slots.specs.declared.slots.InitialSlot.{InitialSlot}
use Rattle.ebpf_initial_slots.specs.declared.target.InitialTarget.{InitialTarget}
use Rattle.ebpf_initial_slots.specs.declared.variables.MapVariable.{MapVariable}
use Rattle.ebpf_initial_slots.specs.declared.target.InitialTarget.TheVariants as targets

-- ---- the one answer that no definition states: an allocation failure

abbrev pub is_initial_slot_memory : InitialSlotError → Bool
is_initial_slot_memory OutOfMemory = true
is_initial_slot_memory _ = false

-- ---- the target of a slot: the map or the program that a symbol names

abbrev pub symbol_text : Symbol → List ℕ
symbol_text s = unwrap_or s.name []

abbrev pub stands_in : ℕ → Option ℕ → Bool
stands_in section None = false
stands_in section (Some s) = s == section

abbrev pub array_of_maps : ℕ
array_of_maps = 12

abbrev pub hash_of_maps : ℕ
hash_of_maps = 13

abbrev pub program_array : ℕ
program_array = 3

-- of a map of maps: a map of the section `.maps`, by the symbol's name; a hash has the index as
-- key, of 4 bytes
unfoldable pub target_map : Object → ℕ → MapVariable → Symbol
    → Result InitialTarget InitialSlotError
target_map object section v s =
    if not (stands_in section s.section_index) then Err (NotInMaps v.name (symbol_text s))
    else if v.map_type == hash_of_maps && not (v.key_size == 4)
    then Err (UnsupportedKeySize v.name v.key_size)
    else if contains_key object.maps (symbol_text s) then Ok (targets.Map (symbol_text s))
    else Err (UnknownMap v.name (symbol_text s))

-- a program has the section and the address of the symbol
abbrev pub is_entry_point : Symbol → Program → Bool
is_entry_point s p = stands_in p.section_index s.section_index && p.address == s.address

abbrev pub program_or_fault : MapVariable → Symbol → Option Program
    → Result InitialTarget InitialSlotError
program_or_fault v s None = Err (UnknownProgram v.name (symbol_text s))
program_or_fault v s (Some p) =
    if is_entry_point s p
    then Ok (targets.Program (symbol_text s))
    else Err (NotAnEntryPoint v.name (symbol_text s))

-- of an array of programs
unfoldable pub target_program : Object → MapVariable → Symbol
    → Result InitialTarget InitialSlotError
target_program object v s = program_or_fault v s (get object.programs (symbol_text s))

abbrev pub initial_target : Object → ℕ → MapVariable → Symbol
    → Result InitialTarget InitialSlotError
initial_target object section v s =
    if v.map_type == array_of_maps || v.map_type == hash_of_maps then target_map object section v s
    else if v.map_type == program_array then target_program object v s
    else Err (UnsupportedMapType v.name v.map_type)

-- ---- the index of a slot: by the offset of its 8 bytes in the section

-- whether a variable holds the 8 bytes at an offset of the section
abbrev pub holds_slot : ℕ → MapVariable → Bool
holds_slot place v = nat_le v.offset place && nat_le (place + 8) (v.offset + v.size)

-- the index of an offset in `values`, which begin at an offset in the variable
abbrev pub index_from : MapVariable → ℕ → ℕ → Result ℕ InitialSlotError
index_from v place values =
    if nat_lt (place - v.offset) values then Err (OutsideValues v.name place)
    else if (place - v.offset - values) % 8 == 0 then Ok ((place - v.offset - values) / 8)
    else Err (Misaligned v.name place)

unfoldable pub slot_index : MapVariable → ℕ → Result ℕ InitialSlotError
slot_index v place = if_some v.values (index_from v place) (Err (NoValues v.name))

-- ---- one relocation

-- the slot that a relocation gives a map, by the section `.maps` and its variables
unfoldable pub initial_slot : Object → ℕ → List MapVariable → ElfRelocation
    → Result InitialSlot InitialSlotError
initial_slot object section variables r =
    if_some (get object.symbol_table r.symbol_index)
    (λ s.
    if_some (find (holds_slot r.offset) variables)
    (λ v.
    if_ok (initial_target object section v s) (λ target.
    if_ok (slot_index v r.offset) (λ index.
    Ok (record { map = v.name; index = index; target = target }))))
    (Err (OutsideMaps r.offset)))
    (Err (UnknownSymbol r.offset r.symbol_index))

abbrev pub slot_or_none : Result InitialSlot InitialSlotError → List InitialSlot
slot_or_none (Ok s) = s ∷ []
slot_or_none (Err e) = []

-- ---- all

-- the index of the section `.maps`: of several sections the last
abbrev pub maps_section : Object → Option ℕ
maps_section object = option_map (λ s. s.0) (get object.section_infos maps_section_name)

-- the relocations of the section with this index, by section of relocations and entry
abbrev pub relocations_at : List ℕ → ℕ → List ElfRelocation
relocations_at bytes index =
    option_map_or relocations (find (λ s. s.index == index) (sections bytes)) []

-- slots by map and index, with one more; of two at one index the later counts
abbrev pub with_slot : FinMap text_cmp (FinMap nat_cmp InitialSlot)
    → InitialSlot
    → FinMap text_cmp (FinMap nat_cmp InitialSlot)
with_slot found s = insert found s.map (insert (unwrap_or (get found s.map) empty) s.index s)

abbrev pub by_map_and_index : List InitialSlot → FinMap text_cmp (FinMap nat_cmp InitialSlot)
by_map_and_index slots = fold with_slot empty slots

-- in the order of the maps' names, then of the indices
abbrev pub slots_in_order : FinMap text_cmp (FinMap nat_cmp InitialSlot) → List InitialSlot
slots_in_order found = flat_map (λ m. map (λ s. s.1) (entries m.1)) (entries found)

-- the slots that relocations give
abbrev pub slots_put : Object → ℕ → List MapVariable → List ElfRelocation → List InitialSlot
slots_put object section variables rs =
    flat_map (λ r. slot_or_none (initial_slot object section variables r)) rs

abbrev pub slots_fault : Object → ℕ → List MapVariable → List ElfRelocation
    → Option InitialSlotError
slots_fault object section variables rs =
    first_some (λ r. fault_of (initial_slot object section variables r)) rs

abbrev pub slots_of_section : List ℕ → Object → ℕ → List InitialSlot
slots_of_section bytes object section =
    slots_in_order
    (by_map_and_index
    (slots_put object section (map_variables object section)
    (relocations_at bytes section)))

-- the initial values of an object and the bytes of its file
unfoldable pub initial_slots : List ℕ → Object → List InitialSlot
initial_slots bytes object = option_map_or (slots_of_section bytes object) (maps_section object) []

-- the fault of the file, or else of the first relocation that has one
unfoldable pub initial_slots_fault : List ℕ → Object → Option InitialSlotError
initial_slots_fault bytes object =
    or_else
    (option_map ElfError (first_in (faults bytes)))
    (option_and_then
    (λ section.
    slots_fault object section (map_variables object section)
    (relocations_at bytes section)) (maps_section object))

-- ---- the slot at an index of a map: of the slots that relocations give it the last

-- the slot at an index of a map
abbrev pub standing_slot : FinMap text_cmp (FinMap nat_cmp InitialSlot)
    → List ℕ
    → ℕ
    → Option InitialSlot
standing_slot found name index = option_and_then (λ own. get own index) (get found name)

-- the last of some slots at an index of a map, else the one before
abbrev pub last_slot : List ℕ → ℕ → Option InitialSlot → List InitialSlot → Option InitialSlot
last_slot name index before slots =
    fold
    (λ found s.
    if eq_by_cmp text_cmp name s.map && eq_by_cmp nat_cmp index s.index
    then Some s
    else found) before slots

abbrev pub LastSlotsStand : Type 0
LastSlotsStand =
    (slots : List InitialSlot) (name : List ℕ) (index : ℕ)
    → standing_slot (by_map_and_index slots) name index ≡ last_slot name index None slots

-- ---- what contracts of private functions name and no public one.

-- one more slot, beside those of its map
abbrev pub with_slot_in : FinMap text_cmp (FinMap nat_cmp InitialSlot)
    → InitialSlot
    → Option (FinMap nat_cmp InitialSlot)
    → FinMap text_cmp (FinMap nat_cmp InitialSlot)
with_slot_in found s own = insert found s.map (insert (unwrap_or own empty) s.index s)
