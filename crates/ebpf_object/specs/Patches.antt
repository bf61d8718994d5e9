-- Values of global variables, written into the data of the maps that hold them.
use Rattle.std.specs.Prelude.{ℕ, ◌+◌, ◌==◌, nat_le, Bool, List, [], ◌∷◌, ◌++◌, length, take, drop}
use Rattle.std.specs.Prelude.{fold, Option, Some, None, option_map, unwrap_or, Result, Ok, Err}
use Rattle.std.specs.Prelude.{if◌then◌else◌, map, ◌≡◌, ◌-◌, ◌<◌, ◌≤◌, slice_get}
use Rattle.std.specs.FinMap.{FinMap, get, insert, entries, empty, from_entries}
use Rattle.std.specs.List.{find, flat_map}
use Rattle.std.specs.Map.{keys_of}
use Rattle.std.specs.Option.{option_and_then}
use Rattle.std.specs.Ordering.{nat_cmp}
use Rattle.std.specs.declared.cmp.Ordering.TheVariants.{Less}
use denote.Ref.{Bor}
use Rattle.ebpf_base.specs.Faults.{first_some, fault_of}
use Rattle.ebpf_base.specs.Maps.{put_all, text_cmp}
use Rattle.ebpf_model.specs.declared.symbol.Symbol.{Symbol}
use Rattle.ebpf_parts.specs.Maps.{bytes_of, with_bytes, section_index_of}
use Rattle.ebpf_parts.specs.declared.error.ParseError.{ParseError}
use Rattle.ebpf_parts.specs.declared.error.ParseError.TheVariants.{SymbolNotFound}
use Rattle.ebpf_parts.specs.declared.error.ParseError.TheVariants.{InvalidGlobalData, MapNotFound}
use Rattle.ebpf_parts.specs.declared.maps.either.Map.{Map}

-- bytes for the data of a map from an offset on
pub record PatchValue : Type 0 where
  pub map_name : List ℕ
  pub offset : ℕ
  pub bytes : List ℕ

-- the data with other bytes from an offset on; it stays where they pass its end
abbrev pub overwritten : List ℕ → ℕ → List ℕ → List ℕ
overwritten old offset bytes =
    if nat_le (offset + length bytes) (length old)
    then take offset old ++ (bytes ++ drop (offset + length bytes) old)
    else old

abbrev pub patched_at : FinMap text_cmp Map → PatchValue → Option Map → FinMap text_cmp Map
patched_at maps p None = maps
patched_at maps p (Some m) =
    insert maps p.map_name (with_bytes m (overwritten (bytes_of m) p.offset p.bytes))

-- the maps with one patch written
abbrev pub with_patch : FinMap text_cmp Map → PatchValue → FinMap text_cmp Map
with_patch maps p = patched_at maps p (get maps p.map_name)

-- the maps with patches written, later ones over earlier ones
abbrev pub all_patched : FinMap text_cmp Map → List PatchValue → FinMap text_cmp Map
all_patched maps patches = fold with_patch maps patches

abbrev pub named_by : ℕ → Option (List ℕ) → List (List ℕ × ℕ)
named_by number None = []
named_by number (Some name) = (name, number) ∷ []

abbrev pub named_at : ℕ → Option Symbol → List (List ℕ × ℕ)
named_at number None = []
named_at number (Some s) = named_by number s.name

-- the indices of the symbols by their names: of equal names the greatest
abbrev pub symbol_indices : FinMap nat_cmp Symbol → FinMap text_cmp ℕ
symbol_indices symbols =
    put_all empty
    (flat_map (λ number. named_at number (get symbols number)) (keys_of (entries symbols)))

abbrev pub symbol_named : FinMap nat_cmp Symbol → List ℕ → Option Symbol
symbol_named symbols name = option_and_then (get symbols) (get (symbol_indices symbols) name)

-- the name of the first map, in byte order of the names, whose section it is
abbrev pub first_map : FinMap text_cmp Map → ℕ → Option (List ℕ)
first_map maps section =
    option_map (λ e. e.0) (find (λ e. section == section_index_of e.1) (entries maps))

abbrev pub map_in_section : FinMap text_cmp Map → Option ℕ → Option (List ℕ)
map_in_section maps None = None
map_in_section maps (Some section) = first_map maps section

-- a variable's value, and whether the object has to have it
abbrev pub Global : Type 0
Global = List ℕ × Bool

abbrev pub map_data_of : Option Map → List ℕ
map_data_of None = []
map_data_of (Some m) = bytes_of m

abbrev pub in_map : FinMap text_cmp Map → List ℕ → List ℕ → Symbol → Option (List ℕ)
    → Result (List PatchValue) ParseError
in_map maps name bytes s None = Err (MapNotFound (unwrap_or s.section_index 0))
in_map maps name bytes s (Some map_name) =
    if nat_le (s.address + length bytes) (length (map_data_of (get maps map_name)))
    then Ok (record { map_name = map_name; offset = s.address; bytes = bytes } ∷ [])
    else Err (InvalidGlobalData name s.size (length bytes))

abbrev pub of_symbol : FinMap text_cmp Map → List ℕ → List ℕ → Symbol
    → Result (List PatchValue) ParseError
of_symbol maps name bytes s =
    if length bytes == s.size
    then in_map maps name bytes s (map_in_section maps s.section_index)
    else Err (InvalidGlobalData name s.size (length bytes))

abbrev pub by_symbol : FinMap text_cmp Map → List ℕ → Global → Option Symbol
    → Result (List PatchValue) ParseError
by_symbol maps name g None = if g.1 then Err (SymbolNotFound name) else Ok []
by_symbol maps name g (Some s) = of_symbol maps name g.0 s

-- what writing a variable's value asks for, or its fault
unfoldable pub patch_of : FinMap nat_cmp Symbol → FinMap text_cmp Map → List ℕ → Global
    → Result (List PatchValue) ParseError
patch_of symbols maps name g = by_symbol maps name g (symbol_named symbols name)

abbrev pub patches_in : Result (List PatchValue) ParseError → List PatchValue
patches_in (Ok patches) = patches
patches_in (Err e) = []

abbrev pub patches_at : FinMap nat_cmp Symbol → FinMap text_cmp Map → List ℕ → Option Global
    → List PatchValue
patches_at symbols maps name None = []
patches_at symbols maps name (Some g) = patches_in (patch_of symbols maps name g)

abbrev pub patch_fault_at : FinMap nat_cmp Symbol → FinMap text_cmp Map → List ℕ → Option Global
    → Option ParseError
patch_fault_at symbols maps name None = None
patch_fault_at symbols maps name (Some g) = fault_of (patch_of symbols maps name g)

-- what is to be written, in byte order of the variables' names
abbrev pub patches_of : FinMap nat_cmp Symbol → FinMap text_cmp Map → FinMap text_cmp Global
    → List PatchValue
patches_of symbols maps globals =
    flat_map (λ name. patches_at symbols maps name (get globals name)) (keys_of (entries globals))

-- the first fault, in byte order of the variables' names
abbrev pub patches_fault : FinMap nat_cmp Symbol → FinMap text_cmp Map → FinMap text_cmp Global
    → Option ParseError
patches_fault symbols maps globals =
    first_some (λ name. patch_fault_at symbols maps name (get globals name))
    (keys_of (entries globals))

-- ---- a patch as a value

abbrev pub global_of : Bor (List ℕ) × Bool → List ℕ × Bool
global_of g = (g.0.now, g.1)

-- the variables that are handed over, by name
abbrev pub globals_of : List (Bor (List ℕ) × (Bor (List ℕ) × Bool))
    → FinMap text_cmp (List ℕ × Bool)
globals_of given = from_entries (map (λ e. (e.0.now, global_of e.1)) given)

-- ---- what the values of variables make of the bytes of map data

-- the maps once the variables' values are written
abbrev pub with_values : FinMap nat_cmp Symbol → FinMap text_cmp Map → FinMap text_cmp Global
    → FinMap text_cmp Map
with_values symbols maps globals = all_patched maps (patches_of symbols maps globals)

-- the byte at an offset of a map's data
abbrev pub byte_at : FinMap text_cmp Map → List ℕ → ℕ → Option ℕ
byte_at maps map_name i = slice_get (map_data_of (get maps map_name)) i

-- a patch has a byte for an offset of a map's data
abbrev pub Covers : PatchValue → List ℕ → ℕ → Type 0
Covers p map_name i = (p.map_name ≡ map_name) × (p.offset ≤ i) × (i < p.offset + length p.bytes)

-- the value of a variable is to be written as this patch says
abbrev pub IsPatch : FinMap nat_cmp Symbol → FinMap text_cmp Map → FinMap text_cmp Global → List ℕ
    → PatchValue → Type 0
IsPatch symbols maps globals name p = patches_at symbols maps name (get globals name) ≡ p ∷ []

-- no variable with a greater name has a byte for the offset
abbrev pub NoneGreater : FinMap nat_cmp Symbol → FinMap text_cmp Map → FinMap text_cmp Global
    → List ℕ → List ℕ → ℕ → Type 0
NoneGreater symbols maps globals name map_name i =
    (other : List ℕ) (p : PatchValue) → text_cmp name other ≡ Less
    → IsPatch symbols maps globals other p → Covers p map_name i → ⊥

-- of the variables that have a byte for an offset, the one with the greatest name gives it
abbrev pub GreatestNameStands : Type 0
GreatestNameStands =
    (symbols : FinMap nat_cmp Symbol) (maps : FinMap text_cmp Map)
    (globals : FinMap text_cmp Global) (map_name : List ℕ) (i : ℕ) (name : List ℕ)
    (p : PatchValue)
    → IsPatch symbols maps globals name p
    → Covers p map_name i
    → NoneGreater symbols maps globals name map_name i
    → byte_at (with_values symbols maps globals) map_name i ≡ slice_get p.bytes (i - p.offset)

-- where no variable has a byte for an offset, the byte is as before
abbrev pub OtherBytesStay : Type 0
OtherBytesStay =
    (symbols : FinMap nat_cmp Symbol) (maps : FinMap text_cmp Map)
    (globals : FinMap text_cmp Global) (map_name : List ℕ) (i : ℕ)
    → ((name : List ℕ) (p : PatchValue) → IsPatch symbols maps globals name p → Covers p map_name i
    → ⊥)
    → byte_at (with_values symbols maps globals) map_name i ≡ byte_at maps map_name i

-- no map's data grows or shrinks
abbrev pub LengthsStay : Type 0
LengthsStay =
    (symbols : FinMap nat_cmp Symbol) (maps : FinMap text_cmp Map)
    (globals : FinMap text_cmp Global) (map_name : List ℕ)
    → length (map_data_of (get (with_values symbols maps globals) map_name))
    ≡ length (map_data_of (get maps map_name))

-- all else of each map is as before, and no map is added
abbrev pub MapsStay : Type 0
MapsStay =
    (symbols : FinMap nat_cmp Symbol) (maps : FinMap text_cmp Map)
    (globals : FinMap text_cmp Global) (map_name : List ℕ)
    → get (with_values symbols maps globals) map_name
    ≡ option_map
    (λ m. with_bytes m (map_data_of (get (with_values symbols maps globals) map_name)))
    (get maps map_name)

-- a patch of a variable is its value, at the address of its symbol, in the map of its symbol's
-- section
abbrev pub PatchesAreValues : Type 0
PatchesAreValues =
    (symbols : FinMap nat_cmp Symbol) (maps : FinMap text_cmp Map)
    (globals : FinMap text_cmp Global) (name : List ℕ) (p : PatchValue)
    → IsPatch symbols maps globals name p
    → (option_map (λ g. g.0) (get globals name) ≡ Some p.bytes)
    × (option_map (λ s. s.address) (symbol_named symbols name) ≡ Some p.offset)
    × (option_and_then (λ s. map_in_section maps s.section_index) (symbol_named symbols name)
    ≡ Some p.map_name)

-- without a fault the value of each variable that has a symbol is a patch
abbrev pub ValuesArePatches : Type 0
ValuesArePatches =
    (symbols : FinMap nat_cmp Symbol) (maps : FinMap text_cmp Map)
    (globals : FinMap text_cmp Global) (name : List ℕ) (g : Global) (s : Symbol)
    (map_name : List ℕ)
    → patches_fault symbols maps globals ≡ None
    → get globals name ≡ Some g
    → symbol_named symbols name ≡ Some s
    → map_in_section maps s.section_index ≡ Some map_name
    → IsPatch symbols maps globals name
    (record { map_name = map_name; offset = s.address; bytes = g.0 })
