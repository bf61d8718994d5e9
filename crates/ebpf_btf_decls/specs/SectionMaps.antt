-- How sections of maps are read: the DATASECs of some names found in one pass, structs and names
-- remembered, and each name's map once.
use Rattle.std.specs.BTreeMap.{BTreeMap, get as at_key}
use Rattle.std.specs.Bool.{MatchBool}
use Rattle.std.specs.FinMap.{FinMap, get, insert}
use Rattle.std.specs.List.{zip, flat_map}
use Rattle.std.specs.Ordering.{nat_cmp}
use Rattle.std.specs.Prelude.{◌≡◌, ℕ, List, Result, Ok, Some, zero, suc, [], ◌∷◌, length, Option}
use Rattle.std.specs.Prelude.{slice_get, ◌≤◌, ◌++◌, Bool, true, None, is_some}
use Rattle.ebpf_base.specs.Faults.{first_some, or_else, fault_of}
use Rattle.ebpf_btf.specs.Next.{if_some}
use Rattle.ebpf_base.specs.Maps.{last_at, put_all, text_cmp}
use Rattle.ebpf_btf.specs.Strings.{text_at}
use Rattle.ebpf_btf.specs.TypeInfo.{TypeInfo}
use Rattle.ebpf_btf.specs.Types.{name_off}
use Rattle.ebpf_btf.specs.declared.error.BtfError.{BtfError}
use Rattle.ebpf_btf.specs.declared.error.BtfError.TheVariants.{InvalidStringOffset}
use Rattle.ebpf_btf.specs.declared.members.DataSecEntry.{DataSecEntry}
use Rattle.ebpf_btf.specs.declared.types.BtfType.{BtfType}
use Rattle.ebpf_btf_decls.specs.DataSections.{datasec_match, datasec_entries, matched_entries}
use Rattle.ebpf_btf_decls.specs.DataSections.{given}
use Rattle.ebpf_btf_decls.specs.Maps.{inner_struct_definition, struct_definitions, entries_maps}
use Rattle.ebpf_btf_decls.specs.Maps.{entries_fault, btf_maps, btf_maps_fault, map_with_symbol}
use Rattle.ebpf_btf_decls.specs.declared.data_sections.NamedSections.{NamedSections}
use Rattle.ebpf_btf_decls.specs.declared.distinct_maps.DistinctMaps.{DistinctMaps}
use Rattle.ebpf_btf_decls.specs.declared.known_structs.KnownStructs.{KnownStructs}
use Rattle.ebpf_btf_decls.specs.declared.members.MapDefinitions.{MapDefinitions}
use Rattle.ebpf_btf_decls.specs.declared.numbered_names.NumberedNames.{NumberedNames}
use Rattle.ebpf_parts.specs.declared.error.ParseError.{ParseError}
use Rattle.ebpf_parts.specs.declared.error.ParseError.TheVariants as errors
use Rattle.ebpf_parts.specs.declared.maps.definition.BtfMapDef.{BtfMapDef}
use Rattle.ebpf_parts.specs.declared.maps.either.Map.{Map}
use Rattle.ebpf_parts.specs.declared.parse_mode.ParseMode.{ParseMode}

-- ---- what structs say of maps, remembered by their ids

-- what is remembered is what the structs say, whatever the map's name
pub record Remembers {X : Type 0} (value_of : List ℕ → ℕ → Result X BtfError)
    (known : BTreeMap ℕ X)
    : Type 0 where
  pub known_is : (id : ℕ) (d : X) → at_key nat_cmp known id ≡ Some d → (name : List ℕ)
      → value_of name id ≡ Ok d

abbrev pub RemembersInner : ParseMode → TypeInfo → BTreeMap ℕ BtfMapDef → Type 0
RemembersInner mode info known = Remembers (inner_struct_definition mode info) known

-- of maps, and of the maps that they hold
pub record Knows (mode : ParseMode) (info : TypeInfo) (known : KnownStructs) : Type 0 where
  pub maps : Remembers (struct_definitions mode info) known.maps
  pub inner_maps : RemembersInner mode info known.inner_maps

-- ---- names with numbers in the order in which they were met, and what was said last of each

-- a list with a value at a place, or behind the others
abbrev pub put_at : {X : Type 0} → List X → ℕ → X → List X
put_at [] n x = x ∷ []
put_at (y ∷ ys) zero x = x ∷ ys
put_at (y ∷ ys) (suc n) x = y ∷ put_at ys n x

-- each name occurs once, at its number
pub record AreDistinct (names : List (List ℕ)) (numbers : FinMap text_cmp ℕ) : Type 0 where
  pub is : (name : List ℕ) (n : ℕ) → get numbers name ≡ Some n → slice_get names n ≡ Some name
  pub once : (name : List ℕ) (n : ℕ) → slice_get names n ≡ Some name → get numbers name ≡ Some n

-- to which offsets of the name lead
pub record AreNumbered (strings : List ℕ) (names : NumberedNames) : Type 0 where
  pub distinct : AreDistinct names.names names.numbers
  pub offsets : (offset n : ℕ)
      → at_key nat_cmp names.offsets offset ≡ Some n
      → (name : List ℕ) × (text_at strings offset ≡ Ok name) × (slice_get names.names n ≡ Some name)

-- the number of a name, which may be new
pub record HasNumber (before after : List (List ℕ)) (name : List ℕ) (n : ℕ) : Type 0 where
  pub is : slice_get after n ≡ Some name
  pub names : after ≡ put_at before n name
  pub here : (q : List ℕ) → slice_get before n ≡ Some q → q ≡ name
  pub only : (m : ℕ) → slice_get before m ≡ Some name → m ≡ n

-- the last value of each name among entries, and the names in the order of their first entries
pub record AreKept {X : Type 0} (names : List (List ℕ)) (last : List X)
    (entries : List (List ℕ × X))
    : Type 0 where
  pub each : length names ≡ length last
  pub values : (q : List ℕ) (before : Option X)
      → last_at text_cmp q before (zip names last) ≡ last_at text_cmp q before entries
  pub first : (f : List ℕ → Option ParseError)
      → first_some (λ e. f e.0) (zip names last) ≡ first_some (λ e. f e.0) entries

-- ---- the DATASECs of some names, found in one pass over the types

-- the fault of a DATASEC's name
unfoldable pub datasec_name_fault : TypeInfo → BtfType → Option BtfError
datasec_name_fault info t =
    if_some (datasec_entries t) (λ entries. fault_of (text_at info.strings (name_off t))) None

-- ---- entries by names

-- more entries of a name, where the name is looked for
unfoldable pub with_entries : FinMap text_cmp (List DataSecEntry) → List ℕ → List DataSecEntry
    → FinMap text_cmp (List DataSecEntry)
with_entries found name more =
    if_some (get found name) (λ had. insert found name (had ++ more)) found

-- the names that are looked for have no entries yet, and none is longer
pub record AreWithoutEntries (longest : ℕ) (found : FinMap text_cmp (List DataSecEntry))
    : Type 0 where
  pub is : (name : List ℕ) (entries : List DataSecEntry)
      → get found name ≡ Some entries
      → (entries ≡ []) × (length name ≤ longest)

-- no name that is looked for is longer
pub record NamesAreWithin (longest : ℕ) (found : FinMap text_cmp (List DataSecEntry)) : Type 0 where
  pub is : (name : List ℕ) (entries : List DataSecEntry)
      → get found name ≡ Some entries
      → length name ≤ longest

-- each name that was looked for is looked for still
abbrev pub Stay : FinMap text_cmp (List DataSecEntry) → FinMap text_cmp (List DataSecEntry) → Type 0
Stay before after =
    (name : List ℕ) → is_some (get before name) ≡ true → is_some (get after name) ≡ true

-- of each name that is looked for the entries of this type are added, where it is a DATASEC of the
-- name
pub record EntriesAreAdded (info : TypeInfo) (t : BtfType)
    (before after : FinMap text_cmp (List DataSecEntry))
    : Type 0 where
  pub entries : (name : List ℕ) (entries : List DataSecEntry) → get after name ≡ Some entries
      → (had : List DataSecEntry)
      × (get before name ≡ Some had)
      × (entries ≡ had ++ matched_entries (datasec_match info name t))
  pub stay : Stay before after

-- so it is where the type's name can be read, or else nothing changes
abbrev pub IsScanned : TypeInfo → BtfType → FinMap text_cmp (List DataSecEntry)
    → FinMap text_cmp (List DataSecEntry) → Bool → Type 0
IsScanned info t before after readable =
    MatchBool readable (EntriesAreAdded info t before after × (datasec_name_fault info t ≡ None))
    ((after ≡ before) × (datasec_name_fault info t ≡ Some (InvalidStringOffset (name_off t))))

-- ---- what they declare

-- a name that can't be read, at its offset
abbrev pub unreadable_name_fault : Option ℕ → Option ParseError
unreadable_name_fault None = None
unreadable_name_fault (Some offset) = Some (errors.BtfError (InvalidStringOffset offset))

-- of each name the entries have the BTF-defined maps that all types have in a section of the name
pub record AreFound (info : TypeInfo) (found : NamedSections) : Type 0 where
  pub maps : (mode : ParseMode) (name : List ℕ) (entries : List DataSecEntry)
      → get found.by_name name ≡ Some entries
      → found.unreadable ≡ None
      → (symbols : List ℕ → Option ℕ) (section : ℕ)
      → entries_maps mode info symbols section entries ≡ btf_maps mode info symbols section name
  pub fault : (mode : ParseMode) (name : List ℕ) (entries : List DataSecEntry)
      → get found.by_name name ≡ Some entries
      → (symbols : List ℕ → Option ℕ) (section : ℕ)
      → or_else (entries_fault mode info symbols section entries)
      (unreadable_name_fault found.unreadable)
      ≡ btf_maps_fault mode info symbols section name

-- ---- as maps of a section with this index, the symbols of which have these indices

-- a name that has no symbol
abbrev pub missing : (List ℕ → Option ℕ) → List ℕ → Option ParseError
missing symbols name = if_some (symbols name) (λ y. None) (Some (errors.SymbolNotFound name))

abbrev pub HasSymbol : (List ℕ → Option ℕ) → List ℕ → MapDefinitions → Type 0
HasSymbol symbols name d = missing symbols name ≡ None

-- the maps with these names and definitions
abbrev pub defined_maps : (List ℕ → Option ℕ) → ℕ → List (List ℕ × MapDefinitions)
    → List (List ℕ × Map)
defined_maps symbols section all =
    flat_map (λ p. given (map_with_symbol symbols section (Ok p))) all

abbrev pub distinct_maps : (List ℕ → Option ℕ) → ℕ → DistinctMaps → List (List ℕ × Map)
distinct_maps symbols section distinct =
    defined_maps symbols section (zip distinct.names.names distinct.last)

abbrev pub distinct_fault : (List ℕ → Option ℕ) → DistinctMaps → Option ParseError
distinct_fault symbols distinct =
    first_some (λ p. missing symbols p.0) (zip distinct.names.names distinct.last)

-- ---- by the names of sections

-- the BTF-defined maps of a section of the name, key by key
pub record AreMapsOf (mode : ParseMode) (info : TypeInfo) (name : List ℕ) (distinct : DistinctMaps)
    : Type 0 where
  pub maps : (symbols : List ℕ → Option ℕ) (section : ℕ) (m : FinMap text_cmp Map) (q : List ℕ)
      → get (put_all m (distinct_maps symbols section distinct)) q
      ≡ get (put_all m (btf_maps mode info symbols section name)) q
  pub fault : (symbols : List ℕ → Option ℕ) (section : ℕ)
      → distinct_fault symbols distinct ≡ btf_maps_fault mode info symbols section name

-- in one reading, of each of some names
pub record AreSectionMaps (mode : ParseMode) (info : TypeInfo)
    (distinct : FinMap text_cmp DistinctMaps)
    : Type 0 where
  pub are : (name : List ℕ) (k : DistinctMaps) → get distinct name ≡ Some k
      → AreMapsOf mode info name k
