-- The place of a named path in a target type: its bit offset from the start of the type, and the
-- member or element at its end (the kernel's tools/lib/bpf/relo_core.c, bpf_core_spec_match).
--
-- The equation is `place_of`; `PathLeads` says the same step by step. In `int x[2][3]` the path
-- `Index 0`, `Index 1`, `Index 2` leads to an element of `int` at bit 160: row 1 begins 12 bytes
-- from the start, and its element 2 is 8 bytes further. `Index 3` as the last step leads nowhere,
-- since a row has three elements. `proofs/Examples.antt` computes both.
use Rattle.std.specs.Prelude.{ℕ, ◌+◌, ◌*◌, ◌^◌, ◌==◌, ◌&&◌, ◌||◌, nat_lt, if◌then◌else◌, Bool}
use Rattle.std.specs.Prelude.{false, List, [], ◌∷◌, length, slice_get, Option, Some, None, Result}
use Rattle.std.specs.Prelude.{Ok, Err, option_and_then, ◌≡◌, ◌<◌, ◌≤◌, ⊤, MatchBool}
use Rattle.ebpf_base.specs.Faults.{if_ok}
use Rattle.ebpf_btf.specs.Steps.{resolved, size_of}
use Rattle.ebpf_btf.specs.TypeInfo.{TypeInfo}
use Rattle.ebpf_btf.specs.Memory.{is_btf_memory}
use Rattle.ebpf_btf.specs.Types.{array_of}
use Rattle.ebpf_btf.specs.declared.array.BtfArray.{BtfArray}
use Rattle.ebpf_btf.specs.declared.error.BtfError.{BtfError}
use Rattle.ebpf_btf.specs.declared.error.BtfError.TheVariants.{InvalidTypeInfo}
use Rattle.ebpf_btf.specs.declared.types.BtfType.{BtfType}
use Rattle.ebpf_btf.specs.declared.types.BtfType.TheVariants.{Struct}
use Rattle.ebpf_core.specs.Members.{IsEntry, ViewEntry, if_read, member_search, members_in}
use Rattle.ebpf_core.specs.Members.{MemberSearch, search_entries, first_fitting, stop}
use Rattle.ebpf_core.specs.declared.places.PlaceFault.{PlaceFault}
use Rattle.ebpf_core.specs.declared.places.PlaceFault.TheVariants.{NestingLevel, Btf}
use Rattle.ebpf_core.specs.declared.places.FieldPlace.{FieldPlace}
use Rattle.ebpf_core.specs.declared.places.PlaceEnd.{PlaceEnd}
use Rattle.ebpf_core.specs.declared.places.PlaceEnd.TheVariants.{Element, Member}
use Rattle.ebpf_core.specs.declared.member_search.Answer.{Answer}
use Rattle.ebpf_core.specs.declared.member_search.Answer.TheVariants.{Found}
use Rattle.ebpf_core.specs.declared.member_search.FoundMember.{FoundMember}
use Rattle.ebpf_core.specs.declared.places.Step.{Step}
use Rattle.ebpf_core.specs.declared.places.Step.TheVariants.{Name, Index}
use Rattle.ebpf_core.specs.declared.place_walk.TargetSpot.{TargetSpot}

-- how many parts a path may have before a step: a part is a step, or an anonymous member that a
-- step passes
abbrev pub path_parts : ℕ
path_parts = 64

-- a place so many bits from the start of the root type, if they fit 32 bits
abbrev pub checked_place : ℕ → PlaceEnd → Result FieldPlace BtfError
checked_place bits end =
    if nat_lt bits (2 ^ 32) then Ok (record { bits = bits; end = end }) else Err InvalidTypeInfo

-- a spot at a place, where a type begins, after so many parts
abbrev pub spot_at : Result FieldPlace BtfError → ℕ → ℕ → Result TargetSpot PlaceFault
spot_at checked type_id parts =
    if_read checked (λ place. Ok (record { place = place; type_id = type_id; parts = parts }))

-- where a spot is reached, a step leads there
abbrev pub some_spot : Result TargetSpot PlaceFault → Result (Option TargetSpot) PlaceFault
some_spot answer = if_ok answer (λ s. Ok (Some s))

-- ---- to an element

-- whether a member is the last one of a STRUCT
unfoldable pub is_last_of : ℕ → BtfType → Bool
is_last_of index (Struct _ _ _ members) = index + 1 == length members
is_last_of index _ = false

abbrev pub is_last_at : ℕ → Option BtfType → Bool
is_last_at index (Some t) = is_last_of index t
is_last_at index None = false

-- an element that is itself an ARRAY is no STRUCT's member
abbrev pub ends_in_last_member : List BtfType → PlaceEnd → Bool
ends_in_last_member types (Member parent index) = is_last_at index (slice_get types parent)
ends_in_last_member types (Element id) = false

-- an index has to be below the number of elements; an ARRAY of none that is the last member of a
-- STRUCT has as many as there is room for
abbrev pub is_accepted : List BtfType → PlaceEnd → ℕ → ℕ → Bool
is_accepted types end count index =
    nat_lt index count || (count == 0 && ends_in_last_member types end)

-- the element with an index, of a type of which the first begins so many bits from the start
abbrev pub element_place : List BtfType → ℕ → ℕ → ℕ → Result FieldPlace BtfError
element_place types bits type_id index =
    if_ok (size_of types type_id) (λ size.
    checked_place (bits + index * size * 8) (Element type_id))

abbrev pub element_spot : TypeInfo → ℕ → ℕ → ℕ → ℕ → Result TargetSpot PlaceFault
element_spot target bits parts type_id index =
    spot_at (element_place target.types bits type_id index) type_id parts

abbrev pub by_array : TypeInfo → TargetSpot → ℕ → Option BtfArray
    → Result (Option TargetSpot) PlaceFault
by_array target from index None = Ok None
by_array target from index (Some array) =
    if is_accepted target.types from.place.end array.len index
    then some_spot (element_spot target from.place.bits (from.parts + 1) array.element_type index)
    else Ok None

-- where an index leads in the type with an id
abbrev pub by_index : TypeInfo → TargetSpot → ℕ → ℕ → Result (Option TargetSpot) PlaceFault
by_index target from id index =
    by_array target from index (option_and_then array_of (slice_get target.types id))

-- ---- to a member

abbrev pub member_spot : TargetSpot → FoundMember → Result TargetSpot PlaceFault
member_spot from m =
    spot_at (checked_place (from.place.bits + m.bits) (Member m.parent m.index)) m.type_id
    (from.parts + m.inside + 1)

abbrev pub by_found : TargetSpot → Option FoundMember → Result (Option TargetSpot) PlaceFault
by_found from None = Ok None
by_found from (Some m) = some_spot (member_spot from m)

-- where a name leads in the type with an id
abbrev pub by_name : TypeInfo → TypeInfo → TargetSpot → ℕ → List ℕ → ℕ
    → Result (Option TargetSpot) PlaceFault
by_name local target from id name local_type =
    if_ok
    (first_fitting (member_search local target name local_type) search_entries
    (members_in target.types id)) (by_found from)

-- ---- along a path

-- where a step leads in the type with an id
abbrev pub by_step : TypeInfo → TypeInfo → TargetSpot → ℕ → Step
    → Result (Option TargetSpot) PlaceFault
by_step local target from id (Name name local_type) = by_name local target from id name local_type
by_step local target from id (Index index) = by_index target from id index

-- where a step leads from a spot
abbrev pub next_spot : TypeInfo → TypeInfo → TargetSpot → Step
    → Result (Option TargetSpot) PlaceFault
next_spot local target from by =
    if nat_lt from.parts path_parts
    then if_read (resolved target.types from.type_id) (λ id. by_step local target from id by)
    else Err NestingLevel

-- where more steps lead, once one has led to a spot
abbrev pub onward : Option TargetSpot
    → (TargetSpot → Result (Option FieldPlace) PlaceFault)
    → Result (Option FieldPlace) PlaceFault
onward None next = Ok None
onward (Some s) next = next s

-- where some steps lead from a spot
unfoldable pub place_after : TypeInfo → TypeInfo → List Step → TargetSpot
    → Result (Option FieldPlace) PlaceFault
place_after local target [] from = Ok (Some from.place)
place_after local target (by ∷ path) from =
    if_ok (next_spot local target from by) (λ led_to. onward led_to (place_after local target path))

-- the root index counts in the type that the root resolves to
abbrev pub root_spot : TypeInfo → ℕ → ℕ → Result TargetSpot PlaceFault
root_spot target root index =
    if_read (resolved target.types root) (λ id. element_spot target 0 1 id index)

-- where a path leads whose first step is the root index; another path leads nowhere
unfoldable pub place_of : TypeInfo → TypeInfo → ℕ → List Step
    → Result (Option FieldPlace) PlaceFault
place_of local target root [] = Ok None
place_of local target root (Name name local_type ∷ path) = Ok None
place_of local target root (Index index ∷ path) =
    if_ok (root_spot target root index) (place_after local target path)

-- ---- the first entry at which a search stops, by its index

-- what a search of at most so many entries does at the entry with an index, from 0
abbrev pub stop_at : MemberSearch → ℕ → ℕ → ViewEntry → Option (Result Answer PlaceFault)
stop_at member_search limit index e =
    if nat_lt index limit then stop member_search e else Some (Err NestingLevel)

-- among entries by their indices, the search stops so at one, and at none before it
pub record StopsFirst (member_search : MemberSearch) (limit : ℕ) (At : ℕ → ViewEntry → Type 0)
    (answer : Result Answer PlaceFault)
    : Type 0 where
  pub index : ℕ
  pub view_entry : ViewEntry
  pub stands : At index view_entry
  pub stops : stop_at member_search limit index view_entry ≡ Some answer
  pub before : (j : ℕ) (e : ViewEntry) → j < index → At j e → stop_at member_search limit j e ≡ None

-- the search stops at no entry
abbrev pub NeverStops : MemberSearch → ℕ → (ℕ → ViewEntry → Type 0) → Type 0
NeverStops member_search limit At =
    (j : ℕ) (e : ViewEntry) → At j e → stop_at member_search limit j e ≡ None

-- the first entry that fits, unless one up to it is faulty
abbrev pub IsFirst : MemberSearch → ℕ → (ℕ → ViewEntry → Type 0)
    → Result (Option FoundMember) PlaceFault → Type 0
IsFirst member_search limit At (Ok (Some member)) =
    StopsFirst member_search limit At (Ok (Found member))
IsFirst member_search limit At (Ok None) = NeverStops member_search limit At
IsFirst member_search limit At (Err fault) = StopsFirst member_search limit At (Err fault)

-- The first member of a name whose type fits the local one, in the view of the target type with an
-- id. A fault stands instead where an entry up to it has one, or the view is too long.
abbrev pub IsFirstMember : TypeInfo → TypeInfo → List ℕ → ℕ → ℕ
    → Result (Option FoundMember) PlaceFault → Type 0
IsFirstMember local target name local_type parent answer =
    let name_search = member_search local target name local_type in
    IsFirst name_search search_entries (IsEntry name_search 0 0 (members_in target.types parent))
    answer

-- ---- where a path leads, step by step, without a list of the entries of a view

-- A step from a spot leads so. The number of parts is tested first, then the type there is
-- resolved; an index leads to an element of it, a name to the first member of its view.
pub data StepLeads (local target : TypeInfo) (from : TargetSpot) : Step
    → Result (Option TargetSpot) PlaceFault → Type 0 where
  TooLong : (by : Step)
      → path_parts ≤ from.parts
      → StepLeads local target from by (Err NestingLevel)
  NoType : (by : Step) (e : BtfError)
      → from.parts < path_parts
      → resolved target.types from.type_id ≡ Err e
      → StepLeads local target from by (Err (Btf e))
  ToElement : (index id : ℕ) → from.parts < path_parts → resolved target.types from.type_id ≡ Ok id
      → StepLeads local target from (Index index) (by_index target from id index)
  ToMember : (name : List ℕ) (local_type id : ℕ) (first : Result (Option FoundMember) PlaceFault)
      → from.parts < path_parts
      → resolved target.types from.type_id ≡ Ok id
      → IsFirstMember local target name local_type id first
      → StepLeads local target from (Name name local_type) (if_ok first (by_found from))

-- some steps from a spot lead so: one after the other, up to the first that leads nowhere or has a
-- fault
pub data StepsLead (local target : TypeInfo) : List Step → TargetSpot
    → Result (Option FieldPlace) PlaceFault → Type 0 where
  Arrived : (from : TargetSpot) → StepsLead local target [] from (Ok (Some from.place))
  Refused : (by : Step) (path : List Step) (from : TargetSpot) (fault : PlaceFault)
      → StepLeads local target from by (Err fault)
      → StepsLead local target (by ∷ path) from (Err fault)
  Lost : (by : Step) (path : List Step) (from : TargetSpot)
      → StepLeads local target from by (Ok None)
      → StepsLead local target (by ∷ path) from (Ok None)
  Onward : (by : Step) (path : List Step) (from next : TargetSpot)
      (answer : Result (Option FieldPlace) PlaceFault)
      → StepLeads local target from by (Ok (Some next)) → StepsLead local target path next answer
      → StepsLead local target (by ∷ path) from answer

-- A path leads so from a root type. Its first step is the root index; another path leads nowhere.
pub data PathLeads (local target : TypeInfo) (root : ℕ) : List Step
    → Result (Option FieldPlace) PlaceFault → Type 0 where
  NoStep : PathLeads local target root [] (Ok None)
  NoIndex : (name : List ℕ) (local_type : ℕ) (path : List Step)
      → PathLeads local target root (Name name local_type ∷ path) (Ok None)
  NoRoot : (index : ℕ) (path : List Step) (fault : PlaceFault)
      → root_spot target root index ≡ Err fault
      → PathLeads local target root (Index index ∷ path) (Err fault)
  Begun : (index : ℕ) (path : List Step) (from : TargetSpot)
      (answer : Result (Option FieldPlace) PlaceFault)
      → root_spot target root index ≡ Ok from
      → StepsLead local target path from answer
      → PathLeads local target root (Index index ∷ path) answer

-- ---- what holds of every path and every type

-- no two answers are the first member of a name
abbrev pub FirstMemberIsOne : Type 0
FirstMemberIsOne =
    (local target : TypeInfo) (name : List ℕ) (local_type parent : ℕ)
    (a b : Result (Option FoundMember) PlaceFault)
    → IsFirstMember local target name local_type parent a
    → IsFirstMember local target name local_type parent b
    → a ≡ b

-- a path leads to the one place that `place_of` gives
abbrev pub PathLeadsSo : Type 0
PathLeadsSo =
    (local target : TypeInfo) (root : ℕ) (path : List Step)
    → PathLeads local target root path (place_of local target root path)

-- and to no other
abbrev pub PlaceIsOne : Type 0
PlaceIsOne =
    (local target : TypeInfo) (root : ℕ) (path : List Step)
    (a : Result (Option FieldPlace) PlaceFault)
    → PathLeads local target root path a → a ≡ place_of local target root path

-- ---- the one answer of this layer that no definition states: out of memory

abbrev pub is_place_memory : PlaceFault → Bool
is_place_memory NestingLevel = false
is_place_memory (Btf e) = is_btf_memory e

-- what holds of an answer holds of this one, unless it is lack of memory
abbrev pub MemoryAside : {X : Type 0} → Result X PlaceFault → (Result X PlaceFault → Type 0)
    → Type 0
MemoryAside (Ok x) Holds = Holds (Ok x)
MemoryAside (Err e) Holds = MatchBool (is_place_memory e) ⊤ (Holds (Err e))
