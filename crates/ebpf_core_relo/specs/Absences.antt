-- Why a record has no value: how far along its path the kernel's types come, and what is missing
-- there.
use Rattle.std.specs.Prelude.{ℕ, zero, suc, ◌==◌, nat_lt, Bool, true, false, List, [], ◌∷◌, length}
use Rattle.std.specs.Prelude.{take, fold, Option, Some, None, option_map, option_and_then}
use Rattle.std.specs.Prelude.{unwrap_or, Result, Ok, Err, slice_get, if◌then◌else◌, ◌≡◌, ◌≢◌, ◌<◌}
use Rattle.std.specs.Prelude.{◌≤◌}
use Rattle.std.specs.List.{list_any}
use Rattle.std.specs.Result.{result_ok}
use Rattle.ebpf_btf.specs.Steps.{resolved_type, resolved}
use Rattle.ebpf_btf.specs.Strings.{is_text, text_at}
use Rattle.ebpf_btf.specs.TypeInfo.{TypeInfo}
use Rattle.ebpf_btf.specs.Types.{members_of}
use Rattle.ebpf_btf.specs.declared.error.BtfError.{BtfError}
use Rattle.ebpf_btf.specs.declared.members.BtfMember.{BtfMember}
use Rattle.ebpf_btf.specs.declared.types.BtfType.{BtfType}
use Rattle.ebpf_core.specs.Members.{anonymous_levels, member_search, members_in, is_misfit, view}
use Rattle.ebpf_core.specs.Members.{search_entries, first_fitting}
use Rattle.ebpf_core.specs.Places.{place_of}
use Rattle.ebpf_core.specs.declared.places.PlaceFault.{PlaceFault}
use Rattle.ebpf_core.specs.declared.places.FieldPlace.{FieldPlace}
use Rattle.ebpf_core.specs.declared.places.PlaceEnd.{PlaceEnd}
use Rattle.ebpf_core.specs.declared.places.PlaceEnd.TheVariants.{Element, Member}
use Rattle.ebpf_core.specs.declared.places.Step.{Step}
use Rattle.ebpf_core.specs.declared.places.Step.TheVariants.{Name, Index}
use Rattle.ebpf_btf_ext.specs.declared.relocation.Relocation.{Relocation}
use Rattle.ebpf_core.specs.Fields.{member_with_index}
use Rattle.ebpf_core.specs.LocalPaths.{local_path}
use Rattle.ebpf_core.specs.Searches.{candidates_for, outcome_of}
use Rattle.ebpf_core.specs.declared.error.RelocationError.{RelocationError}
use Rattle.ebpf_core.specs.declared.paths.LocalPath.{LocalPath}
use Rattle.ebpf_core.specs.declared.paths.NamedPath.{NamedPath}
use Rattle.ebpf_core.specs.Outcomes.{matches}
use Rattle.ebpf_core.specs.declared.matches.Match.{Match}
use Rattle.ebpf_core.specs.declared.outcome.Outcome.{Outcome}
use Rattle.ebpf_core.specs.declared.paths.NamedPath.TheVariants as paths
use Rattle.ebpf_core_relo.specs.declared.absence.Absence.{Absence}
use Rattle.ebpf_core_relo.specs.declared.absence.Absence.TheVariants.{NoType, TypeOfAnotherKind}
use Rattle.ebpf_core_relo.specs.declared.absence.Absence.TheVariants.{NoMember, MemberOfAnotherKind}
use Rattle.ebpf_core_relo.specs.declared.absence.Absence.TheVariants.{NoEnumerator, NoValue}
use Rattle.ebpf_core_relo.specs.declared.absence.Furthest.{Furthest}

-- ---- how far a path leads

abbrev pub is_place : Result (Option FieldPlace) PlaceFault → Bool
is_place (Ok (Some place)) = true
is_place (Ok None) = false
is_place (Err fault) = false

-- whether the first n steps of a path lead somewhere in a candidate
abbrev pub leads : TypeInfo → TypeInfo → List Step → ℕ → ℕ → Bool
leads local target steps id n = is_place (place_of local target id (take n steps))

-- the greatest number up to a limit that passes a test, or 0
abbrev pub greatest : (ℕ → Bool) → ℕ → ℕ
greatest test zero = 0
greatest test (suc n) = if test (suc n) then suc n else greatest test n

-- how many steps of a path lead somewhere in a candidate: the length of its longest beginning that
-- does
unfoldable pub reach : TypeInfo → TypeInfo → List Step → ℕ → ℕ
reach local target steps id = greatest (leads local target steps id) (length steps)

-- of a candidate and those before it the one that comes furthest, the first of those that come as
-- far
abbrev pub further : Furthest → ℕ → ℕ → Furthest
further so_far id steps =
    if nat_lt so_far.steps steps then record { candidate = Some id; steps = steps } else so_far

abbrev pub nowhere : Furthest
nowhere = record { candidate = None; steps = 0 }

unfoldable pub furthest : TypeInfo → TypeInfo → List Step → List ℕ → Furthest
furthest local target steps ids =
    fold (λ so_far id. further so_far id (reach local target steps id)) nowhere ids

-- ---- whether a type has a name

-- the members of the type that an id resolves to
abbrev pub members_of_id : TypeInfo → ℕ → List BtfMember
members_of_id target id =
    unwrap_or (option_and_then members_of (result_ok (resolved_type target.types id))) []

-- whether a member has a name; an anonymous one is identified by the type that it leads to
abbrev pub is_or_has : TypeInfo → List ℕ → (ℕ → Bool) → BtfMember → Bool
is_or_has target name inner m =
    if m.name_offset == 0
    then inner m.btf_type
    else is_text name (text_at target.strings m.name_offset)

-- whether one of some members has a name, or one inside of an anonymous one of them, which is
-- looked into so many levels down
unfoldable pub has_member : TypeInfo → List ℕ → ℕ → List BtfMember → Bool
has_member target name zero members = list_any (is_or_has target name (λ id. false)) members
has_member target name (suc levels) members =
    list_any (is_or_has target name (λ id. has_member target name levels (members_of_id target id)))
    members

-- ---- what is missing

-- the id of the type of what a path ends in
abbrev pub type_of_end : List BtfType → PlaceEnd → Option ℕ
type_of_end types (Element id) = Some id
type_of_end types (Member parent index) =
    option_map (λ m. m.btf_type)
    (option_and_then (λ t. member_with_index t index) (slice_get types parent))

abbrev pub is_member_of : TypeInfo → List ℕ → Option ℕ → Bool
is_member_of target name None = false
is_member_of target name (Some id) =
    has_member target name anonymous_levels (members_of_id target id)

-- A step by a name that leads nowhere from a place: a member of the name that is there has a type
-- that doesn't fit.
abbrev pub name_absence : TypeInfo → List ℕ → Result (Option FieldPlace) PlaceFault → Absence
name_absence target name (Ok (Some place)) =
    if is_member_of target name (type_of_end target.types place.end)
    then MemberOfAnotherKind
    else NoMember
name_absence target name _ = NoMember

-- the absence at the step that leads nowhere; where no step is left, the place that was found has
-- no value
abbrev pub step_absence : TypeInfo → Result (Option FieldPlace) PlaceFault → Option Step → Absence
step_absence target from None = NoValue
step_absence target from (Some (Name name local_type)) = name_absence target name from
step_absence target from (Some (Index index)) = NoMember

-- what the candidate that comes furthest along a path lacks
abbrev pub lacks : TypeInfo → TypeInfo → List Step → ℕ → Option ℕ → Absence
lacks local target steps n None = NoMember
lacks local target steps n (Some id) =
    step_absence target (place_of local target id (take n steps)) (slice_get steps n)

unfoldable pub field_absence : TypeInfo → TypeInfo → List Step → List ℕ → Absence
field_absence local target steps ids =
    let last = furthest local target steps ids in lacks local target steps last.steps last.candidate

abbrev pub path_absence : TypeInfo → TypeInfo → NamedPath → List ℕ → Absence
path_absence local target paths.WholeType ids = TypeOfAnotherKind
path_absence local target paths.MatchedType ids = TypeOfAnotherKind
path_absence local target (paths.Variant name) ids = NoEnumerator
path_absence local target (paths.Field steps place) ids = field_absence local target steps ids

-- among the candidates of a record's local type
abbrev pub absence_among : TypeInfo → TypeInfo → NamedPath → List ℕ → Absence
absence_among local target path [] = NoType
absence_among local target path (id ∷ ids) = path_absence local target path (id ∷ ids)

abbrev pub absence_in : TypeInfo → TypeInfo → NamedPath → Result (List ℕ) BtfError → Absence
absence_in local target path (Ok ids) = absence_among local target path ids
absence_in local target path (Err e) = NoType

-- ---- of a record

-- Where a record has no value, both of its sides could be read.
abbrev pub absence_by : TypeInfo → TypeInfo → Result (List ℕ) BtfError
    → Result LocalPath RelocationError → Absence
absence_by local target ids (Ok path) = absence_in local target path.path ids
absence_by local target ids (Err fault) = NoType

-- what a record asks, without its own position: its number and its instruction make no difference
abbrev pub without_position : Relocation → Relocation
without_position r = record r { number = 0; insn_off = 0 }

-- why a record that has no value has none
unfoldable pub absence_of : TypeInfo → TypeInfo → Relocation → Absence
absence_of local target r =
    absence_by local target (candidates_for local target r.type_id)
    (local_path local (without_position r))

-- ---- what holds of the reasons why records have no value

-- A candidate comes furthest along a path, and so far: so many steps lead somewhere in it, more
-- lead nowhere in any, and in those before it not even these lead anywhere.
pub record ComesFurthest (local target : TypeInfo) (steps : List Step) (ids : List ℕ) (id n : ℕ)
    : Type 0 where
  pub index : ℕ
  pub at : slice_get ids index ≡ Some id
  pub within : n ≤ length steps
  pub there : leads local target steps id n ≡ true
  pub no_further : (k other m : ℕ) → slice_get ids k ≡ Some other → n < m → m ≤ length steps
      → leads local target steps other m ≡ false
  pub first : (k other : ℕ) → k < index → slice_get ids k ≡ Some other
      → leads local target steps other n ≡ false

abbrev pub FurthestComesFurthest : Type 0
FurthestComesFurthest =
    (local target : TypeInfo) (steps : List Step) (ids : List ℕ) (id : ℕ)
    → (furthest local target steps ids).candidate ≡ Some id
    → ComesFurthest local target steps ids id (furthest local target steps ids).steps

-- Where no candidate comes furthest, no step leads anywhere in any.
abbrev pub NoneLeads : Type 0
NoneLeads =
    (local target : TypeInfo) (steps : List Step) (ids : List ℕ)
    → (furthest local target steps ids).candidate ≡ None
    → (k other m : ℕ) → slice_get ids k ≡ Some other → m ≤ length steps
    → leads local target steps other m ≡ false

-- Both sides of a record could be read, and the reason is that of its path among its candidates.
pub record IsPathAbsence (local target : TypeInfo) (r : Relocation) : Type 0 where
  pub path : LocalPath
  pub side : local_path local (without_position r) ≡ Ok path
  pub ids : List ℕ
  pub candidates : candidates_for local target r.type_id ≡ Ok ids
  pub absence : absence_of local target r ≡ absence_among local target path.path ids

abbrev pub AbsencesAreOfPaths : Type 0
AbsencesAreOfPaths =
    (local target : TypeInfo) (r : Relocation) (outcome : Outcome)
    → outcome_of local target r ≡ Ok outcome
    → outcome.value ≡ None
    → IsPathAbsence local target r

-- The reason of a field is `NoValue` exactly where a candidate matches.
abbrev pub NoValueIsOfMatches : Type 0
NoValueIsOfMatches =
    (local target : TypeInfo) (local_id : ℕ) (steps : List Step) (place : FieldPlace) (ids : List ℕ)
    (found : List Match)
    → matches local target local_id (paths.Field steps place) ids ≡ Ok found
    → (field_absence local target steps ids ≡ NoValue → found ≢ [])
    × (found ≢ [] → field_absence local target steps ids ≡ NoValue)

-- Where a search for a name comes to no member whose type fits, the name stands in the type exactly
-- where the search met one whose type does not.
abbrev pub NamesAreMisfits : Type 0
NamesAreMisfits =
    (local target : TypeInfo) (name : List ℕ) (local_type type_id id : ℕ)
    → resolved target.types type_id ≡ Ok id
    → first_fitting (member_search local target name local_type) search_entries
    (members_in target.types id)
    ≡ Ok None
    → has_member target name anonymous_levels (members_of_id target type_id)
    ≡ list_any
    (λ e.
    is_misfit ((member_search local target name local_type).role_of e.inside e.member))
    (view (member_search local target name local_type) anonymous_levels 0 0
    (members_in target.types id))
