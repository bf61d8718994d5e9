-- The members of a type, in one list with those of its anonymous members, and the first of a name
-- in that list (the kernel's tools/lib/bpf/relo_core.c, bpf_core_match_member).
--
-- The view of `struct { long state; union { int flags; int pid; }; }` has four entries: `state`,
-- the anonymous union, `flags` and `pid`, the last two inside one anonymous member and at bit 64.
use Rattle.std.specs.Prelude.{ℕ, ◌==◌, nat_lt, if◌then◌else◌, List, [], map, slice_get, unwrap_or}
use Rattle.std.specs.Prelude.{Result, Ok, Err, zero, suc, ◌+◌, Bool, true, false, ◌∷◌, ◌≡◌, ◌<◌}
use Rattle.std.specs.Prelude.{◌≤◌, ◌^◌, Option, Some, None}
use Rattle.std.specs.List.{enumerate_from, flat_map}
use Rattle.std.specs.Option.{option_map_or}
use Rattle.ebpf_btf.specs.declared.error.BtfError.{BtfError}
use Rattle.ebpf_btf.specs.declared.members.BtfMember.{BtfMember}
use Rattle.ebpf_btf.specs.declared.types.BtfType.{BtfType}
use Rattle.ebpf_core_candidates.specs.Compatibility.{fields_compatible}
use Rattle.ebpf_btf.specs.Steps.{resolved}
use Rattle.ebpf_btf.specs.Strings.{is_name_at}
use Rattle.ebpf_btf.specs.TypeInfo.{TypeInfo}
use Rattle.ebpf_btf.specs.Types.{bit_offset, members_of}
use Rattle.ebpf_core.specs.declared.places.PlaceFault.{PlaceFault}
use Rattle.ebpf_core.specs.declared.places.PlaceFault.TheVariants.{NestingLevel, Btf}
use Rattle.ebpf_core.specs.declared.member_search.Role.{Role}
use Rattle.ebpf_core.specs.declared.member_search.Role.TheVariants.{Anonymous, Other, Fitting}
use Rattle.ebpf_core.specs.declared.member_search.Role.TheVariants.{Misfit}
use Rattle.ebpf_core.specs.declared.member_search.Answer.{Answer}
use Rattle.ebpf_core.specs.declared.member_search.Answer.TheVariants.{Found, Absent}
use Rattle.ebpf_core.specs.declared.member_search.FoundMember.{FoundMember}

-- ---- the members of a type

-- a member: the id of the type that has it, its index there, its name's offset, its type and
-- its first bit
pub record Member : Type 0 where
  pub parent : ℕ
  pub index : ℕ
  pub name : ℕ
  pub type_id : ℕ
  pub bits : ℕ

abbrev pub indexed_member : ℕ → BtfType → ℕ × BtfMember → Member
indexed_member id t e =
    record {
      parent = id;
      index = e.0;
      name = e.1.name_offset;
      type_id = e.1.btf_type;
      bits = bit_offset t e.1;
    }

-- members from an index on
abbrev pub members_from : ℕ → BtfType → ℕ → List BtfMember → List Member
members_from id t first members = map (indexed_member id t) (enumerate_from first members)

-- the members of the type with an id; a type that is no STRUCT or UNION has none
unfoldable pub members_in : List BtfType → ℕ → List Member
members_in types id =
    option_map_or (λ t. members_from id t 0 (unwrap_or (members_of t) [])) (slice_get types id) []

-- ---- what a member is to a search

-- inside how many anonymous members another anonymous one is looked into at most
abbrev pub anonymous_levels : ℕ
anonymous_levels = 64

-- what follows an answer about types that is no fault
abbrev pub if_read : {A X : Type 0} → Result A BtfError → (A → Result X PlaceFault)
    → Result X PlaceFault
if_read (Ok x) next = next x
if_read (Err e) next = Err (Btf e)

-- an anonymous member inside so many others leads to the type that its own resolves to
abbrev pub anonymous_role : TypeInfo → ℕ → ℕ → Result Role PlaceFault
anonymous_role target inside type_id =
    if nat_lt inside anonymous_levels
    then if_read (resolved target.types type_id) (λ id. Ok (Anonymous id))
    else Err NestingLevel

-- a member of the name fits where the local member's type is compatible with its own
abbrev pub named_role : TypeInfo → TypeInfo → List ℕ → ℕ → ℕ → ℕ → Result Role PlaceFault
named_role local target name local_type name_offset type_id =
    if_read (is_name_at target.strings name_offset name) (λ same.
    if same
    then if_read (fields_compatible local local_type target type_id) (λ fits.
    Ok (if fits then Fitting else Misfit))
    else Ok Other)

-- what a member inside so many anonymous ones is, by its name's offset and its type
abbrev pub role : TypeInfo → TypeInfo → List ℕ → ℕ → ℕ → ℕ → ℕ → Result Role PlaceFault
role local target name local_type inside name_offset type_id =
    if name_offset == 0
    then anonymous_role target inside type_id
    else named_role local target name local_type name_offset type_id

-- what a search for a name knows: the members of a type, and what a member inside so many anonymous
-- ones is to it
pub record MemberSearch : Type 0 where
  pub members_of : ℕ → List Member
  pub role_of : ℕ → Member → Result Role PlaceFault

-- a search in the target for a name and a type that fits the local one
unfoldable pub member_search : TypeInfo → TypeInfo → List ℕ → ℕ → MemberSearch
member_search local target name local_type = record {
  members_of = members_in target.types;
  role_of = λ inside m. role local target name local_type inside m.name m.type_id;
}

-- ---- the view of a type: its members, those of its anonymous members among them

-- a member, the number of anonymous members around it, and its first bit, counted from the
-- outermost type
pub record ViewEntry : Type 0 where
  pub member : Member
  pub inside : ℕ
  pub bits : ℕ

-- the entry of a member of a type that begins at a bit
abbrev pub view_entry : ℕ → ℕ → Member → ViewEntry
view_entry inside bits m = record { member = m; inside = inside; bits = bits + m.bits }

abbrev pub is_misfit : Result Role PlaceFault → Bool
is_misfit (Ok Misfit) = true
is_misfit _ = false

-- a type's own list ends with its first member of the name whose type does not fit
abbrev pub own : MemberSearch → ℕ → List Member → List Member
own member_search inside [] = []
own member_search inside (m ∷ ms) =
    m ∷ (if is_misfit (member_search.role_of inside m) then [] else own member_search inside ms)

abbrev pub below : (ℕ → List ViewEntry) → Result Role PlaceFault → List ViewEntry
below inner (Ok (Anonymous id)) = inner id
below inner _ = []

-- the members of a type's own list, each anonymous one followed by what lies deeper
abbrev pub flat_view : MemberSearch → (ℕ → ℕ → List Member → List ViewEntry) → ℕ → ℕ → List Member
    → List ViewEntry
flat_view member_search deeper inside bits ms =
    flat_map
    (λ m.
    view_entry inside bits m
    ∷ below (λ id. deeper (inside + 1) (bits + m.bits) (member_search.members_of id))
    (member_search.role_of inside m)) (own member_search inside ms)

abbrev pub empty_view : ℕ → ℕ → List Member → List ViewEntry
empty_view inside bits ms = []

-- The view of some members, which goes down so many levels: each member of the type's own list, an
-- anonymous one followed by the view of its type.
unfoldable pub view : MemberSearch → ℕ → ℕ → ℕ → List Member → List ViewEntry
view member_search zero = flat_view member_search empty_view
view member_search (suc levels) = flat_view member_search (view member_search levels)

-- ---- the entries of a view by their indices, without a list of them

-- a member after which its type's own list goes on, and which no other type's view follows
abbrev pub IsLeaf : Result Role PlaceFault → Type 0
IsLeaf (Ok (Anonymous id)) = ⊥
IsLeaf (Ok Misfit) = ⊥
IsLeaf (Ok Other) = Unit {0}
IsLeaf (Ok Fitting) = Unit {0}
IsLeaf (Err fault) = Unit {0}

-- so many entries does the view of these members have, which lie inside so many anonymous ones
pub data HasCount (member_search : MemberSearch) : ℕ → List Member → ℕ → Type 0 where
  Empty : (inside : ℕ) → HasCount member_search inside [] 0
  Ended : (inside : ℕ) (m : Member) (ms : List Member)
      → member_search.role_of inside m ≡ Ok Misfit
      → HasCount member_search inside (m ∷ ms) 1
  Plain : (inside : ℕ) (m : Member) (ms : List Member) (n : ℕ)
      → IsLeaf (member_search.role_of inside m)
      → HasCount member_search inside ms n
      → HasCount member_search inside (m ∷ ms) (suc n)
  Opened : (inside : ℕ) (m : Member) (ms : List Member) (id k n : ℕ)
      → member_search.role_of inside m ≡ Ok (Anonymous id)
      → HasCount member_search (inside + 1) (member_search.members_of id) k
      → HasCount member_search inside ms n
      → HasCount member_search inside (m ∷ ms) (suc (k + n))

-- the entry with this index in the view of these members, which lie inside so many anonymous ones
-- and begin at a bit
pub data IsEntry (member_search : MemberSearch) : ℕ → ℕ → List Member → ℕ → ViewEntry → Type 0 where
  Front : (inside bits : ℕ) (m : Member) (ms : List Member)
      → IsEntry member_search inside bits (m ∷ ms) 0 (view_entry inside bits m)
  Next : (inside bits : ℕ) (m : Member) (ms : List Member) (k : ℕ) (e : ViewEntry)
      → IsLeaf (member_search.role_of inside m)
      → IsEntry member_search inside bits ms k e
      → IsEntry member_search inside bits (m ∷ ms) (suc k) e
  Within : (inside bits : ℕ) (m : Member) (ms : List Member) (id k : ℕ) (e : ViewEntry)
      → member_search.role_of inside m ≡ Ok (Anonymous id)
      → IsEntry member_search (inside + 1) (bits + m.bits) (member_search.members_of id) k e
      → IsEntry member_search inside bits (m ∷ ms) (suc k) e
  Behind : (inside bits : ℕ) (m : Member) (ms : List Member) (id n k : ℕ) (e : ViewEntry)
      → member_search.role_of inside m ≡ Ok (Anonymous id)
      → HasCount member_search (inside + 1) (member_search.members_of id) n
      → IsEntry member_search inside bits ms k e
      → IsEntry member_search inside bits (m ∷ ms) (suc (n + k)) e

-- ---- the first entry of a view at which a search stops

-- how many entries a search looks at
abbrev pub search_entries : ℕ
search_entries = 1048576

abbrev pub found_member : ViewEntry → FoundMember
found_member e =
    record {
      bits = e.bits;
      inside = e.inside;
      parent = e.member.parent;
      index = e.member.index;
      type_id = e.member.type_id;
    }

abbrev pub stop_by : Result Role PlaceFault → ViewEntry → Option (Result Answer PlaceFault)
stop_by (Ok Fitting) e = Some (Ok (Found (found_member e)))
stop_by (Err fault) e = Some (Err fault)
stop_by _ e = None

-- whether a search stops at an entry, and with what
abbrev pub stop : MemberSearch → ViewEntry → Option (Result Answer PlaceFault)
stop member_search e = stop_by (member_search.role_of e.inside e.member) e

abbrev pub or_on : Option (Result Answer PlaceFault) → Result Answer PlaceFault
    → Result Answer PlaceFault
or_on (Some answer) next = answer
or_on None next = next

-- the result of a search of so many entries
unfoldable pub run_search : MemberSearch → ℕ → List ViewEntry → Result Answer PlaceFault
run_search member_search left [] = Ok (Absent left)
run_search member_search zero (e ∷ es) = Err NestingLevel
run_search member_search (suc left) (e ∷ es) =
    or_on (stop member_search e) (run_search member_search left es)

abbrev pub answer_member : Result Answer PlaceFault → Result (Option FoundMember) PlaceFault
answer_member (Ok (Found member)) = Ok (Some member)
answer_member (Ok (Absent left)) = Ok None
answer_member (Err fault) = Err fault

-- what a search of so many entries finds in the view of some members
unfoldable pub first_fitting : MemberSearch → ℕ → List Member
    → Result (Option FoundMember) PlaceFault
first_fitting member_search limit ms =
    answer_member (run_search member_search limit (view member_search anonymous_levels 0 0 ms))

abbrev pub IsFoundSmall : Result (Option FoundMember) PlaceFault → Type 0
IsFoundSmall (Ok (Some member)) = (member.bits < 2 ^ 39) × (member.inside ≤ anonymous_levels)
IsFoundSmall (Ok None) = Unit {0}
IsFoundSmall (Err fault) = Unit {0}

-- a found member lies near, and inside few anonymous ones
abbrev pub IsSmall : Result Answer PlaceFault → Type 0
IsSmall (Ok (Found member)) = (member.bits < 2 ^ 39) × (member.inside ≤ anonymous_levels)
IsSmall (Ok (Absent left)) = Unit {0}
IsSmall (Err fault) = Unit {0}
