-- The candidates of a local type are the kernel's types of its kind with its essential name (CO-RE,
-- "Compile Once, Run Everywhere": the kernel's tools/lib/bpf, bpf_core_find_cands).
use Rattle.std.specs.Prelude.{◌≡◌, ℕ, ◌<◌, Bool, true, false, All, List, length, map, filter}
use Rattle.std.specs.Prelude.{slice_get, Option, Some, None, Result, Ok, Err, ◌&&◌, ◌||◌}
use Rattle.std.specs.Prelude.{if◌then◌else◌, ◌/◌, ◌%◌, ◌^◌, slice_index_or, ◌==◌}
use Rattle.std.specs.List.{enumerate_from, list_any}
use Rattle.std.specs.List.Sorted.{IsStrictlyIncreasing}
use Rattle.std.specs.Str.{bytes_eq}
use Rattle.std.specs.Hash.FoldHasher as fold_hasher
use Rattle.ebpf_base.specs.Faults.{fault_of, first_some, or_else}
use Rattle.ebpf_btf.specs.declared.error.BtfError.{BtfError}
use Rattle.ebpf_btf.specs.declared.kind.BtfKind.{BtfKind}
use Rattle.ebpf_btf.specs.declared.types.BtfType.{BtfType}
use Rattle.ebpf_btf.specs.EssentialNames.{essential_name}
use Rattle.ebpf_btf.specs.Strings.{type_name}
use Rattle.ebpf_btf.specs.TypeInfo.{TypeInfo}
use Rattle.ebpf_btf.specs.Types.{is_kind, kind_of, kind_number}

-- the ids, from a number on, of the types that pass a test
abbrev pub ids_from : (BtfType → Bool) → ℕ → List BtfType → List ℕ
ids_from test id types = map (λ e. e.0) (filter (λ e. test e.1) (enumerate_from id types))

-- whether a text was read and has the essential name of another
abbrev pub is_same_essentially : List ℕ → Result (List ℕ) BtfError → Bool
is_same_essentially name (Ok text) = bytes_eq (essential_name text) (essential_name name)
is_same_essentially name (Err e) = false

-- whether a type is of a kind and has a name, both without flavor
abbrev pub is_candidate : TypeInfo → BtfKind → List ℕ → BtfType → Bool
is_candidate info kind name t = is_kind kind t && is_same_essentially name (type_name info t)

-- the ids of these types in increasing order
abbrev pub candidates : TypeInfo → BtfKind → List ℕ → List ℕ
candidates info kind name = ids_from (is_candidate info kind name) 0 info.types

-- the fault of a type's name, where the type is of a kind
abbrev pub type_name_fault : TypeInfo → BtfKind → BtfType → Option BtfError
type_name_fault info kind t = if is_kind kind t then fault_of (type_name info t) else None

-- the name fault of the lowest id of a kind whose name can't be read
abbrev pub candidates_fault : TypeInfo → BtfKind → Option BtfError
candidates_fault info kind = first_some (type_name_fault info kind) info.types

-- ---- of two kinds

-- the ids of the types of either kind in increasing order
abbrev pub candidates_of_both : TypeInfo → BtfKind → BtfKind → List ℕ → List ℕ
candidates_of_both info first second name =
    ids_from (λ t. is_candidate info first name t || is_candidate info second name t) 0 info.types

-- the name fault of the lowest id of either kind whose name can't be read
abbrev pub candidates_of_both_fault : TypeInfo → BtfKind → BtfKind → Option BtfError
candidates_of_both_fault info first second =
    first_some (λ t. or_else (type_name_fault info first t) (type_name_fault info second t))
    info.types

-- ---- what holds of them

-- an id below the number of types, whose type passes a test
pub record IsTypeWith (test : BtfType → Bool) (types : List BtfType) (id : ℕ) : Type 0 where
  pub below : id < length types
  pub passes : (t : BtfType) → slice_get types id ≡ Some t → test t ≡ true

-- each candidate is a type of the kind
abbrev pub CandidatesAreOfKind : Type 0
CandidatesAreOfKind =
    (info : TypeInfo) (kind : BtfKind) (name : List ℕ)
    → All (IsTypeWith (is_kind kind) info.types) (candidates info kind name)

abbrev pub CandidatesIncrease : Type 0
CandidatesIncrease =
    (info : TypeInfo) (kind : BtfKind) (name : List ℕ)
    → IsStrictlyIncreasing (candidates info kind name)

-- each candidate of two kinds is a type of either
abbrev pub CandidatesAreOfEither : Type 0
CandidatesAreOfEither = (info : TypeInfo) (first second : BtfKind) (name : List ℕ)
    → All (IsTypeWith (λ t. is_kind first t || is_kind second t) info.types)
    (candidates_of_both info first second name)

abbrev pub CandidatesOfBothIncrease : Type 0
CandidatesOfBothIncrease =
    (info : TypeInfo) (first second : BtfKind) (name : List ℕ)
    → IsStrictlyIncreasing (candidates_of_both info first second name)

-- ---- some kinds of types

-- whether a kind is one of some
abbrev pub is_among_kinds : List BtfKind → BtfKind → Bool
is_among_kinds kinds kind = list_any (λ k. kind_number k == kind_number kind) kinds

-- whether a kind is in a set, a list that says at each kind's number whether the kind is in it
abbrev pub has_kind : List Bool → BtfKind → Bool
has_kind kinds kind = slice_index_or kinds (kind_number kind) false

-- ---- marks of names by their hashes

-- 32 bits that follow from a name
unfoldable pub name_hash : List ℕ → ℕ
name_hash name = fold_hasher.finish (fold_hasher.write fold_hasher.initial name) / 2 ^ 32

-- whether a hash is marked: its mark is at its remainder by 16384, so that hashes of one remainder
-- share it, and past the end all are marked
abbrev pub is_hash_marked : List Bool → ℕ → Bool
is_hash_marked marks hash = slice_index_or marks (hash % 16384) true

-- the essential name of a text is marked
abbrev pub is_name_marked : List Bool → List ℕ → Bool
is_name_marked marks name = is_hash_marked marks (name_hash (essential_name name))

-- the essential names of the types of some kinds with ids below a number are marked
abbrev pub NamesBelowAreMarked : List Bool → List Bool → TypeInfo → ℕ → Type 0
NamesBelowAreMarked marks kinds info n =
    (id : ℕ) (t : BtfType) (name : List ℕ) → id < n → slice_get info.types id ≡ Some t
    → has_kind kinds (kind_of t) ≡ true → type_name info t ≡ Ok name
    → is_name_marked marks name ≡ true

-- and of all of them
abbrev pub NamesAreMarked : List Bool → List Bool → TypeInfo → Type 0
NamesAreMarked marks kinds info =
    (id : ℕ) (t : BtfType) (name : List ℕ) → slice_get info.types id ≡ Some t
    → has_kind kinds (kind_of t) ≡ true → type_name info t ≡ Ok name
    → is_name_marked marks name ≡ true

-- the types, the kinds of which it has them, and the marks of the names that it has
pub record IndexedTypes : Type 0 where
  pub info : TypeInfo
  pub kinds : List Bool
  pub marks : List Bool

-- whether it has the types of a kind and of a name
abbrev pub has_named : IndexedTypes → BtfKind → List ℕ → Bool
has_named index kind name = has_kind index.kinds kind && is_name_marked index.marks name
