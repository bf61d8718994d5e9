-- The candidates of a local type among the target types, and the outcome of a relocation over them
-- (the kernel's tools/lib/bpf/libbpf.c, bpf_core_find_cands, and relo_core.c,
-- bpf_core_calc_relo_insn).
use Rattle.std.specs.Prelude.{ℕ, ◌&&◌, Bool, true, false, List, Option, Some, None, is_some, Result}
use Rattle.std.specs.Prelude.{Ok, Err, if◌then◌else◌, ◌≡◌, [], ◌∷◌, slice_get}
use Rattle.std.specs.BTreeMap.{BTreeMap, get}
use Rattle.std.specs.Ordering.{nat_cmp, ordering_then}
use Rattle.std.specs.declared.cmp.Ordering.{Ordering}
use Rattle.ebpf_core_candidates.specs.Candidates.{candidates, candidates_fault, candidates_of_both}
use Rattle.ebpf_core_candidates.specs.Candidates.{candidates_of_both_fault, IndexedTypes, has_named}
use Rattle.ebpf_core_candidates.specs.Candidates.{is_among_kinds}
use Rattle.ebpf_btf.specs.declared.error.BtfError.{BtfError}
use Rattle.ebpf_btf_ext.specs.declared.relocation.Relocation.{Relocation}
use Rattle.ebpf_btf_ext.specs.declared.relocation.RelocationKind.{RelocationKind}
use Rattle.ebpf_btf_ext.specs.declared.relocation.RelocationKind.TheVariants.{TypeIdLocal}
use Rattle.ebpf_btf.specs.declared.types.BtfType.{BtfType}
use Rattle.ebpf_btf.specs.Steps.{type_at}
use Rattle.ebpf_btf.specs.Strings.{type_name}
use Rattle.ebpf_btf.specs.TypeInfo.{TypeInfo}
use Rattle.ebpf_btf.specs.Types.{is_kind, kind_of}
use Rattle.ebpf_btf.specs.Variants.{variants_of}
use Rattle.ebpf_base.specs.Faults.{if_ok}
use Rattle.ebpf_btf.specs.declared.kind.BtfKind.{BtfKind}
use Rattle.ebpf_btf_ext.specs.RelocationKinds.{relocation_kind_number}
use Rattle.ebpf_btf.specs.declared.kind.BtfKind.TheVariants as kinds
use Rattle.ebpf_core.specs.declared.error.RelocationError.{RelocationError}
use Rattle.ebpf_core.specs.declared.outcome.Outcome.{Outcome}
use Rattle.ebpf_core.specs.Answers.{of_types}
use Rattle.ebpf_core.specs.LocalPaths.{local_path}
use Rattle.ebpf_core.specs.Outcomes.{outcome_among}

-- the types of an object, and those in which they are looked for
pub record Sides : Type 0 where
  pub local : TypeInfo
  pub target : TypeInfo

-- a list, where nothing keeps it from being known
abbrev pub ids_unless_fault : Option BtfError → List ℕ → Result (List ℕ) BtfError
ids_unless_fault None ids = Ok ids
ids_unless_fault (Some e) ids = Err e

-- an enumeration of 64 bits that was made a UNION
abbrev pub was_enum64 : BtfType → Bool
was_enum64 t = is_kind kinds.Union t && is_some (variants_of t)

-- The target types of the kind and name of a local type, flavors aside. An enumeration of 64 bits
-- that was made a UNION may be an ENUM64, too.
unfoldable pub candidates_named : TypeInfo → BtfType → List ℕ → Result (List ℕ) BtfError
candidates_named target t name =
    if was_enum64 t
    then ids_unless_fault (candidates_of_both_fault target kinds.Union kinds.Enum64)
    (candidates_of_both target kinds.Union kinds.Enum64 name)
    else ids_unless_fault (candidates_fault target (kind_of t)) (candidates target (kind_of t) name)

-- the candidates of the local type with an id, without resolving it
abbrev pub candidates_for : TypeInfo → TypeInfo → ℕ → Result (List ℕ) BtfError
candidates_for local target id =
    if_ok (type_at local.types id) (λ t.
    if_ok (type_name local t) (λ name. candidates_named target t name))

-- the local id itself, for which nothing is searched
abbrev pub itself : ℕ → Outcome
itself id = record { value = Some id; local = None; target = None }

abbrev pub is_local : RelocationKind → Bool
is_local TypeIdLocal = true
is_local _ = false

-- The outcome of a record: first its local side is read, then its candidates are looked up.
unfoldable pub outcome_of : TypeInfo → TypeInfo → Relocation → Result Outcome RelocationError
outcome_of local target r =
    if_ok (local_path local r) (λ path.
    if is_local r.kind then Ok (itself r.type_id)
    else if_ok (of_types (candidates_for local target r.type_id)) (λ ids. outcome_among local
    target r path ids))

-- ---- the kinds and names of the candidates of a local type

-- its own, twice, or the two that an enumeration of 64 bits may have
abbrev pub searched_kinds : BtfType → BtfKind × BtfKind
searched_kinds t = if was_enum64 t then (kinds.Union, kinds.Enum64) else (kind_of t, kind_of t)

-- a local type, and its name as it is read
pub record IsLocalType (local : TypeInfo) (t : BtfType) (name : List ℕ) : Type 0 where
  pub id : ℕ
  pub there : slice_get local.types id ≡ Some t
  pub named : type_name local t ≡ Ok name

-- an index has the types of two kinds of each name that a local type of one of them has
abbrev pub HasLocalNames : IndexedTypes → TypeInfo → BtfKind → BtfKind → Type 0
HasLocalNames index local first second =
    (t : BtfType) (name : List ℕ)
    → IsLocalType local t name
    → is_among_kinds (first ∷ second ∷ []) (kind_of t) ≡ true
    → (has_named index first name ≡ true) × (has_named index second name ≡ true)

-- the index at a place has the types of two kinds and of a name
abbrev pub HasNameAt : List IndexedTypes → ℕ → BtfKind → BtfKind → List ℕ → Type 0
HasNameAt indices n first second name =
    (index : IndexedTypes)
    → slice_get indices n ≡ Some index
    → (has_named index first name ≡ true) × (has_named index second name ≡ true)

-- ---- the question of a record, and outcomes that are cached for records with the same question

-- its type and the offset of its access string, and the number of its kind
abbrev pub Question : Type 0
Question = (ℕ × ℕ) × ℕ

abbrev pub question_of : Relocation → Question
question_of r = ((r.type_id, r.access_str_off), relocation_kind_number r.kind)

-- the order of questions
abbrev pub question_cmp : Question → Question → Ordering
question_cmp a b =
    ordering_then (ordering_then (nat_cmp a.0.0 b.0.0) (nat_cmp a.0.1 b.0.1)) (nat_cmp a.1 b.1)

-- What is cached for a question holds of each record with it.
abbrev pub AreCached : {X : Type 0} → (Relocation → X → Type 0) → BTreeMap Question X → Type 0
AreCached {X} Holds cached =
    (q : Question) (x : X) → get question_cmp cached q ≡ Some x → (r : Relocation)
    → question_of r ≡ q → Holds r x

-- each such record has the outcome
abbrev pub OutcomesAreCached : TypeInfo → TypeInfo → BTreeMap Question Outcome → Type 0
OutcomesAreCached local target cached =
    AreCached (λ r outcome. outcome_of local target r ≡ Ok outcome) cached
