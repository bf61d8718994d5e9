-- Whether a field or type of an object is compatible with a field or type of a kernel, as in the
-- kernel's tools/lib/bpf/relo_core.c (bpf_core_fields_are_compat, bpf_core_types_are_compat).
use Rattle.std.specs.Prelude.{ℕ, zero, suc, ◌/◌, ◌%◌, ◌^◌, Bool, true, false, List, [], ◌∷◌, ◌++◌}
use Rattle.std.specs.Prelude.{length, map, take, drop, unwrap_or, Option, Some, None, Result, Ok}
use Rattle.std.specs.Prelude.{Err, ◌==◌, ◌&&◌, ◌||◌, if◌then◌else◌}
use Rattle.std.specs.List.{zip, flat_map}
use Rattle.std.specs.Str.{bytes_eq}
use Rattle.ebpf_base.specs.Faults.{first_some, if_ok}
use Rattle.ebpf_btf.specs.Next.{if_some}
use Rattle.ebpf_btf.specs.declared.error.BtfError.{BtfError}
use Rattle.ebpf_btf.specs.declared.error.BtfError.TheVariants.{MaximumTypeDepth}
use Rattle.ebpf_btf.specs.declared.kind.BtfKind.{BtfKind}
use Rattle.ebpf_btf.specs.declared.members.BtfParam.{BtfParam}
use Rattle.ebpf_btf.specs.declared.types.BtfType.{BtfType}
use Rattle.ebpf_btf.specs.declared.types.BtfType.TheVariants.{Int, Ptr, Array, FuncProto}
use Rattle.ebpf_btf.specs.EssentialNames.{essential_name}
use Rattle.ebpf_btf.specs.Strings.{type_name}
use Rattle.ebpf_btf.specs.Steps.{resolved_type, type_at}
use Rattle.ebpf_btf.specs.TypeInfo.{TypeInfo}
use Rattle.ebpf_btf.specs.Types.{kind_of, kind_number}
use Rattle.ebpf_btf.specs.declared.kind.BtfKind.TheVariants as kinds
use Rattle.ebpf_core_candidates.specs.declared.compatible.Pair.{Pair}
use Rattle.ebpf_core_candidates.specs.declared.compatible.Likeness.{Likeness}
use Rattle.ebpf_core_candidates.specs.declared.compatible.Likeness.TheVariants.{Alike, Different}

-- ---- two types

abbrev pub pair_of : ℕ → ℕ → Pair
pair_of i j = record { local = i; target = j }

-- a pair where there is a type on both sides
abbrev pub both : Option ℕ → Option ℕ → Option Pair
both (Some i) (Some j) = Some (pair_of i j)
both _ _ = None

-- what follows for the two types that a pair leads to, the local one first
abbrev pub if_resolved : {X : Type 0} → List BtfType → List BtfType → Pair
    → (BtfType → BtfType → Result X BtfError) → Result X BtfError
if_resolved local target pair next =
    if_ok (resolved_type local pair.local) (λ a.
    if_ok (resolved_type target pair.target) (λ b. next a b))

abbrev pub same_kind : BtfType → BtfType → Bool
same_kind a b = kind_number (kind_of a) == kind_number (kind_of b)

-- the bit of its bytes at which an INT begins (the kernel's Documentation/bpf/btf.rst,
-- BTF_INT_OFFSET); others begin at 0
unfoldable pub first_bit : BtfType → ℕ
first_bit (Int _ _ bits) = bits / 2 ^ 16 % 2 ^ 8
first_bit _ = 0

abbrev pub both_begin_at_0 : BtfType → BtfType → Bool
both_begin_at_0 a b = first_bit a == 0 && first_bit b == 0

-- ---- fields

-- how many pairs of fields may be met: the one given, and 32 of elements
abbrev pub field_levels : ℕ
field_levels = 33

abbrev pub is_composite : BtfKind → Bool
is_composite kinds.Struct = true
is_composite kinds.Union = true
is_composite _ = false

-- the type of the elements of an ARRAY
unfoldable pub element : BtfType → Option ℕ
element (Array _ id _ _) = Some id
element _ = None

-- the types of the elements of two ARRAYs
abbrev pub elements : BtfType → BtfType → Option Pair
elements a b = both (element a) (element b)

-- two names that are equal, or of which one is empty
abbrev pub names_fit : List ℕ → List ℕ → Bool
names_fit a b = bytes_eq b a || bytes_eq b [] || bytes_eq a []

-- whether two types have such names, their flavors aside
abbrev pub are_named_alike : TypeInfo → TypeInfo → BtfType → BtfType → Result Bool BtfError
are_named_alike local target a b =
    if_ok (type_name local a) (λ n.
    if_ok (type_name target b) (λ m. Ok (names_fit (essential_name n) (essential_name m))))

-- what decides over two types of a kind that is not ARRAY: nothing, their names, where they begin
unfoldable pub decided_by : BtfKind → Result Bool BtfError → Bool → Result Bool BtfError
decided_by kinds.Ptr names begins = Ok true
decided_by kinds.Float names begins = Ok true
decided_by kinds.Enum names begins = names
decided_by kinds.Enum64 names begins = names
decided_by kinds.Fwd names begins = names
decided_by kinds.Int names begins = Ok begins
decided_by _ names begins = Ok false

-- whether two types fit that are not both ARRAYs
abbrev pub types_fit : TypeInfo → TypeInfo → BtfType → BtfType → Result Bool BtfError
types_fit local target a b =
    if is_composite (kind_of a) && is_composite (kind_of b) then Ok true
    else if same_kind a b
    then decided_by (kind_of a) (are_named_alike local target a b) (both_begin_at_0 a b)
    else Ok false

-- ARRAYs fit where their elements do. So many pairs may be met.
unfoldable pub fields_fit : ℕ → TypeInfo → TypeInfo → ℕ → Pair → Result Bool BtfError
fields_fit zero local target root pair = Err (MaximumTypeDepth root)
fields_fit (suc levels) local target root pair =
    if_resolved local.types target.types pair (λ a b.
    if_some (elements a b) (λ next. fields_fit levels local target root next) (types_fit local
    target a b))

-- whether a field of the one type is found in a field of the other
abbrev pub fields_compatible : TypeInfo → ℕ → TypeInfo → ℕ → Result Bool BtfError
fields_compatible local id target other = fields_fit field_levels local target id (pair_of id other)

-- ---- types

-- how many levels of pairs there may be: the one of the pair given, and 32 below it
abbrev pub type_levels : ℕ
type_levels = 33

-- how many pairs may be met, the one given among them
abbrev pub type_pairs : ℕ
type_pairs = 1048576

-- the kinds of types that may be alike
unfoldable pub is_compared : BtfKind → Bool
is_compared kinds.Typedef = false
is_compared kinds.Volatile = false
is_compared kinds.Const = false
is_compared kinds.Restrict = false
is_compared kinds.Func = false
is_compared kinds.Var = false
is_compared kinds.DataSec = false
is_compared kinds.DeclTag = false
is_compared kinds.TypeTag = false
is_compared _ = true

-- the parameters of a FUNC_PROTO; other types have none
unfoldable pub params_of : BtfType → List BtfParam
params_of (FuncProto _ _ params) = params
params_of _ = []

-- the inner type of a PTR, an ARRAY or a FUNC_PROTO: what it points to, its elements, its result
unfoldable pub inner_type_id : BtfType → Option ℕ
inner_type_id (Ptr _ id) = Some id
inner_type_id (FuncProto _ id _) = Some id
inner_type_id t = element t

abbrev pub inner_pair : BtfType → BtfType → Option Pair
inner_pair a b = both (inner_type_id a) (inner_type_id b)

-- whether two types are alike, their inner types aside
abbrev pub shallow_alike : BtfType → BtfType → Bool
shallow_alike a b =
    same_kind a b
    && is_compared (kind_of a)
    && both_begin_at_0 a b
    && length (params_of a) == length (params_of b)

-- whether the two types of a pair are alike, their inner types aside
abbrev pub alike_at : List BtfType → List BtfType → Pair → Result Bool BtfError
alike_at local target pair = if_resolved local target pair (λ a b. Ok (shallow_alike a b))

-- the pairs inside two types: of their parameters in order, and then of their inner types
abbrev pub inner_pairs : BtfType → BtfType → List Pair
inner_pairs a b =
    map (λ (p : BtfParam × BtfParam). pair_of p.0.btf_type p.1.btf_type)
    (zip (params_of a) (params_of b))
    ++ if_some (inner_pair a b) (λ pair. pair ∷ []) []

abbrev pub pairs_or_none : Result (List Pair) BtfError → List Pair
pairs_or_none (Ok pairs) = pairs
pairs_or_none (Err e) = []

-- the pairs that a pair leads to
abbrev pub pairs_below : List BtfType → List BtfType → Pair → List Pair
pairs_below local target pair =
    pairs_or_none (if_resolved local target pair (λ a b. Ok (inner_pairs a b)))

-- What is found at a pair and at all below it, in depth-first order. There may be so many levels.
unfoldable pub found_from : ℕ → List BtfType → List BtfType → ℕ → Pair → List (Result Bool BtfError)
found_from zero local target root pair = Err (MaximumTypeDepth root) ∷ []
found_from (suc levels) local target root pair =
    alike_at local target pair
    ∷ flat_map (found_from levels local target root) (pairs_below local target pair)

-- what ends a comparison: a difference, or a fault
abbrev pub ends : Result Bool BtfError → Option (Result Bool BtfError)
ends (Ok true) = None
ends answer = Some answer

-- all are alike where none is left
abbrev pub all_alike : BtfError → List (Result Bool BtfError) → Result Bool BtfError
all_alike past [] = Ok true
all_alike past (answer ∷ more) = Err past

-- the first that ends a comparison, where so many may be met
unfoldable pub first_end : ℕ → BtfError → List (Result Bool BtfError) → Result Bool BtfError
first_end pairs past found =
    unwrap_or (first_some ends (take pairs found)) (all_alike past (drop pairs found))

-- whether a type is compatible with another: their kinds before resolution are the same, and all
-- pairs below them are alike
abbrev pub types_compatible : TypeInfo → ℕ → TypeInfo → ℕ → Result Bool BtfError
types_compatible local id target other =
    if_ok (type_at local.types id) (λ a. if_ok (type_at target.types other) (λ b.
    if same_kind a b
    then first_end type_pairs (MaximumTypeDepth id)
    (found_from type_levels local.types target.types id (pair_of id other))
    else Ok false))

-- ---- a comparison of types step by step, pair by pair; its result is `types_compatible`

-- the next step where types are alike, with the number of pairs that may still be met
abbrev pub if_alike : Result Likeness BtfError → (ℕ → Result Likeness BtfError)
    → Result Likeness BtfError
if_alike (Ok (Alike left)) next = next left
if_alike (Ok Different) next = Ok Different
if_alike (Err e) next = Err e

-- a comparison of a pair, where so many pairs may still be met
abbrev pub Comparison : Type 0
Comparison = ℕ → Pair → Result Likeness BtfError

-- the types of parameters, one pair after the other
abbrev pub params_alike : Comparison → ℕ → List (BtfParam × BtfParam) → Result Likeness BtfError
params_alike compare left [] = Ok (Alike left)
params_alike compare left (p ∷ ps) =
    if_alike (compare left (pair_of p.0.btf_type p.1.btf_type)) (λ rest.
    params_alike compare rest ps)

-- the inner types of two types
abbrev pub inner_alike : Comparison → ℕ → BtfType → BtfType → Result Likeness BtfError
inner_alike compare left a b =
    if_some (inner_pair a b) (λ pair. compare left pair) (Ok (Alike left))

-- all types below two types that agree: the parameters first
abbrev pub parts_alike : Comparison → ℕ → BtfType → BtfType → Result Likeness BtfError
parts_alike compare left a b =
    if_alike (params_alike compare left (zip (params_of a) (params_of b))) (λ rest.
    inner_alike compare rest a b)

-- A pair and all below it, depth first, up to the first that differs. There may be so many levels
-- and so many pairs.
unfoldable pub compared_from : ℕ → List BtfType → List BtfType → ℕ → Comparison
compared_from zero local target root left pair = Err (MaximumTypeDepth root)
compared_from (suc levels) local target root zero pair = Err (MaximumTypeDepth root)
compared_from (suc levels) local target root (suc left) pair =
    if_resolved local target pair (λ a b.
    if shallow_alike a b then parts_alike (compared_from levels local target root) left a b else Ok
    Different)

-- whether a comparison found no difference
abbrev pub is_alike : Result Likeness BtfError → Result Bool BtfError
is_alike (Ok (Alike left)) = Ok true
is_alike (Ok Different) = Ok false
is_alike (Err e) = Err e
