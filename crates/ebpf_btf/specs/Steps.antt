-- The resolution of modifiers, and the sizes of types.
use Rattle.std.specs.Prelude.{ℕ, ◌*◌, ◌^◌, zero, suc, List, Option, Some, None, Result, Ok, Err}
use Rattle.std.specs.Prelude.{nat_lt, slice_get, if◌then◌else◌}
use Rattle.ebpf_btf.specs.declared.error.BtfError.{BtfError}
use Rattle.ebpf_btf.specs.declared.error.BtfError.TheVariants.{InvalidTypeInfo, UnexpectedBtfType}
use Rattle.ebpf_btf.specs.declared.error.BtfError.TheVariants.{UnknownBtfType, MaximumTypeDepth}
use Rattle.ebpf_btf.specs.declared.types.BtfType.{BtfType}
use Rattle.ebpf_btf.specs.declared.types.BtfType.TheVariants.{Const, Volatile, Restrict, Ptr}
use Rattle.ebpf_btf.specs.declared.types.BtfType.TheVariants.{Typedef, Func, Array, Var, TypeTag}
use Rattle.ebpf_base.specs.Faults.{if_ok}
use Rattle.ebpf_btf.specs.Next.{if_some}
use Rattle.ebpf_btf.specs.Types.{size_word}

-- The maximum number of types that a resolution reads: the first, and 32 that it follows to.
abbrev pub looks : ℕ
looks = 33

-- the type that has an id
abbrev pub type_at : List BtfType → ℕ → Result BtfType BtfError
type_at types id = if_some (slice_get types id) (λ t. Ok t) (Err (UnknownBtfType id))

-- ---- resolution

-- the id of the type that a modifier (TYPEDEF, VOLATILE, CONST, RESTRICT or TYPE_TAG) is on
unfoldable pub modifier_type_id : BtfType → Option ℕ
modifier_type_id (Typedef _ id) = Some id
modifier_type_id (Volatile _ id) = Some id
modifier_type_id (Const _ id) = Some id
modifier_type_id (Restrict _ id) = Some id
modifier_type_id (TypeTag _ id) = Some id
modifier_type_id _ = None

-- the first type from an id on that is no modifier, where `left` types may be read
unfoldable pub resolved_from : ℕ → List BtfType → ℕ → ℕ → Result ℕ BtfError
resolved_from zero types start id = Err (MaximumTypeDepth start)
resolved_from (suc left) types start id =
    if_ok (type_at types id) (λ t.
    if_some (modifier_type_id t) (λ next. resolved_from left types start next) (Ok id))

abbrev pub resolved : List BtfType → ℕ → Result ℕ BtfError
resolved types id = resolved_from looks types id id

-- the type that an id leads to, modifiers followed
abbrev pub resolved_type : List BtfType → ℕ → Result BtfType BtfError
resolved_type types id = if_ok (resolved types id) (λ found. type_at types found)

-- ---- sizes in bytes

-- the size of a type without inner types: 8 for a PTR, else the size field
unfoldable pub own_size : BtfType → Option ℕ
own_size (Ptr _ _) = Some 8
own_size t = size_word t

-- the id of the type that gives another its size: the modified type, the type of a variable or
-- function, the elements of an array
unfoldable pub sized_by : BtfType → Option ℕ
sized_by (Var _ id _) = Some id
sized_by (Func _ id) = Some id
sized_by (Array _ id _ _) = Some id
sized_by t = modifier_type_id t

-- the number of elements of an array, 1 for other types
unfoldable pub repeats : BtfType → ℕ
repeats (Array _ _ _ n) = n
repeats _ = 1

-- a product of 32 bits
abbrev pub times : ℕ → ℕ → Result ℕ BtfError
times m n = if nat_lt (m * n) (2 ^ 32) then Ok (m * n) else Err InvalidTypeInfo

-- the size of `count` of the types with an id, where `left` types may be read
unfoldable pub size_from : ℕ → List BtfType → ℕ → ℕ → ℕ → Result ℕ BtfError
size_from zero types start count id = Err (MaximumTypeDepth start)
size_from (suc left) types start count id =
    if_ok (type_at types id) (λ t.
    if_some (own_size t) (λ size. times count size) (
    if_some (sized_by t)
    (λ next. if_ok (times count (repeats t)) (λ all. size_from left types start all next))
    (Err (UnexpectedBtfType id))))

abbrev pub size_of : List BtfType → ℕ → Result ℕ BtfError
size_of types id = size_from looks types id 1 id
