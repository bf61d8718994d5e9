-- The size and the alignment of the type of a kconfig extern are those of its room.
use Rattle.std.proofs.Common.{◌≡◌, ℕ, ◌≤◌, Bool, true, false, cond, Option, Some, None, Result, Ok, Err, refl, ap, sym, subst, ◌∙◌, arith}
use Rattle.std.specs.Prelude.{codes, ◌||◌, nat_lt, ◌==◌, ◌*◌, ◌^◌, min, max}
use Rattle.std.proofs.lemmas.Bool.Decides.{nat_tests}
use Rattle.std.specs.Option.{option_and_then}
use Rattle.std.specs.Result.{result_ok}
use Rattle.ebpf_btf.specs.Steps.{resolved_type}
use Rattle.ebpf_btf.specs.Strings.{is_text, text_at}
use Rattle.ebpf_btf.specs.TypeInfo.{TypeInfo}
use Rattle.ebpf_btf.specs.declared.error.BtfError.{BtfError}
use Rattle.ebpf_btf.specs.Types.{is_signed}
use Rattle.ebpf_btf.specs.declared.types.BtfType.{BtfType}
use Rattle.ebpf_btf.specs.declared.types.BtfType.TheVariants as types_of
use Rattle.ebpf_btf_load.specs.SectionWords.{elements_of, repeated_type, scalar_size, scalar_size_of, size_and_alignment, sized_elements}
use Rattle.ebpf_kconfig.specs.KconfigExterns.{array_of_char, int_of, is_bool_int, is_enum64_size, kconfig_alignment, kconfig_size, kconfig_type, scalar_type, tristate_of, value_type}
use Rattle.ebpf_kconfig.specs.declared.kconfig_type.KconfigType.{KconfigType}
use Rattle.ebpf_kconfig.specs.declared.kconfig_type.KconfigType.TheVariants as kconfig_types

some_is : {X : Type 0} (x y : X) → Some x ≡ Some y → x ≡ y
some_is x y e = cc

pub ok_is : {X E : Type 0} (x y : X) → ◌≡◌ {A = Result X E} (Ok x) (Ok y) → x ≡ y
ok_is x y e = cc

pub err_ok : {X E : Type 0} (e : E) (x : X) → ◌≡◌ {A = Result X E} (Err e) (Ok x) → ⊥
err_ok e x is = cc

pub some_none : {X : Type 0} (x : X) → Some x ≡ None → ⊥
some_none x is = cc

none_some : {X : Type 0} (x : X) → None ≡ Some x → ⊥
none_some x is = cc

-- what a scalar type is of a size
abbrev HasSize : KconfigType → ℕ → Type 0
HasSize kind size = (kconfig_size kind ≡ size) × ((kconfig_alignment kind ≡ max 1 (min 8 size)) × (1 ≤ size))

is_one : (size : ℕ) → (size == 1) ≡ true → size ≡ 1
is_one size is = grind (arith, nat_tests)

bool_sized : (size : ℕ) (kind : KconfigType) (b : Bool) → (size == 1) ≡ b → cond b (Some kconfig_types.Bool) None ≡ Some kind → HasSize kind size
bool_sized size kind true one is =
    let same : size ≡ 1 = is_one size one in
    subst (λ k. HasSize k size) (some_is kconfig_types.Bool kind is) (subst (HasSize kconfig_types.Bool) (sym same) (refl, (refl, omega arith)))
bool_sized size kind false one is = absurd (none_some kind is)

some_size : (size : ℕ) → ((size == 2) || (size == 4) || (size == 8)) ≡ true → 1 ≤ size
some_size size is = grind (arith, nat_tests)

wide_sized : (size : ℕ) (signed : Bool) (kind : KconfigType) (b : Bool) → ((size == 2) || (size == 4) || (size == 8)) ≡ b → cond b (Some (kconfig_types.Integer size signed)) None ≡ Some kind → HasSize kind size
wide_sized size signed kind true wide is =
    subst (λ k. HasSize k size) (some_is (kconfig_types.Integer size signed) kind is) (refl, (refl, some_size size wide))
wide_sized size signed kind false wide is = absurd (none_some kind is)

char_sized : (size : ℕ) (signed : Bool) (kind : KconfigType) (b : Bool) → (size == 1) ≡ b
    → cond b (Some (kconfig_types.Char signed)) (cond ((size == 2) || (size == 4) || (size == 8)) (Some (kconfig_types.Integer size signed)) None) ≡ Some kind → HasSize kind size
char_sized size signed kind true one is =
    let same : size ≡ 1 = is_one size one in
    subst (λ k. HasSize k size) (some_is (kconfig_types.Char signed) kind is) (subst (HasSize (kconfig_types.Char signed)) (sym same) (refl, (refl, omega arith)))
char_sized size signed kind false one is = wide_sized size signed kind ((size == 2) || (size == 4) || (size == 8)) refl is

int_sized : (size : ℕ) (is_bool signed : Bool) (kind : KconfigType) → int_of size is_bool signed ≡ Some kind → HasSize kind size
int_sized size true signed kind is = bool_sized size kind (size == 1) refl is
int_sized size false signed kind is = char_sized size signed kind (size == 1) refl is

tristate_sized : (size : ℕ) (kind : KconfigType) (b : Bool) → 1 ≤ size → cond b (Some (kconfig_types.Tristate size)) None ≡ Some kind → HasSize kind size
tristate_sized size kind true some is = subst (λ k. HasSize k size) (some_is (kconfig_types.Tristate size) kind is) (refl, (refl, some))
tristate_sized size kind false some is = absurd (none_some kind is)

enum_sized : (types : TypeInfo) (name size : ℕ) (kind : KconfigType) (b : Bool) → (size == 4) ≡ b → cond b (tristate_of types name size) None ≡ Some kind → HasSize kind size
enum_sized types name size kind true four is =
    let some : 1 ≤ size = grind (arith, nat_tests) in
    tristate_sized size kind (is_text (codes "libbpf_tristate") (text_at types.strings name)) some is
enum_sized types name size kind false four is = absurd (none_some kind is)

enum64_sized : (types : TypeInfo) (name size : ℕ) (kind : KconfigType) (b : Bool) → is_enum64_size size ≡ b → cond b (tristate_of types name size) None ≡ Some kind → HasSize kind size
enum64_sized types name size kind true sized is =
    let some : 1 ≤ size = grind (arith, nat_tests) in
    tristate_sized size kind (is_text (codes "libbpf_tristate") (text_at types.strings name)) some is
enum64_sized types name size kind false sized is = absurd (none_some kind is)

-- the size of a scalar type
record IsSized (t : BtfType) (kind : KconfigType) : Type 0 where
  size : ℕ
  read : scalar_size_of (Ok t) ≡ Some size
  sized : HasSize kind size

scalar_sized : (types : TypeInfo) (t : BtfType) (kind : KconfigType) → scalar_type types t ≡ Some kind → IsSized t kind
unfolding scalar_type
scalar_sized types types_of.Unknown kind is = absurd (none_some kind is)
scalar_sized types (types_of.Int a b c) kind is = record { size = b; read = refl; sized = int_sized b (is_bool_int c) (is_signed (types_of.Int a b c)) kind is }
scalar_sized types (types_of.Ptr a b) kind is = absurd (none_some kind is)
scalar_sized types (types_of.Array a b c d) kind is = absurd (none_some kind is)
scalar_sized types (types_of.Struct a b c d) kind is = absurd (none_some kind is)
scalar_sized types (types_of.Union a b c d f) kind is = absurd (none_some kind is)
scalar_sized types (types_of.Enum a b c d) kind is = record { size = b; read = refl; sized = enum_sized types a b kind (b == 4) refl is }
scalar_sized types (types_of.Fwd a b) kind is = absurd (none_some kind is)
scalar_sized types (types_of.Typedef a b) kind is = absurd (none_some kind is)
scalar_sized types (types_of.Volatile a b) kind is = absurd (none_some kind is)
scalar_sized types (types_of.Const a b) kind is = absurd (none_some kind is)
scalar_sized types (types_of.Restrict a b) kind is = absurd (none_some kind is)
scalar_sized types (types_of.Func a b) kind is = absurd (none_some kind is)
scalar_sized types (types_of.FuncProto a b c) kind is = absurd (none_some kind is)
scalar_sized types (types_of.Var a b c) kind is = absurd (none_some kind is)
scalar_sized types (types_of.DataSec a b c) kind is = absurd (none_some kind is)
scalar_sized types (types_of.Float a b) kind is = absurd (none_some kind is)
scalar_sized types (types_of.DeclTag a b c) kind is = absurd (none_some kind is)
scalar_sized types (types_of.TypeTag a b) kind is = absurd (none_some kind is)
scalar_sized types (types_of.Enum64 a b c d) kind is = record { size = b; read = refl; sized = enum64_sized types a b kind (is_enum64_size b) refl is }

-- a size and an alignment of an extern
abbrev pub AreOf : KconfigType → ℕ × ℕ → Type 0
AreOf kind found = (found.0 ≡ kconfig_size kind) × (found.1 ≡ kconfig_alignment kind)

one_test : (size : ℕ) (kind : KconfigType) (found : ℕ × ℕ) (b : Bool) → HasSize kind size → cond b (Some (size * 1, min size 8)) None ≡ Some found → AreOf kind found
one_test size kind found true has is =
    let same : (size * 1, min size 8) ≡ found = some_is (size * 1, min size 8) found is in
    subst (AreOf kind) same (omega (arith, has.0), capped has.1.0 has.1.1)
  where
    capped : kconfig_alignment kind ≡ max 1 (min 8 size) → 1 ≤ size → min size 8 ≡ kconfig_alignment kind
    capped aligned some = omega (arith, aligned, some)
one_test size kind found false has is = absurd (none_some found is)

one_sized : (size : Option ℕ) (t : BtfType) (kind : KconfigType) (found : ℕ × ℕ) → size ≡ scalar_size_of (Ok t) → IsSized t kind → option_and_then (sized_elements 1) size ≡ Some found → AreOf kind found
one_sized size t kind found of sized is =
    let known : size ≡ Some sized.size = of ∙ sized.read in
    one_test sized.size kind found (nat_lt (sized.size * 1) (2 ^ 32)) sized.sized (ap (option_and_then (sized_elements 1)) (sym known) ∙ is)

-- ---- an array of char

char_test : (len size : ℕ) (kind : KconfigType) (found : ℕ × ℕ) (b c : Bool) → size ≡ 1 → cond b None (Some (kconfig_types.CharArray len)) ≡ Some kind
    → cond c (Some (size * len, min size 8)) None ≡ Some found → AreOf kind found
char_test len size kind found true c one is read = absurd (none_some kind is)
char_test len size kind found false true one is read =
    subst (λ k. AreOf k found) (some_is (kconfig_types.CharArray len) kind is)
    (subst (AreOf (kconfig_types.CharArray len)) (some_is (size * len, min size 8) found read)
    (subst (λ n. AreOf (kconfig_types.CharArray len) (n * len, min n 8)) (sym one) (omega arith, omega arith)))
char_test len size kind found false false one is read = absurd (none_some found read)

-- the element of an array
chars_sized : (len : ℕ) (element kind : KconfigType) (size : ℕ) (found : ℕ × ℕ) → HasSize element size → array_of_char len (Some element) ≡ Some kind
    → cond (nat_lt (size * len) (2 ^ 32)) (Some (size * len, min size 8)) None ≡ Some found → AreOf kind found
chars_sized len kconfig_types.Bool kind size found has is read = absurd (none_some kind is)
chars_sized len (kconfig_types.Tristate n) kind size found has is read = absurd (none_some kind is)
chars_sized len (kconfig_types.Char signed) kind size found has is read = char_test len size kind found (len == 0) (nat_lt (size * len) (2 ^ 32)) (sym has.0) is read
chars_sized len (kconfig_types.Integer n signed) kind size found has is read = absurd (none_some kind is)
chars_sized len (kconfig_types.CharArray n) kind size found has is read = absurd (none_some kind is)

element_sized : (types : TypeInfo) (t : BtfType) (len : ℕ) (element : Option KconfigType) (kind : KconfigType) (size : Option ℕ) (found : ℕ × ℕ) → scalar_type types t ≡ element
    → size ≡ scalar_size_of (Ok t) → array_of_char len element ≡ Some kind → option_and_then (sized_elements len) size ≡ Some found → AreOf kind found
element_sized types t len None kind size found of read is are = absurd (none_some kind is)
element_sized types t len (Some element) kind size found of read is are =
    let sized = scalar_sized types t element of in
    chars_sized len element kind sized.size found sized.sized is (ap (option_and_then (sized_elements len)) (sym (read ∙ sized.read)) ∙ are)

-- the element that is found
array_sized : (types : TypeInfo) (len : ℕ) (r : Result BtfType BtfError) (kind : KconfigType) (found : ℕ × ℕ)
    → array_of_char len (option_and_then (scalar_type types) (result_ok r)) ≡ Some kind → option_and_then (sized_elements len) (scalar_size_of r) ≡ Some found → AreOf kind found
array_sized types len (Err e) kind found is are = absurd (none_some kind is)
array_sized types len (Ok t) kind found is are = element_sized types t len (scalar_type types t) kind (scalar_size_of (Ok t)) found refl refl is are

-- ---- the type of a variable

scalar_value : (types : TypeInfo) (id : ℕ) (t : BtfType) (kind : KconfigType) (found : ℕ × ℕ) → resolved_type types.types id ≡ Ok t → scalar_type types t ≡ Some kind
    → option_and_then (sized_elements 1) (scalar_size types id) ≡ Some found → AreOf kind found
unfolding scalar_size
scalar_value types id t kind found at is are = one_sized (scalar_size types id) t kind found (ap scalar_size_of at) (scalar_sized types t kind is) are

value_sized : (types : TypeInfo) (id : ℕ) (t : BtfType) (kind : KconfigType) (found : ℕ × ℕ) → resolved_type types.types id ≡ Ok t → value_type types t ≡ Some kind
    → option_and_then (sized_elements (elements_of id (Ok t)).1) (scalar_size types (elements_of id (Ok t)).0) ≡ Some found → AreOf kind found
unfolding value_type scalar_size
value_sized types id types_of.Unknown kind found at is are = scalar_value types id types_of.Unknown kind found at is are
value_sized types id (types_of.Int a b c) kind found at is are = scalar_value types id (types_of.Int a b c) kind found at is are
value_sized types id (types_of.Ptr a b) kind found at is are = scalar_value types id (types_of.Ptr a b) kind found at is are
value_sized types id (types_of.Array a b c d) kind found at is are = array_sized types d (resolved_type types.types b) kind found is are
value_sized types id (types_of.Struct a b c d) kind found at is are = scalar_value types id (types_of.Struct a b c d) kind found at is are
value_sized types id (types_of.Union a b c d f) kind found at is are = scalar_value types id (types_of.Union a b c d f) kind found at is are
value_sized types id (types_of.Enum a b c d) kind found at is are = scalar_value types id (types_of.Enum a b c d) kind found at is are
value_sized types id (types_of.Fwd a b) kind found at is are = scalar_value types id (types_of.Fwd a b) kind found at is are
value_sized types id (types_of.Typedef a b) kind found at is are = scalar_value types id (types_of.Typedef a b) kind found at is are
value_sized types id (types_of.Volatile a b) kind found at is are = scalar_value types id (types_of.Volatile a b) kind found at is are
value_sized types id (types_of.Const a b) kind found at is are = scalar_value types id (types_of.Const a b) kind found at is are
value_sized types id (types_of.Restrict a b) kind found at is are = scalar_value types id (types_of.Restrict a b) kind found at is are
value_sized types id (types_of.Func a b) kind found at is are = scalar_value types id (types_of.Func a b) kind found at is are
value_sized types id (types_of.FuncProto a b c) kind found at is are = scalar_value types id (types_of.FuncProto a b c) kind found at is are
value_sized types id (types_of.Var a b c) kind found at is are = scalar_value types id (types_of.Var a b c) kind found at is are
value_sized types id (types_of.DataSec a b c) kind found at is are = scalar_value types id (types_of.DataSec a b c) kind found at is are
value_sized types id (types_of.Float a b) kind found at is are = scalar_value types id (types_of.Float a b) kind found at is are
value_sized types id (types_of.DeclTag a b c) kind found at is are = scalar_value types id (types_of.DeclTag a b c) kind found at is are
value_sized types id (types_of.TypeTag a b) kind found at is are = scalar_value types id (types_of.TypeTag a b) kind found at is are
value_sized types id (types_of.Enum64 a b c d) kind found at is are = scalar_value types id (types_of.Enum64 a b c d) kind found at is are

type_sized : (types : TypeInfo) (id : ℕ) (r : Result BtfType BtfError) (kind : KconfigType) (found : ℕ × ℕ) → resolved_type types.types id ≡ r
    → option_and_then (value_type types) (result_ok r) ≡ Some kind
    → option_and_then (sized_elements (elements_of id r).1) (scalar_size types (elements_of id r).0) ≡ Some found → AreOf kind found
type_sized types id (Err e) kind found at is are = absurd (none_some kind is)
type_sized types id (Ok t) kind found at is are = value_sized types id t kind found at is are

pub variable_sized : (types : TypeInfo) (id : ℕ) (kind : KconfigType) (found : ℕ × ℕ) → kconfig_type types id ≡ Some kind → size_and_alignment types id ≡ Some found → AreOf kind found
unfolding repeated_type
variable_sized types id kind found is are = type_sized types id (resolved_type types.types id) kind found refl is are
