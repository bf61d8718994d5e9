-- The kconfig externs of an object and their types (libbpf 1.5, libbpf.c: find_kcfg_type; btf.c:
-- btf__align_of).
use Rattle.std.specs.Prelude.{ℕ, min, max, ◌/◌, ◌%◌, ◌^◌, Bool, ◌==◌, ◌||◌, codes, Option, Some}
use Rattle.std.specs.Prelude.{None, if◌then◌else◌, true, false, nat_eq, List, [], ◌∷◌, unwrap_or}
use Rattle.std.specs.Prelude.{Result, Ok, Err, slice_get}
use Rattle.std.specs.Option.{option_and_then, option_map_or}
use Rattle.std.specs.Result.{result_ok}
use Rattle.std.specs.FinMap.{FinMap, get, entries, empty}
use Rattle.std.specs.List.{flat_map, starts_with}
use Rattle.std.specs.Map.{keys_of}
use Rattle.std.specs.Ordering.{nat_cmp}
use Rattle.ebpf_btf.specs.Steps.{resolved_type}
use Rattle.ebpf_btf.specs.Strings.{is_text, text_at, id_of_name}
use Rattle.ebpf_btf.specs.TypeInfo.{TypeInfo}
use Rattle.ebpf_btf.specs.Types.{is_signed}
use Rattle.ebpf_btf.specs.declared.types.BtfType.{BtfType}
use Rattle.ebpf_btf.specs.declared.types.BtfType.TheVariants.{Int, Enum, Enum64, Array, DataSec}
use Rattle.ebpf_btf.specs.declared.types.BtfType.TheVariants.{Var}
use Rattle.ebpf_base.specs.Faults.{fault_of, first_some, if_ok}
use Rattle.ebpf_base.specs.Maps.{put_all, text_cmp}
use Rattle.ebpf_btf.specs.declared.error.BtfError.{BtfError}
use Rattle.ebpf_btf.specs.declared.members.DataSecEntry.{DataSecEntry}
use Rattle.ebpf_model.specs.declared.symbol.Symbol.{Symbol}
use Rattle.ebpf_btf.specs.declared.kind.BtfKind.TheVariants as kinds
use Rattle.ebpf_kconfig.specs.declared.kconfig_type.KconfigType.{KconfigType}
use Rattle.ebpf_kconfig.specs.declared.error.KconfigError.{KconfigError}
use Rattle.ebpf_kconfig.specs.declared.error.KconfigError.TheVariants.{OutOfMemory, NotAVariable}
use Rattle.ebpf_kconfig.specs.declared.error.KconfigError.TheVariants.{UnreadableName, UnknownName}
use Rattle.ebpf_kconfig.specs.declared.error.KconfigError.TheVariants.{UnsupportedType}
use Rattle.ebpf_kconfig.specs.declared.externs.KconfigExtern.{KconfigExtern}
use Rattle.ebpf_kconfig.specs.declared.settings.ValueFault.{ValueFault}
use Rattle.ebpf_kconfig.specs.declared.kconfig_type.KconfigType.TheVariants as kconfig_types
use Rattle.ebpf_kconfig.specs.declared.settings.ValueFault.TheVariants as faults

-- ---- the types of externs that the kernel's configuration gives (libbpf 1.5, libbpf.c:
-- find_kcfg_type; btf.c: btf__align_of).

-- ---- one type, without the types that it refers to

-- whether an INT is a bool (BTF_INT_BOOL, bit 2 of the bits 24 to 27 of its word)
abbrev pub is_bool_int : ℕ → Bool
is_bool_int bits = bits / 2 ^ 26 % 2 == 1

-- an INT that is no bool
abbrev pub integer_of : ℕ → Bool → Option KconfigType
integer_of size signed =
    if size == 1 then Some (kconfig_types.Char signed)
    else if size == 2 || size == 4 || size == 8 then Some (kconfig_types.Integer size signed)
    else None

abbrev pub int_of : ℕ → Bool → Bool → Option KconfigType
int_of size is_bool signed =
    if is_bool then (if size == 1 then Some kconfig_types.Bool else None)
    else integer_of size signed

-- an enumeration of the name that libbpf's bpf_helpers.h gives `enum libbpf_tristate`
abbrev pub tristate_of : TypeInfo → ℕ → ℕ → Option KconfigType
tristate_of types name size =
    if is_text (codes "libbpf_tristate") (text_at types.strings name)
    then Some (kconfig_types.Tristate size)
    else None

-- of 32 bits it has 4 bytes, of 64 bits 1, 2, 4 or 8
abbrev pub is_enum64_size : ℕ → Bool
is_enum64_size size = size == 1 || size == 2 || size == 4 || size == 8

-- a type that is no array
unfoldable pub scalar_type : TypeInfo → BtfType → Option KconfigType
scalar_type types (Int name size bits) =
    int_of size (is_bool_int bits) (is_signed (Int name size bits))
scalar_type types (Enum name size flag variants) =
    if size == 4 then tristate_of types name size else None
scalar_type types (Enum64 name size flag variants) =
    if is_enum64_size size then tristate_of types name size else None
scalar_type types t = None

-- ---- the type of an id, modifiers and typedefs resolved

-- the type behind modifiers and typedefs, if they can be followed
abbrev pub followed_type : TypeInfo → ℕ → Option BtfType
followed_type types id = result_ok (resolved_type types.types id)

-- an array of char that has elements
abbrev pub array_of_char : ℕ → Option KconfigType → Option KconfigType
array_of_char len (Some (kconfig_types.Char signed)) =
    if len == 0 then None else Some (kconfig_types.CharArray len)
array_of_char len _ = None

unfoldable pub value_type : TypeInfo → BtfType → Option KconfigType
value_type types (Array name element index len) =
    array_of_char len (option_and_then (scalar_type types) (followed_type types element))
value_type types t = scalar_type types t

-- the value type of a variable whose type has this id; none for other kinds
abbrev pub kconfig_type : TypeInfo → ℕ → Option KconfigType
kconfig_type types id = option_and_then (value_type types) (followed_type types id)

-- ---- sizes in bytes

abbrev pub kconfig_size : KconfigType → ℕ
kconfig_size kconfig_types.Bool = 1
kconfig_size (kconfig_types.Tristate size) = size
kconfig_size (kconfig_types.Char signed) = 1
kconfig_size (kconfig_types.Integer size signed) = size
kconfig_size (kconfig_types.CharArray len) = len

-- an array is aligned as its elements are
abbrev pub kconfig_alignment : KconfigType → ℕ
kconfig_alignment (kconfig_types.CharArray len) = 1
kconfig_alignment kind = max 1 (min 8 (kconfig_size kind))

-- ---- the one answer that no definition states: an allocation failure

abbrev pub is_kconfig_memory : KconfigError → Bool
is_kconfig_memory OutOfMemory = true
is_kconfig_memory _ = false

abbrev pub is_value_memory : ValueFault → Bool
is_value_memory faults.OutOfMemory = true
is_value_memory _ = false

-- The externs that the kernel's configuration gives: the variables of the first DATASEC `.kconfig`
-- (libbpf 1.5, libbpf.c: bpf_object__collect_externs).

-- ---- entries

abbrev pub kconfig_section : List ℕ
kconfig_section = codes ".kconfig"

-- the entries of a DATASEC
unfoldable pub section_rows : BtfType → List DataSecEntry
section_rows (DataSec name size rows) = rows
section_rows t = []

-- the entries of the first DATASEC `.kconfig`
abbrev pub kconfig_entries : TypeInfo → List DataSecEntry
kconfig_entries types =
    option_map_or section_rows
    (option_and_then (slice_get types.types) (id_of_name types kconfig_section kinds.DataSec))
    []

-- ---- weak names

abbrev pub weak_by_name : Symbol → Option (List ℕ) → List (List ℕ × Bool)
weak_by_name s None = []
weak_by_name s (Some name) = (name, s.is_weak) ∷ []

abbrev pub weak_entry_at : Option Symbol → List (List ℕ × Bool)
weak_entry_at None = []
weak_entry_at (Some s) = weak_by_name s s.name

-- whether the symbol of a name is weak; of equal names the symbol with the greatest index counts
abbrev pub weak_symbols : FinMap nat_cmp Symbol → FinMap text_cmp Bool
weak_symbols symbols =
    put_all empty
    (flat_map (λ index. weak_entry_at (get symbols index)) (keys_of (entries symbols)))

-- ---- one extern

-- the offset of a variable's name, and the id of its type
abbrev pub variable_or_fault : ℕ → Option BtfType → Result (ℕ × ℕ) KconfigError
variable_or_fault id (Some (Var name type linkage)) = Ok (name, type)
variable_or_fault id _ = Err (NotAVariable id)

unfoldable pub kconfig_variable : TypeInfo → ℕ → Result (ℕ × ℕ) KconfigError
kconfig_variable types id = variable_or_fault id (slice_get types.types id)

abbrev pub readable_or_fault : ℕ → Result (List ℕ) BtfError → Result (List ℕ) KconfigError
readable_or_fault offset (Ok name) = Ok name
readable_or_fault offset (Err e) = Err (UnreadableName offset)

-- `CONFIG_` for values of the configuration, `LINUX_` for values that a loader knows
abbrev pub is_kconfig_name : List ℕ → Bool
is_kconfig_name name =
    starts_with nat_eq name (codes "CONFIG_") || starts_with nat_eq name (codes "LINUX_")

abbrev pub name_or_fault : List ℕ → Result (List ℕ) KconfigError
name_or_fault name = if is_kconfig_name name then Ok name else Err (UnknownName name)

abbrev pub extern_name : TypeInfo → ℕ → Result (List ℕ) KconfigError
extern_name types offset =
    if_ok (readable_or_fault offset (text_at types.strings offset)) name_or_fault

abbrev pub typed_or_fault : List ℕ → Bool → Option KconfigType → Result KconfigExtern KconfigError
typed_or_fault name weak (Some kind) = Ok (record { name = name; kind = kind; is_weak = weak })
typed_or_fault name weak None = Err (UnsupportedType name)

-- the extern of an entry whose type has this id
unfoldable pub extern_at : TypeInfo → FinMap text_cmp Bool → ℕ → Result KconfigExtern KconfigError
extern_at types weak id =
    if_ok (kconfig_variable types id) (λ variable.
    if_ok (extern_name types variable.0) (λ name.
    typed_or_fault name (unwrap_or (get weak name) false) (kconfig_type types variable.1)))

-- ---- all

abbrev pub externs_or_none : Result KconfigExtern KconfigError → List KconfigExtern
externs_or_none (Ok e) = e ∷ []
externs_or_none (Err e) = []

abbrev pub externs_in : TypeInfo → FinMap text_cmp Bool → List DataSecEntry → List KconfigExtern
externs_in types weak rows =
    flat_map (λ row. externs_or_none (extern_at types weak row.btf_type)) rows

abbrev pub externs_fault_in : TypeInfo → FinMap text_cmp Bool → List DataSecEntry
    → Option KconfigError
externs_fault_in types weak rows =
    first_some (λ row. fault_of (extern_at types weak row.btf_type)) rows

-- the externs of an object with these types and symbols, in the order of the entries
unfoldable pub kconfig_externs : Option TypeInfo → FinMap nat_cmp Symbol → List KconfigExtern
kconfig_externs None symbols = []
kconfig_externs (Some types) symbols =
    externs_in types (weak_symbols symbols) (kconfig_entries types)

-- the fault of the first entry that has one
unfoldable pub kconfig_externs_fault : Option TypeInfo → FinMap nat_cmp Symbol → Option KconfigError
kconfig_externs_fault None symbols = None
kconfig_externs_fault (Some types) symbols =
    externs_fault_in types (weak_symbols symbols) (kconfig_entries types)
