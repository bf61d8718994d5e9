-- What the maps of struct_ops ask of a type (libbpf 1.7, libbpf.c: skip_mods_and_typedefs,
-- resolve_func_ptr).
use Rattle.std.specs.Prelude.{ℕ, Bool, false, List, [], slice_get, Option, Some, None, unwrap_or}
use Rattle.std.specs.Option.{option_and_then, option_map_or}
use Rattle.std.specs.Result.{result_ok}
use Rattle.ebpf_btf.specs.Steps.{resolved}
use Rattle.ebpf_btf.specs.TypeInfo.{TypeInfo}
use Rattle.ebpf_btf.specs.Types.{is_kind, members_of}
use Rattle.ebpf_btf.specs.declared.kind.BtfKind.TheVariants as kinds
use Rattle.ebpf_btf.specs.declared.members.BtfMember.{BtfMember}
use Rattle.ebpf_btf.specs.declared.types.BtfType.{BtfType}
use Rattle.ebpf_btf.specs.declared.types.BtfType.TheVariants.{Ptr, Unknown}

abbrev pub found_behind : TypeInfo → ℕ → Option BtfType
found_behind types id =
    option_and_then (slice_get types.types) (result_ok (resolved types.types id))

-- the type behind modifiers; void where there is none
abbrev pub type_behind : TypeInfo → ℕ → BtfType
type_behind types id = unwrap_or (found_behind types id) Unknown

-- the id of the type that a PTR points to
unfoldable pub pointed_to : BtfType → Option ℕ
pointed_to (Ptr _ id) = Some id
pointed_to _ = None

-- whether a type is a pointer to a function, behind modifiers
abbrev pub is_function_pointer : TypeInfo → ℕ → Bool
is_function_pointer types id =
    option_map_or (λ pointed. is_kind kinds.FuncProto (type_behind types pointed))
    (pointed_to (type_behind types id)) false

-- the members of a STRUCT or UNION
abbrev pub members_in : BtfType → List BtfMember
members_in t = unwrap_or (members_of t) []
