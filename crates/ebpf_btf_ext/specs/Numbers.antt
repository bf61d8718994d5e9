-- The numbers of CO-RE relocation kinds and the header fields of `.BTF.ext` in the definitions are
-- the kernel's (include/uapi/linux/bpf.h, enum bpf_core_relo_kind; Documentation/bpf/btf.rst,
-- struct btf_ext_header).
use Rattle.std.specs.Prelude.{◌≡◌, Some, None, refl, true}
use Rattle.ebpf_btf_ext.specs.declared.relocation.RelocationKind.TheVariants as kinds
use Rattle.ebpf_btf_ext.specs.ExtFormat.{func_part, line_part, core_relo_part}
use Rattle.ebpf_btf_ext.specs.RelocationKinds.{relocation_kind, known_kind}

-- ---- enum bpf_core_relo_kind

-- BPF_CORE_FIELD_BYTE_OFFSET
pub byte_offset_kind_number : relocation_kind 0 ≡ Some kinds.FieldByteOffset
unfolding relocation_kind
byte_offset_kind_number = refl

-- BPF_CORE_FIELD_BYTE_SIZE
pub byte_size_kind_number : relocation_kind 1 ≡ Some kinds.FieldByteSize
unfolding relocation_kind
byte_size_kind_number = refl

-- BPF_CORE_FIELD_EXISTS
pub field_exists_kind_number : relocation_kind 2 ≡ Some kinds.FieldExists
unfolding relocation_kind
field_exists_kind_number = refl

-- BPF_CORE_FIELD_SIGNED
pub signed_kind_number : relocation_kind 3 ≡ Some kinds.FieldSigned
unfolding relocation_kind
signed_kind_number = refl

-- BPF_CORE_FIELD_LSHIFT_U64
pub lshift_kind_number : relocation_kind 4 ≡ Some kinds.FieldLShift64
unfolding relocation_kind
lshift_kind_number = refl

-- BPF_CORE_FIELD_RSHIFT_U64
pub rshift_kind_number : relocation_kind 5 ≡ Some kinds.FieldRShift64
unfolding relocation_kind
rshift_kind_number = refl

-- BPF_CORE_TYPE_ID_LOCAL
pub local_id_kind_number : relocation_kind 6 ≡ Some kinds.TypeIdLocal
unfolding relocation_kind
local_id_kind_number = refl

-- BPF_CORE_TYPE_ID_TARGET
pub target_id_kind_number : relocation_kind 7 ≡ Some kinds.TypeIdTarget
unfolding relocation_kind
target_id_kind_number = refl

-- BPF_CORE_TYPE_EXISTS
pub type_exists_kind_number : relocation_kind 8 ≡ Some kinds.TypeExists
unfolding relocation_kind
type_exists_kind_number = refl

-- BPF_CORE_TYPE_SIZE
pub type_size_kind_number : relocation_kind 9 ≡ Some kinds.TypeSize
unfolding relocation_kind
type_size_kind_number = refl

-- BPF_CORE_ENUMVAL_EXISTS
pub enumval_exists_kind_number : relocation_kind 10 ≡ Some kinds.EnumVariantExists
unfolding relocation_kind
enumval_exists_kind_number = refl

-- BPF_CORE_ENUMVAL_VALUE
pub enumval_value_kind_number : relocation_kind 11 ≡ Some kinds.EnumVariantValue
unfolding relocation_kind
enumval_value_kind_number = refl

-- BPF_CORE_TYPE_MATCHES
pub type_matches_kind_number : known_kind true 12 ≡ Some kinds.TypeMatches
unfolding known_kind
type_matches_kind_number = refl

-- a reading that does not know type matches has no kind 12
pub past_kind_number : relocation_kind 12 ≡ None
unfolding relocation_kind
past_kind_number = refl

-- ---- struct btf_ext_header: the offsets of func_info_off, line_info_off and core_relo_off

pub func_info_field : func_part ≡ 8
func_info_field = refl

pub line_info_field : line_part ≡ 16
line_info_field = refl

pub core_relo_field : core_relo_part ≡ 24
core_relo_field = refl
