-- The numbers of BTF in the definitions are the kernel's (Documentation/bpf/btf.rst and
-- include/uapi/linux/btf.h): the first word of the header, the kinds 1 to 19 in bits 24 to 28 of an
-- info word, the flag in bit 31, and the encodings of integers.
use Rattle.std.specs.Prelude.{◌≡◌, true, false, Some, None, refl}
use Rattle.ebpf_base.specs.declared.endianness.Endianness.TheVariants.{Little, Big}
use Rattle.ebpf_btf.specs.declared.kind.BtfKind.TheVariants as kinds
use Rattle.ebpf_btf.specs.declared.types.BtfType.TheVariants.{Int}
use Rattle.ebpf_btf.specs.Format.{info_kind, info_kind_flag, info_vlen}
use Rattle.ebpf_btf.specs.Header.{first_word}
use Rattle.ebpf_btf.specs.Types.{is_signed}

-- ---- struct btf_header: BTF_MAGIC 0xeb9f, then BTF_VERSION 1 and no flags, as a word

pub little_magic_number : first_word Little ≡ 0x0001eb9f
unfolding first_word
little_magic_number = refl

pub big_magic_number : first_word Big ≡ 0xeb9f0100
unfolding first_word
big_magic_number = refl

-- ---- the kinds, BTF_KIND_INT to BTF_KIND_ENUM64, in info words

pub no_kind_number : info_kind 0x00000000 ≡ None
unfolding info_kind
no_kind_number = refl

pub int_kind_number : info_kind 0x01000000 ≡ Some kinds.Int
unfolding info_kind
int_kind_number = refl

pub ptr_kind_number : info_kind 0x02000000 ≡ Some kinds.Ptr
unfolding info_kind
ptr_kind_number = refl

pub array_kind_number : info_kind 0x03000000 ≡ Some kinds.Array
unfolding info_kind
array_kind_number = refl

pub struct_kind_number : info_kind 0x04000000 ≡ Some kinds.Struct
unfolding info_kind
struct_kind_number = refl

pub union_kind_number : info_kind 0x05000000 ≡ Some kinds.Union
unfolding info_kind
union_kind_number = refl

pub enum_kind_number : info_kind 0x06000000 ≡ Some kinds.Enum
unfolding info_kind
enum_kind_number = refl

pub fwd_kind_number : info_kind 0x07000000 ≡ Some kinds.Fwd
unfolding info_kind
fwd_kind_number = refl

pub typedef_kind_number : info_kind 0x08000000 ≡ Some kinds.Typedef
unfolding info_kind
typedef_kind_number = refl

pub volatile_kind_number : info_kind 0x09000000 ≡ Some kinds.Volatile
unfolding info_kind
volatile_kind_number = refl

pub const_kind_number : info_kind 0x0a000000 ≡ Some kinds.Const
unfolding info_kind
const_kind_number = refl

pub restrict_kind_number : info_kind 0x0b000000 ≡ Some kinds.Restrict
unfolding info_kind
restrict_kind_number = refl

pub func_kind_number : info_kind 0x0c000000 ≡ Some kinds.Func
unfolding info_kind
func_kind_number = refl

pub func_proto_kind_number : info_kind 0x0d000000 ≡ Some kinds.FuncProto
unfolding info_kind
func_proto_kind_number = refl

pub var_kind_number : info_kind 0x0e000000 ≡ Some kinds.Var
unfolding info_kind
var_kind_number = refl

pub datasec_kind_number : info_kind 0x0f000000 ≡ Some kinds.DataSec
unfolding info_kind
datasec_kind_number = refl

pub float_kind_number : info_kind 0x10000000 ≡ Some kinds.Float
unfolding info_kind
float_kind_number = refl

pub decl_tag_kind_number : info_kind 0x11000000 ≡ Some kinds.DeclTag
unfolding info_kind
decl_tag_kind_number = refl

pub type_tag_kind_number : info_kind 0x12000000 ≡ Some kinds.TypeTag
unfolding info_kind
type_tag_kind_number = refl

pub enum64_kind_number : info_kind 0x13000000 ≡ Some kinds.Enum64
unfolding info_kind
enum64_kind_number = refl

pub past_kind_number : info_kind 0x14000000 ≡ None
unfolding info_kind
past_kind_number = refl

-- ---- the other bits of an info word: vlen in bits 0 to 15, kind_flag in bit 31

-- a STRUCT with two members and sizes of bit fields
pub struct_kind_bits : info_kind 0x84000002 ≡ Some kinds.Struct
unfolding info_kind
struct_kind_bits = refl

pub struct_vlen_bits : info_vlen 0x84000002 ≡ 2
unfolding info_vlen
struct_vlen_bits = refl

pub struct_flag_bit : info_kind_flag 0x84000002 ≡ true
unfolding info_kind_flag
struct_flag_bit = refl

pub no_flag_bit : info_kind_flag 0x04000002 ≡ false
unfolding info_kind_flag
no_flag_bit = refl

-- ---- the encodings of an INT in bits 24 to 27 of its word: BTF_INT_SIGNED is 1, BTF_INT_CHAR 2,
-- BTF_INT_BOOL 4; here with 32 bits and 8

pub signed_encoding : is_signed (Int 0 4 0x01000020) ≡ true
unfolding is_signed
signed_encoding = refl

pub unsigned_encoding : is_signed (Int 0 4 0x00000020) ≡ false
unfolding is_signed
unsigned_encoding = refl

pub char_encoding : is_signed (Int 0 1 0x02000008) ≡ false
unfolding is_signed
char_encoding = refl

pub bool_encoding : is_signed (Int 0 1 0x04000008) ≡ false
unfolding is_signed
bool_encoding = refl
