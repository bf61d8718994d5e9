-- The kernel's types for a map of struct_ops (libbpf 1.7, libbpf.c: find_struct_ops_kern_types,
-- find_member_by_name). An object's `struct NAME` or `struct NAME___FLAVOR` stands for the kernel's
-- `struct NAME`. The value of its map is the kernel's `struct bpf_struct_ops_NAME`, which holds a
-- `struct NAME`.
use Rattle.std.specs.Prelude.{ℕ, ◌/◌, ◌==◌, Bool, true, false, not, List, ◌++◌, codes, slice_get}
use Rattle.std.specs.Prelude.{Option, option_map, unwrap_or, Result, Ok, Err, find}
use Rattle.std.specs.List.{position_from}
use Rattle.std.specs.Option.{ok_or, option_and_then}
use Rattle.std.specs.Result.{result_ok}
use Rattle.std.specs.Str.Lossy.{utf8_lossy}
use Rattle.ebpf_base.specs.Faults.{if_ok}
use Rattle.ebpf_btf.specs.EssentialNames.{essential_name}
use Rattle.ebpf_btf.specs.Next.{if_some}
use Rattle.ebpf_btf.specs.Steps.{size_of}
use Rattle.ebpf_btf.specs.Strings.{id_of_name, is_text, text_at}
use Rattle.ebpf_btf.specs.TypeInfo.{TypeInfo}
use Rattle.ebpf_btf.specs.Types.{bit_field_size, bit_offset, kind_of, size_word}
use Rattle.ebpf_btf.specs.declared.kind.BtfKind.TheVariants as kinds
use Rattle.ebpf_btf.specs.declared.members.BtfMember.{BtfMember}
use Rattle.ebpf_btf.specs.declared.types.BtfType.{BtfType}
use Rattle.ebpf_struct_ops.specs.TypeFacts.{is_function_pointer, members_in, type_behind}
use Rattle.ebpf_struct_ops.specs.declared.error.StructOpsError.{StructOpsError}
use Rattle.ebpf_struct_ops.specs.declared.error.StructOpsError.TheVariants.{NoDataMember}
use Rattle.ebpf_struct_ops.specs.declared.error.StructOpsError.TheVariants.{NoKernelStruct}
use Rattle.ebpf_struct_ops.specs.declared.error.StructOpsError.TheVariants.{OutOfMemory}
use Rattle.ebpf_struct_ops.specs.declared.kernel.KernelMember.{KernelMember}
use Rattle.ebpf_struct_ops.specs.declared.kernel.KernelStruct.{KernelStruct}

-- the one answer that no definition states: an allocation failure
abbrev pub is_struct_ops_memory : StructOpsError → Bool
is_struct_ops_memory OutOfMemory = true
is_struct_ops_memory _ = false

-- ---- the struct, and the value that holds it

-- the name of the kernel's struct: the part of a name before `___`
abbrev pub kernel_name : List ℕ → List ℕ
kernel_name type_name = utf8_lossy (essential_name type_name)

abbrev pub value_mark : List ℕ
value_mark = codes "bpf_struct_ops_"

-- the first STRUCT of a name, which a map wants
abbrev pub struct_named : TypeInfo → List ℕ → List ℕ → Result ℕ StructOpsError
struct_named kernel map name = ok_or (id_of_name kernel name kinds.Struct) (NoKernelStruct map name)

abbrev pub value_struct : TypeInfo → List ℕ → List ℕ → Result ℕ StructOpsError
value_struct kernel map type_name = struct_named kernel map (value_mark ++ kernel_name type_name)

abbrev pub kernel_type : TypeInfo → List ℕ → List ℕ → Result ℕ StructOpsError
kernel_type kernel map type_name = struct_named kernel map (kernel_name type_name)

-- the offset in bytes of the first member with a type
abbrev pub data_offset : BtfType → ℕ → Option ℕ
data_offset t id =
    option_map (λ m. bit_offset t m / 8) (find (λ (m : BtfMember). m.btf_type == id) (members_in t))

-- the size of a type; 0 where it states none
abbrev pub value_size : BtfType → ℕ
value_size t = unwrap_or (size_word t) 0

abbrev pub struct_in_value : BtfType → ℕ → ℕ → ℕ → KernelStruct
struct_in_value value value_id id offset = record {
  struct_id = id;
  value_type_id = value_id;
  value_size = value_size value;
  data_offset = offset;
}

-- the types for the map of a struct of this name
unfoldable pub kernel_struct : TypeInfo → List ℕ → List ℕ → Result KernelStruct StructOpsError
kernel_struct kernel map type_name =
    if_ok (value_struct kernel map type_name) (λ value_id.
    if_ok (kernel_type kernel map type_name) (λ id.
    if_some (data_offset (type_behind kernel value_id) id)
    (λ offset. Ok (struct_in_value (type_behind kernel value_id) value_id id offset))
    (Err (NoDataMember map))))

-- ---- the members of the kernel's struct

-- the index of the first member with a name
abbrev pub member_index : TypeInfo → List BtfMember → List ℕ → Option ℕ
member_index kernel members name =
    position_from (λ (m : BtfMember). is_text name (text_at kernel.strings m.name_offset)) 0 members

abbrev pub kernel_facts : TypeInfo → BtfType → ℕ → BtfMember → KernelMember
kernel_facts kernel t index m = record {
  index = index;
  offset = bit_offset t m / 8;
  size = result_ok (size_of kernel.types m.btf_type);
  kind = kind_of (type_behind kernel m.btf_type);
  is_bit_field = not (bit_field_size t m == 0);
  is_function_pointer = is_function_pointer kernel m.btf_type;
}

-- the first member of the kernel's struct with a name
unfoldable pub kernel_member : TypeInfo → BtfType → List ℕ → Option KernelMember
kernel_member kernel t name =
    option_and_then
    (λ index. option_map (kernel_facts kernel t index) (slice_get (members_in t) index))
    (member_index kernel (members_in t) name)
