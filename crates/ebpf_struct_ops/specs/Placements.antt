-- The place of each member of an object's struct in the value of a map of struct_ops (libbpf 1.7,
-- libbpf.c: bpf_map__init_kern_struct_ops).
--
-- A worked example. The object's struct has `f`, a pointer to a function at offset 0, and `flags`,
-- an INT of 4 bytes at offset 8. The kernel's struct has `flags` at offset 0 and `f`, its member 1,
-- at offset 8, and stands at offset 16 of the value:
--
--   f, with a program: its descriptor at offset 16 + 8 = 24, for the member 1
--   f, without a program and zero: nothing
--   flags: the bytes 8 to 11 of the struct at offset 16 + 0 = 16
--
-- If the kernel's struct lacks `flags`, it puts nothing where it is zero, and else is `Missing`.
use Rattle.std.specs.Prelude.{ℕ, ◌+◌, ◌==◌, ◌&&◌, Bool, true, false, not, nat_le, nat_lt, List}
use Rattle.std.specs.Prelude.{take}
use Rattle.std.specs.Prelude.{drop, length, is_some, Option, Some, None, Result, Ok, Err}
use Rattle.std.specs.Prelude.{if◌then◌else◌}
use Rattle.std.specs.List.{list_all}
use Rattle.ebpf_base.specs.Faults.{if_ok}
use Rattle.ebpf_btf.specs.Next.{if_some}
use Rattle.ebpf_btf.specs.TypeInfo.{TypeInfo}
use Rattle.ebpf_btf.specs.Types.{kind_number}
use Rattle.ebpf_btf.specs.declared.kind.BtfKind.{BtfKind}
use Rattle.ebpf_btf.specs.declared.kind.BtfKind.TheVariants as kinds
use Rattle.ebpf_btf.specs.declared.types.BtfType.{BtfType}
use Rattle.ebpf_struct_ops.specs.KernelStructs.{kernel_member}
use Rattle.ebpf_struct_ops.specs.declared.faults.MemberFault.{MemberFault}
use Rattle.ebpf_struct_ops.specs.declared.faults.MemberFault.TheVariants as faults
use Rattle.ebpf_struct_ops.specs.declared.kernel.KernelMember.{KernelMember}
use Rattle.ebpf_struct_ops.specs.declared.kernel.KernelStruct.{KernelStruct}
use Rattle.ebpf_struct_ops.specs.declared.placement.LocalMember.{LocalMember}
use Rattle.ebpf_struct_ops.specs.declared.placement.Placement.{Placement}
use Rattle.ebpf_struct_ops.specs.declared.placement.Placement.TheVariants.{Bytes, Nothing, Program}
use Rattle.ebpf_struct_ops.specs.declared.variable.StructOpsMember.{StructOpsMember}

-- ---- the member in the object

abbrev pub are_zero : List ℕ → Bool
are_zero = list_all (λ b. b == 0)

abbrev pub local_facts : List ℕ → StructOpsMember → ℕ → LocalMember
local_facts bytes m size = record {
  offset = m.offset;
  size = size;
  kind = m.kind;
  is_zero = are_zero (take size (drop m.offset bytes));
  has_program = is_some m.program;
}

unfoldable pub local_member : List ℕ → StructOpsMember → Result LocalMember MemberFault
local_member bytes m =
    if_some m.size
    (λ size.
    if m.is_bit_field then Err faults.BitField
    else if nat_lt (length bytes) (m.offset + size) then Err faults.OutsideStruct
    else Ok (local_facts bytes m size))
    (Err faults.UnknownSize)

-- ---- its place: `base` is the offset of the kernel's struct in the value

abbrev pub same_kind : BtfKind → BtfKind → Bool
same_kind one other = kind_number one == kind_number other

-- a pointer stays zero, or gets the descriptor of its program
abbrev pub pointer_placement : LocalMember → ℕ → KernelMember → Result Placement MemberFault
pointer_placement local base member =
    if not local.has_program
    then (if local.is_zero then Ok Nothing else Err faults.NotAProgram)
    else if not member.is_function_pointer then Err faults.NotAFunctionPointer
    else Ok (Program member.index (base + member.offset))

-- other members are copied, where their sizes are equal
abbrev pub data_placement : LocalMember → ℕ → KernelMember → Result Placement MemberFault
data_placement local base member =
    if_some member.size
    (λ size.
    if size == local.size
    then Ok (Bytes local.offset (base + member.offset) size)
    else Err faults.DifferentSizes)
    (Err faults.DifferentSizes)

unfoldable pub found_placement : LocalMember → ℕ → KernelMember → Result Placement MemberFault
found_placement local base member =
    if member.is_bit_field then Err faults.BitField
    else if not (same_kind local.kind member.kind) then Err faults.DifferentKinds
    else if same_kind local.kind kinds.Ptr then pointer_placement local base member
    else data_placement local base member

-- a member that the kernel lacks has to be zero
abbrev pub either_placement : LocalMember → ℕ → Option KernelMember → Result Placement MemberFault
either_placement local base None =
    if local.is_zero && not local.has_program then Ok Nothing else Err faults.Missing
either_placement local base (Some member) = found_placement local base member

-- ---- inside the value

abbrev pub is_inside : ℕ → Placement → Bool
is_inside size Nothing = true
is_inside size (Bytes from to count) = nat_le (to + count) size
is_inside size (Program member to) = nat_le (to + 8) size

abbrev pub inside_value : ℕ → Placement → Result Placement MemberFault
inside_value size p = if is_inside size p then Ok p else Err faults.OutsideValue

-- the placement of a member, by the kernel's struct `t`
unfoldable pub placement_of : List ℕ → TypeInfo → BtfType → KernelStruct → StructOpsMember
    → Result Placement MemberFault
placement_of bytes kernel t into m =
    if_ok (local_member bytes m) (λ local.
    if_ok (either_placement local into.data_offset (kernel_member kernel t m.name)) (λ p.
    inside_value into.value_size p))
