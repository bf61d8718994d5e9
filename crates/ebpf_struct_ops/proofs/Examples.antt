-- The worked example of specs/Placements.antt.
use Rattle.std.proofs.Common.{◌≡◌, true, false, Some, None, Ok, Err, refl}
use Rattle.ebpf_btf.specs.Types.{kind_number}
use Rattle.ebpf_btf.specs.declared.kind.BtfKind.TheVariants as kinds
use Rattle.ebpf_struct_ops.specs.Placements.{either_placement, found_placement}
use Rattle.ebpf_struct_ops.specs.declared.faults.MemberFault.TheVariants as faults
use Rattle.ebpf_struct_ops.specs.declared.kernel.KernelMember.{KernelMember}
use Rattle.ebpf_struct_ops.specs.declared.placement.LocalMember.{LocalMember}
use Rattle.ebpf_struct_ops.specs.declared.placement.Placement.TheVariants.{Bytes, Nothing, Program}

-- `f`, with a program and without one
pub with_program : LocalMember
with_program = record { offset = 0; size = 8; kind = kinds.Ptr; is_zero = true; has_program = true }

pub without_program : LocalMember
without_program = record { offset = 0; size = 8; kind = kinds.Ptr; is_zero = true; has_program = false }

pub kernel_f : KernelMember
kernel_f = record { index = 1; offset = 8; size = Some 8; kind = kinds.Ptr; is_bit_field = false; is_function_pointer = true }

-- `flags`, which is zero or is not
pub flags : LocalMember
flags = record { offset = 8; size = 4; kind = kinds.Int; is_zero = false; has_program = false }

pub zero_flags : LocalMember
zero_flags = record { offset = 8; size = 4; kind = kinds.Int; is_zero = true; has_program = false }

pub kernel_flags : KernelMember
kernel_flags = record { index = 0; offset = 0; size = Some 4; kind = kinds.Int; is_bit_field = false; is_function_pointer = false }

pub program_is_put : either_placement with_program 16 (Some kernel_f) ≡ Ok (Program 1 24)
unfolding with_program kernel_f found_placement kind_number
program_is_put = refl

pub null_stays : either_placement without_program 16 (Some kernel_f) ≡ Ok Nothing
unfolding without_program kernel_f found_placement kind_number
null_stays = refl

pub flags_are_copied : either_placement flags 16 (Some kernel_flags) ≡ Ok (Bytes 8 16 4)
unfolding flags kernel_flags found_placement kind_number
flags_are_copied = refl

pub zero_is_passed_over : either_placement zero_flags 16 None ≡ Ok Nothing
unfolding zero_flags
zero_is_passed_over = refl

pub others_are_missing : either_placement flags 16 None ≡ Err faults.Missing
unfolding flags
others_are_missing = refl
