use Rattle.std.proofs.Common.{◌≡◌}
use Rattle.std.specs.Prelude.{◌==◌, ◌/◌, find, option_map}
use Rattle.ebpf_btf.specs.Types.{bit_offset}
use Rattle.ebpf_btf.specs.declared.members.BtfMember.{BtfMember}
use Rattle.ebpf_struct_ops.specs.KernelStructs.{data_offset}
use Rattle.ebpf_struct_ops.proofs.kernel.data_offset.Given as goal

-- the members that are left have the offset that all have
abbrev pub invariant-loop-member : goal.invariant-loop-member
invariant-loop-member l =
    option_map (λ m. bit_offset l.ty m / 8) (find (λ (m : BtfMember). m.btf_type == l.type_id) l.member-iterator) ≡ data_offset l.ty l.type_id
