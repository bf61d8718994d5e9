use Rattle.std.proofs.Common.{◌≡◌, drop}
use Rattle.std.specs.List.{position_from}
use Rattle.ebpf_btf.specs.Strings.{is_text, text_at}
use Rattle.ebpf_btf.specs.declared.members.BtfMember.{BtfMember}
use Rattle.ebpf_struct_ops.specs.KernelStructs.{member_index}
use Rattle.ebpf_struct_ops.proofs.kernel.member_index.Given as goal

-- the members that are left have the index that all have
abbrev pub invariant-loop-index : goal.invariant-loop-index
invariant-loop-index l =
    position_from (λ (m : BtfMember). is_text l.name (text_at l.kernel.strings m.name_offset)) l.index (drop l.index l.members) ≡ member_index l.kernel l.members l.name
