use Rattle.std.proofs.Common.{◌≡◌, drop}
use Rattle.ebpf_btf_decls.specs.Maps.{inner_member_value, with_members}
use Rattle.ebpf_btf_decls.specs.MapMembers.{no_definitions}
use Rattle.ebpf_btf_decls.proofs.known_structs.inner_definition.Given as goal

-- with what the members from here on say it is what all say
abbrev pub invariant-loop-index : goal.invariant-loop-index
invariant-loop-index l = with_members (inner_member_value l.mode l.btf l.name) l.all (drop l.index l.members) ≡ with_members (inner_member_value l.fn.mode l.fn.btf l.fn.name) no_definitions l.fn.members
