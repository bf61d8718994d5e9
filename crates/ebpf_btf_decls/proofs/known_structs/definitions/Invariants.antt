use Rattle.std.proofs.Common.{◌≡◌, drop}
use Rattle.ebpf_btf_decls.specs.SectionMaps.{RemembersInner}
use Rattle.ebpf_btf_decls.specs.Maps.{member_value, with_members, definitions}
use Rattle.ebpf_btf_decls.proofs.known_structs.definitions.Given as goal

-- with what the members from here on say it is what all say
abbrev pub invariant-loop-index : goal.invariant-loop-index
invariant-loop-index l = record {
  known : RemembersInner l.mode l.btf l.known;
  says : with_members (member_value l.mode l.btf l.name) l.all (drop l.index l.members) ≡ definitions l.fn.mode l.fn.btf l.fn.name l.fn.members;
}
