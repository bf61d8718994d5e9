use Rattle.ebpf_btf_decls.proofs.MemberValues.{later_members, later_inner_members}
use Rattle.ebpf_btf_decls.proofs.laws.later_members_stand.Goals as goal

pub returns-clause-maps : goal.returns-clause-maps
returns-clause-maps c = later_members

pub returns-clause-inner_maps : goal.returns-clause-inner_maps
returns-clause-inner_maps c = later_inner_members
