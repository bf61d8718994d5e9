use Rattle.ebpf_core.specs.Places.{IsFirstMember}
use Rattle.ebpf_core.proofs.PlacePaths.{aside, first_member}
use Rattle.ebpf_core.proofs.member_search.find_member.Goals as goal

pub returns-clause-first : goal.returns-clause-first
returns-clause-first c =
    aside (IsFirstMember c.args.local.now c.args.target.now c.args.name.now c.args.local_type c.args.parent) _ _ c.find.ensures.same
    (first_member c.args.local.now c.args.target.now c.args.name.now c.args.local_type c.args.parent)
