use Rattle.std.proofs.Common.{◌≡◌, ◌-◌}
use Rattle.ebpf_core.specs.Members.{member_search, members_in, view, run_search}
use Rattle.ebpf_core.proofs.Members.{left_from}
use Rattle.ebpf_core.proofs.member_search.+search.Given as goal

abbrev pub decreases-search : goal.decreases-search
decreases-search l = 64 - l.inside

-- the members that are left give what all of them give
abbrev pub invariant-loop-index : goal.invariant-loop-index
invariant-loop-index l =
    let name_search = member_search l.wanted.local.now l.wanted.target.now l.wanted.name.now l.wanted.local_type in
    run_search name_search l.entries (view name_search (64 - l.inside) l.inside l.bits (members_in l.wanted.target.now.types l.parent))
    ≡ run_search name_search l.left (view name_search (64 - l.inside) l.inside l.bits (left_from l.parent l.ty l.index l.members))
