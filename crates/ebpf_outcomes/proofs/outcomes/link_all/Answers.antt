use Rattle.std.proofs.Common.{refl}
use Rattle.ebpf_object.proofs.Replaced.{are_linked}
use Rattle.ebpf_object.specs.LinkedPrograms.{linkable_of, programs_in_order}
use Rattle.ebpf_object.specs.Names.{has_function_in}
use Rattle.ebpf_outcomes.proofs.outcomes.link_all.Goals as goal

pub returns-clause-ok : goal.returns-clause-ok
returns-clause-ok c =
    let o = c.args.object.now in (
      are_linked (linkable_of o (has_function_in o.functions)) (programs_in_order o.programs) c.in-Ok.linked.functions c.take_places.new.functions c.in-Ok.ensures.linked c.take_places.ensures,
      refl,
    )
