use Rattle.std.proofs.Common.{ap, ◌∙◌}
use Rattle.std.specs.Prelude.{is_some}
use Rattle.ebpf_load_info.proofs.Wanted.{named_found}
use Rattle.ebpf_load_info.proofs.attach_all.is_found.Goals as goal

pub returns-in-Named : goal.returns-in-Named
returns-in-Named c =
    c.is_some.ensures
    ∙ ap is_some c.first_of.ensures
    ∙ named_found c.args.types.now c.args.ids.now c.args.wanted.now _ _ c.in-Named.is
