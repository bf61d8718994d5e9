use Rattle.std.proofs.Common.{ap, ◌∙◌}
use Rattle.cli_prepare.proofs.OpenedObjects.{defined}
use Rattle.cli_prepare.specs.KernelValues.{defined_with, externs_of}
use Rattle.cli_prepare.proofs.kconfig_values.define_externs.Goals as goal

pub returns-in-Ok : goal.returns-in-Ok
returns-in-Ok c =
    let o = c.args.object.now in
    defined c.in_ok-values.values (externs_of o) o c.define_kconfig.new.object c.in-Ok.ensures.others_stay c.in-Ok.ensures.maps c.in-Ok.ensures.symbols
    ∙ ap (λ values. defined_with values (externs_of o) o) c.in_ok-values.ensures
