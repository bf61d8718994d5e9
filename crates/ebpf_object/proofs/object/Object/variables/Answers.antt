use Rattle.std.proofs.Common.{◌≡◌, ◌∙◌, ap, map, subst}
use Rattle.std.specs.Prelude.{IfOk}
use Rattle.std.specs.FinMap.{entries}
use Rattle.std.specs.List.{filter_map}
use Rattle.std.specs.Option.{option_and_then}
use Rattle.ebpf_object.specs.PrivateContracts.{variable_in}
use Rattle.ebpf_object.specs.Variables.{variable_at, variable_value}
use Rattle.ebpf_object.proofs.VariableNames.{listed_by_names}
use Rattle.ebpf_object.proofs.object.Object.variables.Goals as goal

pub returns-in-Ok : goal.returns-in-Ok
returns-in-Ok c =
    let o = c.args.self.now in
    subst (λ listed. IfOk c.variables_among.result (λ all. map variable_value all ≡ listed))
    (ap (λ indices. filter_map (λ e. option_and_then variable_in (variable_at o.symbol_table (entries o.maps) e.1)) (entries indices)) c.in-Ok.ensures ∙ listed_by_names o.symbol_table (entries o.maps))
    c.variables_among.ensures
