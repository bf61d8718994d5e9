use Rattle.std.proofs.Common.{◌∙◌, ap, sym}
use Rattle.std.specs.Prelude.{not, ◌||◌}
use Rattle.std.specs.FinMap.{contains_key, empty, entries}
use Rattle.std.specs.List.{filter}
use Rattle.ebpf_base.specs.Maps.{by_bytes, put_all}
use Rattle.ebpf_chosen_programs.specs.LeavingOut.{extern_names}
use Rattle.ebpf_chosen_programs.specs.PrivateContracts.{name_set}
use Rattle.ebpf_chosen_programs.proofs.Remaining.{externs_left}
use Rattle.ebpf_chosen_programs.proofs.externs.kept_externs.Goals as goal

pub returns : goal.returns
returns c =
    let externs = c.args.externs.now in
    let referred = c.in_ok-referred.referred in
    let needed = c.in_ok-needed.needed in
    let before = extern_names c.args.symbols.now c.args.before.now in
    let after = extern_names c.args.symbols.now c.args.after.now in
    sym (ap (λ es. put_all c.loop-name.kept (filter (λ e. contains_key needed e.0 || not (contains_key referred e.0)) (by_bytes es))) c.in-None.ensures.steps.0)
    ∙ c.loop-name.invariant
    ∙ ap (λ set. put_all empty (filter (λ e. contains_key set e.0 || not (contains_key referred e.0)) (entries externs))) c.in_ok-needed.ensures
    ∙ ap (λ set. put_all empty (filter (λ e. contains_key (name_set after) e.0 || not (contains_key set e.0)) (entries externs))) c.in_ok-referred.ensures
    ∙ externs_left after before externs
