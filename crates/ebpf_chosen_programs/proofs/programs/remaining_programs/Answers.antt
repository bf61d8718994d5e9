use Rattle.std.proofs.Common.{◌∙◌, ap, sym}
use Rattle.std.specs.Prelude.{not}
use Rattle.std.specs.FinMap.{contains_key, empty, entries}
use Rattle.std.specs.List.{filter}
use Rattle.ebpf_base.specs.Maps.{by_bytes, lent_bytes, put_all}
use Rattle.ebpf_chosen_programs.proofs.Remaining.{programs_left}
use Rattle.ebpf_chosen_programs.proofs.programs.remaining_programs.Goals as goal

pub returns : goal.returns
returns c =
    let programs = c.args.programs.now in
    let left_out = c.in_ok-left_out.left_out in
    sym (ap (λ es. put_all c.loop-name.left (filter (λ e. not (contains_key left_out e.0)) (by_bytes es))) c.in-None.ensures.steps.0)
    ∙ c.loop-name.invariant
    ∙ ap (λ set. put_all empty (filter (λ e. not (contains_key set e.0)) (entries programs))) c.in_ok-left_out.ensures
    ∙ programs_left (lent_bytes c.args.names.now) programs
