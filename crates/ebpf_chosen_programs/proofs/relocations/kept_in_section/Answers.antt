use Rattle.std.proofs.Common.{◌∙◌, ap, sym}
use Rattle.std.specs.FinMap.{contains_key, empty, entries}
use Rattle.std.specs.List.{filter}
use Rattle.ebpf_base.specs.Maps.{put_all}
use Rattle.ebpf_chosen_programs.specs.PrivateContracts.{stays_among}
use Rattle.ebpf_chosen_programs.proofs.Remaining.{relocations_left}
use Rattle.ebpf_chosen_programs.proofs.relocations.kept_in_section.Goals as goal

pub returns : goal.returns
returns c =
    let relocations = c.args.relocations.now in
    sym (ap (λ es. put_all c.loop-offset.kept (filter (λ r. stays_among c.in_ok-bytes.bytes.items r.0) es)) c.in-None.ensures.steps.0)
    ∙ c.loop-offset.invariant
    ∙ ap (λ bytes. put_all empty (filter (λ r. stays_among bytes r.0) (entries relocations))) c.in_ok-bytes.ensures
    ∙ relocations_left c.args.functions.now (contains_key c.args.reached.now) c.args.section relocations
