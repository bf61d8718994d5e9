use Rattle.std.proofs.Common.{◌≡◌, ap, ◌∙◌}
use Rattle.std.specs.List.{flat_map}
use Rattle.std.proofs.lemmas.Result.{IfOk-weaker}
use Rattle.ebpf_base.specs.Maps.{lent_bytes}
use Rattle.ebpf_object.specs.LinkedPrograms.{programs_in_order}
use Rattle.ebpf_object.specs.PrivateContracts.{program_with}
use Rattle.ebpf_object.proofs.ProgramNames.{all_names}
use Rattle.ebpf_object.proofs.relocate_calls.programs_in_order.Goals as goal

pub returns : goal.returns
returns c =
    let names = ap lent_bytes c.deref.ensures.value ∙ c.in_ok-names.ensures in
    IfOk-weaker c.programs_named.result (λ keys. keys.items ≡ flat_map (program_with c.args.programs.now) (lent_bytes c.deref.result.now)) (λ keys. keys.items ≡ programs_in_order c.args.programs.now)
    (λ keys h. h ∙ ap (flat_map (program_with c.args.programs.now)) names ∙ all_names c.args.programs.now) c.programs_named.ensures
