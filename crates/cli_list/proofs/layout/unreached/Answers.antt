use Rattle.std.proofs.Common.{◌∙◌}
use Rattle.std.specs.FinMap.{entries}
use Rattle.std.specs.Map.{keys_of}
use Rattle.cli_list.proofs.Using.{unreached_stand}
use Rattle.ebpf_object.proofs.Staging.{of_prepared}
use Rattle.cli_list.proofs.layout.unreached.Goals as goal

pub returns : goal.returns
returns c =
    of_prepared c.keys_beside.result
    (λ keys are. are ∙ unreached_stand c.args.layouts.now c.in_ok-reached.reached c.in_ok-reached.ensures (keys_of (entries c.args.object.now.functions)))
    c.keys_beside.ensures
