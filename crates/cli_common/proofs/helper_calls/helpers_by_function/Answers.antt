use Rattle.ebpf_base.specs.Maps.{key_total}
use Rattle.ebpf_base.proofs.Maps.{key_exact}
use Rattle.ebpf_base.proofs.Mapped.{put_all-map_values}
use Rattle.cli_common.specs.HelperCalls.{helper_set}
use Rattle.cli_common.proofs.helper_calls.helpers_by_function.Goals as goal

pub loop-key-init : goal.loop-key-init
loop-key-init c = let all = put_all-map_values key_total key_exact helper_set c.args.object.now.functions in cc
