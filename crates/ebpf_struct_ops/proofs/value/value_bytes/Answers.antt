use Rattle.std.proofs.Common.{◌≡◌, ◌∙◌, rules}
use Rattle.ebpf_struct_ops.specs.Values.{byte_at}
use Rattle.ebpf_struct_ops.proofs.Bytes.{bytes_more}
use Rattle.ebpf_struct_ops.proofs.value.value_bytes.Goals as goal

pub loop-offset-preserved : goal.loop-offset-preserved
loop-offset-preserved c =
    c.in_ok-push.ensures.ok
    ∙ bytes_more (byte_at c.args.bytes.now c.args.placements.now) _ _ _ c.loop-offset.invariant (search rules)
