use Rattle.std.proofs.Common.{◌<◌, ◌∙◌, length, arith, sym}
use Rattle.ebpf_btf.specs.Strings.{is_named}
use Rattle.ebpf_load_info.proofs.Heads.{first_here, further}
use Rattle.ebpf_load_info.proofs.texts.id_of_name.Goals as goal

pub returns-then-is_named_at : goal.returns-then-is_named_at
returns-then-is_named_at c =
    let inside : c.loop-id.id < length c.args.types.now.types = omega arith in
    sym (first_here (is_named c.args.types.now c.args.name.now c.args.kind) c.args.types.now.types c.loop-id.id c.loop-id.id inside (sym c.if-is_named_at.true ∙ c.is_named_at.ensures))
    ∙ c.loop-id.invariant

pub loop-id-preserved : goal.loop-id-preserved
loop-id-preserved c =
    let inside : c.loop-id.id < length c.args.types.now.types = omega arith in
    sym (further (is_named c.args.types.now c.args.name.now c.args.kind) c.args.types.now.types c.loop-id.id c.loop-id.id inside (sym c.if-is_named_at.false ∙ c.is_named_at.ensures))
    ∙ c.loop-id.invariant
