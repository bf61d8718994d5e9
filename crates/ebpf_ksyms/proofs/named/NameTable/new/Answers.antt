use Rattle.std.proofs.Common.{◌∙◌}
use Rattle.ebpf_ksyms.specs.PrivateContracts.{value_named}
use Rattle.ebpf_ksyms.proofs.Resolving.{marked_only, named-step, named-end}
use Rattle.ebpf_ksyms.proofs.named.NameTable.new.Goals as goal

pub loop-name-preserved : goal.loop-name-preserved
loop-name-preserved g c = λ q.
    named-step c.args.names.now c.loop-name.name-index _ c.args.value c.loop-name.values c.insert.new.self c.loop-name-test.true c.in_ok-insert.ensures.updates q
    ∙ c.loop-name.invariant q

pub returns : goal.returns
unfolding value_named
returns g c = λ q.
    marked_only c.in_ok-marks.marks.items c.args.names.now c.args.value _ c.in_ok-marks.ensures q
    (named-end c.args.names.now c.loop-name.name-index c.args.value c.loop-name.values c.loop-name-test.false q ∙ c.loop-name.invariant q)
