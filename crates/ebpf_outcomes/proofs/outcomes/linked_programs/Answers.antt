use Rattle.std.proofs.Common.{◌≤◌, arith, length}
use Rattle.ebpf_outcomes.proofs.PassOutcomes.{all_are_linked, all_are_mapped, none_so_far, one_more, refused_here}
use Rattle.ebpf_object.proofs.Staging.{passed_on}
use Rattle.ebpf_reloc.specs.SlotTargets.{read}
use Rattle.ebpf_outcomes.proofs.outcomes.linked_programs.Goals as goal

pub loop-program-init : goal.loop-program-init
loop-program-init c = none_so_far (read c.args.functions.now.parts) c.args.programs.now c.new-linked.result.functions c.new-linked.result.link_maps c.new-linked.ensures.functions c.new-linked.ensures.link_maps

pub loop-program-preserved : goal.loop-program-preserved
loop-program-preserved c =
    one_more (read c.args.functions.now.parts) c.args.programs.now c.loop-program.program-index c.loop-program.linked.functions c.loop-program.linked.link_maps c.loop-program.invariant c.program-item.result c.loop-program-test.true c.program-item.is
    c.in_ok-made.made.function c.in_ok-made.made.map c.in_ok-made.ensures.linked c.in_ok-made.ensures.mapped
    c.add.new.self.functions c.in_ok-add.ensures.functions c.add.new.self.link_maps c.in_ok-add.ensures.link_maps

pub returns-in_err-made-clause-fault : goal.returns-in_err-made-clause-fault
returns-in_err-made-clause-fault c =
    passed_on _ c.from_residual.result c.in_err-made.field-0.0 c.from_residual.ensures.1
    (refused_here (read c.args.functions.now.parts) c.args.programs.now c.loop-program.program-index c.loop-program.linked.functions c.loop-program.linked.link_maps c.loop-program.invariant c.program-item.result c.loop-program-test.true c.program-item.is
    c.in_err-made.field-0.0 c.in_err-made.ensures.fault)

pub returns-clause-linked : goal.returns-clause-linked
returns-clause-linked c = all_are_linked (read c.args.functions.now.parts) c.args.programs.now c.loop-program.program-index c.loop-program.linked.functions c.loop-program.linked.link_maps c.loop-program.invariant (omega arith)

pub returns-clause-link_maps : goal.returns-clause-link_maps
returns-clause-link_maps c = all_are_mapped (read c.args.functions.now.parts) c.args.programs.now c.loop-program.program-index c.loop-program.linked.functions c.loop-program.linked.link_maps c.loop-program.invariant (omega arith)
