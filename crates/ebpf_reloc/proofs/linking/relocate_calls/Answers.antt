use Rattle.std.proofs.Common.{◌≡◌, ◌∙◌, ap, subst, sym, arith, rules}
use Rattle.std.specs.Prelude.{slice_index_or}
use Rattle.std.specs.FinMap.{FinMap, insert, contains_key}
use Rattle.ebpf_base.specs.Maps.{key_cmp}
use Rattle.ebpf_reloc.proofs.SoFar.{SoFar, none_yet, all_linked, step_more, step_same, refused_here}
use Rattle.ebpf_model.specs.declared.function.Function.{Function}
use Rattle.ebpf_reloc.specs.SlotTargets.{read}
use Rattle.ebpf_reloc.proofs.linking.relocate_calls.Goals as goal

pub loop-program-init : goal.loop-program-init
loop-program-init c = subst (λ (m : FinMap key_cmp Function). SoFar (read c.args.parts.now) c.args.programs.now 0 m) (sym c.new-linked.ensures) (none_yet (read c.args.parts.now) c.args.programs.now)

pub loop-program-preserved : goal.loop-program-preserved
loop-program-preserved c =
    let item : c.program-item.result ≡ slice_index_or c.args.programs.now c.loop-program.program-index c.program-item.result = search rules in
    step_more (read c.args.parts.now) c.args.programs.now c.loop-program.program-index c.loop-program.linked c.loop-program.invariant c.program-item.result (omega arith) item (read c.in_ok-functions.functions.parts) c.in_ok-functions.ensures.parts c.in-Ok.function c.in-Ok.ensures.linked c.put.new.functions (c.in_ok-put.ensures.ok ∙ ap (λ k. insert c.loop-program.linked k c.in-Ok.function) c.key-in-loop-program.ensures)

pub loop-program-preserved-then-contains_key : goal.loop-program-preserved-then-contains_key
loop-program-preserved-then-contains_key c =
    let item : c.program-item.result ≡ slice_index_or c.args.programs.now c.loop-program.program-index c.program-item.result = search rules in
    step_same (read c.args.parts.now) c.args.programs.now c.loop-program.program-index c.loop-program.linked c.loop-program.invariant c.program-item.result (omega arith) item (read c.in_ok-functions.functions.parts) c.in_ok-functions.ensures.parts
    (ap (contains_key c.loop-program.linked) (sym c.key.ensures) ∙ sym c.contains_key.ensures ∙ c.if-contains_key.true)

pub returns-in-Err-clause-fault : goal.returns-in-Err-clause-fault
returns-in-Err-clause-fault c =
    let item : c.program-item.result ≡ slice_index_or c.args.programs.now c.loop-program.program-index c.program-item.result = search rules in
    refused_here (read c.args.parts.now) c.args.programs.now c.loop-program.program-index c.loop-program.linked c.loop-program.invariant c.program-item.result (omega arith) item (read c.in_ok-functions.functions.parts) c.in_ok-functions.ensures.parts c.in-Err.error c.in-Err.ensures.fault

pub returns-clause-linked : goal.returns-clause-linked
returns-clause-linked c = all_linked (read c.args.parts.now) c.args.programs.now c.loop-program.program-index c.loop-program.linked c.loop-program.invariant (omega arith)
