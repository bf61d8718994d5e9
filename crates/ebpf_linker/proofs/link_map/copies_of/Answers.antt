use Rattle.std.proofs.Common.{List, subst, length, get_or}
use Rattle.ebpf_parts.specs.declared.insn.bpf_insn.{bpf_insn}
use Rattle.ebpf_linker.specs.Copies.{Fit}
use Rattle.ebpf_linker.proofs.Walks.{copies_first, copies_more, body_read, no_body, fit_more}
use Rattle.ebpf_linker.proofs.link_map.copies_of.Goals as goal

pub loop-function-init : goal.loop-function-init
loop-function-init c =
    let B = c.args.bodies.now in
    let p = c.args.start in
    let body = body_read B p no_body c.requires.start in
    record {
      whole = copies_first B p c.args.reached.now (get_or B p no_body).slots.now c.new-copies.result.items _ body c.new-copies.ensures.items c.in_ok-push.ensures.items;
      fit = subst (λ (s : List bpf_insn). Fit B (length s) c.args.reached.now) body c.requires.fit;
    }

pub loop-function-preserved : goal.loop-function-preserved
loop-function-preserved c =
    let B = c.args.bodies.now in
    let known = c.requires.reached c.loop-function.function-index 0 c.loop-function-test.true in
    record {
      whole = copies_more B c.args.reached.now c.loop-function.end c.loop-function.function-index c.loop-function-test.true known c.loop-function.copies.items _ _ c.loop-function.invariant.whole c.in_ok-push-2.ensures.items;
      fit = fit_more B c.args.reached.now c.loop-function.end c.loop-function.function-index c.loop-function-test.true known c.loop-function.invariant.fit;
    }
