use Rattle.std.proofs.Common.{ℕ, ◌<◌, ◌∙◌, List, sym, arith, subst, length, get_or}
use Rattle.std.specs.Prelude.{All}
use Rattle.ebpf_parts.specs.declared.insn.bpf_insn.{bpf_insn}
use Rattle.ebpf_linker.specs.declared.reference.Reference.{Reference}
use Rattle.ebpf_linker.specs.Copies.{Fit}
use Rattle.ebpf_linker.specs.Numbered.{IsWithin}
use Rattle.ebpf_linker.proofs.Walks.{references_first, references_more, body_read, calls_read, no_body, fit_more}
use Rattle.ebpf_linker.proofs.link_map.references_of.Goals as goal

pub loop-function-init : goal.loop-function-init
loop-function-init c =
    let B = c.args.functions.now.bodies.now in
    let p = c.args.start in
    let lt : p < length c.args.functions.now.references.now = omega (arith, c.args.functions.now.count, c.requires.start) in
    let calls = calls_read c.args.functions.now.references.now p c.index-functions-start.result lt ∙ sym c.deref.ensures.value in
    let body = body_read B p no_body c.requires.start in
    record {
      whole = references_first B c.args.functions.now.references.now c.args.bases.now p c.args.reached.now (get_or B p no_body).slots.now c.deref.result.now c.new-references.result.items c.add_references.new.references.items body calls c.new-references.ensures.items c.in_ok-add_references.ensures;
      fit = subst (λ (s : List bpf_insn). Fit B (length s) c.args.reached.now) body c.requires.fit;
    }

pub add_references-requires-in-loop-function-clause-within : goal.add_references-requires-in-loop-function-clause-within
add_references-requires-in-loop-function-clause-within c =
    let k = get_or c.args.reached.now c.loop-function.function-index 0 in
    let lt = c.requires.reached c.loop-function.function-index 0 c.loop-function-test.true in
    let lt' : k < length c.args.functions.now.references.now = omega (arith, lt, c.args.functions.now.count) in
    let calls = calls_read c.args.functions.now.references.now k c.index-functions-function.result lt' ∙ sym c.deref-in-loop-function.ensures.value in
    subst (λ (n : ℕ). All (λ call. IsWithin n call.target) c.deref-in-loop-function.result.now) (sym c.requires.bases)
    (subst (λ (cs : List Reference). All (λ call. IsWithin (length c.args.functions.now.bodies.now) call.target) cs) calls (c.args.functions.now.sound.within k))

pub loop-function-preserved : goal.loop-function-preserved
loop-function-preserved c =
    let B = c.args.functions.now.bodies.now in
    let k = get_or c.args.reached.now c.loop-function.function-index 0 in
    let known = c.requires.reached c.loop-function.function-index 0 c.loop-function-test.true in
    let lt : k < length c.args.functions.now.references.now = omega (arith, known, c.args.functions.now.count) in
    let calls = calls_read c.args.functions.now.references.now k c.index-functions-function.result lt ∙ sym c.deref-in-loop-function.ensures.value in
    record {
      whole = references_more B c.args.reached.now c.loop-function.base c.loop-function.function-index c.loop-function-test.true known c.args.functions.now.references.now c.args.bases.now c.deref-in-loop-function.result.now calls c.loop-function.references.items _ _ c.loop-function.invariant.whole c.in_ok-add_references-2.ensures;
      fit = fit_more B c.args.reached.now c.loop-function.base c.loop-function.function-index c.loop-function-test.true known c.loop-function.invariant.fit;
    }
