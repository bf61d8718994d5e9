use Rattle.std.proofs.Common.{◌<◌, ◌∙◌, refl, sym, ap, arith, length, get_or}
use Rattle.ebpf_linker.proofs.Walks.{linked_copies_next, fits_next, body_read, no_body, calls_read, among_at}
use Rattle.ebpf_linker.proofs.copies.write_copies.Goals as goal

pub append-requires-clause-short : goal.append-requires-clause-short
append-requires-clause-short c some =
    let k = get_or c.args.order.now c.loop-function.function-index 0 in
    let lt = c.requires.order c.loop-function.function-index 0 c.loop-function-test.true in
    let lt' : k < length c.args.functions.now.references.now = omega (arith, lt) in
    let d = calls_read c.args.functions.now.references.now k c.index-functions-function.result lt' ∙ sym c.deref.ensures.value in
    let n = ap length d in
    let short = c.requires.short k (omega (arith, some, n)) (among_at c.args.order.now c.loop-function.function-index k c.loop-function-test.true refl) in
    let fits = fits_next c.args.functions.now.bodies.now c.args.functions.now.references.now c.args.bases.now c.args.order.now c.loop-function.out.items c.loop-function.function-index k _ c.loop-function.invariant c.loop-function-test.true refl (body_read c.args.functions.now.bodies.now k no_body lt) in
    omega (arith, short, fits)

pub loop-function-preserved : goal.loop-function-preserved
loop-function-preserved c =
    let k = get_or c.args.order.now c.loop-function.function-index 0 in
    let lt = c.requires.order c.loop-function.function-index 0 c.loop-function-test.true in
    let lt' : k < length c.args.functions.now.references.now = omega (arith, lt) in
    let d = calls_read c.args.functions.now.references.now k c.index-functions-function.result lt' ∙ sym c.deref.ensures.value in
    linked_copies_next c.args.functions.now.bodies.now c.args.functions.now.references.now c.args.bases.now c.args.order.now c.loop-function.out.items c.loop-function.function-index k _ c.append.new.out.items c.deref.result.now c.loop-function.invariant c.loop-function-test.true refl (body_read c.args.functions.now.bodies.now k no_body lt) d c.in_ok-append.ensures
