use Rattle.std.proofs.Common.{◌≡◌, ℕ, Bool, length, ap, sym, ◌∙◌, subst}
use Rattle.ebpf_linker.specs.Faults.{has_some}
use Rattle.ebpf_linker.specs.Copies.{with_bases, linked_copies}
use Rattle.ebpf_linker.specs.Numbered.{functions_by_number}
use Rattle.ebpf_linker.specs.Result.{count_if, has_lines}
use Rattle.ebpf_linker.proofs.Walks.{length-with_bases, body_read, no_body, some_if}
use Rattle.ebpf_linker.proofs.Readying.{is_program}
use Rattle.ebpf_linker.proofs.program.assemble.Goals as goal

pub bodies_slot_count-size-requires-clause-copy_bases : goal.bodies_slot_count-size-requires-clause-copy_bases
bodies_slot_count-size-requires-clause-copy_bases c =
    let (before, count, is) = c.in_ok-bases.ensures.copy_bases in
    ap length (c.deref.ensures.value ∙ is) ∙ length-with_bases c.args.functions.now.bodies.now _ before c.args.copies.now ∙ count

pub write_copies-requires-clause-bases : goal.write_copies-requires-clause-bases
write_copies-requires-clause-bases c =
    let (before, count, is) = c.in_ok-bases.ensures.copy_bases in
    ap length (c.deref-2.ensures.value ∙ is) ∙ length-with_bases c.args.functions.now.bodies.now _ before c.args.copies.now ∙ count

pub returns : goal.returns
returns c =
    let B = c.args.functions.now.bodies.now in
    let C = c.args.functions.now.references.now in
    let p = c.args.start in
    let ks = c.args.copies.now in
    let first = ap length (body_read B p no_body c.requires.ready.start) in
    let (before, count, is) = c.in_ok-bases.ensures.copy_bases in
    let copy_bases = subst (λ (n : ℕ). c.in_ok-bases.bases.items ≡ with_bases B n before ks) (sym first) is in
    let some : has_some ks ≡ _ = some_if ks c.is_empty.result c.is_empty.ensures in
    is_program B C p ks c.deref-2.result.now _ c.requires.ready before count (c.deref-2.ensures.value ∙ copy_bases)
    (c.from_vec.ensures ∙ c.in_ok-slots.ensures ∙ ap (linked_copies B C c.deref-2.result.now 0) c.requires.order)
    (c.from_vec-2.ensures ∙ c.in_ok-func_info.ensures)
    (c.from_vec-3.ensures ∙ c.in_ok-line_info.ensures)
    (c.count_if-func_count.ensures ∙ ap (λ (b : Bool). count_if b c.deref-3.result.now) (sym some) ∙ ap (count_if (has_some ks)) (c.deref-3.ensures.value ∙ sym c.from_vec-2.ensures))
    (c.count_if-line_count.ensures ∙ ap (λ (b : Bool). count_if b c.deref-4.result.now) c.has_lines.ensures ∙ ap (count_if (has_lines (functions_by_number B C) ks)) (c.deref-4.ensures.value ∙ sym c.from_vec-3.ensures))
