use Rattle.std.proofs.Common.{◌≡◌, ℕ, length, ap, sym, ◌∙◌, subst}
use Rattle.ebpf_linker.specs.Copies.{with_bases}
use Rattle.ebpf_linker.proofs.LinkMaps.{is_link_map}
use Rattle.ebpf_linker.proofs.Walks.{length-with_bases, body_read, no_body}
use Rattle.ebpf_linker.proofs.link_map.link_map_of.Goals as goal

pub references_of-requires-clause-bases : goal.references_of-requires-clause-bases
references_of-requires-clause-bases c =
    let (before, count, is) = c.in_ok-bases.ensures.copy_bases in
    ap length (c.deref.ensures.value ∙ is) ∙ length-with_bases c.args.functions.now.bodies.now _ before c.args.reached.now ∙ count

pub returns : goal.returns
returns c =
    let B = c.args.functions.now.bodies.now in
    let ks = c.args.reached.now in
    let first = ap length (body_read B c.args.start no_body c.requires.start) in
    let (before, count, is) = c.in_ok-bases.ensures.copy_bases in
    let copy_bases = subst (λ (n : ℕ). c.in_ok-bases.bases.items ≡ with_bases B n before ks) (sym first) is in
    is_link_map B c.args.functions.now.references.now c.args.start ks c.deref.result.now c.requires before count (c.deref.ensures.value ∙ copy_bases) c.args.functions.now.sound c.from_vec.result c.from_vec-2.result
    (c.from_vec.ensures ∙ c.in_ok-copies.ensures)
    (c.from_vec-2.ensures ∙ c.in_ok-references.ensures)
