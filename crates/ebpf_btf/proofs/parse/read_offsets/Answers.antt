use Rattle.std.proofs.Common.{◌≡◌, ◌++◌, ◌∷◌, [], ℕ, length, sym, ◌∙◌, refl, arith, subst}
use Rattle.ebpf_btf.specs.Offsets.{types_here, AreOffsets}
use Rattle.ebpf_btf.proofs.OneAfterOther.{offsets_begin, offsets_cut, offsets_more, types_over}
use Rattle.ebpf_btf.proofs.Tiles.{holds_of, offsets_push}
use Rattle.ebpf_btf.proofs.parse.read_offsets.Goals as goal

pub loop-offset-init : goal.loop-offset-init
loop-offset-init c =
    rw c.in_ok-offsets.ensures.items (record {
      within = omega arith;
      tiled = refl;
      rest = offsets_begin c.args.order c.args.part.now;
    })

pub returns-in_default-clause-fault : goal.returns-in_default-clause-fault
returns-in_default-clause-fault c =
    rw (offsets_cut c.args.order c.args.part.now c.loop-offset.offsets.items c.loop-offset.offset c.next_offset.result (omega arith) c.next_offset.ensures.found c.in_default.is c.loop-offset.invariant.rest) refl

pub loop-offset-preserved : goal.loop-offset-preserved
loop-offset-preserved c =
    let offsets = c.loop-offset.offsets.items in
    let offset = c.loop-offset.offset in
    let more = offsets_push c.args.order c.args.part.now 0 offset offsets c.loop-offset.invariant.tiled c.in-Some.ensures.known in
    rw c.in_ok-push.ensures.items (record {
      within = c.in-Some.ensures.within.1;
      tiled = subst (λ (n : ℕ). AreOffsets c.args.order c.args.part.now 0 n (offsets ++ offset ∷ [])) (sym c.in-Some.ensures.here) more;
      rest = offsets_more c.args.order c.args.part.now offsets offset c.in-Some.next c.next_offset.result (omega arith) c.next_offset.ensures.found c.in-Some.is c.loop-offset.invariant.rest;
    })

pub returns-clause-found : goal.returns-clause-found
returns-clause-found c =
    sym c.loop-offset.invariant.rest ∙ types_over c.args.order c.args.part.now c.loop-offset.offset (types_here c.args.order c.args.part.now c.loop-offset.offsets.items) (omega arith)

pub returns-clause-fault : goal.returns-clause-fault
returns-clause-fault c =
    rw (sym c.loop-offset.invariant.rest ∙ types_over c.args.order c.args.part.now c.loop-offset.offset (types_here c.args.order c.args.part.now c.loop-offset.offsets.items) (omega arith)) refl

pub returns-clause-kept : goal.returns-clause-kept
returns-clause-kept c =
    let end : c.loop-offset.offset ≡ length c.args.part.now = omega arith in
    holds_of c.args.order c.args.part.now 0 c.loop-offset.offsets.items (omega arith) c.requires.small
    (subst (λ (n : ℕ). AreOffsets c.args.order c.args.part.now 0 n c.loop-offset.offsets.items) end c.loop-offset.invariant.tiled)
