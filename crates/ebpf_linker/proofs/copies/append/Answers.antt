use Rattle.std.proofs.Common.{◌≡◌, ◌<◌, length, refl, sym, ap, ◌∙◌, arith, Some}
use Rattle.std.proofs.lemmas.Bool.{ltb-true}
use Rattle.std.proofs.lemmas.Option.{slice_get-get_or, slice_get_read, slice_get_within}
use Rattle.std.specs.Prelude.{slice_get}
use Rattle.ebpf_linker.specs.declared.reference.Reference.{Reference}
use Rattle.ebpf_linker.proofs.Whole.{refers, passes, to_copying}
use Rattle.ebpf_linker.proofs.copies.append.Goals as goal
use Rattle.ebpf_linker.proofs.copies.append.Goals.{in-Some+in_ok-push-in-Some, in_default+in_ok-push-in_default, in_default-via-in-Some+else-call-i, in_default-via-in_default}

pub loop-i-preserved : goal.loop-i-preserved
loop-i-preserved c =
    let body = c.args.body.now in
    let cs = c.args.calls.now in
    let inside : c.loop-i.i < length body = omega arith in
    let h = c.loop-i.invariant in
    elim c.match-get.branch [
      | in-Some+in_ok-push-in-Some w ↦
          let at : slice_get cs c.loop-i.next ≡ Some w.in-Some.call.now = slice_get_read cs (length cs) c.loop-i.next _ refl (ltb-true c.loop-i.next (length cs) (sym w.in-Some.ensures.lookup.0)) w.in-Some.ensures.lookup.1 in
          to_copying _ _ _ _ _ _ _ _ _ (ap (λ v. v.items) w.out-is ∙ w.in_ok-push-in-Some.ensures.items) w.next-is
          (refers _ _ body cs c.args.bases.now c.loop-i.i c.loop-i.next _ w.linked_slot.result w.in-Some.call.now c.len-place.result h (slice_get-get_or body c.loop-i.i _ inside) at w.if-call-i.true (c.len-place.ensures ∙ c.loop-i.out.ok.0) w.linked_slot.ensures)
      | in_default+in_ok-push-in_default w ↦
          elim w.in_default.branch [
            | in_default-via-in-Some+else-call-i w' ↦
                let at : slice_get cs c.loop-i.next ≡ Some w'.in-Some.call.now = slice_get_read cs (length cs) c.loop-i.next _ refl (ltb-true c.loop-i.next (length cs) (sym w'.in-Some.ensures.lookup.0)) w'.in-Some.ensures.lookup.1 in
                to_copying _ _ _ _ _ _ _ _ _ (ap (λ v. v.items) w.out-is ∙ w.in_ok-push-in_default.ensures.items) w.next-is
                (passes _ _ body cs c.args.bases.now c.loop-i.i c.loop-i.next _ h (slice_get-get_or body c.loop-i.i _ inside) (λ d e f. w'.if-call-i.false (let z : d ≡ w'.in-Some.call.now = cc (e, at) in ap (λ (u : Reference). u.slot) (sym z) ∙ f)))
            | in_default-via-in_default w' ↦
                to_copying _ _ _ _ _ _ _ _ _ (ap (λ v. v.items) w.out-is ∙ w.in_ok-push-in_default.ensures.items) w.next-is
                (passes _ _ body cs c.args.bases.now c.loop-i.i c.loop-i.next _ h (slice_get-get_or body c.loop-i.i _ inside) (λ d e f. let z = w'.in_default.ensures.lookup in let l = slice_get_within cs c.loop-i.next d e in omega (arith, z.3)))
          ]
    ]
