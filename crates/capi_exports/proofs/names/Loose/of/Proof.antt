-- The call gives the pointer with what it owns, and what frees it.
use Rattle.std.proofs.Common.{◌≡◌, List, [], ◌∷◌, ◌++◌, refl, sym, ap, ◌∙◌, subst}
use Rattle.std.proofs.raw_atomic.Walks.{proved_at}
use mir.Syntax.{Args, Fn, a_type, dcons, dnil}
use mir.Raw.{raw as bare}
use mir.Val.{Val, vstruct, of_list}
use mir.MapTy.{inst_fn}
use base.Logic.{SProp, ent, never, id⊢, fst∗}
use base.Fml.{ftrue, fsep, flft}
use contract.Monad.{fact}
use contract.Running.{tables}
use prog.Wp.{WpFn}
use types.Logic.{sem}
use types.Kit.{‵, raw, ◌⊛◌, some, later, ◌$◌, ◌∵◌, !, qed, done, move, keep, drop, split, split3, join, fsplit, fjoin, fpick, pick, suffices, use1, await, rewrite, feq_l}
use types.Run.{stop, fld, of_opd, no_more, and_then, returns, enter}
use types.ByLocal.{alloc_all, pass_all, free_all, look_at, get, get_in, sets, lands_as}
use types.Part.{agg, sub, whole}
use denote.Exit.{no}
use denote.RattleType.{owns}
use denote.Builtin.{RawPtr}
use denote.Param.{param, layout, bounded}
use denote.Param.Laws.{param_laws}
use denote.RawPtr.{Ptr, block_ptr, null_ptr, ptr_val, in_a_block}
use denote.Signature.{types_at, plain}
use denote.Steps.{nothing, only, heard}
use denote.Struct.Tuple.{Tuple}
use denote.Triple.Spec.{triple_of}
use denote.Triple.Call.{calls_at}
use denote.Triple.Table.{framed}
use denote.Triple.Walked.{Stays, stay_dropped, walk_of, says, ends_at}
use Rattle.core.proofs.alloc.Calls.{Goes-blank, handle_tells}
use Rattle.std_alloc.specs.Box.Ownership.{box_owns}
use Rattle.std_alloc.proofs.BoxSteps.Form as box
use Rattle.std_alloc.proofs.BoxSteps.Steps.{box_out, box_in}
use Rattle.std_alloc.specs.contracts.boxed.Box.into_raw_with_allocator as callee
use Rattle.std_alloc.proofs.boxed.Box.into_raw_with_allocator.Met.{met}
use Rattle.capi_exports.proofs.Texts.{Types, pair, pair_fits, apart_in}
use Rattle.capi_exports.specs.contracts.names.Loose.of as f
use Rattle.capi_exports.proofs.names.Loose.of.Statement.{statement}
use Rattle.capi_exports.proofs.names.Loose.of.Code as code

pub of_spec : {M : Type 1} → statement M
of_spec 𝓤 𝓛 𝓜 𝓡 wired T A L LA g d dx dd allocator glue glued =
    let 𝓣 = tables 𝓤 𝓛.H 𝓜 𝓡 𝓡.env in let En = f.ended T A g d dx dd in let c = f.clauses T A g d dx dd 𝓛 𝓜.mem 𝓡.returns in
    let E : Types = record { value = param 0 T; freeing = param 1 A; laws = param_laws 1 A LA; ghosts = g } in
    let F : box.Bx = record { row = T; laws = L; al = record { row = A; laws = LA; g = g; d = d; drops = dd } } in
    let with_types : Args = bounded (a_type ∷ a_type ∷ []) (T, (A, tt)) (dcons d (dcons dx (dcons dd dnil))) in let fn : Fn = inst_fn with_types code.function in
    let stayed : Stays En.signature.params En.kept = (stay_dropped (plain (λ _. box.B F)) no, tt) in let W = walk_of 𝓛 En stayed c in
    proved_at 𝓛 En stayed c 𝓜 𝓡 (Goes-blank 𝓛 2 (plain (λ _. box.B F)) no (λ κs x w. tt), tt)
    (f.Key.name with_types) fn (code.unfolded 𝓤 𝓛.H 𝓜 𝓡 wired (T, (A, tt)) d dx dd) (λ y are.
    let κs = y.0.0 in let qs = y.0.1 in let owner = y.0.3.0 in
    let runs : List Val → SProp 𝓤 = λ us. WpFn 𝓤 𝓛.H 𝓣.C 𝓣.Λ fn us (W.post y) in
    let tokens = ‵ (flft κs.0 qs.0) ⊛ ‵ (flft κs.1.0 qs.1.0) ⊛ ‵ ftrue in let Gone = Tuple (RawPtr ∷ param 1 A ∷ []) in
    qed 𝓛 ((tokens ⊛ ‵ (owns (types_at En.signature.params κs) y.0.3 y.0.4)) ∷ raw ((c κs y.0.3).requires y.1) ∷ []) ∵
    split ! $ move ! (1 ∷ []) $ fsplit ! $ box_out F ! owner y.0.4.0 (λ b o h at_block ws fits. box_in F ! owner b o owner.value at_block refl $
    let w : Val = box.word F h b o in let G = triple_of 𝓛 (callee.signature T A g d dd dx) (callee.spec T A g d dd dx 𝓛 𝓜.mem 𝓡.returns) in
    let z : G.Ghost = ((κs, qs, tt, (owner, tt), (w ∷ [], tt)), tt) in
    -- [what the call is given: the tokens with the box, and what it requires]
    fjoin ! $ move ! (1 ∷ 0 ∷ []) $ join ! $ join ! $ use1 𝓛 (raw (G.pre z)) (id⊢ 𝓤 _) $
    suffices ! (runs (w ∷ [])) (subst (λ (us : List Val). ent 𝓤 (runs (w ∷ [])) (runs us)) (sym (λ i. ws i ++ [])) (id⊢ 𝓤 _)) $
    enter ! _ _ _ _ _ $ alloc_all ! (λ l. pass_all ! refl (pair_fits E b o h fits, tt) $
    sets ! (of_opd ! (get ! refl)) refl (pair_fits E b o h fits) $
    calls_at ! (framed 𝓤 𝓛.H 𝓜 𝓣) G (met 𝓤 𝓛 𝓜 𝓡 (code.calls-std_alloc::boxed::Box::into_raw_with_allocator 𝓡.env wired) T A L LA g d dd dx allocator glued glue) z
    (and_then ! (get ! refl) (no_more !)) (λ u.
    use1 𝓛 (later (some (λ (r : Ptr × A.Denot). (tokens ⊛ ‵ (Gone.own_val r (u ∷ []))) ⊛ some (λ (_ : (Unit {0} × (Unit {0} × Unit {0})) × Unit {0}). ‵ (fsep (fsep ftrue (fsep ftrue ftrue)) ftrue) ⊛ (raw (fact 𝓤 (r.1 ≡ owner.alloc)) ⊛ ‵ (box_owns (g.dealloc_token owner.alloc) E.value r.0 owner.value)))))) (id⊢ 𝓤 _) $
    await ! tt $ pick ! (λ r. split ! $ move ! (1 ∷ []) $ pick ! (λ _. split3 ! $ drop ! $ heard ! (r.1 ≡ owner.alloc) (λ same.
    in_a_block ! r.0 (λ p. box_owns (g.dealloc_token owner.alloc) E.value p owner.value) (fst∗ 𝓤 (never 𝓤) (sem 𝓛 (g.dealloc_token owner.alloc (bare (layout T)) null_ptr))) (λ b' o' at_block'.
    -- [what the pointer owns; the tokens with the pair]
    move ! (1 ∷ []) $ split ! $ move ! (1 ∷ []) $ fpick ! (λ parts. fsplit ! $ feq_l ! (λ pair_is. fsplit ! $ feq_l ! (λ pointer. fsplit ! $
    rewrite ! 0 (λ (a : A.Denot). ‵ (E.freeing.own_val a parts.1.0)) same refl $ handle_tells F.al ! owner.alloc parts.1.0 (λ h' freed fits'.
    lands_as ! (ap only (pair_is ∙ (λ i. vstruct (of_list (pointer i ++ (freed i ++ []))) ∷ []) ∙ ap (λ (p : Ptr). vstruct (of_list (ptr_val p ∷ h' ∷ [])) ∷ []) at_block')) refl (pair_fits E b' o' h' fits') $
    sets ! (of_opd ! (get_in ! (fld ! refl (stop !)) (sub ! 0 refl (whole !)))) refl (tt, tt) $
    sets ! (of_opd ! (get_in ! (fld ! refl (stop !)) (sub ! 1 refl (whole !)))) refl fits' $
    sets ! (of_opd ! (get ! refl)) refl fits' $
    sets ! (agg ! (and_then ! (get ! refl) (and_then ! (get ! refl) (no_more !)))) refl (pair_fits E b' o' h' fits') $
    move ! (3 ∷ 0 ∷ []) $ apart_in E ! b' o' h' owner.alloc owner.value $
    returns ! (look_at ! 0 refl) $ free_all ! refl $ keep ! (0 ∷ 2 ∷ []) $
    suffices ! _ (ends_at 𝓛 En stayed c y (pair b' o' h') (record { at = block_ptr b' o'; alloc = owner.alloc; value = owner.value }) ((tt, (tt, tt)), tt) (tt, tt)) $ says ! refl $
    nothing ! $ nothing ! $ join ! $ move ! (2 ∷ 0 ∷ 1 ∷ []) $ done !))))))))))))
