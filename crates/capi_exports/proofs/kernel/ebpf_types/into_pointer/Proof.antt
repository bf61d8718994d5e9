use Rattle.std.proofs.Common.{◌≡◌, [], ◌∷◌, ◌++◌, List, refl, sym, ap, ◌∙◌, subst, lit<}
use Rattle.std.specs.Prelude.{Some, None}
use Rattle.std.proofs.raw_atomic.Walks.{proved_at}
use mir.Val.{Val, of_list}
use types.Match.{live}
use base.Logic.{ent, SProp, id⊢}
use base.Fml.{ftrue}
use contract.Running.{tables}
use prog.Wp.{WpFn}
use types.Kit.{‵, raw, ◌⊛◌, at_ret, ◌$◌, ◌∵◌, !, qed, done, keep, move, drop, split, join, fsplit, use0, use1, suffices}
use types.Run.{enter, of_opd, stop, fld, bin, lit, no_more, and_then, first, branches, skips, exec, returns, returns_within}
use types.ByLocal.{alloc_all, pass_all, free_all, look_at, get, get_in, sets, is, env}
use types.Part.{agg, sub, whole}
use denote.Exit.{yes}
use denote.RattleType.{RattleType, owns}
use denote.RawPtr.{Ptr, block_ptr, null_ptr, tests_null}
use denote.Signature.{plain, types_at}
use denote.Steps.{nothing}
use denote.Triple.Walked.{Stays, stay_dropped, walk_of, says, ends_at}
use Rattle.core.proofs.alloc.Calls.{Goes-blank, handle_tells}
use Rattle.core.specs.contracts.option.Option as option
use Rattle.std_alloc.proofs.ResultValues.{and_tt}
use Rattle.core.proofs.option.Made.{Some-of, none_of}
use Rattle.std.specs.contracts.alloc.Global as heap
use Rattle.capi_exports.proofs.KernelHandles.{Kernels, word, kernel_out, held_out, boxed_types}
use Rattle.capi_exports.proofs.Texts.{Apart, pair, pair_fits, apart_in, freeing_of}
use Rattle.capi_exports.specs.contracts.kernel.ebpf_types.into_pointer as f
use Rattle.capi_exports.proofs.kernel.ebpf_types.into_pointer.Statement.{statement}
use Rattle.capi_exports.proofs.kernel.ebpf_types.into_pointer.Code as code

abbrev stayed : Stays f.ended.signature.params f.ended.kept
stayed = (stay_dropped (plain (λ _. Kernels)) yes, (stay_dropped (plain (λ _. heap.the_row)) yes, tt))

abbrev Parted : Type 0
Parted = (Apart boxed_types).Denot

abbrev Answer : RattleType
Answer = option.the_row (Apart boxed_types)

pub into_pointer_spec : {M : Type 1} → statement M
into_pointer_spec 𝓤 𝓛 𝓜 𝓡 wired =
    let c = f.clauses 𝓛 𝓜.mem 𝓡.returns in let 𝓣 = tables 𝓤 𝓛.H 𝓜 𝓡 𝓡.env in let W = walk_of 𝓛 f.ended stayed c in
    proved_at 𝓛 f.ended stayed c 𝓜 𝓡 (Goes-blank 𝓛 0 (plain (λ _. Kernels)) yes (λ κs x w. tt), (Goes-blank 𝓛 0 (plain (λ _. heap.the_row)) yes (λ κs x w. tt), tt))
    f.Key.name code.function (code.unfolded 𝓤 𝓛.H 𝓜 𝓡 wired) (λ y are.
    let v = y.0.3.0 in let a = y.0.3.1.0 in
    let runs : List Val → SProp 𝓤 = λ us. WpFn 𝓤 𝓛.H 𝓣.C 𝓣.Λ code.function us (W.post y) in
    qed 𝓛 ((‵ ftrue ⊛ ‵ (owns (types_at f.ended.signature.params y.0.0) y.0.3 y.0.4)) ∷ raw ((c y.0.0 y.0.3).requires y.1) ∷ []) ∵
    move ! (1 ∷ []) $ drop ! $ split ! $ move ! (1 ∷ []) $ fsplit ! $ kernel_out ! v y.0.4.0 (λ same.
    move ! (1 ∷ []) $ fsplit ! $ handle_tells (freeing_of boxed_types) ! a y.0.4.1.0 (λ h freed fits.
    move ! (2 ∷ []) $ held_out ! v.at v.held
    (λ at_null none.
    let ws : y.0.4.0 ≡ word null_ptr ∷ [] = same ∙ ap (λ (p : Ptr). word p ∷ []) at_null in
    suffices ! (runs (word null_ptr ∷ h ∷ [])) (subst (λ (us : List Val). ent 𝓤 (runs (word null_ptr ∷ h ∷ [])) (runs us)) (sym (λ i. ws i ++ (freed i ++ []))) (id⊢ 𝓤 _)) $
    enter ! _ _ _ _ _ $ alloc_all ! (λ l. pass_all ! refl ((tt, (record { fits = lit< tt }, tt)), (fits, tt)) $
    sets ! (of_opd ! (get_in ! (fld ! refl (stop !)) (sub ! 0 refl (whole !)))) refl (tt, record { fits = lit< tt }) $
    sets ! (is ! (bin ! (get ! refl) (lit ! tt) tt) refl) refl (tt, tt) $
    first ! $ branches ! (get ! refl)
    (λ _.
    sets ! (agg ! (and_then ! (lit ! tt) (no_more !))) refl (tt, (record { fits = lit< tt }, tt)) $
    returns_within ! (W.post y) refl (look_at ! 0 refl) $ free_all ! refl $ keep ! [] $
    suffices ! _ (ends_at 𝓛 f.ended stayed c y (live 0 (of_list [])) None (tt, (tt, tt)) (tt, (tt, tt))) $ says ! (sym none) $
    use0 𝓛 (‵ (Answer.own_val None (live 0 (of_list []) ∷ []))) (none_of 𝓛 (Apart boxed_types)) $
    nothing ! $ nothing ! $ join ! $ nothing ! $ join ! $ nothing ! $ done !)
    (λ z. absurd z)))
    (λ b n x block some may.
    let ws : y.0.4.0 ≡ word (block_ptr b n) ∷ [] = same ∙ ap (λ (p : Ptr). word p ∷ []) block in
    let l : Parted = record { at = block_ptr b n; alloc = a; value = x } in let typed = pair_fits boxed_types b n h fits in
    suffices ! (runs (word (block_ptr b n) ∷ h ∷ [])) (subst (λ (us : List Val). ent 𝓤 (runs (word (block_ptr b n) ∷ h ∷ [])) (runs us)) (sym (λ i. ws i ++ (freed i ++ []))) (id⊢ 𝓤 _)) $
    enter ! _ _ _ _ _ $ alloc_all ! (λ places. pass_all ! refl ((tt, (tt, tt)), (fits, tt)) $
    sets ! (of_opd ! (get_in ! (fld ! refl (stop !)) (sub ! 0 refl (whole !)))) refl (tt, tt) $
    sets ! (is ! (bin ! (get ! refl) (lit ! tt) (tests_null (block_ptr b n) may)) refl) refl (tt, tt) $
    first ! $ branches ! (get ! refl)
    (λ z. absurd z)
    (λ _. skips ! $ exec ! 𝓣.C 𝓣.Λ (env code.Mir.locals places) code.Mir.t-4 (at_ret _ (W.post y)) $
    sets ! (of_opd ! (get ! refl)) refl (tt, tt) $
    sets ! (agg ! (and_then ! (get ! refl) (and_then ! (get ! refl) (no_more !)))) refl typed $
    sets ! (agg ! (and_then ! (lit ! tt) (and_then ! (get ! refl) (no_more !)))) refl (and_tt _ typed.0, (record { fits = lit< tt }, (typed.1, tt))) $
    returns ! (look_at ! 0 refl) $ free_all ! refl $ keep ! (0 ∷ 1 ∷ []) $
    suffices ! _ (ends_at 𝓛 f.ended stayed c y (live 1 (of_list (pair b n h ∷ []))) (Some l) (tt, (tt, tt)) (tt, (tt, tt))) $ says ! (sym some) $
    apart_in boxed_types ! b n h a x $
    use1 𝓛 (‵ (Answer.own_val (Some l) (live 1 (of_list (pair b n h ∷ [])) ∷ []))) (Some-of 𝓛 (Apart boxed_types) l (pair b n h)) $
    nothing ! $ nothing ! $ join ! $ nothing ! $ join ! $ nothing ! $ done !))))))
