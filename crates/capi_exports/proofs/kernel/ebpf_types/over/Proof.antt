use Rattle.std.proofs.Common.{[], ◌∷◌, ◌++◌, List, refl, sym, subst}
use Rattle.std.specs.Prelude.{Some}
use Rattle.std.proofs.raw_atomic.Walks.{proved_at}
use mir.Val.{Val}
use base.Logic.{ent, SProp, id⊢}
use base.Fml.{ftrue}
use contract.Running.{tables}
use prog.Wp.{WpFn}
use types.Kit.{‵, raw, ◌⊛◌, ◌$◌, ◌∵◌, !, qed, done, keep, move, split, join, fsplit, suffices}
use types.Run.{enter, of_opd, stop, fld, no_more, and_then, returns}
use types.ByLocal.{alloc_all, pass_all, free_all, look_at, get, get_in, sets}
use types.Part.{agg, sub, whole}
use denote.Exit.{yes}
use denote.RattleType.{owns}
use denote.RawPtr.{block_ptr}
use denote.Signature.{plain, types_at}
use denote.Steps.{nothing}
use denote.Triple.Walked.{Stays, stay_dropped, walk_of, says, ends_at}
use Rattle.core.proofs.alloc.Calls.{Goes-blank}
use Rattle.capi_exports.proofs.KernelHandles.{word, kernel_in, boxed_types}
use Rattle.capi_exports.proofs.Texts.{Apart, pair, pair_fits, apart_out}
use Rattle.capi_exports.specs.contracts.kernel.ebpf_types.over as f
use Rattle.capi_exports.proofs.kernel.ebpf_types.over.Statement.{statement}
use Rattle.capi_exports.proofs.kernel.ebpf_types.over.Code as code

abbrev stayed : Stays f.ended.signature.params f.ended.kept
stayed = (stay_dropped (plain (λ _. Apart boxed_types)) yes, tt)

pub over_spec : {M : Type 1} → statement M
over_spec 𝓤 𝓛 𝓜 𝓡 wired =
    let c = f.clauses 𝓛 𝓜.mem 𝓡.returns in let 𝓣 = tables 𝓤 𝓛.H 𝓜 𝓡 𝓡.env in let W = walk_of 𝓛 f.ended stayed c in
    proved_at 𝓛 f.ended stayed c 𝓜 𝓡 (Goes-blank 𝓛 0 (plain (λ _. Apart boxed_types)) yes (λ κs x w. tt), tt)
    f.Key.name code.function (code.unfolded 𝓤 𝓛.H 𝓜 𝓡 wired) (λ y are.
    let l = y.0.3.0 in let vs = y.0.4.0 in
    let runs : List Val → SProp 𝓤 = λ us. WpFn 𝓤 𝓛.H 𝓣.C 𝓣.Λ code.function us (W.post y) in
    qed 𝓛 ((‵ ftrue ⊛ ‵ (owns (types_at f.ended.signature.params y.0.0) y.0.3 y.0.4)) ∷ raw ((c y.0.0 y.0.3).requires y.1) ∷ []) ∵
    split ! $ move ! (1 ∷ []) $ fsplit ! $ apart_out boxed_types ! l vs (λ b o h block same fits.
    suffices ! (runs (pair b o h ∷ [])) (subst (λ (us : List Val). ent 𝓤 (runs (pair b o h ∷ [])) (runs us)) (sym (λ i. same i ++ [])) (id⊢ 𝓤 _)) $
    enter ! _ _ _ _ _ $ alloc_all ! (λ a. pass_all ! refl (pair_fits boxed_types b o h fits, tt) $
    sets ! (of_opd ! (get_in ! (fld ! refl (stop !)) (sub ! 0 refl (whole !)))) refl (tt, tt) $
    sets ! (of_opd ! (get ! refl)) refl (tt, tt) $
    sets ! (agg ! (and_then ! (get ! refl) (no_more !))) refl (tt, (tt, tt)) $
    returns ! (look_at ! 0 refl) $ free_all ! refl $ keep ! (0 ∷ []) $
    suffices ! _ (ends_at 𝓛 f.ended stayed c y (word (block_ptr b o)) (record { at = block_ptr b o; held = Some l.value }) (tt, tt) (tt, tt)) $ says ! refl $
    kernel_in ! (block_ptr b o) (Some l.value) $
    nothing ! $ nothing ! $ join ! $ nothing ! $ done !)))
