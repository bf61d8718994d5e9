use Rattle.std.proofs.Common.{[], ◌∷◌, refl, lit<}
use Rattle.std.specs.Prelude.{None}
use Rattle.std.proofs.raw_atomic.Walks.{proved}
use base.Fml.{ftrue}
use types.Kit.{‵, raw, ◌$◌, ◌∵◌, !, qed, done, drop, feq_i, join, suffices}
use types.Run.{enter, lit, no_more, and_then, returns}
use types.ByLocal.{alloc_all, pass_all, free_all, look_at, sets}
use types.Part.{agg}
use denote.RawPtr.{Ptr, null_ptr}
use denote.Steps.{nothing}
use denote.Triple.Entry.{on_entry}
use denote.Triple.Walked.{walk_of, says, ends_at}
use Rattle.capi_exports.proofs.KernelHandles.{word, kernel_in}
use Rattle.capi_exports.specs.contracts.kernel.ebpf_types.without_types as f
use Rattle.capi_exports.proofs.kernel.ebpf_types.without_types.Statement.{statement}
use Rattle.capi_exports.proofs.kernel.ebpf_types.without_types.Code as code

pub without_types_spec : {M : Type 1} → statement M
without_types_spec 𝓤 𝓛 𝓜 𝓡 wired =
    let c = f.clauses 𝓛 𝓜.mem 𝓡.returns in let W = walk_of 𝓛 f.ended tt c in
    proved 𝓛 f.ended tt c 𝓜 𝓡 tt f.Key.name code.function (code.unfolded 𝓤 𝓛.H 𝓜 𝓡 wired)
    (λ κs. tt) (λ κs. tt) (λ κs qs bounds a _ are.
    let y : W.Ghost = ((κs, qs, bounds, a, tt), tt) in
    qed 𝓛 (raw (on_entry 𝓛 f.signature κs qs a y.0.4) ∷ ‵ ftrue ∷ []) ∵ drop ! $ drop ! $
    enter ! _ _ _ _ _ $ alloc_all ! (λ l. pass_all ! refl tt $
    sets ! (agg ! (and_then ! (lit ! tt) (no_more !))) refl (tt, (record { fits = lit< tt }, tt)) $
    returns ! (look_at ! 0 refl) $ free_all ! refl $
    suffices ! _ (ends_at 𝓛 f.ended tt c y (word null_ptr) (record { at = null_ptr; held = None }) tt tt) $ says ! refl $
    feq_i ! Ptr null_ptr null_ptr refl $ kernel_in ! null_ptr None $
    nothing ! $ join ! $ nothing ! $ join ! $ done !))
