-- Tags, and objects without one.
use Rattle.std.proofs.Common.{◌≡◌, ℕ, List, drop, length, Option, Some, None, sym, ap, ◌∙◌, subst, true, false}
use Rattle.std.specs.FinMap.{empty}
use Rattle.std.specs.Option.{option_copied, option_map_or}
use Rattle.std.specs.Prelude.{MatchOption, if◌then◌else◌}
use Rattle.std.specs.Str.{IsCharBoundary}
use Rattle.std.specs.Str.Pattern.{FindsTextPrefix, StripsPrefix}
use Rattle.std.proofs.lemmas.Str.Pattern.{starts_text}
use denote.Ref.{Bor}
use Rattle.ebpf_btf.specs.TypeInfo.{TypeInfo}
use Rattle.ebpf_exceptions.specs.Callbacks.{behind_mark, callback_mark, callbacks_with, completed_callbacks, tags}
use Rattle.ebpf_exceptions.specs.Laws.{NoTagsNoCallbacks}
use Rattle.ebpf_object.specs.declared.object.Object.{Object}

-- what `strip_prefix` with the mark gives
pub strips_mark : (text : List ℕ) (r : Option (Bor (List ℕ)))
    → MatchOption r (FindsTextPrefix callback_mark text None) (λ x. StripsPrefix (FindsTextPrefix callback_mark) text x.now)
    → option_copied r ≡ behind_mark text
strips_mark text None lacks =
    ap (λ b. if b then Some (drop (length callback_mark) text) else None) (starts_text false callback_mark text lacks)
strips_mark text (Some x) (n, found, rest, size) =
    let boundary : IsCharBoundary text n = subst (λ k. IsCharBoundary text k) (sym found.0) found.2 in
    ap Some (rest ∙ ap (λ k. drop k text) found.0)
    ∙ ap (λ b. if b then Some (drop (length callback_mark) text) else None) (starts_text true callback_mark text (n, found, boundary))

pub no_tags : NoTagsNoCallbacks
unfolding completed_callbacks
no_tags file o types typed none =
    ap (λ (t : Option TypeInfo). option_map_or (λ types. callbacks_with file o.programs (tags types types.types)) t empty) typed
    ∙ ap (callbacks_with file o.programs) none
