-- A call over types that were read is the call over the bytes that spell them.
use Rattle.std.proofs.Common.{◌≡◌, Bool, true, false, List, [], ◌∷◌, ℕ, Option, Some, None, refl, ap, sym, ◌∙◌, inl, inr}
use Rattle.std.specs.Prelude.{Ok, Err, MatchBool}
use Rattle.ebpf_btf.specs.Reading.{type_info_of, header_fault}
use Rattle.ebpf_btf.specs.TypeInfo.{TypeInfo}
use Rattle.capi_rows.specs.Descriptors.{have_names}
use Rattle.capi_rows.specs.FileTypes.{types_in, types_if, some_types}
use Rattle.capi_rows.specs.Refusals.{plain}
use Rattle.capi_rows.specs.declared.codes.TheConstants.{BAD_NAME}
use Rattle.capi_rows.specs.declared.refusal.Refusal.{Refusal}
use Rattle.capi_exports.specs.Answers.{CannotFindTarget}
use Rattle.capi_exports.specs.KernelPasses.{CannotFindTargetIn, IsOverBytes, RefusesAsBytes, TypesAreTheirBytes}

-- no bytes spell no types
none_spelled : (kernel : TypeInfo) → types_in [] ≡ Ok kernel → ⊥
unfolding type_info_of header_fault
none_spelled kernel spelled = let no : ⊥ = cc in no

if_spelled : (bytes : List ℕ) (kernel : TypeInfo) → types_in bytes ≡ Ok kernel → types_if bytes ≡ Ok (Some kernel)
if_spelled [] kernel spelled = absurd (none_spelled kernel spelled)
if_spelled (first ∷ rest) kernel spelled = ap some_types spelled

-- the names are looked at first, whatever comes then
behind_names : {A B : Type 0} (C : Type 0) (b : Bool) → (A → B) → MatchBool b A C → MatchBool b B C
behind_names C true f x = f x
behind_names C false f x = x

-- out of memory is a refusal of reading the types too
target_missing : (bytes name : List ℕ) (kernel : TypeInfo) (r : Refusal) → CannotFindTargetIn name kernel r → CannotFindTarget name bytes r
target_missing bytes name kernel r (inl broken) = inl broken
target_missing bytes name kernel r (inr h) = inr (record { section = h.section; read = h.read; refusal = inl h.is })

module _ (bytes : List ℕ) (kernel : TypeInfo) (spelled : types_in bytes ≡ Ok kernel) where
  over_bytes : IsOverBytes bytes kernel
  over_bytes = record {
    relocates = λ old new h. record { target = kernel; spelled = spelled; relocated = h.relocated; others_stay = h.others_stay };
    resolves = λ symbols old new h. record { kernel = Some kernel; spelled = if_spelled bytes kernel spelled; resolved = h.resolved; others_stay = h.others_stay };
    prepares = λ file inputs o h. record { kernel = Some kernel; spelled = if_spelled bytes kernel spelled; named = h.named; headline = h.headline; others_stay = h.others_stay };
    prepares_held = λ inputs old new h.
        record { kernel = Some kernel; spelled = if_spelled bytes kernel spelled; named = h.named; stages = h.stages; headline = h.headline; others_stay = h.others_stay };
    lists = λ o listed is. record { target = kernel; spelled = spelled; is = is };
    finds = λ name target h. record { section = h.section; read = h.read; types = kernel; spelled = spelled; is = h.is };
  }

  refuses : (r : Refusal) → RefusesAsBytes bytes kernel r
  refuses r = record {
    relocating = λ o why. inr (record { target = kernel; spelled = spelled; refusal = why });
    resolving = λ symbols o why. inr (record { kernel = Some kernel; spelled = if_spelled bytes kernel spelled; refusal = why });
    preparing = λ file inputs. behind_names (r ≡ plain BAD_NAME) (have_names inputs.text inputs.rows) (λ why. inr (record { kernel = Some kernel; spelled = if_spelled bytes kernel spelled; refusal = why }));
    preparing_held = λ inputs o. behind_names (r ≡ plain BAD_NAME) (have_names inputs.text inputs.rows) (λ why. inr (record { kernel = Some kernel; spelled = if_spelled bytes kernel spelled; refusal = why }));
    finding = λ name why. target_missing bytes name kernel r why;
  }

pub types_are_their_bytes : TypesAreTheirBytes
types_are_their_bytes bytes kernel spelled = (over_bytes bytes kernel spelled, refuses bytes kernel spelled)
