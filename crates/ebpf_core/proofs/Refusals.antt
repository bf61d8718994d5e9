-- A refusal that a call hands on: out of memory, or what is stated.
use Rattle.std.proofs.Common.{◌≡◌, ℕ, Bool, true, false, Option, Some, None, Result, Ok, Err, refl, subst}
use Rattle.std.specs.Prelude.{MatchBool, ⊤}
use Rattle.std.specs.Result.{IsErrAnd}
use Rattle.ebpf_core_candidates.proofs.Refusals.{handed_on, matched}
use Rattle.ebpf_btf.specs.Memory as types
use Rattle.ebpf_btf.specs.declared.error.BtfError.{BtfError as TypeError}
use Rattle.ebpf_core.specs.declared.error.RelocationError.{RelocationError}
use Rattle.ebpf_core.specs.declared.error.RelocationError.TheVariants as errors
use Rattle.ebpf_base.specs.Faults.{if_ok}
use Rattle.ebpf_core.specs.Answers.{Tells, TellsSo, of_type_error, of_types, without_texts, is_record_memory}
use Rattle.ebpf_core.specs.Outcomes.{by_place}
use Rattle.ebpf_core.specs.declared.matches.FoundMatch.{FoundMatch}
use Rattle.ebpf_core.specs.declared.matches.FoundMatch.TheVariants as found
use Rattle.ebpf_btf.specs.TypeInfo.{TypeInfo}
use Rattle.ebpf_core.specs.declared.places.PlaceFault.{PlaceFault}
use Rattle.ebpf_core.specs.declared.places.PlaceFault.TheVariants.{NestingLevel, Btf}
use Rattle.ebpf_core.specs.declared.places.FieldPlace.{FieldPlace}

-- what holds of a fault of types as one of the record, and of what follows
pub by_types : {A X : Type 0} (P : Result X RelocationError → Type 0) (r : Result A TypeError) (next : A → Result X RelocationError)
    → ((e : TypeError) → r ≡ Err e → P (Err (errors.BtfError e))) → ((a : A) → r ≡ Ok a → P (next a)) → P (if_ok (of_types r) next)
by_types P (Ok a) next at_fault more = more a refl
by_types P (Err e) next at_fault more = at_fault e refl

-- what is stated of an error in one place is stated of it in another, where the one's fault is the other's
module _ {X Y : Type 0} (e : RelocationError) (one : Result X RelocationError) where
  pub also : (other : Result Y RelocationError) → (one ≡ Err (without_texts e) → other ≡ Err (without_texts e)) → Tells {X = X} (Err e) one → Tells {X = Y} (Err e) other
  also other to h = matched (is_record_memory e) (one ≡ Err (without_texts e)) (other ≡ Err (without_texts e)) to h

  pub refused_by : (r other : Result Y RelocationError) → IsErrAnd r (λ f. f ≡ e)
      → (one ≡ Err (without_texts e) → other ≡ Err (without_texts e)) → Tells {X = X} (Err e) one → Tells r other
  refused_by r other is to h = rw (handed_on r e is) (also other to h)

-- what holds of the stated answer holds of the one that is given, memory and texts for people aside
module _ {X : Type 0} (Holds : Result X RelocationError → Type 0) where
  pub without_texts_so : (r stated : Result X RelocationError) → Tells r stated → Holds stated → TellsSo r Holds
  without_texts_so (Ok x) stated is holds = subst Holds is holds
  without_texts_so (Err e) stated is holds = matched (is_record_memory e) (stated ≡ Err (without_texts e)) (Holds (Err (without_texts e))) (λ same. subst Holds same holds) is

-- ---- places

module _ (target : TypeInfo) (id : ℕ) (stated : Result (Option FieldPlace) PlaceFault) where
  pub place_found : (place : FieldPlace) → stated ≡ Ok (Some place) → by_place target id stated ≡ Ok (Some (found.Field place))
  place_found place is = rw is refl

  pub place_missing : stated ≡ Ok None → by_place target id stated ≡ Ok None
  place_missing is = rw is refl

  pub place_nested : (r : Result (Option FoundMatch) RelocationError) → stated ≡ Err NestingLevel → Tells r (by_place target id (Err NestingLevel))
      → Tells r (by_place target id stated)
  place_nested r is h = rw is h

  turned_place : (e : TypeError) (b : Bool) → types.is_btf_memory e ≡ b → MatchBool b ⊤ (stated ≡ Err (Btf e))
      → Tells {X = Option FoundMatch} (Err (of_type_error e)) (by_place target id stated)
  turned_place e true is h = rw is tt
  turned_place e false is h = rw (is, h) refl

  pub place_refused : (e : TypeError) → MatchBool (types.is_btf_memory e) ⊤ (stated ≡ Err (Btf e))
      → Tells {X = Option FoundMatch} (Err (of_type_error e)) (by_place target id stated)
  place_refused e h = turned_place e (types.is_btf_memory e) refl h
