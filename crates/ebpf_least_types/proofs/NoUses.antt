-- Where no object needs an id, no record asks for one, and the slots are the same.
use Rattle.std.proofs.Common.{◌≡◌, ℕ, suc, Bool, true, false, List, [], ◌∷◌, ◌++◌, Option, None, refl, ap, sym}
use Rattle.std.proofs.lemmas.List.Elements.{All-cons, All-nil}
use Rattle.std.proofs.lemmas.Option.{none-some}
use Rattle.std.specs.List.{flat_map}
use Rattle.std.specs.Prelude.{All, slice_get, slice_index_or, if◌then◌else◌}
use Rattle.ebpf_btf.specs.TypeInfo.{TypeInfo}
use Rattle.ebpf_btf_ext.specs.declared.relocation.Relocation.{Relocation}
use Rattle.ebpf_least_types.proofs.SameSlots.{slots_are_alike}
use Rattle.ebpf_least_types.specs.IdUses.{UsesAreAll, extern_uses, first_id_use, first_id_use_from, first_of_uses, id_uses, program_uses, record_use, record_uses, section_uses}
use Rattle.ebpf_least_types.specs.LeastTypes.{AskForNoId, HasSameSlots, HaveSameOutcomes, asks_for_kernel_id, records_of}
use Rattle.ebpf_least_types.specs.declared.error.LeastTypesError.{LeastTypesError}
use Rattle.ebpf_least_types.specs.declared.error.LeastTypesError.TheVariants.{NeedsKernelId}
use Rattle.ebpf_least_types.specs.declared.id_uses.KernelIdUse.{KernelIdUse}
use Rattle.ebpf_least_types.specs.declared.id_uses.KernelIdUse.TheVariants.{Record}
use Rattle.ebpf_object.specs.declared.object.Object.{Object}

module _ {A : Type 0} where
  not_nil : (x : A) (xs : List A) → x ∷ xs ≡ [] → ⊥
  not_nil x xs h = none-some x (sym (ap (λ l. slice_get l 0) h))

  left_nil : (xs ys : List A) → xs ++ ys ≡ [] → xs ≡ []
  left_nil [] ys h = refl
  left_nil (x ∷ xs) ys h = absurd (not_nil x (xs ++ ys) h)

  right_nil : (xs ys : List A) → xs ++ ys ≡ [] → ys ≡ []
  right_nil [] ys h = h
  right_nil (x ∷ xs) ys h = absurd (not_nil x (xs ++ ys) h)

module _ {X A : Type 0} (f : X → List A) (P : X → Type 0) (each : (x : X) → f x ≡ [] → P x) where
  all_nil : (xs : List X) → flat_map f xs ≡ [] → All P xs
  all_nil [] h = All-nil P
  all_nil (x ∷ xs) h =
      All-cons P x xs (each x (left_nil (f x) (flat_map f xs) h)) (all_nil xs (right_nil (f x) (flat_map f xs) h))

unused : (u : KernelIdUse) (b : Bool) → (if b then u ∷ [] else []) ≡ [] → b ≡ false
unused u true h = absurd (not_nil u [] h)
unused u false h = refl

sections_ask_not : (sections : List (ℕ × List Relocation)) → flat_map section_uses sections ≡ [] → AskForNoId sections
sections_ask_not =
    all_nil section_uses (λ section. All (λ r. asks_for_kernel_id r ≡ false) section.1)
    (λ section. all_nil (record_use section.0) (λ r. asks_for_kernel_id r ≡ false)
    (λ r. unused (Record section.0 r.number) (asks_for_kernel_id r)) section.1)

first_nil : (n : ℕ) (us : List KernelIdUse) (later : Option LeastTypesError) → first_of_uses n us later ≡ None → us ≡ []
first_nil n [] later h = refl
first_nil n (u ∷ us) later h = absurd (none-some (NeedsKernelId n u) (sym h))

later_none : (n : ℕ) (us : List KernelIdUse) (later : Option LeastTypesError) → first_of_uses n us later ≡ None → later ≡ None
later_none n [] later h = h
later_none n (u ∷ us) later h = absurd (none-some (NeedsKernelId n u) (sym h))

none_from : (n : ℕ) (objects : List Object) → first_id_use_from n objects ≡ None → All (λ o. AskForNoId (records_of o)) objects
none_from n [] h = All-nil (λ o. AskForNoId (records_of o))
none_from n (o ∷ os) h =
    All-cons (λ o. AskForNoId (records_of o)) o os
    (sections_ask_not (records_of o) (left_nil (record_uses o) (extern_uses o.btf o.externs) (left_nil (record_uses o ++ extern_uses o.btf o.externs) (program_uses o) (first_nil n (id_uses o) (first_id_use_from (suc n) os) h))))
    (none_from (suc n) os (later_none n (id_uses o) (first_id_use_from (suc n) os) h))

pub uses_are_all : UsesAreAll
uses_are_all objects h = none_from 0 objects h

pub all_slots_are_alike : (objects : List Object) (kernel types : TypeInfo) → first_id_use objects ≡ None
    → All (λ o. HaveSameOutcomes o kernel types) objects → All (HasSameSlots kernel types) objects
all_slots_are_alike objects kernel types none same =
    λ k d below. slots_are_alike (slice_index_or objects k d) kernel types (same k d below) (uses_are_all objects none k d below)
