-- The first use of an id among objects.
use Rattle.std.proofs.Common.{◌≡◌, ◌+◌, ◌<◌, ◌∙◌, ℕ, List, [], ◌∷◌, Option, Some, None, arith, suc, drop, length, ap, sym, refl}
use Rattle.std.proofs.lemmas.Option.{none-some}
use Rattle.std.specs.Prelude.{slice_get, slice_index_or}
use Rattle.ebpf_base.proofs.Lists.{rest_more}
use Rattle.ebpf_least_types.specs.IdUses.{first_id_use_from, first_of_uses, id_uses}
use Rattle.ebpf_least_types.specs.declared.error.LeastTypesError.{LeastTypesError}
use Rattle.ebpf_least_types.specs.declared.error.LeastTypesError.TheVariants.{NeedsKernelId}
use Rattle.ebpf_least_types.specs.declared.id_uses.KernelIdUse.{KernelIdUse}
use Rattle.ebpf_object.specs.declared.object.Object.{Object}

first_is : (n : ℕ) (us : List KernelIdUse) (u : KernelIdUse) (later : Option LeastTypesError) → slice_get us 0 ≡ Some u
    → first_of_uses n us later ≡ Some (NeedsKernelId n u)
first_is n [] u later first = absurd (none-some u first)
first_is n (x ∷ us) u later first = ap (λ o. elim o [ Some y ↦ Some (NeedsKernelId n y) | None ↦ later ]) first

none_is : (n : ℕ) (us : List KernelIdUse) (later : Option LeastTypesError) → slice_get us 0 ≡ None → first_of_uses n us later ≡ later
none_is n [] later none = refl
none_is n (x ∷ us) later none = absurd (none-some x (sym none))

module _ (objects : List Object) (n : ℕ) (o : Object) (below : n < length objects) (here : o ≡ slice_index_or objects n o) where
  -- an object that needs an id
  pub used_here : (u : KernelIdUse) → slice_get (id_uses o) 0 ≡ Some u
      → first_id_use_from n (drop n objects) ≡ Some (NeedsKernelId n u)
  used_here u first = ap (first_id_use_from n) (rest_more objects n o below here) ∙ first_is n (id_uses o) u _ first

  -- one that needs none
  pub used_later : slice_get (id_uses o) 0 ≡ None
      → first_id_use_from (n + 1) (drop (n + 1) objects) ≡ first_id_use_from n (drop n objects)
  used_later none =
      let on : suc n ≡ n + 1 = omega arith in
      sym (ap (first_id_use_from n) (rest_more objects n o below here) ∙ none_is n (id_uses o) _ none ∙ ap (λ m. first_id_use_from m (drop (n + 1) objects)) on)
