-- Where a path leads, as an equation and as a relation, step by step.
use Rattle.std.proofs.Common.{◌≡◌, ℕ, ◌<◌, List, [], ◌∷◌, Option, Some, None, Result, Ok, Err, refl, subst, suc, ◌+◌, ◌≤◌, length, get_or, drop, sym, ap, ◌∙◌, arith, drop-cons, add-one}
use Rattle.std.specs.Prelude.{nat_lt}
use Rattle.std.proofs.lemmas.Bool.{lt-ltb, le-ltb, ltb-true, ltb-false}
use Rattle.std.proofs.lemmas.List.{drop_all}
use Rattle.ebpf_btf.specs.declared.error.BtfError.{BtfError}
use Rattle.ebpf_btf.specs.Steps.{resolved}
use Rattle.ebpf_btf.specs.TypeInfo.{TypeInfo}
use Rattle.ebpf_base.specs.Faults.{Gives, if_ok}
use Rattle.ebpf_core_candidates.proofs.Refusals.{by_answer, by_test, matched}
use Rattle.ebpf_core.specs.declared.places.PlaceFault.{PlaceFault}
use Rattle.ebpf_core.specs.declared.places.FieldPlace.{FieldPlace}
use Rattle.ebpf_core.specs.declared.member_search.FoundMember.{FoundMember}
use Rattle.ebpf_core.specs.declared.places.Step.{Step}
use Rattle.ebpf_core.specs.declared.places.Step.TheVariants.{Name, Index}
use Rattle.ebpf_core.specs.declared.place_walk.TargetSpot.{TargetSpot}
use Rattle.ebpf_core.specs.Places.{MemoryAside, is_place_memory, IsFirstMember, root_spot, by_step, place_after, onward, path_parts, place_of, next_spot, PathLeads, NoStep, NoIndex, NoRoot, Begun, StepLeads, TooLong, NoType, ToElement, ToMember, StepsLead, Arrived, Refused, Lost, Onward}
use Rattle.ebpf_core.specs.Members.{if_read, member_search, members_in, anonymous_levels, search_entries, first_fitting}
use Rattle.ebpf_core.proofs.FirstEntries.{one_first, fitting_is_first}
use Rattle.ebpf_core.proofs.Members.{shallow}

module _ (local target : TypeInfo) where
  -- the first fitting member is the first member
  pub first_member : (name : List ℕ) (local_type parent : ℕ) → IsFirstMember local target name local_type parent (first_fitting (member_search local target name local_type) search_entries (members_in target.types parent))
  first_member name local_type parent = fitting_is_first (member_search local target name local_type) search_entries (shallow local target name local_type) (members_in target.types parent)

  pub one_first_member : (name : List ℕ) (local_type parent : ℕ) (a b : Result (Option FoundMember) PlaceFault)
      → IsFirstMember local target name local_type parent a → IsFirstMember local target name local_type parent b → a ≡ b
  one_first_member name local_type parent a b =
      one_first (member_search local target name local_type) search_entries (members_in target.types parent) anonymous_levels (shallow local target name local_type) a b

  -- ---- a step

  abbrev Leads : TargetSpot → Step → Result (Option TargetSpot) PlaceFault → Type 0
  Leads = StepLeads local target

  step_leads : (from : TargetSpot) (by : Step) → Leads from by (next_spot local target from by)
  step_leads from by = by_test (Leads from by) (nat_lt from.parts path_parts) _ _ (λ near. by_read (resolved target.types from.type_id) refl (ltb-true from.parts path_parts near)) (λ long. TooLong by (ltb-false from.parts path_parts long))
    where
      lead_by : (by : Step) (id : ℕ) → resolved target.types from.type_id ≡ Ok id → from.parts < path_parts → Leads from by (by_step local target from id by)
      lead_by (Name name local_type) id is near =
          ToMember name local_type id (first_fitting (member_search local target name local_type) search_entries (members_in target.types id)) near is (first_member name local_type id)
      lead_by (Index index) id is near = ToElement index id near is

      by_read : (r : Result ℕ BtfError) → resolved target.types from.type_id ≡ r → from.parts < path_parts → Leads from by (if_read r (λ id. by_step local target from id by))
      by_read (Ok id) is near = lead_by by id is near
      by_read (Err e) is near = NoType by e near is

  one_step : (from : TargetSpot) {by : Step} {a : Result (Option TargetSpot) PlaceFault} → Leads from by a → next_spot local target from by ≡ a
  one_step from (TooLong by long) = rw (le-ltb from.parts path_parts long) refl
  one_step from (NoType by e near is) = rw (lt-ltb from.parts path_parts near, is) refl
  one_step from (ToElement index id near is) = rw (lt-ltb from.parts path_parts near, is) refl
  one_step from (ToMember name local_type id first near is member) =
      rw (lt-ltb from.parts path_parts near, is, one_first_member name local_type id first (first_fitting (member_search local target name local_type) search_entries (members_in target.types id)) member (first_member name local_type id)) refl

  -- ---- some steps

  steps_lead : (path : List Step) (from : TargetSpot) → StepsLead local target path from (place_after local target path from)
  unfolding place_after
  steps_lead [] from = Arrived from
  steps_lead (by ∷ path) from = lead_on (next_spot local target from by) (step_leads from by) (steps_lead path)
    where
      lead_on : (r : Result (Option TargetSpot) PlaceFault) → Leads from by r → ((next : TargetSpot) → StepsLead local target path next (place_after local target path next))
          → StepsLead local target (by ∷ path) from (if_ok r (λ led_to. onward led_to (place_after local target path)))
      lead_on (Err f) one more = Refused by path from f one
      lead_on (Ok None) one more = Lost by path from one
      lead_on (Ok (Some next)) one more = Onward by path from next (place_after local target path next) one (more next)

  one_way : {path : List Step} {from : TargetSpot} {a : Result (Option FieldPlace) PlaceFault} → StepsLead local target path from a → place_after local target path from ≡ a
  unfolding place_after
  one_way (Arrived from) = refl
  one_way (Refused by path from f one) = rw (one_step from one) refl
  one_way (Lost by path from one) = rw (one_step from one) refl
  one_way (Onward by path from next answer one more) = rw (one_step from one) (one_way more)

  -- ---- a path

  pub path_leads : (root : ℕ) (path : List Step) → PathLeads local target root path (place_of local target root path)
  unfolding place_of
  path_leads root [] = NoStep
  path_leads root (Name name local_type ∷ path) = NoIndex name local_type path
  path_leads root (Index index ∷ path) =
      by_answer (PathLeads local target root (Index index ∷ path)) (root_spot target root index) _ (λ f is. NoRoot index path f is)
      (λ from is. Begun index path from (place_after local target path from) is (steps_lead path from))

  pub one_place : {root : ℕ} {path : List Step} {a : Result (Option FieldPlace) PlaceFault} → PathLeads local target root path a → place_of local target root path ≡ a
  unfolding place_of
  one_place NoStep = refl
  one_place (NoIndex name local_type path) = refl
  one_place (NoRoot index path f is) = rw is refl
  one_place (Begun index path from answer is more) = rw is (one_way more)

-- what holds of the stated answer holds of the one that is given, memory aside
pub aside : {X : Type 0} (Holds : Result X PlaceFault → Type 0) (r stated : Result X PlaceFault) → Gives is_place_memory r stated → Holds stated → MemoryAside r Holds
aside Holds (Ok x) stated is holds = subst Holds is holds
aside Holds (Err e) stated is holds = matched (is_place_memory e) (stated ≡ Err e) (Holds (Err e)) (λ same. subst Holds same holds) is

-- ---- one step of a path

module _ (local target : TypeInfo) where
  followed_cons : (by : Step) (path : List Step) (from : TargetSpot)
      → place_after local target (by ∷ path) from ≡ if_ok (next_spot local target from by) (λ led_to. onward led_to (place_after local target path))
  unfolding place_after
  followed_cons by path from = refl

  followed_none : (from : TargetSpot) → place_after local target [] from ≡ Ok (Some from.place)
  unfolding place_after
  followed_none from = refl

  -- a path that has come to a step
  pub path_step : (path : List Step) (i : ℕ) (d : Step) (from : TargetSpot) → i < length path
      → place_after local target (drop i path) from ≡ if_ok (next_spot local target from (get_or path i d)) (λ led_to. onward led_to (place_after local target (drop (i + 1) path)))
  path_step path i d from lt = rw (drop-cons path i d lt, add-one i) (followed_cons (get_or path i d) (drop (suc i) path) from)

  -- a path at its end
  pub path_end : (path : List Step) (i : ℕ) (from : TargetSpot) → length path ≤ i → place_after local target (drop i path) from ≡ Ok (Some from.place)
  path_end path i from le = rw (drop_all i path le) (followed_none from)

  -- a path that has come to a step which leads so
  pub path_at : (path : List Step) (i : ℕ) (by : Step) (from : TargetSpot) (r : Result (Option TargetSpot) PlaceFault) → i < length path → by ≡ get_or path i by → next_spot local target from by ≡ r
      → place_after local target (drop i path) from ≡ if_ok r (λ led_to. onward led_to (place_after local target (drop (i + 1) path)))
  path_at path i by from r lt item is =
      path_step path i by from lt
      ∙ ap (λ (a : Result (Option TargetSpot) PlaceFault). if_ok a (λ led_to. onward led_to (place_after local target (drop (i + 1) path))))
      (ap (next_spot local target from) (sym item) ∙ is)

  -- ---- the first step

  pub place_empty : (root : ℕ) (path : List Step) → length path ≡ 0 → place_of local target root path ≡ Ok None
  unfolding place_of
  place_empty root [] none = refl
  place_empty root (by ∷ path) none = absurd (omega arith)

  pub place_named : (root : ℕ) (path rest : List Step) (by : Step) (name : List ℕ) (local_type : ℕ) → path ≡ by ∷ rest → by ≡ Name name local_type
      → place_of local target root path ≡ Ok None
  unfolding place_of
  place_named root path rest by name local_type split is = rw (split, is) refl

  pub place_begun : (root : ℕ) (path rest : List Step) (by : Step) (index : ℕ) (r : Result TargetSpot PlaceFault) → path ≡ by ∷ rest → by ≡ Index index → r ≡ root_spot target root index
      → place_of local target root path ≡ if_ok r (place_after local target rest)
  unfolding place_of
  place_begun root path rest by index r split is begins = rw (split, is, begins) refl
