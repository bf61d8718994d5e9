-- The candidate that comes furthest along a path, and how far along it candidates come.
use Rattle.std.proofs.Common.{◌≡◌, ℕ, zero, suc, ◌<◌, ◌≤◌, max, ◌⊎◌, inl, inr, Bool, true, false, List, [], ◌∷◌, length, take, Option, Some, None, Result, Ok, Err, refl, sym, ap, ◌∙◌, subst, arith, if◌then◌else◌, slice_get}
use Rattle.std.specs.Prelude.{◌≢◌, fold}
use Rattle.std.proofs.lemmas.Bool.{cases_eq, cases_lt, lt-ltb, le-ltb}
use Rattle.std.proofs.lemmas.Option.{same_Some}
use Rattle.ebpf_btf.specs.TypeInfo.{TypeInfo}
use Rattle.ebpf_base.specs.Faults.{if_ok}
use Rattle.ebpf_core_candidates.proofs.Refusals.{by_test}
use Rattle.ebpf_core.specs.Places.{root_spot, place_after, onward, place_of, next_spot}
use Rattle.ebpf_core.specs.declared.places.PlaceFault.{PlaceFault}
use Rattle.ebpf_core.specs.declared.places.Step.{Step}
use Rattle.ebpf_core.specs.declared.places.Step.TheVariants.{Name, Index}
use Rattle.ebpf_core.specs.declared.place_walk.TargetSpot.{TargetSpot}
use Rattle.ebpf_core_relo.specs.Absences.{further, greatest, is_place, leads, reach, ComesFurthest, FurthestComesFurthest, NoneLeads, furthest, nowhere}
use Rattle.ebpf_core_relo.specs.declared.absence.Furthest.{Furthest}

-- ---- the greatest number that passes a test

module _ (test : ℕ → Bool) where
  within : (n : ℕ) → greatest test n ≤ n
  within zero = omega arith
  within (suc n) = let less = within n in by_test (λ (x : ℕ). x ≤ suc n) (test (suc n)) (suc n) (greatest test n) (λ is. omega arith) (λ is. omega arith)

  at_least : (n s : ℕ) → s ≤ n → test s ≡ true → s ≤ greatest test n
  at_least zero s small passes = omega arith
  at_least (suc n) s small passes =
      by_test (λ (x : ℕ). s ≤ x) (test (suc n)) (suc n) (greatest test n) (λ is. small) (λ is. by_place is (λ less. at_least n s less passes) (cases_eq s (suc n)))
    where
      by_place : test (suc n) ≡ false → (s ≤ n → s ≤ greatest test n) → (s ≡ suc n) ⊎ (s ≢ suc n) → s ≤ greatest test n
      by_place is less (inl same) = let never : true ≡ false = sym passes ∙ ap test same ∙ is in cc
      by_place is less (inr other) = less (omega arith)

  pub passes : (n : ℕ) → 0 < greatest test n → test (greatest test n) ≡ true
  passes zero some = absurd (omega arith)
  passes (suc n) some = by_test (λ (x : ℕ). 0 < x → test x ≡ true) (test (suc n)) (suc n) (greatest test n) (λ is more. is) (λ is. passes n) some

  pub fails_past : (n m : ℕ) → greatest test n < m → m ≤ n → test m ≡ false
  fails_past n m past small = by_case (test m) refl
    where
      by_case : (b : Bool) → test m ≡ b → b ≡ false
      by_case false is = refl
      by_case true is = let h : m ≤ greatest test n = at_least n m small is in absurd (omega arith)

  -- Where a test that passes at a number passes at each below, but for 0, it is passed up to the greatest.
  module _ (falls : (k : ℕ) → test (suc (suc k)) ≡ true → test (suc k) ≡ true) where
    down : (n s : ℕ) → s ≤ n → test (suc n) ≡ true → test (suc s) ≡ true
    down zero s small passes = subst (λ k. test (suc k) ≡ true) (let e : 0 ≡ s = omega arith in e) passes
    down (suc n) s small passes = by_place (λ less. down n s less (falls n passes)) (cases_eq s (suc n))
      where
        by_place : (s ≤ n → test (suc s) ≡ true) → (s ≡ suc n) ⊎ (s ≢ suc n) → test (suc s) ≡ true
        by_place less (inl same) = subst (λ k. test (suc k) ≡ true) (sym same) passes
        by_place less (inr other) = less (omega arith)

    at_most : (n s : ℕ) → test (suc s) ≡ false → greatest test n ≤ s
    at_most zero s fails = omega arith
    at_most (suc n) s fails =
        by_test (λ (x : ℕ). x ≤ s) (test (suc n)) (suc n) (greatest test n) (λ is. by_place (cases_lt s (suc n)) is) (λ is. at_most n s fails)
      where
        by_place : (s < suc n) ⊎ (suc n ≤ s) → test (suc n) ≡ true → suc n ≤ s
        by_place (inr high) is = high
        by_place (inl low) is = let never : true ≡ false = sym (down n s (omega arith) is) ∙ fails in cc

-- ---- a path with fewer steps

module _ (local target : TypeInfo) where
  fewer : (path : List Step) (n : ℕ) (from : TargetSpot) → is_place (place_after local target (take (suc n) path) from) ≡ true → is_place (place_after local target (take n path) from) ≡ true
  unfolding place_after
  fewer path zero from there = refl
  fewer [] (suc n) from there = there
  fewer (by ∷ path) (suc n) from there = by_step (next_spot local target from by) (λ next. fewer path n next) there
    where
      by_step : (r : Result (Option TargetSpot) PlaceFault)
          → ((next : TargetSpot) → is_place (place_after local target (take (suc n) path) next) ≡ true → is_place (place_after local target (take n path) next) ≡ true)
          → is_place (if_ok r (λ led_to. onward led_to (place_after local target (take (suc n) path)))) ≡ true
          → is_place (if_ok r (λ led_to. onward led_to (place_after local target (take n path)))) ≡ true
      by_step (Ok None) less there = there
      by_step (Ok (Some next)) less there = less next there
      by_step (Err fault) less there = there

  leads_fewer : (steps : List Step) (id n : ℕ) → leads local target steps id (suc (suc n)) ≡ true → leads local target steps id (suc n) ≡ true
  unfolding place_of
  leads_fewer [] id n there = there
  leads_fewer (Name name local_type ∷ path) id n there = there
  leads_fewer (Index index ∷ path) id n there = by_start (root_spot target id index) there
    where
      by_start : (r : Result TargetSpot PlaceFault) → is_place (if_ok r (place_after local target (take (suc n) path))) ≡ true → is_place (if_ok r (place_after local target (take n path))) ≡ true
      by_start (Ok from) there = fewer path n from there
      by_start (Err fault) there = there

  -- where steps lead somewhere up to a number, past one that is known, and one more does not
  pub reach_is : (steps : List Step) (id known n : ℕ) → known ≤ n → n ≤ length steps → (n ≡ known) ⊎ (leads local target steps id n ≡ true)
      → (n ≡ length steps) ⊎ (leads local target steps id (suc n) ≡ false) → n ≡ max known (reach local target steps id)
  unfolding reach
  reach_is steps id known n above within_steps start stop = omega (arith, below start, top stop)
    where
      test : ℕ → Bool
      test = leads local target steps id

      below : (n ≡ known) ⊎ (test n ≡ true) → n ≤ max known (greatest test (length steps))
      below (inl same) = omega arith
      below (inr there) = let h : n ≤ greatest test (length steps) = at_least test (length steps) n within_steps there in omega arith

      top : (n ≡ length steps) ⊎ (test (suc n) ≡ false) → greatest test (length steps) ≤ n
      top (inl same) = let h : greatest test (length steps) ≤ length steps = within test (length steps) in omega arith
      top (inr fails) = at_most test (leads_fewer steps id) (length steps) n fails

  -- all steps of the path do
  pub all_reach : (steps : List Step) (id known n : ℕ) → known ≤ length steps → n ≡ length steps → (n ≡ known) ⊎ (leads local target steps id n ≡ true)
      → length steps ≡ max known (reach local target steps id)
  all_reach steps id known n above all start = sym all ∙ reach_is steps id known n (omega arith) (omega arith) start (inl all)

  pub reach_within : (steps : List Step) (id : ℕ) → reach local target steps id ≤ length steps
  unfolding reach
  reach_within steps id = within (leads local target steps id) (length steps)

-- ---- the furthest

-- a candidate that comes further
pub one_further : (last : Furthest) (id far steps : ℕ) → steps ≡ max last.steps far → last.steps < steps → further last id far ≡ record { candidate = Some id; steps = steps }
one_further last id far steps is more =
    let same : far ≡ steps = omega arith in
    let past : last.steps < far = omega arith in
    ap (λ b. if b then record { candidate = Some id; steps = far } else last) (lt-ltb last.steps far past)
    ∙ ap (λ (n : ℕ). let found : Furthest = record { candidate = Some id; steps = n } in found) same

-- ---- the candidate that comes furthest along a path, by its place

module _ (far : ℕ → ℕ) where
  abbrev step : Furthest → ℕ → Furthest
  step so_far id = further so_far id (far id)

  abbrev one : ℕ → Furthest
  one id = record { candidate = Some id; steps = far id }

  -- what a walk over candidates keeps: what it began with, where none comes further, or the first that comes furthest
  data Kept (from last : Furthest) (ids : List ℕ) : Type 0 where
    Same : last ≡ from → ((k other : ℕ) → slice_get ids k ≡ Some other → far other ≤ from.steps) → Kept from last ids
    Met : (place id : ℕ) → slice_get ids place ≡ Some id → last ≡ one id → from.steps < far id
        → ((k other : ℕ) → slice_get ids k ≡ Some other → far other ≤ far id)
        → ((k other : ℕ) → k < place → slice_get ids k ≡ Some other → far other < far id)
        → Kept from last ids

  taken : (from : Furthest) (id : ℕ) → from.steps < far id → step from id ≡ one id
  taken from id more = ap (λ b. if b then one id else from) (lt-ltb from.steps (far id) more)

  passed : (from : Furthest) (id : ℕ) → far id ≤ from.steps → step from id ≡ from
  passed from id less = ap (λ b. if b then one id else from) (le-ltb from.steps (far id) less)

  -- the first of some candidates is passed over
  behind_passed : (id : ℕ) (ids : List ℕ) (from last : Furthest) → far id ≤ from.steps → Kept from last ids → Kept from last (id ∷ ids)
  behind_passed id ids from last less (Same is all) = Same is every
    where
      every : (k other : ℕ) → slice_get (id ∷ ids) k ≡ Some other → far other ≤ from.steps
      every zero other e = subst (λ n. far n ≤ from.steps) (same_Some _ _ e) less
      every (suc k) other e = all k other e
  behind_passed id ids from last less (Met place other at is more all first) = Met (suc place) other at is more every before
    where
      every : (k third : ℕ) → slice_get (id ∷ ids) k ≡ Some third → far third ≤ far other
      every zero third e = let h : far id ≤ far other = omega arith in subst (λ n. far n ≤ far other) (same_Some _ _ e) h
      every (suc k) third e = all k third e

      before : (k third : ℕ) → k < suc place → slice_get (id ∷ ids) k ≡ Some third → far third < far other
      before zero third small e = let h : far id < far other = omega arith in subst (λ n. far n < far other) (same_Some _ _ e) h
      before (suc k) third small e = first k third (omega arith) e

  -- the first of some comes further
  behind_taken : (id : ℕ) (ids : List ℕ) (from last : Furthest) → from.steps < far id → Kept (one id) last ids → Kept from last (id ∷ ids)
  behind_taken id ids from last more (Same is all) = Met 0 id refl is more every (λ k other small e. absurd (omega arith))
    where
      every : (k other : ℕ) → slice_get (id ∷ ids) k ≡ Some other → far other ≤ far id
      every zero other e = let h : far id ≤ far id = omega arith in subst (λ n. far n ≤ far id) (same_Some _ _ e) h
      every (suc k) other e = all k other e
  behind_taken id ids from last more (Met place other at is further_on all first) = Met (suc place) other at is (omega arith) every before
    where
      every : (k third : ℕ) → slice_get (id ∷ ids) k ≡ Some third → far third ≤ far other
      every zero third e = let h : far id ≤ far other = omega arith in subst (λ n. far n ≤ far other) (same_Some _ _ e) h
      every (suc k) third e = all k third e

      before : (k third : ℕ) → k < suc place → slice_get (id ∷ ids) k ≡ Some third → far third < far other
      before zero third small e = subst (λ n. far n < far other) (same_Some _ _ e) further_on
      before (suc k) third small e = first k third (omega arith) e

  kept : (ids : List ℕ) (from : Furthest) → Kept from (fold step from ids) ids
  kept [] from = Same refl (λ k other e. cc)
  kept (id ∷ ids) from = by_far (cases_lt from.steps (far id)) (kept ids from) (kept ids (one id))
    where
      by_far : (from.steps < far id) ⊎ (far id ≤ from.steps) → Kept from (fold step from ids) ids → Kept (one id) (fold step (one id) ids) ids
          → Kept from (fold step (step from id) ids) (id ∷ ids)
      by_far (inl more) without with = behind_taken id ids from _ more (subst (λ (f : Furthest). Kept (one id) (fold step f ids) ids) (sym (taken from id more)) with)
      by_far (inr less) without with = behind_passed id ids from _ less (subst (λ (f : Furthest). Kept from (fold step f ids) ids) (sym (passed from id less)) without)

module _ (local target : TypeInfo) (steps : List Step) (ids : List ℕ) where
  abbrev far : ℕ → ℕ
  far id = reach local target steps id

  last_kept : Kept far nowhere (furthest local target steps ids) ids
  unfolding furthest
  last_kept = kept far ids nowhere

  none_past : (other m : ℕ) → far other < m → m ≤ length steps → leads local target steps other m ≡ false
  unfolding reach
  none_past other m past small = fails_past (leads local target steps other) (length steps) m past small

  leads_so_far : (id : ℕ) → 0 < far id → leads local target steps id (far id) ≡ true
  unfolding reach
  leads_so_far id some = passes (leads local target steps id) (length steps) some

  no_step : (id : ℕ) → leads local target steps id 0 ≡ false
  unfolding place_of
  no_step id = refl

  comes : (id : ℕ) (last : Furthest) → Kept far nowhere last ids → last.candidate ≡ Some id → ComesFurthest local target steps ids id last.steps
  comes id last (Same is all) named = let never : None ≡ Some id = sym (ap (λ (f : Furthest). f.candidate) is) ∙ named in cc
  comes id last (Met place other at is more all first) named =
      let same : other ≡ id = same_Some _ _ (sym (ap (λ (f : Furthest). f.candidate) is) ∙ named) in
      let whole : ComesFurthest local target steps ids other (far other) = record {
        index = place;
        at = at;
        within = reach_within local target steps other;
        there = leads_so_far other more;
        no_further = λ k third m e past small. let h : far third ≤ far other = all k third e in none_past third m (omega arith) small;
        first = λ k third before e. none_past third (far other) (first k third before e) (reach_within local target steps other);
      } in
      subst (λ n. ComesFurthest local target steps ids n last.steps) same
      (subst (λ n. ComesFurthest local target steps ids other n) (sym (ap (λ (f : Furthest). f.steps) is)) whole)

  none_leads : (last : Furthest) → Kept far nowhere last ids → last.candidate ≡ None → (k other m : ℕ) → slice_get ids k ≡ Some other → m ≤ length steps
      → leads local target steps other m ≡ false
  none_leads last (Met place other at is more all first) nameless = let never : Some other ≡ None = sym (ap (λ (f : Furthest). f.candidate) is) ∙ nameless in cc
  none_leads last (Same is all) nameless = by_steps
    where
      by_steps : (k other m : ℕ) → slice_get ids k ≡ Some other → m ≤ length steps → leads local target steps other m ≡ false
      by_steps k other zero e small = no_step other
      by_steps k other (suc m) e small = let h : far other ≤ 0 = all k other e in none_past other (suc m) (omega arith) small

pub comes_furthest : FurthestComesFurthest
comes_furthest local target steps ids id named = comes local target steps ids id (furthest local target steps ids) (last_kept local target steps ids) named

pub nothing_leads : NoneLeads
nothing_leads local target steps ids nameless = none_leads local target steps ids (furthest local target steps ids) (last_kept local target steps ids) nameless
