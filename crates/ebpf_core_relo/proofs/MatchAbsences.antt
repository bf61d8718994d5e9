-- Reasons beside matches and outcomes.
use Rattle.std.proofs.Common.{◌≡◌, ℕ, zero, suc, ◌<◌, ◌≤◌, ◌⊎◌, inl, inr, Bool, true, false, List, [], ◌∷◌, length, take, Option, Some, None, Result, Ok, Err, refl, sym, ap, ◌∙◌, subst, arith, slice_get, if◌then◌else◌}
use Rattle.std.specs.Prelude.{◌≢◌}
use Rattle.std.proofs.Math.Seq.{take-length}
use Rattle.std.proofs.lemmas.Bool.{cases_lt}
use Rattle.std.proofs.lemmas.Option.{same_Some, slice_get_past}
use Rattle.ebpf_btf.specs.TypeInfo.{TypeInfo}
use Rattle.ebpf_btf.specs.declared.error.BtfError.{BtfError}
use Rattle.ebpf_btf_ext.specs.declared.relocation.Relocation.{Relocation}
use Rattle.ebpf_core.specs.Places.{place_of}
use Rattle.ebpf_core.specs.declared.places.PlaceFault.{PlaceFault}
use Rattle.ebpf_core.specs.declared.places.PlaceFault.TheVariants.{NestingLevel, Btf}
use Rattle.ebpf_core.specs.declared.places.FieldPlace.{FieldPlace}
use Rattle.ebpf_core.specs.declared.places.Step.{Step}
use Rattle.ebpf_core.specs.declared.places.Step.TheVariants.{Name, Index}
use Rattle.ebpf_core.proofs.MatchSteps.{kept_with, match_more, no_candidates}
use Rattle.ebpf_core.proofs.Searching.{outcomes_rest_on_questions, same_record}
use Rattle.ebpf_base.specs.Faults.{if_ok}
use Rattle.ebpf_core.specs.Answers.{of_types}
use Rattle.ebpf_core.specs.LocalPaths.{local_path}
use Rattle.ebpf_core.specs.Outcomes.{by_place, found_at_candidate, matches, type_name_at, outcome_among}
use Rattle.ebpf_core.specs.Searches.{Question, question_of, candidates_for, is_local, itself, outcome_of}
use Rattle.ebpf_core.specs.declared.error.RelocationError.{RelocationError}
use Rattle.ebpf_core.specs.declared.matches.FoundMatch.{FoundMatch}
use Rattle.ebpf_core.specs.declared.matches.Match.{Match}
use Rattle.ebpf_core.specs.declared.outcome.Outcome.{Outcome}
use Rattle.ebpf_core.specs.declared.paths.LocalPath.{LocalPath}
use Rattle.ebpf_core.specs.declared.paths.NamedPath.{NamedPath}
use Rattle.ebpf_core.specs.declared.paths.NamedPath.TheVariants as paths
use Rattle.ebpf_core_relo.proofs.FurthestOnes.{comes_furthest, nothing_leads}
use Rattle.ebpf_core_candidates.proofs.Refusals.{ok_parts, same_ok}
use Rattle.ebpf_core_relo.specs.Absences.{AbsencesAreOfPaths, ComesFurthest, IsPathAbsence, NoValueIsOfMatches, absence_by, absence_of, field_absence, furthest, is_place, lacks, leads, step_absence, without_position}
use Rattle.ebpf_core_relo.specs.declared.absence.Absence.{Absence}
use Rattle.ebpf_core_relo.specs.declared.absence.Absence.TheVariants.{MemberOfAnotherKind, NoMember, NoValue}
use Rattle.ebpf_core_relo.specs.declared.absence.Furthest.{Furthest}
use Rattle.ebpf_base.proofs.Lists.{there_is}

pub same_absence : (local target : TypeInfo) (r s : Relocation) → question_of r ≡ question_of s → absence_of local target r ≡ absence_of local target s
unfolding absence_of
same_absence local target r s e =
    ap (λ q. absence_by local target (candidates_for local target r.type_id) (local_path local (without_position q))) (same_record r s e)
    ∙ ap (λ n. absence_by local target (candidates_for local target n) (local_path local (without_position s))) (ap (λ (q : Question). q.0.0) e)

-- ---- a record that has no value

-- its path, its candidates
pub absences_are_of_paths : AbsencesAreOfPaths
unfolding outcome_of absence_of
absences_are_of_paths local target r outcome is none =
    let (path, side, rest) = ok_parts (local_path local (without_position r)) _ outcome (outcomes_rest_on_questions local target r (without_position r) outcome refl is) in
    by_kind path side (is_local r.kind) rest
  where
    by_kind : (path : LocalPath) → local_path local (without_position r) ≡ Ok path → (b : Bool)
        → (if b then Ok (itself r.type_id) else if_ok (of_types (candidates_for local target r.type_id)) (outcome_among local target (without_position r) path)) ≡ Ok outcome
        → IsPathAbsence local target r
    by_kind path side true e = let never : Some r.type_id ≡ None = ap (λ (o : Outcome). o.value) (same_ok _ _ e) ∙ none in cc
    by_kind path side false e = by_ids (candidates_for local target r.type_id) refl e
      where
        by_ids : (c : Result (List ℕ) BtfError) → candidates_for local target r.type_id ≡ c → if_ok (of_types c) (outcome_among local target (without_position r) path) ≡ Ok outcome
            → IsPathAbsence local target r
        by_ids (Ok ids) are e = record { path = path; side = side; ids = ids; candidates = are; absence = rw (side, are) refl }
        by_ids (Err fault) are e = cc

-- ---- matches of a field

module _ (local target : TypeInfo) (local_id : ℕ) (path : NamedPath) where
  abbrev finds : ℕ → Result (Option FoundMatch) RelocationError
  finds = found_at_candidate local target local_id path

  first_parts : (x : ℕ) (ids : List ℕ) (all : List Match) → matches local target local_id path (x ∷ ids) ≡ Ok all
      → (what : Option FoundMatch) × (finds x ≡ Ok what) × (ms : List Match) × (matches local target local_id path ids ≡ Ok ms) × (kept_with x what ms ≡ all)
  first_parts x ids all e =
      let (what, first, rest) = ok_parts (finds x) _ all (sym (match_more local target local_id path x ids) ∙ e) in
      let (ms, others, are) = ok_parts (matches local target local_id path ids) _ all rest in
      (what, first, ms, others, same_ok _ _ are)

  -- where none matches, each answers none
  all_none : (ids : List ℕ) → matches local target local_id path ids ≡ Ok [] → (k id : ℕ) → slice_get ids k ≡ Some id → finds id ≡ Ok None
  all_none [] e k id at = cc
  all_none (x ∷ ids) e k id at = let (what, first, ms, others, are) = first_parts x ids [] e in by_first what first ms are (λ none. all_none ids (others ∙ ap Ok none)) k at
    where
      by_first : (what : Option FoundMatch) → finds x ≡ Ok what → (ms : List Match) → kept_with x what ms ≡ [] → (ms ≡ [] → (k id : ℕ) → slice_get ids k ≡ Some id → finds id ≡ Ok None)
          → (k : ℕ) → slice_get (x ∷ ids) k ≡ Some id → finds id ≡ Ok None
      by_first (Some w) first ms are more k at = cc
      by_first None first ms are more zero at = subst (λ n. finds n ≡ Ok None) (same_Some _ _ at) first
      by_first None first ms are more (suc k) at = more are k id at

  -- where one matches, one answers so
  some_one : (ids : List ℕ) (all : List Match) → matches local target local_id path ids ≡ Ok all → all ≢ [] → (k : ℕ) × (id : ℕ) × (w : FoundMatch) × (slice_get ids k ≡ Some id) × (finds id ≡ Ok (Some w))
  some_one [] all e some = absurd (some (same_ok _ _ (sym e ∙ no_candidates local target local_id path)))
  some_one (x ∷ ids) all e some = let (what, first, ms, others, are) = first_parts x ids all e in by_first what first ms are (some_one ids ms others)
    where
      by_first : (what : Option FoundMatch) → finds x ≡ Ok what → (ms : List Match) → kept_with x what ms ≡ all
          → (ms ≢ [] → (k : ℕ) × (id : ℕ) × (w : FoundMatch) × (slice_get ids k ≡ Some id) × (finds id ≡ Ok (Some w)))
          → (k : ℕ) × (id : ℕ) × (w : FoundMatch) × (slice_get (x ∷ ids) k ≡ Some id) × (finds id ≡ Ok (Some w))
      by_first (Some w) first ms are more = (0, x, w, refl, first)
      by_first None first ms are more = let (k, id, w, at, is) = more (λ none. some (sym are ∙ none)) in (suc k, id, w, at, is)

module _ (local target : TypeInfo) (local_id : ℕ) (steps : List Step) (place : FieldPlace) where
  found_by : (id : ℕ) → found_at_candidate local target local_id (paths.Field steps place) id ≡ by_place target id (place_of local target id steps)
  unfolding found_at_candidate
  found_by id = refl

  nested : {X : Type 0} (name : Result (List ℕ) RelocationError) (e : List ℕ → RelocationError) (x : X) → if_ok name (λ n. Err (e n)) ≡ Ok x → ⊥
  nested (Ok n) e x h = cc
  nested (Err fault) e x h = cc

  nowhere_then : (id : ℕ) (p : Result (Option FieldPlace) PlaceFault) → by_place target id p ≡ Ok None → is_place p ≡ false
  nowhere_then id (Ok None) e = refl
  nowhere_then id (Ok (Some there)) e = cc
  nowhere_then id (Err fault) e = refl

  somewhere_then : (id : ℕ) (w : FoundMatch) (p : Result (Option FieldPlace) PlaceFault) → by_place target id p ≡ Ok (Some w) → is_place p ≡ true
  somewhere_then id w (Ok None) e = cc
  somewhere_then id w (Ok (Some there)) e = refl
  somewhere_then id w (Err NestingLevel) e = absurd (nested (of_types (type_name_at target id)) _ _ e)
  somewhere_then id w (Err (Btf fault)) e = cc

  whole : (id : ℕ) (b : Bool) → is_place (place_of local target id steps) ≡ b → leads local target steps id (length steps) ≡ b
  whole id b is = ap (λ path. is_place (place_of local target id path)) (take-length steps) ∙ is

  -- ---- the reason of a field

  -- a step that is left is no place without a value
  of_step : (from : Result (Option FieldPlace) PlaceFault) (by : Step) → step_absence target from (Some by) ≢ NoValue
  of_step from (Index index) e = cc
  of_step (Ok None) (Name name local_type) e = cc
  of_step (Err fault) (Name name local_type) e = cc
  of_step (Ok (Some there)) (Name name local_type) e = by_test _ e
    where
      by_test : (b : Bool) → (if b then MemberOfAnotherKind else NoMember) ≡ NoValue → ⊥
      by_test true e = cc
      by_test false e = cc

  abbrev last : List ℕ → Furthest
  last ids = furthest local target steps ids

  abbrev lacking : List ℕ → Option ℕ → Absence
  lacking ids candidate = lacks local target steps (last ids).steps candidate

  -- where all steps lead somewhere in a candidate
  led : (ids : List ℕ) (k id : ℕ) → slice_get ids k ≡ Some id → leads local target steps id (length steps) ≡ true
      → (candidate : Option ℕ) → (last ids).candidate ≡ candidate → lacking ids candidate ≡ NoValue
  led ids k id at all None named = let never : true ≡ false = sym all ∙ nothing_leads local target steps ids named k id (length steps) at (omega arith) in cc
  led ids k id at all (Some other) named = by_place (cases_lt (last ids).steps (length steps))
    where
      comes : ComesFurthest local target steps ids other (last ids).steps
      comes = comes_furthest local target steps ids other named

      none_left : length steps ≤ (last ids).steps → slice_get steps (last ids).steps ≡ None
      none_left past = slice_get_past steps (last ids).steps past

      by_place : ((last ids).steps < length steps) ⊎ (length steps ≤ (last ids).steps) → lacking ids (Some other) ≡ NoValue
      by_place (inl less) = let never : true ≡ false = sym all ∙ comes.no_further k id (length steps) at less (omega arith) in cc
      by_place (inr past) = ap (step_absence target (place_of local target other (take (last ids).steps steps))) (none_left past)

  -- where they do in none
  not_led : (ids : List ℕ) → ((k id : ℕ) → slice_get ids k ≡ Some id → leads local target steps id (length steps) ≡ false)
      → (candidate : Option ℕ) → (last ids).candidate ≡ candidate → lacking ids candidate ≢ NoValue
  not_led ids none None named e = cc
  not_led ids none (Some other) named e = by_place (cases_lt (last ids).steps (length steps))
    where
      comes : ComesFurthest local target steps ids other (last ids).steps
      comes = comes_furthest local target steps ids other named

      by_place : ((last ids).steps < length steps) ⊎ (length steps ≤ (last ids).steps) → ⊥
      by_place (inl less) =
          let (by, is) = there_is steps (last ids).steps less in
          of_step (place_of local target other (take (last ids).steps steps)) by (ap (step_absence target (place_of local target other (take (last ids).steps steps))) (sym is) ∙ e)
      by_place (inr past) =
          let all : (last ids).steps ≡ length steps = omega (arith, comes.within) in
          let never : true ≡ false = sym comes.there ∙ ap (leads local target steps other) all ∙ none comes.index other comes.at in cc

pub no_value_is_of_matches : NoValueIsOfMatches
unfolding field_absence
no_value_is_of_matches local target local_id steps place ids found is = (
  λ e none.
      not_led local target local_id steps place ids
      (λ k id at. whole local target local_id steps place id false
      (nowhere_then local target local_id steps place id _ (sym (found_by local target local_id steps place id) ∙ all_none local target local_id (paths.Field steps place) ids (is ∙ ap Ok none) k id at)))
      (furthest local target steps ids).candidate refl e,
  λ some.
      let (k, id, w, at, one) = some_one local target local_id (paths.Field steps place) ids found is some in
      led local target local_id steps place ids k id at
      (whole local target local_id steps place id true (somewhere_then local target local_id steps place id w _ (sym (found_by local target local_id steps place id) ∙ one)))
      (furthest local target steps ids).candidate refl,
)
