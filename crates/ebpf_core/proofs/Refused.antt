-- Why a record has no outcome, as an equation and step by step.
use Rattle.std.proofs.Common.{◌≡◌, ℕ, zero, suc, ◌<◌, ◌&&◌, Bool, true, false, cond, List, [], ◌∷◌, Option, Some, Result, Ok, Err, refl, sym, ap, ◌∙◌, subst, arith, slice_get}
use Rattle.std.specs.Prelude.{IfErr, MatchBool, filter, is_ok, not, ⊤}
use Rattle.std.specs.List.{list_all}
use Rattle.std.proofs.lemmas.Bool.{and_parts}
use Rattle.std.proofs.lemmas.Option.{same_Some}
use Rattle.std.proofs.lemmas.Result.{IfErr-at_err, IfErr-weaker}
use Rattle.ebpf_btf.specs.TypeInfo.{TypeInfo}
use Rattle.ebpf_btf_ext.specs.declared.relocation.Relocation.{Relocation}
use Rattle.ebpf_base.specs.Faults.{if_ok}
use Rattle.ebpf_core.specs.Answers.{FirstFails, Tells, each, of_types, without_texts, is_record_memory}
use Rattle.ebpf_core.specs.LocalPaths.{local_path, LocalSideIs}
use Rattle.ebpf_core.specs.Outcomes.{found_at_candidate, matches, type_name_at, values_agree, outcome_of_matches, differing_names, local_loaded, match_value, outcome_among}
use Rattle.ebpf_core.specs.Laws.{AreInConflict, Unreadable, Differing, AmongIsRefused, Matching, LocalField, Values, Conflict, OutcomeIsRefused, LocalSide, Candidates, Among}
use Rattle.ebpf_core.specs.Searches.{candidates_for, is_local, outcome_of}
use Rattle.ebpf_core.specs.declared.error.RelocationError.{RelocationError}
use Rattle.ebpf_core.specs.declared.error.RelocationError.TheVariants.{ConflictingCandidates}
use Rattle.ebpf_core.specs.declared.field.LoadedField.{LoadedField}
use Rattle.ebpf_core.specs.declared.matches.FoundMatch.{FoundMatch}
use Rattle.ebpf_core.specs.declared.outcome.Outcome.{Outcome}
use Rattle.ebpf_core.specs.declared.paths.LocalPath.{LocalPath}
use Rattle.ebpf_core.specs.declared.matches.MatchValue.{MatchValue}
use Rattle.ebpf_core.proofs.LocalSides.{one_side, side_is}
use Rattle.ebpf_core.proofs.MatchSteps.{kept_with, match_more, no_candidates}
use Rattle.ebpf_core_candidates.proofs.Refusals.{matched, by_answer, by_test, ok_some}
use Rattle.ebpf_core.proofs.Refusals.{by_types}

-- answers that are gathered one after the other
module _ {A X S E : Type 0} (f : A → Result X E) (run : List A → Result S E) (with : A → X → S → S) (first : S) (none : run [] ≡ Ok first)
    (more : (x : A) (xs : List A) → run (x ∷ xs) ≡ if_ok (f x) (λ y. if_ok (run xs) (λ s. Ok (with x y s)))) where
  later_fails : (x : A) (xs : List A) (fault : E) → is_ok (f x) ≡ true → FirstFails f xs fault → FirstFails f (x ∷ xs) fault
  later_fails x xs fault fine h = record { n = suc h.n; x = h.x; at = h.at; fails = h.fails; before = before }
    where
      before : (k : ℕ) (y : A) → k < suc h.n → slice_get (x ∷ xs) k ≡ Some y → is_ok (f y) ≡ true
      before zero y below at = ap (λ z. is_ok (f z)) (sym (same_Some _ _ at)) ∙ fine
      before (suc k) y below at = h.before k y (omega arith) at

  abbrev Fails : List A → Result S E → Type 0
  Fails xs r = IfErr r (FirstFails f xs)

  pub first_fails : (xs : List A) → Fails xs (run xs)
  first_fails [] = subst (Fails []) (sym none) tt
  first_fails (x ∷ xs) =
      subst (Fails (x ∷ xs)) (sym (more x xs))
      (by_answer (Fails (x ∷ xs)) (f x) _ (λ e is. record { n = 0; x = x; at = refl; fails = is; before = λ k y below at. absurd (omega arith) })
      (λ y is. by_answer (Fails (x ∷ xs)) (run xs) _ (λ e rest. later_fails x xs e (ap is_ok is) (IfErr-at_err (FirstFails f xs) rest (first_fails xs))) (λ s rest. tt)))

  fails_at : (xs : List A) (n : ℕ) (x : A) (fault : E) → slice_get xs n ≡ Some x → f x ≡ Err fault
      → ((k : ℕ) (y : A) → k < n → slice_get xs k ≡ Some y → is_ok (f y) ≡ true) → run xs ≡ Err fault
  fails_at [] n x fault at is before = cc
  fails_at (y ∷ ys) zero x fault at is before = rw (more y ys, same_Some _ _ at, is) refl
  fails_at (y ∷ ys) (suc n) x fault at is before =
      let (z, here) = ok_some (f y) (before 0 y (omega arith) refl) in
      rw (more y ys, here, fails_at ys n x fault at is (λ k z below there. before (suc k) z (omega arith) there)) refl

  pub fails_first : (xs : List A) (fault : E) → FirstFails f xs fault → run xs ≡ Err fault
  fails_first xs fault h = fails_at xs h.n h.x fault h.at h.fails h.before

module _ {A X E : Type 0} (f : A → Result X E) (xs : List A) where
  pub each_fails : IfErr (each f xs) (FirstFails f xs)
  each_fails = first_fails f (each f) (λ x y ys. y ∷ ys) [] refl (λ x xs. refl) xs

  pub fails_each : (fault : E) → FirstFails f xs fault → each f xs ≡ Err fault
  fails_each fault h = fails_first f (each f) (λ x y ys. y ∷ ys) [] refl (λ x xs. refl) xs fault h

-- ---- where all pass none is left, and else some are

module _ {A X E : Type 0} (f : A → Result X E) where
  none_asked : (xs : List A) → each f xs ≡ Ok [] → xs ≡ []
  none_asked [] h = refl
  none_asked (x ∷ xs) h = by_answers (f x) (each f xs) h
    where
      by_answers : (a : Result X E) (r : Result (List X) E) → if_ok a (λ y. if_ok r (λ ys. Ok (y ∷ ys))) ≡ Ok [] → x ∷ xs ≡ []
      by_answers (Err e) r h = cc
      by_answers (Ok y) (Err e) h = cc
      by_answers (Ok y) (Ok ys) h = cc

module _ {A : Type 0} (p : A → Bool) where
  none_left : (xs : List A) → list_all p xs ≡ true → filter (λ v. not (p v)) xs ≡ []
  none_left [] all = refl
  none_left (x ∷ xs) all = rw (and_parts (p x) (list_all p xs) all).0 (none_left xs (and_parts (p x) (list_all p xs) all).1)

  some_left : (xs : List A) → list_all p xs ≡ false → filter (λ v. not (p v)) xs ≡ [] → ⊥
  some_left [] some none = cc
  some_left (x ∷ xs) some none = by_test (p x) (some_left xs) some none
    where
      by_test : (b : Bool) → (list_all p xs ≡ false → filter (λ v. not (p v)) xs ≡ [] → ⊥) → (b && list_all p xs) ≡ false
          → cond (not b) (x ∷ filter (λ v. not (p v)) xs) (filter (λ v. not (p v)) xs) ≡ [] → ⊥
      by_test true rest some none = rest some none
      by_test false rest some none = cc

-- ---- matches in conflict

module _ (target : TypeInfo) (name : List ℕ) (loaded : Option LoadedField) where
  abbrev named : MatchValue → Result (List ℕ) RelocationError
  named v = of_types (type_name_at target v.candidate)

  abbrev InConflict : List MatchValue → Result Outcome RelocationError → Type 0
  InConflict values r = IfErr r (AreInConflict target name values)

  conflict : (kind : _) (values : List MatchValue) → InConflict values (outcome_of_matches target name kind loaded values)
  unfolding outcome_of_matches
  conflict kind [] = tt
  conflict kind (first ∷ others) = by_test (list_all (values_agree first) others) refl
    where
      by_names : list_all (values_agree first) others ≡ false → (names : List (List ℕ)) → differing_names target first others ≡ Ok names → InConflict (first ∷ others) (Err (ConflictingCandidates name names))
      by_names some [] is = absurd (some_left (values_agree first) others some (none_asked named (filter (λ v. not (values_agree first v)) others) is))
      by_names some (other ∷ more) is = Differing first others other more is

      by_test : (b : Bool) → list_all (values_agree first) others ≡ b
          → InConflict (first ∷ others) (cond b (Ok (record { value = first.number; local = loaded; target = first.loaded })) (if_ok (differing_names target first others) (λ names. Err (ConflictingCandidates name names))))
      by_test true all = tt
      by_test false some =
          by_answer (InConflict (first ∷ others)) (differing_names target first others) (λ names. Err (ConflictingCandidates name names))
          (λ e is. Unreadable first others e (IfErr-at_err _ is (each_fails named (filter (λ v. not (values_agree first v)) others))))
          (λ names is. by_names some names is)

  not_all : (first : MatchValue) (others : List MatchValue) → ((differing_names target first others ≡ Ok []) → ⊥) → list_all (values_agree first) others ≡ false
  not_all first others some = by_test (list_all (values_agree first) others) refl
    where
      by_test : (b : Bool) → list_all (values_agree first) others ≡ b → list_all (values_agree first) others ≡ false
      by_test true all = absurd (some (ap (each named) (none_left (values_agree first) others all)))
      by_test false is = is

  conflict_refuses : (kind : _) {values : List MatchValue} {fault : RelocationError} → AreInConflict target name values fault → outcome_of_matches target name kind loaded values ≡ Err fault
  unfolding outcome_of_matches
  conflict_refuses kind (Unreadable first others fault h) =
      let is : differing_names target first others ≡ Err fault = fails_each named (filter (λ v. not (values_agree first v)) others) fault h in
      rw (not_all first others (λ none. cc), is) refl
  conflict_refuses kind (Differing first others other more is) = rw (not_all first others (λ none. cc), is) refl

-- ---- over candidates

module _ (local target : TypeInfo) (r : Relocation) (path : LocalPath) (ids : List ℕ) where
  abbrev finds : ℕ → Result (Option FoundMatch) RelocationError
  finds = found_at_candidate local target r.type_id path.path

  matching : IfErr (matches local target r.type_id path.path ids) (FirstFails finds ids)
  matching = first_fails finds (matches local target r.type_id path.path) kept_with [] (no_candidates local target r.type_id path.path) (match_more local target r.type_id path.path) ids

  matching_refuses : (fault : RelocationError) → FirstFails finds ids fault → matches local target r.type_id path.path ids ≡ Err fault
  matching_refuses fault h = fails_first finds (matches local target r.type_id path.path) kept_with [] (no_candidates local target r.type_id path.path) (match_more local target r.type_id path.path) ids fault h

  abbrev Refused : Result Outcome RelocationError → Type 0
  Refused x = IfErr x (AmongIsRefused local target r path ids)

  among_is : Refused (outcome_among local target r path ids)
  unfolding outcome_among
  among_is =
      by_answer Refused (matches local target r.type_id path.path ids) _ (λ e is. Matching e (IfErr-at_err (FirstFails finds ids) is matching))
      (λ found are. by_answer Refused (local_loaded local r path.path) _ (λ e is. LocalField found e are is)
      (λ loaded is. by_answer Refused (each (match_value target r.kind) found) _ (λ e given. Values found loaded e are is (IfErr-at_err _ given (each_fails (match_value target r.kind) found)))
      (λ values given. IfErr-weaker (outcome_of_matches target path.type_name r.kind loaded values) (AreInConflict target path.type_name values) (AmongIsRefused local target r path ids)
      (λ e h. Conflict found loaded values e are is given h) (conflict target path.type_name loaded r.kind values))))

  pub among_first : (fault : RelocationError) → outcome_among local target r path ids ≡ Err fault → AmongIsRefused local target r path ids fault
  among_first fault e = IfErr-at_err (AmongIsRefused local target r path ids) e among_is

  pub among_refuses : (fault : RelocationError) → AmongIsRefused local target r path ids fault → outcome_among local target r path ids ≡ Err fault
  unfolding outcome_among
  among_refuses _ (Matching fault h) = rw (matching_refuses fault h) refl
  among_refuses _ (LocalField found fault is given) = rw (is, given) refl
  among_refuses _ (Values found loaded fault is given h) = rw (is, given, fails_each (match_value target r.kind) found fault h) refl
  among_refuses _ (Conflict found loaded values fault is given all h) = rw (is, given, all) (conflict_refuses target path.type_name loaded r.kind h)

-- ---- from the local side on

module _ (local target : TypeInfo) (r : Relocation) where
  abbrev IsRefused : Result Outcome RelocationError → Type 0
  IsRefused x = IfErr x (OutcomeIsRefused local target r)

  -- the answer of a local side is the one that it is
  side_of : (x : Result LocalPath RelocationError) → local_path local r ≡ x → LocalSideIs local r x
  side_of x is = subst (LocalSideIs local r) is (side_is local r)

  outcome_is : IsRefused (outcome_of local target r)
  unfolding outcome_of
  outcome_is =
      by_answer IsRefused (local_path local r) _ (λ e is. LocalSide e (side_of (Err e) is))
      (λ path is. by_test IsRefused (is_local r.kind) _ _ (λ here. tt)
      (λ other. by_types IsRefused (candidates_for local target r.type_id) _ (λ e given. Candidates path e (side_of (Ok path) is) other given)
      (λ ids given. IfErr-weaker (outcome_among local target r path ids) (AmongIsRefused local target r path ids) (OutcomeIsRefused local target r)
      (λ e h. Among path ids e (side_of (Ok path) is) other given h) (among_is local target r path ids))))

  pub outcome_first : (fault : RelocationError) → outcome_of local target r ≡ Err fault → OutcomeIsRefused local target r fault
  outcome_first fault e = IfErr-at_err (OutcomeIsRefused local target r) e outcome_is

  pub outcome_refuses : (fault : RelocationError) → OutcomeIsRefused local target r fault → outcome_of local target r ≡ Err fault
  unfolding outcome_of
  outcome_refuses _ (LocalSide fault side) = rw (one_side local r side) refl
  outcome_refuses _ (Candidates path e side other given) = rw (one_side local r side, other, given) refl
  outcome_refuses _ (Among path ids fault side other given h) = rw (one_side local r side, other, given) (among_refuses local target r path ids fault h)

-- what a stated fault is, the one without texts is too
module _ {Y : Type 0} (P : RelocationError → Type 0) (stated : Result Y RelocationError) (to : (fault : RelocationError) → stated ≡ Err fault → P fault) where
  pub refused_so : (r : Result Y RelocationError) → Tells r stated → IfErr r (λ e. MatchBool (is_record_memory e) ⊤ (P (without_texts e)))
  refused_so (Ok x) h = tt
  refused_so (Err e) h = matched (is_record_memory e) (stated ≡ Err (without_texts e)) (P (without_texts e)) (to (without_texts e)) h
