-- The candidates that match, one after the other, and the variants of each.
use Rattle.std.proofs.Common.{◌≡◌, ℕ, ◌+◌, ◌<◌, ◌≤◌, List, [], ◌∷◌, ◌++◌, length, drop, Option, Some, None, Result, Ok, Err, refl, sym, ap, ◌∙◌, append-nil, get_or, zero, suc, Bool, true, false, subst, arith, slice_get, inl, inr}
use Rattle.std.specs.Prelude.{option_map, unwrap_or}
use Rattle.std.specs.List.{filter_map}
use Rattle.std.specs.Result.{IsErrAnd}
use Rattle.std.proofs.lemmas.Option.{same_Some, slice_get_cases}
use Rattle.std.specs.Option.{option_and_then}
use Rattle.std.proofs.lemmas.List.{drop_all, drop_more}
use Rattle.ebpf_btf.specs.TypeInfo.{TypeInfo}
use Rattle.ebpf_base.specs.Faults.{if_ok, first_some, or_else}
use Rattle.ebpf_base.proofs.Lists.{rest_none}
use Rattle.ebpf_btf.specs.Strings.{is_essential_name_at}
use Rattle.ebpf_btf.specs.declared.error.BtfError.{BtfError}
use Rattle.ebpf_btf.specs.declared.variants.BtfVariant.{BtfVariant}
use Rattle.ebpf_btf.proofs.InOrder.{drop_some}
use Rattle.ebpf_core.specs.declared.error.RelocationError.{RelocationError}
use Rattle.ebpf_core.specs.declared.matches.FoundMatch.{FoundMatch}
use Rattle.ebpf_core.specs.declared.matches.Match.{Match}
use Rattle.ebpf_core.specs.declared.paths.NamedPath.{NamedPath}
use Rattle.ebpf_core.specs.Answers.{Tells, each, without_texts}
use Rattle.ebpf_core.specs.Outcomes.{found_at_candidate, match_in, match_of, matches, AreOthers, FirstVariantIs, HasName, Unread, Absent, first_variant, variant_answer, named_variant_answer}
use Rattle.ebpf_core.proofs.LocalSides.{onto, onto_push}
use Rattle.ebpf_core.proofs.Refusals.{refused_by}

-- ---- candidates

-- what is kept of a candidate, before those of others
abbrev pub kept_with : ℕ → Option FoundMatch → List Match → List Match
kept_with id None ms = ms
kept_with id (Some what) ms = match_of id what ∷ ms

module _ (local target : TypeInfo) (local_id : ℕ) (path : NamedPath) where
  kept_one : (id : ℕ) (a : Result (Option FoundMatch) RelocationError) (r : Result (List (Option Match)) RelocationError)
      → if_ok (if_ok (if_ok a (λ what. Ok (option_map (match_of id) what))) (λ y. if_ok r (λ ys. Ok (y ∷ ys)))) (λ all. Ok (filter_map (λ m. m) all))
      ≡ if_ok a (λ what. if_ok (if_ok r (λ all. Ok (filter_map (λ m. m) all))) (λ ms. Ok (kept_with id what ms)))
  kept_one id (Err e) r = refl
  kept_one id (Ok None) (Ok ys) = refl
  kept_one id (Ok (Some what)) (Ok ys) = refl
  kept_one id (Ok what) (Err e) = refl

  pub match_more : (id : ℕ) (ids : List ℕ) → matches local target local_id path (id ∷ ids)
      ≡ if_ok (found_at_candidate local target local_id path id) (λ what. if_ok (matches local target local_id path ids) (λ ms. Ok (kept_with id what ms)))
  unfolding matches
  match_more id ids = kept_one id (found_at_candidate local target local_id path id) (each (match_in local target local_id path) ids)

  pub no_candidates : matches local target local_id path [] ≡ Ok []
  unfolding matches
  no_candidates = refl

  onto_same : (kept : List Match) (r : Result (List Match) RelocationError) → onto kept (if_ok r (λ ms. Ok ms)) ≡ onto kept r
  onto_same kept (Ok ms) = refl
  onto_same kept (Err e) = refl

  module _ (kept : List Match) (ids : List ℕ) (i : ℕ) (below : i < length ids) where
    pub match_passed : (what : Option FoundMatch) → found_at_candidate local target local_id path (get_or ids i 0) ≡ Ok what → what ≡ None
        → onto kept (matches local target local_id path (drop i ids)) ≡ onto kept (matches local target local_id path (drop (i + 1) ids))
    match_passed what is none =
        rw (drop_more ids i 0 below, match_more (get_or ids i 0) (drop (i + 1) ids), is, none) (onto_same kept (matches local target local_id path (drop (i + 1) ids)))

    pub match_kept : (what : Option FoundMatch) (there : FoundMatch) → found_at_candidate local target local_id path (get_or ids i 0) ≡ Ok what → what ≡ Some there
        → onto kept (matches local target local_id path (drop i ids)) ≡ onto (kept ++ match_of (get_or ids i 0) there ∷ []) (matches local target local_id path (drop (i + 1) ids))
    match_kept what there is some =
        rw (drop_more ids i 0 below, match_more (get_or ids i 0) (drop (i + 1) ids), is, some)
        (onto_push kept (match_of (get_or ids i 0) there) (matches local target local_id path (drop (i + 1) ids)))

    match_fault : (e : RelocationError) → found_at_candidate local target local_id path (get_or ids i 0) ≡ Err e
        → onto kept (matches local target local_id path (drop i ids)) ≡ Err e
    match_fault e is = rw (drop_more ids i 0 below, match_more (get_or ids i 0) (drop (i + 1) ids), is) refl

    pub match_refused : (all r : Result (List Match) RelocationError) (e : RelocationError) → IsErrAnd r (λ f. f ≡ e)
        → Tells {X = Option FoundMatch} (Err e) (found_at_candidate local target local_id path (get_or ids i 0))
        → onto kept (matches local target local_id path (drop i ids)) ≡ all → Tells r all
    match_refused all r e is given so_far =
        refused_by e (found_at_candidate local target local_id path (get_or ids i 0)) r all is (λ fault. sym so_far ∙ match_fault (without_texts e) fault) given

  pub matches_end : (kept : List Match) (ids : List ℕ) (i : ℕ) → length ids ≤ i
      → onto kept (matches local target local_id path (drop i ids)) ≡ Ok kept
  matches_end kept ids i past = rw (rest_none ids i past, no_candidates) (ap Ok (append-nil kept))

-- ---- the variants that are left

abbrev pub listed : Option (List BtfVariant) → List BtfVariant
listed variants = unwrap_or variants []

none_from : (vs : List BtfVariant) (i : ℕ) → slice_get vs i ≡ None → drop i vs ≡ []
none_from vs i none =
    elim ((slice_get_cases vs i).1) [ inl there ↦ absurd (contradiction there) | inr past ↦ drop_all i vs past.0 ]
  where
    contradiction : ((x : BtfVariant) × (i < length vs) × (slice_get vs i ≡ Some x) × (get_or vs i x ≡ x)) → ⊥
    contradiction there = let found : slice_get vs i ≡ Some there.0 = there.2 in cc

some_left : (o : Option (List BtfVariant)) (i : ℕ) (v : BtfVariant) → option_and_then (λ vs. slice_get vs i) o ≡ Some v
    → drop i (listed o) ≡ v ∷ drop (i + 1) (listed o)
some_left None i v is = cc
some_left (Some vs) i v is = drop_some vs v i is

none_left : (o : Option (List BtfVariant)) (i : ℕ) → option_and_then (λ vs. slice_get vs i) o ≡ None → drop i (listed o) ≡ []
none_left None i is = drop_all i [] (omega arith)
none_left (Some vs) i is = none_from vs i is

all_passed : (o : Option (List BtfVariant)) (i : ℕ) → unwrap_or (option_map length o) 0 ≤ i → drop i (listed o) ≡ []
all_passed None i past = drop_all i [] (omega arith)
all_passed (Some vs) i past = drop_all i vs past

-- ---- the first of a name

module _ (info : TypeInfo) (name : List ℕ) where
  -- what the first variant answers, or those behind it
  abbrev led_by : Result Bool BtfError → BtfVariant → List BtfVariant → Result (Option ℕ) BtfError
  led_by same v vs = unwrap_or (or_else (variant_answer v.value same) (first_some (named_variant_answer info name) vs)) (Ok None)

  first_by : (v : BtfVariant) (vs : List BtfVariant) (same : Result Bool BtfError) → is_essential_name_at info.strings v.name_offset name ≡ same
      → first_variant info name (v ∷ vs) ≡ led_by same v vs
  unfolding first_variant
  first_by v vs same is = ap (λ (r : Result Bool BtfError). led_by r v vs) is

  pub first_on : (v : BtfVariant) (vs : List BtfVariant) → is_essential_name_at info.strings v.name_offset name ≡ Ok false
      → first_variant info name (v ∷ vs) ≡ first_variant info name vs
  unfolding first_variant
  first_on v vs is = ap (λ (r : Result Bool BtfError). led_by r v vs) is

  pub first_here : (v : BtfVariant) (vs : List BtfVariant) → is_essential_name_at info.strings v.name_offset name ≡ Ok true
      → first_variant info name (v ∷ vs) ≡ Ok (Some v.value)
  first_here v vs is = first_by v vs (Ok true) is

  pub first_fault : (v : BtfVariant) (vs : List BtfVariant) (e : BtfError) → is_essential_name_at info.strings v.name_offset name ≡ Err e
      → first_variant info name (v ∷ vs) ≡ Err e
  first_fault v vs e is = first_by v vs (Err e) is

  pub first_none : first_variant info name [] ≡ Ok None
  unfolding first_variant
  first_none = refl

  module _ (o : Option (List BtfVariant)) (i : ℕ) where
    module _ (v : BtfVariant) (here : option_and_then (λ vs. slice_get vs i) o ≡ Some v) where
      pub variant_passed : is_essential_name_at info.strings v.name_offset name ≡ Ok false
          → first_variant info name (drop i (listed o)) ≡ first_variant info name (drop (i + 1) (listed o))
      variant_passed is = ap (first_variant info name) (some_left o i v here) ∙ first_on v (drop (i + 1) (listed o)) is

      pub variant_has_name : is_essential_name_at info.strings v.name_offset name ≡ Ok true
          → first_variant info name (drop i (listed o)) ≡ Ok (Some v.value)
      variant_has_name is = ap (first_variant info name) (some_left o i v here) ∙ first_here v (drop (i + 1) (listed o)) is

      pub variant_fault : (e : BtfError) → is_essential_name_at info.strings v.name_offset name ≡ Err e
          → first_variant info name (drop i (listed o)) ≡ Err e
      variant_fault e is = ap (first_variant info name) (some_left o i v here) ∙ first_fault v (drop (i + 1) (listed o)) e is

    pub variant_missing : option_and_then (λ vs. slice_get vs i) o ≡ None → first_variant info name (drop i (listed o)) ≡ Ok None
    variant_missing is = ap (first_variant info name) (none_left o i is) ∙ first_none

    pub variants_over : unwrap_or (option_map length o) 0 ≤ i → first_variant info name (drop i (listed o)) ≡ Ok None
    variants_over past = ap (first_variant info name) (all_passed o i past) ∙ first_none

module _ (info : TypeInfo) (name : List ℕ) where
  abbrev same_at : BtfVariant → Result Bool BtfError
  same_at v = is_essential_name_at info.strings v.name_offset name

  none_before : (vs : List BtfVariant) → AreOthers info name vs 0
  none_before vs k v below at = absurd (omega arith)

  -- one more before them
  one_before : (v : BtfVariant) (vs : List BtfVariant) (n : ℕ) → same_at v ≡ Ok false → AreOthers info name vs n → AreOthers info name (v ∷ vs) (suc n)
  one_before v vs n is others zero w below at = ap same_at (sym (same_Some _ _ at)) ∙ is
  one_before v vs n is others (suc k) w below at = others k w (omega arith) at

  one_less : (v : BtfVariant) (vs : List BtfVariant) (n : ℕ) → AreOthers info name (v ∷ vs) (suc n) → AreOthers info name vs n
  one_less v vs n others k w below at = others (suc k) w (omega arith) at

  -- ---- from the equation

  passed : (v : BtfVariant) (vs : List BtfVariant) (a : Result (Option ℕ) BtfError) → same_at v ≡ Ok false → FirstVariantIs info name vs a
      → FirstVariantIs info name (v ∷ vs) a
  passed v vs _ is (HasName n w at named_here others) = HasName (suc n) w at named_here (one_before v vs n is others)
  passed v vs _ is (Unread n w e at fault others) = Unread (suc n) w e at fault (one_before v vs n is others)
  passed v vs _ is (Absent others) = Absent (one_before v vs (length vs) is others)

  is_by : (v : BtfVariant) (vs : List BtfVariant) (same : Result Bool BtfError) → same_at v ≡ same → FirstVariantIs info name vs (first_variant info name vs)
      → FirstVariantIs info name (v ∷ vs) (first_variant info name (v ∷ vs))
  is_by v vs (Ok true) is rest = subst (FirstVariantIs info name (v ∷ vs)) (sym (first_here info name v vs is)) (HasName 0 v refl is (none_before (v ∷ vs)))
  is_by v vs (Ok false) is rest = subst (FirstVariantIs info name (v ∷ vs)) (sym (first_on info name v vs is)) (passed v vs _ is rest)
  is_by v vs (Err e) is rest = subst (FirstVariantIs info name (v ∷ vs)) (sym (first_fault info name v vs e is)) (Unread 0 v e refl is (none_before (v ∷ vs)))

  pub first_is : (vs : List BtfVariant) → FirstVariantIs info name vs (first_variant info name vs)
  first_is [] = subst (FirstVariantIs info name []) (sym (first_none info name)) (Absent (none_before []))
  first_is (v ∷ vs) = is_by v vs (same_at v) refl (first_is vs)

  -- ---- to the equation

  others_passed : (vs : List BtfVariant) (n : ℕ) → AreOthers info name vs n → first_variant info name vs ≡ first_variant info name (drop n vs)
  others_passed vs zero others = refl
  others_passed [] (suc n) others = refl
  others_passed (w ∷ vs) (suc n) others = first_on info name w vs (others 0 w (omega arith) refl) ∙ others_passed vs n (one_less w vs n others)

  pub one_first : (vs : List BtfVariant) (a : Result (Option ℕ) BtfError) → FirstVariantIs info name vs a → a ≡ first_variant info name vs
  one_first vs _ (HasName n v at is others) = sym (others_passed vs n others ∙ ap (first_variant info name) (drop_some vs v n at) ∙ first_here info name v (drop (n + 1) vs) is)
  one_first vs _ (Unread n v e at is others) = sym (others_passed vs n others ∙ ap (first_variant info name) (drop_some vs v n at) ∙ first_fault info name v (drop (n + 1) vs) e is)
  one_first vs _ (Absent others) = sym (others_passed vs (length vs) others ∙ ap (first_variant info name) (drop_all (length vs) vs (omega arith)) ∙ first_none info name)
