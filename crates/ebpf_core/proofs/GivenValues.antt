-- What a candidate gives for a path, as a relation and as an answer, and what all candidates give.
use Rattle.std.proofs.Common.{◌≡◌, ℕ, Bool, true, false, List, [], ◌∷◌, Option, Some, None, Result, Ok, Err, refl, sym, ap, ◌∙◌}
use Rattle.std.specs.Prelude.{IfOk, option_map, unwrap_or, if◌then◌else◌}
use Rattle.std.proofs.lemmas.Result.{IfOk-at_ok}
use Rattle.ebpf_base.specs.Faults.{if_ok}
use Rattle.ebpf_btf.specs.Steps.{resolved_type}
use Rattle.ebpf_btf.specs.TypeInfo.{TypeInfo}
use Rattle.ebpf_btf.specs.Variants.{variants_of}
use Rattle.ebpf_btf.specs.declared.error.BtfError.{BtfError as TypeError}
use Rattle.ebpf_btf.specs.declared.types.BtfType.{BtfType}
use Rattle.ebpf_btf_ext.specs.declared.relocation.Relocation.{Relocation}
use Rattle.ebpf_core_candidates.proofs.Refusals.{ok_parts, same_ok}
use Rattle.ebpf_core_candidates.specs.Compatibility.{types_compatible}
use Rattle.ebpf_core_candidates.specs.TypeMatches.{types_match}
use Rattle.ebpf_core.proofs.Collected.{collect, first_is, kept, split}
use Rattle.ebpf_core.proofs.MatchSteps as variants
use Rattle.ebpf_core.proofs.MatchSteps.{kept_with, match_more, no_candidates}
use Rattle.ebpf_core.proofs.PlacePaths.{one_place, path_leads}
use Rattle.ebpf_core.specs.Answers.{each, of_types}
use Rattle.ebpf_core.specs.Fields.{field_value}
use Rattle.ebpf_core.specs.Outcomes.{FirstVariantIs, by_place, first_variant, found_at_candidate, match_of, match_value, matches, type_name_at, type_value}
use Rattle.ebpf_core.specs.Places.{PathLeads, place_of}
use Rattle.ebpf_core.specs.SamePathValue.{DoesNotMatch, HasEnumerator, HasField, HasFieldAlone, HasPath, IsCompatible, IsIncompatible, LacksEnumerator, LacksField, LacksPath, Matches}
use Rattle.ebpf_core.specs.declared.error.RelocationError.{RelocationError}
use Rattle.ebpf_core.specs.declared.error.RelocationError.TheVariants.{MaximumNestingLevelReached}
use Rattle.ebpf_core.specs.declared.field.FieldFault.{FieldFault}
use Rattle.ebpf_core.specs.declared.field.FieldValue.{FieldValue}
use Rattle.ebpf_core.specs.declared.matches.FoundMatch.{FoundMatch}
use Rattle.ebpf_core.specs.declared.matches.FoundMatch.TheVariants as found
use Rattle.ebpf_core.specs.declared.matches.Match.{Match}
use Rattle.ebpf_core.specs.declared.matches.MatchValue.{MatchValue}
use Rattle.ebpf_core.specs.declared.paths.NamedPath.{NamedPath}
use Rattle.ebpf_core.specs.declared.paths.NamedPath.TheVariants as paths
use Rattle.ebpf_core.specs.declared.places.FieldPlace.{FieldPlace}
use Rattle.ebpf_core.specs.declared.places.PlaceFault.{PlaceFault}
use Rattle.ebpf_core.specs.declared.places.PlaceFault.TheVariants.{Btf, NestingLevel}
use Rattle.ebpf_core.specs.declared.places.Step.{Step}

-- ---- what a candidate gives

module _ (local target : TypeInfo) (r : Relocation) where
  abbrev pub valued : ℕ → Option FoundMatch → Result (Option MatchValue) RelocationError
  valued id None = Ok None
  valued id (Some what) = if_ok (match_value target r.kind (match_of id what)) (λ v. Ok (Some v))

  -- the value of a path in a candidate, if any
  abbrev pub given : NamedPath → ℕ → Result (Option MatchValue) RelocationError
  given path id = if_ok (found_at_candidate local target r.type_id path id) (valued id)

  pub lacks_gives : {path : NamedPath} (id : ℕ) → LacksPath local target r.type_id id path → given path id ≡ Ok None
  unfolding found_at_candidate
  lacks_gives id (LacksField steps place leads) = rw (one_place local target leads) refl
  lacks_gives id (LacksEnumerator name t is first) = rw (is, sym (variants.one_first target name (unwrap_or (variants_of t) []) (Ok None) first)) refl
  lacks_gives id (IsIncompatible is) = rw is refl
  lacks_gives id (DoesNotMatch is) = rw is refl

  pub has_gives : {path : NamedPath} {value : MatchValue} (id : ℕ) → HasPath local target r.kind r.type_id id path value → given path id ≡ Ok (Some value)
  unfolding found_at_candidate match_value
  has_gives id (HasField steps place there value leads is) = rw (one_place local target leads, is) refl
  has_gives id (HasFieldAlone steps place there fault leads is) = rw (one_place local target leads, is) refl
  has_gives id (HasEnumerator name t value is first) = rw (is, sym (variants.one_first target name (unwrap_or (variants_of t) []) (Ok (Some value)) first)) refl
  has_gives id (IsCompatible number is counted) = rw (is, counted) refl
  has_gives id (Matches number is counted) = rw (is, counted) refl

  -- a candidate lacks the path, or has it with a value
  abbrev Gave : NamedPath → ℕ → Option MatchValue → Type 0
  Gave path id None = LacksPath local target r.type_id id path
  Gave path id (Some value) = HasPath local target r.kind r.type_id id path value

  by_fits : (id : ℕ) (fits : Result Bool TypeError) → types_compatible local r.type_id target id ≡ fits → (number : Result ℕ TypeError) → type_value target r.kind id ≡ number
      → IfOk (if_ok (if_ok (of_types fits) (λ fits. Ok (if fits then Some found.WholeType else None))) (valued id)) (Gave paths.WholeType id)
  unfolding match_value
  by_fits id (Err e) is number counted = tt
  by_fits id (Ok false) is number counted = IsIncompatible is
  by_fits id (Ok true) is (Err e) counted = rw counted tt
  by_fits id (Ok true) is (Ok number) counted = rw counted (IsCompatible number is counted)

  by_match : (id : ℕ) (fits : Result Bool TypeError) → types_match local r.type_id target id ≡ fits → (number : Result ℕ TypeError) → type_value target r.kind id ≡ number
      → IfOk (if_ok (if_ok (of_types fits) (λ fits. Ok (if fits then Some found.WholeType else None))) (valued id)) (Gave paths.MatchedType id)
  unfolding match_value
  by_match id (Err e) is number counted = tt
  by_match id (Ok false) is number counted = DoesNotMatch is
  by_match id (Ok true) is (Err e) counted = rw counted tt
  by_match id (Ok true) is (Ok number) counted = rw counted (Matches number is counted)

  by_variant : (name : List ℕ) (id : ℕ) (t : BtfType) → resolved_type target.types id ≡ Ok t → (value : Result (Option ℕ) TypeError)
      → FirstVariantIs target name (unwrap_or (variants_of t) []) value
      → IfOk (if_ok (if_ok (of_types value) (λ v. Ok (option_map found.Variant v))) (valued id)) (Gave (paths.Variant name) id)
  unfolding match_value
  by_variant name id t is (Err e) first = tt
  by_variant name id t is (Ok None) first = LacksEnumerator name t is first
  by_variant name id t is (Ok (Some value)) first = HasEnumerator name t value is first

  by_enumeration : (name : List ℕ) (id : ℕ) (t : Result BtfType TypeError) → resolved_type target.types id ≡ t
      → IfOk (if_ok (if_ok (of_types (if_ok t (λ t. first_variant target name (unwrap_or (variants_of t) [])))) (λ v. Ok (option_map found.Variant v))) (valued id)) (Gave (paths.Variant name) id)
  by_enumeration name id (Err e) is = tt
  by_enumeration name id (Ok t) is = by_variant name id t is (first_variant target name (unwrap_or (variants_of t) [])) (variants.first_is target name (unwrap_or (variants_of t) []))

  by_value : (steps : List Step) (place : FieldPlace) (id : ℕ) (there : FieldPlace) → PathLeads local target id steps (Ok (Some there))
      → (value : Result FieldValue FieldFault) → field_value target r.kind there ≡ value
      → IfOk (valued id (Some (found.Field there))) (Gave (paths.Field steps place) id)
  unfolding match_value
  by_value steps place id there leads (Ok value) is = rw is (HasField steps place there value leads is)
  by_value steps place id there leads (Err fault) is = rw is (HasFieldAlone steps place there fault leads is)

  by_name : (id : ℕ) (name : Result (List ℕ) TypeError) (P : Option MatchValue → Type 0)
      → IfOk (if_ok (if_ok (of_types name) (λ text. Err (MaximumNestingLevelReached text))) (valued id)) P
  by_name id (Ok name) P = tt
  by_name id (Err e) P = tt

  by_leads : (steps : List Step) (place : FieldPlace) (id : ℕ) (to : Result (Option FieldPlace) PlaceFault) → PathLeads local target id steps to
      → IfOk (if_ok (by_place target id to) (valued id)) (Gave (paths.Field steps place) id)
  by_leads steps place id (Ok None) leads = LacksField steps place leads
  by_leads steps place id (Ok (Some there)) leads = by_value steps place id there leads (field_value target r.kind there) refl
  by_leads steps place id (Err NestingLevel) leads = by_name id (type_name_at target id) (Gave (paths.Field steps place) id)
  by_leads steps place id (Err (Btf e)) leads = tt

  gives_so : (path : NamedPath) (id : ℕ) → IfOk (given path id) (Gave path id)
  unfolding found_at_candidate
  gives_so paths.WholeType id = by_fits id (types_compatible local r.type_id target id) refl (type_value target r.kind id) refl
  gives_so paths.MatchedType id = by_match id (types_match local r.type_id target id) refl (type_value target r.kind id) refl
  gives_so (paths.Variant name) id = by_enumeration name id (resolved_type target.types id) refl
  gives_so (paths.Field steps place) id = by_leads steps place id (place_of local target id steps) (path_leads local target id steps)

  pub lacks_so : (path : NamedPath) (id : ℕ) → given path id ≡ Ok None → LacksPath local target r.type_id id path
  lacks_so path id is = IfOk-at_ok (Gave path id) is (gives_so path id)

  pub has_so : (path : NamedPath) (id : ℕ) (value : MatchValue) → given path id ≡ Ok (Some value) → HasPath local target r.kind r.type_id id path value
  has_so path id value is = IfOk-at_ok (Gave path id) is (gives_so path id)

  -- ---- what all candidates give

  module _ (path : NamedPath) where
    given_more : (m : Match) (ms : List Match) (values : List MatchValue) → each (match_value target r.kind) (m ∷ ms) ≡ Ok values
        → (v : MatchValue) × (vs : List MatchValue) × (match_value target r.kind m ≡ Ok v) × (each (match_value target r.kind) ms ≡ Ok vs) × (v ∷ vs ≡ values)
    given_more m ms values is =
        let (v, here, more) = ok_parts (match_value target r.kind m) _ values is in
        let (vs, later, same) = ok_parts (each (match_value target r.kind) ms) _ values more in
        (v, vs, here, later, same_ok (v ∷ vs) values same)

    collected_by : (id : ℕ) (ids : List ℕ) (what : Option FoundMatch) (rest ms : List Match) (values : List MatchValue)
        → found_at_candidate local target r.type_id path id ≡ Ok what → kept_with id what rest ≡ ms → each (match_value target r.kind) ms ≡ Ok values
        → ((vs : List MatchValue) → each (match_value target r.kind) rest ≡ Ok vs → collect (given path) ids ≡ Ok vs)
        → collect (given path) (id ∷ ids) ≡ Ok values
    collected_by id ids None rest ms values here same is later =
        rw (here, later values (ap (each (match_value target r.kind)) same ∙ is)) refl
    collected_by id ids (Some what) rest ms values here same is later =
        let (v, vs, first, others, all) = given_more (match_of id what) rest values (ap (each (match_value target r.kind)) same ∙ is) in
        rw (here, first, later vs others) (ap Ok all)

    pub collected : (ids : List ℕ) (ms : List Match) (values : List MatchValue) → matches local target r.type_id path ids ≡ Ok ms
        → each (match_value target r.kind) ms ≡ Ok values → collect (given path) ids ≡ Ok values
    collected [] ms values are is =
        let none : [] ≡ ms = same_ok [] ms (sym (no_candidates local target r.type_id path) ∙ are) in
        ap (each (match_value target r.kind)) none ∙ is
    collected (id ∷ ids) ms values are is =
        let (what, here, more) = ok_parts (found_at_candidate local target r.type_id path id) _ ms (sym (match_more local target r.type_id path id ids) ∙ are) in
        let (rest, later, same) = ok_parts (matches local target r.type_id path ids) _ ms more in
        collected_by id ids what rest ms values here (same_ok (kept_with id what rest) ms same) is (λ vs given_vs. collected ids rest vs later given_vs)

    -- and the other way round
    abbrev pub AreMatched : List ℕ → List MatchValue → Type 0
    AreMatched ids values = (ms : List Match) × (matches local target r.type_id path ids ≡ Ok ms) × (each (match_value target r.kind) ms ≡ Ok values)

    matched_by : (id : ℕ) (ids : List ℕ) (what : Option FoundMatch) (a : Option MatchValue) (vs values : List MatchValue)
        → found_at_candidate local target r.type_id path id ≡ Ok what → valued id what ≡ Ok a → kept a vs ≡ values → AreMatched ids vs → AreMatched (id ∷ ids) values
    matched_by id ids None a vs values here is same (ms, are, given_vs) =
        let none : None ≡ a = same_ok None a is in
        let front : vs ≡ values = ap (λ (o : Option MatchValue). kept o vs) none ∙ same in
        (ms, match_more local target r.type_id path id ids ∙ rw (here, are) refl, given_vs ∙ ap Ok front)
    matched_by id ids (Some what) a vs values here is same (ms, are, given_vs) =
        let (v, first, some) = ok_parts (match_value target r.kind (match_of id what)) (λ v. Ok (Some v)) a is in
        let front : v ∷ vs ≡ values = ap (λ (o : Option MatchValue). kept o vs) (same_ok (Some v) a some) ∙ same in
        (match_of id what ∷ ms, match_more local target r.type_id path id ids ∙ rw (here, are) refl, rw (first, given_vs) (ap Ok front))

    pub matched : (ids : List ℕ) (values : List MatchValue) → collect (given path) ids ≡ Ok values → AreMatched ids values
    matched [] values is = ([], no_candidates local target r.type_id path, is)
    matched (id ∷ ids) values is =
        let (a, vs, here, later, same) = split (given path) (λ _. true) (given path id) (collect (given path) ids) values is in
        let (what, there, valued_so) = ok_parts (found_at_candidate local target r.type_id path id) (valued id) a here in
        matched_by id ids what a vs values there valued_so same (matched ids vs later)
