-- An outcome is the value of the same path in the target, and no other is.
use Rattle.std.proofs.Common.{◌≡◌, ◌≢◌, inl, inr, ◌<◌, ◌&&◌, ◌||◌, ℕ, Bool, true, false, cond, List, [], ◌∷◌, Option, Some, None, Result, Ok, Err, refl, sym, ap, ◌∙◌, subst, arith, slice_get}
use Rattle.std.specs.Prelude.{IfOk, is_ok, nat_eq, ◌==◌}
use Rattle.std.specs.List.{AllByRecursion, list_all}
use Rattle.std.specs.Option.{option_eq}
use Rattle.std.proofs.lemmas.Bool.{and_parts, eq-eqb, eqb-true}
use Rattle.std.proofs.lemmas.Result.{IfOk-at_ok}
use Rattle.std.proofs.lemmas.Slice.Eq.{bytes_eq-Decides}
use Rattle.ebpf_base.specs.Faults.{if_ok}
use Rattle.ebpf_btf.specs.EssentialNames.{essential_name}
use Rattle.ebpf_btf.specs.Steps.{type_at}
use Rattle.ebpf_btf.specs.Strings.{type_name}
use Rattle.ebpf_btf.specs.TypeInfo.{TypeInfo}
use Rattle.ebpf_btf.specs.Types.{is_kind, kind_of}
use Rattle.ebpf_btf.specs.declared.error.BtfError.{BtfError as TypeError}
use Rattle.ebpf_btf.specs.declared.kind.BtfKind.{BtfKind}
use Rattle.ebpf_btf.specs.declared.kind.BtfKind.TheVariants as kinds
use Rattle.ebpf_btf.specs.declared.types.BtfType.{BtfType}
use Rattle.ebpf_btf_ext.specs.declared.relocation.Relocation.{Relocation}
use Rattle.ebpf_btf_ext.specs.declared.relocation.RelocationKind.{RelocationKind}
use Rattle.ebpf_btf_ext.specs.declared.relocation.RelocationKind.TheVariants as relocations
use Rattle.ebpf_core_candidates.proofs.Refusals.{ok_parts, ok_some, same_ok}
use Rattle.ebpf_core_candidates.specs.Candidates.{candidates, candidates_fault, candidates_of_both, candidates_of_both_fault, ids_from, is_same_essentially}
use Rattle.ebpf_core.proofs.Collected.{First, NoneOr, Passing, collect, first_are, first_is, none_are, none_is}
use Rattle.ebpf_core.proofs.GivenValues.{collected, given, has_gives, has_so, lacks_gives, lacks_so, matched}
use Rattle.ebpf_core.proofs.LocalSides.{one_side, side_is}
use Rattle.ebpf_core.specs.Answers.{each, of_types}
use Rattle.ebpf_core.specs.Fields.{field_value}
use Rattle.ebpf_core.specs.LocalPaths.{LocalSideIs, local_path}
use Rattle.ebpf_core.specs.Outcomes.{differing_names, loaded_by, local_loaded, match_value, matches, outcome_among, outcome_of_matches, values_agree, without_match}
use Rattle.ebpf_core.specs.SamePathValue.{AgreesWith, ByLack, ByValue, HasPath, InCandidate, InNoCandidate, IsCandidate, IsSameValue, IsSought, LacksPath, LoadsLocally, OfEnumerator, OfLocalField, OfLocalType, OfMatchedType, OutcomesAreOfSamePaths, OwnId, SamePathValue, SamePathValueIsOne, SamePathsAreOutcomes, is_of_kind_of}
use Rattle.ebpf_core.specs.Searches.{candidates_for, candidates_named, ids_unless_fault, is_local, itself, outcome_of, was_enum64}
use Rattle.ebpf_core.specs.declared.error.RelocationError.{RelocationError}
use Rattle.ebpf_core.specs.declared.error.RelocationError.TheVariants.{ConflictingCandidates}
use Rattle.ebpf_core.specs.declared.field.FieldFault.{FieldFault}
use Rattle.ebpf_core.specs.declared.field.FieldFault.TheVariants as faults
use Rattle.ebpf_core.specs.declared.field.FieldValue.{FieldValue}
use Rattle.ebpf_core.specs.declared.field.LoadedField.{LoadedField}
use Rattle.ebpf_core.specs.declared.matches.MatchValue.{MatchValue}
use Rattle.ebpf_core.specs.declared.outcome.Outcome.{Outcome}
use Rattle.ebpf_core.specs.declared.paths.LocalPath.{LocalPath}
use Rattle.ebpf_core.specs.declared.paths.NamedPath.{NamedPath}
use Rattle.ebpf_core.specs.declared.paths.NamedPath.TheVariants as paths
use Rattle.ebpf_core.specs.declared.places.FieldPlace.{FieldPlace}
use Rattle.ebpf_core.specs.declared.places.Step.{Step}

-- ---- values that agree

same_number : (a b : Option ℕ) → option_eq nat_eq a b ≡ true → a ≡ b
same_number None None is = refl
same_number (Some m) (Some n) is = ap Some (eqb-true m n is)
same_number None (Some n) is = cc
same_number (Some m) None is = cc

number_itself : (a : Option ℕ) → option_eq nat_eq a a ≡ true
number_itself None = refl
number_itself (Some n) = eq-eqb n n refl

agree_so : (a b : MatchValue) → values_agree a b ≡ true → IsSameValue a b
agree_so a b is =
    let both = and_parts (a.bits == b.bits) (option_eq nat_eq a.number b.number) is in
    record { bits = eqb-true a.bits b.bits both.0; number = same_number a.number b.number both.1 }

same_agree : (a b : MatchValue) → IsSameValue a b → values_agree a b ≡ true
same_agree a b same =
    let bits = eq-eqb a.bits b.bits same.bits in
    let number : option_eq nat_eq a.number b.number ≡ true = subst (λ n. option_eq nat_eq a.number n ≡ true) same.number (number_itself a.number) in
    rw bits number

all_same : (v : MatchValue) (vs : List MatchValue) → list_all (values_agree v) vs ≡ true → AllByRecursion (IsSameValue v) vs
all_same v [] all = tt
all_same v (w ∷ ws) all = let both = and_parts (values_agree v w) (list_all (values_agree v) ws) all in (agree_so v w both.0, all_same v ws both.1)

all_agree : (v : MatchValue) (vs : List MatchValue) → AllByRecursion (IsSameValue v) vs → list_all (values_agree v) vs ≡ true
all_agree v [] all = refl
all_agree v (w ∷ ws) all = rw (same_agree v w all.0) (all_agree v ws all.1)

-- ---- what is loaded of the local field

loads_is : {local : TypeInfo} (r : Relocation) {path : NamedPath} {loaded : Option LoadedField} → LoadsLocally local r.kind path loaded → local_loaded local r path ≡ Ok loaded
unfolding local_loaded
loads_is r (OfLocalField steps place value is) = rw is refl
loads_is r (OfEnumerator name) = refl
loads_is r OfLocalType = refl
loads_is r OfMatchedType = refl

module _ (local : TypeInfo) (r : Relocation) where
  by_local : (steps : List Step) (place : FieldPlace) (value : Result FieldValue FieldFault) → field_value local r.kind place ≡ value
      → IfOk (loaded_by r.number value) (LoadsLocally local r.kind (paths.Field steps place))
  by_local steps place (Ok value) is = OfLocalField steps place value is
  by_local steps place (Err faults.OfElement) is = tt
  by_local steps place (Err (faults.Types e)) is = tt

  loads_all : (path : NamedPath) → IfOk (local_loaded local r path) (LoadsLocally local r.kind path)
  unfolding local_loaded
  loads_all (paths.Field steps place) = by_local steps place (field_value local r.kind place) refl
  loads_all (paths.Variant name) = OfEnumerator name
  loads_all paths.WholeType = OfLocalType
  loads_all paths.MatchedType = OfMatchedType

  loads_so : (path : NamedPath) (loaded : Option LoadedField) → local_loaded local r path ≡ Ok loaded → LoadsLocally local r.kind path loaded
  loads_so path loaded is = IfOk-at_ok (LoadsLocally local r.kind path) is (loads_all path)

-- ---- the kind that asks for the local id

local_kind : (kind : RelocationKind) → is_local kind ≡ true → kind ≡ relocations.TypeIdLocal
local_kind relocations.TypeIdLocal is = refl
local_kind relocations.FieldByteOffset is = cc
local_kind relocations.FieldByteSize is = cc
local_kind relocations.FieldExists is = cc
local_kind relocations.FieldSigned is = cc
local_kind relocations.FieldLShift64 is = cc
local_kind relocations.FieldRShift64 is = cc
local_kind relocations.TypeIdTarget is = cc
local_kind relocations.TypeExists is = cc
local_kind relocations.TypeSize is = cc
local_kind relocations.EnumVariantExists is = cc
local_kind relocations.EnumVariantValue is = cc
local_kind relocations.TypeMatches is = cc

other_kind : (kind : RelocationKind) → is_local kind ≡ false → kind ≢ relocations.TypeIdLocal
other_kind kind is same = let yes : is_local kind ≡ true = ap is_local same in cc

not_local : (kind : RelocationKind) → kind ≢ relocations.TypeIdLocal → is_local kind ≡ false
not_local kind other = by_test (is_local kind) refl
  where
    by_test : (b : Bool) → is_local kind ≡ b → is_local kind ≡ false
    by_test true is = absurd (other (local_kind kind is))
    by_test false is = is

-- ---- candidates

types_ok : {X : Type 0} (a : Result X TypeError) (x : X) → of_types a ≡ Ok x → a ≡ Ok x
types_ok (Ok y) x is = ap Ok (same_ok y x is)
types_ok (Err e) x is = cc

if_true : {X : Type 0} (b : Bool) (x y z : X) → b ≡ true → cond b x y ≡ z → x ≡ z
if_true true x y z so is = is
if_true false x y z so is = cc

if_false : {X : Type 0} (b : Bool) (x y z : X) → b ≡ false → cond b x y ≡ z → y ≡ z
if_false true x y z so is = cc
if_false false x y z so is = is

either : (a b c : Bool) → ((a && c) || (b && c)) ≡ ((a || b) && c)
either true b true = refl
either true true false = refl
either true false false = refl
either false b c = refl

twice : (a c : Bool) → (a && c) ≡ ((a || a) && c)
twice true c = refl
twice false c = refl

module _ (target : TypeInfo) (t : BtfType) (name : List ℕ) where
  abbrev same_name : BtfType → Bool
  same_name u = is_same_essentially name (type_name target u)

  -- whether a target type is a candidate
  abbrev pub stands_for : BtfType → Bool
  stands_for u = is_of_kind_of t u && same_name u

  abbrev of_kinds : BtfKind × BtfKind → BtfType → Bool
  of_kinds ks u = (is_kind ks.0 u || is_kind ks.1 u) && same_name u

  unless_fault : (fault : Option TypeError) (all ids : List ℕ) → ids_unless_fault fault all ≡ Ok ids → all ≡ ids
  unless_fault None all ids is = same_ok all ids is
  unless_fault (Some e) all ids is = cc

  of_both : (was : was_enum64 t ≡ true) → stands_for ≡ (λ u. (is_kind kinds.Union u && same_name u) || (is_kind kinds.Enum64 u && same_name u))
  of_both was =
      ap of_kinds (ap (λ b. cond b (kinds.Union, kinds.Enum64) (kind_of t, kind_of t)) was)
      ∙ (λ i u. sym (either (is_kind kinds.Union u) (is_kind kinds.Enum64 u) (same_name u)) i)

  of_own : (was : was_enum64 t ≡ false) → stands_for ≡ (λ u. is_kind (kind_of t) u && same_name u)
  of_own was =
      ap of_kinds (ap (λ b. cond b (kinds.Union, kinds.Enum64) (kind_of t, kind_of t)) was)
      ∙ (λ i u. sym (twice (is_kind (kind_of t) u) (same_name u)) i)

  named_by : (was : Bool) → was_enum64 t ≡ was → (ids : List ℕ) → candidates_named target t name ≡ Ok ids → ids_from stands_for 0 target.types ≡ ids
  unfolding candidates_named
  named_by true was ids is =
      ap (λ (test : BtfType → Bool). ids_from test 0 target.types) (of_both was)
      ∙ unless_fault (candidates_of_both_fault target kinds.Union kinds.Enum64) (candidates_of_both target kinds.Union kinds.Enum64 name) ids
      (if_true (was_enum64 t) _ _ (Ok ids) was is)
  named_by false was ids is =
      ap (λ (test : BtfType → Bool). ids_from test 0 target.types) (of_own was)
      ∙ unless_fault (candidates_fault target (kind_of t)) (candidates target (kind_of t) name) ids (if_false (was_enum64 t) _ _ (Ok ids) was is)

module _ (local target : TypeInfo) (local_id : ℕ) where
  -- a local type with its name, and its candidates
  record Listed (ids : List ℕ) : Type 0 where
    type : BtfType
    there : type_at local.types local_id ≡ Ok type
    name : List ℕ
    named : type_name local type ≡ Ok name
    listed : ids_from (stands_for target type name) 0 target.types ≡ ids

  listed_so : (ids : List ℕ) → candidates_for local target local_id ≡ Ok ids → Listed ids
  listed_so ids is =
      let (t, there, more) = ok_parts (type_at local.types local_id) _ ids is in
      let (name, named, found_ids) = ok_parts (type_name local t) _ ids more in
      record { type = t; there = there; name = name; named = named; listed = named_by target t name (was_enum64 t) refl ids found_ids }

  module _ (t : BtfType) (name : List ℕ) (there : type_at local.types local_id ≡ Ok t) (named : type_name local t ≡ Ok name) where
    same_so : (text : Result (List ℕ) TypeError) → is_same_essentially name text ≡ true → (read : List ℕ) × (text ≡ Ok read) × (essential_name read ≡ essential_name name)
    same_so (Ok read) is = (read, refl, (bytes_eq-Decides (essential_name read) (essential_name name)).0 is)
    same_so (Err e) is = cc

    candidate_so : (id : ℕ) → Passing (stands_for target t name) 0 target.types id → IsCandidate local target local_id id
    candidate_so id p =
        let both = and_parts (is_of_kind_of t p.type) (same_name target t name p.type) p.passes in
        let (read, reads, same) = same_so (type_name target p.type) both.1 in
        let is = p.is in
        let at : p.index ≡ id = omega arith in
        record {
          local_type = t;
          local_there = there;
          local_name = name;
          local_named = named;
          target_type = p.type;
          there = subst (λ k. slice_get target.types k ≡ Some p.type) at p.there;
          same_kind = both.0;
          name = read;
          named = reads;
          same_name = same;
        }

    passing_so : (id : ℕ) → IsCandidate local target local_id id → Passing (stands_for target t name) 0 target.types id
    passing_so id c =
        let one : c.local_type ≡ t = same_ok c.local_type t (sym c.local_there ∙ there) in
        let called : c.local_name ≡ name = same_ok c.local_name name (sym c.local_named ∙ ap (type_name local) one ∙ named) in
        let kind : is_of_kind_of t c.target_type ≡ true = subst (λ u. is_of_kind_of u c.target_type ≡ true) one c.same_kind in
        let same : is_same_essentially name (type_name target c.target_type) ≡ true =
        ap (is_same_essentially name) c.named
        ∙ (bytes_eq-Decides (essential_name c.name) (essential_name name)).1 (c.same_name ∙ ap essential_name called)
        in
        record { index = id; type = c.target_type; is = omega arith; there = c.there; passes = rw (kind, same) refl }

-- ---- an outcome is a value of the same path

module _ (local target : TypeInfo) (r : Relocation) where
  or_agrees : (path : NamedPath) (value : MatchValue) (id : ℕ) → NoneOr (given local target r path) (λ _. true) (IsSameValue value) id
      → AgreesWith local target r.kind r.type_id id path value
  or_agrees path value id (inl none) = ByLack (lacks_so local target r path id none)
  or_agrees path value id (inr (own, has, same)) = ByValue own (has_so local target r path id own has) same

  or_none : (path : NamedPath) (value : MatchValue) (id : ℕ) → AgreesWith local target r.kind r.type_id id path value
      → NoneOr (given local target r path) (λ _. true) (IsSameValue value) id
  or_none path value id (ByLack lacks) = inl (lacks_gives local target r id lacks)
  or_none path value id (ByValue own has same) = inr (own, has_gives local target r id has, same)

  module _ (path : NamedPath) (loaded : Option LoadedField) (sought : IsSought local target r path loaded) (ids : List ℕ) (l : Listed local target r.type_id ids) where
    abbrev test : BtfType → Bool
    test = stands_for target l.type l.name

    to_passing : (id : ℕ) → IsCandidate local target r.type_id id → Passing test 0 target.types id
    to_passing = passing_so local target r.type_id l.type l.name l.there l.named

    to_candidate : (id : ℕ) → Passing test 0 target.types id → IsCandidate local target r.type_id id
    to_candidate = candidate_so local target r.type_id l.type l.name l.there l.named

    absent_so : collect (given local target r path) ids ≡ Ok [] → SamePathValue local target r (record { value = without_match r.kind; local = loaded; target = None })
    absent_so is = InNoCandidate path loaded sought (λ other c.
        lacks_so local target r path other
        (none_is (given local target r path) test 0 target.types (ap (collect (given local target r path)) l.listed ∙ is) other (to_passing other c)))

    present_so : (value : MatchValue) (others : List MatchValue) → collect (given local target r path) ids ≡ Ok (value ∷ others) → list_all (values_agree value) others ≡ true
        → SamePathValue local target r (record { value = value.number; local = loaded; target = value.loaded })
    present_so value others is agree =
        let first : First (given local target r path) test 0 target.types (IsSameValue value) value =
        first_is (given local target r path) test (IsSameValue value) 0 target.types value others (ap (collect (given local target r path)) l.listed ∙ is) (all_same value others agree)
        in
        InCandidate path loaded first.id value sought (to_candidate first.id first.passing) (has_so local target r path first.id value first.has)
        (λ other c below. lacks_so local target r path other (first.before other (to_passing other c) below))
        (λ other c above. or_agrees path value other (first.behind other (to_passing other c) above))

    no_conflict : {X : Type 0} (names : Result X RelocationError) (fault : X → RelocationError) (outcome : Outcome) → if_ok names (λ all. Err (fault all)) ≡ Ok outcome → ⊥
    no_conflict (Ok names) fault outcome is = cc
    no_conflict (Err e) fault outcome is = cc

    concluded : (type_name : List ℕ) (values : List MatchValue) (outcome : Outcome) → collect (given local target r path) ids ≡ Ok values
        → outcome_of_matches target type_name r.kind loaded values ≡ Ok outcome → SamePathValue local target r outcome
    unfolding outcome_of_matches
    concluded type_name [] outcome is so = subst (SamePathValue local target r) (same_ok _ outcome so) (absent_so is)
    concluded type_name (value ∷ others) outcome is so = by_test (list_all (values_agree value) others) refl so
      where
        by_test : (b : Bool) → list_all (values_agree value) others ≡ b
            → cond b (Ok (record { value = value.number; local = loaded; target = value.loaded })) (if_ok (differing_names target value others) (λ names. Err (ConflictingCandidates type_name names))) ≡ Ok outcome
            → SamePathValue local target r outcome
        by_test true agree so = subst (SamePathValue local target r) (same_ok _ outcome so) (present_so value others is agree)
        by_test false some so = absurd (no_conflict (differing_names target value others) (ConflictingCandidates type_name) outcome so)

    -- ---- and the other way round

    absent_is : ((other : ℕ) → IsCandidate local target r.type_id other → LacksPath local target r.type_id other path) → collect (given local target r path) ids ≡ Ok []
    absent_is lacks =
        sym (ap (collect (given local target r path)) l.listed)
        ∙ none_are (given local target r path) test 0 target.types (λ other p. lacks_gives local target r other (lacks other (to_candidate other p)))

    present_is : (id : ℕ) (value : MatchValue) → IsCandidate local target r.type_id id → HasPath local target r.kind r.type_id id path value
        → ((other : ℕ) → IsCandidate local target r.type_id other → other < id → LacksPath local target r.type_id other path)
        → ((other : ℕ) → IsCandidate local target r.type_id other → id < other → AgreesWith local target r.kind r.type_id other path value)
        → (others : List MatchValue) × (collect (given local target r path) ids ≡ Ok (value ∷ others)) × (list_all (values_agree value) others ≡ true)
    present_is id value candidate has before behind =
        let first : First (given local target r path) test 0 target.types (IsSameValue value) value =
        record {
          id = id;
          passing = to_passing id candidate;
          has = has_gives local target r id has;
          before = λ other p below. lacks_gives local target r other (before other (to_candidate other p) below);
          behind = λ other p above. or_none path value other (behind other (to_candidate other p) above);
        }
        in
        let (others, is, same) = first_are (given local target r path) test (IsSameValue value) 0 target.types value first in
        (others, sym (ap (collect (given local target r path)) l.listed) ∙ is, all_agree value others same)

  among_so : (path : LocalPath) (ids : List ℕ) (outcome : Outcome) → LocalSideIs local r (Ok path) → is_local r.kind ≡ false
      → candidates_for local target r.type_id ≡ Ok ids → outcome_among local target r path ids ≡ Ok outcome → SamePathValue local target r outcome
  unfolding outcome_among
  among_so path ids outcome side other are so =
      let (ms, matched_ids, a) = ok_parts (matches local target r.type_id path.path ids) _ outcome so in
      let (loaded, loads, b) = ok_parts (local_loaded local r path.path) _ outcome a in
      let (values, valued_ms, c) = ok_parts (each (match_value target r.kind) ms) _ outcome b in
      let sought : IsSought local target r path.path loaded =
      record {
        type_name = path.type_name;
        side = side;
        loads = loads_so local r path.path loaded loads;
        not_local = other_kind r.kind other;
        readable = ap is_ok are;
      }
      in
      concluded path.path loaded sought ids (listed_so local target r.type_id ids are) path.type_name values outcome (collected local target r path.path ids ms values matched_ids valued_ms) c

  outcome_by : (path : LocalPath) (outcome : Outcome) → LocalSideIs local r (Ok path) → (b : Bool) → is_local r.kind ≡ b
      → cond b (Ok (itself r.type_id)) (if_ok (of_types (candidates_for local target r.type_id)) (λ ids. outcome_among local target r path ids)) ≡ Ok outcome
      → SamePathValue local target r outcome
  outcome_by path outcome side true is so = subst (SamePathValue local target r) (same_ok _ outcome so) (OwnId path side (local_kind r.kind is))
  outcome_by path outcome side false other so =
      let (ids, are, more) = ok_parts (of_types (candidates_for local target r.type_id)) _ outcome so in
      among_so path ids outcome side other (types_ok (candidates_for local target r.type_id) ids are) more

  same_path_so : (outcome : Outcome) → outcome_of local target r ≡ Ok outcome → SamePathValue local target r outcome
  unfolding outcome_of
  same_path_so outcome so =
      let (path, side, more) = ok_parts (local_path local r) _ outcome so in
      outcome_by path outcome (subst (LocalSideIs local r) side (side_is local r)) (is_local r.kind) refl more

  -- ---- and no other is

  outcome_at : (path : NamedPath) (loaded : Option LoadedField) (sought : IsSought local target r path loaded) (ids : List ℕ) → candidates_for local target r.type_id ≡ Ok ids
      → (values : List MatchValue) → collect (given local target r path) ids ≡ Ok values
      → outcome_of local target r ≡ outcome_of_matches target sought.type_name r.kind loaded values
  unfolding outcome_of outcome_among
  outcome_at path loaded sought ids are values is =
      let (ms, matched_ids, valued_ms) = matched local target r path ids values is in
      rw (one_side local r sought.side, not_local r.kind sought.not_local, are, matched_ids, loads_is r sought.loads, valued_ms) refl

  same_path_is : {outcome : Outcome} → SamePathValue local target r outcome → outcome_of local target r ≡ Ok outcome
  unfolding outcome_of outcome_of_matches
  same_path_is (OwnId path side kind) = let is : is_local r.kind ≡ true = ap is_local kind in rw (one_side local r side, is) refl
  same_path_is (InCandidate path loaded id value sought candidate has before behind) =
      let (ids, are) = ok_some (candidates_for local target r.type_id) sought.readable in
      let (others, is, agree) = present_is path loaded sought ids (listed_so local target r.type_id ids are) id value candidate has before behind in
      outcome_at path loaded sought ids are (value ∷ others) is ∙ rw agree refl
  same_path_is (InNoCandidate path loaded sought lacks) =
      let (ids, are) = ok_some (candidates_for local target r.type_id) sought.readable in
      outcome_at path loaded sought ids are [] (absent_is path loaded sought ids (listed_so local target r.type_id ids are) lacks)

-- ---- the laws

pub outcomes_are_of_same_paths : OutcomesAreOfSamePaths
outcomes_are_of_same_paths local target r outcome = same_path_so local target r outcome

pub same_paths_are_outcomes : SamePathsAreOutcomes
same_paths_are_outcomes local target r outcome = same_path_is local target r

pub same_path_value_is_one : SamePathValueIsOne
same_path_value_is_one local target r a b one other = same_ok a b (sym (same_path_is local target r one) ∙ same_path_is local target r other)
