-- Searches, and outcomes that are cached by their questions.
use Rattle.std.proofs.Common.{◌≡◌, ℕ, List, true, false, Result, Ok, Err, refl, sym, ap, subst, ◌∙◌, ◌==◌, Bool, [], ◌∷◌, Some, arith, cond, Option, None, if◌then◌else◌}
use Rattle.std.proofs.Math.Bool.{or-true}
use Rattle.std.specs.Result.{IsErrAnd}
use Rattle.std.specs.Prelude.{IfOk, is_some, slice_get}
use Rattle.std.proofs.lemmas.Bool.Decides.{nat_tests}
use Rattle.std.specs.BTreeMap.{BTreeMap, get, is_at}
use Rattle.std.specs.Map.{lookup}
use Rattle.std.specs.Ordering.{is_eq, nat_cmp}
use Rattle.std.proofs.lemmas.Map.Lookups.{exact_pairs, exact_unsigned}
use Rattle.std.proofs.lemmas.Option.{same_Some}
use Rattle.std.proofs.lemmas.Bool.{and_parts}
use Rattle.ebpf_base.specs.Faults.{if_ok}
use Rattle.ebpf_btf.specs.Next.{if_some}
use Rattle.ebpf_btf.specs.TypeInfo.{TypeInfo}
use Rattle.ebpf_btf.specs.declared.error.BtfError.{BtfError}
use Rattle.ebpf_btf.specs.declared.types.BtfType.{BtfType}
use Rattle.ebpf_btf_ext.specs.declared.relocation.Relocation.{Relocation}
use Rattle.ebpf_btf.specs.declared.kind.BtfKind.{BtfKind}
use Rattle.ebpf_btf.specs.Strings.{type_name, text_at}
use Rattle.ebpf_btf.specs.Types.{is_kind, kind_number, kind_of, array_of, members_of}
use Rattle.ebpf_btf.specs.Variants.{variants_of}
use Rattle.ebpf_core_candidates.specs.Candidates.{IndexedTypes, has_named, is_among_kinds}
use Rattle.ebpf_btf.specs.Steps.{resolved, type_at}
use Rattle.ebpf_btf_ext.proofs.Relocations.{numbers_of_relocation_kinds}
use Rattle.ebpf_btf_ext.specs.RelocationKinds.{known_kind, relocation_kind_number}
use Rattle.ebpf_btf_ext.specs.declared.relocation.RelocationKind.{RelocationKind}
use Rattle.ebpf_base.proofs.Maps.{is_equal}
use Rattle.ebpf_btf.specs.declared.kind.BtfKind.TheVariants as kinds
use Rattle.ebpf_core.specs.declared.error.RelocationError.{RelocationError}
use Rattle.ebpf_core.specs.declared.outcome.Outcome.{Outcome}
use Rattle.ebpf_core.specs.declared.paths.LocalPath.{LocalPath}
use Rattle.ebpf_core.specs.Answers.{Tells, of_types, without_texts}
use Rattle.ebpf_core.specs.LocalPaths.{local_path, accessors, field_path, part_step, path_for, spot_at_element, variant_path, spot_after, wrong_kind, basis_of}
use Rattle.ebpf_core.specs.Outcomes.{outcome_among, loaded_by, local_loaded, matches}
use Rattle.ebpf_core.specs.Searches.{candidates_for, is_local, itself, outcome_of, Sides, was_enum64, HasLocalNames, IsLocalType, searched_kinds, AreCached, Question, question_of, question_cmp}
use Rattle.ebpf_core.proofs.Refusals.{refused_by}
use Rattle.ebpf_core.specs.Fields.{field_value}
use Rattle.ebpf_core.specs.Laws.{OutcomesRestOnQuestions}
use Rattle.ebpf_core.specs.declared.field.FieldFault.{FieldFault}
use Rattle.ebpf_core.specs.declared.field.FieldFault.TheVariants.{OfElement, Types}
use Rattle.ebpf_core.specs.declared.field.FieldValue.{FieldValue}
use Rattle.ebpf_core.specs.declared.local_walk.LocalSpot.{LocalSpot}
use Rattle.ebpf_core.specs.declared.paths.NamedPath.{NamedPath}
use Rattle.ebpf_core.specs.declared.paths.RelocationBasis.{RelocationBasis}
use Rattle.ebpf_core.proofs.LocalSides.{walked_none, walked_on}
use Rattle.ebpf_core.specs.declared.paths.NamedPath.TheVariants as paths
use Rattle.ebpf_core.specs.declared.paths.RelocationBasis.TheVariants as bases

module _ (local target : TypeInfo) (r : Relocation) where
  path_fault : (e : RelocationError) → local_path local r ≡ Err e → outcome_of local target r ≡ Err e
  unfolding outcome_of
  path_fault e is = rw is refl

  local_given : (path : LocalPath) → local_path local r ≡ Ok path → is_local r.kind ≡ true → outcome_of local target r ≡ Ok (itself r.type_id)
  unfolding outcome_of
  local_given path is here = rw (is, here) refl

  over_ids : (path : LocalPath) → local_path local r ≡ Ok path → is_local r.kind ≡ false
      → outcome_of local target r ≡ if_ok (of_types (candidates_for local target r.type_id)) (outcome_among local target r path)
  unfolding outcome_of
  over_ids path is other = rw (is, other) refl

  module _ (s : Sides) (view : record { local = local; target = target } ≡ s) where
    abbrev stated : Sides → Result Outcome RelocationError
    stated t = outcome_of t.local t.target r

    pub path_refused : (e : RelocationError) (answer : Result Outcome RelocationError) → IsErrAnd answer (λ f. f ≡ e)
        → Tells {X = LocalPath} (Err e) (local_path local r) → Tells answer (stated s)
    path_refused e answer is given =
        subst (λ (t : Sides). Tells answer (stated t)) view
        (refused_by e (local_path local r) answer (outcome_of local target r) is (path_fault (without_texts e)) given)

    pub local_itself : (path : LocalPath) → local_path local r ≡ Ok path → is_local r.kind ≡ true → stated s ≡ Ok (itself r.type_id)
    local_itself path is here = subst (λ (t : Sides). stated t ≡ Ok (itself r.type_id)) view (local_given path is here)

    pub searched : (path : LocalPath) (answer : Result Outcome RelocationError) → local_path local r ≡ Ok path → is_local r.kind ≡ false
        → (a b : TypeInfo) → Tells answer (if_ok (of_types (candidates_for a b r.type_id)) (outcome_among a b r path))
        → record { local = a; target = b } ≡ s → Tells answer (stated s)
    searched path answer is other a b given same =
        let here : Tells answer (if_ok (of_types (candidates_for local target r.type_id)) (outcome_among local target r path)) =
        subst (λ (t : Sides). Tells answer (if_ok (of_types (candidates_for t.local t.target r.type_id)) (outcome_among t.local t.target r path))) (same ∙ sym view) given in
        subst (λ (t : Sides). Tells answer (stated t)) view (rw (over_ids path is other) here)

-- ---- the kinds and names that an index has for local types

pub one_of_first : (first second : BtfKind) → is_among_kinds (first ∷ second ∷ []) first ≡ true
one_of_first first second = let same : (kind_number first == kind_number first) ≡ true = grind (arith, nat_tests) in rw same refl

pub one_of_second : (first second : BtfKind) → is_among_kinds (first ∷ second ∷ []) second ≡ true
one_of_second first second = let same : (kind_number second == kind_number second) ≡ true = grind (arith, nat_tests) in rw same (or-true (kind_number first == kind_number second))

-- what an index of the names of local types has
pub local_names : (result : Result IndexedTypes BtfError) (local : TypeInfo) (first second : BtfKind)
    → IfOk result (λ index. (kind : BtfKind) (id : ℕ) (t : BtfType) (name : List ℕ) → is_among_kinds (first ∷ second ∷ []) kind ≡ true → slice_get local.types id ≡ Some t
    → is_among_kinds (first ∷ second ∷ []) (kind_of t) ≡ true → type_name local t ≡ Ok name → has_named index kind name ≡ true)
    → IfOk result (λ index. HasLocalNames index local first second)
local_names (Err e) local first second all = tt
local_names (Ok index) local first second all = λ t name at among. (
  all first at.id t name (one_of_first first second) at.there among at.named,
  all second at.id t name (one_of_second first second) at.there among at.named,
)

-- a local type's kind is one of those that are searched for it
pub searched_among : (t : BtfType) → is_among_kinds ((searched_kinds t).0 ∷ (searched_kinds t).1 ∷ []) (kind_of t) ≡ true
searched_among t = by_enum (was_enum64 t) refl
  where
    by_enum : (b : Bool) → was_enum64 t ≡ b → is_among_kinds ((searched_kinds t).0 ∷ (searched_kinds t).1 ∷ []) (kind_of t) ≡ true
    by_enum true is =
        let union : is_kind kinds.Union t ≡ true = (and_parts (is_kind kinds.Union t) (is_some (variants_of t)) is).0 in
        let same : (kind_number kinds.Union == kind_number (kind_of t)) ≡ true = grind (arith, nat_tests) in
        rw (is, same) refl
    by_enum false is = rw is (one_of_first (kind_of t) (kind_of t))

-- so such an index has both kinds' types of its name
pub has_searched : (index : IndexedTypes) (own local : TypeInfo) (t : BtfType) (name : List ℕ) (pair : BtfKind × BtfKind) → pair ≡ searched_kinds t → own ≡ local
    → HasLocalNames index own pair.0 pair.1 → IsLocalType local t name → (has_named index (searched_kinds t).0 name ≡ true) × (has_named index (searched_kinds t).1 name ≡ true)
has_searched index own local t name pair kinds same has at =
    let here : IsLocalType own t name = rw same at in
    let both : HasLocalNames index own (searched_kinds t).0 (searched_kinds t).1 = rw (← kinds) has in
    both t name here (searched_among t)

-- ---- answers that are the same where they are no faults

-- what the one answers, so does the other
abbrev Follows : {X E : Type 0} → Result X E → Result X E → Type 0
Follows {X} a b = (x : X) → a ≡ Ok x → b ≡ Ok x

never : {X E : Type 0} (e : E) (b : Result X E) → Follows (Err e) b
never e b x is = cc

module _ {A X E : Type 0} where
  on_both : (a b : Result A E) (f g : A → Result X E) → Follows a b → ((y : A) → Follows (f y) (g y)) → Follows (if_ok a f) (if_ok b g)
  on_both (Ok y) b f g first more x is = rw (first y refl) (more y x is)
  on_both (Err e) b f g first more x is = cc

  on_same : (a : Result A E) (f g : A → Result X E) → ((y : A) → Follows (f y) (g y)) → Follows (if_ok a f) (if_ok a g)
  on_same a f g more = on_both a a f g (λ y is. is) more

  on_first : (a b : Result A E) (f : A → Result X E) → Follows a b → Follows (if_ok a f) (if_ok b f)
  on_first a b f first = on_both a b f f first (λ y x is. is)

  on_none : (o : Option A) (f : A → Result X E) (a b : Result X E) → Follows a b → Follows (if_some o f a) (if_some o f b)
  on_none None f a b none = none
  on_none (Some y) f a b none = λ x is. is

-- ---- the local side

module _ (info : TypeInfo) (access : List ℕ) (n m : ℕ) where
  part_alike : (from : LocalSpot) (part : ℕ) → Follows (part_step info n access from part) (part_step info m access from part)
  unfolding part_step
  part_alike from part =
      on_same (of_types (resolved info.types from.type_id)) _ _
      (λ id. on_same (of_types (type_at info.types id)) _ _
      (λ t. on_none (members_of t) _ _ _ (on_none (array_of t) _ _ _ (never _ (wrong_kind m)))))

  walk_alike : (parts : List ℕ) (from : LocalSpot) → Follows (spot_after info n access parts from) (spot_after info m access parts from)
  walk_alike [] from x is = walked_none info m access from ∙ sym (walked_none info n access from) ∙ is
  walk_alike (part ∷ parts) from x is =
      walked_on info m access part parts from
      ∙ on_both (part_step info n access from part) (part_step info m access from part) _ _ (part_alike from part) (walk_alike parts) x (sym (walked_on info n access part parts from) ∙ is)

  path_alike : (id : ℕ) (parts : List ℕ) (s : RelocationBasis) → Follows (path_for info n access id parts s) (path_for info m access id parts s)
  unfolding field_path variant_path
  path_alike id parts bases.WholeType = λ x is. is
  path_alike id parts bases.MatchedType = λ x is. is
  path_alike id parts bases.Variant = on_same (of_types (type_at info.types id)) _ _ (λ t. on_none (variants_of t) _ _ _ (never _ (wrong_kind m)))
  path_alike id [] bases.Field = λ x is. is
  path_alike id (root ∷ parts) bases.Field = on_same (spot_at_element info [] 0 id root) _ _ (λ start. on_first (spot_after info n access parts start) (spot_after info m access parts start) _ (walk_alike parts start))

-- the same record with another number and another instruction
abbrev again : Relocation → ℕ → ℕ → Relocation
again r number insn_off = record r { number = number; insn_off = insn_off }

module _ (local target : TypeInfo) (r : Relocation) (number insn_off : ℕ) where
  side_alike : Follows (local_path local r) (local_path local (again r number insn_off))
  unfolding local_path
  side_alike =
      on_same (of_types (type_at local.types r.type_id)) _ _
      (λ t. on_same (of_types (type_name local t)) _ _
      (λ name. on_same (of_types (text_at local.strings r.access_str_off)) _ _
      (λ access. on_same (accessors name access) _ _
      (λ parts. on_same (of_types (resolved local.types r.type_id)) _ _
      (λ id. on_first (path_for local r.number access id parts (basis_of r.kind)) (path_for local number access id parts (basis_of r.kind)) _
      (path_alike local access r.number number id parts (basis_of r.kind)))))))

  loaded_alike : (value : Result FieldValue FieldFault) → Follows (loaded_by r.number value) (loaded_by number value)
  loaded_alike (Ok value) = λ x is. is
  loaded_alike (Err OfElement) = never _ _
  loaded_alike (Err (Types e)) = λ x is. is

  field_loaded_alike : (path : NamedPath) → Follows (local_loaded local r path) (local_loaded local (again r number insn_off) path)
  unfolding local_loaded
  field_loaded_alike (paths.Field steps place) = loaded_alike (field_value local r.kind place)
  field_loaded_alike paths.WholeType = λ x is. is
  field_loaded_alike paths.MatchedType = λ x is. is
  field_loaded_alike (paths.Variant name) = λ x is. is

  outcome_alike : Follows (outcome_of local target r) (outcome_of local target (again r number insn_off))
  unfolding outcome_of outcome_among
  outcome_alike =
      on_both (local_path local r) (local_path local (again r number insn_off)) _ _ side_alike
      (λ path. by_kind (is_local r.kind) (Ok (itself r.type_id)) _ _
      (on_same (of_types (candidates_for local target r.type_id)) _ _
      (λ ids. on_same (matches local target r.type_id path.path ids) _ _
      (λ found. on_first (local_loaded local r path.path) (local_loaded local (again r number insn_off) path.path) _ (field_loaded_alike path.path)))))
    where
      by_kind : (b : Bool) (a c d : Result Outcome RelocationError) → Follows c d → Follows (if b then a else c) (if b then a else d)
      by_kind true a c d more = λ x is. is
      by_kind false a c d more = more

-- ---- records that ask the same

kinds_alike : (a b : RelocationKind) → relocation_kind_number a ≡ relocation_kind_number b → a ≡ b
kinds_alike a b e = same_Some _ _ (sym (numbers_of_relocation_kinds a) ∙ ap (known_kind true) e ∙ numbers_of_relocation_kinds b)

pub same_record : (r s : Relocation) → question_of r ≡ question_of s → again r s.number s.insn_off ≡ s
same_record r s e =
    let type : r.type_id ≡ s.type_id = ap (λ (q : Question). q.0.0) e in
    let string : r.access_str_off ≡ s.access_str_off = ap (λ (q : Question). q.0.1) e in
    let kind : r.kind ≡ s.kind = kinds_alike r.kind s.kind (ap (λ (q : Question). q.1) e) in
    ap (λ n. record s { type_id = n; access_str_off = r.access_str_off; kind = r.kind }) type
    ∙ ap (λ n. record s { access_str_off = n; kind = r.kind }) string
    ∙ ap (λ k. record s { kind = k }) kind

pub outcomes_rest_on_questions : OutcomesRestOnQuestions
outcomes_rest_on_questions local target r s outcome same is =
    ap (outcome_of local target) (sym (same_record r s same)) ∙ outcome_alike local target r s.number s.insn_off outcome is

-- ---- what is cached

question_exact : (a b : Question) → is_eq (question_cmp a b) ≡ true → a ≡ b
question_exact a b e = exact_pairs _ nat_cmp (exact_pairs nat_cmp nat_cmp exact_unsigned exact_unsigned) exact_unsigned a b (is_equal (question_cmp a b) e)

module _ {X : Type 0} (Holds : Relocation → X → Type 0) where
  pub none_cached : (cached : BTreeMap Question X) → cached.entries ≡ [] → AreCached Holds cached
  none_cached cached is q x found = absurd (nothing (get question_cmp cached q) found (ap (λ es. lookup (is_at (question_cmp q)) es) is))
    where
      nothing : (o : Option X) → o ≡ Some x → o ≡ None → ⊥
      nothing o some none = cc

  pub one_more : (cached new : BTreeMap Question X) (k : Question) (more : X) → ((s : Relocation) → question_of s ≡ k → Holds s more) → AreCached Holds cached
      → ((q : Question) → get question_cmp new q ≡ cond (is_at (question_cmp k) q) (Some more) (get question_cmp cached q)) → AreCached Holds new
  one_more cached new k more is are put q x found s also = by_place (is_at (question_cmp k) q) refl (sym (put q) ∙ found)
    where
      by_place : (b : Bool) → is_at (question_cmp k) q ≡ b → cond b (Some more) (get question_cmp cached q) ≡ Some x → Holds s x
      by_place true same found = subst (Holds s) (same_Some _ _ found) (is s (also ∙ sym (question_exact k q same)))
      by_place false same found = are q x found s also
