-- The values that the types which pass a test give, in the order of their ids, and the first of them.
use Rattle.std.proofs.Common.{◌≡◌, ◌⊎◌, inl, inr, ◌+◌, ◌<◌, ◌≤◌, ℕ, zero, suc, Bool, true, false, List, [], ◌∷◌, Option, Some, None, Result, Ok, Err, refl, sym, ap, ◌∙◌, subst, arith, slice_get}
use Rattle.std.specs.List.{AllByRecursion}
use Rattle.std.proofs.lemmas.Option.{same_Some}
use Rattle.ebpf_base.specs.Faults.{if_ok}
use Rattle.ebpf_btf.specs.declared.types.BtfType.{BtfType}
use Rattle.ebpf_core_candidates.proofs.Refusals.{same_ok}
use Rattle.ebpf_core_candidates.specs.Candidates.{ids_from}

-- the type with an id, counted from a number on, passes a test
pub record Passing (test : BtfType → Bool) (start : ℕ) (types : List BtfType) (id : ℕ) : Type 0 where
  pub index : ℕ
  pub type : BtfType
  pub is : id ≡ start + index
  pub there : slice_get types index ≡ Some type
  pub passes : test type ≡ true

module _ (test : BtfType → Bool) where
  ids_here : (start : ℕ) (t : BtfType) (types : List BtfType) → test t ≡ true → ids_from test start (t ∷ types) ≡ start ∷ ids_from test (start + 1) types
  ids_here start t types is = rw is refl

  ids_on : (start : ℕ) (t : BtfType) (types : List BtfType) → test t ≡ false → ids_from test start (t ∷ types) ≡ ids_from test (start + 1) types
  ids_on start t types is = rw is refl

  pub below : (start : ℕ) (types : List BtfType) (id : ℕ) → Passing test start types id → start ≤ id
  below start types id p = let is = p.is in omega arith

  pub passing_first : (start : ℕ) (t : BtfType) (types : List BtfType) → test t ≡ true → Passing test start (t ∷ types) start
  passing_first start t types is = record { index = 0; type = t; is = omega arith; there = refl; passes = is }

  pub passing_later : (start : ℕ) (t : BtfType) (types : List BtfType) (id : ℕ) → Passing test (start + 1) types id → Passing test start (t ∷ types) id
  passing_later start t types id p = let is = p.is in record { index = suc p.index; type = p.type; is = omega arith; there = p.there; passes = p.passes }

  -- it is the first, or a later one
  pub passing_cases : (start : ℕ) (t : BtfType) (types : List BtfType) (id : ℕ) → Passing test start (t ∷ types) id
      → ((id ≡ start) × (test t ≡ true)) ⊎ Passing test (start + 1) types id
  passing_cases start t types id p = by_index p.index p.is p.there
    where
      by_index : (k : ℕ) → id ≡ start + k → slice_get (t ∷ types) k ≡ Some p.type → ((id ≡ start) × (test t ≡ true)) ⊎ Passing test (start + 1) types id
      by_index zero is there = inl (omega arith, ap test (same_Some _ _ there) ∙ p.passes)
      by_index (suc k) is there = inr (record { index = k; type = p.type; is = omega arith; there = there; passes = p.passes })

  pub passing_none : (start : ℕ) (id : ℕ) → Passing test start [] id → ⊥
  passing_none start id p = never p.index p.type p.there
    where
      never : (k : ℕ) (t : BtfType) → slice_get [] k ≡ Some t → ⊥
      never k t is = cc

-- ---- what is collected

abbrev pub kept : {V : Type 0} → Option V → List V → List V
kept None vs = vs
kept (Some v) vs = v ∷ vs

-- the values that ids give, in order, or the first fault
abbrev pub collect : {V E : Type 0} → (ℕ → Result (Option V) E) → List ℕ → Result (List V) E
collect f [] = Ok []
collect f (id ∷ ids) = if_ok (f id) (λ o. if_ok (collect f ids) (λ vs. Ok (kept o vs)))

module _ {V E : Type 0} (f : ℕ → Result (Option V) E) (test : BtfType → Bool) where
  -- of an id that passes there is no value, or one that is well
  abbrev pub NoneOr : (V → Type 0) → ℕ → Type 0
  NoneOr P id = (f id ≡ Ok None) ⊎ ((v : V) × (f id ≡ Ok (Some v)) × P v)

  -- what collecting over the front gives
  pub split : (o : Result (Option V) E) (rest : Result (List V) E) (all : List V) → if_ok o (λ o. if_ok rest (λ vs. Ok (kept o vs))) ≡ Ok all
      → (a : Option V) × (vs : List V) × (o ≡ Ok a) × (rest ≡ Ok vs) × (kept a vs ≡ all)
  split (Ok a) (Ok vs) all is = (a, vs, refl, refl, same_ok (kept a vs) all is)
  split (Ok a) (Err e) all is = cc
  split (Err e) rest all is = cc

  module _ (P : V → Type 0) where
    kept_all : (a : Option V) (vs : List V) → AllByRecursion P (kept a vs) → AllByRecursion P vs
    kept_all None vs all = all
    kept_all (Some v) vs all = all.1

    one_given : (id : ℕ) (a : Option V) (vs : List V) → f id ≡ Ok a → AllByRecursion P (kept a vs) → NoneOr P id
    one_given id None vs is all = inl is
    one_given id (Some v) vs is all = inr (v, is, all.0)

    -- each gives none or one that is well, where all that are collected are well
    abbrev pub EachIs : ℕ → List BtfType → Type 0
    EachIs start types = (vs : List V) → collect f (ids_from test start types) ≡ Ok vs → AllByRecursion P vs → (id : ℕ) → Passing test start types id → NoneOr P id

    each_by : (start : ℕ) (t : BtfType) (types : List BtfType) (b : Bool) → test t ≡ b → EachIs (start + 1) types → EachIs start (t ∷ types)
    each_by start t types true passed more vs is all id p =
        let (a, rest, here, behind, kept_is) = split (f start) (collect f (ids_from test (start + 1) types)) vs (sym (ap (collect f) (ids_here test start t types passed)) ∙ is) in
        let well : AllByRecursion P (kept a rest) = subst (AllByRecursion P) (sym kept_is) all in
        elim (passing_cases test start t types id p) [
          | inl first ↦ subst (NoneOr P) (sym first.0) (one_given start a rest here well)
          | inr later ↦ more rest behind (kept_all a rest well) id later
        ]
    each_by start t types false other more vs is all id p =
        elim (passing_cases test start t types id p) [
          | inl first ↦ absurd (let no = first.1 in cc)
          | inr later ↦ more vs (sym (ap (collect f) (ids_on test start t types other)) ∙ is) all id later
        ]

    pub each_is : (start : ℕ) (types : List BtfType) → EachIs start types
    each_is start [] = λ vs is all id p. absurd (passing_none test start id p)
    each_is start (t ∷ types) = each_by start t types (test t) refl (each_is (start + 1) types)

    -- and so they are collected
    abbrev pub AllAre : ℕ → List BtfType → Type 0
    AllAre start types = (vs : List V) × (collect f (ids_from test start types) ≡ Ok vs) × AllByRecursion P vs

    all_by : (start : ℕ) (t : BtfType) (types : List BtfType) (b : Bool) → test t ≡ b → (test t ≡ true → NoneOr P start) → AllAre (start + 1) types → AllAre start (t ∷ types)
    all_by start t types true passed here (vs, later, all) = elim (here passed) [
      | inl none ↦ (vs, rw (ids_here test start t types passed, none, later) refl, all)
      | inr some ↦ (some.0 ∷ vs, rw (ids_here test start t types passed, some.1, later) refl, (some.2, all))
    ]
    all_by start t types false other here (vs, later, all) = (vs, rw (ids_on test start t types other) later, all)

    pub all_are : (start : ℕ) (types : List BtfType) → ((id : ℕ) → Passing test start types id → NoneOr P id) → AllAre start types
    all_are start [] well = ([], refl, tt)
    all_are start (t ∷ types) well =
        all_by start t types (test t) refl (λ passed. well start (passing_first test start t types passed)) (all_are (start + 1) types (λ id p. well id (passing_later test start t types id p)))

  -- ---- none

  abbrev Never : V → Type 0
  Never v = ⊥

  pub none_is : (start : ℕ) (types : List BtfType) → collect f (ids_from test start types) ≡ Ok [] → (id : ℕ) → Passing test start types id → f id ≡ Ok None
  none_is start types is id p = elim (each_is Never start types [] is tt id p) [ inl none ↦ none | inr some ↦ absurd some.2 ]

  pub none_are : (start : ℕ) (types : List BtfType) → ((id : ℕ) → Passing test start types id → f id ≡ Ok None) → collect f (ids_from test start types) ≡ Ok []
  none_are start types none =
      let all = all_are Never start types (λ id p. inl (none id p)) in
      empty all.0 all.1 all.2
    where
      empty : (vs : List V) → collect f (ids_from test start types) ≡ Ok vs → AllByRecursion Never vs → collect f (ids_from test start types) ≡ Ok []
      empty [] is all = is
      empty (v ∷ vs) is all = absurd all.0

  -- ---- the first

  -- the first that gives one, and what those behind it give
  pub record First (start : ℕ) (types : List BtfType) (P : V → Type 0) (v : V) : Type 0 where
    pub id : ℕ
    pub passing : Passing test start types id
    pub has : f id ≡ Ok (Some v)
    pub before : (other : ℕ) → Passing test start types other → other < id → f other ≡ Ok None
    pub behind : (other : ℕ) → Passing test start types other → id < other → NoneOr P other

  module _ (P : V → Type 0) where
    after_first : (start : ℕ) (t : BtfType) (types : List BtfType) (id other : ℕ) → Passing test (start + 1) types id → other ≡ start → id < other → ⊥
    after_first start t types id other p same more = let up = below test (start + 1) types id p in omega arith

    -- one in front that gives none
    first_on : (start : ℕ) (t : BtfType) (types : List BtfType) (v : V) → (test t ≡ true → f start ≡ Ok None) → First (start + 1) types P v → First start (t ∷ types) P v
    first_on start t types v none h = record {
      id = h.id;
      passing = passing_later test start t types h.id h.passing;
      has = h.has;
      before = λ other p less. elim (passing_cases test start t types other p) [
        | inl first ↦ ap f first.0 ∙ none first.1
        | inr later ↦ h.before other later less
      ];
      behind = λ other p more. elim (passing_cases test start t types other p) [
        | inl first ↦ absurd (after_first start t types h.id other h.passing first.0 more)
        | inr later ↦ h.behind other later more
      ];
    }

    first_less : (start : ℕ) (t : BtfType) (types : List BtfType) (v : V) (h : First start (t ∷ types) P v) → Passing test (start + 1) types h.id → First (start + 1) types P v
    first_less start t types v h passing = record {
      id = h.id;
      passing = passing;
      has = h.has;
      before = λ other p less. h.before other (passing_later test start t types other p) less;
      behind = λ other p more. h.behind other (passing_later test start t types other p) more;
    }

    not_behind : (start other : ℕ) → other ≡ start → start < other → ⊥
    not_behind start other same more = omega arith

    first_here : (start : ℕ) (t : BtfType) (types : List BtfType) (v : V) (vs : List V) → test t ≡ true → f start ≡ Ok (Some v)
        → collect f (ids_from test (start + 1) types) ≡ Ok vs → AllByRecursion P vs → First start (t ∷ types) P v
    first_here start t types v vs passed has more all = record {
      id = start;
      passing = passing_first test start t types passed;
      has = has;
      before = λ other p less. absurd (let up = below test start (t ∷ types) other p in omega arith);
      behind = λ other p more_than. elim (passing_cases test start t types other p) [
        | inl first ↦ absurd (not_behind start other first.0 more_than)
        | inr later ↦ each_is P (start + 1) types vs more all other later
      ];
    }

    abbrev pub FirstIs : ℕ → List BtfType → Type 0
    FirstIs start types = (v : V) (vs : List V) → collect f (ids_from test start types) ≡ Ok (v ∷ vs) → AllByRecursion P vs → First start types P v

    first_given : (start : ℕ) (t : BtfType) (types : List BtfType) → test t ≡ true → FirstIs (start + 1) types → (v : V) (vs : List V) → AllByRecursion P vs → (a : Option V) (rest : List V)
        → f start ≡ Ok a → collect f (ids_from test (start + 1) types) ≡ Ok rest → kept a rest ≡ v ∷ vs → First start (t ∷ types) P v
    first_given start t types passed later v vs all None rest none more same = first_on start t types v (λ _. none) (later v vs (more ∙ ap Ok same) all)
    first_given start t types passed later v vs all (Some w) rest has more same =
        let one : w ≡ v = cc in
        let others : rest ≡ vs = cc in
        first_here start t types v vs passed (has ∙ ap (λ x. Ok (Some x)) one) (more ∙ ap Ok others) all

    first_by : (start : ℕ) (t : BtfType) (types : List BtfType) (b : Bool) → test t ≡ b → FirstIs (start + 1) types → FirstIs start (t ∷ types)
    first_by start t types true passed later v vs is all =
        let (a, rest, here, more, kept_is) = split (f start) (collect f (ids_from test (start + 1) types)) (v ∷ vs) (sym (ap (collect f) (ids_here test start t types passed)) ∙ is) in
        first_given start t types passed later v vs all a rest here more kept_is
    first_by start t types false other later v vs is all =
        first_on start t types v (λ passed. absurd (let yes = passed in cc)) (later v vs (sym (ap (collect f) (ids_on test start t types other)) ∙ is) all)

    pub first_is : (start : ℕ) (types : List BtfType) → FirstIs start types
    first_is start [] = none_first
      where
        none_first : (v : V) (vs : List V) → ◌≡◌ {A = Result (List V) E} (Ok []) (Ok (v ∷ vs)) → AllByRecursion P vs → First start [] P v
        none_first v vs is all = cc
    first_is start (t ∷ types) = first_by start t types (test t) refl (first_is (start + 1) types)

    abbrev pub FirstAre : ℕ → List BtfType → V → Type 0
    FirstAre start types v = (vs : List V) × (collect f (ids_from test start types) ≡ Ok (v ∷ vs)) × AllByRecursion P vs

    front_is : (start : ℕ) (t : BtfType) (types : List BtfType) (v : V) (h : First start (t ∷ types) P v) → h.id ≡ start → test t ≡ true → FirstAre start (t ∷ types) v
    front_is start t types v h same passed =
        let (vs, more, all) = all_are P (start + 1) types (λ other p. h.behind other (passing_later test start t types other p) (let up = below test (start + 1) types other p in omega arith)) in
        let has : f start ≡ Ok (Some v) = ap f (sym same) ∙ h.has in
        (vs, rw (ids_here test start t types passed, has, more) refl, all)

    front_on : (start : ℕ) (t : BtfType) (types : List BtfType) (v : V) (b : Bool) → test t ≡ b → (test t ≡ true → f start ≡ Ok None) → FirstAre (start + 1) types v → FirstAre start (t ∷ types) v
    front_on start t types v true passed none (vs, more, all) = (vs, rw (ids_here test start t types passed, none passed, more) refl, all)
    front_on start t types v false other none (vs, more, all) = (vs, rw (ids_on test start t types other) more, all)

    pub first_are : (start : ℕ) (types : List BtfType) (v : V) → First start types P v → FirstAre start types v
    first_are start [] v h = absurd (passing_none test start h.id h.passing)
    first_are start (t ∷ types) v h =
        let later : Passing test (start + 1) types h.id → FirstAre (start + 1) types v = λ p. first_are (start + 1) types v (first_less start t types v h p) in
        elim (passing_cases test start t types h.id h.passing) [
          | inl first ↦ front_is start t types v h first.0 first.1
          | inr p ↦ front_on start t types v (test t) refl
              (λ passed. h.before start (passing_first test start t types passed) (let up = below test (start + 1) types h.id p in omega arith)) (later p)
        ]
