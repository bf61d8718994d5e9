-- The first entry at which a search stops.
use Rattle.std.proofs.Common.{◌≡◌, ℕ, zero, suc, ◌<◌, ltb, if◌then◌else◌, List, [], ◌∷◌, Option, Some, None, Result, Ok, Err, refl, sym, ap, ◌∙◌, subst, arith, inl, inr}
use Rattle.std.specs.List.{slice_get}
use Rattle.std.proofs.lemmas.Bool.{cases_lt, cases_order, lt-ltb, le-ltb}
use Rattle.ebpf_core.specs.declared.places.PlaceFault.{PlaceFault}
use Rattle.ebpf_core.specs.declared.places.PlaceFault.TheVariants.{NestingLevel}
use Rattle.ebpf_core.specs.declared.member_search.Role.{Role}
use Rattle.ebpf_core.specs.declared.member_search.Role.TheVariants.{Anonymous, Other, Fitting, Misfit}
use Rattle.ebpf_core.specs.declared.member_search.Answer.{Answer}
use Rattle.ebpf_core.specs.declared.member_search.Answer.TheVariants.{Found, Absent}
use Rattle.ebpf_core.specs.declared.member_search.FoundMember.{FoundMember}
use Rattle.ebpf_core.specs.Members.{MemberSearch, Member, anonymous_levels, ViewEntry, view, IsEntry, found_member, answer_member, first_fitting, run_search, stop, stop_by, or_on}
use Rattle.ebpf_core.proofs.Members.{IsShallow, is_entry, stands}
use Rattle.ebpf_core.specs.Places.{IsFirst, NeverStops, StopsFirst, stop_at}

-- the entries of a list
abbrev InList : List ViewEntry → ℕ → ViewEntry → Type 0
InList es k e = slice_get es k ≡ Some e

-- what the answer of a search means for them
abbrev IsAnswerIn : MemberSearch → ℕ → List ViewEntry → Result Answer PlaceFault → Type 0
IsAnswerIn member_search limit es a = IsFirst member_search limit (InList es) (answer_member a)

ltb-suc : (k l : ℕ) → ltb (suc k) (suc l) ≡ ltb k l
ltb-suc k l = elim (cases_lt k l) [
  | inl lt ↦ lt-ltb (suc k) (suc l) (omega arith) ∙ sym (lt-ltb k l lt)
  | inr le ↦ le-ltb (suc k) (suc l) (omega arith) ∙ sym (le-ltb k l le)
]

stop_front : (member_search : MemberSearch) (left : ℕ) (e : ViewEntry) → stop_at member_search (suc left) 0 e ≡ stop member_search e
stop_front member_search left e = ap (λ b. if b then stop member_search e else Some (Err NestingLevel)) (lt-ltb 0 (suc left) (omega arith))

stop_later : (member_search : MemberSearch) (left k : ℕ) (e : ViewEntry) → stop_at member_search (suc left) (suc k) e ≡ stop_at member_search left k e
stop_later member_search left k e = ap (λ b. if b then stop member_search e else Some (Err NestingLevel)) (ltb-suc k left)

-- an entry in front at which the search goes on
never_later : (member_search : MemberSearch) (left : ℕ) (x : ViewEntry) (es : List ViewEntry) → stop member_search x ≡ None → NeverStops member_search left (InList es) → NeverStops member_search (suc left) (InList (x ∷ es))
never_later member_search left x es h never zero e at =
    let same : x ≡ e = cc in subst (λ (y : ViewEntry). stop_at member_search (suc left) 0 y ≡ None) same (stop_front member_search left x ∙ h)
never_later member_search left x es h never (suc j) e at = stop_later member_search left j e ∙ never j e at

before_later : (member_search : MemberSearch) (left : ℕ) (x : ViewEntry) (es : List ViewEntry) (n : ℕ) → stop member_search x ≡ None
    → ((j : ℕ) (e : ViewEntry) → j < n → slice_get es j ≡ Some e → stop_at member_search left j e ≡ None)
    → (j : ℕ) (e : ViewEntry) → j < suc n → slice_get (x ∷ es) j ≡ Some e → stop_at member_search (suc left) j e ≡ None
before_later member_search left x es n h before zero e lt at =
    let same : x ≡ e = cc in subst (λ (y : ViewEntry). stop_at member_search (suc left) 0 y ≡ None) same (stop_front member_search left x ∙ h)
before_later member_search left x es n h before (suc j) e lt at = stop_later member_search left j e ∙ before j e (omega arith) at

first_later : (member_search : MemberSearch) (left : ℕ) (x : ViewEntry) (es : List ViewEntry) (a : Result Answer PlaceFault) → stop member_search x ≡ None → StopsFirst member_search left (InList es) a → StopsFirst member_search (suc left) (InList (x ∷ es)) a
first_later member_search left x es a h s = record {
  index = suc s.index;
  view_entry = s.view_entry;
  stands = s.stands;
  stops = stop_later member_search left s.index s.view_entry ∙ s.stops;
  before = before_later member_search left x es s.index h s.before;
}

answers_later : (member_search : MemberSearch) (left : ℕ) (x : ViewEntry) (es : List ViewEntry) (a : Result Answer PlaceFault) → stop member_search x ≡ None → IsAnswerIn member_search left es a → IsAnswerIn member_search (suc left) (x ∷ es) a
answers_later member_search left x es (Ok (Found m)) h s = first_later member_search left x es (Ok (Found m)) h s
answers_later member_search left x es (Err f) h s = first_later member_search left x es (Err f) h s
answers_later member_search left x es (Ok (Absent n)) h s = never_later member_search left x es h s

first_here : (member_search : MemberSearch) (limit : ℕ) (x : ViewEntry) (es : List ViewEntry) (a : Result Answer PlaceFault) → stop_at member_search limit 0 x ≡ Some a → StopsFirst member_search limit (InList (x ∷ es)) a
first_here member_search limit x es a h = record { index = 0; view_entry = x; stands = refl; stops = h; before = λ j e lt at. absurd (omega arith) }

answers_stop : (member_search : MemberSearch) (left : ℕ) (x : ViewEntry) (es : List ViewEntry) (role : Result Role PlaceFault) (a r : Result Answer PlaceFault) → stop member_search x ≡ stop_by role x → stop_by role x ≡ Some r → IsAnswerIn member_search (suc left) (x ∷ es) r
answers_stop member_search left x es (Ok Fitting) a r h e = subst (IsAnswerIn member_search (suc left) (x ∷ es)) (let same : Ok (Found (found_member x)) ≡ r = cc in same) (first_here member_search (suc left) x es (Ok (Found (found_member x))) (stop_front member_search left x ∙ h))
answers_stop member_search left x es (Err f) a r h e = subst (IsAnswerIn member_search (suc left) (x ∷ es)) (let same : Err f ≡ r = cc in same) (first_here member_search (suc left) x es (Err f) (stop_front member_search left x ∙ h))
answers_stop member_search left x es (Ok Misfit) a r h e = cc
answers_stop member_search left x es (Ok Other) a r h e = cc
answers_stop member_search left x es (Ok (Anonymous id)) a r h e = cc

answers_step : (member_search : MemberSearch) (left : ℕ) (x : ViewEntry) (es : List ViewEntry) (a : Result Answer PlaceFault) (o : Option (Result Answer PlaceFault)) → stop member_search x ≡ o → IsAnswerIn member_search left es a → IsAnswerIn member_search (suc left) (x ∷ es) (or_on o a)
answers_step member_search left x es a None h s = answers_later member_search left x es a h s
answers_step member_search left x es a (Some r) h s = answers_stop member_search left x es (member_search.role_of x.inside x.member) a r refl h

run_answers : (member_search : MemberSearch) (left : ℕ) (es : List ViewEntry) → IsAnswerIn member_search left es (run_search member_search left es)
unfolding run_search
run_answers member_search left [] = λ j e at. cc
run_answers member_search zero (x ∷ es) = first_here member_search 0 x es (Err NestingLevel) refl
run_answers member_search (suc left) (x ∷ es) = answers_step member_search left x es (run_search member_search left es) (stop member_search x) refl (run_answers member_search left es)

carry : (member_search : MemberSearch) (limit : ℕ) (A B : ℕ → ViewEntry → Type 0) (a : Result (Option FoundMember) PlaceFault) → ((k : ℕ) (e : ViewEntry) → A k e → B k e) → ((k : ℕ) (e : ViewEntry) → B k e → A k e)
    → IsFirst member_search limit A a → IsFirst member_search limit B a
carry member_search limit A B (Ok (Some m)) to from s = record { index = s.index; view_entry = s.view_entry; stands = to s.index s.view_entry s.stands; stops = s.stops; before = λ j e lt at. s.before j e lt (from j e at) }
carry member_search limit A B (Err f) to from s = record { index = s.index; view_entry = s.view_entry; stands = to s.index s.view_entry s.stands; stops = s.stops; before = λ j e lt at. s.before j e lt (from j e at) }
carry member_search limit A B (Ok None) to from s = λ j e at. s j e (from j e at)

-- the first fitting member is the first entry by index
pub fitting_is_first : (member_search : MemberSearch) (limit : ℕ) → IsShallow member_search anonymous_levels → (ms : List Member) → IsFirst member_search limit (IsEntry member_search 0 0 ms) (first_fitting member_search limit ms)
unfolding first_fitting
fitting_is_first member_search limit shallow ms =
    carry member_search limit (InList (view member_search anonymous_levels 0 0 ms)) (IsEntry member_search 0 0 ms) (first_fitting member_search limit ms)
    (λ k e at. is_entry member_search anonymous_levels shallow anonymous_levels 0 0 ms (omega arith) k e at)
    (λ k e at. stands member_search anonymous_levels shallow at anonymous_levels (omega arith))
    (run_answers member_search limit (view member_search anonymous_levels 0 0 ms))

-- no two entries have one index
one_entry : (member_search : MemberSearch) (deepest : ℕ) → IsShallow member_search deepest → (ms : List Member) (k : ℕ) (d e : ViewEntry) → IsEntry member_search 0 0 ms k d → IsEntry member_search 0 0 ms k e → d ≡ e
one_entry member_search deepest shallow ms k d e a b =
    let x = stands member_search deepest shallow a deepest (omega arith) in
    let y = stands member_search deepest shallow b deepest (omega arith) in
    cc

-- and so no two answers stand first
one_answer : (member_search : MemberSearch) (deepest limit : ℕ) → IsShallow member_search deepest → (ms : List Member) (a b : Result Answer PlaceFault)
    → StopsFirst member_search limit (IsEntry member_search 0 0 ms) a → StopsFirst member_search limit (IsEntry member_search 0 0 ms) b → a ≡ b
one_answer member_search deepest limit shallow ms a b s t = elim (cases_order s.index t.index) [
  | inl e ↦
      let at : IsEntry member_search 0 0 ms t.index s.view_entry = subst (λ (n : ℕ). IsEntry member_search 0 0 ms n s.view_entry) e s.stands in
      let same = one_entry member_search deepest shallow ms t.index s.view_entry t.view_entry at t.stands in
      let yes = s.stops in let also = t.stops in cc
  | inr (inl lt) ↦ let not_there = t.before s.index s.view_entry lt s.stands in let yes = s.stops in cc
  | inr (inr gt) ↦ let not_there = s.before t.index t.view_entry gt t.stands in let yes = t.stops in cc
]

module _ (member_search : MemberSearch) (limit : ℕ) (ms : List Member) where
  never_or : (a : Result Answer PlaceFault) {P : Type 0} → NeverStops member_search limit (IsEntry member_search 0 0 ms) → StopsFirst member_search limit (IsEntry member_search 0 0 ms) a → P
  never_or a n s = let not_there = n s.index s.view_entry s.stands in let yes = s.stops in cc

  -- no two answers are the first
  pub one_first : (deepest : ℕ) → IsShallow member_search deepest → (a b : Result (Option FoundMember) PlaceFault)
      → IsFirst member_search limit (IsEntry member_search 0 0 ms) a → IsFirst member_search limit (IsEntry member_search 0 0 ms) b → a ≡ b
  one_first deepest shallow (Ok (Some m)) (Ok (Some n)) s t = let one = one_answer member_search deepest limit shallow ms (Ok (Found m)) (Ok (Found n)) s t in cc
  one_first deepest shallow (Ok (Some m)) (Ok None) s t = never_or (Ok (Found m)) t s
  one_first deepest shallow (Ok (Some m)) (Err f) s t = let one = one_answer member_search deepest limit shallow ms (Ok (Found m)) (Err f) s t in cc
  one_first deepest shallow (Ok None) (Ok (Some n)) s t = never_or (Ok (Found n)) s t
  one_first deepest shallow (Ok None) (Ok None) s t = refl
  one_first deepest shallow (Ok None) (Err f) s t = never_or (Err f) s t
  one_first deepest shallow (Err f) (Ok (Some n)) s t = let one = one_answer member_search deepest limit shallow ms (Err f) (Ok (Found n)) s t in cc
  one_first deepest shallow (Err f) (Ok None) s t = never_or (Err f) t s
  one_first deepest shallow (Err f) (Err g) s t = let one = one_answer member_search deepest limit shallow ms (Err f) (Err g) s t in cc
