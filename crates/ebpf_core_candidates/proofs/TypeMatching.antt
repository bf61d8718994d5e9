-- Steps of matches: over lists of parts and parameters, and along pointers.
use Rattle.std.proofs.Common.{◌≡◌, ◌≤◌, ◌<◌, ◌-◌, ◌+◌, ℕ, zero, suc, Bool, true, false, List, [], ◌∷◌, length, drop, Option, Some, None, Result, Ok, Err, refl, sym, ap, ◌∙◌, arith, inl, inr, slice_get, subst}
use Rattle.std.specs.List.{zip}
use Rattle.std.proofs.lemmas.Option.{slice_get-map, slice_get_cases, slice_get_past}
use Rattle.std.specs.Prelude.{is_some, not, map, option_and_then, option_map, unwrap_or}
use Rattle.ebpf_base.specs.Faults.{if_ok}
use Rattle.ebpf_btf.specs.Next.{if_some}
use Rattle.ebpf_btf.specs.Types.{members_of}
use Rattle.ebpf_btf.specs.Variants.{variants_of}
use Rattle.ebpf_btf.specs.declared.members.BtfMember.{BtfMember}
use Rattle.ebpf_btf.specs.declared.types.BtfType.{BtfType}
use Rattle.ebpf_btf.specs.declared.variants.BtfVariant.{BtfVariant}
use Rattle.ebpf_btf.proofs.InOrder.{drop_none, drop_some}
use Rattle.ebpf_btf.specs.declared.error.BtfError.{BtfError}
use Rattle.ebpf_btf.specs.declared.error.BtfError.TheVariants.{MaximumTypeDepth}
use Rattle.ebpf_core_candidates.specs.TypeMatches.{MatchSides, Matching, all_match, any_matches, enumerator_part, matched_from, member_part, parts_of, walk, walk_step, walked_on}
use Rattle.ebpf_core_candidates.specs.declared.match_tests.MatchedPair.{MatchedPair}
use Rattle.ebpf_core_candidates.specs.declared.match_tests.NamedPart.{NamedPart}
use Rattle.ebpf_core_candidates.specs.declared.type_match.MatchAnswer.{MatchAnswer}
use Rattle.ebpf_core_candidates.specs.declared.type_match.MatchWalk.TheVariants.{Found, Onward}

abbrev Answer : Type 0
Answer = Result MatchAnswer BtfError

-- where no item is, none is left
left_none : {X : Type 0} (xs : List X) (k : ℕ) → slice_get xs k ≡ None → drop k xs ≡ []
left_none xs k none = elim (slice_get_cases xs k).1 [
  | inl within ↦ let no : None ≡ Some within.0 = sym none ∙ within.2 in cc
  | inr past ↦ drop_none xs k past.0
]

-- what its opposite says of a test

pub fails_by : (b : Bool) → not b ≡ true → b ≡ false
fails_by true is = sym is
fails_by false is = refl

pub holds_by : (b : Bool) → not b ≡ false → b ≡ true
holds_by true is = refl
holds_by false is = sym is

-- ---- parts by their indices

module _ (t : BtfType) (k : ℕ) where
  listed : (o : Option (List BtfVariant)) (members : List NamedPart) (r : Option BtfVariant) → is_some o ≡ true → r ≡ option_and_then (λ vs. slice_get vs k) o
      → option_map enumerator_part r ≡ slice_get (if_some o (map enumerator_part) members) k
  listed None members r some is = cc
  listed (Some vs) members r some is = ap (option_map enumerator_part) is ∙ sym (slice_get-map enumerator_part vs k)

  pub enumerator_there : (v : BtfVariant) → is_some (variants_of t) ≡ true → Some v ≡ option_and_then (λ vs. slice_get vs k) (variants_of t) → Some (enumerator_part v) ≡ slice_get (parts_of t) k
  enumerator_there v some is = listed (variants_of t) (map member_part (unwrap_or (members_of t) [])) (Some v) some is

  pub enumerator_missing : is_some (variants_of t) ≡ true → None ≡ option_and_then (λ vs. slice_get vs k) (variants_of t) → None ≡ slice_get (parts_of t) k
  enumerator_missing some is = listed (variants_of t) (map member_part (unwrap_or (members_of t) [])) None some is

  only_members : (o : Option (List BtfVariant)) (ms : List BtfMember) → is_some o ≡ false → if_some o (map enumerator_part) (map member_part ms) ≡ map member_part ms
  only_members None ms none = refl
  only_members (Some vs) ms none = cc

  pub member_there : (ms : List BtfMember) (m : BtfMember) → is_some (variants_of t) ≡ false → Some ms ≡ members_of t → Some m ≡ slice_get ms k → Some (member_part m) ≡ slice_get (parts_of t) k
  member_there ms m none are is =
      ap (option_map member_part) is ∙ sym (slice_get-map member_part ms k)
      ∙ ap (λ o. slice_get (map member_part (unwrap_or o [])) k) are
      ∙ sym (ap (λ ps. slice_get ps k) (only_members (variants_of t) (unwrap_or (members_of t) []) none))

  pub member_missing : (ms : List BtfMember) → is_some (variants_of t) ≡ false → Some ms ≡ members_of t → None ≡ slice_get ms k → None ≡ slice_get (parts_of t) k
  member_missing ms none are is =
      ap (option_map member_part) is ∙ sym (slice_get-map member_part ms k)
      ∙ ap (λ o. slice_get (map member_part (unwrap_or o [])) k) are
      ∙ sym (ap (λ ps. slice_get ps k) (only_members (variants_of t) (unwrap_or (members_of t) []) none))

  pub no_members : is_some (variants_of t) ≡ false → None ≡ members_of t → None ≡ slice_get (parts_of t) k
  no_members none are =
      sym (slice_get_past [] k (omega arith))
      ∙ ap (λ o. slice_get (map member_part (unwrap_or o [])) k) are
      ∙ sym (ap (λ ps. slice_get ps k) (only_members (variants_of t) (unwrap_or (members_of t) []) none))

-- ---- lists of which all match, or one

module _ {X : Type 0} (test : ℕ → X → Answer) (xs : List X) (k left : ℕ) where
  pub all_end : length xs ≤ k → all_match test (drop k xs) left ≡ Ok (record { matches = true; left = left })
  all_end past = ap (λ ys. all_match test ys left) (drop_none xs k past)

  pub all_none : slice_get xs k ≡ None → all_match test (drop k xs) left ≡ Ok (record { matches = true; left = left })
  all_none none = ap (λ ys. all_match test ys left) (left_none xs k none)

  pub any_end : length xs ≤ k → any_matches test (drop k xs) left ≡ Ok (record { matches = false; left = left })
  any_end past = ap (λ ys. any_matches test ys left) (drop_none xs k past)

  pub any_none : slice_get xs k ≡ None → any_matches test (drop k xs) left ≡ Ok (record { matches = false; left = left })
  any_none none = ap (λ ys. any_matches test ys left) (left_none xs k none)

  module _ (x : X) (here : slice_get xs k ≡ Some x) where
    pub all_fails : (e : BtfError) → test left x ≡ Err e → all_match test (drop k xs) left ≡ Err e
    all_fails e is = rw (drop_some xs x k here, is) refl

    pub any_fails : (e : BtfError) → test left x ≡ Err e → any_matches test (drop k xs) left ≡ Err e
    any_fails e is = rw (drop_some xs x k here, is) refl

    module _ (a : MatchAnswer) (is : test left x ≡ Ok a) where
      pub all_on : a.matches ≡ true → all_match test (drop k xs) left ≡ all_match test (drop (k + 1) xs) a.left
      all_on same = rw (drop_some xs x k here, is, same) refl

      pub all_stops : a.matches ≡ false → all_match test (drop k xs) left ≡ Ok a
      all_stops same = rw (drop_some xs x k here, is, same) refl

      pub any_on : a.matches ≡ false → any_matches test (drop k xs) left ≡ any_matches test (drop (k + 1) xs) a.left
      any_on same = rw (drop_some xs x k here, is, same) refl

      pub any_stops : a.matches ≡ true → any_matches test (drop k xs) left ≡ Ok a
      any_stops same = rw (drop_some xs x k here, is, same) refl

-- ---- two lists side by side

module _ {X : Type 0} (test : ℕ → X × X → Answer) (xs ys : List X) (k left : ℕ) where
  zip_nothing : (zs : List X) → zip {X = X} zs [] ≡ []
  zip_nothing [] = refl
  zip_nothing (z ∷ zs) = refl

  pub both_end : length xs ≤ k → all_match test (zip (drop k xs) (drop k ys)) left ≡ Ok (record { matches = true; left = left })
  both_end past = ap (λ zs. all_match test (zip zs (drop k ys)) left) (drop_none xs k past)

  pub both_none : slice_get ys k ≡ None → all_match test (zip (drop k xs) (drop k ys)) left ≡ Ok (record { matches = true; left = left })
  both_none none = ap (λ zs. all_match test (zip (drop k xs) zs) left) (left_none ys k none) ∙ ap (λ zs. all_match test zs left) (zip_nothing (drop k xs))

  module _ (x y : X) (here : slice_get xs k ≡ Some x) (there : slice_get ys k ≡ Some y) where
    pub both_fail : (e : BtfError) → test left (x, y) ≡ Err e → all_match test (zip (drop k xs) (drop k ys)) left ≡ Err e
    both_fail e is = rw (drop_some xs x k here, drop_some ys y k there, is) refl

    module _ (a : MatchAnswer) (is : test left (x, y) ≡ Ok a) where
      pub both_on : a.matches ≡ true → all_match test (zip (drop k xs) (drop k ys)) left ≡ all_match test (zip (drop (k + 1) xs) (drop (k + 1) ys)) a.left
      both_on same = rw (drop_some xs x k here, drop_some ys y k there, is, same) refl

      pub both_stop : a.matches ≡ false → all_match test (zip (drop k xs) (drop k ys)) left ≡ Ok a
      both_stop same = rw (drop_some xs x k here, drop_some ys y k there, is, same) refl

-- ---- a walk of which k steps are over

module _ (below : Matching) (sides : MatchSides) (k left : ℕ) (pair : MatchedPair) where
  one_step : k < 32 → walk below sides (32 - k) left pair ≡ if_ok (walk_step below sides left pair) (walked_on (walk below sides (32 - (k + 1))))
  unfolding walk
  one_step more =
      let next : 32 - k ≡ suc (32 - (k + 1)) = omega arith in
      rw next refl

  pub walk_fails : k < 32 → (e : BtfError) → walk_step below sides left pair ≡ Err e → walk below sides (32 - k) left pair ≡ Err e
  walk_fails more e is = rw (one_step more, is) refl

  pub walk_ends : k < 32 → (a : MatchAnswer) → walk_step below sides left pair ≡ Ok (Found a) → walk below sides (32 - k) left pair ≡ Ok a
  walk_ends more a is = rw (one_step more, is) refl

  pub walk_on : k < 32 → (next : MatchedPair) (rest : ℕ) → walk_step below sides left pair ≡ Ok (Onward next rest) → walk below sides (32 - k) left pair ≡ walk below sides (32 - (k + 1)) rest next
  walk_on more next rest is = rw (one_step more, is) refl

  pub walk_over : 32 ≤ k → walk below sides (32 - k) left pair ≡ Err (MaximumTypeDepth sides.root)
  unfolding walk
  walk_over over =
      let none : 32 - k ≡ zero = omega arith in
      rw none refl

-- ---- levels

pub no_level : (sides : MatchSides) (levels left : ℕ) (pair : MatchedPair) → levels ≡ 0 → matched_from sides levels left pair ≡ Err (MaximumTypeDepth sides.root)
unfolding matched_from
no_level sides levels left pair none = rw none refl

pub one_level : (sides : MatchSides) (levels left : ℕ) (pair : MatchedPair) → 0 < levels → matched_from sides levels left pair ≡ walk (matched_from sides (levels - 1)) sides 32 left pair
unfolding matched_from
one_level sides levels left pair some =
    let next : levels ≡ suc (levels - 1) = omega arith in
    let same : suc (levels - 1) - 1 ≡ levels - 1 = omega arith in
    subst (λ n. matched_from sides n left pair ≡ walk (matched_from sides (n - 1)) sides 32 left pair) (sym next) (rw same refl)
