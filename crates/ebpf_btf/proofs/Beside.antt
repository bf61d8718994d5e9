-- What stands beside the bytes of UNIONs.
use Rattle.std.proofs.Common.{◌≡◌, ◌<◌, ◌≤◌, ◌==◌, ◌&&◌, ℕ, zero, suc, Bool, true, false, cond, nat_lt, List, [], ◌∷◌, ◌++◌, length, Option, Some, None, refl, ap, ◌∙◌, arith}
use Rattle.std.specs.Prelude.{option_map}
use Rattle.std.specs.List.{find, filter}
use Rattle.std.specs.Option.{option_or}
use Rattle.std.proofs.lemmas.Bool.Decides.{nat_tests}
use Rattle.std.proofs.lemmas.List.Elements.{All-append, All-cons}
use Rattle.std.proofs.lemmas.List.Folds.{find-append}
use Rattle.ebpf_base.proofs.Lists.{find-filter}
use Rattle.ebpf_btf.specs.declared.fallback.Enum64Fallback.{Enum64Fallback}
use Rattle.ebpf_btf.specs.declared.fallback.OffsetFallback.{OffsetFallback}
use Rattle.ebpf_btf.specs.declared.members.BtfMember.{BtfMember}
use Rattle.ebpf_btf.specs.declared.types.BtfType.{BtfType}
use Rattle.ebpf_btf.specs.declared.types.BtfType.TheVariants.{Union}
use Rattle.ebpf_btf.specs.Offsets.{AreBeside, beside, fallback_at, with_fallback, without_fallback}
use Rattle.ebpf_btf.specs.Types.{kind_of, name_off}
use Rattle.ebpf_btf.specs.Words.{count_of, fallback_of, has_fallback, type_length}

-- what holds of a type, and of a UNION whatever it was, holds with what stands beside
pub by_union : (P : BtfType → Type 0) (r : Option Enum64Fallback) (t : BtfType) → P t
    → ((n s : ℕ) (k : Bool) (m : List BtfMember) (g : Option Enum64Fallback) (f : Enum64Fallback) → P (Union n s k m g) → P (Union n s k m (Some f)))
    → P (with_fallback r t)
unfolding with_fallback
by_union P (Some f) (Union n s k m g) here union = union n s k m g f here
by_union P r t here union = here

pub kind_with : (r : Option Enum64Fallback) (t : BtfType) → kind_of (with_fallback r t) ≡ kind_of t
unfolding kind_of
kind_with r t = by_union (λ u. kind_of u ≡ kind_of t) r t refl (λ n s k m g f same. same)

pub name_with : (r : Option Enum64Fallback) (t : BtfType) → name_off (with_fallback r t) ≡ name_off t
unfolding name_off
name_with r t = by_union (λ u. name_off u ≡ name_off t) r t refl (λ n s k m g f same. same)

pub length_with : (r : Option Enum64Fallback) (t : BtfType) → type_length (with_fallback r t) ≡ type_length t
unfolding type_length kind_of count_of
length_with r t = by_union (λ u. type_length u ≡ type_length t) r t refl (λ n s k m g f same. same)

-- where a type shows nothing, nothing stands beside it
pub plain_with : (r : Option Enum64Fallback) (t : BtfType) → has_fallback (with_fallback r t) ≡ false → with_fallback r t ≡ t
unfolding fallback_of
plain_with r t = by_union (λ u. has_fallback u ≡ false → u ≡ t) r t (λ none. refl) (λ n s k m g f same none. cc)

-- ---- as the bytes have it

pub kind_without : (t : BtfType) → kind_of (without_fallback t) ≡ kind_of t
unfolding without_fallback kind_of
kind_without (Union x0 x1 x2 x3 x4) = refl
kind_without _ = refl

pub length_without : (t : BtfType) → type_length (without_fallback t) ≡ type_length t
unfolding without_fallback type_length kind_of count_of
length_without (Union x0 x1 x2 x3 x4) = refl
length_without _ = refl

pub with_again : (t : BtfType) → with_fallback (fallback_of t) (without_fallback t) ≡ t
unfolding with_fallback without_fallback fallback_of
with_again (Union x0 x1 x2 x3 None) = refl
with_again (Union x0 x1 x2 x3 (Some f)) = refl
with_again _ = refl

-- ---- by offsets

abbrev stands_at : ℕ → OffsetFallback → Bool
stands_at p f = f.offset == p

-- none stands at the end of the bytes or behind it
none_at : (bytes : List ℕ) (fs : List OffsetFallback) (p : ℕ) → AreBeside bytes fs → length bytes ≤ p → find (stands_at p) fs ≡ None
none_at bytes [] p are past = refl
none_at bytes (f ∷ fs) p are past =
    let below : f.offset < length bytes = are 0 f (omega arith) in
    let other : (f.offset == p) ≡ false = grind (arith, nat_tests) in
    rw other (none_at bytes fs p (λ k d within. are (suc k) d (omega arith)) past)

none_beside_at : (p q : ℕ) (r : Option Enum64Fallback) → q < p → find (stands_at q) (beside p r) ≡ None
none_beside_at p q None below = refl
none_beside_at p q (Some f) below =
    let other : (p == q) ≡ false = grind (arith, nat_tests) in
    rw other refl

or_none : {X : Type 0} (r : Option X) → option_or r None ≡ r
or_none None = refl
or_none (Some x) = refl

-- what is added with a type changes nothing before it
pub fallback_before : (fs : List OffsetFallback) (p q : ℕ) (r : Option Enum64Fallback) → q < p → fallback_at (fs ++ beside p r) q ≡ fallback_at fs q
unfolding fallback_at
fallback_before fs p q r below =
    ap (option_map (λ (f : OffsetFallback). f.fallback))
    (find-append (stands_at q) fs (beside p r) ∙ ap (option_or (find (stands_at q) fs)) (none_beside_at p q r below) ∙ or_none (find (stands_at q) fs))

-- and is what stands beside that type
pub fallback_last : (bytes : List ℕ) (fs : List OffsetFallback) (p : ℕ) (r : Option Enum64Fallback) → AreBeside bytes fs → length bytes ≤ p
    → fallback_at (fs ++ beside p r) p ≡ r
unfolding fallback_at
fallback_last bytes fs p r are past =
    ap (option_map (λ (f : OffsetFallback). f.fallback))
    (find-append (stands_at p) fs (beside p r) ∙ ap (λ before. option_or before (find (stands_at p) (beside p r))) (none_at bytes fs p are past))
    ∙ of_one r
  where
    of_one : (r : Option Enum64Fallback) → option_map (λ (f : OffsetFallback). f.fallback) (find (stands_at p) (beside p r)) ≡ r
    of_one None = refl
    of_one (Some f) =
        let same : (p == p) ≡ true = grind (arith, nat_tests) in
        rw same refl

-- what is taken away behind an offset stands beside no type before it
pub fallback_cut : (fs : List OffsetFallback) (n q : ℕ) → q < n → fallback_at (filter (λ f. nat_lt f.offset n) fs) q ≡ fallback_at fs q
unfolding fallback_at
fallback_cut fs n q below =
    ap (option_map (λ (f : OffsetFallback). f.fallback))
    (find-filter (stands_at q) (λ (f : OffsetFallback). nat_lt f.offset n) fs ∙ ap (λ test. find test fs) (λ i f. same f i))
  where
    by_case : (f : OffsetFallback) (b : Bool) → (f.offset == q) ≡ b → (nat_lt f.offset n && (f.offset == q)) ≡ (f.offset == q)
    by_case f true is =
        let before : nat_lt f.offset n ≡ true = grind (arith, nat_tests) in
        rw before refl
    by_case f false is = rw is (and_false (nat_lt f.offset n))
      where
        and_false : (b : Bool) → (b && false) ≡ false
        and_false true = refl
        and_false false = refl

    same : (f : OffsetFallback) → (nat_lt f.offset n && (f.offset == q)) ≡ (f.offset == q)
    same f = by_case f (f.offset == q) refl

-- ---- all of it beside types that are in the bytes

pub none_beside : (bytes : List ℕ) → AreBeside bytes []
none_beside bytes k d below = absurd (omega arith)

pub beside_longer : (xs ys : List ℕ) (fs : List OffsetFallback) → length xs ≤ length ys → AreBeside xs fs → AreBeside ys fs
beside_longer xs ys fs longer are = λ k d below. let here = are k d below in omega arith

pub beside_one : (ys : List ℕ) (p : ℕ) (r : Option Enum64Fallback) → p < length ys → AreBeside ys (beside p r)
beside_one ys p None below = none_beside ys
beside_one ys p (Some f) below = by_index
  where
    by_index : AreBeside ys (beside p (Some f))
    by_index zero d within = below
    by_index (suc k) d within = absurd (omega arith)

pub beside_added : (xs ys : List ℕ) (fs : List OffsetFallback) (p : ℕ) (r : Option Enum64Fallback) → AreBeside xs fs → length xs ≤ length ys → p < length ys
    → AreBeside ys (fs ++ beside p r)
beside_added xs ys fs p r are longer below =
    All-append (λ (f : OffsetFallback). f.offset < length ys) fs (beside p r) (beside_longer xs ys fs longer are) (beside_one ys p r below)

pub beside_cut : (ys : List ℕ) (fs : List OffsetFallback) (n : ℕ) → n ≤ length ys → AreBeside ys (filter (λ f. nat_lt f.offset n) fs)
beside_cut ys [] n long = none_beside ys
beside_cut ys (f ∷ fs) n long = by_test (beside_cut ys fs n long) (nat_lt f.offset n) refl
  where
    by_test : AreBeside ys (filter (λ f. nat_lt f.offset n) fs) → (b : Bool) → nat_lt f.offset n ≡ b
        → AreBeside ys (cond b (f ∷ filter (λ f. nat_lt f.offset n) fs) (filter (λ f. nat_lt f.offset n) fs))
    by_test rest true is = All-cons (λ (f : OffsetFallback). f.offset < length ys) f (filter (λ f. nat_lt f.offset n) fs) (grind (arith, nat_tests)) rest
    by_test rest false is = rest
