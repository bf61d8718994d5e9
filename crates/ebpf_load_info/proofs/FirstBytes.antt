-- A text is known not to stand at an offset of strings by the first byte there.
use Rattle.std.proofs.Common.{◌≡◌, ◌⊎◌, ℕ, zero, suc, Bool, true, false, cond, List, [], ◌∷◌, ◌++◌, length, take, drop, nat_lt, Some, None, refl, sym, ap, ◌∙◌, inl, inr, slice_get}
use Rattle.std.specs.Prelude.{◌==◌, ◌≢◌, option_map, nat_eq, not}
use Rattle.std.proofs.lemmas.Bool.Decides.{eqb_tells}
use Rattle.std.proofs.lemmas.Str.{utf8_lossy_empty}
use Rattle.std.specs.Str.Lossy.{after_first_chunk, replacement_bytes, utf8_lossy, utf8_lossy_within, utf8_valid_len}
use Rattle.ebpf_base.proofs.ZeroBytes.{front, no_same}
use Rattle.ebpf_btf.specs.Strings.{before_zero, is_text, text_at, text_or_fault}

-- numbers that a test tells apart
pub apart : (a b : ℕ) → not (nat_eq a b) ≡ true → a ≢ b
apart a b differ = by_test (eqb_tells a b)
  where
    by_test : ((nat_eq a b ≡ true) × (a ≡ b)) ⊎ ((nat_eq a b ≡ false) × (a ≢ b)) → a ≢ b
    by_test (inl (same, _)) = let never : false ≡ true = sym (ap not same) ∙ differ in cc
    by_test (inr (_, other)) = other

same_head : (x y : ℕ) (xs ys : List ℕ) → ◌≡◌ {A = List ℕ} (x ∷ xs) (y ∷ ys) → x ≡ y
same_head x y xs ys e = cc

nothing : (x : ℕ) (xs : List ℕ) → ◌≡◌ {A = List ℕ} [] (x ∷ xs) → ⊥
nothing x xs e = cc

-- a text begins with the first of its bytes, or with U+FFFD
begins : (b : ℕ) (bs : List ℕ) (x : ℕ) (xs : List ℕ) → utf8_lossy (b ∷ bs) ≡ x ∷ xs → (x ≡ b) ⊎ (x ≡ 239)
unfolding utf8_lossy
begins b bs x xs e = by_whole (utf8_valid_len (b ∷ bs) == length (b ∷ bs)) (utf8_valid_len (b ∷ bs)) e
  where
    rest : List ℕ
    rest = replacement_bytes ++ utf8_lossy_within (length bs) (after_first_chunk (b ∷ bs))

    by_whole : (whole : Bool) (n : ℕ) → cond whole (b ∷ bs) (take n (b ∷ bs) ++ rest) ≡ x ∷ xs → (x ≡ b) ⊎ (x ≡ 239)
    by_whole true n is = inl (same_head x b xs bs (sym is))
    by_whole false zero is = inr (same_head _ _ _ _ (sym is))
    by_whole false (suc n) is = inl (same_head _ _ _ _ (sym is))

module _ (offset byte wanted : ℕ) (text : List ℕ) (plain : wanted ≢ 239) (differ : byte ≢ wanted) where
  -- the text of bytes that begin otherwise
  other : (rest : List ℕ) (n : ℕ) → is_text (wanted ∷ text) (text_or_fault offset (Some (take n (byte ∷ rest)))) ≡ false
  other rest zero = no_same (utf8_lossy []) (wanted ∷ text) (λ same. nothing wanted text (sym (utf8_lossy_empty [] refl) ∙ same))
  other rest (suc n) = no_same (utf8_lossy (byte ∷ take n rest)) (wanted ∷ text) (λ same. clash (begins byte (take n rest) wanted text same))
    where
      clash : (wanted ≡ byte) ⊎ (wanted ≡ 239) → ⊥
      clash (inl same) = differ (sym same)
      clash (inr same) = plain same

  at_front : (from rest : List ℕ) → from ≡ byte ∷ rest → is_text (wanted ∷ text) (text_or_fault offset (before_zero from)) ≡ false
  at_front from rest is =
      ap (λ all. is_text (wanted ∷ text) (text_or_fault offset (before_zero all))) is
      ∙ by_end (nat_lt (front (byte ∷ rest)) (length (byte ∷ rest))) (front (byte ∷ rest))
    where
      by_end : (ends : Bool) (n : ℕ) → is_text (wanted ∷ text) (text_or_fault offset (option_map (λ n. take n (byte ∷ rest)) (cond ends (Some n) None))) ≡ false
      by_end true n = other rest n
      by_end false n = refl

-- the bytes from an offset on
from_there : (strings : List ℕ) (offset byte : ℕ) → slice_get strings offset ≡ Some byte → (rest : List ℕ) × (drop offset strings ≡ byte ∷ rest)
from_there [] offset byte at = cc
from_there (b ∷ strings) zero byte at = (strings, (let same : b ≡ byte = cc in ap (λ x. x ∷ strings) same))
from_there (b ∷ strings) (suc offset) byte at = from_there strings offset byte at

pub otherwise : (strings text : List ℕ) (offset byte wanted : ℕ) → slice_get text 0 ≡ Some wanted → slice_get strings offset ≡ Some byte → wanted ≢ 239 → byte ≢ wanted
    → is_text text (text_at strings offset) ≡ false
unfolding text_at
otherwise strings [] offset byte wanted first at plain differ = cc
otherwise strings (w ∷ text) offset byte wanted first at plain differ =
    let same : wanted ≡ w = cc in
    let (rest, is) = from_there strings offset byte at in
    ap (λ x. is_text (x ∷ text) (text_or_fault offset (before_zero (drop offset strings)))) (sym same)
    ∙ at_front offset byte wanted text plain differ (drop offset strings) rest is
