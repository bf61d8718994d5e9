-- Bytes that may not be UTF-8, beside a text.
use Rattle.std.proofs.Common.{◌≡◌, ◌+◌, ◌<◌, ℕ, true, false, List, [], ◌∷◌, ◌++◌, length, take, drop, Option, Some, None, refl, sym, ap, ◌∙◌, drop-drop, arith, length-drop, take_all, ◌-◌}
use Rattle.std.specs.Prelude.{nat_eq, MatchOption, unwrap_or}
use Rattle.std.specs.Option.{option_map_or}
use Rattle.std.specs.Str.{bytes_eq, IsUtf8}
use Rattle.std.specs.Str.Lossy.{after_first_chunk, replacement_bytes, utf8_error_len, utf8_lossy, utf8_valid_len}
use Rattle.std.specs.Cmp.Lexicographic.{pointwise}
use Rattle.std.proofs.lemmas.Bool.Decides.{Decides-eqb, nat_tests}
use Rattle.std.proofs.lemmas.Slice.Eq.{strip_prefix_is}
use Rattle.std.proofs.lemmas.Str.{utf8_lossy_step, utf8_lossy-IsUtf8}
use denote.Ref.{Bor}
use Rattle.ebpf_base.proofs.ZeroBytes.{no_same}

-- what is UTF-8 stands as it is
pub lossy_text : (bytes : List ℕ) → IsUtf8 bytes → utf8_lossy bytes ≡ bytes
lossy_text bytes utf8 = utf8_lossy-IsUtf8 bytes utf8

same_number : (x : ℕ) → nat_eq x x ≡ true
same_number x = grind (arith, nat_tests)

-- after the same front
pub same_after : (front xs ys : List ℕ) → bytes_eq (front ++ xs) (front ++ ys) ≡ bytes_eq xs ys
same_after [] xs ys = refl
same_after (x ∷ front) xs ys = rw (same_number x) (same_after front xs ys)

-- bytes past the text at their front, `len` of which read as U+FFFD
pub lossy_split : (bytes front back : List ℕ) (n len : ℕ) → front ≡ take n bytes → back ≡ drop n bytes → n ≡ utf8_valid_len bytes → n < length bytes
    → len ≡ unwrap_or (utf8_error_len (drop n bytes)) (length back)
    → utf8_lossy bytes ≡ front ++ (replacement_bytes ++ utf8_lossy (take (length back - len) (drop len back)))
lossy_split bytes front back n len is_front is_back valid short wrong =
    let faulty : ¬ (utf8_valid_len bytes ≡ length bytes) = λ same. omega arith in
    let whole : take (length back - len) (drop len back) ≡ drop len back = take_all (length back - len) (drop len back) (omega (arith, length-drop len back)) in
    let invalid : len ≡ unwrap_or (utf8_error_len (drop n bytes)) (length (drop n bytes)) = wrong ∙ ap (λ xs. unwrap_or (utf8_error_len (drop n bytes)) (length xs)) is_back in
    let rest : after_first_chunk bytes ≡ drop len (drop n bytes) = rw (← valid, ← invalid) (sym (drop-drop len n bytes)) in
    let last : after_first_chunk bytes ≡ take (length back - len) (drop len back) = rest ∙ ap (drop len) (sym is_back) ∙ sym whole in
    let first : take (utf8_valid_len bytes) bytes ≡ front = ap (λ k. take k bytes) (sym valid) ∙ sym is_front in
    utf8_lossy_step bytes faulty ∙ (λ i. first i ++ (replacement_bytes ++ utf8_lossy (last i)))

-- what a text that was stripped of a front says of texts with that front
pub stripped : (text front : List ℕ) (left : Option (Bor (List ℕ)))
    → MatchOption left (pointwise nat_eq (take (length front) text) front ≡ false) (λ x. (pointwise nat_eq (take (length front) text) front ≡ true) × (x.now ≡ drop (length front) text) × (length x.now + length front ≡ length text))
    → (rest : List ℕ) → bytes_eq (front ++ rest) text ≡ option_map_or (λ x. bytes_eq rest x.now) left false
stripped text front None given rest =
    let other = strip_prefix_is {E = nat_eq} Decides-eqb text front None given in
    no_same (front ++ rest) text (λ same. other rest (sym same))
stripped text front (Some x) given rest =
    let whole : text ≡ front ++ x.now = strip_prefix_is {E = nat_eq} Decides-eqb text front (Some x) given in
    rw whole (same_after front rest x.now)
