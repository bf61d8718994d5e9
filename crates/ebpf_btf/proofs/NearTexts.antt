-- A text that is compared within its length.
use Rattle.std.proofs.Common.{◌≡◌, ◌+◌, ◌-◌, ◌<◌, ◌≤◌, ℕ, zero, suc, Bool, true, false, cond, List, ◌++◌, length, take, drop, nat_lt, Option, Some, None, refl, sym, ap, ◌∙◌, arith, ⊎_elim, length-append, length-drop, take_all}
use Rattle.std.specs.Prelude.{◌==◌, option_map, slice_index, unwrap_or}
use Rattle.std.specs.Str.{bytes_eq}
use Rattle.std.specs.Int.{is_in_range}
use Rattle.std.specs.Str.Lossy.{after_first_chunk, error_len_after_one, error_len_after_two, error_len_of_some, second_byte_max, second_byte_min, replacement_bytes, utf8_error_len, utf8_lossy, utf8_lossy_within, utf8_invalid_len, utf8_valid_len}
use Rattle.std.proofs.lemmas.Bool.{cases_lt}
use Rattle.std.proofs.lemmas.Bool.Decides.{nat_tests}
use Rattle.std.proofs.lemmas.List.{length-take}
use Rattle.ebpf_base.proofs.ZeroBytes.{front, near, far, no_same}
use Rattle.ebpf_btf.specs.Strings.{before_zero, is_text, text_at, text_or_fault}

-- ---- U+FFFD is not shorter than what it stands for

cond_cases : {A : Type 0} (P : A → Type 0) (b : Bool) (x y : A) → (b ≡ true → P x) → P y → P (cond b x y)
cond_cases P true x y p q = p refl
cond_cases P false x y p q = q

invalid_short : (bs : List ℕ) → utf8_invalid_len bs ≤ 3
unfolding utf8_error_len
invalid_short bs =
    let P : Option ℕ → Type 0 = λ o. unwrap_or o (length bs) ≤ 3 in
    let one : P (Some 1) = omega arith in
    let two : P (Some 2) = omega arith in
    let three : P (Some 3) = omega arith in
    let below_4 : nat_lt (length bs) 4 ≡ true → length bs ≤ 3 = λ e. grind (arith, nat_tests) in
    let below_3 : nat_lt (length bs) 3 ≡ true → length bs ≤ 3 = λ e. grind (arith, nat_tests) in
    let below_2 : nat_lt (length bs) 2 ≡ true → length bs ≤ 3 = λ e. grind (arith, nat_tests) in
    let none : (length bs == 0) ≡ true → length bs ≤ 3 = λ e. grind (arith, nat_tests) in
    let x = slice_index bs 0 in
    let first = is_in_range 0xC2 0xF4 x in
    let second = is_in_range (second_byte_min x) (second_byte_max x) (slice_index bs 1) in
    let third = is_in_range 0x80 0xBF (slice_index bs 2) in
    let last = cond (nat_lt (length bs) 4) None (Some 3) in
    let after_three : P last = cond_cases P (nat_lt (length bs) 4) None (Some 3) below_4 three in
    let after_two : P (error_len_after_two bs) =
    cond_cases P (nat_lt (length bs) 3) None (cond third last (Some 2)) below_3 (cond_cases P third last (Some 2) (λ _. after_three) two) in
    let after_one : P (error_len_after_one bs) =
    cond_cases P (nat_lt (length bs) 2) None (cond second (error_len_after_two bs) (Some 1)) below_2 (cond_cases P second (error_len_after_two bs) (Some 1) (λ _. after_two) one) in
    cond_cases P (length bs == 0) None (error_len_of_some bs) none (cond_cases P first (error_len_after_one bs) (Some 1) (λ _. after_one) one)

longer_within : (k : ℕ) (bs : List ℕ) → length bs ≤ length (utf8_lossy_within k bs)
longer_within zero bs = omega arith
longer_within (suc k) bs = by_whole (utf8_valid_len bs == length bs) (longer_within k (after_first_chunk bs))
  where
    by_whole : (b : Bool) → length (after_first_chunk bs) ≤ length (utf8_lossy_within k (after_first_chunk bs))
        → length bs ≤ length (cond b bs (take (utf8_valid_len bs) bs ++ (replacement_bytes ++ utf8_lossy_within k (after_first_chunk bs))))
    by_whole true more = omega arith
    by_whole false more =
        let n = utf8_valid_len bs in
        let wrong = invalid_short (drop n bs) in
        let rest = utf8_lossy_within k (after_first_chunk bs) in
        omega (arith, length-append (take n bs) (replacement_bytes ++ rest), length-take n bs, length-drop (n + utf8_invalid_len (drop n bs)) bs)

lossy_longer : (bs : List ℕ) → length bs ≤ length (utf8_lossy bs)
unfolding utf8_lossy
lossy_longer bs = longer_within (length bs) bs

-- a text is found by as many bytes as it has, and one
pub near_text : (offset : ℕ) (from text : List ℕ)
    → is_text text (text_or_fault offset (before_zero (take (length text + 1) from))) ≡ is_text text (text_or_fault offset (before_zero from))
near_text offset from text = ⊎_elim
    (λ (less : front from < length text + 1). ap (λ b. is_text text (text_or_fault offset b)) (near (length text + 1) from less))
    (λ (more : length text + 1 ≤ front from).
    ap (λ b. is_text text (text_or_fault offset b)) (far (length text + 1) from more) ∙ sym (by_test (nat_lt (front from) (length from)) refl more))
    (cases_lt (front from) (length text + 1))
  where
    by_test : (b : Bool) → nat_lt (front from) (length from) ≡ b → length text + 1 ≤ front from
        → is_text text (text_or_fault offset (option_map (λ n. take n from) (cond b (Some (front from)) None))) ≡ false
    by_test true inside more =
        let less : front from < length from = grind (arith, nat_tests) in
        no_same (utf8_lossy (take (front from) from)) text
        (λ same. omega (arith, ap length same, lossy_longer (take (front from) from), length-take (front from) from))
    by_test false outside more = refl

-- the bytes at an offset of strings
rest_of : (strings : List ℕ) (offset : ℕ) → take (length strings - offset) (drop offset strings) ≡ drop offset strings
rest_of strings offset = take_all (length strings - offset) (drop offset strings) (omega (arith, length-drop offset strings))

pub found_near : (strings text from found : List ℕ) (offset count : ℕ) → from ≡ take count (take (length strings - offset) (drop offset strings)) → count ≡ length text + 1
    → Some found ≡ before_zero from → bytes_eq (utf8_lossy found) text ≡ is_text text (text_at strings offset)
unfolding text_at
found_near strings text from found offset count is many there =
    let near : from ≡ take (length text + 1) (drop offset strings) = is ∙ (λ i. take (many i) (rest_of strings offset i)) in
    ap (λ b. is_text text (text_or_fault offset b)) (there ∙ ap before_zero near) ∙ near_text offset (drop offset strings) text

pub missing_near : (strings text from : List ℕ) (offset count : ℕ) → from ≡ take count (take (length strings - offset) (drop offset strings)) → count ≡ length text + 1
    → None ≡ before_zero from → false ≡ is_text text (text_at strings offset)
unfolding text_at
missing_near strings text from offset count is many there =
    let near : from ≡ take (length text + 1) (drop offset strings) = is ∙ (λ i. take (many i) (rest_of strings offset i)) in
    ap (λ b. is_text text (text_or_fault offset b)) (there ∙ ap before_zero near) ∙ near_text offset (drop offset strings) text
