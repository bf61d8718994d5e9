-- Names that are too long for a text.
use Rattle.std.proofs.Common.{◌≡◌, ◌+◌, ◌≤◌, ℕ, zero, suc, Bool, true, false, cond, List, [], length, take, drop, ◌-◌, take_all, length-drop, nat_lt, Option, Some, None, refl, sym, ap, ◌∙◌, arith}
use Rattle.std.specs.Prelude.{◌==◌, is_some}
use Rattle.std.specs.List.{position}
use Rattle.std.proofs.lemmas.Bool.Decides.{nat_tests}
use Rattle.std.proofs.lemmas.List.{length-take, drop_all}
use Rattle.ebpf_base.proofs.ZeroBytes.{front, front_take}
use Rattle.ebpf_btf.specs.Strings.{before_zero, is_text, text_at, text_or_fault}
use Rattle.ebpf_btf.proofs.NearTexts.{near_text}

-- no zero byte among bytes, so none among the first of them
fewer : (k n : ℕ) (xs : List ℕ) → k ≤ n → position (λ b. b == 0) (take n xs) ≡ None → before_zero (take k xs) ≡ None
fewer k n xs le none = by_test (nat_lt (front (take n xs)) (length (take n xs))) refl none
  where
    by_test : (b : Bool) → nat_lt (front (take n xs)) (length (take n xs)) ≡ b → cond b (Some (front (take n xs))) None ≡ None → before_zero (take k xs) ≡ None
    by_test true inside wrong = absurd (cc)
    by_test false outside _ =
        let over : nat_lt (front (take k xs)) (length (take k xs)) ≡ false =
        let far : length (take n xs) ≤ front (take n xs) = grind (arith, nat_tests) in
        let a = front_take k xs in let b = front_take n xs in let d = length-take k xs in let e = length-take n xs in
        let c : length (take k xs) ≤ front (take k xs) = omega arith in grind (arith, nat_tests) in
        rw over refl

-- a text that doesn't end among so many bytes is none of the shorter ones
pub too_long : (strings bytes text : List ℕ) (offset longest : ℕ) → bytes ≡ take (longest + 1) (drop offset strings) → is_some (position (λ b. b == 0) bytes) ≡ false → length text ≤ longest
    → is_text text (text_at strings offset) ≡ false
unfolding text_at
too_long strings bytes text offset longest are none short =
    let from = drop offset strings in
    let nowhere : position (λ b. b == 0) (take (longest + 1) from) ≡ None = no_value (position (λ b. b == 0) (take (longest + 1) from)) (ap (λ l. is_some (position (λ b. b == 0) l)) (sym are) ∙ none) in
    sym (near_text offset from text) ∙ ap (λ b. is_text text (text_or_fault offset b)) (fewer (length text + 1) (longest + 1) from (omega arith) nowhere)
  where
    no_value : (o : Option ℕ) → is_some o ≡ false → o ≡ None
    no_value None h = refl
    no_value (Some x) h = absurd (cc)

no_more : (n : ℕ) → take {A = ℕ} n [] ≡ []
no_more zero = refl
no_more (suc n) = refl

-- past the end there are no bytes
pub none_past : (strings : List ℕ) (offset n : ℕ) → length strings ≤ offset → take n (drop offset strings) ≡ []
none_past strings offset n past = ap (take n) (drop_all offset strings past) ∙ no_more n

-- all that are there
pub all_near : (strings from : List ℕ) (offset longest : ℕ) → from ≡ take (length strings - offset) (drop offset strings) → length from ≤ longest → from ≡ take (longest + 1) (drop offset strings)
all_near strings from offset longest is few =
    let whole : from ≡ drop offset strings = is ∙ take_all (length strings - offset) (drop offset strings) (omega (arith, length-drop offset strings)) in
    whole ∙ sym (take_all (longest + 1) (drop offset strings) (omega (arith, ap length whole)))
