-- The analysis calculates what the machine does.
use Rattle.std.proofs.Common.{◌≡◌, ℕ, zero, suc, ◌+◌, ◌-◌, ◌/◌, ◌%◌, ◌^◌, ◌<◌, ◌≤◌, Bool, true, false, cond, Option, Some, None, refl, sym, ap, ◌∙◌, subst, arith, ℤ, pos, negsuc}
use Rattle.std.specs.Prelude.{◌-ℤ◌, neg_ℤ, int_div, int_rem, unsigned_abs, ◌==◌}
use Rattle.std.specs.Ordering.{int_eq}
use Rattle.std.specs.Int.{Width, w8, w16, w32, w64, cast_signed, cast_unsigned, int_shr}
use Rattle.std.proofs.Math.Facts.{Fits-of_lt, sfits_to_z}
use Rattle.std.proofs.Math.Nat.{div-le_self, mod-le, mod-lt, mod-eq_of_lt}
use Rattle.std.proofs.lemmas.Int.{int_rem_euclid_is, ints, of_z-to_z}
use Rattle.std.proofs.lemmas.Nat.{or_lt, pow_pos, xor_lt}
use Rattle.std.specs.Int.Bits.{and_lt}
use lib.Signed.{mag, mag_rem, mag_shr}
use mir.Syntax.{w128}
use mir.Val.{bits, hbits}
use Rattle.ebpf_parts.specs.declared.insn.bpf_insn.{bpf_insn}
use Rattle.ebpf_reachability.specs.Arithmetic.{computed, compared, extended, extended_32, extended_64, negated, operation_at_offset_0, signed, swapped, truncated}
use Rattle.ebpf_reachability.specs.Effects.{byte_swapped, calculated, class, moved, negation, operation, takes_register}
use Rattle.ebpf_reachability.specs.MachineNumbers.{byte_swap, condition_of, exact_move, exact_negation, exact_of_two, exact_signed, exact_unsigned, holds, in_byte_order, kept, lowest, result_of, width_of, wrapped}
use Rattle.ebpf_reachability.proofs.Order.{Tells}

-- ---- integers modulo 2 to the width

pub wrapped_small : (w : Width) (n : ℕ) → n < 2 ^ bits w → wrapped w (pos n) ≡ n
wrapped_small w n h = mod-eq_of_lt h

wrapped_difference : (w : Width) (x y : ℕ) → y ≤ 2 ^ bits w → wrapped w (pos x -ℤ pos y) ≡ (x + (2 ^ bits w - y)) % 2 ^ bits w
wrapped_difference w x y h =
    ap unsigned_abs (int_rem_euclid_is (pos x -ℤ pos y) (pos (2 ^ bits w)) (2 ^ bits w) 1 (x + (2 ^ bits w - y)) (pow_pos (bits w)) refl (omega (arith, ints)))

wrapped_opposite : (w : Width) (x : ℕ) → x ≤ 2 ^ bits w → wrapped w (neg_ℤ (pos x)) ≡ (2 ^ bits w - x) % 2 ^ bits w
wrapped_opposite w x h =
    ap unsigned_abs (int_rem_euclid_is (neg_ℤ (pos x)) (pos (2 ^ bits w)) (2 ^ bits w) 1 (2 ^ bits w - x) (pow_pos (bits w)) refl (omega (arith, ints)))

pub wrapped_cast : (w : Width) (z : ℤ) → mag z < 2 ^ bits w → wrapped w z ≡ cast_unsigned w z
wrapped_cast w (pos n) h = mod-eq_of_lt h
wrapped_cast w (negsuc n) h =
    let e : n % 2 ^ bits w ≡ n = mod-eq_of_lt h in
    ap (λ (u : ℕ). (2 ^ bits w - 1) - u) e ∙ (omega arith)

pub cast_below : (w : Width) (z : ℤ) → mag z < 2 ^ bits w → cast_unsigned w z < 2 ^ bits w
cast_below w (pos n) h = h
cast_below w (negsuc n) h = omega arith

half_below : (w : Width) → 2 ^ hbits w < 2 ^ bits w
half_below w8 = omega arith
half_below w16 = omega arith
half_below w32 = omega arith
half_below w64 = omega arith
half_below w128 = omega arith

-- a number of so many bits, with its sign
signed_below : (w : Width) (n : ℕ) → n < 2 ^ bits w → mag (cast_signed w n) < 2 ^ hbits w
signed_below w n h = (sfits_to_z {w = w} (Fits-of_lt {w = w} h)).sfits

mag_opposite : (r : ℕ) → mag (neg_ℤ (pos r)) ≤ r
mag_opposite zero = omega arith
mag_opposite (suc r) = omega arith

mag_quotient : (a b : ℤ) → mag (int_div a b) ≤ suc (mag a)
mag_quotient (pos a) (pos b) = let h = div-le_self a b in omega arith
mag_quotient (pos a) (negsuc b) = let h = div-le_self a (suc b) in let k = mag_opposite (a / suc b) in omega arith
mag_quotient (negsuc a) (pos b) = let h = div-le_self (suc a) b in let k = mag_opposite (suc a / b) in omega arith
mag_quotient (negsuc a) (negsuc b) = div-le_self (suc a) (suc b)

-- ---- tables, row by row

-- what the analysis knows of a result, the machine gives
record Gives (w : Width) (e : Option ℤ) (k : Option ℕ) : Type 0 where
  tells : Tells (kept w e) k

rows : {w : Width} (t : Bool) {e f : Option ℤ} {k l : Option ℕ} → Gives w e k → Gives w f l → Gives w (cond t e f) (cond t k l)
rows true p q = p
rows false p q = q

row : {w : Width} {z : ℤ} {m : ℕ} → wrapped w z ≡ m → Gives w (Some z) (Some m)
row e = record { tells = λ n h. ap Some e ∙ h }

nothing : {w : Width} {e : Option ℤ} → Gives w e None
nothing = record { tells = λ n h. cc }

quotient_row : (w : Width) (t : Bool) (x y : ℕ) → x < 2 ^ bits w → wrapped w (pos (cond t 0 (x / y))) ≡ cond t 0 (x / y)
quotient_row w true x y h = wrapped_small w 0 (pow_pos (bits w))
quotient_row w false x y h = wrapped_small w (x / y) (let k = div-le_self x y in omega arith)

remainder_row : (w : Width) (t : Bool) (x y : ℕ) → x < 2 ^ bits w → wrapped w (pos (cond t x (x % y))) ≡ cond t x (x % y)
remainder_row w true x y h = wrapped_small w x h
remainder_row w false x y h = wrapped_small w (x % y) (let k = mod-le x y in omega arith)

unsigned_rows : (w : Width) (op x y : ℕ) → x < 2 ^ bits w → y < 2 ^ bits w → Gives w (exact_unsigned w op x y) (operation_at_offset_0 w op x y)
unsigned_rows w op x y p q =
    let below : (k : ℕ) → x / 2 ^ k < 2 ^ bits w = λ k. (let h = div-le_self x (2 ^ k) in omega arith) in
    let shifted : mag (int_shr (cast_signed w x) (y % bits w)) < 2 ^ bits w = (let h = mag_shr (cast_signed w x) (2 ^ (y % bits w)) in let k = signed_below w x p in let m = half_below w in omega arith) in
    rows (op == 0) (row refl)
    (rows (op == 1) (row (wrapped_difference w x y (omega arith)))
    (rows (op == 2) (row refl)
    (rows (op == 3) (row (quotient_row w (y == 0) x y p))
    (rows (op == 4) (row (wrapped_small w _ (or_lt (bits w) x y p q)))
    (rows (op == 5) (row (wrapped_small w _ (and_lt (bits w) x y p q)))
    (rows (op == 6) (row refl)
    (rows (op == 7) (row (wrapped_small w _ (below (y % bits w))))
    (rows (op == 9) (row (remainder_row w (y == 0) x y p))
    (rows (op == 10) (row (wrapped_small w _ (xor_lt (bits w) x y p q)))
    (rows (op == 12) (row (wrapped_cast w _ shifted)) nothing))))))))))

signed_quotient_row : (w : Width) (t : Bool) (z : ℤ) → mag z < 2 ^ bits w → wrapped w (cond t (pos 0) z) ≡ cond t 0 (cast_unsigned w (cast_signed w (cast_unsigned w z)))
signed_quotient_row w true z h = wrapped_small w 0 (pow_pos (bits w))
signed_quotient_row w false z h = wrapped_cast w z h ∙ sym (of_z-to_z w (cast_unsigned w z) (cast_below w z h))

signed_remainder_row : (w : Width) (t : Bool) (x : ℕ) (z : ℤ) → x < 2 ^ bits w → mag z < 2 ^ bits w → wrapped w (cond t (pos x) z) ≡ cond t x (cast_unsigned w z)
signed_remainder_row w true x z p h = wrapped_small w x p
signed_remainder_row w false x z p h = wrapped_cast w z h

signed_rows : (w : Width) (op x y : ℕ) → x < 2 ^ bits w → Gives w (exact_signed w op x y) (signed w op x y)
signed_rows w op x y p =
    let first = cast_signed w x in
    let second = cast_signed w y in
    let below = signed_below w x p in
    let half = half_below w in
    let fits : mag (int_div first second) < 2 ^ bits w = (let h = mag_quotient first second in omega arith) in
    let rest : mag (int_rem first second) < 2 ^ bits w = (let h = mag_rem first second in omega arith) in
    rows (op == 3) (row (signed_quotient_row w (y == 0) (int_div first second) fits))
    (rows (op == 9) (row (signed_remainder_row w (y == 0) x (int_rem first second) p rest)) nothing)

rows_of_two : (w : Width) (op : ℕ) (offset : ℤ) (x y : ℕ) → x < 2 ^ bits w → y < 2 ^ bits w → Gives w (exact_of_two w op offset x y) (computed w op offset x y)
unfolding computed
rows_of_two w op offset x y p q =
    rows (int_eq offset (pos 0)) (unsigned_rows w op x y p q)
    (rows (int_eq offset (pos 1)) (signed_rows w op x y p) nothing)

low_below : (w : Width) (x : ℕ) → lowest w x < 2 ^ bits w
low_below w x = mod-lt x (pow_pos (bits w))

low_itself : (x : ℕ) → x < 2 ^ 64 → lowest w64 x ≡ x
low_itself x h = mod-eq_of_lt h

two_rows : (t : Bool) (op : ℕ) (offset : ℤ) (x y : ℕ) → x < 2 ^ 64 → y < 2 ^ 64 → Gives (width_of t) (exact_of_two (width_of t) op offset (lowest (width_of t) x) (lowest (width_of t) y)) (cond t (computed w32 op offset (x % 2 ^ 32) (y % 2 ^ 32)) (computed w64 op offset x y))
two_rows true op offset x y p q = rows_of_two w32 op offset (lowest w32 x) (lowest w32 y) (low_below w32 x) (low_below w32 y)
two_rows false op offset x y p q =
    subst (λ (u : ℕ). Gives w64 (exact_of_two w64 op offset u (lowest w64 y)) (computed w64 op offset x y)) (sym (low_itself x p))
    (subst (λ (v : ℕ). Gives w64 (exact_of_two w64 op offset x v) (computed w64 op offset x y)) (sym (low_itself y q)) (rows_of_two w64 op offset x y p q))

-- ---- moves and negation

narrow_row : (w from : Width) (y : ℕ) → 2 ^ hbits from ≤ 2 ^ bits w → wrapped w (cast_signed from (lowest from y)) ≡ extended w from y
narrow_row w from y h = wrapped_cast w _ (let k = signed_below from (lowest from y) (low_below from y) in omega arith)

move_rows : (t u : Bool) (offset : ℤ) (y : ℕ) → y < 2 ^ 64 → Gives (width_of t) (exact_move t u offset y) (cond (int_eq offset (pos 0)) (Some (cond t (y % 2 ^ 32) y)) (cond u (cond t (extended_32 offset y) (extended_64 offset y)) None))
move_rows true true offset y h =
    rows (int_eq offset (pos 0)) (row refl)
    (rows (int_eq offset (pos 8)) (row (narrow_row w32 w8 y (omega arith)))
    (rows (int_eq offset (pos 16)) (row (narrow_row w32 w16 y (omega arith))) nothing))
move_rows false true offset y h =
    rows (int_eq offset (pos 0)) (row (low_itself y h))
    (rows (int_eq offset (pos 8)) (row (narrow_row w64 w8 y (omega arith)))
    (rows (int_eq offset (pos 16)) (row (narrow_row w64 w16 y (omega arith)))
    (rows (int_eq offset (pos 32)) (row (narrow_row w64 w32 y (omega arith))) nothing)))
move_rows true false offset y h = rows (int_eq offset (pos 0)) (row refl) nothing
move_rows false false offset y h = rows (int_eq offset (pos 0)) (row (low_itself y h)) nothing

negation_rows : (t u : Bool) (offset : ℤ) (x : ℕ) → x < 2 ^ 64 → Gives (width_of t) (exact_negation u offset (lowest (width_of t) x)) (cond u None (cond (int_eq offset (pos 0)) (Some (cond t (negated w32 (x % 2 ^ 32)) (negated w64 x))) None))
negation_rows t true offset x h = nothing
negation_rows true false offset x h =
    rows (int_eq offset (pos 0)) (row (wrapped_opposite w32 (lowest w32 x) (let k = low_below w32 x in omega arith))) nothing
negation_rows false false offset x h =
    let same = wrapped_opposite w64 (lowest w64 x) (let k = low_below w64 x in omega arith) in
    rows (int_eq offset (pos 0)) (row (same ∙ ap (λ (u : ℕ). (2 ^ 64 - u) % 2 ^ 64) (low_itself x h))) nothing

-- ---- byte swaps

swaps_same : (size : ℤ) (x : ℕ) → x < 2 ^ 64 → in_byte_order true size x ≡ swapped size x
swaps_same size x h = let e = low_itself x h in rw e

keeps_same : (size : ℤ) (x : ℕ) → x < 2 ^ 64 → in_byte_order false size x ≡ truncated size x
keeps_same size x h = let e = low_itself x h in rw e

swap_rows : (t u : Bool) (size : ℤ) (x : ℕ) → x < 2 ^ 64 → byte_swap t u size x ≡ cond t (cond u (swapped size x) (truncated size x)) (cond u None (swapped size x))
swap_rows true true size x h = swaps_same size x h
swap_rows true false size x h = keeps_same size x h
swap_rows false true size x h = refl
swap_rows false false size x h = swaps_same size x h

-- ---- an instruction of arithmetic, where both operands are known

abbrev pub told : bpf_insn → ℕ → ℕ → Option ℕ
told slot x y =
    cond (operation slot == 11) (moved slot y)
    (cond (operation slot == 8) (negation slot x)
    (cond (operation slot == 13) (byte_swapped slot x)
    (calculated slot x y)))

as_told : {x y : Option ℕ} → x ≡ y → Tells x y
as_told e n h = e ∙ h

pub told_on : (t : Bool) {x y s u : Option ℕ} → Tells x y → Tells s u → Tells (cond t x s) (cond t y u)
told_on true p q = p
told_on false p q = q

moves_told : (slot : bpf_insn) (y : ℕ) → y < 2 ^ 64 → Gives (width_of (class slot == 4)) (exact_move (class slot == 4) (takes_register slot) slot.off y) (moved slot y)
moves_told slot y h = move_rows (class slot == 4) (takes_register slot) slot.off y h

negation_told : (slot : bpf_insn) (x : ℕ) → x < 2 ^ 64 → Gives (width_of (class slot == 4)) (exact_negation (takes_register slot) slot.off (lowest (width_of (class slot == 4)) x)) (negation slot x)
negation_told slot x h = negation_rows (class slot == 4) (takes_register slot) slot.off x h

two_told : (slot : bpf_insn) (x y : ℕ) → x < 2 ^ 64 → y < 2 ^ 64 → Gives (width_of (class slot == 4)) (exact_of_two (width_of (class slot == 4)) (operation slot) slot.off (lowest (width_of (class slot == 4)) x) (lowest (width_of (class slot == 4)) y)) (calculated slot x y)
two_told slot x y p q = two_rows (class slot == 4) (operation slot) slot.off x y p q

pub result_told : (slot : bpf_insn) (x y : ℕ) → x < 2 ^ 64 → y < 2 ^ 64 → Tells (result_of (class slot == 4) slot x y) (told slot x y)
result_told slot x y p q =
    told_on (operation slot == 11) (moves_told slot y q).tells
    (told_on (operation slot == 8) (negation_told slot x p).tells
    (told_on (operation slot == 13) (as_told (swap_rows (class slot == 4) (takes_register slot) slot.imm x p))
    (two_told slot x y p q).tells))

pub condition_told : (slot : bpf_insn) (t : Bool) (x y : ℕ) → x < 2 ^ 64 → y < 2 ^ 64 → condition_of t slot x y ≡ cond t (compared w32 (operation slot) (x % 2 ^ 32) (y % 2 ^ 32)) (compared w64 (operation slot) x y)
condition_told slot true x y p q = refl
condition_told slot false x y p q =
    ap (λ (u : ℕ). holds w64 (operation slot) u (lowest w64 y)) (low_itself x p) ∙ ap (λ (v : ℕ). holds w64 (operation slot) x v) (low_itself y q)
