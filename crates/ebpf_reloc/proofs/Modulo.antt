-- Sums of whole numbers modulo 2 ^ 64.
use Rattle.std.proofs.Common.{◌≡◌, ℕ, suc, ◌+◌, ◌-◌, ◌*◌, ◌/◌, ◌%◌, ◌^◌, refl, sym, ap, ◌∙◌, arith}
use Rattle.std.proofs.Math.Nat.{add-mul-mod_self_left}
use Rattle.std.proofs.lemmas.Int.{int_rem_euclid_is, ints}
use Rattle.std.specs.Int.{w64, cast_unsigned}
use Rattle.std.specs.Int.RustNames.{FitsSigned}
use Rattle.std.specs.Prelude.{ℤ, pos, negsuc, ◌+ℤ◌, unsigned_abs}
use Rattle.ebpf_reloc.specs.SlotTargets.{modulo}

modulo_is : (z : ℤ) (m : ℕ) → z +ℤ pos (1 * 2 ^ 64) ≡ pos m → modulo z ≡ m % 2 ^ 64
unfolding modulo
modulo_is z m e = ap unsigned_abs (int_rem_euclid_is z (pos (2 ^ 64)) (2 ^ 64) 1 m (omega arith) refl e)

-- the number that is 2 ^ 64 above a number of 64 bits
above : ℤ → ℕ
above (pos n) = n + 2 ^ 64
above (negsuc n) = 2 ^ 64 - suc n

above_is : (a : ℕ) (z : ℤ) → FitsSigned w64 z → (pos a +ℤ z) +ℤ pos (1 * 2 ^ 64) ≡ pos (a + above z)
unfolding above
above_is a (pos n) fits = omega (arith, ints)
above_is a (negsuc n) fits = omega (arith, ints)

modulo_sum : (a : ℕ) (z : ℤ) → FitsSigned w64 z → modulo (pos a +ℤ z) ≡ (a + above z) % 2 ^ 64
modulo_sum a z fits = modulo_is (pos a +ℤ z) (a + above z) (above_is a z fits)

-- the sum that Rust computes
pub wrapped_sum : (a : ℕ) (z : ℤ) → FitsSigned w64 z → (a + cast_unsigned w64 z) % 2 ^ 64 ≡ modulo (pos a +ℤ z)
unfolding above
wrapped_sum a (pos n) fits =
    let e : a + (n + 2 ^ 64) ≡ (a + n) + 2 ^ 64 * 1 = omega arith in
    sym (modulo_sum a (pos n) fits ∙ ap (λ m. m % 2 ^ 64) e ∙ add-mul-mod_self_left (a + n) (2 ^ 64) 1)
wrapped_sum a (negsuc n) fits = sym (modulo_sum a (negsuc n) fits)

-- from a number modulo 2 ^ 64 on, as from the number
pub modulo_from : (a : ℕ) (z : ℤ) → FitsSigned w64 z → modulo (pos (a % 2 ^ 64) +ℤ z) ≡ modulo (pos a +ℤ z)
modulo_from a z fits =
    let e : a + above z ≡ a % 2 ^ 64 + above z + 2 ^ 64 * (a / 2 ^ 64) = omega arith in
    modulo_sum (a % 2 ^ 64) z fits ∙ sym (modulo_sum a z fits ∙ ap (λ m. m % 2 ^ 64) e ∙ add-mul-mod_self_left (a % 2 ^ 64 + above z) (2 ^ 64) (a / 2 ^ 64))
