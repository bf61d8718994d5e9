-- Lists of slots by their number.
use Rattle.std.proofs.Common.{◌≡◌, ◌+◌, ℕ, suc, zero, [], ◌∷◌, ◌++◌, map, sym, ap, ◌∙◌, arith, append_assoc, append-nil, ◌-◌, ◌*◌, ◌/◌, ◌%◌, ◌^◌, ◌<◌, ◌≤◌, List, length, take, drop, refl}
use Rattle.std.specs.List.{range_with_len, All, flat_map}
use Rattle.std.specs.Prelude.{slice_range, slice_index}
use Rattle.std.specs.Int.{w16, w32, cast_signed, cast_unsigned}
use Rattle.std.proofs.lemmas.Int.{of_z-to_z}
use Rattle.std.proofs.lemmas.List.{get_or-drop, length-drop}
use Rattle.byteorder.specs.Endian.{little_bytes}
use Rattle.ebpf_base.specs.Numbers.{number_at}
use Rattle.ebpf_base.specs.declared.endianness.Endianness.TheVariants.{Little}
use Rattle.ebpf_parts.specs.Slots.{SlotIsBytes, SlotsAreBytes, slot_at, slots_of, slot_bytes}

-- one more at the end
pub slots_end : {X : Type 0} (f : ℕ → X) (a n : ℕ) → map f (range_with_len a (n + 1)) ≡ map f (range_with_len a n) ++ f (a + n) ∷ []
slots_end f a zero = let e : a + 0 ≡ a = omega arith in ap (λ k. f k ∷ []) (sym e)
slots_end f a (suc n) =
    let e : suc n + 1 ≡ suc (n + 1) = omega arith in
    let g : a + 1 + n ≡ a + suc n = omega arith in
    ap (λ k. map f (range_with_len a k)) e ∙ ap (λ xs. f a ∷ xs) (slots_end f (a + 1) n) ∙ ap (λ k. f a ∷ map f (range_with_len (a + 1) n) ++ f k ∷ []) g

-- ---- the bytes of slots are those that they were read of

-- numbers of two and of four bytes, byte by byte
two : (a b : ℕ) → a < 256 → b < 256 → (a + 256 * (b + 256 * 0) < 2 ^ 16) × (little_bytes 2 (a + 256 * (b + 256 * 0)) ≡ a ∷ b ∷ [])
two a b p q =
    let first : (a + 256 * (b + 256 * 0)) % 256 ≡ a = omega arith in
    let second : (a + 256 * (b + 256 * 0)) / 256 % 256 ≡ b = omega arith in
    (omega arith, λ i. first i ∷ second i ∷ [])

four : (a b c d : ℕ) → a < 256 → b < 256 → c < 256 → d < 256
    → (a + 256 * (b + 256 * (c + 256 * (d + 256 * 0))) < 2 ^ 32) × (little_bytes 4 (a + 256 * (b + 256 * (c + 256 * (d + 256 * 0)))) ≡ a ∷ b ∷ c ∷ d ∷ [])
four a b c d p q r s =
    let n : ℕ = a + 256 * (b + 256 * (c + 256 * (d + 256 * 0))) in
    let first : n % 256 ≡ a = omega arith in
    let second : n / 256 % 256 ≡ b = omega arith in
    let third : n / 65536 % 256 ≡ c = omega arith in
    let fourth : n / 16777216 % 256 ≡ d = omega arith in
    (omega arith, λ i. first i ∷ second i ∷ third i ∷ fourth i ∷ [])

-- the first eight of a list
eight : (xs : List ℕ) → 8 ≤ length xs → take 8 xs
    ≡ slice_index xs 0 ∷ slice_index xs 1 ∷ slice_index xs 2 ∷ slice_index xs 3 ∷ slice_index xs 4 ∷ slice_index xs 5 ∷ slice_index xs 6 ∷ slice_index xs 7 ∷ []
eight (a ∷ b ∷ c ∷ d ∷ e ∷ f ∷ g ∷ h ∷ rest) enough = refl
eight [] enough = absurd (let no : ⊥ = omega arith in no)
eight (a ∷ []) enough = absurd (let no : ⊥ = omega arith in no)
eight (a ∷ b ∷ []) enough = absurd (let no : ⊥ = omega arith in no)
eight (a ∷ b ∷ c ∷ []) enough = absurd (let no : ⊥ = omega arith in no)
eight (a ∷ b ∷ c ∷ d ∷ []) enough = absurd (let no : ⊥ = omega arith in no)
eight (a ∷ b ∷ c ∷ d ∷ e ∷ []) enough = absurd (let no : ⊥ = omega arith in no)
eight (a ∷ b ∷ c ∷ d ∷ e ∷ f ∷ []) enough = absurd (let no : ⊥ = omega arith in no)
eight (a ∷ b ∷ c ∷ d ∷ e ∷ f ∷ g ∷ []) enough = absurd (let no : ⊥ = omega arith in no)

module _ (bytes : List ℕ) (small : All (λ b. b < 256) bytes) (p : ℕ) (inside : p + 8 ≤ length bytes) where
  small_at : (k : ℕ) → k < 8 → slice_index bytes (p + k) < 256
  small_at k below = small (p + k) 0 (omega arith)

  -- a byte behind an offset, by its index in what is left there
  at_rest : (q i r : ℕ) → r ≡ q + i → slice_index (drop q bytes) i ≡ slice_index bytes r
  at_rest q i r e = get_or-drop q bytes i 0 ∙ ap (slice_index bytes) (sym e)

  offset_is : number_at Little 2 bytes (p + 2) ≡ slice_index bytes (p + 2) + 256 * (slice_index bytes (p + 3) + 256 * 0)
  unfolding number_at
  offset_is = λ i. at_rest (p + 2) 0 (p + 2) (omega arith) i + 256 * (at_rest (p + 2) 1 (p + 3) (omega arith) i + 256 * 0)

  number_is : number_at Little 4 bytes (p + 4)
      ≡ slice_index bytes (p + 4) + 256 * (slice_index bytes (p + 5) + 256 * (slice_index bytes (p + 6) + 256 * (slice_index bytes (p + 7) + 256 * 0)))
  unfolding number_at
  number_is = λ i. at_rest (p + 4) 0 (p + 4) (omega arith) i + 256 * (at_rest (p + 4) 1 (p + 5) (omega arith) i
      + 256 * (at_rest (p + 4) 2 (p + 6) (omega arith) i + 256 * (at_rest (p + 4) 3 (p + 7) (omega arith) i + 256 * 0)))

  offset_bytes : little_bytes 2 (cast_unsigned w16 (cast_signed w16 (number_at Little 2 bytes (p + 2)))) ≡ slice_index bytes (p + 2) ∷ slice_index bytes (p + 3) ∷ []
  offset_bytes =
      let known = two (slice_index bytes (p + 2)) (slice_index bytes (p + 3)) (small_at 2 (omega arith)) (small_at 3 (omega arith)) in
      ap (λ n. little_bytes 2 (cast_unsigned w16 (cast_signed w16 n))) offset_is ∙ ap (little_bytes 2) (of_z-to_z w16 _ known.0) ∙ known.1

  number_bytes : little_bytes 4 (cast_unsigned w32 (cast_signed w32 (number_at Little 4 bytes (p + 4))))
      ≡ slice_index bytes (p + 4) ∷ slice_index bytes (p + 5) ∷ slice_index bytes (p + 6) ∷ slice_index bytes (p + 7) ∷ []
  number_bytes =
      let known = four (slice_index bytes (p + 4)) (slice_index bytes (p + 5)) (slice_index bytes (p + 6)) (slice_index bytes (p + 7))
      (small_at 4 (omega arith)) (small_at 5 (omega arith)) (small_at 6 (omega arith)) (small_at 7 (omega arith)) in
      ap (λ n. little_bytes 4 (cast_unsigned w32 (cast_signed w32 n))) number_is ∙ ap (little_bytes 4) (of_z-to_z w32 _ known.0) ∙ known.1

  range_is : slice_range bytes p (p + 8) ≡ slice_index bytes p ∷ slice_index bytes (p + 1) ∷ slice_index bytes (p + 2) ∷ slice_index bytes (p + 3)
      ∷ slice_index bytes (p + 4) ∷ slice_index bytes (p + 5) ∷ slice_index bytes (p + 6) ∷ slice_index bytes (p + 7) ∷ []
  range_is =
      let count : p + 8 - p ≡ 8 = omega arith in
      let long : length (drop p bytes) ≡ length bytes - p = length-drop p bytes in
      let at : (i r : ℕ) → r ≡ p + i → slice_index (drop p bytes) i ≡ slice_index bytes r = at_rest p in
      ap (λ n. take n (drop p bytes)) count ∙ eight (drop p bytes) (omega (arith, long))
      ∙ (λ i. at 0 p (omega arith) i ∷ at 1 (p + 1) refl i ∷ at 2 (p + 2) refl i ∷ at 3 (p + 3) refl i
      ∷ at 4 (p + 4) refl i ∷ at 5 (p + 5) refl i ∷ at 6 (p + 6) refl i ∷ at 7 (p + 7) refl i ∷ [])

  one_slot : slot_bytes (slot_at bytes p) ≡ slice_range bytes p (p + 8)
  unfolding slot_at
  one_slot = (λ i. slice_index bytes p ∷ slice_index bytes (p + 1) ∷ (offset_bytes i ++ number_bytes i)) ∙ sym range_is

pub slot_is_bytes : SlotIsBytes
slot_is_bytes bytes offset small inside = one_slot bytes small offset inside

-- so many bytes more
take_more : (xs : List ℕ) (p n q : ℕ) → q ≡ p + n → q ≤ length xs → take p xs ++ take n (drop p xs) ≡ take q xs
take_more xs zero n q e inside = let f : n ≡ q = omega (arith, e) in ap (λ k. take k xs) f
take_more [] (suc p) n q e inside = absurd (let no : ⊥ = omega (arith, e, inside) in no)
take_more (x ∷ xs) (suc p) n q e inside =
    let less : q - 1 ≡ p + n = omega (arith, e) in
    let back : suc (q - 1) ≡ q = omega (arith, e) in
    ap (λ l. x ∷ l) (take_more xs p n (q - 1) less (omega (arith, e, inside))) ∙ ap (λ k. take k (x ∷ xs)) back

range_more : (xs : List ℕ) (p n q : ℕ) → q ≡ p + n → q ≤ length xs → take p xs ++ slice_range xs p q ≡ take q xs
range_more xs p n q e inside =
    let count : q - p ≡ n = omega (arith, e) in
    ap (λ k. take p xs ++ take k (drop p xs)) count ∙ take_more xs p n q e inside

-- the slots from one on
module _ (bytes : List ℕ) (small : All (λ b. b < 256) bytes) where
  from_slot : (w n : ℕ) → 8 * (w + n) ≤ length bytes
      → take (8 * w) bytes ++ flat_map slot_bytes (map (λ k. slot_at bytes (8 * k)) (range_with_len w n)) ≡ take (8 * (w + n)) bytes
  from_slot w zero inside = let e : 8 * w ≡ 8 * (w + 0) = omega arith in append-nil (take (8 * w) bytes) ∙ ap (λ k. take k bytes) e
  from_slot w (suc n) inside =
      let rest : List ℕ = flat_map slot_bytes (map (λ k. slot_at bytes (8 * k)) (range_with_len (w + 1) n)) in
      let next : 8 * w + 8 ≡ 8 * (w + 1) = omega arith in
      let all : 8 * (w + 1 + n) ≡ 8 * (w + suc n) = omega arith in
      ap (λ l. take (8 * w) bytes ++ (l ++ rest)) (one_slot bytes small (8 * w) (omega arith))
      ∙ sym (append_assoc (take (8 * w) bytes) (slice_range bytes (8 * w) (8 * w + 8)) rest)
      ∙ ap (λ l. l ++ rest) (range_more bytes (8 * w) 8 (8 * w + 8) refl (omega arith) ∙ ap (λ k. take k bytes) next)
      ∙ from_slot (w + 1) n (omega arith) ∙ ap (λ k. take k bytes) all

pub slots_are_bytes : SlotsAreBytes
unfolding slots_of
slots_are_bytes bytes small =
    let all : 0 + length bytes / 8 ≡ length bytes / 8 = omega arith in
    from_slot bytes small 0 (length bytes / 8) (omega arith) ∙ ap (λ n. take (8 * n) bytes) all
