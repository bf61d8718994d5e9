-- The walk over the functions of a Text section, which tile it.
use Rattle.std.proofs.Common.{◌≡◌, ℕ, suc, zero, ◌+◌, ◌-◌, ◌<◌, ◌≤◌, true, false, List, [], ◌∷◌, ◌++◌, length, None, refl, sym, ap, ◌∙◌, arith, nat_lt, ◌*◌, ◌/◌, ◌%◌, map, take, drop, Option, Some, get_or, append_assoc, append-nil}
use Rattle.std.proofs.lemmas.Bool.Decides.{nat_tests}
use Rattle.std.proofs.lemmas.List.{get_or-take, get_or-drop, length-take, length-drop}
use Rattle.std.specs.Int.{w16, w32, cast_signed}
use Rattle.std.specs.List.{flat_map, range_with_len}
use Rattle.std.specs.Prelude.{if◌then◌else◌, slice_range, slice_index}
use Rattle.ebpf_base.proofs.Faults.{both_None}
use Rattle.ebpf_base.specs.Faults.{or_else, first_some}
use Rattle.ebpf_base.specs.Numbers.{number_at}
use Rattle.byteorder.specs.Endian.{little_from}
use Rattle.ebpf_model.specs.declared.function.Function.{Function}
use Rattle.ebpf_parts.specs.Sections.{SectionValue}
use Rattle.ebpf_parts.specs.Slots.{slot_at, slots_of, code_faults}
use Rattle.ebpf_parts.specs.declared.error.ParseError.{ParseError}
use Rattle.ebpf_parts.specs.declared.insn.bpf_insn.{bpf_insn}
use Rattle.ebpf_sections.specs.Programs.{with_key}
use Rattle.ebpf_sections.specs.Records.{FuncAndLineInfo}
use Rattle.ebpf_sections.specs.Symbols.{SymbolValue}
use Rattle.ebpf_sections.specs.Texts.{offsets_from, function_at, text_fault_at, size_at, symbol_at_offset, text_function_of, text_fault_of, symbol_size_of, text_function, conflict_fault, text_fault, text_functions, walk_fault}

-- ---- one step of the walk over the functions of a Text section

-- an offset inside the data is the first, and the walk goes on behind its function
goes_on : (s : SectionValue) (ys : List SymbolValue) (n offset : ℕ) → offset < length s.bytes → offsets_from (suc n) s ys offset ≡ offset ∷ offsets_from n s ys (offset + size_at s ys offset)
unfolding offsets_from
goes_on s ys n offset inside =
    let test : nat_lt offset (length s.bytes) ≡ true = grind (arith, nat_tests) in
    ap (λ b. if b then offset ∷ offsets_from n s ys (offset + size_at s ys offset) else []) test

offsets_more : (s : SectionValue) (ys : List SymbolValue) (n k offset : ℕ) → k < n → offset < length s.bytes
    → offsets_from (n - k) s ys offset ≡ offset ∷ offsets_from (n - (k + 1)) s ys (offset + size_at s ys offset)
offsets_more s ys n k offset left inside =
    let e : n - k ≡ suc (n - (k + 1)) = omega arith in
    ap (λ m. offsets_from m s ys offset) e ∙ goes_on s ys (n - (k + 1)) offset inside

-- at the end there is none
pub no_offsets : (s : SectionValue) (ys : List SymbolValue) (n offset : ℕ) → length s.bytes ≤ offset → offsets_from n s ys offset ≡ []
unfolding offsets_from
no_offsets s ys zero offset past = refl
no_offsets s ys (suc n) offset past =
    let test : nat_lt offset (length s.bytes) ≡ false = grind (arith, nat_tests) in
    ap (λ b. if b then offset ∷ offsets_from n s ys (offset + size_at s ys offset) else []) test

pub fault_more : (s : SectionValue) (ys : List SymbolValue) (n k offset : ℕ) → k < n → offset < length s.bytes
    → first_some (text_fault_at s ys) (offsets_from (n - k) s ys offset) ≡ or_else (text_fault_at s ys offset) (first_some (text_fault_at s ys) (offsets_from (n - (k + 1)) s ys (offset + size_at s ys offset)))
fault_more s ys n k offset left inside = ap (first_some (text_fault_at s ys)) (offsets_more s ys n k offset left inside)

pub fault_step : (s : SectionValue) (ys : List SymbolValue) (k m : ℕ) (o e : ℕ)
    → k < length s.bytes → o < length s.bytes → text_fault_at s ys o ≡ None → e ≡ o + size_at s ys o → m ≡ k + 1
    → first_some (text_fault_at s ys) (offsets_from (length s.bytes - m) s ys e) ≡ first_some (text_fault_at s ys) (offsets_from (length s.bytes - k) s ys o)
fault_step s ys k m o e few inside none next more =
    ap (λ n. first_some (text_fault_at s ys) (offsets_from (length s.bytes - n) s ys e)) more
    ∙ ap (λ p. first_some (text_fault_at s ys) (offsets_from (length s.bytes - (k + 1)) s ys p)) next
    ∙ sym (fault_more s ys (length s.bytes) k o few inside ∙ ap (λ x. or_else x (first_some (text_fault_at s ys) (offsets_from (length s.bytes - (k + 1)) s ys (o + size_at s ys o)))) none)

-- ---- the functions of a Text section tile it

-- m slots from the slot w on
slots_in : List ℕ → ℕ → ℕ → List bpf_insn
slots_in bytes w m = map (λ k. slot_at bytes (8 * k)) (range_with_len w m)

slots_append : (bytes : List ℕ) (w m n : ℕ) → slots_in bytes w (m + n) ≡ slots_in bytes w m ++ slots_in bytes (w + m) n
unfolding slots_in
slots_append bytes w zero n =
    let e : 0 + n ≡ n = omega arith in
    let g : w ≡ w + 0 = omega arith in
    ap (slots_in bytes w) e ∙ ap (λ v. slots_in bytes v n) g
slots_append bytes w (suc m) n =
    let e : suc m + n ≡ suc (m + n) = omega arith in
    let g : w + 1 + m ≡ w + suc m = omega arith in
    ap (slots_in bytes w) e ∙ ap (λ l. slot_at bytes (8 * w) ∷ l) (slots_append bytes (w + 1) m n ∙ ap (λ v. slots_in bytes (w + 1) m ++ slots_in bytes v n) g)

module _ (bytes : List ℕ) (o n : ℕ) where
  at_place : (j p : ℕ) → j < n → p ≡ o + j → slice_index (slice_range bytes o (o + n)) j ≡ slice_index bytes p
  at_place j p below place =
      let e : o + n - o ≡ n = omega arith in
      ap (λ k. get_or (take k (drop o bytes)) j 0) e ∙ get_or-take n (drop o bytes) j 0 below ∙ get_or-drop o bytes j 0 ∙ ap (λ k. get_or bytes k 0) (sym place)

  -- a number in the bytes from a place on
  number_at_place : (i m at p : ℕ) → at + i + m ≤ n → p ≡ o + at → little_from i m (drop at (slice_range bytes o (o + n))) ≡ little_from i m (drop p bytes)
  number_at_place i zero at p fits place = refl
  number_at_place i (suc m) at p fits place =
      let here : get_or (drop at (slice_range bytes o (o + n))) i 0 ≡ get_or (drop p bytes) i 0 =
      get_or-drop at (slice_range bytes o (o + n)) i 0 ∙ at_place (at + i) (p + i) (omega arith) (omega arith) ∙ sym (get_or-drop p bytes i 0) in
      λ k. here k + 256 * number_at_place (suc i) m at p (omega arith) place k

  slot_shift : (at p : ℕ) → at + 8 ≤ n → p ≡ o + at → slot_at (slice_range bytes o (o + n)) at ≡ slot_at bytes p
  unfolding slot_at number_at
  slot_shift at p fits place = λ i. record {
    code = at_place at p (omega arith) place i;
    regs = at_place (at + 1) (p + 1) (omega arith) (omega arith) i;
    off = cast_signed w16 (number_at_place 0 2 (at + 2) (p + 2) (omega arith) (omega arith) i);
    imm = cast_signed w32 (number_at_place 0 4 (at + 4) (p + 4) (omega arith) (omega arith) i);
  }

slots_shift : (bytes : List ℕ) (w m : ℕ) (a c : ℕ) → a + c ≤ m
    → map (λ k. slot_at (slice_range bytes (8 * w) (8 * w + 8 * m)) (8 * k)) (range_with_len a c) ≡ slots_in bytes (w + a) c
unfolding slots_in
slots_shift bytes w m a zero fits = refl
slots_shift bytes w m a (suc c) fits =
    let e : w + (a + 1) ≡ w + a + 1 = omega arith in
    let here : slot_at (slice_range bytes (8 * w) (8 * w + 8 * m)) (8 * a) ≡ slot_at bytes (8 * (w + a)) = slot_shift bytes (8 * w) (8 * m) (8 * a) (8 * (w + a)) (omega arith) (omega arith) in
    λ i. here i ∷ (slots_shift bytes w m (a + 1) c (omega arith) ∙ ap (λ v. slots_in bytes v c) e) i

-- the slots of a range
slots_of_range : (bytes : List ℕ) (w m : ℕ) → 8 * w + 8 * m ≤ length bytes → slots_of (slice_range bytes (8 * w) (8 * w + 8 * m)) ≡ slots_in bytes w m
unfolding slots_of
slots_of_range bytes w m inside =
    let long : length (slice_range bytes (8 * w) (8 * w + 8 * m)) ≡ 8 * m = simp (length-take, length-drop) (omega arith) in
    let count : length (slice_range bytes (8 * w) (8 * w + 8 * m)) / 8 ≡ m = omega (arith, long) in
    let e : w + 0 ≡ w = omega arith in
    ap (λ c. map (λ k. slot_at (slice_range bytes (8 * w) (8 * w + 8 * m)) (8 * k)) (range_with_len 0 c)) count
    ∙ slots_shift bytes w m 0 m (omega arith) ∙ ap (λ v. slots_in bytes v m) e

-- what is known of the symbol where nothing stops
pub record Stands (s : SectionValue) (o : ℕ) (z : Option SymbolValue) : Type 0 where
  pub y : SymbolValue
  pub found : z ≡ Some y
  pub some : 0 < y.size
  pub inside : o + y.size ≤ length s.bytes
  pub whole : y.size % 8 ≡ 0

size_known : (s : SectionValue) (o : ℕ) (y : SymbolValue) → text_fault_of s o (Some y) ≡ None → (0 < y.size) × (o + y.size ≤ length s.bytes)
size_known s o y e = grind (arith, nat_tests)

whole_known : (s : SectionValue) (o : ℕ) (y : SymbolValue) → text_fault_of s o (Some y) ≡ None → length (slice_range s.bytes o (o + y.size)) % 8 ≡ 0
unfolding code_faults
whole_known s o y e = grind (arith, nat_tests)

pub stands : (s : SectionValue) (o : ℕ) (z : Option SymbolValue) → text_fault_of s o z ≡ None → Stands s o z
stands s o None e = absurd (let wrong : ⊥ = cc in wrong)
stands s o (Some y) e =
    let known : (0 < y.size) × (o + y.size ≤ length s.bytes) = size_known s o y e in
    let long : length (slice_range s.bytes o (o + y.size)) ≡ y.size = simp (length-take, length-drop) (omega (arith, known.1)) in
    record { y = y; found = refl; some = known.0; inside = known.1; whole = ap (λ n. n % 8) (sym long) ∙ whole_known s o y e }

instructions_of : List Function → List bpf_insn
instructions_of fs = flat_map (λ f. f.instructions) fs

module _ (infos : FuncAndLineInfo) (s : SectionValue) (ys : List SymbolValue) where
  at_end : (n w : ℕ) → 8 * w ≡ length s.bytes → instructions_of (flat_map (function_at infos s ys) (offsets_from n s ys (8 * w))) ≡ slots_in s.bytes w ((length s.bytes - 8 * w) / 8)
  unfolding instructions_of slots_in
  at_end n w e =
      let none : (length s.bytes - 8 * w) / 8 ≡ 0 = omega arith in
      ap (λ os. instructions_of (flat_map (function_at infos s ys) os)) (no_offsets s ys n (8 * w) (omega arith)) ∙ ap (slots_in s.bytes w) (sym none)

  lt_of : (w : ℕ) → nat_lt (8 * w) (length s.bytes) ≡ true → 8 * w < length s.bytes
  lt_of w e = grind (arith, nat_tests)

  le_of : (w : ℕ) → 8 * w ≤ length s.bytes → nat_lt (8 * w) (length s.bytes) ≡ false → 8 * w ≡ length s.bytes
  le_of w below e = grind (arith, nat_tests)

  abbrev TilesFrom : ℕ → ℕ → Type 0
  TilesFrom n w = 8 * w ≤ length s.bytes → length s.bytes - 8 * w ≤ n → first_some (text_fault_at s ys) (offsets_from n s ys (8 * w)) ≡ None
      → instructions_of (flat_map (function_at infos s ys) (offsets_from n s ys (8 * w))) ≡ slots_in s.bytes w ((length s.bytes - 8 * w) / 8)

  -- one more function, and the others
  one_more : (n w : ℕ) → ((v : ℕ) → TilesFrom n v) → 8 * w < length s.bytes → TilesFrom (suc n) w
  unfolding instructions_of function_at text_fault_at size_at text_function
  one_more n w again inside below few clear =
      let step : offsets_from (suc n) s ys (8 * w) ≡ 8 * w ∷ offsets_from n s ys (8 * w + size_at s ys (8 * w)) = goes_on s ys n (8 * w) inside in
      let both : (text_fault_at s ys (8 * w) ≡ None) × (first_some (text_fault_at s ys) (offsets_from n s ys (8 * w + size_at s ys (8 * w))) ≡ None)
      = both_None _ _ (sym (ap (first_some (text_fault_at s ys)) step) ∙ clear) in
      let known : Stands s (8 * w) (symbol_at_offset s ys (8 * w)) = stands s (8 * w) (symbol_at_offset s ys (8 * w)) both.0 in
      let m : ℕ = known.y.size / 8 in
      let size : known.y.size ≡ 8 * m = omega (arith, known.whole) in
      let long : size_at s ys (8 * w) ≡ known.y.size = ap symbol_size_of known.found in
      let next : 8 * w + size_at s ys (8 * w) ≡ 8 * (w + m) = omega (arith, long, size) in
      let fits : 8 * w + 8 * m ≤ length s.bytes = omega (arith, known.inside, size) in
      let one : function_at infos s ys (8 * w) ≡ text_function infos s (8 * w) known.y ∷ [] = ap (text_function_of infos s (8 * w)) known.found in
      let rest : instructions_of (flat_map (function_at infos s ys) (offsets_from n s ys (8 * (w + m)))) ≡ slots_in s.bytes (w + m) ((length s.bytes - 8 * (w + m)) / 8)
      = again (w + m) (omega (arith, fits)) (omega (arith, fits, size, known.some, few)) (sym (ap (λ o. first_some (text_fault_at s ys) (offsets_from n s ys o)) next) ∙ both.1) in
      let slots : slots_of (slice_range s.bytes (8 * w) (8 * w + known.y.size)) ≡ slots_in s.bytes w m
      = ap (λ k. slots_of (slice_range s.bytes (8 * w) (8 * w + k))) size ∙ slots_of_range s.bytes w m fits in
      let count : m + (length s.bytes - 8 * (w + m)) / 8 ≡ (length s.bytes - 8 * w) / 8 = omega (arith, fits) in
      ap (λ os. instructions_of (flat_map (function_at infos s ys) os)) step
      ∙ ap (λ fs. instructions_of (fs ++ flat_map (function_at infos s ys) (offsets_from n s ys (8 * w + size_at s ys (8 * w))))) one
      ∙ ap (λ o. slots_of (slice_range s.bytes (8 * w) (8 * w + known.y.size)) ++ instructions_of (flat_map (function_at infos s ys) (offsets_from n s ys o))) next
      ∙ ap (λ l. l ++ instructions_of (flat_map (function_at infos s ys) (offsets_from n s ys (8 * (w + m))))) slots
      ∙ ap (λ l. slots_in s.bytes w m ++ l) rest
      ∙ sym (slots_append s.bytes w m ((length s.bytes - 8 * (w + m)) / 8))
      ∙ ap (slots_in s.bytes w) count

  tile : (n w : ℕ) → TilesFrom n w
  tile zero w below few clear = at_end zero w (omega arith)
  tile (suc n) w below few clear = elim (nat_lt (8 * w) (length s.bytes)) as (λ b. nat_lt (8 * w) (length s.bytes) ≡ b → instructions_of (flat_map (function_at infos s ys) (offsets_from (suc n) s ys (8 * w))) ≡ slots_in s.bytes w ((length s.bytes - 8 * w) / 8)) [
    | true ↦ λ e. one_more n w (tile n) (lt_of w e) below few clear
    | false ↦ λ e. at_end (suc n) w (le_of w below e)
  ] refl

pub functions_tile : (infos : FuncAndLineInfo) (s : SectionValue) (symbols : List SymbolValue) → text_fault s symbols ≡ None → flat_map (λ f. f.instructions) (text_functions infos s symbols) ≡ slots_of s.bytes
unfolding instructions_of slots_of slots_in text_fault
functions_tile infos s ys e =
    let clear : first_some (text_fault_at s ys) (offsets_from (length s.bytes) s ys (8 * 0)) ≡ None = (both_None (conflict_fault s.index.0 ys) _ e).1 in
    let all : length s.bytes - 0 ≡ length s.bytes = omega arith in
    tile infos s ys (length s.bytes) 0 (omega arith) (omega arith) clear ∙ ap (λ n. slots_in s.bytes 0 (n / 8)) all

-- ---- the walk over the functions of a Text section, each of which goes to the end of a list where it is met

-- the functions from an offset on, of which so many were begun before
abbrev pub from_here : FuncAndLineInfo → SectionValue → List SymbolValue → ℕ → ℕ → List Function
from_here infos s ys begun o = flat_map (function_at infos s ys) (offsets_from (length s.bytes - begun) s ys o)

abbrev pub fault_from : SectionValue → List SymbolValue → ℕ → ℕ → Option ParseError
fault_from s ys begun o = first_some (text_fault_at s ys) (offsets_from (length s.bytes - begun) s ys o)

-- a function with its section and address
abbrev pub Placed : Type 0
Placed = (ℕ × ℕ) × Function

-- what is kept, then what is left from an offset on, is all that there was from the start
pub record IsWalked (infos : FuncAndLineInfo) (s : SectionValue) (ys : List SymbolValue) (kept : List Placed) (o : ℕ) : Type 0 where
  pub begun : ℕ
  pub few : begun ≤ o
  pub inside : o ≤ length s.bytes
  pub all : kept ++ map with_key (from_here infos s ys begun o) ≡ map with_key (text_functions infos s ys)
  pub fault : fault_from s ys begun o ≡ walk_fault s ys

pub start : (infos : FuncAndLineInfo) (s : SectionValue) (ys : List SymbolValue) → IsWalked infos s ys [] 0
start infos s ys =
    let same : length s.bytes - 0 ≡ length s.bytes = omega arith in
    record {
      begun = 0;
      few = omega arith;
      inside = omega arith;
      all = ap (λ n. map with_key (flat_map (function_at infos s ys) (offsets_from n s ys 0))) same;
      fault = ap (λ n. first_some (text_fault_at s ys) (offsets_from n s ys 0)) same;
    }

pub more : (infos : FuncAndLineInfo) (s : SectionValue) (ys : List SymbolValue) (t u : List Placed) (o e : ℕ) (f : Function)
    → u ≡ t ++ ((f.section_index.0, f.address), f) ∷ [] → o < length s.bytes → function_at infos s ys o ≡ f ∷ [] → e ≡ o + size_at s ys o → text_fault_at s ys o ≡ None → o < e → e ≤ length s.bytes
    → IsWalked infos s ys t o → IsWalked infos s ys u e
more infos s ys t u o e f pushed within here next sound further ends w =
    let few : w.begun < length s.bytes = omega (arith, w.few, within) in
    let rest : from_here infos s ys w.begun o ≡ f ∷ from_here infos s ys (w.begun + 1) e
    = ap (flat_map (function_at infos s ys)) (offsets_more s ys (length s.bytes) w.begun o few within)
    ∙ ap (λ xs. xs ++ flat_map (function_at infos s ys) (offsets_from (length s.bytes - (w.begun + 1)) s ys (o + size_at s ys o))) here
    ∙ ap (λ p. f ∷ flat_map (function_at infos s ys) (offsets_from (length s.bytes - (w.begun + 1)) s ys p)) (sym next) in
    record {
      begun = w.begun + 1;
      few = omega (arith, w.few, further);
      inside = ends;
      all = ap (λ l. l ++ map with_key (from_here infos s ys (w.begun + 1) e)) pushed
          ∙ append_assoc t (with_key f ∷ []) (map with_key (from_here infos s ys (w.begun + 1) e))
          ∙ sym (ap (λ fs. t ++ map with_key fs) rest) ∙ w.all;
      fault = fault_step s ys w.begun (w.begun + 1) o e few within sound next refl ∙ w.fault;
    }

-- the fault at an offset comes before those that are left
pub fault_here : (infos : FuncAndLineInfo) (s : SectionValue) (ys : List SymbolValue) (t : List Placed) (o : ℕ)
    → o < length s.bytes → IsWalked infos s ys t o → (rest : Option ParseError) × (or_else (text_fault_at s ys o) rest ≡ walk_fault s ys)
fault_here infos s ys t o within w =
    let few : w.begun < length s.bytes = omega (arith, w.few, within) in (
      first_some (text_fault_at s ys) (offsets_from (length s.bytes - (w.begun + 1)) s ys (o + size_at s ys o)),
      sym (fault_more s ys (length s.bytes) w.begun o few within) ∙ w.fault,
    )

pub none_left : (infos : FuncAndLineInfo) (s : SectionValue) (ys : List SymbolValue) (t : List Placed) (o : ℕ)
    → length s.bytes ≤ o → IsWalked infos s ys t o → walk_fault s ys ≡ None
none_left infos s ys t o past w = sym w.fault ∙ ap (first_some (text_fault_at s ys)) (no_offsets s ys (length s.bytes - w.begun) o past)

pub all_kept : (infos : FuncAndLineInfo) (s : SectionValue) (ys : List SymbolValue) (t : List Placed) (o : ℕ)
    → length s.bytes ≤ o → IsWalked infos s ys t o → t ≡ map with_key (text_functions infos s ys)
all_kept infos s ys t o past w =
    sym (append-nil t) ∙ sym (ap (λ os. t ++ map with_key (flat_map (function_at infos s ys) os)) (no_offsets s ys (length s.bytes - w.begun) o past)) ∙ w.all
