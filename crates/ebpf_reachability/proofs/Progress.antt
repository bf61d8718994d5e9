-- The concrete machine has a step from each state, unless it stops.
use Rattle.std.proofs.Common.{◌≡◌, ◌≢◌, ℕ, ◌+◌, ◌*◌, ◌/◌, ◌%◌, ◌^◌, ◌<◌, ◌⊎◌, Bool, true, false, cond, List, [], ◌∷◌, Option, Some, None, refl, sym, ap, inl, inr, arith, ℤ, pos, negsuc, ◌+ℤ◌}
use Rattle.std.specs.Prelude.{◌==◌, IfSome, slice_get}
use Rattle.std.specs.Option.{option_map}
use Rattle.std.specs.Int.{Width, w16, w32, w64}
use Rattle.std.specs.Ordering.{int_eq}
use Rattle.std.proofs.Math.Nat.{mod-lt}
use Rattle.std.proofs.lemmas.Bool.Decides.{eqb_tells}
use Rattle.std.proofs.lemmas.Nat.{pow_pos}
use mir.Val.{bits}
use Rattle.ebpf_parts.specs.declared.insn.bpf_insn.{bpf_insn}
use Rattle.ebpf_parts.specs.Slots.{dst_of, src_of, is_poisoned, is_pseudo_call}
use Rattle.ebpf_linker.specs.Functions.{Among}
use Rattle.ebpf_reachability.specs.ConcreteMachine.{Branches, Calculates, Calls, CallsFunction, Frame, IsTarget, IsWay, Jumps, JumpsAnywhere, KeepsAllBut, Loads, LoadsConstant, LoadsPacket, MachineState, MachinesGoOn, Poisoned, Returns, Step, Stops, Stores, StoresAtomically, condition, frame_of, no_jumps, operand, result, wide_constant}
use Rattle.ebpf_reachability.specs.MachineNumbers.{byte_swap, exact_move, exact_negation, exact_of_two, from_register, in_byte_order, kept, lowest, ordered, width_of, wrapped}

-- ---- results are numbers of 64 bits

wrapped_below : (w : Width) (z : ℤ) → wrapped w z < 2 ^ bits w
wrapped_below w (pos n) = mod-lt n (pow_pos (bits w))
wrapped_below w (negsuc n) = let h = pow_pos (bits w) in omega arith

-- each number that an option holds is below 2 ^ 64
record Small (x : Option ℕ) : Type 0 where
  below : (n : ℕ) → x ≡ Some n → n < 2 ^ 64

small : {n : ℕ} → n < 2 ^ 64 → Small (Some n)
small {n} h = record { below = λ m e. (let same : n ≡ m = cc in omega arith) }

no_number : Small None
no_number = record { below = λ m e. cc }

either_small : (t : Bool) {x y : Option ℕ} → Small x → Small y → Small (cond t x y)
either_small true p q = p
either_small false p q = q

kept_small : (t : Bool) (z : Option ℤ) → Small (kept (width_of t) z)
kept_small t None = no_number
kept_small true (Some z) = small (let h = wrapped_below w32 z in omega arith)
kept_small false (Some z) = small (wrapped_below w64 z)

ordered_16 : (t : Bool) (x : ℕ) → ordered t w16 x < 2 ^ 64
ordered_16 true x = omega arith
ordered_16 false x = omega arith

ordered_32 : (t : Bool) (x : ℕ) → ordered t w32 x < 2 ^ 64
ordered_32 true x = omega arith
ordered_32 false x = omega arith

ordered_64 : (t : Bool) (x : ℕ) → ordered t w64 x < 2 ^ 64
ordered_64 true x = omega arith
ordered_64 false x = omega arith

order_small : (t : Bool) (size : ℤ) (x : ℕ) → Small (in_byte_order t size x)
order_small t size x =
    either_small (int_eq size (pos 16)) (small (ordered_16 t x)) (either_small (int_eq size (pos 32)) (small (ordered_32 t x)) (either_small (int_eq size (pos 64)) (small (ordered_64 t x)) no_number))

swap_small : (t u : Bool) (size : ℤ) (x : ℕ) → Small (byte_swap t u size x)
swap_small true u size x = order_small u size x
swap_small false true size x = no_number
swap_small false false size x = order_small true size x

result_small : (t : Bool) (slot : bpf_insn) (registers : ℕ → ℕ) → Small (result t slot registers)
result_small t slot registers =
    let x = registers (dst_of slot) in
    let y = operand slot registers in
    either_small (slot.code / 16 == 11) (kept_small t (exact_move t (from_register slot) slot.off y))
    (either_small (slot.code / 16 == 8) (kept_small t (exact_negation (from_register slot) slot.off (lowest (width_of t) x)))
    (either_small (slot.code / 16 == 13) (swap_small t (from_register slot) slot.imm x)
    (kept_small t (exact_of_two (width_of t) (slot.code / 16) slot.off (lowest (width_of t) x) (lowest (width_of t) y)))))

second_small : (n : ℕ) (z : Option bpf_insn) → n < 2 ^ 32 → Small (option_map (λ (second : bpf_insn). n + 2 ^ 32 * wrapped w32 second.imm) z)
second_small n None h = no_number
second_small n (Some second) h = small (let k = wrapped_below w32 second.imm in omega arith)

wide_small : (slots : List bpf_insn) (i : ℕ) (slot : bpf_insn) → Small (wide_constant slots i slot)
wide_small slots i slot = either_small (src_of slot == 0) (second_small (wrapped w32 slot.imm) (slice_get slots (i + 1)) (wrapped_below w32 slot.imm)) no_number

-- ---- registers behind a step

abbrev write : (ℕ → ℕ) → ℕ → ℕ → ℕ → ℕ
write registers q n r = cond (r == q) n (registers r)

one_below : (t : Bool) (m n : ℕ) → m < 2 ^ 64 → n < 2 ^ 64 → cond t m n < 2 ^ 64
one_below true m n p q = p
one_below false m n p q = q

write_keeps : (registers : ℕ → ℕ) (q n : ℕ) → KeepsAllBut (q ∷ []) registers (write registers q n)
write_keeps registers q n r =
    elim (eqb_tells r q) [
      | inl same ↦ inl (inl (sym same.1))
      | inr apart ↦ inr (ap (λ (t : Bool). cond t n (registers r)) apart.0)
    ]

write_there : (registers : ℕ → ℕ) (q n : ℕ) → write registers q n q ≡ n
write_there registers q n =
    elim (eqb_tells q q) [
      | inl same ↦ ap (λ (t : Bool). cond t n (registers q)) same.0
      | inr apart ↦ absurd (apart.1 refl)
    ]

-- a number that is the one of an option, if it has one
picked : (x : Option ℕ) → Small x → (n : ℕ) × (n < 2 ^ 64) × ((m : ℕ) → m ≡ n → IfSome x (λ k. m ≡ k))
picked None h = (0, omega arith, λ m e. tt)
picked (Some n) h = (n, h.below n refl, λ m e. e)

abbrev arrives : MachineState → ℕ → MachineState
arrives s place = record s { place = place }

abbrev writes : (s : MachineState) → ℕ → ℕ → (n : ℕ) → n < 2 ^ 64 → MachineState
writes s place q n h = record {
  place = place;
  registers = write s.registers q n;
  words = λ r. one_below (r == q) n (s.registers r) h (s.words r);
  stack = s.stack;
}

abbrev Proceeding : List bpf_insn → bpf_insn → MachineState → Type 0
Proceeding slots slot s = ((t : MachineState) × Step slots slot s t) ⊎ Stops slot s

-- ---- each class

calculates : (slots : List bpf_insn) (slot : bpf_insn) (s : MachineState) (t : Bool) → slot.code % 8 ≡ cond t 4 7 → Proceeding slots slot s
calculates slots slot s t c =
    let (n, below, is) = picked (result t slot s.registers) (result_small t slot s.registers) in
    inl (writes s (s.place + 1) (dst_of slot) n below, Calculates t c (is (write s.registers (dst_of slot) n (dst_of slot)) (write_there s.registers (dst_of slot) n)) (write_keeps s.registers (dst_of slot) n) refl refl)

loads_constant : (slots : List bpf_insn) (slot : bpf_insn) (s : MachineState) → slot.code ≡ 24 → Proceeding slots slot s
loads_constant slots slot s c =
    let (n, below, is) = picked (wide_constant slots s.place slot) (wide_small slots s.place slot) in
    inl (writes s (s.place + 2) (dst_of slot) n below, LoadsConstant c (is (write s.registers (dst_of slot) n (dst_of slot)) (write_there s.registers (dst_of slot) n)) (write_keeps s.registers (dst_of slot) n) refl refl)

first_class : (slots : List bpf_insn) (slot : bpf_insn) (s : MachineState) → slot.code % 8 ≡ 0 → Proceeding slots slot s
first_class slots slot s c =
    elim (eqb_tells slot.code 24) [
      | inl wide ↦ loads_constant slots slot s wide.1
      | inr other ↦ inl (arrives s (s.place + 1), LoadsPacket c other.1 (λ r. inr refl) refl refl)
    ]

third_class : (slots : List bpf_insn) (slot : bpf_insn) (s : MachineState) → slot.code % 8 ≡ 3 → Proceeding slots slot s
third_class slots slot s c =
    elim (eqb_tells (slot.code / 32) 6) [
      | inl atomic ↦ inl (arrives s (s.place + 1), StoresAtomically c atomic.1 (λ r. inr refl) refl refl)
      | inr other ↦ inl (arrives s (s.place + 1), Stores (inr (c, other.1)) (λ r. inr refl) refl refl)
    ]

-- a target is in the program or behind it, or before it
target : (i : ℕ) (by : ℤ) → ((n : ℕ) × IsTarget i by n) ⊎ ((n : ℕ) × (pos (i + 1) +ℤ by ≡ negsuc n))
target i by = whole (pos (i + 1) +ℤ by) refl
  where
    whole : (z : ℤ) → pos (i + 1) +ℤ by ≡ z → ((n : ℕ) × IsTarget i by n) ⊎ ((n : ℕ) × (pos (i + 1) +ℤ by ≡ negsuc n))
    whole (pos n) e = inl (n, sym e)
    whole (negsuc n) e = inr (n, e)

jumps : (slots : List bpf_insn) (slot : bpf_insn) (s : MachineState) → slot.code ≡ 5 → Proceeding slots slot s
jumps slots slot s c =
    elim (target s.place slot.off) [
      | inl there ↦ inl (arrives s there.0, Jumps (inl (c, there.1)) (λ r. inr refl) refl)
      | inr before ↦ inr (inr (inl before))
    ]

jumps_far : (slots : List bpf_insn) (slot : bpf_insn) (s : MachineState) → slot.code ≡ 6 → Proceeding slots slot s
jumps_far slots slot s c =
    elim (target s.place slot.imm) [
      | inl there ↦ inl (arrives s there.0, Jumps (inr (c, there.1)) (λ r. inr refl) refl)
      | inr before ↦ inr (inr (inr before))
    ]

way : (taken : Bool) (i : ℕ) (by : ℤ) → ((n : ℕ) × IsWay taken i by n) ⊎ ((n : ℕ) × (pos (i + 1) +ℤ by ≡ negsuc n))
way true i by = target i by
way false i by = inl (i + 1, refl)

decided_way : (x : Option Bool) → (taken : Bool) × IfSome x (λ d. taken ≡ d)
decided_way None = (false, tt)
decided_way (Some d) = (d, refl)

branches : (slots : List bpf_insn) (slot : bpf_insn) (s : MachineState) (t : Bool) → slot.code % 8 ≡ cond t 6 5 → slot.code / 16 ≢ 0 → slot.code / 16 ≢ 8 → slot.code / 16 ≢ 9 → Proceeding slots slot s
branches slots slot s t c p q r =
    let (taken, is) = decided_way (condition t slot s.registers) in
    elim (way taken s.place slot.off) [
      | inl there ↦ inl (arrives s there.0, Branches t taken c p q r is there.1 (λ u. inr refl) refl)
      | inr before ↦ inr (inr (inl before))
    ]

returns : (slots : List bpf_insn) (slot : bpf_insn) (s : MachineState) (stack : List Frame) → slot.code ≡ 149 → s.stack ≡ stack → Proceeding slots slot s
returns slots slot s [] c e = inr (inl (c, e))
returns slots slot s (frame ∷ rest) c e =
    inl (record { place = frame.place; registers = frame.registers; words = frame.words; stack = rest }, Returns frame c e refl (λ r. inr refl))

calls : (slots : List bpf_insn) (slot : bpf_insn) (s : MachineState) (local poison : Bool) → (slot.code % 8 ≡ 5) ⊎ (slot.code % 8 ≡ 6) → (slot.code / 16 ≡ 8) ⊎ Among no_jumps slot.code → is_pseudo_call slot ≡ local → is_poisoned slot ≡ poison → Proceeding slots slot s
calls slots slot s true poison c m e f =
    elim (target s.place slot.imm) [
      | inl there ↦ inl (record { place = there.0; registers = s.registers; words = s.words; stack = frame_of s ∷ s.stack }, CallsFunction e there.1 refl)
      | inr before ↦ inr (inr (inr before))
    ]
calls slots slot s false true c m e f = inl (arrives s (s.place + 1), Poisoned f refl refl)
calls slots slot s false false c m e f = inl (arrives s (s.place + 1), Calls c m e f (λ r. inr refl) refl refl)

jump_class : (t : Bool) (code : ℕ) → code % 8 ≡ cond t 6 5 → (code % 8 ≡ 5) ⊎ (code % 8 ≡ 6)
jump_class true code c = inr c
jump_class false code c = inl c

-- the codes of jumps by their operation: 0, 9 or 8, or a conditional jump
always : (slots : List bpf_insn) (slot : bpf_insn) (s : MachineState) → (slot.code % 8 ≡ 5) ⊎ (slot.code % 8 ≡ 6) → slot.code / 16 ≡ 0 → Proceeding slots slot s
always slots slot s c z =
    elim (eqb_tells slot.code 5) [
      | inl e ↦ jumps slots slot s e.1
      | inr five ↦ elim (eqb_tells slot.code 6) [
        | inl e ↦ jumps_far slots slot s e.1
        | inr six ↦ elim (eqb_tells slot.code 13) [
          | inl e ↦ inl (s, JumpsAnywhere e.1 refl)
          | inr more ↦ calls slots slot s (is_pseudo_call slot) (is_poisoned slot) c (inr (inl (fourteen slot.code c z five.1 six.1 more.1))) refl refl
        ]
      ]
    ]
  where
    fourteen : (code : ℕ) → (code % 8 ≡ 5) ⊎ (code % 8 ≡ 6) → code / 16 ≡ 0 → code ≢ 5 → code ≢ 6 → code ≢ 13 → 14 ≡ code
    fourteen code (inl c) z p q r = omega arith
    fourteen code (inr c) z p q r = omega arith

ends : (slots : List bpf_insn) (slot : bpf_insn) (s : MachineState) → (slot.code % 8 ≡ 5) ⊎ (slot.code % 8 ≡ 6) → slot.code / 16 ≡ 9 → Proceeding slots slot s
ends slots slot s c z =
    elim (eqb_tells slot.code 149) [
      | inl e ↦ returns slots slot s s.stack e.1 refl
      | inr other ↦ calls slots slot s (is_pseudo_call slot) (is_poisoned slot) c (inr (inr (undefined slot.code c z other.1))) refl refl
    ]
  where
    undefined : (code : ℕ) → (code % 8 ≡ 5) ⊎ (code % 8 ≡ 6) → code / 16 ≡ 9 → code ≢ 149 → Among (150 ∷ 157 ∷ 158 ∷ []) code
    undefined code (inl c) z p = inr (inl (omega arith))
    undefined code (inr c) z p =
        elim (eqb_tells code 150) [ inl e ↦ inl (sym e.1) | inr other ↦ inr (inr (inl (let h = other.1 in omega arith))) ]

jump : (slots : List bpf_insn) (slot : bpf_insn) (s : MachineState) (t : Bool) → slot.code % 8 ≡ cond t 6 5 → Proceeding slots slot s
jump slots slot s t c =
    let class_is = jump_class t slot.code c in
    elim (eqb_tells (slot.code / 16) 0) [
      | inl z ↦ always slots slot s class_is z.1
      | inr p ↦ elim (eqb_tells (slot.code / 16) 8) [
        | inl z ↦ calls slots slot s (is_pseudo_call slot) (is_poisoned slot) class_is (inl z.1) refl refl
        | inr q ↦ elim (eqb_tells (slot.code / 16) 9) [
          | inl z ↦ ends slots slot s class_is z.1
          | inr r ↦ branches slots slot s t c p.1 q.1 r.1
        ]
      ]
    ]

pub machines_go_on : MachinesGoOn
machines_go_on slots slot s =
    elim (eqb_tells (slot.code % 8) 0) [
      | inl c ↦ first_class slots slot s c.1
      | inr p0 ↦ elim (eqb_tells (slot.code % 8) 1) [
        | inl c ↦ inl (arrives s (s.place + 1), Loads c.1 (λ r. inr refl) refl refl)
        | inr p1 ↦ elim (eqb_tells (slot.code % 8) 2) [
          | inl c ↦ inl (arrives s (s.place + 1), Stores (inl c.1) (λ r. inr refl) refl refl)
          | inr p2 ↦ elim (eqb_tells (slot.code % 8) 3) [
            | inl c ↦ third_class slots slot s c.1
            | inr p3 ↦ elim (eqb_tells (slot.code % 8) 4) [
              | inl c ↦ calculates slots slot s true c.1
              | inr p4 ↦ elim (eqb_tells (slot.code % 8) 5) [
                | inl c ↦ jump slots slot s false c.1
                | inr p5 ↦ elim (eqb_tells (slot.code % 8) 6) [
                  | inl c ↦ jump slots slot s true c.1
                  | inr p6 ↦ calculates slots slot s false (seven slot.code p0.1 p1.1 p2.1 p3.1 p4.1 p5.1 p6.1)
                ]
              ]
            ]
          ]
        ]
      ]
    ]
  where
    seven : (code : ℕ) → code % 8 ≢ 0 → code % 8 ≢ 1 → code % 8 ≢ 2 → code % 8 ≢ 3 → code % 8 ≢ 4 → code % 8 ≢ 5 → code % 8 ≢ 6 → code % 8 ≡ 7
    seven code a b c d e f g = omega arith
