-- Where control goes after a slot, by its code.
use Rattle.std.proofs.Common.{◌≡◌, ◌≢◌, ℕ, ◌/◌, ◌%◌, ◌⊎◌, inl, inr, Bool, true, false, cond, refl, sym, subst, arith, eqb, eq-eqb}
use Rattle.std.specs.Prelude.{◌&&◌, ◌==◌}
use Rattle.std.proofs.lemmas.Bool.Decides.{eqb_tells, nat_tests}
use Rattle.ebpf_parts.specs.declared.insn.bpf_insn.{bpf_insn}
use Rattle.ebpf_parts.specs.Slots.{dst_of, src_of, is_poisoned, is_pseudo_call, is_zero}
use Rattle.ebpf_reachability.specs.ConcreteMachine.{no_jumps}
use Rattle.ebpf_linker.specs.Functions.{Among, Flow, Return, PseudoCall, WideLoad, Jump, Branch, Next, flow, is_branch}

-- the table of `flow`, by what its tests say
chosen : Bool → Bool → Bool → Bool → Bool → Bool → bpf_insn → Flow
chosen a b c d e f slot = cond a Return (cond b PseudoCall (cond c WideLoad (cond d (Jump slot.off) (cond e (Jump slot.imm) (cond f (Branch slot.off) Next)))))

flow_chosen : (slot : bpf_insn) → flow slot ≡ chosen (eqb slot.code 0x95) (is_pseudo_call slot) (eqb slot.code 0x18) (eqb slot.code 0x05) (eqb slot.code 0x06) (is_branch slot.code) slot
unfolding flow chosen
flow_chosen slot = refl

flow_by : (slot : bpf_insn) (a b c d e f : Bool) → eqb slot.code 0x95 ≡ a → is_pseudo_call slot ≡ b → eqb slot.code 0x18 ≡ c → eqb slot.code 0x05 ≡ d → eqb slot.code 0x06 ≡ e → is_branch slot.code ≡ f → flow slot ≡ chosen a b c d e f slot
flow_by slot a b c d e f p q r s t u = cc (flow_chosen slot)

pub differ : (m n : ℕ) → m ≢ n → eqb m n ≡ false
differ m n h = grind (arith, nat_tests)

pub flow_return : (slot : bpf_insn) → slot.code ≡ 0x95 → flow slot ≡ Return
unfolding chosen
flow_return slot p = flow_by slot true _ _ _ _ _ (eq-eqb slot.code 0x95 p) refl refl refl refl refl

pub flow_enter : (slot : bpf_insn) → slot.code ≢ 0x95 → is_pseudo_call slot ≡ true → flow slot ≡ PseudoCall
unfolding chosen
flow_enter slot p q = flow_by slot false true _ _ _ _ (differ slot.code 0x95 p) q refl refl refl refl

pub flow_wide : (slot : bpf_insn) → slot.code ≢ 0x95 → is_pseudo_call slot ≡ false → slot.code ≡ 0x18 → flow slot ≡ WideLoad
unfolding chosen
flow_wide slot p q r = flow_by slot false false true _ _ _ (differ slot.code 0x95 p) q (eq-eqb slot.code 0x18 r) refl refl refl

pub flow_jump : (slot : bpf_insn) → slot.code ≢ 0x95 → is_pseudo_call slot ≡ false → slot.code ≢ 0x18 → slot.code ≡ 0x05 → flow slot ≡ Jump slot.off
unfolding chosen
flow_jump slot p q r s = flow_by slot false false false true _ _ (differ slot.code 0x95 p) q (differ slot.code 0x18 r) (eq-eqb slot.code 0x05 s) refl refl

pub flow_long_jump : (slot : bpf_insn) → slot.code ≢ 0x95 → is_pseudo_call slot ≡ false → slot.code ≢ 0x18 → slot.code ≢ 0x05 → slot.code ≡ 0x06 → flow slot ≡ Jump slot.imm
unfolding chosen
flow_long_jump slot p q r s t = flow_by slot false false false false true _ (differ slot.code 0x95 p) q (differ slot.code 0x18 r) (differ slot.code 0x05 s) (eq-eqb slot.code 0x06 t) refl

pub flow_branch : (slot : bpf_insn) → slot.code ≢ 0x95 → is_pseudo_call slot ≡ false → slot.code ≢ 0x18 → slot.code ≢ 0x05 → slot.code ≢ 0x06 → is_branch slot.code ≡ true → flow slot ≡ Branch slot.off
unfolding chosen
flow_branch slot p q r s t u = flow_by slot false false false false false true (differ slot.code 0x95 p) q (differ slot.code 0x18 r) (differ slot.code 0x05 s) (differ slot.code 0x06 t) u

pub flow_next : (slot : bpf_insn) → slot.code ≢ 0x95 → is_pseudo_call slot ≡ false → slot.code ≢ 0x18 → slot.code ≢ 0x05 → slot.code ≢ 0x06 → is_branch slot.code ≡ false → flow slot ≡ Next
unfolding chosen
flow_next slot p q r s t u = flow_by slot false false false false false false (differ slot.code 0x95 p) q (differ slot.code 0x18 r) (differ slot.code 0x05 s) (differ slot.code 0x06 t) u

-- ---- the flow of a slot, by what its code says

and_false : (a b : Bool) → a ≡ false → (a && b) ≡ false
and_false true b h = cc
and_false false b h = refl

and_rest_false : (a b : Bool) → b ≡ false → (a && b) ≡ false
and_rest_false true b h = h
and_rest_false false b h = refl

and_true : (a b : Bool) → (a && b) ≡ true → (a ≡ true) × (b ≡ true)
and_true true b h = (refl, h)
and_true false b h = cc

pub no_call : (slot : bpf_insn) → slot.code ≢ 133 → is_pseudo_call slot ≡ false
no_call slot h = and_false (slot.code == 133) ((src_of slot == 1) && ((dst_of slot == 0) && is_zero slot.off)) (differ slot.code 133 h)

no_poison : (slot : bpf_insn) → slot.code ≢ 133 → is_poisoned slot ≡ false
no_poison slot h = let e = differ slot.code 133 h in rw e

pub no_branch : (code : ℕ) → code % 8 ≢ 5 → code % 8 ≢ 6 → is_branch code ≡ false
no_branch code p q = let e = differ (code % 8) 5 p in let f = differ (code % 8) 6 q in rw (e, f)

pub branch : (code : ℕ) → (code % 8 ≡ 5) ⊎ (code % 8 ≡ 6) → code / 16 ≢ 0 → code / 16 ≢ 8 → code / 16 ≢ 9 → is_branch code ≡ true
branch code (inl c) p q r = let d = eq-eqb (code % 8) 5 c in let e = differ (code / 16) 0 p in let f = differ (code / 16) 8 q in let g = differ (code / 16) 9 r in rw (d, e, f, g)
branch code (inr c) p q r = let b = differ (code % 8) 5 (λ (h : code % 8 ≡ 5). absurd (omega arith)) in let d = eq-eqb (code % 8) 6 c in let e = differ (code / 16) 0 p in let f = differ (code / 16) 8 q in let g = differ (code / 16) 9 r in rw (b, d, e, f, g)

-- a slot that is no jump and no wide load
pub plain : (slot : bpf_insn) (c : ℕ) → slot.code % 8 ≡ c → c ≢ 5 → c ≢ 6 → slot.code ≢ 24 → flow slot ≡ Next
plain slot c is p q r =
    flow_next slot (λ (h : slot.code ≡ 149). p (omega arith)) (no_call slot (λ (h : slot.code ≡ 133). p (omega arith))) r (λ (h : slot.code ≡ 5). p (omega arith)) (λ (h : slot.code ≡ 6). q (omega arith)) (no_branch slot.code (λ (h : slot.code % 8 ≡ 5). p (omega arith)) (λ (h : slot.code % 8 ≡ 6). q (omega arith)))

pub unpoisoned : (slot : bpf_insn) (c : ℕ) → slot.code % 8 ≡ c → c ≢ 5 → is_poisoned slot ≡ false
unpoisoned slot c is p = no_poison slot (λ (h : slot.code ≡ 133). p (omega arith))

-- ---- codes of calls and wide loads

-- what a call's code is not
pub record NoOther (code : ℕ) : Type 0 where
  pub exits : code ≢ 149
  pub wide : code ≢ 24
  pub jumps : code ≢ 5
  pub long : code ≢ 6
  pub branches : is_branch code ≡ false

listed : (code c : ℕ) → c ≡ code → c ≢ 149 → c ≢ 24 → c ≢ 5 → c ≢ 6 → is_branch c ≡ false → NoOther code
listed code c e p q r s u =
    subst (λ (v : ℕ). NoOther v) e (record { exits = p; wide = q; jumps = r; long = s; branches = u })

call_is_no_branch : (code : ℕ) → code / 16 ≡ 8 → is_branch code ≡ false
call_is_no_branch code h = grind (arith, nat_tests)

pub call_codes : (code : ℕ) → (code % 8 ≡ 5) ⊎ (code % 8 ≡ 6) → (code / 16 ≡ 8) ⊎ Among no_jumps code → NoOther code
call_codes code c (inl h) = record {
  exits = λ (e : code ≡ 149). absurd (omega arith);
  wide = λ (e : code ≡ 24). absurd (omega arith);
  jumps = λ (e : code ≡ 5). absurd (omega arith);
  long = λ (e : code ≡ 6). absurd (omega arith);
  branches = call_is_no_branch code h;
}
call_codes code c (inr (inl e)) = listed code 14 e (λ h. absurd (omega arith)) (λ h. absurd (omega arith)) (λ h. absurd (omega arith)) (λ h. absurd (omega arith)) refl
call_codes code c (inr (inr (inl e))) = listed code 150 e (λ h. absurd (omega arith)) (λ h. absurd (omega arith)) (λ h. absurd (omega arith)) (λ h. absurd (omega arith)) refl
call_codes code c (inr (inr (inr (inl e)))) = listed code 157 e (λ h. absurd (omega arith)) (λ h. absurd (omega arith)) (λ h. absurd (omega arith)) (λ h. absurd (omega arith)) refl
call_codes code c (inr (inr (inr (inr (inl e))))) = listed code 158 e (λ h. absurd (omega arith)) (λ h. absurd (omega arith)) (λ h. absurd (omega arith)) (λ h. absurd (omega arith)) refl
call_codes code c (inr (inr (inr (inr (inr m))))) = absurd m

number_of : (m n : ℕ) → (m == n) ≡ true → m ≡ n
number_of m n h = grind (arith, nat_tests)

pub call_code : (slot : bpf_insn) → is_pseudo_call slot ≡ true → slot.code ≡ 133
call_code slot h = number_of slot.code 133 (and_true (slot.code == 133) ((src_of slot == 1) && ((dst_of slot == 0) && is_zero slot.off)) h).0

poison_registers : (slot : bpf_insn) → slot.code ≡ 133 → slot.regs ≢ 0 → is_poisoned slot ≡ false
poison_registers slot p q = let e = eq-eqb slot.code 133 p in let f = differ slot.regs 0 q in rw (e, f)

no_function : (slot : bpf_insn) → slot.regs ≡ 0 → is_pseudo_call slot ≡ false
no_function slot p =
    let source : (src_of slot == 1) ≡ false = subst (λ (r : ℕ). (r / 16 == 1) ≡ false) (sym p) refl in
    let rest = (dst_of slot == 0) && is_zero slot.off in
    and_rest_false (slot.code == 133) ((src_of slot == 1) && rest) (and_false (src_of slot == 1) rest source)

-- a poisoned slot is a call, and none of a function of the program
pub poison_code : (slot : bpf_insn) → is_poisoned slot ≡ true → (slot.code ≡ 133) × (is_pseudo_call slot ≡ false)
poison_code slot h =
    elim (eqb_tells slot.code 133) [
      | inr apart ↦ absurd (let e = no_poison slot apart.1 in cc)
      | inl code ↦ elim (eqb_tells slot.regs 0) [
        | inr apart ↦ absurd (let e = poison_registers slot code.1 apart.1 in cc)
        | inl none ↦ (code.1, no_function slot none.1)
      ]
    ]

pub no_wide : (code : ℕ) → (code % 8 ≡ 5) ⊎ (code % 8 ≡ 6) → code ≢ 24
no_wide code (inl c) h = absurd (omega arith)
no_wide code (inr c) h = absurd (omega arith)
