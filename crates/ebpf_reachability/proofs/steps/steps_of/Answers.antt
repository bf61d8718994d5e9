use Rattle.std.proofs.Common.{◌≡◌, List, ◌++◌, sym, ap, ◌∙◌, refl, pos, ◌+ℤ◌, rules, ℤ}
use Rattle.std.specs.Option.{option_to_list}
use Rattle.std.specs.Prelude.{FitsSigned}
use Rattle.std.specs.Int.{w16, w32, cast_signed, cast_unsigned}
use Rattle.std.proofs.lemmas.Int.{to_z-of_z}
use Rattle.ebpf_parts.specs.Slots.{dst_of}
use Rattle.ebpf_reachability.specs.declared.registers.Registers.{Registers}
use Rattle.ebpf_reachability.specs.declared.steps.SlotState.{SlotState}
use Rattle.ebpf_reachability.specs.Effects.{unknown, learned, called, after, wide_load_result}
use Rattle.ebpf_reachability.specs.Steps.{next_index, steps_by_flow, target_index, steps_to}
use Rattle.ebpf_reachability.proofs.Flows as flows
use Rattle.ebpf_reachability.proofs.steps.steps_of.Goals as goal

both : (a b c d : List SlotState) → a ≡ b → c ≡ d → a ++ c ≡ b ++ d
both a b c d p q = cc

-- what a step far off leads to, at what its distance and its registers are
led : (f : ℤ → Registers → List SlotState) (d e : ℤ) (a b : Registers) (s : List SlotState) → s ≡ f d a → d ≡ e → a ≡ b → s ≡ f e b
led f d e a b s p q r = cc

pub returns-then-slot-clause-steps : goal.returns-then-slot-clause-steps
returns-then-slot-clause-steps c =
    let slot = c.args.slot in
    sym (ap (steps_by_flow c.args.slots.now c.args.place slot c.args.registers) (flows.flow_return slot c.if-slot.true))

pub returns-then-is_pseudo_call-clause-steps : goal.returns-then-is_pseudo_call-clause-steps
returns-then-is_pseudo_call-clause-steps c =
    let S = c.args.slots.now in
    let slot = c.args.slot in
    let fits : FitsSigned w32 slot.imm = search rules in
    let one : option_to_list c.step_to.result ≡ steps_to S (next_index c.args.place) (called c.args.registers) = c.step_to.ensures.steps_to ∙ ap (steps_to S (next_index c.args.place)) c.called.ensures in
    let two : option_to_list c.step_further.result ≡ steps_to S (target_index c.args.place slot.imm) unknown = led (λ d a. steps_to S (target_index c.args.place d) a) _ _ _ _ _ c.step_further.ensures.steps_to (to_z-of_z w32 slot.imm fits) c.unknown.ensures in
    both _ _ _ _ one two ∙ sym (ap (steps_by_flow S c.args.place slot c.args.registers) (flows.flow_enter slot c.if-slot.false (sym c.is_pseudo_call.ensures ∙ c.if-is_pseudo_call.true)))

pub returns-then-slot-eq-LD_IMM64-clause-steps : goal.returns-then-slot-eq-LD_IMM64-clause-steps
returns-then-slot-eq-LD_IMM64-clause-steps c =
    let S = c.args.slots.now in
    let slot = c.args.slot in
    let known : c.learned-known.result ≡ learned c.args.registers (dst_of slot) (wide_load_result S c.args.place slot) = cc in
    let one : option_to_list c.step_to-then-slot-eq-LD_IMM64.result ≡ steps_to S (pos c.args.place +ℤ pos 2) (learned c.args.registers (dst_of slot) (wide_load_result S c.args.place slot)) = c.step_to-then-slot-eq-LD_IMM64.ensures.steps_to ∙ ap (steps_to S (pos c.args.place +ℤ pos 2)) known in
    both _ _ _ _ one c.callback.ensures.steps_to ∙ sym (ap (steps_by_flow S c.args.place slot c.args.registers) (flows.flow_wide slot c.if-slot.false (sym c.is_pseudo_call.ensures ∙ c.if-is_pseudo_call.false) c.if-slot-eq-LD_IMM64.true))

pub returns-then-slot-eq-JA-clause-steps : goal.returns-then-slot-eq-JA-clause-steps
returns-then-slot-eq-JA-clause-steps c =
    let S = c.args.slots.now in
    let slot = c.args.slot in
    let fits : FitsSigned w16 slot.off = search rules in
    let fits_wider : FitsSigned w32 c.from.result = search rules in
    let far : cast_signed w32 (cast_unsigned w32 c.from.result) ≡ slot.off = to_z-of_z w32 c.from.result fits_wider ∙ (c.from.ensures ∙ to_z-of_z w16 slot.off fits) in
    led (λ d a. steps_to S (target_index c.args.place d) a) _ _ _ _ _ c.step_further-then-slot-eq-JA.ensures.steps_to far refl ∙ sym (ap (steps_by_flow S c.args.place slot c.args.registers) (flows.flow_jump slot c.if-slot.false (sym c.is_pseudo_call.ensures ∙ c.if-is_pseudo_call.false) c.if-slot-eq-LD_IMM64.false c.if-slot-eq-JA.true))

pub returns-then-slot-eq-JA32-clause-steps : goal.returns-then-slot-eq-JA32-clause-steps
returns-then-slot-eq-JA32-clause-steps c =
    let S = c.args.slots.now in
    let slot = c.args.slot in
    let fits : FitsSigned w32 slot.imm = search rules in
    led (λ d a. steps_to S (target_index c.args.place d) a) _ _ _ _ _ c.step_further-then-slot-eq-JA32.ensures.steps_to (to_z-of_z w32 slot.imm fits) refl ∙ sym (ap (steps_by_flow S c.args.place slot c.args.registers) (flows.flow_long_jump slot c.if-slot.false (sym c.is_pseudo_call.ensures ∙ c.if-is_pseudo_call.false) c.if-slot-eq-LD_IMM64.false c.if-slot-eq-JA.false c.if-slot-eq-JA32.true))

pub returns-then-is_branch-clause-steps : goal.returns-then-is_branch-clause-steps
returns-then-is_branch-clause-steps c =
    let S = c.args.slots.now in
    let slot = c.args.slot in
    c.ways.ensures.ways ∙ sym (ap (steps_by_flow S c.args.place slot c.args.registers) (flows.flow_branch slot c.if-slot.false (sym c.is_pseudo_call.ensures ∙ c.if-is_pseudo_call.false) c.if-slot-eq-LD_IMM64.false c.if-slot-eq-JA.false c.if-slot-eq-JA32.false (sym c.is_branch.ensures ∙ c.if-is_branch.true)))

pub returns-clause-steps : goal.returns-clause-steps
returns-clause-steps c =
    let S = c.args.slots.now in
    let slot = c.args.slot in
    let one : option_to_list c.step_to-2.result ≡ steps_to S (next_index c.args.place) (after slot c.args.registers) = c.step_to-2.ensures.steps_to ∙ ap (steps_to S (next_index c.args.place)) c.after.ensures in
    one ∙ sym (ap (steps_by_flow S c.args.place slot c.args.registers) (flows.flow_next slot c.if-slot.false (sym c.is_pseudo_call.ensures ∙ c.if-is_pseudo_call.false) c.if-slot-eq-LD_IMM64.false c.if-slot-eq-JA.false c.if-slot-eq-JA32.false (sym c.is_branch.ensures ∙ c.if-is_branch.false)))
