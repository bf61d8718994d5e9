use Rattle.std.proofs.Common.{ℕ, ◌/◌, Ok, ap, ◌∙◌, sym}
use Rattle.std.specs.FinMap.{insert}
use Rattle.ebpf_core_relo.specs.Carried.{written}
use Rattle.ebpf_core_relo.specs.PrivateContracts.{put_at}
use Rattle.ebpf_core_relo.proofs.OutcomeSlots.{put_by}
use Rattle.ebpf_core_relo.proofs.applied.put_outcome.Goals as goal

pub returns-clause-put : goal.returns-clause-put
returns-clause-put c =
    let key : ℕ × ℕ = (c.args.located.section, c.args.located.span.address) in
    let number = c.args.relocation.now.number in
    let at = c.saturating_sub-at.result / 8 in
    put_by _ c.args.located.section c.args.written.now c.insert.new.self c.args.relocation.now c.args.located.span c.in_ok-outcome.outcome c.in_ok-slots.slots c.with_patched_slots-slots.result
    c.in_ok-outcome.ensures.outcome
    c.in_ok-slots.ensures.slots
    (ap (λ n. written number c.in_ok-slots.slots (n / 8) c.in_ok-outcome.outcome) (sym c.saturating_sub-at.ensures)
    ∙ ap (λ slots. written number slots at c.in_ok-outcome.outcome) c.in_ok-slots.ensures.slots
    ∙ c.in_ok-patched.ensures.slots
    ∙ ap (λ slots. Ok (put_at slots at c.in_ok-patched.patched)) (sym c.in_ok-slots.ensures.slots)
    ∙ ap Ok (sym c.with_patched_slots-slots.ensures))
    (c.in_ok-insert.ensures.ok ∙ ap (λ m. insert m key c.with_patched_slots-slots.result) c.take_slots.ensures.taken)
