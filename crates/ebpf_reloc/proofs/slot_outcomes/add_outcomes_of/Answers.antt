use Rattle.std.proofs.Common.{rules, arith, ◌≡◌, ◌∙◌, ℕ, ◌+◌, ◌-◌, ◌*◌, ◌/◌, ◌++◌, true, length, None, ◌<◌, sym, ap, subst, nat_lt}
use Rattle.std.specs.Prelude.{unwrap_or}
use Rattle.std.specs.FinMap.{empty, entries}
use Rattle.ebpf_base.specs.Maps.{entries_from}
use Rattle.ebpf_model.specs.Walks.{walked_relocations, left_in, ahead_in}
use Rattle.ebpf_model.proofs.InStep.{first_passed, later}
use Rattle.ebpf_elf.specs.declared.relocation.ElfRelocation.{ElfRelocation}
use Rattle.ebpf_reloc.specs.Passes.{rule_edit_of}
use Rattle.ebpf_reloc.specs.SlotOutcomes.{found_result, outcomes_of, outcomes_scanned, pending_past}
use Rattle.ebpf_reloc.proofs.Runs.{before_end, entries_kept}
use Rattle.ebpf_reloc.proofs.SlotOutcomes.{outcomes_are_scanned, scanned_on}
use Rattle.ebpf_reloc.proofs.slot_outcomes.add_outcomes_of.Goals as goal

pub loop-offset-init : goal.loop-offset-init
loop-offset-init c =
    let f = c.args.function.now in
    let rule = rule_edit_of c.args.rule.now in
    let all : left_in c.pass_all.new.self ≡ entries_from f.section_offset (entries (unwrap_or (walked_relocations c.args.walk.now) empty)) = c.pass_all.ensures.left ∙ ap (entries_from f.section_offset) (entries_kept (walked_relocations c.args.walk.now)) in
    record {
      outcomes =
          ap (λ list. c.args.outcomes.now ++ list)
          (ap (λ slots. outcomes_scanned rule c.args.key f.section_offset slots None (left_in c.pass_all.new.self)) c.as_slice-slots.ensures
          ∙ ap (outcomes_scanned rule c.args.key f.section_offset f.instructions None) all
          ∙ outcomes_are_scanned rule (unwrap_or (walked_relocations c.args.walk.now) empty) c.args.key f);
      others = c.pass_all.ensures.others;
      before = later c.pass_all.new.self f.section_offset (f.section_offset + 8 * length f.instructions) c.pass_all.ensures.before (omega arith);
    }

pub loop-offset-preserved : goal.loop-offset-preserved
loop-offset-preserved c =
    let f = c.args.function.now in
    let key = c.args.key in
    let rule = rule_edit_of c.args.rule.now in
    let slots = c.as_slice-slots.result.now in
    let walk = c.loop-offset.walk in
    let rest = ahead_in walk.ahead in
    let e : ℕ × ElfRelocation = (c.in-Some.offset, c.in-Some.relocation) in
    let inside : nat_lt ((e.0 - f.section_offset) / 8) (length slots) ≡ true = search rules in
    let before = c.loop-offset.outcomes in
    let after = c.push_outcome.new.outcomes in
    let all = c.args.outcomes.now ++ outcomes_of rule (unwrap_or (walked_relocations c.args.walk.now) empty) key f in
    let r = c.found_result-outcome.result in
    let next = c.pending_past-pending.result in
    let pending = c.loop-offset.pending in
    let distance : c.saturating_sub-distance.result ≡ e.0 - f.section_offset = search rules in
    let r_is : r ≡ found_result rule slots pending (e.0 - f.section_offset) e.1 = c.found_result-outcome.ensures ∙ ap (λ d. found_result rule slots pending d e.1) distance in
    let next_is : next ≡ pending_past pending (e.0 - f.section_offset) r = c.pending_past-pending.ensures ∙ ap (λ d. pending_past pending d r) distance in
    record {
      outcomes =
          ap (λ es. after ++ outcomes_scanned rule key f.section_offset slots next es) c.pass.ensures.left
          ∙ scanned_on rule key f.section_offset slots c.loop-offset.pending e rest inside before after all r r_is next next_is c.in_ok-push_outcome.ensures
          (ap (λ es. before ++ outcomes_scanned rule key f.section_offset slots c.loop-offset.pending es) (sym c.in-Some.ensures) ∙ c.loop-offset.invariant.outcomes);
      others = search rules;
      before = first_passed walk c.pass.new.self e rest (f.section_offset + 8 * length f.instructions) c.loop-offset.invariant.before c.in-Some.ensures
          (subst (λ slots. c.in-Some.offset < f.section_offset + 8 * length slots) c.as_slice-slots.ensures (before_end rule f.section_offset slots e inside))
          (ap walked_relocations c.pass.ensures.others) c.pass.ensures.left;
    }
