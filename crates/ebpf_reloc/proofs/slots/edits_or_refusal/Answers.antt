use Rattle.std.proofs.Common.{rules, arith, ◌≡◌, ◌∙◌, ◌+◌, ◌-◌, ◌*◌, ◌/◌, true, length, None, Ok, ◌<◌, refl, sym, ap, subst, nat_lt}
use Rattle.std.specs.Prelude.{unwrap_or}
use Rattle.std.specs.FinMap.{empty, entries}
use Rattle.ebpf_base.specs.Maps.{entries_from}
use Rattle.ebpf_model.specs.Walks.{walked_relocations, left_in, ahead_in}
use Rattle.ebpf_model.proofs.InStep.{first_passed, later}
use Rattle.ebpf_reloc.specs.Relocated.{scan, tried, slots_after_relocations}
use Rattle.ebpf_reloc.specs.Passes.{rule_edit_of}
use Rattle.ebpf_reloc.proofs.Runs.{entries_kept, tried_on, before_end}
use Rattle.ebpf_reloc.proofs.slots.edits_or_refusal.Goals as goal

pub loop-offset-init : goal.loop-offset-init
loop-offset-init c =
    let f = c.args.function.now in
    let rule = rule_edit_of c.args.rule.now in
    let all : left_in c.pass_all.new.self ≡ entries_from f.section_offset (entries (unwrap_or (walked_relocations c.args.walk.now) empty)) = c.pass_all.ensures.left ∙ ap (entries_from f.section_offset) (entries_kept (walked_relocations c.args.walk.now)) in
    record {
      scan = ap (λ slots. scan rule f.section_offset slots None (left_in c.pass_all.new.self)) c.as_slice-slots.ensures ∙ ap (scan rule f.section_offset f.instructions None) all;
      none = λ _. refl;
      stays = λ _. ap (λ slots. slots_after_relocations rule f.section_offset (left_in c.pass_all.new.self) slots) c.as_slice-slots.ensures ∙ ap (λ es. slots_after_relocations rule f.section_offset es f.instructions) all;
      others = c.pass_all.ensures.others;
      before = later c.pass_all.new.self f.section_offset (f.section_offset + 8 * length f.instructions) c.pass_all.ensures.before (omega arith);
    }

pub loop-offset-preserved : goal.loop-offset-preserved
loop-offset-preserved c =
    let f = c.args.function.now in
    let rule = rule_edit_of c.args.rule.now in
    let slots = c.as_slice-slots.result.now in
    let walk = c.loop-offset.walk in
    let rest = ahead_in walk.ahead in
    let inside : nat_lt ((c.in-Some.offset - f.section_offset) / 8) (length slots) ≡ true = search rules in
    let tries : tried rule slots c.loop-offset.pending (c.in-Some.offset - f.section_offset) c.in-Some.relocation ≡ Ok c.pending_of-pending.result = search rules in
    record {
      scan =
          ap (scan rule f.section_offset slots c.pending_of-pending.result) c.pass.ensures.left
          ∙ sym (tried_on rule f.section_offset slots (c.in-Some.offset, c.in-Some.relocation) inside c.loop-offset.pending c.pending_of-pending.result rest tries)
          ∙ sym (ap (scan rule f.section_offset slots c.loop-offset.pending) c.in-Some.ensures)
          ∙ c.loop-offset.invariant.scan;
      none = search rules;
      stays = search rules;
      others = search rules;
      before = first_passed walk c.pass.new.self (c.in-Some.offset, c.in-Some.relocation) rest (f.section_offset + 8 * length f.instructions) c.loop-offset.invariant.before c.in-Some.ensures
          (subst (λ slots. c.in-Some.offset < f.section_offset + 8 * length slots) c.as_slice-slots.ensures (before_end rule f.section_offset slots (c.in-Some.offset, c.in-Some.relocation) inside))
          (ap walked_relocations c.pass.ensures.others) c.pass.ensures.left;
    }
