use Rattle.std.proofs.Common.{◌≡◌, get_or, sym, ap, ◌∙◌}
use Rattle.ebpf_core_candidates.proofs.Names.{scanned_name, scanned_start, scanned_step, scanned_third, scanned_zero}
use Rattle.ebpf_core_candidates.proofs.type_names.essential_before_zero.Goals as goal
use Rattle.ebpf_core_candidates.proofs.type_names.essential_before_zero.Goals.{else-marks-eq2-via-then-marks-eq2+else-byte-eq95, else-marks-eq2-via-else-marks-eq2}

pub loop-index-init : goal.loop-index-init
loop-index-init c = scanned_start c.args.bytes.now

pub returns-then-byte-eq0 : goal.returns-then-byte-eq0
returns-then-byte-eq0 c =
    let is = c.loop-index.invariant in
    sym (scanned_zero c.args.bytes.now c.loop-index.index c.loop-index.marks c.loop-index-test.true is.few is.ends c.if-byte-eq0.true) ∙ is.rest

pub returns-then-byte-eq95 : goal.returns-then-byte-eq95
returns-then-byte-eq95 c =
    c.before_marks.ensures
    ∙ sym (scanned_third c.args.bytes.now c.loop-index.index c.loop-index-test.true c.if-byte-eq95.true)
    ∙ ap (scanned_name c.args.bytes.now c.loop-index.index) (sym c.if-marks-eq2.true)
    ∙ c.loop-index.invariant.rest

pub loop-index-preserved : goal.loop-index-preserved
loop-index-preserved c =
    let third : (c.loop-index.marks ≡ 2) → (get_or c.args.bytes.now c.loop-index.index 0 ≡ 95) → ⊥ =
    elim c.else-marks-eq2.branch [
      | else-marks-eq2-via-then-marks-eq2+else-byte-eq95 w ↦ λ m b. w.if-byte-eq95.false b
      | else-marks-eq2-via-else-marks-eq2 w ↦ λ m b. w.if-marks-eq2.false m
    ] in
    scanned_step c.args.bytes.now c.loop-index.index c.loop-index.marks c.marks_after-marks.result _ c.loop-index-test.true c.loop-index.invariant c.if-byte-eq0.false third c.marks_after-marks.ensures
