use Rattle.std.proofs.Common.{◌∙◌, sym, arith}
use Rattle.ebpf_btf.specs.Memory.{is_btf_memory}
use Rattle.ebpf_core_candidates.proofs.Comparisons.{fields_local_fault, fields_target_fault, fields_next}
use Rattle.ebpf_core_candidates.proofs.Refusals.{exact, handed_on}
use Rattle.ebpf_core_candidates.proofs.compatible.fields_are_compatible.Goals as goal

pub returns-in_err-local_type : goal.returns-in_err-local_type
returns-in_err-local_type c =
    exact is_btf_memory c.from_residual.result _
    (sym c.loop-level.invariant ∙ fields_local_fault c.loop-level._level _ _ _ _ _ (omega arith) (sym c.in_err-local_type.ensures)
    ∙ sym (handed_on c.from_residual.result c.in_err-local_type.field-0.0 c.from_residual.ensures.1))

pub returns-in_err-target_type : goal.returns-in_err-target_type
returns-in_err-target_type c =
    exact is_btf_memory c.from_residual-in_err-target_type.result _
    (sym c.loop-level.invariant ∙ fields_target_fault c.loop-level._level _ _ _ _ _ _ (omega arith) (sym c.in_ok-local_type.ensures) (sym c.in_err-target_type.ensures)
    ∙ sym (handed_on c.from_residual-in_err-target_type.result c.in_err-target_type.field-0.0 c.from_residual-in_err-target_type.ensures.1))

pub loop-level-preserved : goal.loop-level-preserved
loop-level-preserved c =
    sym (fields_next c.loop-level._level _ _ _ _ _ _ _ _ _ _ (omega arith) (sym c.in_ok-local_type.ensures) (sym c.in_ok-target_type.ensures) c.element.ensures c.element-in-loop-level.ensures c.both.ensures c.in-Some.is)
    ∙ c.loop-level.invariant
