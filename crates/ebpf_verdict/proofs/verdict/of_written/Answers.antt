use Rattle.std.proofs.Common.{List, subst}
use Rattle.std.specs.Prelude.{IfOk}
use Rattle.ebpf_core_relo.specs.declared.outcomes.RecordOutcome.{RecordOutcome}
use Rattle.ebpf_object.specs.LinkedPrograms.{linkable_of, programs_in_order}
use Rattle.ebpf_object.specs.Names.{has_function_in}
use Rattle.ebpf_verdict.proofs.Judged.{of_result}
use Rattle.ebpf_verdict.specs.Verdicts.{AreVerdicts, map_types}
use Rattle.ebpf_verdict.proofs.verdict.of_written.Goals as goal

pub returns : goal.returns
returns c =
    let o = c.args.object.now in
    let unlinked = c.args.written.object in
    of_result o c.args.kernel.now c.args.records c.has_empty_section-has_empty_section.result c.args.written.lacking unlinked c.judge_programs-judged.result c.with_programs.result c.has_empty_section-has_empty_section.ensures
    (subst (λ (rs : List RecordOutcome). IfOk c.judge_programs-judged.result (λ all. AreVerdicts c.args.kernel.now (map_types o) rs (linkable_of unlinked (has_function_in unlinked.functions)) (programs_in_order o.programs) all)) c.as_slice.ensures c.judge_programs-judged.ensures)
    c.with_programs.ensures
