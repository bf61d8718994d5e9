use Rattle.std.proofs.Common.{◌≡◌, ◌∙◌, ap, sym, subst, Err}
use Rattle.std.specs.Prelude.{MatchBool, ⊤}
use Rattle.ebpf_btf.specs.Strings.{text_at}
use Rattle.ebpf_btf.specs.TypeInfo.{TypeInfo}
use Rattle.ebpf_core.specs.Answers.{is_record_memory, without_texts}
use Rattle.ebpf_core_relo.specs.PrivateContracts.{IsStatedRefusal, found_number, part_applied}
use Rattle.ebpf_core_relo.specs.RecordOutcomes.{name_or_unnamed, section_number_at}
use Rattle.ebpf_core_relo.specs.Records.{error_in_section}
use Rattle.ebpf_core_relo.specs.SpanInputs.{inputs_of}
use Rattle.ebpf_core_relo.proofs.WalkedRecords.{part_left, part_refused}
use Rattle.ebpf_core_relo.proofs.walk.add_part.Goals as goal

pub returns-in-Ok-add_records-clause-stops : goal.returns-in-Ok-add_records-clause-stops
returns-in-Ok-add_records-clause-stops c stops =
    let inputs = inputs_of c.args.search.now c.args.walk.now.function_spans.now in
    let found = found_number c.in-Ok.found in
    part_left inputs c.args.part.now c.args.outcomes.now.written found
    (c.in-Ok.ensures ∙ ap (λ (types : TypeInfo). section_number_at types inputs.section_infos c.args.part.now.0) (sym c.requires))
    c.add_records.new.outcomes.written
    (ap (λ rs. part_applied inputs found rs c.args.outcomes.now.written) (sym c.as_slice-relocations.ensures) ∙ c.in-Ok-add_records.ensures.stops stops)

pub returns-in-Err-clause-stops : goal.returns-in-Err-clause-stops
returns-in-Err-clause-stops c stops =
    let inputs = inputs_of c.args.search.now c.args.walk.now.function_spans.now in
    let found = found_number c.in-Ok.found in
    let e = c.in-Err.error in
    let offset = c.args.part.now.0 in
    part_refused inputs c.args.part.now c.args.outcomes.now.written found
    (c.in-Ok.ensures ∙ ap (λ (types : TypeInfo). section_number_at types inputs.section_infos offset) (sym c.requires))
    e
    (subst (λ rs. MatchBool (is_record_memory e) ⊤ (part_applied inputs found rs c.args.outcomes.now.written ≡ Err (without_texts e))) c.as_slice-relocations.ensures (c.in-Err.ensures.stops stops))
    c.error_at.result
    (subst (λ (types : TypeInfo). IsStatedRefusal c.error_at.result (error_in_section (name_or_unnamed offset (text_at types.strings offset)) (without_texts e))) (sym c.requires) c.error_at.ensures.refusal)
    c.error_at.ensures.memory
