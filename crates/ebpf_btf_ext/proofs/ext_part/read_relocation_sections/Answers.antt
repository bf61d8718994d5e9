use Rattle.std.proofs.Common.{◌++◌, ◌∷◌, [], ℕ, List, sym, ◌∙◌, arith}
use Rattle.std.proofs.lemmas.Result.{err_from_is_err_and}
use Rattle.ebpf_btf_ext.specs.declared.relocation.Relocation.{Relocation}
use Rattle.ebpf_btf_ext.specs.ExtReading.{section_core_relos, core_relo_section}
use Rattle.ebpf_btf_ext.proofs.ExtSections.{made_is_list, section_advances, sections_more, sections_over, sections_cut}
use Rattle.ebpf_btf_ext.proofs.ext_part.read_relocation_sections.Goals as goal

abbrev put : List (ℕ × List Relocation) → ℕ × List Relocation → List (ℕ × List Relocation)
put made s = made ++ s ∷ []

pub loop-offset-init : goal.loop-offset-init
loop-offset-init c = rw c.new-sections.ensures (record { within = c.requires.before; rest = made_is_list _ })

pub returns-in_err-section : goal.returns-in_err-section
returns-in_err-section c =
    let p = err_from_is_err_and c.from_residual.result c.from_residual.ensures.1 in
    let read = core_relo_section c.args.type_matches c.args.order c.args.bytes.now c.args.part.record_size c.args.part.end in
    rw (p.1, p.2) (sections_cut put read c.loop-offset.offset c.args.part.end c.loop-offset.sections _ _ c.loop-offset-test.true c.loop-offset.invariant.rest c.in_err-section.ensures.found)

pub loop-offset-smaller : goal.loop-offset-smaller
loop-offset-smaller c =
    let records = section_core_relos c.args.type_matches c.args.order c.args.bytes.now c.args.part.record_size in
    let within = section_advances c.args.order c.args.bytes.now 16 c.args.part.record_size c.args.part.end records c.loop-offset.offset (c.in_ok-section.section, c.in_ok-section.next) c.in_ok-section.ensures.found in
    omega (arith, within.0, within.1)

pub loop-offset-preserved : goal.loop-offset-preserved
loop-offset-preserved c =
    let records = section_core_relos c.args.type_matches c.args.order c.args.bytes.now c.args.part.record_size in
    let ahead = section_advances c.args.order c.args.bytes.now 16 c.args.part.record_size c.args.part.end records in
    let read = core_relo_section c.args.type_matches c.args.order c.args.bytes.now c.args.part.record_size c.args.part.end in
    let found : (ℕ × List Relocation) × ℕ = (c.in_ok-section.section, c.in_ok-section.next) in
    let within = ahead c.loop-offset.offset found c.in_ok-section.ensures.found in
    let step = sections_more put read c.loop-offset.offset c.args.part.end c.loop-offset.sections found ahead c.loop-offset-test.true c.in_ok-section.ensures.found in
    rw c.in_ok-push.ensures.ok (record { within = within.1; rest = step ∙ c.loop-offset.invariant.rest })

pub returns : goal.returns
returns c =
    let read = core_relo_section c.args.type_matches c.args.order c.args.bytes.now c.args.part.record_size c.args.part.end in
    sym c.loop-offset.invariant.rest ∙ sections_over put read c.loop-offset.offset c.args.part.end c.loop-offset.sections (omega arith)
