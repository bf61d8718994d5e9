use Rattle.std.proofs.Common.{◌-◌, ℕ, List, Ok, ap, sym, ◌∙◌, arith}
use Rattle.std.specs.FinMap.{FinMap, insert}
use Rattle.std.proofs.lemmas.Result.{err_from_is_err_and}
use Rattle.ebpf_base.specs.Maps.{text_cmp}
use Rattle.ebpf_btf_ext.specs.ExtReading.{sections_from}
use Rattle.ebpf_btf_ext.specs.PrivateContracts.{info_section}
use Rattle.ebpf_btf_ext.specs.SectionNames.{by_offsets}
use Rattle.ebpf_btf_ext.proofs.ExtSections.{fold_ok, section_advances, sections_more, sections_over, sections_cut}
use Rattle.ebpf_btf_ext.proofs.SectionNames.{no_sections, one_more}
use Rattle.ebpf_btf_ext.proofs.ext_part.read_info_sections.Goals as goal

abbrev put : {S : Type 0} → FinMap text_cmp S → List ℕ × S → FinMap text_cmp S
put kept e = insert kept e.0 e.1

pub loop-offset-init : goal.loop-offset-init
loop-offset-init g c =
    let read = info_section g.S.SectionInfo.info_with g.S.Record.Row.row_at g.S.Record.Row.least c.args.order c.args.bytes.now c.args.btf.now.strings c.args.part.record_size c.args.part.end in
    record {
      within = c.requires.before;
      rest = ap (λ m. fold_ok put m (sections_from (c.args.part.end - c.args.part.offset) read c.args.part.offset c.args.part.end)) (ap (by_offsets c.args.btf.now.strings) c.new-sections.ensures ∙ no_sections c.args.btf.now.strings);
    }

pub returns-in_err-section : goal.returns-in_err-section
returns-in_err-section g c =
    let p = err_from_is_err_and c.from_residual.result c.from_residual.ensures.1 in
    let read = info_section g.S.SectionInfo.info_with g.S.Record.Row.row_at g.S.Record.Row.least c.args.order c.args.bytes.now c.args.btf.now.strings c.args.part.record_size c.args.part.end in
    rw (p.1, p.2) (sections_cut put read c.loop-offset.offset c.args.part.end (by_offsets c.args.btf.now.strings c.loop-offset.sections) _ _ c.loop-offset-test.true c.loop-offset.invariant.rest c.in_err-section.ensures)

pub loop-offset-smaller : goal.loop-offset-smaller
loop-offset-smaller g c =
    let found : (List ℕ × g.row.S.Denot) × ℕ = ((c.in_ok-section.ensures.0, c.in_ok-section.section.1), c.in_ok-section.next) in
    let within = section_advances c.args.order c.args.bytes.now g.S.Record.Row.least c.args.part.record_size c.args.part.end _ c.loop-offset.offset found c.in_ok-section.ensures.2 in
    omega (arith, within.0, within.1)

pub loop-offset-preserved : goal.loop-offset-preserved
loop-offset-preserved g c =
    let ahead = section_advances c.args.order c.args.bytes.now g.S.Record.Row.least c.args.part.record_size c.args.part.end _ in
    let read = info_section g.S.SectionInfo.info_with g.S.Record.Row.row_at g.S.Record.Row.least c.args.order c.args.bytes.now c.args.btf.now.strings c.args.part.record_size c.args.part.end in
    let name : List ℕ = c.in_ok-section.ensures.0 in
    let found : (List ℕ × g.row.S.Denot) × ℕ = ((name, c.in_ok-section.section.1), c.in_ok-section.next) in
    let within = ahead c.loop-offset.offset found c.in_ok-section.ensures.2 in
    let before = by_offsets c.args.btf.now.strings c.loop-offset.sections in
    let step = sections_more put read c.loop-offset.offset c.args.part.end before found ahead c.loop-offset-test.true c.in_ok-section.ensures.2 in
    let more = ap (by_offsets c.args.btf.now.strings) c.in_ok-push.ensures.ok ∙ one_more c.args.btf.now.strings c.loop-offset.sections c.in_ok-section.section name c.in_ok-section.ensures.1 in
    record {
      within = within.1;
      rest = ap (λ m. fold_ok put m (sections_from (c.args.part.end - c.in_ok-section.next) read c.in_ok-section.next c.args.part.end)) more ∙ step ∙ c.loop-offset.invariant.rest;
    }

pub returns : goal.returns
returns g c =
    let read = info_section g.S.SectionInfo.info_with g.S.Record.Row.row_at g.S.Record.Row.least c.args.order c.args.bytes.now c.args.btf.now.strings c.args.part.record_size c.args.part.end in
    let all = by_offsets c.args.btf.now.strings c.loop-offset.sections in
    sym c.loop-offset.invariant.rest ∙ sections_over put read c.loop-offset.offset c.args.part.end all (omega arith)
    ∙ ap (λ s. Ok (by_offsets s c.loop-offset.sections)) (sym c.strings.ensures) ∙ ap Ok (sym c.in_ok-new.ensures)
