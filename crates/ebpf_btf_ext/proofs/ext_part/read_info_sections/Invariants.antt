use Rattle.std.proofs.Common.{◌≡◌, ◌-◌, ◌≤◌}
use Rattle.std.specs.FinMap.{empty, insert}
use Rattle.ebpf_btf_ext.specs.ExtReading.{sections_from}
use Rattle.ebpf_btf_ext.specs.PrivateContracts.{info_section}
use Rattle.ebpf_btf_ext.specs.SectionNames.{by_offsets}
use Rattle.ebpf_btf_ext.proofs.ExtSections.{fold_ok}
use Rattle.ebpf_btf_ext.proofs.ext_part.read_info_sections.Given as goal

abbrev pub invariant-loop-offset : goal.invariant-loop-offset
invariant-loop-offset g l =
    let read = info_section g.S.SectionInfo.info_with g.S.Record.Row.row_at g.S.Record.Row.least l.order l.bytes l.btf.strings l.part.record_size l.part.end in
    record {
      within : l.offset ≤ l.part.end;
      rest : fold_ok (λ kept e. insert kept e.0 e.1) (by_offsets l.btf.strings l.sections) (sections_from (l.part.end - l.offset) read l.offset l.part.end)
          ≡ fold_ok (λ kept e. insert kept e.0 e.1) empty (sections_from (l.part.end - l.part.offset) read l.part.offset l.part.end);
    }

abbrev pub decreases-loop-offset : goal.decreases-loop-offset
decreases-loop-offset g l = l.part.end - l.offset
