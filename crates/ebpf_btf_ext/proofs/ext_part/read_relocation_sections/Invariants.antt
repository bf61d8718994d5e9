use Rattle.std.proofs.Common.{◌≡◌, ◌-◌, ◌≤◌, ◌++◌, ◌∷◌, []}
use Rattle.ebpf_btf_ext.specs.ExtReading.{core_relo_section, sections_from}
use Rattle.ebpf_btf_ext.proofs.ExtSections.{fold_ok}
use Rattle.ebpf_btf_ext.proofs.ext_part.read_relocation_sections.Given as goal

abbrev pub invariant-loop-offset : goal.invariant-loop-offset
invariant-loop-offset l = record {
  within : l.offset ≤ l.part.end;
  rest : fold_ok (λ made s. made ++ s ∷ []) l.sections (sections_from (l.part.end - l.offset) (core_relo_section l.type_matches l.order l.bytes l.part.record_size l.part.end) l.offset l.part.end)
      ≡ sections_from (l.part.end - l.part.offset) (core_relo_section l.type_matches l.order l.bytes l.part.record_size l.part.end) l.part.offset l.part.end;
}

abbrev pub decreases-loop-offset : goal.decreases-loop-offset
decreases-loop-offset l = l.part.end - l.offset
