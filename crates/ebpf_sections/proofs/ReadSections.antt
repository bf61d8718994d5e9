-- The sections that do not hold type information, and the fault of a section that is read without its relocations.
use Rattle.std.proofs.Common.{◌≡◌, List, [], filter, not, ap, ◌∙◌, sym, Option, None, Some, refl}
use Rattle.std.specs.List.{flat_map}
use Rattle.std.specs.Prelude.{◌==◌}
use Rattle.ebpf_base.specs.Faults.{or_else}
use Rattle.ebpf_elf.specs.Relocations.{relocations, relocation_sections, relocated_section, table_entries}
use Rattle.ebpf_elf.specs.Sections.{SectionOf}
use Rattle.ebpf_parts.specs.Sections.{section_name_fault, data_fault, target_fault, section_fault, section_fault_with}
use Rattle.ebpf_parts.specs.declared.error.ParseError.{ParseError}
use Rattle.ebpf_sections.specs.Sections.{is_type_information}

-- those of some sections that don't hold type information
abbrev pub others : List SectionOf → List SectionOf
others rest = filter (λ s. not (is_type_information s)) rest

-- the fault of its relocations stands behind the others
pub fault_of_targets : (s : SectionOf) (tables : List SectionOf) → tables ≡ filter (λ r. relocated_section r == s.index) (relocation_sections s.file)
    → section_fault s ≡ or_else (section_fault_with [] s) (target_fault (flat_map table_entries tables))
unfolding section_fault section_fault_with
fault_of_targets s tables e = step (section_name_fault s) (data_fault s) ∙ ap (λ ts. or_else (or_else (section_name_fault s) (or_else (data_fault s) None)) (target_fault (flat_map table_entries ts))) (sym e)
  where
    step : (n d : Option ParseError) → or_else n (or_else d (target_fault (relocations s))) ≡ or_else (or_else n (or_else d None)) (target_fault (relocations s))
    step None None = refl
    step None (Some e) = refl
    step (Some e) d = refl
