use Rattle.std.proofs.Common.{◌≡◌, ◌∷◌, rules, refl, sym, ap, subst, ◌∙◌, None, false, map, filter}
use Rattle.std.specs.Prelude.{◌==◌, Some, Err, MatchBool, ⊤}
use Rattle.ebpf_base.specs.Faults.{Refuses, first_some, or_else}
use Rattle.ebpf_base.specs.Maps.{text_total}
use Rattle.ebpf_elf.specs.Relocations.{relocation_sections, relocated_section}
use Rattle.ebpf_elf.specs.Sections.{sections}
use Rattle.ebpf_parts.specs.Memory.{is_parse_memory}
use Rattle.ebpf_parts.specs.Sections.{section_of, section_fault}
use Rattle.ebpf_parts.specs.declared.error.ParseError.{ParseError}
use Rattle.ebpf_parsing.specs.FileContents.{read_fault, sections_fault, map_entries, program_entries, function_entries, relocation_entries, name_entries}
use Rattle.ebpf_parsing.specs.ObjectTables.{all_added, added, object_tables_from, added_last}
use Rattle.ebpf_parsing.specs.OfSection.{fault_in}
use Rattle.ebpf_sections.specs.Relocations.{AreOf}
use Rattle.ebpf_sections.specs.Sections.{is_type_information, data_row, last_data}
use Rattle.ebpf_sections.specs.Symbols.{file_symbols, section_symbols}
use Rattle.ebpf_sections.proofs.ReadSections.{others}
use Rattle.ebpf_sections.proofs.Lasts.{all_lasts, fewer_lasts}
use Rattle.ebpf_sections.proofs.RelocationTables.{all_from}
use Rattle.ebpf_parsing.proofs.Added.{kept, one_more, fault_more, refused_first}
use Rattle.ebpf_parsing.proofs.DataLasts.{DataLasts, same_added}
use Rattle.ebpf_parsing.proofs.object_tables.read_by_last.Goals as goal

pub loop-section-init : goal.loop-section-init
unfolding sections_fault map_entries program_entries function_entries relocation_entries name_entries
loop-section-init c =
    let file = c.args.file.now in
    let metadata = c.args.inputs.now in
    let ys = file_symbols file in
    let empty : c.new-object_tables.result ≡ object_tables_from c.args.section_infos = search rules in
    let items : c.into_iter-section-iterator.result ≡ sections file = search rules in
    record {
      from = subst (AreOf file) (sym items) (all_from file);
      inputs = refl;
      lasts = all_lasts text_total data_row c.args.last.now (map section_of (others c.into_iter-section-iterator.result)) (c.requires.last ∙ ap (λ r. last_data (map section_of (others r))) (sym items));
      object_tables = ap (λ p. all_added metadata p ys (map section_of (others c.into_iter-section-iterator.result))) empty
          ∙ ap (λ r. all_added metadata (object_tables_from c.args.section_infos) ys (map section_of (others r))) items;
      fault = ap (λ r. first_some (read_fault metadata.mode metadata.btf file) (others r)) items;
    }

pub add_section-requires : goal.add_section-requires
add_section-requires c =
    let front : c.loop-section.section-iterator ≡ c.in-Some.section ∷ c.next.new.self = search rules in
    let of_file : c.in-Some.section.file ≡ c.args.file.now = (subst (AreOf c.args.file.now) front c.loop-section.invariant.from).0 in
    let found : c.of.result.now ≡ filter (λ r. relocated_section r == c.in-Some.section.index) (relocation_sections c.args.file.now) =
    c.of.ensures ∙ c.requires.tables c.index-index.result.0 ∙ ap (λ q. filter (λ r. relocated_section r == q) (relocation_sections c.args.file.now)) c.index-index.ensures in
    found ∙ ap (λ file. filter (λ r. relocated_section r == c.in-Some.section.index) (relocation_sections file)) (sym of_file)

pub loop-section-preserved : goal.loop-section-preserved
loop-section-preserved c =
    let file = c.args.file.now in
    let ys = file_symbols file in
    let s = c.in-Some.section in
    let metadata = c.args.inputs.now in
    let front : c.loop-section.section-iterator ≡ s ∷ c.next.new.self = search rules in
    let other : is_type_information s ≡ false = search rules in
    let of_section : c.of-in-loop-section.result.now ≡ section_symbols ys s.index = search rules in
    let inputs : c.loop-section.inputs ≡ metadata = c.loop-section.invariant.inputs in
    let put : c.add_section.new.self ≡ added_last c.args.last.now metadata c.loop-section.object_tables (section_of s) c.of-in-loop-section.result.now = search rules in
    let lasts : DataLasts c.args.last.now (section_of s ∷ map section_of (others c.next.new.self)) =
    subst (λ r. DataLasts c.args.last.now (map section_of r)) (ap others front ∙ kept s c.next.new.self other) c.loop-section.invariant.lasts in
    let clear_there : or_else (section_fault s) (fault_in metadata.mode metadata.btf (section_of s) c.of-in-loop-section.result.now) ≡ None = search rules in
    let clear : read_fault metadata.mode metadata.btf file s ≡ None = ap (λ g. or_else (section_fault s) (fault_in metadata.mode metadata.btf (section_of s) g)) (sym of_section) ∙ clear_there in
    record {
      from = (subst (AreOf file) front c.loop-section.invariant.from).1;
      inputs = c.add_section.ensures.inputs ∙ inputs;
      lasts = fewer_lasts text_total data_row c.args.last.now (section_of s) (map section_of (others c.next.new.self)) lasts;
      object_tables = ap (λ p. all_added metadata p ys (map section_of (others c.next.new.self))) put
          ∙ same_added c.args.last.now (section_of s) (map section_of (others c.next.new.self)) lasts metadata c.loop-section.object_tables ys c.of-in-loop-section.result.now
          ∙ ap (λ g. all_added metadata (added metadata c.loop-section.object_tables (section_of s) g) ys (map section_of (others c.next.new.self))) of_section
          ∙ sym (ap (λ r. all_added metadata c.loop-section.object_tables ys (map section_of (others r))) front ∙ one_more metadata c.loop-section.object_tables ys s c.next.new.self other)
          ∙ c.loop-section.invariant.object_tables;
      fault = sym (ap (λ r. first_some (read_fault metadata.mode metadata.btf file) (others r)) front ∙ fault_more metadata.mode metadata.btf file s c.next.new.self other
          ∙ ap (λ x. or_else x (first_some (read_fault metadata.mode metadata.btf file) (others c.next.new.self))) clear)
          ∙ c.loop-section.invariant.fault;
    }

pub returns-in_err-add_section-clause-fault : goal.returns-in_err-add_section-clause-fault
returns-in_err-add_section-clause-fault c =
    let file = c.args.file.now in
    let ys = file_symbols file in
    let s = c.in-Some.section in
    let types = c.args.inputs.now.btf in
    let mode = c.args.inputs.now.mode in
    let front : c.loop-section.section-iterator ≡ s ∷ c.next.new.self = search rules in
    let other : is_type_information s ≡ false = search rules in
    let of_section : c.of-in-loop-section.result.now ≡ section_symbols ys s.index = search rules in
    let whole : sections_fault mode types file ≡ or_else (or_else (section_fault s) (fault_in mode types (section_of s) c.of-in-loop-section.result.now)) (first_some (read_fault mode types file) (others c.next.new.self))
    = sym c.loop-section.invariant.fault ∙ ap (λ r. first_some (read_fault mode types file) (others r)) front ∙ fault_more mode types file s c.next.new.self other
    ∙ ap (λ g. or_else (or_else (section_fault s) (fault_in mode types (section_of s) g)) (first_some (read_fault mode types file) (others c.next.new.self))) (sym of_section) in
    let e : ParseError = c.in_err-add_section.field-0.0 in
    let result : c.from_residual.result ≡ Err e = search rules in
    let there = refused_first is_parse_memory e (or_else (section_fault s) (fault_in mode types (section_of s) c.of-in-loop-section.result.now)) (first_some (read_fault mode types file) (others c.next.new.self)) (rw c.loop-section.invariant.inputs at c.in_err-add_section.ensures.fault) in
    subst (λ r. Refuses is_parse_memory r (sections_fault mode types file)) (sym result) (subst (λ x. MatchBool (is_parse_memory e) ⊤ (x ≡ Some e)) (sym whole) there)
