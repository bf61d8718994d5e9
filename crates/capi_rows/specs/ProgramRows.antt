-- What C reads of programs.
use Rattle.std.specs.Prelude.{ℕ, ◌==◌, List, [], Option, Some, None, length}
use Rattle.std.specs.List.{find}
use Rattle.std.specs.FinMap.{FinMap, get}
use Rattle.ebpf_base.specs.Maps.{key_cmp}
use Rattle.ebpf_elf.specs.declared.section.SectionIndex.{SectionIndex}
use Rattle.ebpf_model.specs.declared.function.Program.{Program}
use Rattle.ebpf_parts.specs.ProgramTypes.{program_kind}
use Rattle.ebpf_model.specs.declared.function.Function.{Function}
use Rattle.capi_rows.specs.Loading.{loaded_as, program_kind_number}
use Rattle.capi_rows.specs.declared.loading.Loading.{Loading}
use Rattle.capi_rows.specs.declared.programs.ebpf_program.{ebpf_program}

-- how many slots a function has, 0 where there is none
abbrev pub slot_count : Option Function → ℕ
slot_count None = 0
slot_count (Some f) = length f.instructions

abbrev pub name_if : Option (List ℕ × SectionIndex) → List ℕ
name_if None = []
name_if (Some section) = section.0

-- the name of the section with an index among named sections, empty where none of them has it
abbrev pub name_of_section_number : List (List ℕ × SectionIndex) → ℕ → List ℕ
name_of_section_number sections number = name_if (find (λ section. section.1.0 == number) sections)

-- how a program is loaded, by the name of its section and its kind
abbrev pub loading_of : List ℕ → Program → Loading
loading_of section_name p = loaded_as (program_kind section_name) p.section

-- the row of a program among functions and named sections, of a name that begins at an offset of
-- the text
abbrev pub program_row : FinMap key_cmp Function → List (List ℕ × SectionIndex) → List ℕ → Program
    → ℕ → ebpf_program
program_row functions sections name p name_at =
    let loading = loading_of (name_of_section_number sections p.section_index) p in
    record {
      name_at = name_at;
      name_len = length name;
      section = p.section_index;
      address = p.address;
      slots = slot_count (get functions (p.section_index, p.address));
      kind = program_kind_number p.section;
      flags = loading.flags;
      program_type = loading.program_type;
      attach_type = loading.attach_type;
    }
