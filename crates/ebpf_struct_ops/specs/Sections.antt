-- The sections that hold variables of struct_ops (libbpf 1.7, libbpf.c: bpf_object__elf_collect,
-- init_struct_ops_maps).
use Rattle.std.specs.Prelude.{ℕ, ◌==◌, ◌||◌, true, false, not, List, [], ◌∷◌, codes, Option, None}
use Rattle.std.specs.Prelude.{if◌then◌else◌}
use Rattle.std.specs.Option.{option_and_then}
use Rattle.ebpf_elf.specs.Sections.{SectionOf, header, section_name}
use Rattle.ebpf_parts.specs.ProgramTypes.{lookup_piece}
use Rattle.ebpf_struct_ops.specs.declared.sections.SectionRule.{SectionRule}

-- the maps of a section with `?` are created only where it is asked for
unfoldable pub section_rules : List (List ℕ × SectionRule)
section_rules =
    (codes ".struct_ops", record { is_created = true; is_link = false })
    ∷ (codes ".struct_ops.link", record { is_created = true; is_link = true })
    ∷ (codes "?.struct_ops", record { is_created = false; is_link = false })
    ∷ (codes "?.struct_ops.link", record { is_created = false; is_link = true })
    ∷ []

-- the rule of a section of type PROGBITS (1) that isn't empty
unfoldable pub section_rule : SectionOf → Option SectionRule
section_rule s =
    if not ((header s).sh_type == 1) || (header s).sh_size == 0
    then None
    else option_and_then (lookup_piece section_rules) (section_name s)
