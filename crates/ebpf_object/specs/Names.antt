-- The names of sections, by their indices.
use Rattle.std.specs.Prelude.{ℕ, ◌==◌, List, Option, option_and_then, Some, None, fold}
use Rattle.std.specs.Prelude.{if◌then◌else◌}
use Rattle.std.specs.List.{find, list_any}
use Rattle.std.specs.FinMap.{FinMap, entries, get, insert, contains_key}
use Rattle.std.specs.Ordering.{nat_cmp}
use Rattle.ebpf_base.specs.Maps.{key_cmp, text_cmp}
use Rattle.ebpf_elf.specs.Sections.{sections, section_name}
use Rattle.ebpf_model.specs.Symbols.{TextSections}
use Rattle.ebpf_model.specs.declared.function.Function.{Function}
use Rattle.ebpf_parts.specs.Maps.{section_index_of}
use Rattle.ebpf_parts.specs.declared.maps.either.Map.{Map}

-- the name of the section with an index, where there is one and it can be read
abbrev pub name_in_file : List ℕ → ℕ → Option (List ℕ)
name_in_file bytes index =
    option_and_then section_name (find (λ s. s.index == index) (sections bytes))

-- ---- the sections of functions

-- whether a function's key is in a section
abbrev pub has_function_in : FinMap key_cmp Function → TextSections
has_function_in functions section = list_any (λ e. section == e.0.0) (entries functions)

-- ---- the names of maps by their sections, while they are gathered name by name

-- a name at its map's section, where none is there
abbrev pub with_map_name : FinMap nat_cmp (List ℕ) → List ℕ → Option Map → FinMap nat_cmp (List ℕ)
with_map_name found name None = found
with_map_name found name (Some m) =
    if contains_key found (section_index_of m)
    then found
    else insert found (section_index_of m) name

-- names, one after the other
abbrev pub with_map_names : FinMap text_cmp Map → FinMap nat_cmp (List ℕ) → List (List ℕ)
    → FinMap nat_cmp (List ℕ)
with_map_names maps found names =
    fold (λ kept name. with_map_name kept name (get maps name)) found names
