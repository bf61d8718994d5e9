-- The programs of an object, row by row.
use Rattle.std.specs.Prelude.{ℕ, List, map, [], codes, slice_get, Option, Some, None, true, false}
use Rattle.std.specs.FinMap.{FinMap, entries}
use Rattle.std.specs.List.{flat_map}
use Rattle.std.specs.Option.{option_and_then, option_map_or, option_to_list}
use Rattle.std.specs.Result.{result_ok}
use Rattle.ebpf_base.specs.Maps.{put_all, text_cmp, map_values}
use Rattle.ebpf_btf.specs.Strings.{id_of_name, type_name}
use Rattle.ebpf_btf.specs.TypeInfo.{TypeInfo}
use Rattle.ebpf_btf.specs.declared.kind.BtfKind.TheVariants as kinds
use Rattle.ebpf_btf.specs.declared.members.DataSecEntry.{DataSecEntry}
use Rattle.ebpf_btf.specs.declared.types.BtfType.{BtfType}
use Rattle.ebpf_btf.specs.declared.types.BtfType.TheVariants.{DataSec}
use Rattle.ebpf_model.specs.declared.symbol.ExternDesc.{ExternDesc}
use Rattle.ebpf_model.specs.declared.function.Program.{Program}
use Rattle.cli_common.specs.declared.programs.ObjectProgram.{ObjectProgram}

-- the name of a program, and the key of its function
abbrev pub program_row : ObjectProgram → List ℕ × (ℕ × ℕ)
program_row p = (p.name, p.key)

-- those of the programs of an object, in byte order of their names
abbrev pub program_rows : FinMap text_cmp Program → List (List ℕ × (ℕ × ℕ))
program_rows programs = map (λ e. (e.0, (e.1.section_index, e.1.address))) (entries programs)

-- ---- the externs that the kernel's configuration gives: the variables of the first DATASEC
-- `.kconfig` (libbpf 1.5, libbpf.c: bpf_object__collect_externs)

abbrev pub settings_section : List ℕ
settings_section = codes ".kconfig"

-- the entries of a DATASEC
unfoldable pub section_entries : BtfType → List DataSecEntry
section_entries (DataSec name size entries) = entries
section_entries t = []

-- those of the first DATASEC `.kconfig`
abbrev pub settings_entries : TypeInfo → List DataSecEntry
settings_entries types =
    option_map_or section_entries
    (option_and_then (slice_get types.types) (id_of_name types settings_section kinds.DataSec))
    []

-- the name of the type of an entry, where it can be read
unfoldable pub setting_name : TypeInfo → DataSecEntry → Option (List ℕ)
setting_name types entry =
    option_and_then (λ t. result_ok (type_name types t)) (slice_get types.types entry.btf_type)

-- those of the entries, in their order
abbrev pub setting_names : TypeInfo → List DataSecEntry → List (List ℕ)
setting_names types entries = flat_map (λ entry. option_to_list (setting_name types entry)) entries

-- those of an object's types; none without types
unfoldable pub object_settings : Option TypeInfo → List (List ℕ)
object_settings None = []
object_settings (Some types) = setting_names types (settings_entries types)

-- ---- externs as if a kernel had them all, whatever their values

-- an extern that the kernel has, with some id
abbrev pub unknown : ExternDesc → ExternDesc
unknown x = record x { kernel_btf_id = Some 1; is_resolved = true }

-- one that the kernel's configuration gives
abbrev pub setting : ExternDesc
setting =
    record {
      btf_id = 0;
      is_typed = false;
      is_weak = false;
      kernel_btf_id = Some 1;
      ksym_addr = None;
      is_resolved = true;
    }

-- such ones of some names
abbrev pub settings_named : List (List ℕ) → List (List ℕ × ExternDesc)
settings_named names = map (λ name. (name, setting)) names

-- all of an object, and such ones of some names
abbrev pub known_externs : FinMap text_cmp ExternDesc → List (List ℕ) → FinMap text_cmp ExternDesc
known_externs externs settings = put_all (map_values unknown externs) (settings_named settings)
