-- The object that the bytes of a file are. Its tables and the first fault of a file are those of
-- what it has.
use Rattle.std.specs.Prelude.{ℕ, List}
use Rattle.std.specs.FinMap.{empty}
use Rattle.ebpf_elf.specs.Headers.{ei_data}
use Rattle.ebpf_object.specs.declared.object.Object.{Object}
use Rattle.ebpf_parsing.specs.FileTypes.{types_of_file, externs_of, ext_of}
use Rattle.ebpf_parsing.specs.Symbols.{file_symbols, symbol_table}
use Rattle.ebpf_parsing.specs.LicenseAndVersion.{license_as, kernel_version_of}
use Rattle.ebpf_parts.specs.declared.parse_mode.ParseMode.{ParseMode}
use Rattle.ebpf_parts.specs.declared.parse_mode.ParseMode.TheVariants.{Strict}
pub use Rattle.ebpf_parsing.specs.FileContents.{maps, programs, parse_fault, parse_fault_as}
unfoldable pub use
    Rattle.ebpf_parsing.specs.FileContents.{
      maps_as,
      programs_as,
      functions,
      relocation_tables,
      section_infos,
    }

abbrev pub object_as : ParseMode → List ℕ → Object
object_as mode bytes = record {
  endianness = ei_data bytes;
  license = license_as mode bytes;
  kernel_version = kernel_version_of bytes;
  btf = types_of_file bytes;
  btf_ext = ext_of bytes;
  externs = externs_of bytes;
  maps = maps_as mode bytes;
  programs = programs_as mode bytes;
  functions = functions bytes;
  symbol_table = symbol_table (file_symbols bytes);
  relocations = relocation_tables bytes;
  section_infos = section_infos bytes;
  exception_callbacks = empty;
}

abbrev pub object_of : List ℕ → Object
object_of bytes = object_as Strict bytes
