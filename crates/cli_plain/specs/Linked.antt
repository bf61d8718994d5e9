-- The kernel's types of a command line, and the object of a file after all passes.
use Rattle.std.specs.Prelude.{◌≡◌, ℕ, List, Option, Some, None, Result, Ok, Err}
use Rattle.ebpf_btf.specs.Reading.{type_info_of}
use Rattle.ebpf_btf.specs.TypeInfo.{TypeInfo}
use Rattle.ebpf_base.specs.declared.endianness.Endianness.TheVariants.{Little}
use Rattle.ebpf_btf.specs.declared.error.BtfError.{BtfError}
use Rattle.ebpf_ksyms.specs.Sources.{Source}
use Rattle.ebpf_object.specs.Objects.{object_of}
use Rattle.ebpf_object.specs.Headline.{Headline}
use Rattle.ebpf_object.specs.declared.object.Object.{Object}
use Rattle.cli_common.specs.DefaultPasses.{default_passes}
use Rattle.ebpf_parts.specs.declared.parse_mode.ParseMode.TheVariants.{Strict}

abbrev pub read_as_types : Result TypeInfo BtfError → Result (Option TypeInfo) BtfError
read_as_types (Ok types) = Ok (Some types)
read_as_types (Err e) = Err e

-- the kernel's types, little endian, where bytes of them are given
abbrev pub kernel_types : Option (List ℕ) → Result (Option TypeInfo) BtfError
kernel_types None = Ok None
kernel_types (Some bytes) = read_as_types (type_info_of Little bytes)

-- the object of a file after all passes
pub record IsFileLinked (file : List ℕ) (btf : Option (List ℕ)) (lines : Source) (o : Object)
    : Type 0 where
  pub types : Option TypeInfo
  pub kernel : kernel_types btf ≡ Ok types
  pub headline : Headline (default_passes types (object_of file).maps) lines Strict file o
