-- What is known of an object whose file was opened.
use Rattle.std.specs.FinMap.{empty}
use Rattle.std.specs.Prelude.{◌≡◌, ℕ, List, [], None}
use Rattle.cli_common.specs.CompletedObjects.{page_size, with_callbacks, with_maps_of}
use Rattle.ebpf_btf_maps.specs.Arenas.{arena_section, completion_fault}
use Rattle.ebpf_exceptions.specs.Callbacks.{callbacks_fault, completed_callbacks}
use Rattle.ebpf_object.specs.Objects.{object_as}
use Rattle.ebpf_object.specs.Prepared.{IsParsed}
use Rattle.ebpf_object.specs.declared.object.Object.{Object}
use Rattle.ebpf_parts.specs.declared.parse_mode.ParseMode.TheVariants.{Lenient}
use Rattle.cli_prepare.specs.KernelValues.{externs_of, with_kconfig}
use Rattle.cli_prepare.specs.declared.kernel.Kernel.{Kernel}
use Rattle.cli_prepare.specs.declared.opened.Opened.{Opened}

-- The object of a file, in lenient parsing, with its maps completed, with the exception callbacks
-- of its programs, and with its kconfig externs defined by the values of a kernel: it has the map
-- `.kconfig`, and its symbols of these externs are in that map. An object without such externs,
-- variables in an arena and exception callbacks is the parsed one.
pub record IsDefined (file : List ℕ) (kernel : Kernel) (o : Object) : Type 0 where
  pub parsed : IsParsed Lenient file (object_as Lenient file)
  pub complete : completion_fault file page_size (object_as Lenient file) ≡ None
  pub callbacks : callbacks_fault file (with_maps_of file) ≡ None
  pub defined : o ≡ with_kconfig kernel (with_callbacks file (with_maps_of file))
  pub same : externs_of (object_as Lenient file) ≡ []
      → arena_section file ≡ None
      → completed_callbacks file (with_maps_of file) ≡ empty
      → IsParsed Lenient file o

abbrev pub IsOpened : Opened → Type 0
IsOpened opened = IsDefined opened.file.items opened.kernel opened.parsed
