-- The object of a file as the commands read it: in lenient parsing, with its maps completed for
-- pages of 4096 bytes, and with the exception callbacks of its programs.
use Rattle.std.specs.Prelude.{◌≡◌, ℕ, List, None}
use Rattle.ebpf_exceptions.specs.Callbacks.{callbacks_fault, completed_callbacks}
use Rattle.ebpf_btf_maps.specs.Arenas.{completed_maps, completion_fault}
use Rattle.ebpf_object.specs.Objects.{object_as, parse_fault_as}
use Rattle.ebpf_object.specs.declared.object.Object.{Object}
use Rattle.ebpf_parts.specs.declared.parse_mode.ParseMode.TheVariants.{Lenient}

abbrev pub page_size : ℕ
page_size = 4096

abbrev pub with_completed_maps : List ℕ → Object → Object
with_completed_maps file o = record o { maps = completed_maps file page_size o.maps }

abbrev pub with_callbacks : List ℕ → Object → Object
with_callbacks file o = record o { exception_callbacks = completed_callbacks file o }

-- the object of a file with its maps completed
abbrev pub with_maps_of : List ℕ → Object
with_maps_of file = with_completed_maps file (object_as Lenient file)

pub record IsCompleted (file : List ℕ) (o : Object) : Type 0 where
  pub sound : parse_fault_as Lenient file ≡ None
  pub complete : completion_fault file page_size (object_as Lenient file) ≡ None
  pub callbacks : callbacks_fault file (with_maps_of file) ≡ None
  pub is : o ≡ with_callbacks file (with_maps_of file)
