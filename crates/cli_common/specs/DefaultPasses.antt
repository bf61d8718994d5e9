-- The passes that the commands choose: all, with the descriptors 1, 2, .. of the object's own maps.
use Rattle.std.specs.Prelude.{pos, true, ℕ, List, Option, Some}
use Rattle.std.specs.FinMap.{FinMap, entries}
use Rattle.std.specs.Map.{keys_of}
use Rattle.ebpf_base.specs.Maps.{text_cmp}
use Rattle.ebpf_btf.specs.TypeInfo.{TypeInfo}
use Rattle.ebpf_object.specs.Stages.{Chosen, numbered_descriptors}
use Rattle.ebpf_parts.specs.declared.maps.either.Map.{Map}

-- All passes, types where the kernel's are known; the maps of these names have the descriptors 1,
-- 2, .. in order; nothing may be missing.
abbrev pub default_passes_of : Option TypeInfo → List (List ℕ) → Chosen
default_passes_of types names = record {
  target = types;
  descriptors = Some (numbered_descriptors (pos 0) names);
  kernel = Some types;
  externs = true;
  calls = true;
  complete = true;
}

-- the passes that the programs choose, with descriptors for these maps in byte order of their names
abbrev pub default_passes : Option TypeInfo → FinMap text_cmp Map → Chosen
default_passes types maps = default_passes_of types (keys_of (entries maps))
