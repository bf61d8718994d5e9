-- Laws of completed maps.
use Rattle.std.specs.FinMap.{FinMap}
use Rattle.std.specs.Prelude.{◌≡◌, ℕ, List, None}
use Rattle.ebpf_base.specs.Maps.{text_cmp}
use Rattle.ebpf_btf_maps.specs.Arenas.{arena_section, completed_maps}
use Rattle.ebpf_parts.specs.declared.maps.either.Map.{Map}

-- Where a file has no section of variables in an arena, the maps stay as they are.
abbrev pub MapsWithoutVariablesStay : Type 0
MapsWithoutVariablesStay =
    (file : List ℕ) (page_size : ℕ) (maps : FinMap text_cmp Map)
    → arena_section file ≡ None
    → completed_maps file page_size maps ≡ maps
