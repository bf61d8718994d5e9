-- The default passes, by descriptors that count on by the names of maps.
use Rattle.std.proofs.Common.{◌≡◌, List, Option, Some, true, ap, ◌∙◌}
use Rattle.std.specs.Prelude.{pos}
use Rattle.std.specs.FinMap.{FinMap, entries}
use Rattle.std.specs.Map.{keys_of}
use Rattle.ebpf_base.specs.Maps.{text_cmp}
use Rattle.ebpf_btf.specs.TypeInfo.{TypeInfo}
use Rattle.ebpf_object.specs.Stages.{Chosen, Descriptor, numbered_descriptors}
use Rattle.ebpf_parts.specs.declared.maps.either.Map.{Map}
use Rattle.cli_common.specs.DefaultPasses.{default_passes}

-- all passes with these descriptors are the default ones, where the descriptors count on by the maps' names
pub all_default_passes : (types : Option TypeInfo) (maps : FinMap text_cmp Map) (s : Chosen) (ds : List Descriptor)
    → s ≡ record { target = types; descriptors = Some ds; kernel = Some types; externs = true; calls = true; complete = true } → ds ≡ numbered_descriptors (pos 0) (keys_of (entries maps)) → s ≡ default_passes types maps
all_default_passes types maps s ds is of_names = is ∙ ap (λ (n : List Descriptor). record { target = types; descriptors = Some n; kernel = Some types; externs = true; calls = true; complete = true }) of_names
