-- Where a file has no section of variables in an arena, the maps stay.
use Rattle.std.proofs.Common.{◌≡◌, ℕ, List, Option, Some, None, Result, Ok, Err, refl, ap, ◌∙◌}
use Rattle.std.specs.FinMap.{FinMap}
use Rattle.std.specs.Prelude.{slice_get}
use Rattle.ebpf_base.specs.Faults.{first_in}
use Rattle.ebpf_base.specs.Maps.{text_cmp}
use Rattle.ebpf_btf.specs.Next.{if_some}
use Rattle.ebpf_btf_maps.specs.Arenas.{arena_data, arena_names, arena_section, data_of_arena, data_or_none, with_arena_data}
use Rattle.ebpf_btf_maps.specs.Laws.{MapsWithoutVariablesStay}
use Rattle.ebpf_btf_maps.specs.declared.arena.ArenaData.{ArenaData}
use Rattle.ebpf_btf_maps.specs.declared.error.BtfMapError.{BtfMapError}
use Rattle.ebpf_btf_maps.specs.declared.error.BtfMapError.TheVariants.{ElfError, SecondArena}
use Rattle.ebpf_elf.specs.Faults.{faults}
use Rattle.ebpf_elf.specs.Sections.{SectionOf}
use Rattle.ebpf_elf.specs.declared.error.ElfReadError.{ElfReadError}
use Rattle.ebpf_parts.specs.declared.maps.either.Map.{Map}

module _ (maps : FinMap text_cmp Map) where
  abbrev given : Option ElfReadError → Option (List ℕ) → Result (Option ArenaData) BtfMapError → FinMap text_cmp Map
  given fault second found = with_arena_data maps (data_or_none (if_some fault (λ e. Err (ElfError e)) (if_some second (λ name. Err (SecondArena name)) found)))

  nothing : (fault : Option ElfReadError) (second : Option (List ℕ)) → given fault second (Ok None) ≡ maps
  nothing (Some e) second = refl
  nothing None (Some name) = refl
  nothing None None = refl

pub maps_stay : MapsWithoutVariablesStay
unfolding arena_data
maps_stay file page_size maps none =
    ap (λ (s : Option SectionOf). given maps (first_in (faults file)) (slice_get (arena_names maps) 1) (data_of_arena page_size maps (slice_get (arena_names maps) 0) s)) none
    ∙ nothing maps (first_in (faults file)) (slice_get (arena_names maps) 1)
