-- Completing the maps of an object: what it makes of the object, and its refusals, 1100 to 1199,
-- about the map.
use Rattle.std.specs.Prelude.{◌≡◌, ⊤, ℕ, ◌+◌, List, Some, None, MatchBool}
use Rattle.capi_rows.specs.FaultNumbers.{file_fault}
use Rattle.capi_rows.specs.Handles.{IsRefusal}
use Rattle.capi_rows.specs.Refusals.{of_count, of_kind, of_size, no_details, plain}
use Rattle.capi_rows.specs.Refusals.{detailed_with_name, refusal_with_name}
use Rattle.capi_rows.specs.declared.codes.TheConstants.{MEMORY}
use Rattle.capi_rows.specs.declared.refusal.Refusal.{Refusal}
use Rattle.ebpf_btf_maps.specs.Arenas.{completed_maps, completion_fault}
use Rattle.ebpf_btf_maps.specs.Memory.{is_btf_map_memory}
use Rattle.ebpf_btf_maps.specs.declared.error.BtfMapError.{BtfMapError}
use Rattle.ebpf_btf_maps.specs.declared.error.BtfMapError.TheVariants as maps
use Rattle.ebpf_object.specs.declared.object.Object.{Object}

abbrev pub btf_map_refusal : BtfMapError → Refusal
btf_map_refusal (maps.ElfError e) = plain (1100 + file_fault e)
btf_map_refusal (maps.UnknownPinning map number) =
    detailed_with_name 1120 map (of_kind number no_details)
btf_map_refusal (maps.SecondArena map) = refusal_with_name 1121 map
btf_map_refusal maps.NoArena = plain 1122
btf_map_refusal (maps.ArenaTooSmall map size pages) =
    detailed_with_name 1123 map (of_size size no_details)
btf_map_refusal maps.OutOfMemory = plain MEMORY

-- the maps are completed by the bytes of a file, for pages of a size; all else is as before
pub record HasCompleted (file : List ℕ) (page_size : ℕ) (old new : Object) : Type 0 where
  pub sound : completion_fault file page_size old ≡ None
  pub maps : new.maps ≡ completed_maps file page_size old.maps
  pub others_stay : new ≡ record old { maps = new.maps }

abbrev pub CannotComplete : List ℕ → ℕ → Object → Refusal → Type 0
CannotComplete file page_size o =
    IsRefusal
    (λ e. MatchBool (is_btf_map_memory e) ⊤ (completion_fault file page_size o ≡ Some e))
    btf_map_refusal
