-- The objects on the way from a parsed object to a finished one: what the passes make of it, each
-- at most once, in this order and with Ok.
use Rattle.std.specs.Prelude.{◌≡◌, Bool, List, Option, Some, None, if◌then◌else◌}
use Rattle.ebpf_btf.specs.TypeInfo.{TypeInfo}
use Rattle.ebpf_object.specs.LinkedPrograms.{linkable_of, programs_in_order, ProgramsAreLinked}
use Rattle.ebpf_object.specs.Stages.{RelocatesTypes}
use Rattle.ebpf_object.specs.WrittenSlots.{with_maps, with_externs}
use Rattle.ebpf_object.specs.declared.object.Object.{Object}
use Rattle.ebpf_reloc.specs.Maps.{GivenMap}
use Rattle.ebpf_model.specs.Symbols.{TextSections}

-- the passes that were made: the types that functions were relocated to; the sections of code and
-- the maps with descriptors that slots were written by; whether externs were written; the sections
-- of code that programs were linked by
pub record Passes : Type 0 where
  pub target : Option TypeInfo
  pub maps : Option (TextSections × List GivenMap)
  pub externs : Bool
  pub calls : Option TextSections

-- an object with descriptors, where some were written
abbrev pub with_descriptors : Option (TextSections × List GivenMap) → Object → Object
with_descriptors None o = o
with_descriptors (Some given) o = with_maps o given.0 given.1

-- an object with its programs linked, where they were
abbrev pub Links : Option TextSections → Object → Object → Type 0
Links None o after = after ≡ o
Links (Some text_sections) o after =
    ProgramsAreLinked (linkable_of o text_sections) (programs_in_order o.programs) after.functions
    × (after ≡ record o { functions = after.functions })

-- relocated to types, then with descriptors, then with externs resolved (by whatever resolves
-- them), then as linking begins, then finished
pub record Chain (passes : Passes) (parsed finished : Object) : Type 0 where
  pub relocated : Object
  pub fds_written : Object
  pub resolved : Object
  pub unlinked : Object
  pub types : RelocatesTypes passes.target parsed relocated
  pub maps : fds_written ≡ with_descriptors passes.maps relocated
  pub resolution : resolved ≡ record fds_written { externs = resolved.externs }
  pub externs : unlinked ≡ (if passes.externs then with_externs resolved else resolved)
  pub calls : Links passes.calls unlinked finished
