-- What is chosen of the passes over an object.
use Rattle.std.specs.Prelude.{ℕ, ℤ, pos, ◌+ℤ◌, Bool, List, [], ◌∷◌, map, Option, option_map}
use Rattle.std.specs.Prelude.{is_some, ◌≡◌, true, false, Some, None, Err, not, slice_get}
use Rattle.std.specs.Prelude.{if◌then◌else◌, ◌⊎◌}
use Rattle.std.specs.Option.{option_copied}
use Rattle.std.specs.FinMap.{FinMap, get, empty, contains_key}
use Rattle.std.specs.Int.{w32, saturate_signed}
use Rattle.std.specs.List.{filter, filter_map}
use denote.Ref.{Bor}
use Rattle.ebpf_base.specs.Faults.{or_else}
use Rattle.ebpf_base.specs.Maps.{put_all, text_cmp}
use Rattle.ebpf_btf.specs.TypeInfo.{TypeInfo}
use Rattle.ebpf_core_relo.specs.Records.{without_texts_at}
use Rattle.ebpf_core_relo.specs.declared.error.BtfRelocationError.{BtfRelocationError}
use Rattle.ebpf_ksyms.specs.Sources.{IsRefusedFrom, IsResolvedFrom, Source}
use Rattle.ebpf_ksyms.specs.declared.error.KsymsError.{KsymsError}
use Rattle.ebpf_model.specs.declared.error.EbpfRelocationError.{EbpfRelocationError}
use Rattle.ebpf_object.specs.LinkedPrograms.{linkable_of, programs_in_order, ProgramsAreLinked}
use Rattle.ebpf_object.specs.WrittenSlots.{relocated_slots, AreRelocatedToTypes, with_maps}
use Rattle.ebpf_object.specs.WrittenSlots.{maps_fault, with_externs, externs_fault}
use Rattle.ebpf_object.specs.Names.{has_function_in}
use Rattle.ebpf_object.specs.declared.object.Object.{Object}
use Rattle.ebpf_object.specs.declared.prepare.Steps.{Steps}
use Rattle.ebpf_object.specs.declared.prepare_error.PrepareError.{PrepareError}
use Rattle.ebpf_object.specs.declared.prepare_error.PrepareError.TheVariants.{UnknownMap}
use Rattle.ebpf_object.specs.declared.prepare_error.PrepareError.TheVariants.{Maps}
use Rattle.ebpf_object.specs.declared.prepare_error.PrepareError.TheVariants.{MissingDescriptor}
use Rattle.ebpf_parts.specs.declared.maps.either.Map.{Map}
use Rattle.ebpf_reloc.specs.Maps.{GivenMap}
use Rattle.ebpf_reloc.specs.Linking.{IsFirstRefusal}
use Rattle.ebpf_reloc.specs.NamedSlots as slots
use Rattle.ebpf_reloc.specs.declared.named_slots.NamedSlot.{NamedSlot}

-- the name of a map, and its descriptor
abbrev pub Descriptor : Type 0
Descriptor = List ℕ × ℤ

abbrev pub descriptor_of : Bor (List ℕ) × ℤ → Descriptor
descriptor_of lent = (lent.0.now, lent.1)

abbrev pub descriptors_of : Option (Bor (List (Bor (List ℕ) × ℤ))) → Option (List Descriptor)
descriptors_of lent = option_map (λ ds. map descriptor_of ds.now) lent

-- the number behind one, or the greatest that 32 signed bits hold
abbrev pub following : ℤ → ℤ
following n = saturate_signed w32 (n +ℤ pos 1)

-- names with descriptors, from the number behind one on
abbrev pub numbered_descriptors : ℤ → List (List ℕ) → List Descriptor
numbered_descriptors n [] = []
numbered_descriptors n (name ∷ names) =
    (name, following n) ∷ numbered_descriptors (following n) names

-- The types to relocate to, the descriptors of maps, and the kernel's types to resolve externs
-- with, if it has any: each where its pass is chosen. Then whether externs are written, whether
-- programs are linked, and whether what is missing is refused.
pub record Chosen : Type 0 where
  pub target : Option TypeInfo
  pub descriptors : Option (List Descriptor)
  pub kernel : Option (Option TypeInfo)
  pub externs : Bool
  pub calls : Bool
  pub complete : Bool

abbrev pub chosen : Steps → Chosen
chosen steps = record {
  target = option_copied steps.target_btf;
  descriptors = descriptors_of steps.map_fds;
  kernel = option_map option_copied steps.externs;
  externs = is_some steps.externs;
  calls = steps.calls;
  complete = steps.complete;
}

-- ---- the refusal of one stage, in that stage's own variant

module _ {E : Type 0} (variant : E → PrepareError) (Fault : E → Type 0) where
  abbrev pub Wrapped : PrepareError → Type 0
  Wrapped e = (own : E) × (e ≡ variant own) × Fault own

-- ---- what is missing

-- the slots whose own map has no descriptor, each with the map's name
abbrev pub maps_without_descriptors : Object → List Descriptor → List NamedSlot
maps_without_descriptors o descriptors =
    slots.maps_without_descriptors (linkable_of o (has_function_in o.functions)) o.maps
    (put_all empty descriptors)

-- the names among these that no map of the object has
abbrev pub unknown_maps : Object → List Descriptor → List (List ℕ)
unknown_maps o descriptors =
    filter (λ name. not (contains_key o.maps name)) (map (λ d. d.0) descriptors)

-- the calls of externs that no pass has written, each with the extern's name
abbrev pub unwritten_externs : Object → List NamedSlot
unwritten_externs o = slots.unwritten_externs o.symbol_table o.relocations o.functions

-- the first name without a map; else the first slot whose own map has no descriptor
abbrev pub first_missing : Object → List Descriptor → Option PrepareError
first_missing o descriptors =
    or_else (option_map UnknownMap (slice_get (unknown_maps o descriptors) 0))
    (option_map (λ s. MissingDescriptor s.name)
    (slice_get (maps_without_descriptors o descriptors) 0))

-- why descriptors are refused that have to be complete
abbrev pub given_fault : Option (List Descriptor) → Bool → Object → Option PrepareError
given_fault None complete o = None
given_fault (Some descriptors) complete o = if complete then first_missing o descriptors else None

-- the name of the first extern whose call is not written, where programs are to be linked and
-- nothing may be missing
abbrev pub unwritten_fault : Bool → Bool → Object → Option (List ℕ)
unwritten_fault false complete o = None
unwritten_fault true complete o =
    if complete then option_map (λ s. s.name) (slice_get (unwritten_externs o) 0) else None

-- ---- the stages of preparing an object: what each leaves of it, and how it refuses it. A stage
-- that is not chosen leaves it as it is

-- ---- types

-- the object relocated to a kernel's types
abbrev pub RelocatesTypes : Option TypeInfo → Object → Object → Type 0
RelocatesTypes None o after = after ≡ o
RelocatesTypes (Some target) o after =
    AreRelocatedToTypes o target after.functions
    × (after ≡ record o { functions = after.functions })

-- the first record that can't be applied
abbrev pub TypesFault : Option TypeInfo → Object → BtfRelocationError → Type 0
TypesFault None o e = ⊥
TypesFault (Some target) o e = relocated_slots o target ≡ Err (without_texts_at e)

-- ---- maps

-- a map of the object with a descriptor; a name that the object lacks is passed over
abbrev pub own_map : FinMap text_cmp Map → Descriptor → Option GivenMap
own_map maps descriptor = option_map (λ m. (descriptor.1, m)) (get maps descriptor.0)

-- the object's own maps with their descriptors
abbrev pub own_maps : FinMap text_cmp Map → List Descriptor → List GivenMap
own_maps maps descriptors = filter_map (own_map maps) descriptors

-- the object with the descriptors of its own maps
abbrev pub fds_written : Option (List Descriptor) → Object → Object
fds_written None o = o
fds_written (Some descriptors) o =
    with_maps o (has_function_in o.functions) (own_maps o.maps descriptors)

-- the first relocation whose descriptor can't be written
abbrev pub fds_fault : Option (List Descriptor) → Object → Option EbpfRelocationError
fds_fault None o = None
fds_fault (Some descriptors) o =
    maps_fault o (has_function_in o.functions) (own_maps o.maps descriptors)

-- why the descriptors of own maps are refused where nothing may be missing: they aren't complete,
-- else one can't be written
abbrev pub CompleteFdsFault : List Descriptor → Object → PrepareError → Type 0
CompleteFdsFault descriptors o e =
    (given_fault (Some descriptors) true o ≡ Some e) ⊎
    ((given_fault (Some descriptors) true o ≡ None)
    × Wrapped Maps (λ own. fds_fault (Some descriptors) o ≡ Some own) e)

-- ---- externs

-- the object with its externs resolved by the lines of a reader or of a text
abbrev pub Resolves : Option (Option TypeInfo) → Source → Object → Object → Type 0
Resolves None lines o after = after ≡ o
Resolves (Some kernel) lines o after =
    IsResolvedFrom lines o.btf kernel o.externs after.externs
    × (after ≡ record o { externs = after.externs })

-- the least fault of resolving
abbrev pub ResolvingFault : Option (Option TypeInfo) → Source → Object → KsymsError → Type 0
ResolvingFault None lines o e = ⊥
ResolvingFault (Some kernel) lines o e = IsRefusedFrom lines o.btf kernel o.externs e

-- the object with its externs written
abbrev pub with_externs_if : Bool → Object → Object
with_externs_if false o = o
with_externs_if true o = with_externs o

-- the first relocation whose extern can't be written
abbrev pub externs_fault_if : Bool → Object → Option EbpfRelocationError
externs_fault_if false o = None
externs_fault_if true o = externs_fault o

-- ---- calls

-- the object with its programs linked with the functions that they reach
abbrev pub LinksPrograms : Bool → Object → Object → Type 0
LinksPrograms false o after = after ≡ o
LinksPrograms true o after =
    ProgramsAreLinked (linkable_of o (has_function_in o.functions)) (programs_in_order o.programs)
    after.functions
    × (after ≡ record o { functions = after.functions })

-- the first program that can't be linked
abbrev pub LinkingFault : Bool → Object → EbpfRelocationError → Type 0
LinkingFault false o e = ⊥
LinkingFault true o e =
    IsFirstRefusal (linkable_of o (has_function_in o.functions)) (programs_in_order o.programs) e
