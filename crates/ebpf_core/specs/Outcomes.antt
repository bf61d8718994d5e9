-- The outcome of a relocation over all its candidates: the value of the first that matches, where
-- the other matches agree with it (the kernel's Documentation/bpf/llvm_reloc.rst, "CO-RE
-- Relocations", and tools/lib/bpf/relo_core.c, bpf_core_spec_match and bpf_core_calc_relo_insn).
--
-- An example: of three candidates the first lacks the field, and the others have it at bit 64. Two
-- matches agree on byte offset 8, which is the value. Had the third the field at bit 128, the
-- relocation would be refused. Had none of them the field, there would be no value, and of the kind
-- FieldExists the value 0. `proofs/Examples.antt` computes the outcomes of such matches.
use Rattle.std.specs.Prelude.{ℕ, Bool, List, [], Option, Some, None, option_map, unwrap_or, Result}
use Rattle.std.specs.Prelude.{Ok, Err, if◌then◌else◌, ◌≡◌, ◌<◌, true, false, length, slice_get}
use Rattle.std.specs.Prelude.{◌==◌, ◌&&◌, not, nat_eq, ◌∷◌, filter, option_and_then}
use Rattle.std.specs.List.{filter_map, list_all}
use Rattle.std.specs.Option.{option_eq}
use Rattle.std.specs.Result.{result_ok}
use Rattle.ebpf_base.specs.Faults.{first_some, if_ok}
use Rattle.ebpf_core_candidates.specs.Compatibility.{types_compatible}
use Rattle.ebpf_core_candidates.specs.TypeMatches.{types_match}
use Rattle.ebpf_btf.specs.declared.error.BtfError.{BtfError as TypeError}
use Rattle.ebpf_btf.specs.declared.variants.BtfVariant.{BtfVariant}
use Rattle.ebpf_btf.specs.Steps.{resolved_type, type_at, size_of}
use Rattle.ebpf_btf.specs.Strings.{is_essential_name_at, type_name}
use Rattle.ebpf_btf.specs.TypeInfo.{TypeInfo}
use Rattle.ebpf_btf.specs.Variants.{variants_of}
use Rattle.ebpf_core.specs.declared.places.PlaceFault.{PlaceFault}
use Rattle.ebpf_core.specs.declared.places.PlaceFault.TheVariants.{NestingLevel, Btf}
use Rattle.ebpf_core.specs.declared.places.FieldPlace.{FieldPlace}
use Rattle.ebpf_core.specs.Places.{place_of}
use Rattle.ebpf_btf_ext.specs.declared.relocation.Relocation.{Relocation}
use Rattle.ebpf_btf_ext.specs.declared.relocation.RelocationKind.{RelocationKind}
use Rattle.ebpf_btf_ext.specs.declared.relocation.RelocationKind.TheVariants.{FieldExists}
use Rattle.ebpf_btf_ext.specs.declared.relocation.RelocationKind.TheVariants.{TypeIdTarget}
use Rattle.ebpf_btf_ext.specs.declared.relocation.RelocationKind.TheVariants.{TypeExists, TypeSize}
use Rattle.ebpf_btf_ext.specs.declared.relocation.RelocationKind.TheVariants.{EnumVariantExists}
use Rattle.ebpf_btf_ext.specs.declared.relocation.RelocationKind.TheVariants.{EnumVariantValue}
use Rattle.ebpf_btf_ext.specs.declared.relocation.RelocationKind.TheVariants.{TypeMatches}
use Rattle.ebpf_core.specs.declared.error.RelocationError.{RelocationError}
use Rattle.ebpf_core.specs.declared.error.RelocationError.TheVariants.{MaximumNestingLevelReached}
use Rattle.ebpf_core.specs.declared.error.RelocationError.TheVariants.{BtfError}
use Rattle.ebpf_core.specs.declared.error.RelocationError.TheVariants.{ConflictingCandidates}
use Rattle.ebpf_core.specs.declared.paths.NamedPath.{NamedPath}
use Rattle.ebpf_core.specs.declared.matches.FoundMatch.{FoundMatch}
use Rattle.ebpf_core.specs.declared.matches.Match.{Match}
use Rattle.ebpf_core.specs.Answers.{each, of_types}
use Rattle.ebpf_core.specs.declared.field.FieldFault.{FieldFault}
use Rattle.ebpf_core.specs.declared.field.FieldFault.TheVariants.{OfElement, Types}
use Rattle.ebpf_core.specs.declared.field.FieldValue.{FieldValue}
use Rattle.ebpf_core.specs.declared.field.LoadedField.{LoadedField}
use Rattle.ebpf_core.specs.declared.paths.LocalPath.{LocalPath}
use Rattle.ebpf_core.specs.declared.outcome.Outcome.{Outcome}
use Rattle.ebpf_core.specs.declared.matches.MatchValue.{MatchValue}
use Rattle.ebpf_core.specs.Fields.{field_value}
use Rattle.ebpf_core.specs.LocalPaths.{wrong_kind}
use Rattle.ebpf_core.specs.declared.paths.NamedPath.TheVariants as paths
use Rattle.ebpf_core.specs.declared.matches.FoundMatch.TheVariants as found

-- the name of the type with an id
abbrev pub type_name_at : TypeInfo → ℕ → Result (List ℕ) TypeError
type_name_at info id = if_ok (type_at info.types id) (type_name info)

-- what a variant answers by whether it has the name that is looked up; one that has another answers
-- nothing
abbrev pub variant_answer : ℕ → Result Bool TypeError → Option (Result (Option ℕ) TypeError)
variant_answer value (Ok same) = if same then Some (Ok (Some value)) else None
variant_answer value (Err e) = Some (Err e)

abbrev pub named_variant_answer : TypeInfo → List ℕ → BtfVariant
    → Option (Result (Option ℕ) TypeError)
named_variant_answer info name v =
    variant_answer v.value (is_essential_name_at info.strings v.name_offset name)

-- the value of the first variant of a name, flavors aside
unfoldable pub first_variant : TypeInfo → List ℕ → List BtfVariant → Result (Option ℕ) TypeError
first_variant info name vs = unwrap_or (first_some (named_variant_answer info name) vs) (Ok None)

-- in the type that a candidate resolves to; a type that is no enumeration has no variants
abbrev pub variant_in : TypeInfo → List ℕ → ℕ → Result (Option ℕ) TypeError
variant_in target name id =
    if_ok (resolved_type target.types id) (λ t.
    first_variant target name (unwrap_or (variants_of t) []))

-- a place that was found; a limit that was reached is answered with the candidate's name
abbrev pub by_place : TypeInfo
    → ℕ
    → Result (Option FieldPlace) PlaceFault
    → Result (Option FoundMatch) RelocationError
by_place target id (Ok place) = Ok (option_map found.Field place)
by_place target id (Err NestingLevel) =
    if_ok (of_types (type_name_at target id)) (λ name. Err (MaximumNestingLevelReached name))
by_place target id (Err (Btf e)) = Err (BtfError e)

-- what a path of the local type leads to in a candidate
unfoldable pub found_at_candidate : TypeInfo
    → TypeInfo
    → ℕ
    → NamedPath
    → ℕ
    → Result (Option FoundMatch) RelocationError
found_at_candidate local target local_id paths.WholeType id =
    if_ok (of_types (types_compatible local local_id target id)) (λ fits.
    Ok (if fits then Some found.WholeType else None))
found_at_candidate local target local_id paths.MatchedType id =
    if_ok (of_types (types_match local local_id target id)) (λ matches.
    Ok (if matches then Some found.WholeType else None))
found_at_candidate local target local_id (paths.Variant name) id =
    if_ok (of_types (variant_in target name id)) (λ value. Ok (option_map found.Variant value))
found_at_candidate local target local_id (paths.Field steps place) id =
    by_place target id (place_of local target id steps)

abbrev pub match_of : ℕ → FoundMatch → Match
match_of id what = record { candidate = id; found = what }

-- whether a candidate matches, and how
abbrev pub match_in : TypeInfo → TypeInfo → ℕ → NamedPath → ℕ
    → Result (Option Match) RelocationError
match_in local target local_id path id =
    if_ok (found_at_candidate local target local_id path id) (λ what.
    Ok (option_map (match_of id) what))

-- the candidates that match, in their order
unfoldable pub matches : TypeInfo → TypeInfo → ℕ → NamedPath → List ℕ
    → Result (List Match) RelocationError
matches local target local_id path ids =
    if_ok (each (match_in local target local_id path) ids) (λ all. Ok (filter_map (λ m. m) all))

-- ---- the first variant of a name, by the variants' numbers

-- The first n variants can be read, and have other names, flavors aside.
abbrev pub AreOthers : TypeInfo → List ℕ → List BtfVariant → ℕ → Type 0
AreOthers info name vs n =
    (k : ℕ) (v : BtfVariant)
    → k < n
    → slice_get vs k ≡ Some v
    → is_essential_name_at info.strings v.name_offset name ≡ Ok false

-- The value of the first variant of a name is this: at variant n the search stops, since it has the
-- name or can't be read; or there is none.
pub data FirstVariantIs (info : TypeInfo) (name : List ℕ) (vs : List BtfVariant)
    : Result (Option ℕ) TypeError → Type 0 where
  HasName : (n : ℕ) (v : BtfVariant)
      → slice_get vs n ≡ Some v
      → is_essential_name_at info.strings v.name_offset name ≡ Ok true
      → AreOthers info name vs n → FirstVariantIs info name vs (Ok (Some v.value))
  Unread : (n : ℕ) (v : BtfVariant) (e : TypeError)
      → slice_get vs n ≡ Some v
      → is_essential_name_at info.strings v.name_offset name ≡ Err e
      → AreOthers info name vs n → FirstVariantIs info name vs (Err e)
  Absent : AreOthers info name vs (length vs) → FirstVariantIs info name vs (Ok None)

-- ---- the value of a match

-- what a kind asks of a type
abbrev pub type_value : TypeInfo → RelocationKind → ℕ → Result ℕ TypeError
type_value target TypeSize id = size_of target.types id
type_value target TypeIdTarget id = Ok id
type_value target _ id = Ok 1

-- what a kind asks of a variant
abbrev pub variant_value : RelocationKind → ℕ → ℕ
variant_value EnumVariantValue value = value
variant_value _ value = 1

abbrev pub match_of_number : ℕ → ℕ → MatchValue
match_of_number id number = record { candidate = id; bits = 0; number = Some number; loaded = None }

-- a field whose number can't be had has none
abbrev pub field_in : ℕ → ℕ → Option FieldValue → MatchValue
field_in id bits value =
    record {
      candidate = id;
      bits = bits;
      number = option_map (λ v. v.number) value;
      loaded = option_and_then (λ v. v.loaded) value;
    }

abbrev pub value_in : TypeInfo → RelocationKind → ℕ → FoundMatch → Result MatchValue RelocationError
value_in target kind id found.WholeType =
    if_ok (of_types (type_value target kind id)) (λ number. Ok (match_of_number id number))
value_in target kind id (found.Variant value) = Ok (match_of_number id (variant_value kind value))
value_in target kind id (found.Field place) =
    Ok (field_in id place.bits (result_ok (field_value target kind place)))

-- what a match gives; a type of which the size is asked has to have one
unfoldable pub match_value : TypeInfo → RelocationKind → Match → Result MatchValue RelocationError
match_value target kind m = value_in target kind m.candidate m.found

-- ---- the local field

abbrev pub loaded_by : ℕ
    → Result FieldValue FieldFault
    → Result (Option LoadedField) RelocationError
loaded_by number (Ok value) = Ok value.loaded
loaded_by number (Err OfElement) = wrong_kind number
loaded_by number (Err (Types e)) = Err (BtfError e)

-- what is loaded of the local field, of which a record's kind can be asked
unfoldable pub local_loaded : TypeInfo
    → Relocation
    → NamedPath
    → Result (Option LoadedField) RelocationError
local_loaded local r (paths.Field steps place) = loaded_by r.number (field_value local r.kind place)
local_loaded local r paths.WholeType = Ok None
local_loaded local r paths.MatchedType = Ok None
local_loaded local r (paths.Variant name) = Ok None

-- ---- all candidates

-- matches agree in their bits and their numbers; one without a number agrees with one without a
-- number alone
abbrev pub values_agree : MatchValue → MatchValue → Bool
values_agree a b = a.bits == b.bits && option_eq nat_eq a.number b.number

-- the value without a match: that it does not exist, or no value
abbrev pub without_match : RelocationKind → Option ℕ
without_match FieldExists = Some 0
without_match TypeExists = Some 0
without_match TypeMatches = Some 0
without_match EnumVariantExists = Some 0
without_match _ = None

-- the names of those among matches that differ from one
abbrev pub differing_names : TypeInfo → MatchValue → List MatchValue
    → Result (List (List ℕ)) RelocationError
differing_names target first others =
    each (λ v. of_types (type_name_at target v.candidate))
    (filter (λ v. not (values_agree first v)) others)

-- the first match's value where all later matches agree with it
unfoldable pub outcome_of_matches : TypeInfo → List ℕ → RelocationKind → Option LoadedField
    → List MatchValue → Result Outcome RelocationError
outcome_of_matches target name kind loaded [] =
    Ok (record { value = without_match kind; local = loaded; target = None })
outcome_of_matches target name kind loaded (first ∷ others) =
    if list_all (values_agree first) others
    then Ok (record { value = first.number; local = loaded; target = first.loaded })
    else if_ok (differing_names target first others) (λ names.
    Err (ConflictingCandidates name names))

-- The outcome of a record over its candidates. Matching comes first, then the local field, then the
-- values.
unfoldable pub outcome_among : TypeInfo → TypeInfo → Relocation → LocalPath → List ℕ
    → Result Outcome RelocationError
outcome_among local target r path ids =
    if_ok (matches local target r.type_id path.path ids) (λ found.
    if_ok (local_loaded local r path.path) (λ loaded.
    if_ok (each (match_value target r.kind) found) (λ values.
    outcome_of_matches target path.type_name r.kind loaded values)))
