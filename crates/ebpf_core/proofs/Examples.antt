-- The worked examples of specs/, computed.
use Rattle.std.proofs.Common.{◌≡◌, ℕ, ◌+◌, ◌*◌, ◌^◌, false, List, [], ◌∷◌, Option, Some, None, Ok, refl}
use Rattle.std.specs.Str.{chars, is_utf8}
use Rattle.std.specs.Str.Lossy.{utf8_error_len, utf8_lossy, utf8_valid_len}
use lib.Utf8.{encode}
use Rattle.ebpf_btf.specs.EssentialNames.{essential_name}
use Rattle.ebpf_btf.specs.Steps.{modifier_type_id, own_size, repeats, resolved_from, size_from, sized_by}
use Rattle.ebpf_btf.specs.Strings.{text_at}
use Rattle.ebpf_btf.specs.TypeInfo.{TypeInfo}
use Rattle.ebpf_btf.specs.Types.{array_of, bit_field_size, bit_offset, has_bit_fields, is_signed, kind_number, kind_of, members_of, name_off, size_word}
use Rattle.ebpf_btf.specs.Variants.{variants_of}
use Rattle.ebpf_btf.specs.declared.members.BtfMember.{BtfMember}
use Rattle.ebpf_btf.specs.declared.types.BtfType.{BtfType}
use Rattle.ebpf_btf.specs.declared.types.BtfType.TheVariants.{Array, Int, Struct, Union, Unknown}
use Rattle.ebpf_btf_ext.specs.declared.relocation.Relocation.{Relocation}
use Rattle.ebpf_btf_ext.specs.declared.relocation.RelocationKind.{RelocationKind}
use Rattle.ebpf_btf_ext.specs.declared.relocation.RelocationKind.TheVariants.{FieldByteOffset, FieldExists, FieldLShift64, FieldRShift64}
use Rattle.ebpf_core_candidates.specs.Compatibility.{decided_by, element, fields_fit, first_bit}
use Rattle.ebpf_core.specs.Fields.{bit_field_extent, class_of, container, field_value, member_field_value, member_number}
use Rattle.ebpf_core.specs.LocalPaths.{accessor_of, field_path, local_path, part_step, spot_after}
use Rattle.ebpf_core.specs.Members.{first_fitting, member_search, members_in, run_search, view}
use Rattle.ebpf_core.specs.Outcomes.{found_at_candidate, local_loaded, match_value, matches, outcome_among, outcome_of_matches}
use Rattle.ebpf_core.specs.Places.{place_after, place_of}
use Rattle.ebpf_core.proofs.SamePaths.{outcomes_are_of_same_paths}
use Rattle.ebpf_core.specs.SamePathValue.{SamePathValue}
use Rattle.ebpf_core.specs.Searches.{candidates_named, outcome_of}
use Rattle.ebpf_core.specs.declared.field.Extent.{Extent}
use Rattle.ebpf_core.specs.declared.field.FieldClass.TheVariants.{Other}
use Rattle.ebpf_core.specs.declared.field.LoadedField.{LoadedField}
use Rattle.ebpf_core.specs.declared.matches.MatchValue.{MatchValue}
use Rattle.ebpf_core.specs.declared.places.PlaceEnd.TheVariants.{Element}
use Rattle.ebpf_core.specs.declared.places.Step.TheVariants.{Index}

-- ---- Fields: a bit field of 3 bits at bit 33, whose type has 4 bytes

extent_of_3 : Extent
extent_of_3 = record { start = 4; size = 4; width = 3 }

bit_field_is_loaded : bit_field_extent 33 3 (Some 4) ≡ Ok extent_of_3
unfolding container extent_of_3
bit_field_is_loaded = refl

bits_above_are_shifted_out : member_number FieldLShift64 false 33 extent_of_3 ≡ Ok 60
unfolding extent_of_3
bits_above_are_shifted_out = refl

bits_below_are_shifted_out : member_number FieldRShift64 false 33 extent_of_3 ≡ Ok 61
unfolding extent_of_3
bits_below_are_shifted_out = refl

-- one of 5 bits at bit 30 takes a container of twice its type's size
container_is_doubled : container 30 5 4 ≡ Some 8
unfolding container
container_is_doubled = refl

-- ---- Places: `int x[2][3]`, in which `[1][2]` begins 20 bytes from the start

abbrev matrix : TypeInfo
matrix = record { types = Unknown ∷ Int 0 4 32 ∷ Array 0 1 1 3 ∷ Array 0 2 1 2 ∷ []; strings = 0 ∷ [] }

element_of_matrix : place_of matrix matrix 3 (Index 0 ∷ Index 1 ∷ Index 2 ∷ []) ≡ Ok (Some (record { bits = 160; end = Element 1 }))
unfolding place_of place_after resolved_from modifier_type_id size_from own_size size_word sized_by repeats array_of
element_of_matrix = refl

past_the_matrix : place_of matrix matrix 3 (Index 0 ∷ Index 1 ∷ Index 3 ∷ []) ≡ Ok None
unfolding place_of place_after resolved_from modifier_type_id size_from own_size size_word sized_by repeats array_of
past_the_matrix = refl

-- ---- Outcomes

at_byte_8 : ℕ → MatchValue
at_byte_8 id = record { candidate = id; bits = 64; number = Some 8; loaded = None }

matches_agree : (target : TypeInfo) (name : List ℕ) → outcome_of_matches target name FieldByteOffset None (at_byte_8 4 ∷ at_byte_8 9 ∷ []) ≡ Ok (record { value = Some 8; local = None; target = None })
unfolding at_byte_8 outcome_of_matches
matches_agree target name = refl

nothing_matches : (target : TypeInfo) (name : List ℕ) → outcome_of_matches target name FieldByteOffset None [] ≡ Ok (record { value = None; local = None; target = None })
unfolding outcome_of_matches
nothing_matches target name = refl

nothing_exists : (target : TypeInfo) (name : List ℕ) → outcome_of_matches target name FieldExists None [] ≡ Ok (record { value = Some 0; local = None; target = None })
unfolding outcome_of_matches
nothing_exists target name = refl

-- ---- SamePathValue: the field `cred.uid` of `struct task`, whose struct `cred` is in an anonymous union of the kernel

abbrev names : List ℕ
names = 0 ∷ 116 ∷ 97 ∷ 115 ∷ 107 ∷ 0 ∷ 112 ∷ 105 ∷ 100 ∷ 0 ∷ 99 ∷ 114 ∷ 101 ∷ 100 ∷ 0 ∷ 117 ∷ 105 ∷ 100 ∷ 0 ∷ 115 ∷ 116 ∷ 97 ∷ 116 ∷ 101 ∷ 0 ∷ 102 ∷ 108 ∷ 97 ∷ 103 ∷ 115 ∷ 0 ∷ 103 ∷ 105 ∷ 100 ∷ 0 ∷ 48 ∷ 58 ∷ 49 ∷ 58 ∷ 48 ∷ 0 ∷ []

abbrev member : ℕ → ℕ → ℕ → BtfMember
member name type bits = record { name_offset = name; btf_type = type; offset = bits }

abbrev struct : ℕ → ℕ → List BtfMember → BtfType
struct name size members = Struct name size false members

abbrev signed : ℕ → BtfType
signed size = Int 0 size (2 ^ 24 + size * 8)

-- the object's types
abbrev object_types : TypeInfo
object_types = record {
  types = Unknown
      ∷ signed 4
      ∷ struct 0 4 (member 15 1 0 ∷ [])
      ∷ struct 1 8 (member 6 1 0 ∷ member 10 2 32 ∷ [])
      ∷ [];
  strings = names;
}

-- the kernel's, by the members of its struct `cred`
abbrev kernel_types : List BtfMember → TypeInfo
kernel_types cred = record {
  types = Unknown
      ∷ signed 8
      ∷ signed 4
      ∷ signed 2
      ∷ struct 0 8 cred
      ∷ Union 0 8 false (member 25 2 0 ∷ member 10 4 0 ∷ []) None
      ∷ struct 1 16 (member 19 1 0 ∷ member 0 5 64 ∷ [])
      ∷ [];
  strings = names;
}

abbrev relocation : RelocationKind → Relocation
relocation kind = record { insn_off = 0; type_id = 3; access_str_off = 35; kind = kind; number = 0 }

abbrev four_bytes : Option LoadedField
four_bytes = Some (record { size = 4; class = Other })

-- `struct { short gid; int uid; }`, and the same without `uid`
abbrev with_uid : List BtfMember
with_uid = member 31 3 0 ∷ member 15 2 32 ∷ []

abbrev without_uid : List BtfMember
without_uid = member 31 3 0 ∷ []

offset_of_uid : outcome_of object_types (kernel_types with_uid) (relocation FieldByteOffset) ≡ Ok (record { value = Some 12; local = four_bytes; target = four_bytes })
unfolding outcome_of local_path text_at utf8_lossy encode is_utf8 utf8_valid_len utf8_error_len chars accessor_of name_off modifier_type_id resolved_from field_path spot_after part_step members_of array_of bit_offset has_bit_fields size_from own_size size_word sized_by repeats candidates_named kind_of kind_number variants_of essential_name outcome_among matches found_at_candidate place_of place_after first_fitting run_search view member_search members_in element first_bit decided_by fields_fit local_loaded field_value member_field_value class_of is_signed bit_field_size match_value outcome_of_matches
offset_of_uid = refl

no_offset_of_uid : outcome_of object_types (kernel_types without_uid) (relocation FieldByteOffset) ≡ Ok (record { value = None; local = four_bytes; target = None })
unfolding outcome_of local_path text_at utf8_lossy encode is_utf8 utf8_valid_len utf8_error_len chars accessor_of name_off modifier_type_id resolved_from field_path spot_after part_step members_of array_of bit_offset has_bit_fields size_from own_size size_word sized_by repeats candidates_named kind_of kind_number variants_of essential_name outcome_among matches found_at_candidate place_of place_after first_fitting run_search view member_search members_in element first_bit decided_by fields_fit local_loaded field_value member_field_value class_of is_signed bit_field_size match_value outcome_of_matches
no_offset_of_uid = refl

no_uid_exists : outcome_of object_types (kernel_types without_uid) (relocation FieldExists) ≡ Ok (record { value = Some 0; local = None; target = None })
unfolding outcome_of local_path text_at utf8_lossy encode is_utf8 utf8_valid_len utf8_error_len chars accessor_of name_off modifier_type_id resolved_from field_path spot_after part_step members_of array_of bit_offset has_bit_fields size_from own_size size_word sized_by repeats candidates_named kind_of kind_number variants_of essential_name outcome_among matches found_at_candidate place_of place_after first_fitting run_search view member_search members_in element first_bit decided_by fields_fit local_loaded field_value member_field_value class_of is_signed bit_field_size match_value outcome_of_matches
no_uid_exists = refl

pub value_of_uid : SamePathValue object_types (kernel_types with_uid) (relocation FieldByteOffset) (record { value = Some 12; local = four_bytes; target = four_bytes })
value_of_uid = outcomes_are_of_same_paths object_types (kernel_types with_uid) (relocation FieldByteOffset) _ offset_of_uid
