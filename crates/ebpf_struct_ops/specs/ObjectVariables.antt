-- The variables of an object that declare maps of struct_ops, with their members and the programs
-- that stand there (libbpf 1.7, libbpf.c: bpf_object_init_struct_ops, init_struct_ops_maps,
-- bpf_object__collect_st_ops_relos).
use Rattle.std.specs.Prelude.{ℕ, ◌+◌, ◌/◌, ◌==◌, Bool, not, List, [], map, take, drop, length}
use Rattle.std.specs.Prelude.{slice_get, Option, Some, None, option_map, unwrap_or}
use Rattle.std.specs.FinMap.{FinMap, get}
use Rattle.std.specs.List.{flat_map}
use Rattle.std.specs.Option.{option_and_then}
use Rattle.std.specs.Ordering.{nat_cmp}
use Rattle.std.specs.Result.{result_ok}
use Rattle.ebpf_base.specs.Faults.{first_in, first_of, first_some, or_else}
use Rattle.ebpf_btf.specs.Steps.{size_of}
use Rattle.ebpf_btf.specs.Strings.{id_of_name}
use Rattle.ebpf_btf.specs.TypeInfo.{TypeInfo}
use Rattle.ebpf_btf.specs.Types.{bit_field_size, bit_offset, kind_of, size_word}
use Rattle.ebpf_btf.specs.declared.kind.BtfKind.TheVariants as kinds
use Rattle.ebpf_btf.specs.declared.members.BtfMember.{BtfMember}
use Rattle.ebpf_btf.specs.declared.members.DataSecEntry.{DataSecEntry}
use Rattle.ebpf_btf.specs.declared.types.BtfType.{BtfType}
use Rattle.ebpf_btf.specs.declared.types.BtfType.TheVariants.{DataSec}
use Rattle.ebpf_elf.specs.Faults.{faults}
use Rattle.ebpf_elf.specs.Relocations.{relocations}
use Rattle.ebpf_elf.specs.Sections.{SectionOf, data_faults, data_of, section_name, sections}
use Rattle.ebpf_elf.specs.declared.relocation.ElfRelocation.{ElfRelocation}
use Rattle.ebpf_object.specs.declared.object.Object.{Object}
use Rattle.ebpf_struct_ops.specs.Relocations.{programs_put, relocations_fault}
use Rattle.ebpf_struct_ops.specs.Sections.{section_rule}
use Rattle.ebpf_struct_ops.specs.TypeFacts.{members_in, type_behind}
use Rattle.ebpf_struct_ops.specs.Variables.{bare_variables, bare_variables_fault, text_or_empty}
use Rattle.ebpf_struct_ops.specs.declared.bare.BareVariable.{BareVariable}
use Rattle.ebpf_struct_ops.specs.declared.error.StructOpsError.{StructOpsError}
use Rattle.ebpf_struct_ops.specs.declared.error.StructOpsError.TheVariants.{ElfError, NoDatasec}
use Rattle.ebpf_struct_ops.specs.declared.error.StructOpsError.TheVariants.{NoTypes}
use Rattle.ebpf_struct_ops.specs.declared.places.SectionFacts.{SectionFacts}
use Rattle.ebpf_struct_ops.specs.declared.sections.SectionRule.{SectionRule}
use Rattle.ebpf_struct_ops.specs.declared.variable.StructOpsMember.{StructOpsMember}
use Rattle.ebpf_struct_ops.specs.declared.variable.StructOpsVariable.{StructOpsVariable}

-- ---- the members of a variable; `base` is its offset in the section, and `found` has the names of
-- programs by offset in the section

abbrev pub member_of : TypeInfo → BtfType → ℕ → FinMap nat_cmp (List ℕ) → BtfMember
    → StructOpsMember
member_of types t base found m = record {
  name = text_or_empty types m.name_offset;
  offset = bit_offset t m / 8;
  size = result_ok (size_of types.types m.btf_type);
  kind = kind_of (type_behind types m.btf_type);
  is_bit_field = not (bit_field_size t m == 0);
  program = get found (base + bit_offset t m / 8);
}

abbrev pub members_of_variable : TypeInfo → BtfType → ℕ → FinMap nat_cmp (List ℕ)
    → List StructOpsMember
members_of_variable types t base found = map (member_of types t base found) (members_in t)

-- ---- a variable of a section with these bytes, this index and this rule

abbrev pub variable_with_members : TypeInfo → List ℕ → ℕ → SectionRule
    → FinMap nat_cmp (List ℕ)
    → BareVariable
    → StructOpsVariable
variable_with_members types bytes index rule found v = record {
  name = v.name;
  section_index = index;
  offset = v.place.offset;
  is_created = rule.is_created;
  is_link = rule.is_link;
  type_id = v.place.type_id;
  type_name = v.type_name;
  bytes = take v.place.size (drop v.place.offset bytes);
  members =
      members_of_variable types (type_behind types v.place.type_id) v.place.offset found;
}

abbrev pub variables_with_members : TypeInfo → List ℕ → ℕ → SectionRule
    → FinMap nat_cmp (List ℕ)
    → List BareVariable
    → List StructOpsVariable
variables_with_members types bytes index rule found bare =
    map (variable_with_members types bytes index rule found) bare

-- ---- the variables of a DATASEC

unfoldable pub entries_of : BtfType → List DataSecEntry
entries_of (DataSec name size entries) = entries
entries_of t = []

-- Compilers write the size 0, and no offsets of global variables.
abbrev pub lacks_offsets : BtfType → Bool
lacks_offsets t = unwrap_or (size_word t) 0 == 0

abbrev pub facts_of : List ℕ → ℕ → BtfType → SectionFacts
facts_of bytes index t =
    record { index = index; length = length bytes; lacks_offsets = lacks_offsets t }

abbrev pub bare_of : List ℕ → TypeInfo → List ℕ → ℕ → BtfType → List BareVariable
bare_of file types bytes index t =
    bare_variables file types (facts_of bytes index t) (entries_of t)

abbrev pub variables_of : List ℕ → Object → TypeInfo → List ℕ → ℕ → SectionRule → BtfType
    → List ElfRelocation
    → List StructOpsVariable
variables_of file object types bytes index rule t rs =
    variables_with_members types bytes index rule (programs_put object rs)
    (bare_of file types bytes index t)

abbrev pub variables_fault : List ℕ → Object → TypeInfo → List ℕ → ℕ → BtfType
    → List ElfRelocation
    → Option StructOpsError
variables_fault file object types bytes index t rs =
    or_else (bare_variables_fault file types (facts_of bytes index t) (entries_of t))
    (relocations_fault file object types (bare_of file types bytes index t) rs)

-- ---- the variables of a section

abbrev pub datasec_named : TypeInfo → List ℕ → Option BtfType
datasec_named types name =
    option_and_then (slice_get types.types) (id_of_name types name kinds.DataSec)

-- the first DATASEC of a section's name
abbrev pub datasec : TypeInfo → SectionOf → Option BtfType
datasec types s = option_and_then (datasec_named types) (section_name s)

abbrev pub variables_by : List ℕ → Object → TypeInfo → SectionRule → SectionOf → Option BtfType
    → List StructOpsVariable
variables_by file object types rule s None = []
variables_by file object types rule s (Some t) =
    variables_of file object types (data_of s) s.index rule t (relocations s)

abbrev pub variables_by_fault : List ℕ → Object → TypeInfo → SectionOf → Option BtfType
    → Option StructOpsError
variables_by_fault file object types s None = Some (NoDatasec s.index)
variables_by_fault file object types s (Some t) =
    or_else (option_map ElfError (first_of (data_faults s)))
    (variables_fault file object types (data_of s) s.index t (relocations s))

abbrev pub with_types : List ℕ → Object → TypeInfo → SectionRule → SectionOf
    → List StructOpsVariable
with_types file object types rule s =
    variables_by file object types rule s (datasec types s)

abbrev pub with_types_fault : List ℕ → Object → TypeInfo → SectionOf → Option StructOpsError
with_types_fault file object types s = variables_by_fault file object types s (datasec types s)

abbrev pub typed_variables : List ℕ → Object → SectionRule → SectionOf → Option TypeInfo
    → List StructOpsVariable
typed_variables file object rule s None = []
typed_variables file object rule s (Some types) = with_types file object types rule s

abbrev pub typed_fault : List ℕ → Object → SectionOf → Option TypeInfo → Option StructOpsError
typed_fault file object s None = Some NoTypes
typed_fault file object s (Some types) = with_types_fault file object types s

abbrev pub ruled_variables : List ℕ → Object → SectionRule → SectionOf → List StructOpsVariable
ruled_variables file object rule s = typed_variables file object rule s object.btf

abbrev pub ruled_fault : List ℕ → Object → SectionOf → Option StructOpsError
ruled_fault file object s = typed_fault file object s object.btf

abbrev pub variables_where : List ℕ → Object → SectionOf → Option SectionRule
    → List StructOpsVariable
variables_where file object s None = []
variables_where file object s (Some rule) = ruled_variables file object rule s

abbrev pub fault_where : List ℕ → Object → SectionOf → Option SectionRule → Option StructOpsError
fault_where file object s None = None
fault_where file object s (Some rule) = ruled_fault file object s

-- none for other sections than those of struct_ops
abbrev pub section_variables : List ℕ → Object → SectionOf → List StructOpsVariable
section_variables file object s = variables_where file object s (section_rule s)

abbrev pub section_fault : List ℕ → Object → SectionOf → Option StructOpsError
section_fault file object s = fault_where file object s (section_rule s)

-- ---- all

abbrev pub variables_in : List ℕ → Object → List SectionOf → List StructOpsVariable
variables_in file object all = flat_map (section_variables file object) all

abbrev pub variables_in_fault : List ℕ → Object → List SectionOf → Option StructOpsError
variables_in_fault file object all = first_some (section_fault file object) all

-- the variables of an object, by the bytes of its file
unfoldable pub struct_ops_variables : List ℕ → Object → List StructOpsVariable
struct_ops_variables file object = variables_in file object (sections file)

-- the fault of the file, or else of the first section that has one
unfoldable pub struct_ops_variables_fault : List ℕ → Object → Option StructOpsError
struct_ops_variables_fault file object =
    or_else (option_map ElfError (first_in (faults file)))
    (variables_in_fault file object (sections file))
