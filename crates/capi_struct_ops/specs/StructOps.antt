-- The maps of struct_ops of an object as C reads them, and why they can't be made: 1200 to 1299.
use Rattle.std.specs.Prelude.{◌≡◌, ◌⊎◌, ⊤, ℕ, ◌+◌, List, [], ◌∷◌, length, Some, None, MatchBool}
use Rattle.std.specs.Prelude.{slice_get}
use Rattle.ebpf_btf.specs.TypeInfo.{TypeInfo}
use Rattle.ebpf_object.specs.declared.object.Object.{Object}
use Rattle.ebpf_struct_ops.specs.CreatedMaps.{struct_ops_maps, struct_ops_maps_fault}
use Rattle.ebpf_struct_ops.specs.KernelStructs.{is_struct_ops_memory}
use Rattle.ebpf_struct_ops.specs.declared.error.StructOpsError.{StructOpsError}
use Rattle.ebpf_struct_ops.specs.declared.error.StructOpsError.TheVariants as ops
use Rattle.ebpf_struct_ops.specs.declared.faults.MemberFault.{MemberFault}
use Rattle.ebpf_struct_ops.specs.declared.faults.MemberFault.TheVariants as member
use Rattle.ebpf_struct_ops.specs.declared.faults.RelocationFault.{RelocationFault}
use Rattle.ebpf_struct_ops.specs.declared.faults.RelocationFault.TheVariants as place
use Rattle.ebpf_struct_ops.specs.declared.faults.VariableFault.{VariableFault}
use Rattle.ebpf_struct_ops.specs.declared.faults.VariableFault.TheVariants as variable
use Rattle.ebpf_struct_ops.specs.declared.maps.StructOpsMap.{StructOpsMap}
use Rattle.ebpf_struct_ops.specs.declared.maps.StructOpsProgram.{StructOpsProgram}
use Rattle.capi_rows.specs.Answers.{Listed}
use Rattle.capi_rows.specs.FaultNumbers.{file_fault}
use Rattle.capi_rows.specs.Handles.{IsRefusal}
use Rattle.capi_rows.specs.Listings.{listed_by, zero_terminated}
use Rattle.capi_rows.specs.Refusals.{at_offset, at_section, flag, no_details, plain}
use Rattle.capi_rows.specs.Refusals.{refusal_with_details, refusal_with_name}
use Rattle.capi_rows.specs.declared.codes.TheConstants.{MEMORY, NO_MAP}
use Rattle.capi_rows.specs.declared.refusal.Refusal.{Refusal}
use Rattle.capi_struct_ops.specs.declared.rows.ebpf_struct_ops_map.{ebpf_struct_ops_map}
use Rattle.capi_struct_ops.specs.declared.rows.ebpf_struct_ops_program.{ebpf_struct_ops_program}

-- ---- numbers

abbrev pub variable_fault : VariableFault → ℕ
variable_fault variable.NotAVariable = 0
variable_fault variable.NotAStruct = 1
variable_fault variable.Anonymous = 2
variable_fault variable.NoSymbol = 3
variable_fault variable.OutsideSection = 4

abbrev pub relocation_fault : RelocationFault → ℕ
relocation_fault place.UnknownSymbol = 0
relocation_fault place.OutsideVariables = 1
relocation_fault place.NoMember = 2
relocation_fault place.NotAFunctionPointer = 3
relocation_fault place.UnknownProgram = 4
relocation_fault place.NotStructOps = 5

abbrev pub member_fault : MemberFault → ℕ
member_fault member.UnknownSize = 0
member_fault member.BitField = 1
member_fault member.OutsideStruct = 2
member_fault member.Missing = 3
member_fault member.DifferentKinds = 4
member_fault member.NotAProgram = 5
member_fault member.NotAFunctionPointer = 6
member_fault member.DifferentSizes = 7
member_fault member.OutsideValue = 8

-- about the kernel's struct that is missing, the map, the program, the variable or the member
abbrev pub struct_ops_refusal : StructOpsError → Refusal
struct_ops_refusal (ops.ElfError e) = plain (1200 + file_fault e)
struct_ops_refusal ops.NoTypes = plain 1220
struct_ops_refusal (ops.NoDatasec section) =
    refusal_with_details 1221 (at_section section no_details)
struct_ops_refusal (ops.NoKernelStruct map name) = refusal_with_name 1222 name
struct_ops_refusal (ops.NoDataMember map) = refusal_with_name 1223 map
struct_ops_refusal (ops.OtherUse map program) = refusal_with_name 1224 program
struct_ops_refusal (ops.Variable name fault) = refusal_with_name (1240 + variable_fault fault) name
struct_ops_refusal (ops.Relocation offset fault) =
    refusal_with_details (1260 + relocation_fault fault) (at_offset offset no_details)
struct_ops_refusal (ops.Member map name fault) = refusal_with_name (1280 + member_fault fault) name
struct_ops_refusal ops.OutOfMemory = plain MEMORY

-- ---- rows

abbrev pub struct_ops_map_row : StructOpsMap → ℕ → ebpf_struct_ops_map
struct_ops_map_row m name_at = record {
  name_at = name_at;
  name_len = length m.name;
  value_len = length m.value;
  programs = length m.programs;
  struct_id = m.struct_id;
  value_type_id = m.value_type_id;
  is_link = flag m.is_link;
}

abbrev pub struct_ops_program_row : StructOpsProgram → ℕ → ebpf_struct_ops_program
struct_ops_program_row p name_at = record {
  name_at = name_at;
  name_len = length p.program;
  offset = p.offset;
  member = p.member;
}

-- maps in their order
abbrev pub struct_ops_map_list : List StructOpsMap → Listed ebpf_struct_ops_map
struct_ops_map_list maps =
    listed_by (λ m at. struct_ops_map_row m at ∷ []) (λ m. zero_terminated m.name) maps

-- the programs of a map, in the order of the members of its struct
abbrev pub struct_ops_program_list : StructOpsMap → Listed ebpf_struct_ops_program
struct_ops_program_list map =
    listed_by (λ p at. struct_ops_program_row p at ∷ []) (λ p. zero_terminated p.program)
    map.programs

-- ---- what is found by the bytes of a file and a kernel's types, and why not

-- the maps of an object that are made
pub record AreStructOpsMaps (file : List ℕ) (kernel : TypeInfo) (o : Object)
    (maps : List StructOpsMap)
    : Type 0 where
  pub sound : struct_ops_maps_fault file o kernel ≡ None
  pub are : maps ≡ struct_ops_maps file o kernel

abbrev pub CannotMakeStructOps : List ℕ → TypeInfo → Object → Refusal → Type 0
CannotMakeStructOps file kernel o =
    IsRefusal
    (λ e. MatchBool (is_struct_ops_memory e) ⊤ (struct_ops_maps_fault file o kernel ≡ Some e))
    struct_ops_refusal

-- their list
pub record IsStructOpsList (file : List ℕ) (kernel : TypeInfo) (o : Object)
    (listed : Listed ebpf_struct_ops_map)
    : Type 0 where
  pub sound : struct_ops_maps_fault file o kernel ≡ None
  pub is : listed ≡ struct_ops_map_list (struct_ops_maps file o kernel)

-- a part of the map with an index
pub record IsOfStructOpsMap {X : Type 0} (part : StructOpsMap → X) (file : List ℕ) (index : ℕ)
    (kernel : TypeInfo) (o : Object) (found : X)
    : Type 0 where
  pub sound : struct_ops_maps_fault file o kernel ≡ None
  pub map : StructOpsMap
  pub there : slice_get (struct_ops_maps file o kernel) index ≡ Some map
  pub is : found ≡ part map

-- no map has the index
pub record LacksStructOpsMap (file : List ℕ) (index : ℕ) (kernel : TypeInfo) (o : Object)
    (r : Refusal)
    : Type 0 where
  pub sound : struct_ops_maps_fault file o kernel ≡ None
  pub absent : slice_get (struct_ops_maps file o kernel) index ≡ None
  pub is : r ≡ plain NO_MAP

-- the maps can't be made, or none has the index; or out of memory
abbrev pub CannotFindStructOps : List ℕ → ℕ → TypeInfo → Object → Refusal → Type 0
CannotFindStructOps file index kernel o r =
    CannotMakeStructOps file kernel o r ⊎ LacksStructOpsMap file index kernel o r

-- the bytes of a map's value
abbrev pub struct_ops_value : StructOpsMap → List ℕ
struct_ops_value map = map.value
