-- The maps of struct_ops as a kernel takes them (libbpf 1.7, libbpf.c:
-- bpf_map__init_kern_struct_ops, bpf_map_prepare_vdata): the value of each, and the programs whose
-- descriptors it holds.
use Rattle.std.specs.Prelude.{ℕ, List, [], ◌∷◌, Option, Some, None, option_map, Result, Ok, Err}
use Rattle.std.specs.List.{flat_map}
use Rattle.std.specs.Option.{option_and_then, option_to_list}
use Rattle.std.specs.Result.{result_ok}
use Rattle.ebpf_base.specs.Faults.{fault_of, first_some, or_else}
use Rattle.ebpf_btf.specs.TypeInfo.{TypeInfo}
use Rattle.ebpf_btf.specs.declared.types.BtfType.{BtfType}
use Rattle.ebpf_struct_ops.specs.KernelStructs.{kernel_struct}
use Rattle.ebpf_struct_ops.specs.Placements.{placement_of}
use Rattle.ebpf_struct_ops.specs.TypeFacts.{type_behind}
use Rattle.ebpf_struct_ops.specs.Values.{value_bytes}
use Rattle.ebpf_struct_ops.specs.declared.error.StructOpsError.{StructOpsError}
use Rattle.ebpf_struct_ops.specs.declared.error.StructOpsError.TheVariants.{Member}
use Rattle.ebpf_struct_ops.specs.declared.faults.MemberFault.{MemberFault}
use Rattle.ebpf_struct_ops.specs.declared.kernel.KernelStruct.{KernelStruct}
use Rattle.ebpf_struct_ops.specs.declared.maps.StructOpsMap.{StructOpsMap}
use Rattle.ebpf_struct_ops.specs.declared.maps.StructOpsProgram.{StructOpsProgram}
use Rattle.ebpf_struct_ops.specs.declared.placement.Placement.{Placement}
use Rattle.ebpf_struct_ops.specs.declared.placement.Placement.TheVariants.{Program}
use Rattle.ebpf_struct_ops.specs.declared.variable.StructOpsMember.{StructOpsMember}
use Rattle.ebpf_struct_ops.specs.declared.variable.StructOpsVariable.{StructOpsVariable}

-- ---- members

abbrev pub member_error : List ℕ → List ℕ → MemberFault → StructOpsError
member_error map member fault = Member map member fault

abbrev pub named_fault : List ℕ → List ℕ → Result Placement MemberFault
    → Result Placement StructOpsError
named_fault map member (Ok p) = Ok p
named_fault map member (Err fault) = Err (member_error map member fault)

-- the placement of a member of a variable
abbrev pub member_placement : StructOpsVariable → TypeInfo → BtfType → KernelStruct
    → StructOpsMember
    → Result Placement StructOpsError
member_placement v kernel t into m =
    named_fault v.name m.name (placement_of v.bytes kernel t into m)

-- the program whose descriptor a member puts into the value
abbrev pub program_at : StructOpsMember → Placement → Option StructOpsProgram
program_at m (Program index to) =
    option_map (λ name. record { program = name; member = index; offset = to }) m.program
program_at m _ = None

abbrev pub placements : StructOpsVariable → TypeInfo → BtfType → KernelStruct
    → List StructOpsMember
    → List Placement
placements v kernel t into members =
    flat_map (λ m. option_to_list (result_ok (member_placement v kernel t into m))) members

abbrev pub programs : StructOpsVariable → TypeInfo → BtfType → KernelStruct
    → List StructOpsMember
    → List StructOpsProgram
programs v kernel t into members =
    flat_map
    (λ m.
    option_to_list
    (option_and_then (program_at m) (result_ok (member_placement v kernel t into m)))) members

-- the fault of the first member that has one
abbrev pub members_fault : StructOpsVariable → TypeInfo → BtfType → KernelStruct
    → List StructOpsMember
    → Option StructOpsError
members_fault v kernel t into members =
    first_some (λ m. fault_of (member_placement v kernel t into m)) members

-- ---- one map

abbrev pub map_in : StructOpsVariable → TypeInfo → BtfType → KernelStruct → StructOpsMap
map_in v kernel t into = record {
  name = v.name;
  is_link = v.is_link;
  struct_id = into.struct_id;
  value_type_id = into.value_type_id;
  value = value_bytes v.bytes (placements v kernel t into v.members) into.value_size;
  programs = programs v kernel t into v.members;
}

-- the map of a variable, by the kernel's struct
abbrev pub map_of : StructOpsVariable → TypeInfo → KernelStruct → StructOpsMap
map_of v kernel into = map_in v kernel (type_behind kernel into.struct_id) into

abbrev pub map_of_fault : StructOpsVariable → TypeInfo → KernelStruct → Option StructOpsError
map_of_fault v kernel into =
    members_fault v kernel (type_behind kernel into.struct_id) into v.members

-- the map of a variable
unfoldable pub struct_ops_map : StructOpsVariable → TypeInfo → Option StructOpsMap
struct_ops_map v kernel =
    option_map (map_of v kernel) (result_ok (kernel_struct kernel v.name v.type_name))

abbrev pub then_fault : StructOpsVariable → TypeInfo → Result KernelStruct StructOpsError
    → Option StructOpsError
then_fault v kernel (Ok into) = map_of_fault v kernel into
then_fault v kernel (Err e) = Some e

-- its fault: that of the kernel's struct, or else of the first member that has one
unfoldable pub struct_ops_map_fault : StructOpsVariable → TypeInfo → Option StructOpsError
struct_ops_map_fault v kernel = then_fault v kernel (kernel_struct kernel v.name v.type_name)
