-- The maps of struct_ops that a loader creates without being asked (libbpf 1.7, libbpf.c:
-- bpf_object__init_kern_struct_ops_maps).
use Rattle.std.specs.Prelude.{ℕ, List, [], Option, None, if◌then◌else◌}
use Rattle.std.specs.List.{flat_map}
use Rattle.std.specs.Option.{option_to_list}
use Rattle.ebpf_base.specs.Faults.{first_some, or_else}
use Rattle.ebpf_btf.specs.TypeInfo.{TypeInfo}
use Rattle.ebpf_object.specs.declared.object.Object.{Object}
use Rattle.ebpf_struct_ops.specs.ObjectVariables.{struct_ops_variables, struct_ops_variables_fault}
use Rattle.ebpf_struct_ops.specs.StructOpsMaps.{struct_ops_map, struct_ops_map_fault}
use Rattle.ebpf_struct_ops.specs.Uses.{uses_fault}
use Rattle.ebpf_struct_ops.specs.declared.error.StructOpsError.{StructOpsError}
use Rattle.ebpf_struct_ops.specs.declared.maps.StructOpsMap.{StructOpsMap}
use Rattle.ebpf_struct_ops.specs.declared.variable.StructOpsVariable.{StructOpsVariable}

abbrev pub created_map : TypeInfo → StructOpsVariable → List StructOpsMap
created_map kernel v = if v.is_created then option_to_list (struct_ops_map v kernel) else []

abbrev pub created_map_fault : TypeInfo → StructOpsVariable → Option StructOpsError
created_map_fault kernel v = if v.is_created then struct_ops_map_fault v kernel else None

abbrev pub created_maps : TypeInfo → List StructOpsVariable → List StructOpsMap
created_maps kernel variables = flat_map (created_map kernel) variables

abbrev pub created_fault : TypeInfo → List StructOpsVariable → Option StructOpsError
created_fault kernel variables = first_some (created_map_fault kernel) variables

-- the maps of an object, by the bytes of its file and the types of a kernel
unfoldable pub struct_ops_maps : List ℕ → Object → TypeInfo → List StructOpsMap
struct_ops_maps file object kernel = created_maps kernel (struct_ops_variables file object)

-- the fault of the variables, of the first map that has one, or of the uses of a program
unfoldable pub struct_ops_maps_fault : List ℕ → Object → TypeInfo → Option StructOpsError
struct_ops_maps_fault file object kernel =
    or_else (struct_ops_variables_fault file object)
    (or_else (created_fault kernel (struct_ops_variables file object))
    (uses_fault (struct_ops_maps file object kernel)))
