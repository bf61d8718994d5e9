-- The maps of struct_ops that `ebpf list` prints: those that the library reads of an object
-- (`struct_ops_variables`), or the reason why it can't read them. The reason is the library's too.
--
-- A worked example. A section `.struct_ops` of an object without types has a fault, `NoTypes`: the
-- list says so, and prints everything else.
use Rattle.std.specs.Prelude.{ℕ, List, [], Option, Some, None, Result, Ok, Err}
use Rattle.ebpf_object.specs.declared.object.Object.{Object}
use Rattle.ebpf_struct_ops.specs.ObjectVariables.{struct_ops_variables, struct_ops_variables_fault}
use Rattle.ebpf_struct_ops.specs.declared.error.StructOpsError.{StructOpsError}
use Rattle.ebpf_struct_ops.specs.declared.variable.StructOpsVariable.{StructOpsVariable}

abbrev pub maps_or_fault : List StructOpsVariable → Option StructOpsError
    → Result (List StructOpsVariable) StructOpsError
maps_or_fault maps None = Ok maps
maps_or_fault maps (Some fault) = Err fault

-- the maps of struct_ops of an object, by the bytes of its file, or the fault of these
abbrev pub declared_struct_ops : List ℕ → Object → Result (List StructOpsVariable) StructOpsError
declared_struct_ops file o =
    maps_or_fault (struct_ops_variables file o) (struct_ops_variables_fault file o)

-- the maps that can be read; none where there is a fault
abbrev pub maps_or_none : Result (List StructOpsVariable) StructOpsError → List StructOpsVariable
maps_or_none (Ok maps) = maps
maps_or_none (Err fault) = []
