-- The uses of one program by several maps of struct_ops: all are for one struct of the kernel and
-- one of its members, since a program is loaded with one attach_btf_id and one
-- expected_attach_type (libbpf 1.7, libbpf.c: bpf_map__init_kern_struct_ops, "invalid reuse").
use Rattle.std.specs.Prelude.{ℕ, ◌==◌, ◌&&◌, Bool, true, not, List, Option, Some, None, option_map}
use Rattle.std.specs.List.{find}
use Rattle.std.specs.Str.{bytes_eq}
use Rattle.ebpf_base.specs.Faults.{first_some}
use Rattle.ebpf_struct_ops.specs.declared.error.StructOpsError.{StructOpsError}
use Rattle.ebpf_struct_ops.specs.declared.error.StructOpsError.TheVariants.{OtherUse}
use Rattle.ebpf_struct_ops.specs.declared.maps.StructOpsMap.{StructOpsMap}
use Rattle.ebpf_struct_ops.specs.declared.maps.StructOpsProgram.{StructOpsProgram}

abbrev pub is_program : List ℕ → StructOpsProgram → Bool
is_program name p = bytes_eq p.program name

-- the first use of a program by a map: the id of the kernel's struct, and the index of the member
abbrev pub use_in : List ℕ → ℕ → List StructOpsProgram → Option (ℕ × ℕ)
use_in name id programs =
    option_map (λ (p : StructOpsProgram). (id, p.member)) (find (is_program name) programs)

abbrev pub first_use : List StructOpsMap → List ℕ → Option (ℕ × ℕ)
first_use maps name = first_some (λ m. use_in name m.struct_id m.programs) maps

abbrev pub agrees : Option (ℕ × ℕ) → ℕ → ℕ → Bool
agrees None id member = true
agrees (Some first) id member = first.0 == id && first.1 == member

abbrev pub uses_otherwise : List StructOpsMap → ℕ → StructOpsProgram → Bool
uses_otherwise maps id p = not (agrees (first_use maps p.program) id p.member)

-- the first program that a map uses otherwise than its first use
abbrev pub other_use : List StructOpsMap → ℕ → List StructOpsProgram → Option StructOpsProgram
other_use maps id programs = find (uses_otherwise maps id) programs

abbrev pub map_fault : List StructOpsMap → StructOpsMap → Option StructOpsError
map_fault maps m =
    option_map (λ (p : StructOpsProgram). OtherUse m.name p.program)
    (other_use maps m.struct_id m.programs)

abbrev pub uses_fault : List StructOpsMap → Option StructOpsError
uses_fault maps = first_some (map_fault maps) maps
