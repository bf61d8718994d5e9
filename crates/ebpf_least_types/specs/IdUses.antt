-- What in an object needs the ids of the kernel's own types: CO-RE records of kind
-- BPF_CORE_TYPE_ID_TARGET (the kernel's Documentation/bpf/llvm_reloc.rst), externs whose types are
-- compared, and attach targets in the kernel (libbpf 1.5, libbpf.c:
-- bpf_object__resolve_ksyms_btf_id, libbpf_find_attach_btf_id).
use Rattle.std.specs.Prelude.{ℕ, suc, Bool, List, [], ◌∷◌, ◌++◌, ◌==◌, Option, Some, None, codes}
use Rattle.std.specs.Prelude.{is_some, nat_eq, All, ◌≡◌, if◌then◌else◌}
use Rattle.std.specs.FinMap.{FinMap, entries}
use Rattle.std.specs.List.{find, flat_map, starts_with}
use Rattle.ebpf_base.specs.Maps.{text_cmp}
use Rattle.ebpf_btf.specs.TypeInfo.{TypeInfo, no_types}
use Rattle.ebpf_btf_ext.specs.declared.relocation.Relocation.{Relocation}
use Rattle.ebpf_elf.specs.declared.section.SectionIndex.{SectionIndex}
use Rattle.ebpf_least_types.specs.LeastTypes.{AskForNoId, asks_for_kernel_id, records_of}
use Rattle.ebpf_least_types.specs.declared.error.LeastTypesError.{LeastTypesError}
use Rattle.ebpf_least_types.specs.declared.error.LeastTypesError.TheVariants.{NeedsKernelId}
use Rattle.ebpf_least_types.specs.declared.id_uses.KernelIdUse.{KernelIdUse}
use Rattle.ebpf_least_types.specs.declared.id_uses.KernelIdUse.TheVariants.{Record, Extern, Target}
use Rattle.ebpf_load_info.specs.AttachTargets.{attach_target}
use Rattle.ebpf_load_info.specs.declared.attach.AttachTarget.{AttachTarget}
use Rattle.ebpf_load_info.specs.declared.attach.AttachTarget.TheVariants.{NotFound}
use Rattle.ebpf_model.specs.declared.function.Program.{Program}
use Rattle.ebpf_model.specs.declared.symbol.ExternDesc.{ExternDesc}
use Rattle.ebpf_object.specs.declared.object.Object.{Object}
use Rattle.ebpf_parts.specs.ProgramTypes.{without_mark}

-- ---- records

-- a record of the section whose name is at an offset
abbrev pub record_use : ℕ → Relocation → List KernelIdUse
record_use section r = if asks_for_kernel_id r then Record section r.number ∷ [] else []

-- those of a section
abbrev pub section_uses : ℕ × List Relocation → List KernelIdUse
section_uses section = flat_map (record_use section.0) section.1

abbrev pub record_uses : Object → List KernelIdUse
record_uses o = flat_map section_uses (records_of o)

-- ---- externs

-- an extern whose type is compared
abbrev pub extern_use : List ℕ × ExternDesc → List KernelIdUse
extern_use e = if e.1.is_typed then Extern e.0 ∷ [] else []

-- without type information there are none
abbrev pub extern_uses : Option TypeInfo → FinMap text_cmp ExternDesc → List KernelIdUse
extern_uses btf externs = if is_some btf then flat_map extern_use (entries externs) else []

-- ---- programs

-- the first name of the section with an index
abbrev pub section_name : FinMap text_cmp SectionIndex → ℕ → Option (List ℕ)
section_name infos index =
    elim (find (λ e. e.1.0 == index) (entries infos)) [ Some e ↦ Some e.0 | None ↦ None ]

-- A program of section `freplace` replaces one of another object, whose types have the target.
abbrev pub is_replacement : List ℕ → Bool
is_replacement section = starts_with nat_eq (without_mark section) (codes "freplace")

-- the name of the kernel's type that the programs of a section are attached to, as it is searched
-- where there are no types
abbrev pub name_of_missing : AttachTarget → Option (List ℕ)
name_of_missing (NotFound name) = Some name
name_of_missing _ = None

abbrev pub target_of : List ℕ → Option (List ℕ)
target_of section =
    if is_replacement section then None else name_of_missing (attach_target section no_types)

-- the target of a program by the name of its section
abbrev pub target_use : List ℕ → Option (List ℕ) → List KernelIdUse
target_use program None = []
target_use program (Some target) = Target program target ∷ []

abbrev pub target_in : Option (List ℕ) → Option (List ℕ)
target_in None = None
target_in (Some section) = target_of section

abbrev pub program_use : FinMap text_cmp SectionIndex → List ℕ × Program → List KernelIdUse
program_use infos p = target_use p.0 (target_in (section_name infos p.1.section_index))

abbrev pub program_uses : Object → List KernelIdUse
program_uses o = flat_map (program_use o.section_infos) (entries o.programs)

-- ---- all, and the first among objects

abbrev pub id_uses : Object → List KernelIdUse
id_uses o = record_uses o ++ extern_uses o.btf o.externs ++ program_uses o

-- the error of the first use of the objects from number n on
abbrev pub first_of_uses : ℕ → List KernelIdUse → Option LeastTypesError
    → Option LeastTypesError
first_of_uses n [] later = later
first_of_uses n (u ∷ us) later = Some (NeedsKernelId n u)

abbrev pub first_id_use_from : ℕ → List Object → Option LeastTypesError
first_id_use_from n [] = None
first_id_use_from n (o ∷ os) = first_of_uses n (id_uses o) (first_id_use_from (suc n) os)

abbrev pub first_id_use : List Object → Option LeastTypesError
first_id_use objects = first_id_use_from 0 objects

-- Where no object needs an id, no record of an object asks for one.
abbrev pub UsesAreAll : Type 0
UsesAreAll =
    (objects : List Object)
    → first_id_use objects ≡ None → All (λ o. AskForNoId (records_of o)) objects
