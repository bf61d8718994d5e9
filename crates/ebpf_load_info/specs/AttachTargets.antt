-- The type to which the programs of a section are attached, by the section's name (libbpf 1.5,
-- libbpf.c: libbpf_prepare_prog_load, find_kernel_btf_id, find_attach_btf_id,
-- btf_get_kernel_prefix_kind).
use Rattle.std.specs.Prelude.{ℕ, ◌==◌, List, [], ◌∷◌, ◌++◌, codes, Option, Some, None, unwrap_or}
use Rattle.std.specs.Prelude.{◌≡◌, Bool, false, is_some}
use Rattle.std.specs.List.{after_first}
use Rattle.std.specs.Option.{option_map_or}
use Rattle.ebpf_btf.specs.Strings.{id_of_name}
use Rattle.ebpf_btf.specs.TypeInfo.{TypeInfo}
use Rattle.ebpf_btf.specs.declared.kind.BtfKind.{BtfKind}
use Rattle.ebpf_btf.specs.declared.kind.BtfKind.TheVariants as kinds
use Rattle.ebpf_load_info.specs.KernelNumbers.{without_prefix}
use Rattle.ebpf_load_info.specs.declared.attach.AttachTarget.{AttachTarget}
use Rattle.ebpf_load_info.specs.declared.attach.AttachTarget.TheVariants.{NotWanted, Unnamed, Found}
use Rattle.ebpf_load_info.specs.declared.attach.AttachTarget.TheVariants.{NotFound}
use Rattle.ebpf_load_info.specs.declared.attach.TargetKind.{TargetKind}
use Rattle.ebpf_load_info.specs.declared.attach.TargetKind.TheVariants.{TracePoint, SecurityHook}
use Rattle.ebpf_load_info.specs.declared.attach.TargetKind.TheVariants.{Iterator, Function}
use Rattle.ebpf_parts.specs.ProgramTypes.{without_mark, first_piece, lookup_piece, program_kind}
use Rattle.ebpf_parts.specs.declared.programs.kind.ProgramKind.{ProgramKind}

-- what the programs of a section are attached to, by the first piece of the section's name
unfoldable pub targets : List (List ℕ × TargetKind)
targets =
    (codes "tp_btf", TracePoint)
    ∷ (codes "lsm", SecurityHook)
    ∷ (codes "lsm.s", SecurityHook)
    ∷ (codes "lsm_cgroup", SecurityHook)
    ∷ (codes "iter", Iterator)
    ∷ (codes "iter.s", Iterator)
    ∷ (codes "fentry", Function)
    ∷ (codes "fentry.s", Function)
    ∷ (codes "fexit", Function)
    ∷ (codes "fexit.s", Function)
    ∷ (codes "fmod_ret", Function)
    ∷ (codes "fmod_ret.s", Function)
    ∷ (codes "freplace", Function)
    ∷ []

-- the prefix of a target's name in the name of its type
unfoldable pub prefix_of : TargetKind → List ℕ
prefix_of TracePoint = codes "btf_trace_"
prefix_of SecurityHook = codes "bpf_lsm_"
prefix_of Iterator = codes "bpf_iter_"
prefix_of Function = []

-- the kind of that type
unfoldable pub kind_of_target : TargetKind → BtfKind
kind_of_target TracePoint = kinds.Typedef
kind_of_target SecurityHook = kinds.Func
kind_of_target Iterator = kinds.Func
kind_of_target Function = kinds.Func

-- ---- the name of a section, a mark `?` before it aside

-- what the programs of a section are attached to, where they are loaded with the id of a type
abbrev pub wanted : List ℕ → Option TargetKind
wanted section = lookup_piece targets (first_piece (without_mark section))

-- the kernel itself may be named before what is in it
abbrev pub kernel_mark : List ℕ
kernel_mark = codes "vmlinux:"

abbrev pub in_kernel : List ℕ → List ℕ
in_kernel name = unwrap_or (without_prefix kernel_mark name) name

-- the name of the target: what follows the first slash
abbrev pub target_name : List ℕ → List ℕ
target_name section = in_kernel (after_first (λ b. b == 47) (without_mark section))

-- ---- its type

-- the first type of a name and a kind
abbrev pub found_as : List ℕ → Option ℕ → AttachTarget
found_as name (Some id) = Found id
found_as name None = NotFound name

abbrev pub type_named : List ℕ → BtfKind → TypeInfo → AttachTarget
type_named name kind types = found_as name (id_of_name types name kind)

-- a target without a name is none
abbrev pub target_in : TypeInfo → TargetKind → List ℕ → AttachTarget
target_in types target [] = Unnamed
target_in types target (b ∷ name) =
    type_named (prefix_of target ++ b ∷ name) (kind_of_target target) types

abbrev pub target_or_none : TypeInfo → Option TargetKind → List ℕ → AttachTarget
target_or_none types None name = NotWanted
target_or_none types (Some target) name = target_in types target name

-- the target of the programs of a section of this name
unfoldable pub attach_target : List ℕ → TypeInfo → AttachTarget
attach_target section types = target_or_none types (wanted section) (target_name section)

-- ---- the sections whose programs have targets are those of which the table of program kinds says
-- so

-- whether a loader wants the id of a type for the programs of a section
abbrev pub wants_type : List ℕ → Bool
wants_type section =
    option_map_or (λ (kind : ProgramKind). kind.wants_target_type) (program_kind section) false

abbrev pub WantedAsKinds : Type 0
WantedAsKinds = (section : List ℕ) → is_some (wanted section) ≡ wants_type section
