-- The attach targets of programs in a kernel, by the names of their sections.
use Rattle.std.specs.Prelude.{ℕ, Bool, List, codes, nat_eq, if◌then◌else◌}
use Rattle.std.specs.List.{starts_with}
use Rattle.ebpf_btf.specs.TypeInfo.{TypeInfo}
use Rattle.ebpf_load_info.specs.AttachTargets.{attach_target}
use Rattle.ebpf_load_info.specs.declared.attach.AttachTarget.{AttachTarget}
use Rattle.ebpf_load_info.specs.declared.attach.AttachTarget.TheVariants as attach
use Rattle.ebpf_parts.specs.ProgramTypes.{without_mark}
use Rattle.ebpf_verdict.specs.declared.targets.KernelTarget.{KernelTarget}
use Rattle.ebpf_verdict.specs.declared.targets.KernelTarget.TheVariants.{Found, NotFound, NotAsked}
use Rattle.ebpf_verdict.specs.declared.targets.KernelTarget.TheVariants.{Replaces}

-- whether the programs of a section replace those of another object, whose types are asked
abbrev pub replaces : List ℕ → Bool
replaces section = starts_with nat_eq (without_mark section) (codes "freplace")

unfoldable pub found_target : AttachTarget → KernelTarget
found_target (attach.Found id) = Found id
found_target (attach.NotFound name) = NotFound name
found_target attach.NotWanted = NotAsked
found_target attach.Unnamed = NotAsked

-- the target of the programs of a section, by the type that was looked up
abbrev pub target_by : List ℕ → AttachTarget → KernelTarget
target_by section found = if replaces section then Replaces else found_target found

unfoldable pub target_of : List ℕ → TypeInfo → KernelTarget
target_of section kernel = target_by section (attach_target section kernel)
