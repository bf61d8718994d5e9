-- How programs are loaded, as numbers: by the names of their sections, and where those are no names
-- that loaders know, by the kinds that files say.
use Rattle.std.specs.Prelude.{ℕ, ◌+◌, ◌*◌, Some, None, if◌then◌else◌, Bool, false, Option}
use Rattle.std.specs.Prelude.{unwrap_or, option_map}
use Rattle.ebpf_parts.specs.ProgramTypes.{attach_type_number, cgroup_skb_attach_type}
use Rattle.ebpf_parts.specs.ProgramTypes.{cgroup_sock_attach_type, cgroup_sock_addr_attach_type}
use Rattle.ebpf_parts.specs.ProgramTypes.{cgroup_sockopt_attach_type, sk_reuseport_attach_type}
use Rattle.ebpf_parts.specs.ProgramTypes.{sk_skb_attach_type, xdp_attach_type, program_type_number}
use Rattle.ebpf_parts.specs.ProgramTypes.{section_type}
use Rattle.ebpf_parts.specs.declared.program_section.ProgramSection.{ProgramSection}
use Rattle.ebpf_parts.specs.declared.program_section.ProgramSection.TheVariants.{KRetProbe, KProbe}
use Rattle.ebpf_parts.specs.declared.program_section.ProgramSection.TheVariants.{UProbe, URetProbe}
use Rattle.ebpf_parts.specs.declared.program_section.ProgramSection.TheVariants.{TracePoint}
use Rattle.ebpf_parts.specs.declared.program_section.ProgramSection.TheVariants.{SocketFilter, Xdp}
use Rattle.ebpf_parts.specs.declared.program_section.ProgramSection.TheVariants.{SkMsg, SkSkbStream}
use Rattle.ebpf_parts.specs.declared.program_section.ProgramSection.TheVariants.{SockOps}
use Rattle.ebpf_parts.specs.declared.program_section.ProgramSection.TheVariants.{SchedClassifier}
use Rattle.ebpf_parts.specs.declared.program_section.ProgramSection.TheVariants.{CgroupSkb}
use Rattle.ebpf_parts.specs.declared.program_section.ProgramSection.TheVariants.{CgroupSockAddr}
use Rattle.ebpf_parts.specs.declared.program_section.ProgramSection.TheVariants.{CgroupSysctl}
use Rattle.ebpf_parts.specs.declared.program_section.ProgramSection.TheVariants.{CgroupSockopt}
use Rattle.ebpf_parts.specs.declared.program_section.ProgramSection.TheVariants.{LircMode2}
use Rattle.ebpf_parts.specs.declared.program_section.ProgramSection.TheVariants.{PerfEvent}
use Rattle.ebpf_parts.specs.declared.program_section.ProgramSection.TheVariants.{RawTracePoint, Lsm}
use Rattle.ebpf_parts.specs.declared.program_section.ProgramSection.TheVariants.{LsmCgroup}
use Rattle.ebpf_parts.specs.declared.program_section.ProgramSection.TheVariants.{BtfTracePoint}
use Rattle.ebpf_parts.specs.declared.program_section.ProgramSection.TheVariants.{FEntry, FExit}
use Rattle.ebpf_parts.specs.declared.program_section.ProgramSection.TheVariants.{FlowDissector}
use Rattle.ebpf_parts.specs.declared.program_section.ProgramSection.TheVariants.{Extension}
use Rattle.ebpf_parts.specs.declared.program_section.ProgramSection.TheVariants.{SkLookup}
use Rattle.ebpf_parts.specs.declared.program_section.ProgramSection.TheVariants.{SkReuseport}
use Rattle.ebpf_parts.specs.declared.program_section.ProgramSection.TheVariants.{CgroupSock}
use Rattle.ebpf_parts.specs.declared.program_section.ProgramSection.TheVariants.{CgroupDevice, Iter}
use Rattle.ebpf_parts.specs.declared.program_section.ProgramSection.TheVariants.{Other}
use Rattle.ebpf_parts.specs.declared.programs.kind.ProgramKind.{ProgramKind}
use Rattle.capi_rows.specs.Refusals.{flag}
use Rattle.capi_rows.specs.declared.loading.TheConstants.{NO_ATTACH_TYPE}
use Rattle.capi_rows.specs.declared.loading.Loading.{Loading}

-- the kinds in the order in which the library has them
abbrev pub program_kind_number : ProgramSection → ℕ
program_kind_number KRetProbe = 0
program_kind_number KProbe = 1
program_kind_number (UProbe _ _) = 2
program_kind_number (URetProbe _ _) = 3
program_kind_number TracePoint = 4
program_kind_number SocketFilter = 5
program_kind_number (Xdp _ _) = 6
program_kind_number SkMsg = 7
program_kind_number (SkSkbStream _) = 8
program_kind_number SockOps = 9
program_kind_number SchedClassifier = 10
program_kind_number (CgroupSkb _) = 11
program_kind_number (CgroupSockAddr _) = 12
program_kind_number CgroupSysctl = 13
program_kind_number (CgroupSockopt _) = 14
program_kind_number LircMode2 = 15
program_kind_number PerfEvent = 16
program_kind_number RawTracePoint = 17
program_kind_number (Lsm _) = 18
program_kind_number LsmCgroup = 19
program_kind_number BtfTracePoint = 20
program_kind_number (FEntry _) = 21
program_kind_number (FExit _) = 22
program_kind_number FlowDissector = 23
program_kind_number Extension = 24
program_kind_number SkLookup = 25
program_kind_number (SkReuseport _) = 26
program_kind_number (CgroupSock _) = 27
program_kind_number CgroupDevice = 28
program_kind_number (Iter _) = 29
program_kind_number Other = 30

-- the type that the kernel loads such a program as (its include/uapi/linux/bpf.h, enum
-- bpf_prog_type, by libbpf's table of section names)
abbrev pub program_type : ProgramSection → ℕ
program_type section = unwrap_or (option_map program_type_number (section_type section)) 0

-- how the kernel attaches it (enum bpf_attach_type, by the same table)
abbrev pub attach_type : ProgramSection → ℕ
attach_type (UProbe _ multi) = if multi then 48 else NO_ATTACH_TYPE
attach_type (URetProbe _ multi) = if multi then 48 else NO_ATTACH_TYPE
attach_type (Xdp _ way) = attach_type_number (xdp_attach_type way)
attach_type SkMsg = 7
attach_type (SkSkbStream way) = attach_type_number (sk_skb_attach_type way)
attach_type SockOps = 3
attach_type (CgroupSkb (Some way)) = attach_type_number (cgroup_skb_attach_type way)
attach_type (CgroupSockAddr way) = attach_type_number (cgroup_sock_addr_attach_type way)
attach_type CgroupSysctl = 18
attach_type (CgroupSockopt way) = attach_type_number (cgroup_sockopt_attach_type way)
attach_type LircMode2 = 16
attach_type (Lsm _) = 27
attach_type LsmCgroup = 43
attach_type BtfTracePoint = 23
attach_type (FEntry _) = 24
attach_type (FExit _) = 25
attach_type FlowDissector = 17
attach_type SkLookup = 36
attach_type (SkReuseport way) = attach_type_number (sk_reuseport_attach_type way)
attach_type (CgroupSock way) = attach_type_number (cgroup_sock_attach_type way)
attach_type CgroupDevice = 6
attach_type (Iter _) = 28
attach_type _ = NO_ATTACH_TYPE

-- sleepable 1, multi 2, frags 4, added up
abbrev pub kind_flags : ProgramSection → ℕ
kind_flags (UProbe sleepable multi) = flag sleepable + 2 * flag multi
kind_flags (URetProbe sleepable multi) = flag sleepable + 2 * flag multi
kind_flags (Xdp frags _) = 4 * flag frags
kind_flags (Lsm sleepable) = flag sleepable
kind_flags (FEntry sleepable) = flag sleepable
kind_flags (FExit sleepable) = flag sleepable
kind_flags (Iter sleepable) = flag sleepable
kind_flags _ = 0

-- ---- by names

-- a kind of several probes
abbrev pub is_multi : ProgramSection → Bool
is_multi (UProbe _ multi) = multi
is_multi (URetProbe _ multi) = multi
is_multi _ = false

-- sleepable 1, multi 2, frags 4, target 8, optional 16, added up
abbrev pub loaded_flags : ProgramKind → ProgramSection → ℕ
loaded_flags kind section =
    flag kind.is_sleepable
    + 2 * flag (is_multi section)
    + 4 * flag kind.has_frags
    + 8 * flag kind.wants_target_type
    + 16 * flag kind.is_optional

-- of a name that loaders know, else as the file's kind says
abbrev pub loaded_as : Option ProgramKind → ProgramSection → Loading
loaded_as (Some kind) section = record {
  flags = loaded_flags kind section;
  program_type = program_type_number kind.program_type;
  attach_type = unwrap_or kind.attach_type NO_ATTACH_TYPE;
}
loaded_as None section = record {
  flags = kind_flags section;
  program_type = program_type section;
  attach_type = attach_type section;
}
