-- The kind of a program by the name of its section (libbpf's section names, as aya-obj takes them).
-- A name is split at each slash. Its first piece says the kind, in some rows with its second;
-- further pieces say nothing.
use Rattle.std.specs.Prelude.{ℕ, Bool, true, false, List, [], ◌∷◌, Option, Some, None, ◌==◌}
use Rattle.std.specs.Prelude.{option_map, codes, ◌≡◌, ◌&&◌, ◌||◌, nat_eq, nat_le, length, take}
use Rattle.std.specs.Prelude.{drop, filter, slice_index, if◌then◌else◌, ◌≢◌, unwrap_or}
use Rattle.std.specs.List.{before_first, after_first, position, fold, starts_with}
use Rattle.std.specs.Map.{lookup}
use Rattle.std.specs.Option.{option_flatten}
use Rattle.std.specs.Str.{bytes_eq}
use Rattle.ebpf_base.specs.Faults.{or_else}
use Rattle.ebpf_parts.specs.declared.error.ParseError.{ParseError}
use Rattle.ebpf_parts.specs.declared.error.ParseError.TheVariants.{InvalidProgramSection}
use Rattle.ebpf_parts.specs.declared.program_section.ProgramSection.{ProgramSection}
use Rattle.ebpf_parts.specs.declared.program_section.ProgramSection.TheVariants.{KRetProbe, KProbe}
use Rattle.ebpf_parts.specs.declared.program_section.ProgramSection.TheVariants.{UProbe, URetProbe}
use Rattle.ebpf_parts.specs.declared.program_section.ProgramSection.TheVariants.{TracePoint}
use Rattle.ebpf_parts.specs.declared.program_section.ProgramSection.TheVariants.{SocketFilter, Xdp}
use Rattle.ebpf_parts.specs.declared.program_section.ProgramSection.TheVariants.{SkMsg, SkSkbStream}
use Rattle.ebpf_parts.specs.declared.program_section.ProgramSection.TheVariants.{SockOps}
use Rattle.ebpf_parts.specs.declared.program_section.ProgramSection.TheVariants.{SchedClassifier}
use Rattle.ebpf_parts.specs.declared.program_section.ProgramSection.TheVariants.{CgroupSkb}
use Rattle.ebpf_parts.specs.declared.program_section.ProgramSection.TheVariants.{CgroupSockAddr}
use Rattle.ebpf_parts.specs.declared.program_section.ProgramSection.TheVariants.{CgroupSysctl}
use Rattle.ebpf_parts.specs.declared.program_section.ProgramSection.TheVariants.{CgroupSockopt}
use Rattle.ebpf_parts.specs.declared.program_section.ProgramSection.TheVariants.{LircMode2}
use Rattle.ebpf_parts.specs.declared.program_section.ProgramSection.TheVariants.{PerfEvent}
use Rattle.ebpf_parts.specs.declared.program_section.ProgramSection.TheVariants.{RawTracePoint, Lsm}
use Rattle.ebpf_parts.specs.declared.program_section.ProgramSection.TheVariants.{LsmCgroup}
use Rattle.ebpf_parts.specs.declared.program_section.ProgramSection.TheVariants.{BtfTracePoint}
use Rattle.ebpf_parts.specs.declared.program_section.ProgramSection.TheVariants.{FEntry, FExit}
use Rattle.ebpf_parts.specs.declared.program_section.ProgramSection.TheVariants.{FlowDissector}
use Rattle.ebpf_parts.specs.declared.program_section.ProgramSection.TheVariants.{Extension}
use Rattle.ebpf_parts.specs.declared.program_section.ProgramSection.TheVariants.{SkLookup}
use Rattle.ebpf_parts.specs.declared.program_section.ProgramSection.TheVariants.{SkReuseport}
use Rattle.ebpf_parts.specs.declared.program_section.ProgramSection.TheVariants.{CgroupSock}
use Rattle.ebpf_parts.specs.declared.program_section.ProgramSection.TheVariants.{CgroupDevice, Iter}
use Rattle.ebpf_parts.specs.declared.program_section.ProgramSection.TheVariants.{Other}
use Rattle.ebpf_parts.specs.declared.programs.attach_type.bpf_attach_type.{bpf_attach_type}
use Rattle.ebpf_parts.specs.declared.programs.attach_type.bpf_attach_type.TheVariants.{BPF_CGROUP_INET_INGRESS}
use Rattle.ebpf_parts.specs.declared.programs.attach_type.bpf_attach_type.TheVariants.{BPF_CGROUP_INET_EGRESS}
use Rattle.ebpf_parts.specs.declared.programs.attach_type.bpf_attach_type.TheVariants.{BPF_CGROUP_INET_SOCK_CREATE}
use Rattle.ebpf_parts.specs.declared.programs.attach_type.bpf_attach_type.TheVariants.{BPF_CGROUP_SOCK_OPS}
use Rattle.ebpf_parts.specs.declared.programs.attach_type.bpf_attach_type.TheVariants.{BPF_SK_SKB_STREAM_PARSER}
use Rattle.ebpf_parts.specs.declared.programs.attach_type.bpf_attach_type.TheVariants.{BPF_SK_SKB_STREAM_VERDICT}
use Rattle.ebpf_parts.specs.declared.programs.attach_type.bpf_attach_type.TheVariants.{BPF_CGROUP_DEVICE}
use Rattle.ebpf_parts.specs.declared.programs.attach_type.bpf_attach_type.TheVariants.{BPF_SK_MSG_VERDICT}
use Rattle.ebpf_parts.specs.declared.programs.attach_type.bpf_attach_type.TheVariants.{BPF_CGROUP_INET4_BIND}
use Rattle.ebpf_parts.specs.declared.programs.attach_type.bpf_attach_type.TheVariants.{BPF_CGROUP_INET6_BIND}
use Rattle.ebpf_parts.specs.declared.programs.attach_type.bpf_attach_type.TheVariants.{BPF_CGROUP_INET4_CONNECT}
use Rattle.ebpf_parts.specs.declared.programs.attach_type.bpf_attach_type.TheVariants.{BPF_CGROUP_INET6_CONNECT}
use Rattle.ebpf_parts.specs.declared.programs.attach_type.bpf_attach_type.TheVariants.{BPF_CGROUP_INET4_POST_BIND}
use Rattle.ebpf_parts.specs.declared.programs.attach_type.bpf_attach_type.TheVariants.{BPF_CGROUP_INET6_POST_BIND}
use Rattle.ebpf_parts.specs.declared.programs.attach_type.bpf_attach_type.TheVariants.{BPF_CGROUP_UDP4_SENDMSG}
use Rattle.ebpf_parts.specs.declared.programs.attach_type.bpf_attach_type.TheVariants.{BPF_CGROUP_UDP6_SENDMSG}
use Rattle.ebpf_parts.specs.declared.programs.attach_type.bpf_attach_type.TheVariants.{BPF_LIRC_MODE2}
use Rattle.ebpf_parts.specs.declared.programs.attach_type.bpf_attach_type.TheVariants.{BPF_FLOW_DISSECTOR}
use Rattle.ebpf_parts.specs.declared.programs.attach_type.bpf_attach_type.TheVariants.{BPF_CGROUP_SYSCTL}
use Rattle.ebpf_parts.specs.declared.programs.attach_type.bpf_attach_type.TheVariants.{BPF_CGROUP_UDP4_RECVMSG}
use Rattle.ebpf_parts.specs.declared.programs.attach_type.bpf_attach_type.TheVariants.{BPF_CGROUP_UDP6_RECVMSG}
use Rattle.ebpf_parts.specs.declared.programs.attach_type.bpf_attach_type.TheVariants.{BPF_CGROUP_GETSOCKOPT}
use Rattle.ebpf_parts.specs.declared.programs.attach_type.bpf_attach_type.TheVariants.{BPF_CGROUP_SETSOCKOPT}
use Rattle.ebpf_parts.specs.declared.programs.attach_type.bpf_attach_type.TheVariants.{BPF_TRACE_RAW_TP}
use Rattle.ebpf_parts.specs.declared.programs.attach_type.bpf_attach_type.TheVariants.{BPF_TRACE_FENTRY}
use Rattle.ebpf_parts.specs.declared.programs.attach_type.bpf_attach_type.TheVariants.{BPF_TRACE_FEXIT}
use Rattle.ebpf_parts.specs.declared.programs.attach_type.bpf_attach_type.TheVariants.{BPF_MODIFY_RETURN}
use Rattle.ebpf_parts.specs.declared.programs.attach_type.bpf_attach_type.TheVariants.{BPF_LSM_MAC}
use Rattle.ebpf_parts.specs.declared.programs.attach_type.bpf_attach_type.TheVariants.{BPF_TRACE_ITER}
use Rattle.ebpf_parts.specs.declared.programs.attach_type.bpf_attach_type.TheVariants.{BPF_CGROUP_INET4_GETPEERNAME}
use Rattle.ebpf_parts.specs.declared.programs.attach_type.bpf_attach_type.TheVariants.{BPF_CGROUP_INET6_GETPEERNAME}
use Rattle.ebpf_parts.specs.declared.programs.attach_type.bpf_attach_type.TheVariants.{BPF_CGROUP_INET4_GETSOCKNAME}
use Rattle.ebpf_parts.specs.declared.programs.attach_type.bpf_attach_type.TheVariants.{BPF_CGROUP_INET6_GETSOCKNAME}
use Rattle.ebpf_parts.specs.declared.programs.attach_type.bpf_attach_type.TheVariants.{BPF_XDP_DEVMAP}
use Rattle.ebpf_parts.specs.declared.programs.attach_type.bpf_attach_type.TheVariants.{BPF_CGROUP_INET_SOCK_RELEASE}
use Rattle.ebpf_parts.specs.declared.programs.attach_type.bpf_attach_type.TheVariants.{BPF_XDP_CPUMAP}
use Rattle.ebpf_parts.specs.declared.programs.attach_type.bpf_attach_type.TheVariants.{BPF_SK_LOOKUP}
use Rattle.ebpf_parts.specs.declared.programs.attach_type.bpf_attach_type.TheVariants.{BPF_XDP}
use Rattle.ebpf_parts.specs.declared.programs.attach_type.bpf_attach_type.TheVariants.{BPF_SK_SKB_VERDICT}
use Rattle.ebpf_parts.specs.declared.programs.attach_type.bpf_attach_type.TheVariants.{BPF_SK_REUSEPORT_SELECT}
use Rattle.ebpf_parts.specs.declared.programs.attach_type.bpf_attach_type.TheVariants.{BPF_SK_REUSEPORT_SELECT_OR_MIGRATE}
use Rattle.ebpf_parts.specs.declared.programs.attach_type.bpf_attach_type.TheVariants.{BPF_TRACE_KPROBE_MULTI}
use Rattle.ebpf_parts.specs.declared.programs.attach_type.bpf_attach_type.TheVariants.{BPF_LSM_CGROUP}
use Rattle.ebpf_parts.specs.declared.programs.attach_type.bpf_attach_type.TheVariants.{BPF_NETFILTER}
use Rattle.ebpf_parts.specs.declared.programs.attach_type.bpf_attach_type.TheVariants.{BPF_TCX_INGRESS}
use Rattle.ebpf_parts.specs.declared.programs.attach_type.bpf_attach_type.TheVariants.{BPF_TCX_EGRESS}
use Rattle.ebpf_parts.specs.declared.programs.attach_type.bpf_attach_type.TheVariants.{BPF_TRACE_UPROBE_MULTI}
use Rattle.ebpf_parts.specs.declared.programs.attach_type.bpf_attach_type.TheVariants.{BPF_CGROUP_UNIX_CONNECT}
use Rattle.ebpf_parts.specs.declared.programs.attach_type.bpf_attach_type.TheVariants.{BPF_CGROUP_UNIX_SENDMSG}
use Rattle.ebpf_parts.specs.declared.programs.attach_type.bpf_attach_type.TheVariants.{BPF_CGROUP_UNIX_RECVMSG}
use Rattle.ebpf_parts.specs.declared.programs.attach_type.bpf_attach_type.TheVariants.{BPF_CGROUP_UNIX_GETPEERNAME}
use Rattle.ebpf_parts.specs.declared.programs.attach_type.bpf_attach_type.TheVariants.{BPF_CGROUP_UNIX_GETSOCKNAME}
use Rattle.ebpf_parts.specs.declared.programs.attach_type.bpf_attach_type.TheVariants.{BPF_NETKIT_PRIMARY}
use Rattle.ebpf_parts.specs.declared.programs.attach_type.bpf_attach_type.TheVariants.{BPF_NETKIT_PEER}
use Rattle.ebpf_parts.specs.declared.programs.attach_type.bpf_attach_type.TheVariants.{BPF_TRACE_KPROBE_SESSION}
use Rattle.ebpf_parts.specs.declared.programs.attach_type.CgroupSkbAttachType.{CgroupSkbAttachType}
use Rattle.ebpf_parts.specs.declared.programs.attach_type.CgroupSkbAttachType.TheVariants.{Ingress}
use Rattle.ebpf_parts.specs.declared.programs.attach_type.CgroupSkbAttachType.TheVariants.{Egress}
use Rattle.ebpf_parts.specs.declared.programs.attach_type.CgroupSockAttachType.{CgroupSockAttachType}
use Rattle.ebpf_parts.specs.declared.programs.attach_type.CgroupSockAttachType.TheVariants.{PostBind4}
use Rattle.ebpf_parts.specs.declared.programs.attach_type.CgroupSockAttachType.TheVariants.{PostBind6}
use Rattle.ebpf_parts.specs.declared.programs.attach_type.CgroupSockAttachType.TheVariants.{SockCreate}
use Rattle.ebpf_parts.specs.declared.programs.attach_type.CgroupSockAttachType.TheVariants.{SockRelease}
use Rattle.ebpf_parts.specs.declared.programs.attach_type.CgroupSockAddrAttachType.{CgroupSockAddrAttachType}
use Rattle.ebpf_parts.specs.declared.programs.attach_type.CgroupSockAddrAttachType.TheVariants.{Bind4}
use Rattle.ebpf_parts.specs.declared.programs.attach_type.CgroupSockAddrAttachType.TheVariants.{Bind6}
use Rattle.ebpf_parts.specs.declared.programs.attach_type.CgroupSockAddrAttachType.TheVariants.{Connect4}
use Rattle.ebpf_parts.specs.declared.programs.attach_type.CgroupSockAddrAttachType.TheVariants.{Connect6}
use Rattle.ebpf_parts.specs.declared.programs.attach_type.CgroupSockAddrAttachType.TheVariants.{GetPeerName4}
use Rattle.ebpf_parts.specs.declared.programs.attach_type.CgroupSockAddrAttachType.TheVariants.{GetPeerName6}
use Rattle.ebpf_parts.specs.declared.programs.attach_type.CgroupSockAddrAttachType.TheVariants.{GetSockName4}
use Rattle.ebpf_parts.specs.declared.programs.attach_type.CgroupSockAddrAttachType.TheVariants.{GetSockName6}
use Rattle.ebpf_parts.specs.declared.programs.attach_type.CgroupSockAddrAttachType.TheVariants.{UDPSendMsg4}
use Rattle.ebpf_parts.specs.declared.programs.attach_type.CgroupSockAddrAttachType.TheVariants.{UDPSendMsg6}
use Rattle.ebpf_parts.specs.declared.programs.attach_type.CgroupSockAddrAttachType.TheVariants.{UDPRecvMsg4}
use Rattle.ebpf_parts.specs.declared.programs.attach_type.CgroupSockAddrAttachType.TheVariants.{UDPRecvMsg6}
use Rattle.ebpf_parts.specs.declared.programs.attach_type.CgroupSockoptAttachType.{CgroupSockoptAttachType}
use Rattle.ebpf_parts.specs.declared.programs.attach_type.CgroupSockoptAttachType.TheVariants.{Get}
use Rattle.ebpf_parts.specs.declared.programs.attach_type.CgroupSockoptAttachType.TheVariants.{Set}
use Rattle.ebpf_parts.specs.declared.programs.kind.NamedKind.{NamedKind}
use Rattle.ebpf_parts.specs.declared.programs.kind.ProgramKind.{ProgramKind}
use Rattle.ebpf_parts.specs.declared.programs.kind.TheConstants.{NAMED_KINDS}
use Rattle.ebpf_parts.specs.declared.programs.program_type.bpf_prog_type.{bpf_prog_type}
use Rattle.ebpf_parts.specs.declared.programs.program_type.bpf_prog_type.TheVariants as types
use Rattle.ebpf_parts.specs.declared.programs.attach_type.SkReuseportAttachType.{SkReuseportAttachType}
use Rattle.ebpf_parts.specs.declared.programs.attach_type.SkReuseportAttachType.TheVariants.{Select}
use Rattle.ebpf_parts.specs.declared.programs.attach_type.SkReuseportAttachType.TheVariants.{SelectOrMigrate}
use Rattle.ebpf_parts.specs.declared.programs.attach_type.SkSkbKind.{SkSkbKind}
use Rattle.ebpf_parts.specs.declared.programs.attach_type.SkSkbKind.TheVariants.{StreamParser}
use Rattle.ebpf_parts.specs.declared.programs.attach_type.SkSkbKind.TheVariants.{StreamVerdict}
use Rattle.ebpf_parts.specs.declared.programs.attach_type.XdpAttachType.{XdpAttachType}
use Rattle.ebpf_parts.specs.declared.programs.attach_type.XdpAttachType.TheVariants.{Interface}
use Rattle.ebpf_parts.specs.declared.programs.attach_type.XdpAttachType.TheVariants.{CpuMap, DevMap}
use Rattle.ebpf_parts.specs.declared.parse_mode.ParseMode.{ParseMode}
use Rattle.ebpf_parts.specs.declared.parse_mode.ParseMode.TheVariants.{Strict, Lenient}

-- the text before the first slash
abbrev pub first_piece : List ℕ → List ℕ
first_piece name = before_first (λ b. b == 47) name

-- the text between the first slash and the next, where there is a slash
abbrev pub second_piece : List ℕ → Option (List ℕ)
second_piece name =
    option_map (λ _. first_piece (after_first (λ b. b == 47) name)) (position (λ b. b == 47) name)

-- the row of a table for a piece
abbrev pub lookup_piece : {X : Type 0} → List (List ℕ × X) → List ℕ → Option X
lookup_piece table piece = lookup (bytes_eq piece) table

-- the kinds that the first piece says alone: probes of the kernel and of processes, points that are
-- traced, sockets, packets and signals, and what extends the kernel
unfoldable pub piece_sections : List (List ℕ × ProgramSection)
piece_sections =
    (codes "kprobe", KProbe)
    ∷ (codes "kretprobe", KRetProbe)
    ∷ (codes "uprobe", UProbe false false)
    ∷ (codes "uprobe.s", UProbe true false)
    ∷ (codes "uprobe.multi", UProbe false true)
    ∷ (codes "uprobe.multi.s", UProbe true true)
    ∷ (codes "uretprobe", URetProbe false false)
    ∷ (codes "uretprobe.s", URetProbe true false)
    ∷ (codes "uretprobe.multi", URetProbe false true)
    ∷ (codes "uretprobe.multi.s", URetProbe true true)
    ∷ (codes "tp_btf", BtfTracePoint)
    ∷ (codes "tracepoint", TracePoint)
    ∷ (codes "tp", TracePoint)
    ∷ (codes "raw_tp", RawTracePoint)
    ∷ (codes "raw_tracepoint", RawTracePoint)
    ∷ (codes "perf_event", PerfEvent)
    ∷ (codes "fentry", FEntry false)
    ∷ (codes "fentry.s", FEntry true)
    ∷ (codes "fexit", FExit false)
    ∷ (codes "fexit.s", FExit true)
    ∷ (codes "socket", SocketFilter)
    ∷ (codes "sk_msg", SkMsg)
    ∷ (codes "sockops", SockOps)
    ∷ (codes "classifier", SchedClassifier)
    ∷ (codes "sk_lookup", SkLookup)
    ∷ (codes "flow_dissector", FlowDissector)
    ∷ (codes "lirc_mode2", LircMode2)
    ∷ (codes "lsm", Lsm false)
    ∷ (codes "lsm.s", Lsm true)
    ∷ (codes "iter", Iter false)
    ∷ (codes "iter.s", Iter true)
    ∷ (codes "lsm_cgroup", LsmCgroup)
    ∷ (codes "freplace", Extension)
    ∷ []

abbrev pub one_piece : List ℕ → Option ProgramSection
one_piece piece = lookup_piece piece_sections piece

-- after `xdp` and `xdp.frags`
unfoldable pub xdp_sections : Bool → List (List ℕ × ProgramSection)
xdp_sections frags =
    (codes "cpumap", Xdp frags CpuMap)
    ∷ (codes "devmap", Xdp frags DevMap)
    ∷ []

-- after `sk_skb`
unfoldable pub sk_skb_sections : List (List ℕ × ProgramSection)
sk_skb_sections =
    (codes "stream_parser", SkSkbStream StreamParser)
    ∷ (codes "stream_verdict", SkSkbStream StreamVerdict)
    ∷ []

-- after `sk_reuseport`
unfoldable pub sk_reuseport_sections : List (List ℕ × ProgramSection)
sk_reuseport_sections =
    (codes "migrate", SkReuseport SelectOrMigrate)
    ∷ []

-- after `cgroup_skb`
unfoldable pub cgroup_skb_sections : List (List ℕ × ProgramSection)
cgroup_skb_sections =
    (codes "ingress", CgroupSkb (Some Ingress))
    ∷ (codes "egress", CgroupSkb (Some Egress))
    ∷ []

-- after `cgroup`
unfoldable pub cgroup_sections : List (List ℕ × ProgramSection)
cgroup_sections =
    (codes "skb", CgroupSkb None)
    ∷ (codes "sysctl", CgroupSysctl)
    ∷ (codes "dev", CgroupDevice)
    ∷ (codes "getsockopt", CgroupSockopt Get)
    ∷ (codes "setsockopt", CgroupSockopt Set)
    ∷ []

-- after `cgroup`, for events of sockets
unfoldable pub socket_events : List (List ℕ × CgroupSockAttachType)
socket_events =
    (codes "sock", SockCreate)
    ∷ (codes "sock_create", SockCreate)
    ∷ (codes "sock_release", SockRelease)
    ∷ (codes "post_bind4", PostBind4)
    ∷ (codes "post_bind6", PostBind6)
    ∷ []

-- after `cgroup`, for calls with a socket address
unfoldable pub address_calls : List (List ℕ × CgroupSockAddrAttachType)
address_calls =
    (codes "bind4", Bind4)
    ∷ (codes "bind6", Bind6)
    ∷ (codes "connect4", Connect4)
    ∷ (codes "connect6", Connect6)
    ∷ (codes "getpeername4", GetPeerName4)
    ∷ (codes "getpeername6", GetPeerName6)
    ∷ (codes "getsockname4", GetSockName4)
    ∷ (codes "getsockname6", GetSockName6)
    ∷ (codes "sendmsg4", UDPSendMsg4)
    ∷ (codes "sendmsg6", UDPSendMsg6)
    ∷ (codes "recvmsg4", UDPRecvMsg4)
    ∷ (codes "recvmsg6", UDPRecvMsg6)
    ∷ []

abbrev pub cgroup_section : List ℕ → Option ProgramSection
cgroup_section piece =
    or_else (lookup_piece cgroup_sections piece)
    (or_else (option_map CgroupSock (lookup_piece socket_events piece))
    (option_map CgroupSockAddr (lookup_piece address_calls piece)))

-- what the second piece says, or what its absence says
abbrev pub by_second_piece : Option ProgramSection → (List ℕ → Option ProgramSection)
    → Option (List ℕ) → Option ProgramSection
by_second_piece absent section None = absent
by_second_piece absent section (Some piece) = section piece

-- the first pieces that want a second one, with what the two say
unfoldable pub pair_sections : Option (List ℕ) → List (List ℕ × Option ProgramSection)
pair_sections second = (
  codes "xdp",
  by_second_piece (Some (Xdp false Interface)) (lookup_piece (xdp_sections false))
      second,
)
    ∷ (
      codes "xdp.frags",
      by_second_piece (Some (Xdp true Interface))
          (lookup_piece (xdp_sections true)) second,
    )
    ∷ (
      codes "sk_reuseport",
      by_second_piece (Some (SkReuseport Select))
          (lookup_piece sk_reuseport_sections) second,
    )
    ∷ (codes "sk_skb", by_second_piece None (lookup_piece sk_skb_sections) second)
    ∷ (codes "cgroup_skb", by_second_piece None (lookup_piece cgroup_skb_sections) second)
    ∷ (codes "cgroup", by_second_piece None cgroup_section second)
    ∷ []

abbrev pub two_pieces : List ℕ → Option (List ℕ) → Option ProgramSection
two_pieces piece second = option_flatten (lookup_piece (pair_sections second) piece)

-- the kind that a name says
abbrev pub program_section : List ℕ → Option ProgramSection
program_section name =
    or_else (one_piece (first_piece name)) (two_pieces (first_piece name) (second_piece name))

abbrev pub no_section : List ℕ → Option ProgramSection → Option ParseError
no_section name None = Some (InvalidProgramSection name)
no_section name (Some section) = None

-- a name that says no kind
abbrev pub program_section_fault : List ℕ → Option ParseError
program_section_fault name = no_section name (program_section name)

-- ---- the types of programs in the order of their numbers, from 0 on (the kernel's
-- include/uapi/linux/bpf.h, enum bpf_prog_type)

unfoldable pub program_types : List bpf_prog_type
program_types =
    types.BPF_PROG_TYPE_UNSPEC
    ∷ types.BPF_PROG_TYPE_SOCKET_FILTER
    ∷ types.BPF_PROG_TYPE_KPROBE
    ∷ types.BPF_PROG_TYPE_SCHED_CLS
    ∷ types.BPF_PROG_TYPE_SCHED_ACT
    ∷ types.BPF_PROG_TYPE_TRACEPOINT
    ∷ types.BPF_PROG_TYPE_XDP
    ∷ types.BPF_PROG_TYPE_PERF_EVENT
    ∷ types.BPF_PROG_TYPE_CGROUP_SKB
    ∷ types.BPF_PROG_TYPE_CGROUP_SOCK
    ∷ types.BPF_PROG_TYPE_LWT_IN
    ∷ types.BPF_PROG_TYPE_LWT_OUT
    ∷ types.BPF_PROG_TYPE_LWT_XMIT
    ∷ types.BPF_PROG_TYPE_SOCK_OPS
    ∷ types.BPF_PROG_TYPE_SK_SKB
    ∷ types.BPF_PROG_TYPE_CGROUP_DEVICE
    ∷ types.BPF_PROG_TYPE_SK_MSG
    ∷ types.BPF_PROG_TYPE_RAW_TRACEPOINT
    ∷ types.BPF_PROG_TYPE_CGROUP_SOCK_ADDR
    ∷ types.BPF_PROG_TYPE_LWT_SEG6LOCAL
    ∷ types.BPF_PROG_TYPE_LIRC_MODE2
    ∷ types.BPF_PROG_TYPE_SK_REUSEPORT
    ∷ types.BPF_PROG_TYPE_FLOW_DISSECTOR
    ∷ types.BPF_PROG_TYPE_CGROUP_SYSCTL
    ∷ types.BPF_PROG_TYPE_RAW_TRACEPOINT_WRITABLE
    ∷ types.BPF_PROG_TYPE_CGROUP_SOCKOPT
    ∷ types.BPF_PROG_TYPE_TRACING
    ∷ types.BPF_PROG_TYPE_STRUCT_OPS
    ∷ types.BPF_PROG_TYPE_EXT
    ∷ types.BPF_PROG_TYPE_LSM
    ∷ types.BPF_PROG_TYPE_SK_LOOKUP
    ∷ types.BPF_PROG_TYPE_SYSCALL
    ∷ types.BPF_PROG_TYPE_NETFILTER
    ∷ []

-- the kernel's numbers, the indices in the table
unfoldable pub program_type_number : bpf_prog_type → ℕ
program_type_number types.BPF_PROG_TYPE_UNSPEC = 0
program_type_number types.BPF_PROG_TYPE_SOCKET_FILTER = 1
program_type_number types.BPF_PROG_TYPE_KPROBE = 2
program_type_number types.BPF_PROG_TYPE_SCHED_CLS = 3
program_type_number types.BPF_PROG_TYPE_SCHED_ACT = 4
program_type_number types.BPF_PROG_TYPE_TRACEPOINT = 5
program_type_number types.BPF_PROG_TYPE_XDP = 6
program_type_number types.BPF_PROG_TYPE_PERF_EVENT = 7
program_type_number types.BPF_PROG_TYPE_CGROUP_SKB = 8
program_type_number types.BPF_PROG_TYPE_CGROUP_SOCK = 9
program_type_number types.BPF_PROG_TYPE_LWT_IN = 10
program_type_number types.BPF_PROG_TYPE_LWT_OUT = 11
program_type_number types.BPF_PROG_TYPE_LWT_XMIT = 12
program_type_number types.BPF_PROG_TYPE_SOCK_OPS = 13
program_type_number types.BPF_PROG_TYPE_SK_SKB = 14
program_type_number types.BPF_PROG_TYPE_CGROUP_DEVICE = 15
program_type_number types.BPF_PROG_TYPE_SK_MSG = 16
program_type_number types.BPF_PROG_TYPE_RAW_TRACEPOINT = 17
program_type_number types.BPF_PROG_TYPE_CGROUP_SOCK_ADDR = 18
program_type_number types.BPF_PROG_TYPE_LWT_SEG6LOCAL = 19
program_type_number types.BPF_PROG_TYPE_LIRC_MODE2 = 20
program_type_number types.BPF_PROG_TYPE_SK_REUSEPORT = 21
program_type_number types.BPF_PROG_TYPE_FLOW_DISSECTOR = 22
program_type_number types.BPF_PROG_TYPE_CGROUP_SYSCTL = 23
program_type_number types.BPF_PROG_TYPE_RAW_TRACEPOINT_WRITABLE = 24
program_type_number types.BPF_PROG_TYPE_CGROUP_SOCKOPT = 25
program_type_number types.BPF_PROG_TYPE_TRACING = 26
program_type_number types.BPF_PROG_TYPE_STRUCT_OPS = 27
program_type_number types.BPF_PROG_TYPE_EXT = 28
program_type_number types.BPF_PROG_TYPE_LSM = 29
program_type_number types.BPF_PROG_TYPE_SK_LOOKUP = 30
program_type_number types.BPF_PROG_TYPE_SYSCALL = 31
program_type_number types.BPF_PROG_TYPE_NETFILTER = 32

-- ---- how programs are attached (the kernel's include/uapi/linux/bpf.h, enum bpf_attach_type)

-- the kernel's numbers
unfoldable pub attach_type_number : bpf_attach_type → ℕ
attach_type_number BPF_CGROUP_INET_INGRESS = 0
attach_type_number BPF_CGROUP_INET_EGRESS = 1
attach_type_number BPF_CGROUP_INET_SOCK_CREATE = 2
attach_type_number BPF_CGROUP_SOCK_OPS = 3
attach_type_number BPF_SK_SKB_STREAM_PARSER = 4
attach_type_number BPF_SK_SKB_STREAM_VERDICT = 5
attach_type_number BPF_CGROUP_DEVICE = 6
attach_type_number BPF_SK_MSG_VERDICT = 7
attach_type_number BPF_CGROUP_INET4_BIND = 8
attach_type_number BPF_CGROUP_INET6_BIND = 9
attach_type_number BPF_CGROUP_INET4_CONNECT = 10
attach_type_number BPF_CGROUP_INET6_CONNECT = 11
attach_type_number BPF_CGROUP_INET4_POST_BIND = 12
attach_type_number BPF_CGROUP_INET6_POST_BIND = 13
attach_type_number BPF_CGROUP_UDP4_SENDMSG = 14
attach_type_number BPF_CGROUP_UDP6_SENDMSG = 15
attach_type_number BPF_LIRC_MODE2 = 16
attach_type_number BPF_FLOW_DISSECTOR = 17
attach_type_number BPF_CGROUP_SYSCTL = 18
attach_type_number BPF_CGROUP_UDP4_RECVMSG = 19
attach_type_number BPF_CGROUP_UDP6_RECVMSG = 20
attach_type_number BPF_CGROUP_GETSOCKOPT = 21
attach_type_number BPF_CGROUP_SETSOCKOPT = 22
attach_type_number BPF_TRACE_RAW_TP = 23
attach_type_number BPF_TRACE_FENTRY = 24
attach_type_number BPF_TRACE_FEXIT = 25
attach_type_number BPF_MODIFY_RETURN = 26
attach_type_number BPF_LSM_MAC = 27
attach_type_number BPF_TRACE_ITER = 28
attach_type_number BPF_CGROUP_INET4_GETPEERNAME = 29
attach_type_number BPF_CGROUP_INET6_GETPEERNAME = 30
attach_type_number BPF_CGROUP_INET4_GETSOCKNAME = 31
attach_type_number BPF_CGROUP_INET6_GETSOCKNAME = 32
attach_type_number BPF_XDP_DEVMAP = 33
attach_type_number BPF_CGROUP_INET_SOCK_RELEASE = 34
attach_type_number BPF_XDP_CPUMAP = 35
attach_type_number BPF_SK_LOOKUP = 36
attach_type_number BPF_XDP = 37
attach_type_number BPF_SK_SKB_VERDICT = 38
attach_type_number BPF_SK_REUSEPORT_SELECT = 39
attach_type_number BPF_SK_REUSEPORT_SELECT_OR_MIGRATE = 40
attach_type_number BPF_TRACE_KPROBE_MULTI = 42
attach_type_number BPF_LSM_CGROUP = 43
attach_type_number BPF_NETFILTER = 45
attach_type_number BPF_TCX_INGRESS = 46
attach_type_number BPF_TCX_EGRESS = 47
attach_type_number BPF_TRACE_UPROBE_MULTI = 48
attach_type_number BPF_CGROUP_UNIX_CONNECT = 49
attach_type_number BPF_CGROUP_UNIX_SENDMSG = 50
attach_type_number BPF_CGROUP_UNIX_RECVMSG = 51
attach_type_number BPF_CGROUP_UNIX_GETPEERNAME = 52
attach_type_number BPF_CGROUP_UNIX_GETSOCKNAME = 53
attach_type_number BPF_NETKIT_PRIMARY = 54
attach_type_number BPF_NETKIT_PEER = 55
attach_type_number BPF_TRACE_KPROBE_SESSION = 56

abbrev pub cgroup_skb_attach_type : CgroupSkbAttachType → bpf_attach_type
cgroup_skb_attach_type Ingress = BPF_CGROUP_INET_INGRESS
cgroup_skb_attach_type Egress = BPF_CGROUP_INET_EGRESS

abbrev pub cgroup_sock_attach_type : CgroupSockAttachType → bpf_attach_type
cgroup_sock_attach_type PostBind4 = BPF_CGROUP_INET4_POST_BIND
cgroup_sock_attach_type PostBind6 = BPF_CGROUP_INET6_POST_BIND
cgroup_sock_attach_type SockCreate = BPF_CGROUP_INET_SOCK_CREATE
cgroup_sock_attach_type SockRelease = BPF_CGROUP_INET_SOCK_RELEASE

abbrev pub cgroup_sock_addr_attach_type : CgroupSockAddrAttachType → bpf_attach_type
cgroup_sock_addr_attach_type Bind4 = BPF_CGROUP_INET4_BIND
cgroup_sock_addr_attach_type Bind6 = BPF_CGROUP_INET6_BIND
cgroup_sock_addr_attach_type Connect4 = BPF_CGROUP_INET4_CONNECT
cgroup_sock_addr_attach_type Connect6 = BPF_CGROUP_INET6_CONNECT
cgroup_sock_addr_attach_type GetPeerName4 = BPF_CGROUP_INET4_GETPEERNAME
cgroup_sock_addr_attach_type GetPeerName6 = BPF_CGROUP_INET6_GETPEERNAME
cgroup_sock_addr_attach_type GetSockName4 = BPF_CGROUP_INET4_GETSOCKNAME
cgroup_sock_addr_attach_type GetSockName6 = BPF_CGROUP_INET6_GETSOCKNAME
cgroup_sock_addr_attach_type UDPSendMsg4 = BPF_CGROUP_UDP4_SENDMSG
cgroup_sock_addr_attach_type UDPSendMsg6 = BPF_CGROUP_UDP6_SENDMSG
cgroup_sock_addr_attach_type UDPRecvMsg4 = BPF_CGROUP_UDP4_RECVMSG
cgroup_sock_addr_attach_type UDPRecvMsg6 = BPF_CGROUP_UDP6_RECVMSG

abbrev pub cgroup_sockopt_attach_type : CgroupSockoptAttachType → bpf_attach_type
cgroup_sockopt_attach_type Get = BPF_CGROUP_GETSOCKOPT
cgroup_sockopt_attach_type Set = BPF_CGROUP_SETSOCKOPT

abbrev pub sk_reuseport_attach_type : SkReuseportAttachType → bpf_attach_type
sk_reuseport_attach_type Select = BPF_SK_REUSEPORT_SELECT
sk_reuseport_attach_type SelectOrMigrate = BPF_SK_REUSEPORT_SELECT_OR_MIGRATE

abbrev pub sk_skb_attach_type : SkSkbKind → bpf_attach_type
sk_skb_attach_type StreamParser = BPF_SK_SKB_STREAM_PARSER
sk_skb_attach_type StreamVerdict = BPF_SK_SKB_STREAM_VERDICT

abbrev pub xdp_attach_type : XdpAttachType → bpf_attach_type
xdp_attach_type Interface = BPF_XDP
xdp_attach_type CpuMap = BPF_XDP_CPUMAP
xdp_attach_type DevMap = BPF_XDP_DEVMAP

-- ---- what a loader does with a program, by the name of its section (libbpf's Program Types and
-- ELF Sections). The table is that of the code, a row for each name; NamedKinds states its rows

-- the text before an index, if there is one
abbrev pub before : Option ℕ → List ℕ → List ℕ
before None bytes = bytes
before (Some index) bytes = take index bytes

-- the name of a row: the text before the first space
abbrev pub row_name : NamedKind → List ℕ
row_name row = before (position (λ b. b == 32) row.padded_name) row.padded_name

-- a name that begins with a row's own and goes on with a slash
abbrev pub has_target : List ℕ → List ℕ → Bool
has_target name own = starts_with nat_eq name own && slice_index name (length own) == 47

-- a row fits its own name, and where it takes a target its own name with one
abbrev pub name_fits : List ℕ → NamedKind → Bool
name_fits name row =
    bytes_eq name (row_name row) || (row.takes_target && has_target name (row_name row))

-- the row with the longer name, the earlier one of two as long
abbrev pub longer : Option NamedKind → NamedKind → Option NamedKind
longer None row = Some row
longer (Some other) row =
    if nat_le (length (row_name row)) (length (row_name other)) then Some other else Some row

-- of the rows that a name fits the one with the longest name
unfoldable pub longest_fit : List ℕ → List NamedKind → Option NamedKind
longest_fit name rows = fold longer None (filter (name_fits name) rows)

-- a name with `?` before it
abbrev pub is_marked : List ℕ → Bool
is_marked name = slice_index name 0 == 63

-- the name behind it
abbrev pub without_mark : List ℕ → List ℕ
without_mark name = if is_marked name then drop 1 name else name

-- what the rows say of a name; a program of a marked one is optional
abbrev pub kind_in : List NamedKind → List ℕ → Option ProgramKind
kind_in rows name =
    option_map (λ row. record row.kind { is_optional = is_marked name })
    (longest_fit (without_mark name) rows)

-- what a loader does with the programs of a section of this name
unfoldable pub program_kind : List ℕ → Option ProgramKind
program_kind name = kind_in NAMED_KINDS name

-- the type that the programs of a kind are loaded as
abbrev pub section_type : ProgramSection → Option bpf_prog_type
section_type KRetProbe = Some types.BPF_PROG_TYPE_KPROBE
section_type KProbe = Some types.BPF_PROG_TYPE_KPROBE
section_type (UProbe _ _) = Some types.BPF_PROG_TYPE_KPROBE
section_type (URetProbe _ _) = Some types.BPF_PROG_TYPE_KPROBE
section_type TracePoint = Some types.BPF_PROG_TYPE_TRACEPOINT
section_type SocketFilter = Some types.BPF_PROG_TYPE_SOCKET_FILTER
section_type (Xdp _ _) = Some types.BPF_PROG_TYPE_XDP
section_type SkMsg = Some types.BPF_PROG_TYPE_SK_MSG
section_type (SkSkbStream _) = Some types.BPF_PROG_TYPE_SK_SKB
section_type SockOps = Some types.BPF_PROG_TYPE_SOCK_OPS
section_type SchedClassifier = Some types.BPF_PROG_TYPE_SCHED_CLS
section_type (CgroupSkb _) = Some types.BPF_PROG_TYPE_CGROUP_SKB
section_type (CgroupSockAddr _) = Some types.BPF_PROG_TYPE_CGROUP_SOCK_ADDR
section_type CgroupSysctl = Some types.BPF_PROG_TYPE_CGROUP_SYSCTL
section_type (CgroupSockopt _) = Some types.BPF_PROG_TYPE_CGROUP_SOCKOPT
section_type LircMode2 = Some types.BPF_PROG_TYPE_LIRC_MODE2
section_type PerfEvent = Some types.BPF_PROG_TYPE_PERF_EVENT
section_type RawTracePoint = Some types.BPF_PROG_TYPE_RAW_TRACEPOINT
section_type (Lsm _) = Some types.BPF_PROG_TYPE_LSM
section_type LsmCgroup = Some types.BPF_PROG_TYPE_LSM
section_type BtfTracePoint = Some types.BPF_PROG_TYPE_TRACING
section_type (FEntry _) = Some types.BPF_PROG_TYPE_TRACING
section_type (FExit _) = Some types.BPF_PROG_TYPE_TRACING
section_type FlowDissector = Some types.BPF_PROG_TYPE_FLOW_DISSECTOR
section_type Extension = Some types.BPF_PROG_TYPE_EXT
section_type SkLookup = Some types.BPF_PROG_TYPE_SK_LOOKUP
section_type (SkReuseport _) = Some types.BPF_PROG_TYPE_SK_REUSEPORT
section_type (CgroupSock _) = Some types.BPF_PROG_TYPE_CGROUP_SOCK
section_type CgroupDevice = Some types.BPF_PROG_TYPE_CGROUP_DEVICE
section_type (Iter _) = Some types.BPF_PROG_TYPE_TRACING
section_type Other = None

-- a name that is in both tables has one type
abbrev pub TypesAgree : Type 0
TypesAgree =
    (name : List ℕ) (section : ProgramSection) (kind : ProgramKind)
    → program_section name ≡ Some section
    → program_kind name ≡ Some kind → section_type section ≡ Some kind.program_type

-- ---- what the name of a program's section says, by how its object is read

-- the kind that the table has for a name; in lenient parsing that of the name behind a `?`, and for
-- every other name `Other`
unfoldable pub section_as : ParseMode → List ℕ → Option ProgramSection
section_as Strict name = program_section name
section_as Lenient name = Some (unwrap_or (program_section (without_mark name)) Other)

-- a name that says no kind
abbrev pub section_fault_as : ParseMode → List ℕ → Option ParseError
section_fault_as mode name = no_section name (section_as mode name)

-- ---- laws

-- no name of the table is of another kind
abbrev pub NoNameIsOther : Type 0
NoNameIsOther = (name : List ℕ) → program_section name ≢ Some Other

-- what has a kind in strict parsing has it in the broad one
abbrev pub LenientKeepsKinds : Type 0
LenientKeepsKinds =
    (name : List ℕ) (kind : ProgramSection) → section_as Strict name ≡ Some kind
    → section_as Lenient name ≡ Some kind

-- in lenient parsing no name is refused
abbrev pub LenientTakesNames : Type 0
LenientTakesNames = (name : List ℕ) → section_fault_as Lenient name ≡ None

-- the name of a type of programs, as bpftool prints it
unfoldable pub program_type_name : bpf_prog_type → List ℕ
program_type_name types.BPF_PROG_TYPE_UNSPEC = codes "unspec"
program_type_name types.BPF_PROG_TYPE_SOCKET_FILTER = codes "socket_filter"
program_type_name types.BPF_PROG_TYPE_KPROBE = codes "kprobe"
program_type_name types.BPF_PROG_TYPE_SCHED_CLS = codes "sched_cls"
program_type_name types.BPF_PROG_TYPE_SCHED_ACT = codes "sched_act"
program_type_name types.BPF_PROG_TYPE_TRACEPOINT = codes "tracepoint"
program_type_name types.BPF_PROG_TYPE_XDP = codes "xdp"
program_type_name types.BPF_PROG_TYPE_PERF_EVENT = codes "perf_event"
program_type_name types.BPF_PROG_TYPE_CGROUP_SKB = codes "cgroup_skb"
program_type_name types.BPF_PROG_TYPE_CGROUP_SOCK = codes "cgroup_sock"
program_type_name types.BPF_PROG_TYPE_LWT_IN = codes "lwt_in"
program_type_name types.BPF_PROG_TYPE_LWT_OUT = codes "lwt_out"
program_type_name types.BPF_PROG_TYPE_LWT_XMIT = codes "lwt_xmit"
program_type_name types.BPF_PROG_TYPE_SOCK_OPS = codes "sock_ops"
program_type_name types.BPF_PROG_TYPE_SK_SKB = codes "sk_skb"
program_type_name types.BPF_PROG_TYPE_CGROUP_DEVICE = codes "cgroup_device"
program_type_name types.BPF_PROG_TYPE_SK_MSG = codes "sk_msg"
program_type_name types.BPF_PROG_TYPE_RAW_TRACEPOINT = codes "raw_tracepoint"
program_type_name types.BPF_PROG_TYPE_CGROUP_SOCK_ADDR = codes "cgroup_sock_addr"
program_type_name types.BPF_PROG_TYPE_LWT_SEG6LOCAL = codes "lwt_seg6local"
program_type_name types.BPF_PROG_TYPE_LIRC_MODE2 = codes "lirc_mode2"
program_type_name types.BPF_PROG_TYPE_SK_REUSEPORT = codes "sk_reuseport"
program_type_name types.BPF_PROG_TYPE_FLOW_DISSECTOR = codes "flow_dissector"
program_type_name types.BPF_PROG_TYPE_CGROUP_SYSCTL = codes "cgroup_sysctl"
program_type_name types.BPF_PROG_TYPE_RAW_TRACEPOINT_WRITABLE = codes "raw_tracepoint_writable"
program_type_name types.BPF_PROG_TYPE_CGROUP_SOCKOPT = codes "cgroup_sockopt"
program_type_name types.BPF_PROG_TYPE_TRACING = codes "tracing"
program_type_name types.BPF_PROG_TYPE_STRUCT_OPS = codes "struct_ops"
program_type_name types.BPF_PROG_TYPE_EXT = codes "ext"
program_type_name types.BPF_PROG_TYPE_LSM = codes "lsm"
program_type_name types.BPF_PROG_TYPE_SK_LOOKUP = codes "sk_lookup"
program_type_name types.BPF_PROG_TYPE_SYSCALL = codes "syscall"
program_type_name types.BPF_PROG_TYPE_NETFILTER = codes "netfilter"
