-- The rows of libbpf's table of section names (section_defs of libbpf.c, version 1.5), with the
-- numbers of the kernel's enum bpf_attach_type as literals. The table of the code, which
-- definitions name, is proved equal to them.
use Rattle.std.specs.Prelude.{ℕ, Bool, true, false, List, [], ◌∷◌, ◌++◌, Option, Some, None, ◌≡◌}
use Rattle.std.specs.Prelude.{codes, take, refl}
use Rattle.ebpf_parts.specs.declared.programs.kind.NamedKind.{NamedKind}
use Rattle.ebpf_parts.specs.declared.programs.kind.ProgramKind.{ProgramKind}
use Rattle.ebpf_parts.specs.declared.programs.kind.TheConstants.{NAMED_KINDS}
use Rattle.ebpf_parts.specs.declared.programs.program_type.bpf_prog_type.{bpf_prog_type}
use Rattle.ebpf_parts.specs.declared.programs.program_type.bpf_prog_type.TheVariants as types

-- a name with spaces behind it, 24 bytes in all
abbrev pub padded : List ℕ → List ℕ
padded name = take 24 (name ++ codes "                        ")

-- a name that takes no target (in libbpf's table one without `+`)
abbrev pub exact : List ℕ → ProgramKind → NamedKind
exact name kind = record { padded_name = padded name; takes_target = false; kind = kind }

-- a name that may go on with a slash and a target (in libbpf's table with `+`)
abbrev pub longer_name : List ℕ → ProgramKind → NamedKind
longer_name name kind = record { padded_name = padded name; takes_target = true; kind = kind }

-- a program type with the number of an attach type, where the name says one
abbrev pub plain : bpf_prog_type → Option ℕ → ProgramKind
plain program_type attach_type = record {
  program_type = program_type;
  attach_type = attach_type;
  is_sleepable = false;
  has_frags = false;
  wants_target_type = false;
  is_optional = false;
}

-- programs that may sleep (SEC_SLEEPABLE)
abbrev pub sleepable : bpf_prog_type → Option ℕ → ProgramKind
sleepable program_type attach_type = record (plain program_type attach_type) { is_sleepable = true }

-- programs that take packets in fragments (SEC_XDP_FRAGS)
abbrev pub frags : bpf_prog_type → Option ℕ → ProgramKind
frags program_type attach_type = record (plain program_type attach_type) { has_frags = true }

-- programs that are loaded with the id of their target's type (SEC_ATTACH_BTF)
abbrev pub targeted : bpf_prog_type → Option ℕ → ProgramKind
targeted program_type attach_type =
    record (plain program_type attach_type) { wants_target_type = true }

-- both
abbrev pub sleepable_targeted : bpf_prog_type → Option ℕ → ProgramKind
sleepable_targeted program_type attach_type =
    record (plain program_type attach_type) { is_sleepable = true; wants_target_type = true }

abbrev pub section_names : List NamedKind
section_names =
    exact (codes "socket") (plain types.BPF_PROG_TYPE_SOCKET_FILTER None)
    ∷ exact (codes "sk_reuseport/migrate") (plain types.BPF_PROG_TYPE_SK_REUSEPORT (Some 40))
    ∷ exact (codes "sk_reuseport") (plain types.BPF_PROG_TYPE_SK_REUSEPORT (Some 39))
    ∷ longer_name (codes "kprobe") (plain types.BPF_PROG_TYPE_KPROBE None)
    ∷ longer_name (codes "uprobe") (plain types.BPF_PROG_TYPE_KPROBE None)
    ∷ longer_name (codes "uprobe.s") (sleepable types.BPF_PROG_TYPE_KPROBE None)
    ∷ longer_name (codes "kretprobe") (plain types.BPF_PROG_TYPE_KPROBE None)
    ∷ longer_name (codes "uretprobe") (plain types.BPF_PROG_TYPE_KPROBE None)
    ∷ longer_name (codes "uretprobe.s") (sleepable types.BPF_PROG_TYPE_KPROBE None)
    ∷ longer_name (codes "kprobe.multi") (plain types.BPF_PROG_TYPE_KPROBE (Some 42))
    ∷ longer_name (codes "kretprobe.multi") (plain types.BPF_PROG_TYPE_KPROBE (Some 42))
    ∷ longer_name (codes "kprobe.session") (plain types.BPF_PROG_TYPE_KPROBE (Some 56))
    ∷ longer_name (codes "uprobe.multi") (plain types.BPF_PROG_TYPE_KPROBE (Some 48))
    ∷ longer_name (codes "uretprobe.multi") (plain types.BPF_PROG_TYPE_KPROBE (Some 48))
    ∷ longer_name (codes "uprobe.multi.s") (sleepable types.BPF_PROG_TYPE_KPROBE (Some 48))
    ∷ longer_name (codes "uretprobe.multi.s") (sleepable types.BPF_PROG_TYPE_KPROBE (Some 48))
    ∷ longer_name (codes "ksyscall") (plain types.BPF_PROG_TYPE_KPROBE None)
    ∷ longer_name (codes "kretsyscall") (plain types.BPF_PROG_TYPE_KPROBE None)
    ∷ longer_name (codes "usdt") (plain types.BPF_PROG_TYPE_KPROBE None)
    ∷ longer_name (codes "usdt.s") (sleepable types.BPF_PROG_TYPE_KPROBE None)
    ∷ exact (codes "tc/ingress") (plain types.BPF_PROG_TYPE_SCHED_CLS (Some 46))
    ∷ exact (codes "tc/egress") (plain types.BPF_PROG_TYPE_SCHED_CLS (Some 47))
    ∷ exact (codes "tcx/ingress") (plain types.BPF_PROG_TYPE_SCHED_CLS (Some 46))
    ∷ exact (codes "tcx/egress") (plain types.BPF_PROG_TYPE_SCHED_CLS (Some 47))
    ∷ exact (codes "tc") (plain types.BPF_PROG_TYPE_SCHED_CLS None)
    ∷ exact (codes "classifier") (plain types.BPF_PROG_TYPE_SCHED_CLS None)
    ∷ exact (codes "action") (plain types.BPF_PROG_TYPE_SCHED_ACT None)
    ∷ exact (codes "netkit/primary") (plain types.BPF_PROG_TYPE_SCHED_CLS (Some 54))
    ∷ exact (codes "netkit/peer") (plain types.BPF_PROG_TYPE_SCHED_CLS (Some 55))
    ∷ longer_name (codes "tracepoint") (plain types.BPF_PROG_TYPE_TRACEPOINT None)
    ∷ longer_name (codes "tp") (plain types.BPF_PROG_TYPE_TRACEPOINT None)
    ∷ longer_name (codes "raw_tracepoint") (plain types.BPF_PROG_TYPE_RAW_TRACEPOINT None)
    ∷ longer_name (codes "raw_tp") (plain types.BPF_PROG_TYPE_RAW_TRACEPOINT None)
    ∷ longer_name (codes "raw_tracepoint.w")
    (plain types.BPF_PROG_TYPE_RAW_TRACEPOINT_WRITABLE None)
    ∷ longer_name (codes "raw_tp.w") (plain types.BPF_PROG_TYPE_RAW_TRACEPOINT_WRITABLE None)
    ∷ longer_name (codes "tp_btf") (targeted types.BPF_PROG_TYPE_TRACING (Some 23))
    ∷ longer_name (codes "fentry") (targeted types.BPF_PROG_TYPE_TRACING (Some 24))
    ∷ longer_name (codes "fmod_ret") (targeted types.BPF_PROG_TYPE_TRACING (Some 26))
    ∷ longer_name (codes "fexit") (targeted types.BPF_PROG_TYPE_TRACING (Some 25))
    ∷ longer_name (codes "fentry.s") (sleepable_targeted types.BPF_PROG_TYPE_TRACING (Some 24))
    ∷ longer_name (codes "fmod_ret.s") (sleepable_targeted types.BPF_PROG_TYPE_TRACING (Some 26))
    ∷ longer_name (codes "fexit.s") (sleepable_targeted types.BPF_PROG_TYPE_TRACING (Some 25))
    ∷ longer_name (codes "freplace") (targeted types.BPF_PROG_TYPE_EXT None)
    ∷ longer_name (codes "lsm") (targeted types.BPF_PROG_TYPE_LSM (Some 27))
    ∷ longer_name (codes "lsm.s") (sleepable_targeted types.BPF_PROG_TYPE_LSM (Some 27))
    ∷ longer_name (codes "lsm_cgroup") (targeted types.BPF_PROG_TYPE_LSM (Some 43))
    ∷ longer_name (codes "iter") (targeted types.BPF_PROG_TYPE_TRACING (Some 28))
    ∷ longer_name (codes "iter.s") (sleepable_targeted types.BPF_PROG_TYPE_TRACING (Some 28))
    ∷ exact (codes "syscall") (sleepable types.BPF_PROG_TYPE_SYSCALL None)
    ∷ exact (codes "xdp.frags/devmap") (frags types.BPF_PROG_TYPE_XDP (Some 33))
    ∷ exact (codes "xdp/devmap") (plain types.BPF_PROG_TYPE_XDP (Some 33))
    ∷ exact (codes "xdp.frags/cpumap") (frags types.BPF_PROG_TYPE_XDP (Some 35))
    ∷ exact (codes "xdp/cpumap") (plain types.BPF_PROG_TYPE_XDP (Some 35))
    ∷ exact (codes "xdp.frags") (frags types.BPF_PROG_TYPE_XDP (Some 37))
    ∷ exact (codes "xdp") (plain types.BPF_PROG_TYPE_XDP (Some 37))
    ∷ exact (codes "perf_event") (plain types.BPF_PROG_TYPE_PERF_EVENT None)
    ∷ exact (codes "lwt_in") (plain types.BPF_PROG_TYPE_LWT_IN None)
    ∷ exact (codes "lwt_out") (plain types.BPF_PROG_TYPE_LWT_OUT None)
    ∷ exact (codes "lwt_xmit") (plain types.BPF_PROG_TYPE_LWT_XMIT None)
    ∷ exact (codes "lwt_seg6local") (plain types.BPF_PROG_TYPE_LWT_SEG6LOCAL None)
    ∷ exact (codes "sockops") (plain types.BPF_PROG_TYPE_SOCK_OPS (Some 3))
    ∷ exact (codes "sk_skb/stream_parser") (plain types.BPF_PROG_TYPE_SK_SKB (Some 4))
    ∷ exact (codes "sk_skb/stream_verdict") (plain types.BPF_PROG_TYPE_SK_SKB (Some 5))
    ∷ exact (codes "sk_skb/verdict") (plain types.BPF_PROG_TYPE_SK_SKB (Some 38))
    ∷ exact (codes "sk_skb") (plain types.BPF_PROG_TYPE_SK_SKB None)
    ∷ exact (codes "sk_msg") (plain types.BPF_PROG_TYPE_SK_MSG (Some 7))
    ∷ exact (codes "lirc_mode2") (plain types.BPF_PROG_TYPE_LIRC_MODE2 (Some 16))
    ∷ exact (codes "flow_dissector") (plain types.BPF_PROG_TYPE_FLOW_DISSECTOR (Some 17))
    ∷ exact (codes "cgroup_skb/ingress") (plain types.BPF_PROG_TYPE_CGROUP_SKB (Some 0))
    ∷ exact (codes "cgroup_skb/egress") (plain types.BPF_PROG_TYPE_CGROUP_SKB (Some 1))
    ∷ exact (codes "cgroup/skb") (plain types.BPF_PROG_TYPE_CGROUP_SKB None)
    ∷ exact (codes "cgroup/sock_create") (plain types.BPF_PROG_TYPE_CGROUP_SOCK (Some 2))
    ∷ exact (codes "cgroup/sock_release") (plain types.BPF_PROG_TYPE_CGROUP_SOCK (Some 34))
    ∷ exact (codes "cgroup/sock") (plain types.BPF_PROG_TYPE_CGROUP_SOCK (Some 2))
    ∷ exact (codes "cgroup/post_bind4") (plain types.BPF_PROG_TYPE_CGROUP_SOCK (Some 12))
    ∷ exact (codes "cgroup/post_bind6") (plain types.BPF_PROG_TYPE_CGROUP_SOCK (Some 13))
    ∷ exact (codes "cgroup/bind4") (plain types.BPF_PROG_TYPE_CGROUP_SOCK_ADDR (Some 8))
    ∷ exact (codes "cgroup/bind6") (plain types.BPF_PROG_TYPE_CGROUP_SOCK_ADDR (Some 9))
    ∷ exact (codes "cgroup/connect4") (plain types.BPF_PROG_TYPE_CGROUP_SOCK_ADDR (Some 10))
    ∷ exact (codes "cgroup/connect6") (plain types.BPF_PROG_TYPE_CGROUP_SOCK_ADDR (Some 11))
    ∷ exact (codes "cgroup/connect_unix") (plain types.BPF_PROG_TYPE_CGROUP_SOCK_ADDR (Some 49))
    ∷ exact (codes "cgroup/sendmsg4") (plain types.BPF_PROG_TYPE_CGROUP_SOCK_ADDR (Some 14))
    ∷ exact (codes "cgroup/sendmsg6") (plain types.BPF_PROG_TYPE_CGROUP_SOCK_ADDR (Some 15))
    ∷ exact (codes "cgroup/sendmsg_unix") (plain types.BPF_PROG_TYPE_CGROUP_SOCK_ADDR (Some 50))
    ∷ exact (codes "cgroup/recvmsg4") (plain types.BPF_PROG_TYPE_CGROUP_SOCK_ADDR (Some 19))
    ∷ exact (codes "cgroup/recvmsg6") (plain types.BPF_PROG_TYPE_CGROUP_SOCK_ADDR (Some 20))
    ∷ exact (codes "cgroup/recvmsg_unix") (plain types.BPF_PROG_TYPE_CGROUP_SOCK_ADDR (Some 51))
    ∷ exact (codes "cgroup/getpeername4") (plain types.BPF_PROG_TYPE_CGROUP_SOCK_ADDR (Some 29))
    ∷ exact (codes "cgroup/getpeername6") (plain types.BPF_PROG_TYPE_CGROUP_SOCK_ADDR (Some 30))
    ∷ exact (codes "cgroup/getpeername_unix") (plain types.BPF_PROG_TYPE_CGROUP_SOCK_ADDR (Some 52))
    ∷ exact (codes "cgroup/getsockname4") (plain types.BPF_PROG_TYPE_CGROUP_SOCK_ADDR (Some 31))
    ∷ exact (codes "cgroup/getsockname6") (plain types.BPF_PROG_TYPE_CGROUP_SOCK_ADDR (Some 32))
    ∷ exact (codes "cgroup/getsockname_unix") (plain types.BPF_PROG_TYPE_CGROUP_SOCK_ADDR (Some 53))
    ∷ exact (codes "cgroup/sysctl") (plain types.BPF_PROG_TYPE_CGROUP_SYSCTL (Some 18))
    ∷ exact (codes "cgroup/getsockopt") (plain types.BPF_PROG_TYPE_CGROUP_SOCKOPT (Some 21))
    ∷ exact (codes "cgroup/setsockopt") (plain types.BPF_PROG_TYPE_CGROUP_SOCKOPT (Some 22))
    ∷ exact (codes "cgroup/dev") (plain types.BPF_PROG_TYPE_CGROUP_DEVICE (Some 6))
    ∷ longer_name (codes "struct_ops") (plain types.BPF_PROG_TYPE_STRUCT_OPS None)
    ∷ longer_name (codes "struct_ops.s") (sleepable types.BPF_PROG_TYPE_STRUCT_OPS None)
    ∷ exact (codes "sk_lookup") (plain types.BPF_PROG_TYPE_SK_LOOKUP (Some 36))
    ∷ exact (codes "netfilter") (plain types.BPF_PROG_TYPE_NETFILTER (Some 45))
    ∷ []

-- the table of the code is libbpf's
pub named_kinds_are_libbpf_names : NAMED_KINDS ≡ section_names
named_kinds_are_libbpf_names = refl
