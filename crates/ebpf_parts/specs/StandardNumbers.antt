-- Each constant of the byte code is the number of the standard (RFC 9669, the kernel's
-- include/uapi/linux/bpf.h, and libbpf).
use Rattle.std.specs.Prelude.{◌≡◌, pos, refl}
use Rattle.ebpf_parts.specs.declared.insn.opcodes.TheConstants as opcodes

-- the classes of codes, in their low three bits (RFC 9669, section 3.3; the kernel's
-- include/uapi/linux/bpf_common.h and bpf.h: BPF_LD, BPF_LDX, BPF_ST, BPF_STX, BPF_ALU, BPF_JMP,
-- BPF_JMP32, BPF_ALU64)

pub ld_number : opcodes.LD ≡ 0
ld_number = refl

pub ldx_number : opcodes.LDX ≡ 1
ldx_number = refl

pub st_number : opcodes.ST ≡ 2
st_number = refl

pub stx_number : opcodes.STX ≡ 3
stx_number = refl

pub alu_number : opcodes.ALU ≡ 4
alu_number = refl

pub jmp_number : opcodes.JMP ≡ 5
jmp_number = refl

pub jmp32_number : opcodes.JMP32 ≡ 6
jmp32_number = refl

pub alu64_number : opcodes.ALU64 ≡ 7
alu64_number = refl

-- the codes of whole instructions (RFC 9669, sections 4.3 and 5.4)

pub ld_imm64_number : opcodes.LD_IMM64 ≡ 0x18
ld_imm64_number = refl

pub ja_number : opcodes.JA ≡ 0x05
ja_number = refl

pub ja32_number : opcodes.JA32 ≡ 0x06
ja32_number = refl

pub call_number : opcodes.CALL ≡ 0x85
call_number = refl

pub exit_number : opcodes.EXIT ≡ 0x95
exit_number = refl

-- the sources of 64-bit loads and of calls (RFC 9669, sections 5.4 and 4.3; the kernel's
-- include/uapi/linux/bpf.h: BPF_PSEUDO_MAP_FD and those below it)

pub map_fd_number : opcodes.BPF_PSEUDO_MAP_FD ≡ 1
map_fd_number = refl

pub map_value_number : opcodes.BPF_PSEUDO_MAP_VALUE ≡ 2
map_value_number = refl

pub btf_id_number : opcodes.BPF_PSEUDO_BTF_ID ≡ 3
btf_id_number = refl

pub func_number : opcodes.BPF_PSEUDO_FUNC ≡ 4
func_number = refl

pub pseudo_call_number : opcodes.BPF_PSEUDO_CALL ≡ 1
pseudo_call_number = refl

pub kfunc_call_number : opcodes.BPF_PSEUDO_KFUNC_CALL ≡ 2
kfunc_call_number = refl

-- the immediates of poisoned calls (libbpf: bpf_core_poison_insn of relo_core.c, and
-- POISON_CALL_KFUNC_BASE of libbpf.c)

pub poison_call_number : opcodes.POISON_CALL ≡ pos 0x0bad2310
poison_call_number = refl

pub absent_kfunc_number : opcodes.ABSENT_KFUNC ≡ 2002000000
absent_kfunc_number = refl

-- the sizes of loads and stores, in bits of the code (RFC 9669, section 5; BPF_DW, BPF_W, BPF_H,
-- BPF_B)

pub double_word_number : opcodes.BPF_DW ≡ 0x18
double_word_number = refl

pub word_number : opcodes.BPF_W ≡ 0x00
word_number = refl

pub half_word_number : opcodes.BPF_H ≡ 0x08
half_word_number = refl

pub byte_number : opcodes.BPF_B ≡ 0x10
byte_number = refl
