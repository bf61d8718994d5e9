-- The numbers of the byte code (RFC 9669), and the slots of bytes: a slot is eight of them.
use Rattle.std.specs.Prelude.{ℕ, ℤ, pos, negsuc, Bool, false, ◌&&◌, ◌+◌, ◌*◌, ◌/◌, ◌%◌, not, ◌==◌}
use Rattle.std.specs.Prelude.{List, [], ◌∷◌, ◌++◌, length, map, slice_index, ◌≡◌, ◌≤◌, ◌<◌, take}
use Rattle.std.specs.Prelude.{slice_range}
use Rattle.std.specs.List.{range_with_len, All, flat_map}
use Rattle.std.specs.Int.{w16, w32, cast_signed, cast_unsigned}
use Rattle.byteorder.specs.Endian.{little_bytes}
use Rattle.ebpf_base.specs.Faults.{Row}
use Rattle.ebpf_base.specs.Numbers.{number_at}
use Rattle.ebpf_base.specs.declared.endianness.Endianness.TheVariants.{Little}
use Rattle.ebpf_parts.specs.declared.error.ParseError.{ParseError}
use Rattle.ebpf_parts.specs.declared.error.ParseError.TheVariants.{InvalidProgramCode}
use Rattle.ebpf_parts.specs.declared.insn.bpf_insn.{bpf_insn}

-- the class of a code, in its low three bits (section 3.3; the kernel's uapi/linux/bpf_common.h and
-- bpf.h, as those below): loads of immediates and packet access, and loads from memory (BPF_LD,
-- BPF_LDX)
abbrev pub class_ld : ℕ
class_ld = 0

abbrev pub class_ldx : ℕ
class_ldx = 1

-- stores of an immediate, and stores of a register and atomic operations (BPF_ST, BPF_STX)
abbrev pub class_st : ℕ
class_st = 2

abbrev pub class_stx : ℕ
class_stx = 3

-- arithmetic of 32 bits (BPF_ALU)
abbrev pub class_alu : ℕ
class_alu = 4

-- jumps by comparisons of 64 bits, calls and exits, and jumps by comparisons of 32 bits (BPF_JMP,
-- BPF_JMP32)
abbrev pub class_jmp : ℕ
class_jmp = 5

abbrev pub class_jmp32 : ℕ
class_jmp32 = 6

-- arithmetic of 64 bits (BPF_ALU64)
abbrev pub class_alu64 : ℕ
class_alu64 = 7

-- a load of an immediate of 64 bits, in two slots (section 5.4)
abbrev pub ld_imm64 : ℕ
ld_imm64 = 0x18

-- jumps that are always taken, by the offset and by the immediate (section 4.3)
abbrev pub ja : ℕ
ja = 0x05

abbrev pub ja32 : ℕ
ja32 = 0x06

-- a call, and the end of a function (section 4.3)
abbrev pub call : ℕ
call = 0x85

abbrev pub exit : ℕ
exit = 0x95

-- the source of a load of 64 bits: a map by its descriptor, and an address in a map's data (section
-- 5.4; the kernel's uapi/linux/bpf.h: BPF_PSEUDO_MAP_FD, BPF_PSEUDO_MAP_VALUE)
abbrev pub pseudo_map_fd : ℕ
pseudo_map_fd = 1

abbrev pub pseudo_map_value : ℕ
pseudo_map_value = 2

-- a kernel variable's address by the id of its type, and a function's address (section 5.4;
-- BPF_PSEUDO_BTF_ID,
-- BPF_PSEUDO_FUNC)
abbrev pub pseudo_btf_id : ℕ
pseudo_btf_id = 3

abbrev pub pseudo_func : ℕ
pseudo_func = 4

-- the source of a call: of a function of the same program, and of a kernel function by the id of
-- its type (section 4.3;
-- BPF_PSEUDO_CALL, BPF_PSEUDO_KFUNC_CALL)
abbrev pub pseudo_call : ℕ
pseudo_call = 1

abbrev pub pseudo_kfunc_call : ℕ
pseudo_kfunc_call = 2

-- the immediate of a slot that a CO-RE relocation poisoned: the number of a helper function that no
-- kernel has (libbpf's relo_core.c)
abbrev pub poison_call : ℕ
poison_call = 0x0bad2310

-- whether a signed number is a natural one
abbrev pub is_number : ℤ → ℕ → Bool
is_number (pos m) n = m == n
is_number (negsuc _) n = false

-- a call of that number, with no registers and the offset 0, as a CO-RE relocation writes it
-- (bpf_core_poison_insn of libbpf's relo_core.c)
abbrev pub is_poisoned : bpf_insn → Bool
is_poisoned slot =
    slot.code == call
    && slot.regs == 0
    && is_number slot.off 0
    && is_number slot.imm poison_call

-- the immediate of a call of a weak extern that the kernel lacks, less the index of the extern's
-- symbol (libbpf's
-- POISON_CALL_KFUNC_BASE)
abbrev pub absent_kfunc : ℕ
absent_kfunc = 2002000000

-- the bits of a load's or store's code that say how many bytes it moves: 8, 4, 2 and 1 (section 5;
-- BPF_DW, BPF_W,
-- BPF_H, BPF_B)
abbrev pub size_dw : ℕ
size_dw = 0x18

abbrev pub size_w : ℕ
size_w = 0x00

abbrev pub size_h : ℕ
size_h = 0x08

abbrev pub size_b : ℕ
size_b = 0x10

-- ---- slots of eBPF byte code (RFC 9669, section 3: Instruction encoding)

-- the registers' byte: the destination in the low four bits, the source in the high four
abbrev pub dst_of : bpf_insn → ℕ
dst_of slot = slot.regs % 16

abbrev pub src_of : bpf_insn → ℕ
src_of slot = slot.regs / 16

abbrev pub registers : ℕ → ℕ → ℕ
registers src dst = src * 16 + dst

abbrev pub is_zero : ℤ → Bool
is_zero (pos n) = n == 0
is_zero (negsuc n) = false

-- A call of a function of the same object, relative to this place: class 5 in the low three bits of
-- the code and
-- 0x80 in the others, source 1, destination 0, offset 0.
abbrev pub is_pseudo_call : bpf_insn → Bool
is_pseudo_call slot =
    (slot.code == call)
    && ((src_of slot == pseudo_call) && ((dst_of slot == 0) && is_zero slot.off))

-- the code of a call, with no registers (section 4.3.1: a helper function by its number)
abbrev pub is_helper_call : bpf_insn → Bool
is_helper_call slot = slot.code == call && slot.regs == 0

-- The slot of the eight bytes from an offset on: code, registers, a signed offset in two bytes
-- and a signed immediate in four, the lowest byte first.
unfoldable pub slot_at : List ℕ → ℕ → bpf_insn
slot_at bytes offset = record {
  code = slice_index bytes offset;
  regs = slice_index bytes (offset + 1);
  off = cast_signed w16 (number_at Little 2 bytes (offset + 2));
  imm = cast_signed w32 (number_at Little 4 bytes (offset + 4));
}

-- the slots that the bytes are, one after the other
unfoldable pub slots_of : List ℕ → List bpf_insn
slots_of bytes = map (λ k. slot_at bytes (8 * k)) (range_with_len 0 (length bytes / 8))

-- the bytes that a slot is
abbrev pub slot_bytes : bpf_insn → List ℕ
slot_bytes slot =
    slot.code
    ∷ slot.regs
    ∷ (little_bytes 2 (cast_unsigned w16 slot.off) ++ little_bytes 4 (cast_unsigned w32 slot.imm))

-- bytes that are no whole slots
unfoldable pub code_faults : List ℕ → List (Row ParseError)
code_faults bytes = (not (length bytes % 8 == 0), InvalidProgramCode) ∷ []

-- ---- that slots hold the bytes that they were read of

-- the bytes of the slot at an offset are the eight from there on
abbrev pub SlotIsBytes : Type 0
SlotIsBytes =
    (bytes : List ℕ) (offset : ℕ)
    → All (λ b. b < 256) bytes
    → offset + 8 ≤ length bytes
    → slot_bytes (slot_at bytes offset) ≡ slice_range bytes offset (offset + 8)

-- the bytes of all slots, one after the other, are those of the whole slots that the bytes have
abbrev pub SlotsAreBytes : Type 0
SlotsAreBytes =
    (bytes : List ℕ)
    → All (λ b. b < 256) bytes
    → flat_map slot_bytes (slots_of bytes) ≡ take (8 * (length bytes / 8)) bytes
