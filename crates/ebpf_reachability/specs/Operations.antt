-- The operations of arithmetic and of conditional jumps: the high four bits of a code (RFC 9669,
-- sections 4.1 and 4.3).
use Rattle.std.specs.Prelude.{ℕ}

abbrev pub op_add : ℕ
op_add = 0x0

abbrev pub op_sub : ℕ
op_sub = 0x1

abbrev pub op_mul : ℕ
op_mul = 0x2

abbrev pub op_div : ℕ
op_div = 0x3

abbrev pub op_or : ℕ
op_or = 0x4

abbrev pub op_and : ℕ
op_and = 0x5

abbrev pub op_lsh : ℕ
op_lsh = 0x6

abbrev pub op_rsh : ℕ
op_rsh = 0x7

abbrev pub op_neg : ℕ
op_neg = 0x8

abbrev pub op_mod : ℕ
op_mod = 0x9

abbrev pub op_xor : ℕ
op_xor = 0xa

abbrev pub op_mov : ℕ
op_mov = 0xb

abbrev pub op_arsh : ℕ
op_arsh = 0xc

abbrev pub op_end : ℕ
op_end = 0xd

abbrev pub jeq : ℕ
jeq = 0x1

abbrev pub jgt : ℕ
jgt = 0x2

abbrev pub jge : ℕ
jge = 0x3

abbrev pub jset : ℕ
jset = 0x4

abbrev pub jne : ℕ
jne = 0x5

abbrev pub jsgt : ℕ
jsgt = 0x6

abbrev pub jsge : ℕ
jsge = 0x7

abbrev pub jlt : ℕ
jlt = 0xa

abbrev pub jle : ℕ
jle = 0xb

abbrev pub jslt : ℕ
jslt = 0xc

abbrev pub jsle : ℕ
jsle = 0xd

-- the code of an indirect jump: to the slot whose address a register has (BPF_JMP, BPF_JA, BPF_X)
abbrev pub indirect_jump : ℕ
indirect_jump = 0x0d
