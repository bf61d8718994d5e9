-- The lines of a program's slots, and of a program.
use Rattle.std.specs.Prelude.{ℕ, ◌+◌, ◌/◌, ◌%◌, nat_lt, if◌then◌else◌, List, [], ◌∷◌, ◌++◌, length}
use Rattle.std.specs.Prelude.{codes}
use Rattle.std.specs.Fmt.{decimal}
use Rattle.std.specs.List.{flat_map}
use Rattle.ebpf_parts.specs.Slots.{slot_bytes}
use Rattle.ebpf_parts.specs.declared.insn.bpf_insn.{bpf_insn}

-- the digit of a number below 16
abbrev pub hex_digit : ℕ → ℕ
hex_digit n = if nat_lt n 10 then 48 + n else 87 + n

-- bytes as numbers of base 16 with two digits, with single spaces between them, and a line end
abbrev pub hex_line : List ℕ → List ℕ
hex_line [] = 10 ∷ []
hex_line (b ∷ []) = hex_digit (b / 16) ∷ hex_digit (b % 16) ∷ 10 ∷ []
hex_line (b ∷ c ∷ bs) = hex_digit (b / 16) ∷ hex_digit (b % 16) ∷ 32 ∷ hex_line (c ∷ bs)

abbrev pub slot_line : bpf_insn → List ℕ
slot_line slot = hex_line (slot_bytes slot)

-- `program NAME slots N`
abbrev pub head_line : List ℕ → List bpf_insn → List ℕ
head_line name slots =
    codes "program " ++ name ++ codes " slots " ++ decimal (length slots) ++ 10 ∷ []

-- .. and a line for each slot
abbrev pub program_text : List ℕ → List bpf_insn → List ℕ
program_text name slots = head_line name slots ++ flat_map slot_line slots
