-- The worked example of specs/Faults.antt, computed.
use Rattle.std.proofs.Common.{◌≡◌, [], ◌∷◌, List, Option, Some, None, ℕ, refl}
use Rattle.ebpf_btf_ext.specs.declared.ext_infos.bpf_line_info.{bpf_line_info}
use Rattle.ebpf_linker.specs.Functions.{FunctionContent}
use Rattle.ebpf_linker.specs.Faults.{content_fault}

line_at : ℕ → bpf_line_info
line_at slot = record { insn_off = slot; file_name_off = 0; line_off = 0; line_col = 0 }

with_lines : List bpf_line_info → FunctionContent
with_lines lines = record { slots = []; func_info = []; line_info = lines }

-- the error 1 is of the length, the error 2 of the line records
fault_of_example : content_fault {E = ℕ} (with_lines (line_at 8 ∷ line_at 5 ∷ [])) 0 1 2 ≡ Some 2
unfolding line_at with_lines
fault_of_example = refl

-- in their order, both lines move with the copy
no_fault_of_example : content_fault {E = ℕ} (with_lines (line_at 5 ∷ line_at 8 ∷ [])) 100 1 2 ≡ None
unfolding line_at with_lines
no_fault_of_example = refl
