-- Calls of helper functions that older kernels lack, and of the older functions in their place
-- (helper functions by their numbers in the kernel's `bpf_func_id`).
use Rattle.std.specs.Prelude.{◌≡◌, ℤ, pos, Bool, true, false, ◌&&◌, ◌||◌, map, MatchBool}
use Rattle.std.specs.Prelude.{option_map, if◌then◌else◌}
use Rattle.std.specs.FinMap.{FinMap, get, entries}
use Rattle.std.specs.List.{list_any}
use Rattle.std.specs.Ordering.{int_eq}
use Rattle.ebpf_base.specs.Maps.{key_cmp}
use Rattle.ebpf_parts.specs.declared.insn.bpf_insn.{bpf_insn}
use Rattle.ebpf_parts.specs.Slots.{is_helper_call}
use Rattle.ebpf_model.specs.Symbols.{FunctionKey}
use Rattle.ebpf_model.specs.declared.function.Function.{Function}

-- BPF_FUNC_probe_read and BPF_FUNC_probe_read_str, which every kernel has
abbrev pub probe_read : ℤ
probe_read = pos 4

abbrev pub probe_read_str : ℤ
probe_read_str = pos 45

-- the same for addresses of a process and of the kernel, which older kernels lack
abbrev pub probe_read_user : ℤ
probe_read_user = pos 112

abbrev pub probe_read_kernel : ℤ
probe_read_kernel = pos 113

abbrev pub probe_read_user_str : ℤ
probe_read_user_str = pos 114

abbrev pub probe_read_kernel_str : ℤ
probe_read_kernel_str = pos 115

abbrev pub reads_bytes : ℤ → Bool
reads_bytes helper = int_eq helper probe_read_user || int_eq helper probe_read_kernel

abbrev pub reads_text : ℤ → Bool
reads_text helper = int_eq helper probe_read_user_str || int_eq helper probe_read_kernel_str

-- the function that every kernel has, in the place of one that older kernels lack
abbrev pub older_helper : ℤ → ℤ
older_helper helper =
    if reads_bytes helper
    then probe_read
    else (if reads_text helper then probe_read_str else helper)

abbrev pub calls_newer : bpf_insn → Bool
calls_newer slot = is_helper_call slot && (reads_bytes slot.imm || reads_text slot.imm)

-- the slot with an older helper function
abbrev pub older : bpf_insn → bpf_insn
older slot = if calls_newer slot then record slot { imm = older_helper slot.imm } else slot

-- the function for a kernel that has the newer helper functions, or has them not
abbrev pub sanitized : Bool → Function → Function
sanitized true f = f
sanitized false f = record f { instructions = map older f.instructions }

-- whether some function calls a newer helper function
abbrev pub have_newer : FinMap key_cmp Function → Bool
have_newer functions = list_any (λ e. list_any calls_newer e.1.instructions) (entries functions)

-- where a newer helper function is called, one answer for all functions; else none is asked for,
-- and they stay
abbrev pub AreSanitized : (Bool → Type 0) → FinMap key_cmp Function → FinMap key_cmp Function
    → Type 0
AreSanitized IsAnswer before after =
    MatchBool (have_newer before)
    ((answer : Bool)
    × IsAnswer answer
    × ((key : FunctionKey) → get after key ≡ option_map (sanitized answer) (get before key)))
    (after ≡ before)

-- twice is once, where the answers are alike
abbrev pub TwiceIsOnce : Type 0
TwiceIsOnce = (answer : Bool) (before after again : FinMap key_cmp Function)
    → AreSanitized (λ a. a ≡ answer) before after
    → AreSanitized (λ a. a ≡ answer) after again
    → again ≡ after
