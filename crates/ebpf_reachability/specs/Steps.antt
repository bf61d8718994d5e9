-- The steps of a program: from a slot and what is known of the registers there, to which slots, and
-- what is known there. A step that the program may take is among them; an indirect jump has a step
-- to every slot.
use Rattle.std.specs.Prelude.{ℕ, zero, suc, ℤ, pos, negsuc, ◌+ℤ◌, Bool, true, false, Option, Some}
use Rattle.std.specs.Prelude.{None, List, [], ◌∷◌, ◌++◌, length, nat_lt, slice_get, ◌==◌}
use Rattle.std.specs.Prelude.{if◌then◌else◌}
use Rattle.ebpf_parts.specs.declared.insn.bpf_insn.{bpf_insn}
use Rattle.ebpf_parts.specs.Slots.{pseudo_func, dst_of, src_of}
use Rattle.ebpf_linker.specs.Functions.{Flow, Return, PseudoCall, WideLoad, Jump, Branch, Next}
use Rattle.ebpf_linker.specs.Functions.{flow}
use Rattle.ebpf_reachability.specs.declared.registers.Registers.{Registers}
use Rattle.ebpf_reachability.specs.declared.steps.SlotState.{SlotState}
use Rattle.ebpf_reachability.specs.Effects.{unknown, learned, called, after, decided}
use Rattle.ebpf_reachability.specs.Effects.{wide_load_result}
use Rattle.ebpf_reachability.specs.Operations.{indirect_jump}

-- a step to a place, which leads nowhere where it leaves the program
abbrev pub steps_to : List bpf_insn → ℤ → Registers → List SlotState
steps_to slots (pos n) a =
    if nat_lt n (length slots) then record { place = n; registers = a } ∷ [] else []
steps_to slots (negsuc n) a = []

-- the place behind a slot, and one so many slots further
abbrev pub next_index : ℕ → ℤ
next_index i = pos i +ℤ pos 1

abbrev pub target_index : ℕ → ℤ → ℤ
target_index i d = next_index i +ℤ d

-- one way where the jump decides, else both
abbrev pub ways : Option Bool → List SlotState → List SlotState → List SlotState
ways None here there = here ++ there
ways (Some true) here there = there
ways (Some false) here there = here

-- A wide load with source field 4 has a callback's address (RFC 9669, section 5.4): it is called
-- with registers of which nothing is known.
abbrev pub callback : List bpf_insn → ℕ → bpf_insn → List SlotState
callback slots i slot =
    if src_of slot == pseudo_func then steps_to slots (target_index i slot.imm) unknown else []

abbrev pub steps_by_flow : List bpf_insn → ℕ → bpf_insn → Registers → Flow → List SlotState
steps_by_flow slots i slot a Return = []
steps_by_flow slots i slot a PseudoCall =
    steps_to slots (next_index i) (called a) ++ steps_to slots (target_index i slot.imm) unknown
steps_by_flow slots i slot a WideLoad =
    steps_to slots (pos i +ℤ pos 2) (learned a (dst_of slot) (wide_load_result slots i slot))
    ++ callback slots i slot
steps_by_flow slots i slot a (Jump d) = steps_to slots (target_index i d) a
steps_by_flow slots i slot a (Branch d) =
    ways (decided slot a) (steps_to slots (next_index i) a) (steps_to slots (target_index i d) a)
steps_by_flow slots i slot a Next = steps_to slots (next_index i) (after slot a)

abbrev pub steps_at : List bpf_insn → ℕ → Registers → Option bpf_insn → List SlotState
steps_at slots i a None = []
steps_at slots i a (Some slot) = steps_by_flow slots i slot a (flow slot)

-- the first slots, so many, with nothing known
abbrev pub first_slots : ℕ → List SlotState
first_slots zero = []
first_slots (suc n) = first_slots n ++ record { place = n; registers = unknown } ∷ []

-- An indirect jump may go to any slot: no register is known to hold a slot's address.
abbrev pub jumps_anywhere : List bpf_insn → Option bpf_insn → List SlotState
jumps_anywhere slots None = []
jumps_anywhere slots (Some slot) =
    if slot.code == indirect_jump then first_slots (length slots) else []

abbrev pub steps : List bpf_insn → ℕ → Registers → List SlotState
steps slots i a =
    steps_at slots i a (slice_get slots i) ++ jumps_anywhere slots (slice_get slots i)
