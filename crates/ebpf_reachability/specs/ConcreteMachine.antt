-- A machine that runs a program as RFC 9669 defines its instructions. It has registers of 64 bits
-- and a stack of calls, and takes no definition from the analysis.
--
-- Where the RFC leaves a register's number open, it is any number: after a load, after a call, and
-- after an instruction that the RFC doesn't define. So each execution on a kernel is one of this
-- machine, which has others too.
--
-- Example: behind `r1 = -1; r1 >>= 60` r1 holds 15, and `if w1 > 14` jumps.
use Rattle.std.specs.Prelude.{◌≡◌, ◌≢◌, ℕ, ◌+◌, ◌*◌, ◌/◌, ◌%◌, ◌^◌, ◌<◌, ◌⊎◌, ℤ, pos, negsuc}
use Rattle.std.specs.Prelude.{◌+ℤ◌, Bool, true, false, if◌then◌else◌, ◌==◌, List, [], ◌∷◌, length}
use Rattle.std.specs.Prelude.{Option, Some, None, IfSome, slice_get}
use Rattle.std.specs.Option.{option_map}
use Rattle.std.specs.Int.{w32, w64, cast_unsigned}
use Rattle.std.specs.Int.RustNames.{FitsSigned}
use Rattle.ebpf_parts.specs.declared.insn.bpf_insn.{bpf_insn}
use Rattle.ebpf_parts.specs.Slots.{dst_of, src_of, is_poisoned, is_pseudo_call}
use Rattle.ebpf_linker.specs.Functions.{Among}
use Rattle.ebpf_reachability.specs.MachineNumbers.{wrapped, from_register, result_of, condition_of}
use Rattle.ebpf_reachability.specs.Reached.{Assignment, AreReached, IsClosed, state_at}
use Rattle.ebpf_reachability.specs.Effects.{known}
use Rattle.ebpf_reachability.specs.declared.registers.Registers.{Registers}

-- what waits for the return of a call: the slot behind it, and the registers as they were
pub record Frame : Type 0 where
  pub place : ℕ
  pub registers : ℕ → ℕ
  pub words : (r : ℕ) → registers r < 2 ^ 64

pub record MachineState : Type 0 where
  pub place : ℕ
  pub registers : ℕ → ℕ
  pub words : (r : ℕ) → registers r < 2 ^ 64
  pub stack : List Frame

-- what a call leaves on the stack
abbrev pub frame_of : MachineState → Frame
frame_of s = record { place = s.place + 1; registers = s.registers; words = s.words }

-- all registers but these hold what they held
abbrev pub KeepsAllBut : List ℕ → (ℕ → ℕ) → (ℕ → ℕ) → Type 0
KeepsAllBut changed before after = (r : ℕ) → Among changed r ⊎ (after r ≡ before r)

-- the registers that a call may change: r0 has the result, r1 to r5 the arguments (the kernel's
-- Documentation/bpf/standardization/abi.rst)
abbrev pub caller_saved : List ℕ
caller_saved = 0 ∷ 1 ∷ 2 ∷ 3 ∷ 4 ∷ 5 ∷ []

-- the second operand: a register, or the immediate, sign extended to 64 bits (section 4.1)
abbrev pub operand : bpf_insn → (ℕ → ℕ) → ℕ
operand slot registers =
    if from_register slot then registers (src_of slot) else cast_unsigned w64 slot.imm

abbrev pub result : Bool → bpf_insn → (ℕ → ℕ) → Option ℕ
result is_32 slot registers =
    result_of is_32 slot (registers (dst_of slot)) (operand slot registers)

abbrev pub condition : Bool → bpf_insn → (ℕ → ℕ) → Option Bool
condition is_32 slot registers =
    condition_of is_32 slot (registers (dst_of slot)) (operand slot registers)

-- what a wide load loads: the immediates of its two slots, the lower half first, where the source
-- field is 0; else an address, which is any number (section 5.4)
abbrev pub wide_constant : List bpf_insn → ℕ → bpf_insn → Option ℕ
wide_constant slots i slot =
    if src_of slot == 0
    then option_map (λ second. wrapped w32 slot.imm + 2 ^ 32 * wrapped w32 second.imm)
    (slice_get slots (i + 1))
    else None

-- so many slots from the one behind (section 4.3)
abbrev pub IsTarget : ℕ → ℤ → ℕ → Type 0
IsTarget i by target = pos target ≡ pos (i + 1) +ℤ by

-- where a conditional jump goes: nothing is said where the RFC doesn't define its condition
abbrev pub IsWay : Bool → ℕ → ℤ → ℕ → Type 0
IsWay true i by target = IsTarget i by target
IsWay false i by target = target ≡ i + 1

-- codes of the classes of jumps that no instruction has
abbrev pub no_jumps : List ℕ
no_jumps = 0x0e ∷ 0x96 ∷ 0x9d ∷ 0x9e ∷ []

-- One step, from s to t, by the slot at which s is. The class is the low three bits of a code
-- (section 3.3), the operation the high four (section 4), a load's mode the high three (section 5).
pub data Step (slots : List bpf_insn) (slot : bpf_insn) (s t : MachineState) : Type 0 where
  -- ALU and ALU64 (section 4.1)
  Calculates : (is_32 : Bool)
      → slot.code % 8 ≡ (if is_32 then 4 else 7)
      → IfSome (result is_32 slot s.registers) (λ n. t.registers (dst_of slot) ≡ n)
      → KeepsAllBut (dst_of slot ∷ []) s.registers t.registers
      → t.place ≡ s.place + 1
      → t.stack ≡ s.stack
      → Step slots slot s t
  -- a wide load, which has two slots (section 5.4)
  LoadsConstant : slot.code ≡ 0x18
      → IfSome (wide_constant slots s.place slot) (λ n. t.registers (dst_of slot) ≡ n)
      → KeepsAllBut (dst_of slot ∷ []) s.registers t.registers
      → t.place ≡ s.place + 2
      → t.stack ≡ s.stack
      → Step slots slot s t
  -- A wide load with source field 4 has a function's address: from then on a helper may run that
  -- function as a callback, with any registers and a stack of its own.
  RunsCallback : slot.code ≡ 0x18
      → src_of slot ≡ 4
      → IsTarget s.place slot.imm t.place
      → t.stack ≡ []
      → Step slots slot s t
  -- packet access, the rest of class LD (section 5.5; on Linux it changes registers as a call)
  LoadsPacket : slot.code % 8 ≡ 0
      → slot.code ≢ 0x18
      → KeepsAllBut (dst_of slot ∷ caller_saved) s.registers t.registers
      → t.place ≡ s.place + 1
      → t.stack ≡ s.stack
      → Step slots slot s t
  -- LDX (sections 5.1 and 5.2)
  Loads : slot.code % 8 ≡ 1
      → KeepsAllBut (dst_of slot ∷ []) s.registers t.registers
      → t.place ≡ s.place + 1
      → t.stack ≡ s.stack
      → Step slots slot s t
  -- ST, and STX but for mode 6 (section 5.1)
  Stores : (slot.code % 8 ≡ 2) ⊎ ((slot.code % 8 ≡ 3) × (slot.code / 32 ≢ 6))
      → KeepsAllBut [] s.registers t.registers
      → t.place ≡ s.place + 1
      → t.stack ≡ s.stack
      → Step slots slot s t
  -- STX with mode 6 (section 5.3): it may fetch into the source or r0, and Linux's load-acquire
  -- loads into the destination
  StoresAtomically : slot.code % 8 ≡ 3
      → slot.code / 32 ≡ 6
      → KeepsAllBut (dst_of slot ∷ src_of slot ∷ 0 ∷ []) s.registers t.registers
      → t.place ≡ s.place + 1
      → t.stack ≡ s.stack
      → Step slots slot s t
  -- JA, by the offset, or of class JMP32 by the immediate (section 4.3)
  Jumps : ((slot.code ≡ 0x05) × IsTarget s.place slot.off t.place)
      ⊎ ((slot.code ≡ 0x06) × IsTarget s.place slot.imm t.place)
      → KeepsAllBut [] s.registers t.registers
      → t.stack ≡ s.stack
      → Step slots slot s t
  -- Linux's indirect jump: to any slot
  JumpsAnywhere : slot.code ≡ 0x0d → t.stack ≡ s.stack → Step slots slot s t
  -- a conditional jump of JMP or JMP32 (section 4.3)
  Branches : (is_32 taken : Bool)
      → slot.code % 8 ≡ (if is_32 then 6 else 5)
      → slot.code / 16 ≢ 0
      → slot.code / 16 ≢ 8
      → slot.code / 16 ≢ 9
      → IfSome (condition is_32 slot s.registers) (λ b. taken ≡ b)
      → IsWay taken s.place slot.off t.place
      → KeepsAllBut [] s.registers t.registers
      → t.stack ≡ s.stack
      → Step slots slot s t
  -- a call of a helper function or of a kernel function (section 4.3)
  Calls : (slot.code % 8 ≡ 5) ⊎ (slot.code % 8 ≡ 6)
      → (slot.code / 16 ≡ 8) ⊎ Among no_jumps slot.code
      → is_pseudo_call slot ≡ false
      → is_poisoned slot ≡ false
      → KeepsAllBut caller_saved s.registers t.registers
      → t.place ≡ s.place + 1
      → t.stack ≡ s.stack
      → Step slots slot s t
  -- what a CO-RE relocation poisoned stands for any instruction
  Poisoned : is_poisoned slot ≡ true
      → t.place ≡ s.place + 1
      → t.stack ≡ s.stack
      → Step slots slot s t
  -- a call of a function of the same program (section 4.3.2), which begins with any registers
  CallsFunction : is_pseudo_call slot ≡ true
      → IsTarget s.place slot.imm t.place
      → t.stack ≡ frame_of s ∷ s.stack
      → Step slots slot s t
  -- its return; without a caller the program ends
  Returns : (frame : Frame)
      → slot.code ≡ 0x95
      → s.stack ≡ frame ∷ t.stack
      → t.place ≡ frame.place
      → KeepsAllBut caller_saved frame.registers t.registers
      → Step slots slot s t

-- so many slots from the one behind is before the first slot
abbrev pub IsBeforeFirst : ℕ → ℤ → Type 0
IsBeforeFirst i by = (n : ℕ) × (pos (i + 1) +ℤ by ≡ negsuc n)

-- The machine stops at the end of the program's own function, and at a jump or a call to before the
-- first slot.
abbrev pub Stops : bpf_insn → MachineState → Type 0
Stops slot s =
    ((slot.code ≡ 0x95) × (s.stack ≡ []))
    ⊎ (IsBeforeFirst s.place slot.off ⊎ IsBeforeFirst s.place slot.imm)

-- Else it has a step, from each state and by each slot.
abbrev pub MachinesGoOn : Type 0
MachinesGoOn =
    (slots : List bpf_insn) (slot : bpf_insn) (s : MachineState)
    → ((t : MachineState) × Step slots slot s t) ⊎ Stops slot s

-- The states that executions come to: an execution begins at the first slot, with any registers.
pub data Executes (slots : List bpf_insn) : MachineState → Type 0 where
  Starts : (s : MachineState) → s.place ≡ 0 → s.stack ≡ [] → Executes slots s
  Proceeds : (slot : bpf_insn) (s t : MachineState)
      → Executes slots s
      → slice_get slots s.place ≡ Some slot
      → Step slots slot s t
      → Executes slots t

-- the immediates are numbers of 32 bits, as a slot's are
abbrev pub AreSlots : List bpf_insn → Type 0
AreSlots slots =
    (i : ℕ) (slot : bpf_insn) → slice_get slots i ≡ Some slot → FitsSigned w32 slot.imm

-- each number that is known is the one that a register holds
abbrev pub Agrees : Registers → (ℕ → ℕ) → Type 0
Agrees known_registers registers =
    (r n : ℕ) → known known_registers r ≡ Some n → registers r ≡ n

-- Each slot that an execution comes to is reached, and the registers hold the numbers that are
-- known there.
abbrev pub ExecutionsAgree : Type 0
ExecutionsAgree =
    (slots : List bpf_insn) (A : Assignment)
    → AreSlots slots
    → IsClosed slots A
    → (s : MachineState)
    → Executes slots s
    → s.place < length slots
    → (a : Registers) × (state_at A s.place ≡ Some a) × Agrees a s.registers

-- So the result holds each of these slots.
abbrev pub ExecutionsAreReached : Type 0
ExecutionsAreReached =
    (slots : List bpf_insn) (answer : List Bool)
    → AreSlots slots
    → AreReached slots answer
    → (s : MachineState)
    → Executes slots s
    → s.place < length slots
    → slice_get answer s.place ≡ Some true
