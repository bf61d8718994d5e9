-- What the slots of a function become that carry the outcome of a record (RFC 9669, sections 3 to
-- 5; the kernel's tools/lib/bpf/relo_core.c, bpf_core_patch_insn and bpf_core_poison_insn).
use Rattle.std.specs.Prelude.{ℕ, ◌+◌, ◌*◌, ◌/◌, ◌%◌, ◌^◌, ◌==◌, nat_lt, ℤ, pos, Bool, true, false}
use Rattle.std.specs.Prelude.{List, [], length, Option, Some, None, option_map, Result, Ok, Err}
use Rattle.std.specs.Prelude.{slice_get, slice_set, if◌then◌else◌, ◌≡◌, ◌≢◌}
use Rattle.std.specs.Int.{w32, cast_signed}
use Rattle.ebpf_btf.specs.Next.{if_some}
use Rattle.ebpf_core.specs.declared.error.RelocationError.{RelocationError}
use Rattle.ebpf_core.specs.declared.error.RelocationError.TheVariants.{InvalidInstruction}
use Rattle.ebpf_core.specs.declared.error.RelocationError.TheVariants.{InvalidInstructionIndex}
use Rattle.ebpf_core.specs.declared.field.FieldClass.{FieldClass}
use Rattle.ebpf_core.specs.declared.field.FieldClass.TheVariants.{Pointer, UnsignedInt}
use Rattle.ebpf_core.specs.declared.field.LoadedField.{LoadedField}
use Rattle.ebpf_core.specs.declared.outcome.Outcome.{Outcome}
use Rattle.ebpf_core_relo.specs.declared.carried.Carrier.{Carrier}
use Rattle.ebpf_core_relo.specs.declared.carried.Carrier.TheVariants.{Immediate, Offset, WideLoad}
use Rattle.ebpf_core_relo.specs.declared.carried.Carrier.TheVariants.{Nothing}
use Rattle.ebpf_parts.specs.declared.insn.bpf_insn.{bpf_insn}
use Rattle.ebpf_parts.specs.Slots.{call, class_alu, class_alu64, class_jmp, class_jmp32, class_ld}
use Rattle.ebpf_parts.specs.Slots.{ld_imm64, poison_call, size_b, size_dw, size_h, size_w, src_of}

-- where a slot carries a number, by its class in the low three bits: arithmetic (4 and 7) in the
-- immediate, a load or store through a register (1, 2 and 3) in the offset, a wide load (0) in two
-- immediates, a jump (5 and 6) nowhere
abbrev pub carrier_of_class : ℕ → Carrier
carrier_of_class class =
    if class == class_ld then WideLoad
    else (if class == class_alu then Immediate
    else (if class == class_jmp then Nothing
    else (if class == class_jmp32 then Nothing
    else (if class == class_alu64 then Immediate else Offset))))

abbrev pub carrier_of : bpf_insn → Carrier
carrier_of slot = carrier_of_class (slot.code % 8)

-- the 32 low bits of a number, and the 32 bits above them, as immediates
abbrev pub low_half : ℕ → ℤ
low_half number = cast_signed w32 (number % 2 ^ 32)

abbrev pub high_half : ℕ → ℤ
high_half number = cast_signed w32 (number / 2 ^ 32)

-- the bits of a load's or store's code that say how many bytes it moves
abbrev pub size_bits : ℕ → Option ℕ
size_bits size =
    if size == 8 then Some size_dw
    else (if size == 4 then Some size_w
    else (if size == 2 then Some size_h
    else (if size == 1 then Some size_b else None)))

-- a code that moves so many bytes
abbrev pub resized_code : ℕ → ℕ → Option ℕ
resized_code code size = option_map (λ bits. code / 32 * 32 + bits + code % 8) (size_bits size)

-- whether a load of the one may become a load of the other: of pointers, and of integers without a
-- sign
unfoldable pub may_resize : FieldClass → FieldClass → Bool
may_resize Pointer Pointer = true
may_resize UnsignedInt UnsignedInt = true
may_resize _ _ = false

abbrev pub code_for_target : ℕ → LoadedField → LoadedField → Option ℕ
code_for_target code local target =
    if local.size == target.size then Some code
    else (if may_resize local.class target.class then resized_code code target.size else None)

-- The code of a load or store that moves the field that was found in place of the local one. A bit
-- field has no size: on one side alone it can't be moved.
unfoldable pub moved_code : ℕ → Option LoadedField → Option LoadedField → Option ℕ
moved_code code None None = Some code
moved_code code None (Some target) = None
moved_code code (Some local) None = None
moved_code code (Some local) (Some target) = code_for_target code local target

abbrev pub with_offset : bpf_insn → ℕ → Outcome → Option bpf_insn
with_offset slot number outcome =
    if nat_lt number (2 ^ 15)
    then option_map (λ code. record slot { code = code; off = pos number })
    (moved_code slot.code outcome.local outcome.target)
    else None

-- a slot that carries a number, if it can
unfoldable pub slot_with_value : Carrier → bpf_insn → ℕ → Outcome → Option bpf_insn
slot_with_value Immediate slot number outcome =
    if src_of slot == 0 then Some (record slot { imm = low_half number }) else None
slot_with_value Offset slot number outcome = with_offset slot number outcome
slot_with_value WideLoad slot number outcome = Some (record slot { imm = low_half number })
slot_with_value Nothing slot number outcome = None

-- a slot that fails where it is reached: a call of a helper function that no kernel has
abbrev pub poison : bpf_insn
poison = record { code = call; regs = 0; off = pos 0; imm = pos poison_call }

abbrev pub is_wide_load : Carrier → Bool
is_wide_load WideLoad = true
is_wide_load _ = false

-- what a slot becomes that carries an outcome, if it can: by its class with a number, without one
-- what fails where it is reached
abbrev pub patched_slot : Option ℕ → bpf_insn → Outcome → Option bpf_insn
patched_slot None slot outcome = Some poison
patched_slot (Some number) slot outcome = slot_with_value (carrier_of slot) slot number outcome

-- ---- the slots of a function

-- whether the slot behind carries an outcome too: a load of a number of 64 bits takes two
abbrev pub takes_next : Option ℕ → bpf_insn → Bool
takes_next None slot = slot.code == ld_imm64
takes_next (Some number) slot = is_wide_load (carrier_of slot)

-- what that slot becomes
abbrev pub patched_next_slot : Option ℕ → bpf_insn → bpf_insn
patched_next_slot None next = poison
patched_next_slot (Some number) next = record next { imm = high_half number }

-- The slots of a function of which slot i carries the outcome of the record with a number. The
-- faults in order: there is no slot i, it can't carry the outcome, or one behind it that is to
-- carry it too is not there.
unfoldable pub written : ℕ → List bpf_insn → ℕ → Outcome → Result (List bpf_insn) RelocationError
written record_number slots i outcome =
    if_some (slice_get slots i)
    (λ slot. if_some (patched_slot outcome.value slot outcome)
    (λ new.
    if takes_next outcome.value slot
    then if_some (slice_get slots (i + 1))
    (λ next. Ok (slice_set (slice_set slots i new) (i + 1) (patched_next_slot outcome.value next)))
    (Err (InvalidInstructionIndex (i + 1) (length slots) record_number))
    else Ok (slice_set slots i new))
    (Err (InvalidInstruction record_number i [])))
    (Err (InvalidInstructionIndex i (length slots) record_number))

-- ---- slot by slot

-- the slot behind one that carries an outcome, where it is to carry it too
abbrev pub next_slot_written : Option ℕ → bpf_insn → bpf_insn → bpf_insn
next_slot_written value slot next =
    if takes_next value slot then patched_next_slot value next else next

-- the slots of a function of which slot i carries an outcome, slot by slot
pub record CarriesAt (i : ℕ) (outcome : Outcome) (before after : List bpf_insn) : Type 0 where
  pub old : bpf_insn
  pub was : slice_get before i ≡ Some old
  pub new : bpf_insn
  pub carries : patched_slot outcome.value old outcome ≡ Some new
  pub is : slice_get after i ≡ Some new
  pub next : slice_get after (i + 1)
      ≡ option_map (next_slot_written outcome.value old) (slice_get before (i + 1))
  pub others : (k : ℕ) → k ≢ i → k ≢ i + 1 → slice_get after k ≡ slice_get before k
  pub as_many : length after ≡ length before

-- where a record's outcome is written, its slot carries it
abbrev pub WrittenSlotsCarry : Type 0
WrittenSlotsCarry =
    (number : ℕ) (before after : List bpf_insn) (i : ℕ) (outcome : Outcome)
    → written number before i outcome ≡ Ok after
    → CarriesAt i outcome before after
