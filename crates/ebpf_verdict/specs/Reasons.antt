-- The reasons for which a finished program breaks on a kernel: those of its slots, in the order of
-- the slots.
use Rattle.std.specs.Prelude.{ℕ, Bool, false, List, length, Option, None}
use Rattle.std.specs.Prelude.{option_map, slice_get, if◌then◌else◌, unwrap_or}
use Rattle.std.specs.List.{filter_map, range_with_len}
use Rattle.std.specs.Option.{option_and_then}
use Rattle.ebpf_base.specs.Faults.{or_else}
use Rattle.ebpf_btf.specs.TypeInfo.{TypeInfo}
use Rattle.ebpf_parts.specs.declared.insn.bpf_insn.{bpf_insn}
use Rattle.ebpf_verdict.specs.Causes.{map_cause, slot_cause}
use Rattle.ebpf_verdict.specs.declared.cause.Cause.{Cause}
use Rattle.ebpf_verdict.specs.declared.reasons.SlotReason.{SlotReason}

abbrev pub is_reached : List Bool → ℕ → Bool
is_reached reached i = unwrap_or (slice_get reached i) false

-- a slot that isn't reached fails by no call
abbrev pub cause_if_reached : TypeInfo → Bool → bpf_insn → Option Cause
cause_if_reached kernel reached slot = if reached then slot_cause kernel slot else None

module _ (kernel : TypeInfo) (map_types : List ℕ) where
  -- a slot fails by its map, reached or not, or else by its call where it is reached
  abbrev pub cause_of : Bool → bpf_insn → Option Cause
  cause_of reached slot =
      or_else (map_cause kernel map_types slot) (cause_if_reached kernel reached slot)

  -- the reason of the slot at a position, by which slots are reached
  abbrev pub reason_at : List Bool → List bpf_insn → ℕ → Option SlotReason
  reason_at reached slots i =
      option_and_then (λ slot.
      option_map (λ cause. record { slot = i; cause = cause })
      (cause_of (is_reached reached i) slot)) (slice_get slots i)

  -- the reasons of all slots
  abbrev pub reasons_of : List Bool → List bpf_insn → List SlotReason
  reasons_of reached slots =
      filter_map (reason_at reached slots) (range_with_len 0 (length slots))
