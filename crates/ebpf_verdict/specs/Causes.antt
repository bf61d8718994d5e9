-- The causes for which a slot of a finished program fails on a kernel, by the slot and the types of
-- the kernel (RFC 9669, section 4.3.1, for calls of helper functions; section 5.4 for maps).
use Rattle.std.specs.Prelude.{ℕ, ◌-◌, ◌==◌, nat_le, Bool, true, false, ◌&&◌, ◌||◌, List, Option}
use Rattle.std.specs.Prelude.{Some, None, slice_get, if◌then◌else◌}
use Rattle.std.specs.Option.{option_and_then}
use Rattle.std.specs.Int.{w32, cast_unsigned}
use Rattle.ebpf_btf.specs.TypeInfo.{TypeInfo}
use Rattle.ebpf_load_info.specs.KernelNumbers.{knows_helper, knows_map_type}
use Rattle.ebpf_parts.specs.Slots.{absent_kfunc, call, ld_imm64, pseudo_map_fd, pseudo_map_value}
use Rattle.ebpf_parts.specs.Slots.{src_of}
use Rattle.ebpf_parts.specs.declared.insn.bpf_insn.{bpf_insn}
use Rattle.ebpf_parts.specs.Slots.{is_poisoned}
use Rattle.ebpf_verdict.specs.declared.cause.Cause.{Cause}
use Rattle.ebpf_verdict.specs.declared.cause.Cause.TheVariants.{Poisoned, NoHelper, NoFunction}
use Rattle.ebpf_verdict.specs.declared.cause.Cause.TheVariants.{NoMapType}

-- ---- calls by a number

-- a kernel that doesn't know the number lacks the helper function; where its types have no
-- enumeration of helper functions nothing is said
abbrev pub helper_cause : ℕ → Option Bool → Option Cause
helper_cause number None = None
helper_cause number (Some true) = None
helper_cause number (Some false) = Some (NoHelper number)

-- numbers from 2,002,000,000 on stand for weak externs that the kernel lacks
abbrev pub call_cause : TypeInfo → ℕ → Option Cause
call_cause kernel number =
    if nat_le absent_kfunc number
    then Some (NoFunction (number - absent_kfunc))
    else helper_cause number (knows_helper kernel number)

-- source 0: neither a function of the program nor one of the kernel
abbrev pub calls_by_number : bpf_insn → Bool
calls_by_number slot = slot.code == call && src_of slot == 0

-- the cause for which a slot fails where it is reached
abbrev pub slot_cause : TypeInfo → bpf_insn → Option Cause
slot_cause kernel slot =
    if is_poisoned slot then Some Poisoned
    else (if calls_by_number slot
    then call_cause kernel (cast_unsigned w32 slot.imm)
    else None)

-- ---- maps

-- a load of a map's descriptor, or of an address in a map's data
abbrev pub names_map : bpf_insn → Bool
names_map slot =
    slot.code == ld_imm64 && (src_of slot == pseudo_map_fd || src_of slot == pseudo_map_value)

-- descriptors are 1, 2, .. in byte order of the maps' names
abbrev pub map_number : ℕ → Option ℕ
map_number descriptor = if descriptor == 0 then None else Some (descriptor - 1)

abbrev pub type_cause : ℕ → ℕ → Option Bool → Option Cause
type_cause map number None = None
type_cause map number (Some true) = None
type_cause map number (Some false) = Some (NoMapType map number)

-- the cause for which the map that a slot refers to can't be made, reached or not: a loader makes
-- maps before the kernel sees programs
abbrev pub map_cause : TypeInfo → List ℕ → bpf_insn → Option Cause
map_cause kernel map_types slot =
    if names_map slot
    then option_and_then (λ map.
    option_and_then (λ number. type_cause map number (knows_map_type kernel number))
    (slice_get map_types map)) (map_number (cast_unsigned w32 slot.imm))
    else None
