-- What a handle owns.
use Rattle.std.specs.Prelude.{Option, Some, None, ℕ, ◌==◌, List, if◌then◌else◌}
use Rattle.std.specs.Box.Ownership.{box_owns}
use Rattle.std.specs.declared.alloc.Global.{Global}
use Rattle.std.specs.contracts.impls.GlobalAllocator.TheImpl.{ghosts}
use base.Fml.{Fml, feq}
use denote.RawPtr.{Ptr, null_ptr}
use Rattle.capi_exports.specs.contracts.held.Held.{the_row}
use Rattle.capi_exports.specs.declared.held.Held.{Held}
use Rattle.capi_rows.specs.declared.refusal.Refusal.{Refusal}
use Rattle.ebpf_limits.specs.Within.{within_fault}
use Rattle.ebpf_object.specs.Objects.{parse_fault_as}
use Rattle.ebpf_parts.specs.declared.parse_mode.ParseMode.{ParseMode}
use Rattle.ebpf_parts.specs.declared.parse_mode.ParseMode.TheVariants.{Strict, Lenient}
use Rattle.capi_rows.specs.Handles.{CannotParse}

-- the right to take and free memory; any two free the same blocks
abbrev pub heap : Global
heap = record { memory = record { seal = tt } }

-- an object and its last pass in a block of their own, or no block: the pointer is null
abbrev pub handle_owns : Ptr → Option Held → Fml
handle_owns p None = feq Ptr p null_ptr
handle_owns p (Some x) = box_owns (ghosts.dealloc_token heap) the_row p x

-- ---- why a file can't be opened, and not within a limit

-- the fault of a file by a reading
abbrev pub CannotOpen : ParseMode → List ℕ → Refusal → Type 0
CannotOpen mode file = CannotParse (parse_fault_as mode file)

-- the reading of a flag
abbrev pub parse_mode_of : ℕ → ParseMode
parse_mode_of lenient = if lenient == 0 then Strict else Lenient

-- its fault by a reading and within so many bytes
abbrev pub CannotOpenWithin : ParseMode → ℕ → List ℕ → Refusal → Type 0
CannotOpenWithin mode most file = CannotParse (within_fault mode most file)
