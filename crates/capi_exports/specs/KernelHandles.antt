-- What a handle of a kernel's types owns, and what holds of the types.
use Rattle.std.specs.Prelude.{◌≡◌, Option, Some, None, List, ℕ, Ok, Result, Err}
use Rattle.std.specs.Box.Ownership.{box_owns}
use Rattle.std.specs.contracts.impls.GlobalAllocator.TheImpl.{ghosts}
use base.Fml.{Fml, feq}
use denote.RawPtr.{Ptr, null_ptr}
use Rattle.capi_exports.specs.Handles.{heap}
use Rattle.capi_exports.specs.contracts.kernel_types.Kernel.{the_row}
use Rattle.capi_exports.specs.declared.kernel_types.Kernel.{Kernel}
use Rattle.capi_rows.specs.FileTypes.{types_in}
use Rattle.capi_rows.specs.Refusals.{plain}
use Rattle.capi_rows.specs.declared.codes.TheConstants.{CLOSED}
use Rattle.capi_rows.specs.declared.refusal.Refusal.{Refusal}
use Rattle.ebpf_btf.specs.TypeInfo.{TypeInfo}

-- types in a block of their own, or no block: the pointer is null
abbrev pub kernel_owns : Ptr → Option Kernel → Fml
kernel_owns p None = feq Ptr p null_ptr
kernel_owns p (Some x) = box_owns (ghosts.dealloc_token heap) the_row p x

-- the types that the bytes spell are held
abbrev pub HoldsTypes : List ℕ → Option Kernel → Type 0
HoldsTypes bytes None = ⊥
HoldsTypes bytes (Some kernel) = types_in bytes ≡ Ok kernel.types

-- what holds of the types that are held
abbrev pub OfTypes : (TypeInfo → Type 0) → Option Kernel → Type 0
OfTypes Holds None = ⊥
OfTypes Holds (Some kernel) = Holds kernel.types

-- the refusal over the types that are held; a closed handle of types is refused first
abbrev pub WhyOfTypes : (TypeInfo → Refusal → Type 0) → Option Kernel → Refusal → Type 0
WhyOfTypes Why None r = r ≡ plain CLOSED
WhyOfTypes Why (Some kernel) r = Why kernel.types r

-- what is found over the types that are held, or why not
abbrev pub FindsOfTypes : {X : Type 0} → (TypeInfo → Result X Refusal → Type 0) → Option Kernel
    → Result X Refusal → Type 0
FindsOfTypes Finds None found = found ≡ Err (plain CLOSED)
FindsOfTypes Finds (Some kernel) found = Finds kernel.types found
