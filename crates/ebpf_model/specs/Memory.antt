-- The one error of relocation that no definition states: an allocation failure.
use Rattle.std.specs.Prelude.{◌≡◌, Bool, true, false, [], IsTrue}
use Rattle.ebpf_model.specs.declared.error.EbpfRelocationError.{EbpfRelocationError}
use Rattle.ebpf_model.specs.declared.error.RelocationError.{RelocationError}
use Rattle.ebpf_model.specs.declared.error.RelocationError.TheVariants.{OutOfMemory}

abbrev pub is_slot_memory : RelocationError → Bool
is_slot_memory OutOfMemory = true
is_slot_memory _ = false

-- an allocation failure, of an error that names a function
abbrev pub is_memory_at : EbpfRelocationError → Bool
is_memory_at e = is_slot_memory e.error

-- an allocation failure names no function
abbrev pub NamesNoneForMemory : EbpfRelocationError → Type 0
NamesNoneForMemory e = IsTrue (is_memory_at e) → e.function ≡ []
