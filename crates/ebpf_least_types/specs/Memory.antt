-- The error of `least_types` that says that memory is out.
use Rattle.std.specs.Prelude.{Bool, true, false}
use Rattle.ebpf_least_types.specs.declared.error.LeastTypesError.{LeastTypesError}
use Rattle.ebpf_least_types.specs.declared.error.LeastTypesError.TheVariants.{OutOfMemory}

abbrev pub is_least_memory : LeastTypesError → Bool
is_least_memory OutOfMemory = true
is_least_memory _ = false
