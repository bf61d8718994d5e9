-- The type with a number, from a table of the types in the order of their numbers.
use Rattle.std.specs.Prelude.{ℕ, List, Result, slice_get}
use Rattle.std.specs.Option.{ok_or}
use Rattle.ebpf_parts.specs.declared.binding.InvalidTypeBinding.{InvalidTypeBinding}

-- the type of a number; a number past the table comes back
abbrev pub at_number : {T : Type 0} → List T → ℕ → Result T (InvalidTypeBinding ℕ)
at_number types number = ok_or (slice_get types number) (record { value = number })
