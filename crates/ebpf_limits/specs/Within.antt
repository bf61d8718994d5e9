-- Parsing within a limit: the first fault of a file, the limit among its faults.
use Rattle.std.specs.Prelude.{◌≢◌, ℕ, List, Option, Some, None, option_map, nat_lt, if◌then◌else◌}
use Rattle.ebpf_base.specs.Faults.{or_else, first_in}
use Rattle.ebpf_elf.specs.Faults.{faults}
use Rattle.ebpf_limits.specs.OwnedBytes.{made_bytes}
use Rattle.ebpf_object.specs.Objects.{parse_fault_as}
use Rattle.ebpf_parts.specs.declared.error.ParseError.{ParseError}
use Rattle.ebpf_parts.specs.declared.error.ParseError.TheVariants.{ElfError, TooLarge}
use Rattle.ebpf_parts.specs.declared.parse_mode.ParseMode.{ParseMode}

-- more would be made than is allowed
abbrev pub too_large_fault : ℕ → List ℕ → Option ParseError
too_large_fault most file = if nat_lt most (made_bytes file) then Some (TooLarge most) else None

-- the faults of the ELF file first, then the limit, then those of parsing
unfoldable pub size_fault : ℕ → List ℕ → Option ParseError
size_fault most file =
    or_else (option_map ElfError (first_in (faults file))) (too_large_fault most file)

abbrev pub within_fault : ParseMode → ℕ → List ℕ → Option ParseError
within_fault mode most file = or_else (size_fault most file) (parse_fault_as mode file)

-- parsing without a limit never has the fault that a limit is passed
abbrev pub ParsingHasNoLimit : Type 0
ParsingHasNoLimit =
    (mode : ParseMode) (file : List ℕ) (most : ℕ) → parse_fault_as mode file ≢ Some (TooLarge most)
