-- The object of a file in both readings.
use Rattle.std.specs.Prelude.{◌≡◌, ℕ, List, None, true}
use Rattle.ebpf_base.specs.declared.endianness.Endianness.TheVariants.{Little}
use Rattle.ebpf_elf.specs.Headers.{ei_data}
use Rattle.ebpf_object.specs.Objects.{object_as, object_of, parse_fault, parse_fault_as}
use Rattle.ebpf_parsing.specs.Sections.{is_for_ebpf}
use Rattle.ebpf_parts.specs.declared.parse_mode.ParseMode.TheVariants.{Lenient}

-- of a little-endian file for eBPF, or for no machine, that strict parsing takes both modes give
-- one object, and lenient parsing finds no fault
abbrev pub ObjectsAgree : Type 0
ObjectsAgree =
    (bytes : List ℕ)
    → ei_data bytes ≡ Little
    → is_for_ebpf bytes ≡ true
    → parse_fault bytes ≡ None
    → (object_as Lenient bytes ≡ object_of bytes) × (parse_fault_as Lenient bytes ≡ None)
