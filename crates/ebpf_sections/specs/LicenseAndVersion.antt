-- The license and the kernel version that a file states, in its sections `license` and `version`
-- (libbpf's names).
use Rattle.std.specs.List.{before_first, list_any}
use Rattle.std.specs.Prelude.{ℕ, ◌-◌, Bool, not, ◌||◌, List, [], ◌∷◌, length, take, Option, Some}
use Rattle.std.specs.Prelude.{None, ◌==◌, nat_lt, if◌then◌else◌, codes}
use Rattle.ebpf_base.specs.Faults.{or_else, first_of}
use Rattle.ebpf_base.specs.Numbers.{number_at}
use Rattle.ebpf_base.specs.declared.endianness.Endianness.{Endianness}
use Rattle.ebpf_elf.specs.Headers.{ei_data}
use Rattle.ebpf_elf.specs.Sections.{SectionOf}
use Rattle.ebpf_parts.specs.Sections.{section_of, section_fault}
use Rattle.ebpf_parts.specs.declared.error.ParseError.{ParseError}
use Rattle.ebpf_parts.specs.declared.error.ParseError.TheVariants.{InvalidLicense}
use Rattle.ebpf_parts.specs.declared.error.ParseError.TheVariants.{MissingLicenseNullTerminator}
use Rattle.ebpf_parts.specs.declared.error.ParseError.TheVariants.{InvalidKernelVersion}
use Rattle.ebpf_parts.specs.declared.parse_mode.ParseMode.{ParseMode}
use Rattle.ebpf_parts.specs.declared.parse_mode.ParseMode.TheVariants.{Strict, Lenient}
use Rattle.ebpf_sections.specs.Sections.{first_section_named}

-- ---- the license: a text that ends with its only zero byte; in lenient parsing what stands before
-- the first zero, and nothing where the section has no bytes

abbrev pub has_zero : List ℕ → Bool
has_zero bytes = list_any (λ b. b == 0) bytes

-- all bytes but the last
abbrev pub front_of : List ℕ → List ℕ
front_of bytes = take (length bytes - 1) bytes

unfoldable pub strict_text_fault : List ℕ → Option ParseError
strict_text_fault bytes = first_of (
    (nat_lt (length bytes) 2, InvalidLicense bytes)
    ∷ (not (has_zero bytes), MissingLicenseNullTerminator bytes)
    ∷ (has_zero (front_of bytes), InvalidLicense bytes)
    ∷ [])

unfoldable pub license_text : ParseMode → List ℕ → List ℕ
license_text Strict bytes = front_of bytes
license_text Lenient bytes = before_first (λ b. b == 0) bytes

-- bytes without a zero are refused as stated
unfoldable pub license_text_fault : ParseMode → List ℕ → Option ParseError
license_text_fault Strict bytes = strict_text_fault bytes
license_text_fault Lenient bytes =
    if length bytes == 0 || has_zero bytes then None else strict_text_fault bytes

-- the license in a section; a file without one has this
abbrev pub license_in : ParseMode → Option SectionOf → List ℕ
license_in mode None = codes "GPL"
license_in mode (Some s) = license_text mode (section_of s).bytes

abbrev pub license_fault_in : ParseMode → Option SectionOf → Option ParseError
license_fault_in mode None = None
license_fault_in mode (Some s) =
    or_else (section_fault s) (license_text_fault mode (section_of s).bytes)

-- ---- the kernel version: a number of four bytes in the file's order, of which one stands for all
-- kernels

unfoldable pub version_number_fault : List ℕ → Option ParseError
version_number_fault bytes = first_of ((not (length bytes == 4), InvalidKernelVersion bytes) ∷ [])

abbrev pub version_but : ℕ → Option ℕ
version_but number = if number == 0xFFFFFFFE then None else Some number

unfoldable pub version_of : Endianness → List ℕ → Option ℕ
version_of o bytes = version_but (number_at o 4 bytes 0)

abbrev pub version_in : Endianness → Option SectionOf → Option ℕ
version_in o None = None
version_in o (Some s) = version_of o (section_of s).bytes

abbrev pub version_fault_in : Option SectionOf → Option ParseError
version_fault_in None = None
version_fault_in (Some s) = or_else (section_fault s) (version_number_fault (section_of s).bytes)

-- ---- of a file

unfoldable pub license_as : ParseMode → List ℕ → List ℕ
license_as mode bytes = license_in mode (first_section_named (codes "license") bytes)

unfoldable pub license_fault_as : ParseMode → List ℕ → Option ParseError
license_fault_as mode bytes = license_fault_in mode (first_section_named (codes "license") bytes)

unfoldable pub kernel_version_of : List ℕ → Option ℕ
kernel_version_of bytes = version_in (ei_data bytes) (first_section_named (codes "version") bytes)

abbrev pub license_of : List ℕ → List ℕ
license_of bytes = license_as Strict bytes

unfoldable pub version_fault : List ℕ → Option ParseError
version_fault bytes = version_fault_in (first_section_named (codes "version") bytes)
