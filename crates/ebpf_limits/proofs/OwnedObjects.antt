-- The object of a file without a fault owns no more than what is made of the file.
use Rattle.std.proofs.Common.{◌≡◌, ℕ, ◌≤◌, List, ◌<◌, ◌^◌, length, Option, None, Result, Ok, Err, IfOk, option_map, sym, subst, arith}
use Rattle.ebpf_base.specs.Faults.{first_in, Refuses}
use Rattle.ebpf_base.proofs.Faults.{both_None}
use Rattle.ebpf_elf.specs.Faults.{faults}
use Rattle.ebpf_elf.specs.Symbols.{symbols}
use Rattle.ebpf_btf_ext.specs.ExtReading.{ExtInfo}
use Rattle.ebpf_limits.specs.OwnedBytes.{license_bytes, type_information_bytes, all_facts, made_bytes, owned_bytes, ObjectsOwnWhatIsMade, readable_ext}
use Rattle.ebpf_limits.proofs.OwnedTypes.{ext_owned, license_owned, types_owned, ext_same}
use Rattle.ebpf_limits.proofs.OwnedTables.{externs_owned, all_parts, symbols_owned, names_owned}
use Rattle.ebpf_limits.proofs.OwnedFunctions.{functions_owned, programs_owned}
use Rattle.ebpf_limits.proofs.OwnedMaps.{maps_owned}
use Rattle.ebpf_limits.proofs.OwnedRelocations.{relocations_owned}
use Rattle.ebpf_object.specs.Objects.{object_as, parse_fault_as}
use Rattle.ebpf_object.specs.declared.object.Object.{Object}
use Rattle.ebpf_parsing.specs.Sections.{machine_fault_as, order_fault_as}
use Rattle.ebpf_parsing.specs.FileTypes.{btf_fault, ext_fault, file_types_fault}
use Rattle.ebpf_parsing.specs.LicenseAndVersion.{license_fault_as, version_fault}
use Rattle.ebpf_parsing.specs.Symbols.{symbols_fault}
use Rattle.ebpf_parts.specs.Memory.{is_parse_memory}
use Rattle.ebpf_parts.specs.declared.error.ParseError.{ParseError}
use Rattle.ebpf_parts.specs.declared.error.ParseError.TheVariants.{ElfError}
use Rattle.ebpf_parts.specs.declared.parse_mode.ParseMode.{ParseMode}

types_clear : (mode : ParseMode) (file : List ℕ) → file_types_fault mode file ≡ None → btf_fault file ≡ None
unfolding file_types_fault
types_clear mode file clear = (both_None (btf_fault file) (ext_fault mode file) clear).0

-- by what can be read of `.BTF.ext`
pub own_what_is_made : ObjectsOwnWhatIsMade
unfolding type_information_bytes
own_what_is_made mode file short clear =
    let a = both_None (option_map ElfError (first_in (faults file))) _ clear in
    let m = both_None (machine_fault_as mode file) _ a.1 in
    let b = both_None (order_fault_as mode file) _ m.1 in
    let c = both_None (license_fault_as mode file) _ b.1 in
    let d = both_None (version_fault file) _ c.1 in
    let e = both_None (symbols_fault file) _ d.1 in
    let f = both_None (file_types_fault mode file) _ e.1 in
    let ext : Option ExtInfo = readable_ext file in
    let license = license_owned mode file c.0 in
    let types = types_owned file (types_clear mode file f.0) in
    let records = ext_owned mode file f.0 in
    let names = names_owned file in
    let symbol_rows = symbols_owned file in
    let externs = externs_owned file in
    let programs = programs_owned mode file (license_bytes file) ext license in
    let functions = functions_owned file (license_bytes file) ext (ext_same mode file f.0) short in
    let maps = maps_owned file (license_bytes file) ext mode in
    let relocations = relocations_owned file ext in
    let parts = all_parts file (license_bytes file) (all_facts file) (symbols file) in
    omega (arith, license, types, records, names, symbol_rows, externs, programs, functions, maps, relocations, parts)

-- so what is given within a limit owns no more than that
pub owned_within : (mode : ParseMode) (file : List ℕ) (most : ℕ) (r : Result Object ParseError) → length file < 2 ^ 64 → made_bytes file ≤ most
    → IfOk r (λ o. o ≡ object_as mode file) → Refuses is_parse_memory r (parse_fault_as mode file) → IfOk r (λ o. owned_bytes o ≤ most)
owned_within mode file most (Ok o) short small object clear =
    let own = own_what_is_made mode file short clear in
    let small_one : owned_bytes (object_as mode file) ≤ most = omega (arith, own, small) in
    subst (λ x. owned_bytes x ≤ most) (sym object) small_one
owned_within mode file most (Err e) short small object clear = tt
