-- What strict parsing reads of `.BTF.ext`, lenient parsing reads in the same way.
use Rattle.std.proofs.Common.{◌≡◌, ℕ, Bool, true, false, List, Option, Some, None, Result, Ok, Err, option_map, refl, ap, ◌∙◌}
use Rattle.std.specs.Result.{result_ok}
use Rattle.ebpf_base.proofs.Faults.{both_None}
use Rattle.ebpf_base.specs.Faults.{fault_of, or_else}
use Rattle.ebpf_base.specs.declared.endianness.Endianness.{Endianness}
use Rattle.ebpf_btf.specs.TypeInfo.{TypeInfo}
use Rattle.ebpf_btf.specs.declared.error.BtfError.{BtfError as TypeError}
use Rattle.ebpf_btf_ext.proofs.KnownKinds.{known_kinds_add_nothing}
use Rattle.ebpf_btf_ext.specs.ExtReading.{ExtInfo, read_ext}
use Rattle.ebpf_elf.specs.Headers.{ei_data}
use Rattle.ebpf_elf.specs.Sections.{SectionOf}
use Rattle.ebpf_parts.specs.Sections.{section_fault, section_of}
use Rattle.ebpf_parts.specs.declared.error.ParseError.TheVariants.{BtfError}
use Rattle.ebpf_parts.specs.declared.parse_mode.ParseMode.TheVariants.{Strict, Lenient}
use Rattle.ebpf_parsing.specs.FileTypes.{btf_fault, btf_of, ext_fault, ext_fault_beside, ext_fault_in, ext_section, file_types_fault, read_ext_section, reads_type_matches}

with_matches : (type_matches : Bool) (o : Endianness) (bytes strings : List ℕ) (ext : ExtInfo) → read_ext type_matches o bytes strings ≡ Ok ext → read_ext true o bytes strings ≡ Ok ext
with_matches true o bytes strings ext is = is
with_matches false o bytes strings ext is = known_kinds_add_nothing o bytes strings ext is

-- the contents are those of a reading that knows type matches
pub read_with_matches : (type_matches : Bool) (o : Endianness) (bytes strings : List ℕ) (ext : ExtInfo) → read_ext type_matches o bytes strings ≡ Ok ext → result_ok (read_ext true o bytes strings) ≡ Some ext
read_with_matches type_matches o bytes strings ext is = ap result_ok (with_matches type_matches o bytes strings ext is)

-- ---- a file

clear_read : (o : Endianness) (bytes strings : List ℕ) → option_map BtfError (fault_of (read_ext false o bytes strings)) ≡ None → option_map BtfError (fault_of (read_ext true o bytes strings)) ≡ None
clear_read o bytes strings clear = by_result (read_ext false o bytes strings) refl clear
  where
    by_result : (r : Result ExtInfo TypeError) → read_ext false o bytes strings ≡ r → option_map BtfError (fault_of r) ≡ None → option_map BtfError (fault_of (read_ext true o bytes strings)) ≡ None
    by_result (Err e) is same = cc
    by_result (Ok ext) is same = ap (λ r. option_map BtfError (fault_of r)) (known_kinds_add_nothing o bytes strings ext is)

clear_in : (o : Endianness) (types : TypeInfo) (s : Option SectionOf) → ext_fault_in Strict o types s ≡ None → ext_fault_in Lenient o types s ≡ None
unfolding reads_type_matches
clear_in o types None clear = refl
clear_in o types (Some s) clear =
    let both = both_None (section_fault s) _ clear in
    ap (λ f. or_else f (option_map BtfError (fault_of (read_ext_section true o types s)))) both.0 ∙ clear_read o (section_of s).bytes types.strings both.1

clear_beside : (bytes : List ℕ) (types : Option TypeInfo) → ext_fault_beside Strict bytes types ≡ None → ext_fault_beside Lenient bytes types ≡ None
clear_beside bytes None clear = refl
clear_beside bytes (Some types) clear = clear_in (ei_data bytes) types (ext_section bytes) clear

pub types_alike : (bytes : List ℕ) → file_types_fault Strict bytes ≡ None → file_types_fault Lenient bytes ≡ None
unfolding file_types_fault ext_fault
types_alike bytes clear =
    let both = both_None (btf_fault bytes) _ clear in
    ap (λ f. or_else f (ext_fault_beside Lenient bytes (btf_of bytes))) both.0 ∙ clear_beside bytes (btf_of bytes) both.1
