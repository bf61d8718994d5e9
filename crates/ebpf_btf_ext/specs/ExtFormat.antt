-- The fields of `.BTF.ext` in its bytes (the kernel's Documentation/bpf/btf.rst, 4.2; struct
-- btf_ext_header, struct btf_ext_info_sec, and in include/uapi/linux/bpf.h struct bpf_core_relo).
use Rattle.std.specs.Prelude.{ℕ, ◌+◌, ◌*◌, ◌/◌, List, [], ◌∷◌, map, length, Option, None, Result}
use Rattle.std.specs.Prelude.{Ok, Err, nat_lt, not, ◌&&◌, ◌==◌, if◌then◌else◌, Bool}
use Rattle.std.specs.List.{range_with_len}
use Rattle.ebpf_base.specs.Faults.{first_of, if_ok}
use Rattle.ebpf_btf.specs.Next.{if_some}
use Rattle.ebpf_base.specs.declared.endianness.Endianness.{Endianness}
use Rattle.ebpf_base.specs.declared.endianness.Endianness.TheVariants.{Little}
use Rattle.ebpf_btf.specs.declared.error.BtfError.{BtfError}
use Rattle.ebpf_btf.specs.declared.error.BtfError.TheVariants.{InvalidHeader, InvalidInfo}
use Rattle.ebpf_btf.specs.declared.error.BtfError.TheVariants.{InvalidRelocationKind}
use Rattle.ebpf_btf_ext.specs.declared.ext_infos.bpf_func_info.{bpf_func_info}
use Rattle.ebpf_btf_ext.specs.declared.ext_infos.bpf_line_info.{bpf_line_info}
use Rattle.ebpf_btf_ext.specs.declared.ext_infos.FuncSecInfo.{FuncSecInfo}
use Rattle.ebpf_btf_ext.specs.declared.ext_infos.LineSecInfo.{LineSecInfo}
use Rattle.ebpf_btf_ext.specs.declared.relocation.Relocation.{Relocation}
use Rattle.ebpf_btf.specs.Format.{word}
use Rattle.ebpf_btf.specs.Items.{items_at}
use Rattle.ebpf_btf.specs.Reading.{header_length, magic}
use Rattle.ebpf_btf_ext.specs.RelocationKinds.{known_kind}

-- ---- the header; offsets count from its end

unfoldable pub ext_header_fault : Endianness → List ℕ → Option BtfError
ext_header_fault o bytes = first_of (
    (nat_lt (length bytes) 24, InvalidHeader)
    ∷ (not (magic o bytes == 0xEB9F), InvalidHeader)
    ∷ (nat_lt (header_length o bytes) 24, InvalidHeader)
    ∷ (nat_lt (length bytes) (header_length o bytes), InvalidHeader)
    ∷ [])

-- the offset in the header of the offset and length of func info, of line info, and of the CO-RE
-- relocations
abbrev pub func_part : ℕ
func_part = 8

abbrev pub line_part : ℕ
line_part = 16

abbrev pub core_relo_part : ℕ
core_relo_part = 24

-- the length of a part, 0 where the header ends before it
unfoldable pub part_length : Endianness → List ℕ → ℕ → ℕ
part_length o bytes at =
    if nat_lt (header_length o bytes) (at + 8) then 0 else word o bytes (at + 4)

unfoldable pub part_start : Endianness → List ℕ → ℕ → ℕ
part_start o bytes at = header_length o bytes + word o bytes at

-- a part of length 0 is empty, wherever it is
unfoldable pub part_fault : Endianness → List ℕ → ℕ → Option BtfError
part_fault o bytes at =
    if part_length o bytes at == 0 then None
    else first_of (
    (nat_lt (part_length o bytes at) 4, InvalidInfo)
    ∷ (nat_lt (length bytes) (part_start o bytes at + part_length o bytes at), InvalidInfo)
    ∷ [])

-- a part begins with the size of its records; its sections follow up to its end
unfoldable pub record_size : Endianness → List ℕ → ℕ → ℕ
record_size o bytes at =
    if part_length o bytes at == 0 then 0 else word o bytes (part_start o bytes at)

unfoldable pub sections_start : Endianness → List ℕ → ℕ → ℕ
sections_start o bytes at = if part_length o bytes at == 0 then 0 else part_start o bytes at + 4

unfoldable pub sections_end : Endianness → List ℕ → ℕ → ℕ
sections_end o bytes at =
    if part_length o bytes at == 0 then 0 else part_start o bytes at + part_length o bytes at

-- ---- a section: the offset of its name, the number of its records, and the records

abbrev pub sec_name_off_at : Endianness → List ℕ → ℕ → ℕ
sec_name_off_at o bytes offset = word o bytes offset

abbrev pub num_info_at : Endianness → List ℕ → ℕ → ℕ
num_info_at o bytes offset = word o bytes (offset + 4)

-- the end of a section with entries of a size
abbrev pub section_end : Endianness → List ℕ → ℕ → ℕ → ℕ
section_end o bytes size offset = offset + 8 + size * num_info_at o bytes offset

-- a section goes past the end of its part, or its records are shorter than they may be
unfoldable pub info_sec_fault : Endianness → List ℕ → ℕ → ℕ → ℕ → ℕ → Option BtfError
info_sec_fault o bytes least size offset end = first_of (
    (nat_lt end (offset + 8), InvalidInfo)
    ∷ (nat_lt size least && not (num_info_at o bytes offset == 0), InvalidInfo)
    ∷ (nat_lt end (section_end o bytes size offset), InvalidInfo)
    ∷ [])

-- ---- records of func info and line info; offsets are in bytes, a slot has 8

unfoldable pub func_record : Endianness → List ℕ → ℕ → bpf_func_info
func_record o bytes offset = record {
  insn_off = word o bytes offset / 8;
  type_id = word o bytes (offset + 4);
}

unfoldable pub line_record : Endianness → List ℕ → ℕ → bpf_line_info
line_record o bytes offset = record {
  insn_off = word o bytes offset / 8;
  file_name_off = word o bytes (offset + 4);
  line_off = word o bytes (offset + 8);
  line_col = word o bytes (offset + 12);
}

unfoldable pub func_infos : Endianness → List ℕ → ℕ → ℕ → FuncSecInfo
func_infos o bytes size offset = record {
  sec_name_offset = sec_name_off_at o bytes offset;
  num_info = num_info_at o bytes offset;
  func_info = items_at (func_record o bytes) size (offset + 8) (num_info_at o bytes offset);
}

unfoldable pub line_infos : Endianness → List ℕ → ℕ → ℕ → LineSecInfo
line_infos o bytes size offset = record {
  sec_name_offset = sec_name_off_at o bytes offset;
  num_info = num_info_at o bytes offset;
  line_info = items_at (line_record o bytes) size (offset + 8) (num_info_at o bytes offset);
}

-- ---- CO-RE relocations, whose records are little endian in each file

-- the CO-RE relocation at an offset, with its number in its section; the fault where its kind is
-- none. Kind 12 is one where type matches are known.
unfoldable pub core_relo_at : Bool → List ℕ → ℕ → ℕ → ℕ → Result Relocation BtfError
core_relo_at type_matches bytes size offset number =
    if_some (known_kind type_matches (word Little bytes (offset + size * number + 12)))
    (λ kind. Ok (record {
      insn_off = word Little bytes (offset + size * number);
      type_id = word Little bytes (offset + size * number + 4);
      access_str_off = word Little bytes (offset + size * number + 8);
      kind = kind;
      number = number;
    }))
    (Err (InvalidRelocationKind (word Little bytes (offset + size * number + 12))))

-- all values where no result is a fault, else the first fault
abbrev pub all_ok : {X : Type 0} → List (Result X BtfError) → Result (List X) BtfError
all_ok [] = Ok []
all_ok (r ∷ rs) = if_ok r (λ x. if_ok (all_ok rs) (λ xs. Ok (x ∷ xs)))

-- so many relocations from an offset on, numbered from 0
unfoldable pub core_relos_at : Bool → List ℕ → ℕ → ℕ → ℕ → Result (List Relocation) BtfError
core_relos_at type_matches bytes size offset n =
    all_ok (map (core_relo_at type_matches bytes size offset) (range_with_len 0 n))
