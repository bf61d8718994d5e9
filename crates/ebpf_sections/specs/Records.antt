-- The func info and line info of a function: the records of its section in `.BTF.ext` that name its
-- slots (the kernel's Documentation/bpf/btf.rst, 4.2 ".BTF.ext section").
use Rattle.std.specs.FinMap.{FinMap, empty, get}
use Rattle.std.specs.List.{range_with_len}
use Rattle.std.specs.List.Sorted.{IsPartitionPoint}
use Rattle.std.specs.Prelude.{ℕ, ◌+◌, ◌-◌, ◌/◌, ◌&&◌, Bool, List, map, filter, Option, Some, None}
use Rattle.std.specs.Prelude.{◌==◌, nat_le, nat_lt, ◌<◌, ◌≤◌, true, [], ◌∷◌, ◌≡◌, slice_index_or}
use Rattle.std.specs.Prelude.{unwrap_or}
use Rattle.ebpf_base.specs.Maps.{text_cmp}
use Rattle.ebpf_btf_ext.specs.ExtReading.{func_info_at, line_info_at, ExtInfo}
use Rattle.ebpf_btf_ext.specs.declared.ext_infos.FuncSecInfo.{FuncSecInfo}
use Rattle.ebpf_btf_ext.specs.declared.ext_infos.LineSecInfo.{LineSecInfo}
use Rattle.ebpf_btf_ext.specs.declared.ext_infos.bpf_func_info.{bpf_func_info}
use Rattle.ebpf_btf_ext.specs.declared.ext_infos.bpf_line_info.{bpf_line_info}
use Rattle.ebpf_sections.specs.declared.info_records.RecordIndex.{RecordIndex}

-- ---- the func info and line info of a function: the records of its section in `.BTF.ext` that
-- stand at its slots

-- the func info and line info of a section, and the sizes of the records in the file
pub record FuncAndLineInfo : Type 0 where
  pub funcs : FuncSecInfo
  pub lines : LineSecInfo
  pub func_size : ℕ
  pub line_size : ℕ

-- func info and line info, by the names of sections; a file without `.BTF.ext` has none
abbrev pub func_info_of : Option ExtInfo → FinMap text_cmp FuncSecInfo
func_info_of None = empty
func_info_of (Some x) = x.func_info

abbrev pub line_info_of : Option ExtInfo → FinMap text_cmp LineSecInfo
line_info_of None = empty
line_info_of (Some x) = x.line_info

-- the sizes of the records
abbrev pub func_size_of : Option ExtInfo → ℕ
func_size_of None = 0
func_size_of (Some x) = x.func_record_size

abbrev pub line_size_of : Option ExtInfo → ℕ
line_size_of None = 0
line_size_of (Some x) = x.line_record_size

abbrev pub func_and_line_info_of : Option ExtInfo → List ℕ → FuncAndLineInfo
func_and_line_info_of ext name = record {
  funcs = func_info_at (func_info_of ext) name;
  lines = line_info_at (line_info_of ext) name;
  func_size = func_size_of ext;
  line_size = line_size_of ext;
}

-- the index of the slot that an offset in the section falls into; a slot has 8 bytes
abbrev pub slot_of : ℕ → ℕ
slot_of offset = offset / 8

-- ---- the records on the function that begins at a slot; the counts stay the section's

abbrev pub is_func_at : ℕ → bpf_func_info → Bool
is_func_at first r = r.insn_off == first

-- the slot that a record names
abbrev pub slot_of_func : bpf_func_info → ℕ
slot_of_func r = r.insn_off

-- a record, its slot counted from another one
abbrev pub func_from : ℕ → bpf_func_info → bpf_func_info
func_from base r = record r { insn_off = r.insn_off - base }

unfoldable pub funcs_at : FuncSecInfo → ℕ → ℕ → FuncSecInfo
funcs_at infos first base =
    record infos { func_info = map (func_from base) (filter (is_func_at first) infos.func_info) }

-- ---- the records on the lines of so many slots from a slot on

abbrev pub is_line_in : ℕ → ℕ → bpf_line_info → Bool
is_line_in first count r = nat_le first r.insn_off && nat_lt r.insn_off (first + count)

-- the slot that a record names
abbrev pub slot_of_line : bpf_line_info → ℕ
slot_of_line r = r.insn_off

abbrev pub line_from : ℕ → bpf_line_info → bpf_line_info
line_from base r = record r { insn_off = r.insn_off - base }

unfoldable pub lines_in : LineSecInfo → ℕ → ℕ → ℕ → LineSecInfo
lines_in infos first count base =
    record infos
    { line_info = map (line_from base) (filter (is_line_in first count) infos.line_info) }

-- ---- the indices of records in a list, each with the slot that the record there names

-- the indices 0, 1 .. of so many records, of which the first function gives the slots
abbrev pub indices_with : (ℕ → ℕ) → ℕ → List RecordIndex
indices_with slot count = map (λ i. record { slot = slot i; index = i }) (range_with_len 0 count)

abbrev pub is_at_slot : ℕ → RecordIndex → Bool
is_at_slot slot p = p.slot == slot

-- whether a row names one of so many slots from a slot on
abbrev pub is_among_slots : {X : Type 0} → (X → ℕ) → ℕ → ℕ → X → Bool
is_among_slots slot first count x = nat_le first (slot x) && nat_lt (slot x) (first + count)

abbrev pub is_slot_among : ℕ → ℕ → RecordIndex → Bool
is_slot_among first count p = is_among_slots (λ q. q.slot) first count p

-- the rows of a slot, and of those after it, begin at an index
abbrev pub RowsBeginAt : {X : Type 0} → (X → ℕ) → ℕ → List X → ℕ → Type 0
RowsBeginAt slot s xs n = IsPartitionPoint (λ x. slot x < s) (λ x. s ≤ slot x) xs n

-- whether the slots of rows never fall, and none is below one
abbrev pub rises_from : {X : Type 0} → (X → ℕ) → ℕ → List X → Bool
rises_from slot least [] = true
rises_from slot least (x ∷ xs) = nat_le least (slot x) && rises_from slot (slot x) xs

-- records that may have been found
abbrev pub found_funcs : Option (FinMap text_cmp FuncSecInfo) → FinMap text_cmp FuncSecInfo
found_funcs found = unwrap_or found empty

abbrev pub found_lines : Option (FinMap text_cmp LineSecInfo) → FinMap text_cmp LineSecInfo
found_lines found = unwrap_or found empty

-- a table has at its names the func info and line info of the sections of these names
pub record AreRecordsOf (ext : Option ExtInfo) (table : FinMap text_cmp FuncAndLineInfo)
    : Type 0 where
  pub are : (name : List ℕ) (records : FuncAndLineInfo)
      → get table name ≡ Some records
      → records ≡ func_and_line_info_of ext name

-- the slot that a record of a list names
abbrev pub slot_at : {X : Type 0} → (X → ℕ) → X → List X → ℕ → ℕ
slot_at slot zero rows i = slot (slice_index_or rows i zero)
