-- Things with their names as rows, and the text that the rows point into: names, each with a zero
-- byte behind it.
use Rattle.std.specs.Prelude.{ℕ, ◌+◌, List, [], ◌∷◌, ◌++◌, length, Option, None, if◌then◌else◌}
use Rattle.std.specs.Prelude.{is_some, unwrap_or}
use Rattle.std.specs.FinMap.{FinMap, entries, get}
use Rattle.std.specs.List.{flat_map}
use Rattle.std.specs.Str.{is_utf8}
use Rattle.ebpf_base.specs.Maps.{text_cmp}
use Rattle.ebpf_elf.specs.declared.section.SectionIndex.{SectionIndex}
use Rattle.ebpf_model.specs.declared.symbol.ExternDesc.{ExternDesc}
use Rattle.capi_rows.specs.Answers.{Listed}
use Rattle.capi_rows.specs.Refusals.{flag}
use Rattle.capi_rows.specs.declared.entries.ebpf_extern.{ebpf_extern}
use Rattle.capi_rows.specs.declared.entries.ebpf_section.{ebpf_section}

-- a name with its zero byte
abbrev pub zero_terminated : List ℕ → List ℕ
zero_terminated name = name ++ 0 ∷ []

-- the rows of things whose names begin at a place; a row says where its names begin
abbrev pub rows_by : {V R : Type 0} → (V → ℕ → List R) → (V → List ℕ) → ℕ → List V → List R
rows_by rows_of text_of at [] = []
rows_by rows_of text_of at (v ∷ values) =
    rows_of v at ++ rows_by rows_of text_of (at + length (text_of v)) values

-- rows and text of things, in their order
abbrev pub listed_by : {V R : Type 0} → (V → ℕ → List R) → (V → List ℕ) → List V → Listed R
listed_by rows_of text_of values = (rows_by rows_of text_of 0 values, flat_map text_of values)

-- rows and text of all things of a map, in byte order of their names: a row for each, and its name
abbrev pub listing_of : {V R : Type 0} → (List ℕ → V → ℕ → R) → FinMap text_cmp V → Listed R
listing_of row values =
    listed_by (λ e at. row e.0 e.1 at ∷ []) (λ e. zero_terminated e.0) (entries values)

-- ---- things with their names

-- the thing that some bytes name; bytes that are no text name none
unfoldable pub value_by_bytes : {V : Type 0} → FinMap text_cmp V → List ℕ → Option V
value_by_bytes values name = if is_utf8 name then get values name else None

-- ---- what C reads of externs

-- the row of an extern of a name that begins at an offset of the text
abbrev pub extern_row : List ℕ → ExternDesc → ℕ → ebpf_extern
extern_row name x name_at = record {
  name_at = name_at;
  name_len = length name;
  address = unwrap_or x.ksym_addr 0;
  type_id = x.btf_id;
  kernel_type_id = unwrap_or x.kernel_btf_id 0;
  is_typed = flag x.is_typed;
  is_weak = flag x.is_weak;
  is_resolved = flag x.is_resolved;
  has_address = flag (is_some x.ksym_addr);
}

-- ---- what C reads of sections

-- the row of a section of a name that begins at an offset of the text
abbrev pub section_row : List ℕ → SectionIndex → ℕ → ebpf_section
section_row name s name_at = record { name_at = name_at; name_len = length name; number = s.0 }
