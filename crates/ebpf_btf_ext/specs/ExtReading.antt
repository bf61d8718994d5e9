-- The contents of `.BTF.ext`, or the first fault of its bytes: func info and line info by section
-- name, and the CO-RE relocations in order (the kernel's Documentation/bpf/btf.rst, 4.2 ".BTF.ext
-- section").
use Rattle.std.specs.Prelude.{ℕ, List, [], unwrap_or, zero, suc, ◌+◌, ◌-◌, ◌∷◌, Result, Ok, Err}
use Rattle.std.specs.Prelude.{◌==◌, if◌then◌else◌, ◌≡◌, None, Bool, true, false}
use Rattle.std.specs.FinMap.{FinMap, get, empty}
use Rattle.ebpf_base.specs.Maps.{put_all, text_cmp}
use Rattle.ebpf_base.specs.Faults.{if_ok}
use Rattle.ebpf_btf.specs.Next.{if_some}
use Rattle.ebpf_base.specs.declared.endianness.Endianness.{Endianness}
use Rattle.ebpf_btf.specs.Strings.{text_at}
use Rattle.ebpf_btf.specs.declared.error.BtfError.{BtfError}
use Rattle.ebpf_btf.specs.declared.error.BtfError.TheVariants.{InvalidInfo}
use Rattle.ebpf_btf_ext.specs.ExtFormat.{ext_header_fault, func_part, line_part, core_relo_part}
use Rattle.ebpf_btf_ext.specs.ExtFormat.{part_fault, record_size, sections_start, sections_end}
use Rattle.ebpf_btf_ext.specs.ExtFormat.{sec_name_off_at, num_info_at, section_end, info_sec_fault}
use Rattle.ebpf_btf_ext.specs.ExtFormat.{func_infos, line_infos, core_relos_at}
use Rattle.ebpf_btf_ext.specs.declared.ext_infos.FuncSecInfo.{FuncSecInfo}
use Rattle.ebpf_btf_ext.specs.declared.ext_infos.LineSecInfo.{LineSecInfo}
use Rattle.ebpf_btf_ext.specs.declared.relocation.Relocation.{Relocation}

-- nothing
abbrev pub no_func_info : FuncSecInfo
no_func_info = record { sec_name_offset = 0; num_info = 0; func_info = [] }

abbrev pub no_line_info : LineSecInfo
no_line_info = record { sec_name_offset = 0; num_info = 0; line_info = [] }

-- the func info or line info of a section, empty for a name without a section
abbrev pub func_info_at : FinMap text_cmp FuncSecInfo → List ℕ → FuncSecInfo
func_info_at sections name = unwrap_or (get sections name) no_func_info

abbrev pub line_info_at : FinMap text_cmp LineSecInfo → List ℕ → LineSecInfo
line_info_at sections name = unwrap_or (get sections name) no_line_info

-- ---- the contents of the bytes of `.BTF.ext`, and their first fault: part by part, and in a part
-- section by section

-- ---- one section, and the offset after it; its own faults come first, then those of its records

unfoldable pub checked_section : {S : Type 0} → Endianness → List ℕ → ℕ → ℕ → ℕ
    → (ℕ → Result S BtfError) → ℕ → Result (S × ℕ) BtfError
checked_section o bytes least size end records offset =
    if_some (info_sec_fault o bytes least size offset end) (λ e. Err e)
    (if_ok (records offset) (λ s. Ok (s, section_end o bytes size offset)))

-- the name of a section, and its func info or line info
unfoldable pub named_func_info : Endianness → List ℕ → List ℕ → ℕ → ℕ
    → Result (List ℕ × FuncSecInfo) BtfError
named_func_info o bytes strings size offset =
    if_ok (text_at strings (sec_name_off_at o bytes offset)) (λ name.
    Ok (name, func_infos o bytes size offset))

unfoldable pub named_line_info : Endianness → List ℕ → List ℕ → ℕ → ℕ
    → Result (List ℕ × LineSecInfo) BtfError
named_line_info o bytes strings size offset =
    if_ok (text_at strings (sec_name_off_at o bytes offset)) (λ name.
    Ok (name, line_infos o bytes size offset))

-- the offset of a section's name, and its relocations, those of kind 12 (type matches) where this
-- kind is known
unfoldable pub section_core_relos : Bool → Endianness → List ℕ → ℕ → ℕ
    → Result (ℕ × List Relocation) BtfError
section_core_relos type_matches o bytes size offset =
    if_ok (core_relos_at type_matches bytes size (offset + 8) (num_info_at o bytes offset)) (λ relocations.
    Ok (sec_name_off_at o bytes offset, relocations))

abbrev pub func_section : Endianness
    → List ℕ
    → List ℕ
    → ℕ
    → ℕ
    → ℕ
    → Result ((List ℕ × FuncSecInfo) × ℕ) BtfError
func_section o bytes strings size end =
    checked_section o bytes 8 size end (named_func_info o bytes strings size)

abbrev pub line_section : Endianness
    → List ℕ
    → List ℕ
    → ℕ
    → ℕ
    → ℕ
    → Result ((List ℕ × LineSecInfo) × ℕ) BtfError
line_section o bytes strings size end =
    checked_section o bytes 16 size end (named_line_info o bytes strings size)

abbrev pub core_relo_section : Bool
    → Endianness
    → List ℕ
    → ℕ
    → ℕ
    → ℕ
    → Result ((ℕ × List Relocation) × ℕ) BtfError
core_relo_section type_matches o bytes size end =
    checked_section o bytes 16 size end (section_core_relos type_matches o bytes size)

-- ---- sections one after the other, of which there are at most `left`

unfoldable pub sections_from : {S : Type 0} → ℕ → (ℕ → Result (S × ℕ) BtfError) → ℕ → ℕ
    → Result (List S) BtfError
sections_from zero read offset end = if offset == end then Ok [] else Err InvalidInfo
sections_from (suc left) read offset end =
    if offset == end then Ok []
    else if_ok (read offset) (λ found.
    if_ok (sections_from left read found.1 end) (λ more. Ok (found.0 ∷ more)))

-- the sections of a part, of which there are no more than bytes
abbrev pub part_sections : {S : Type 0} → Endianness → List ℕ → ℕ → (ℕ → Result (S × ℕ) BtfError)
    → Result (List S) BtfError
part_sections o bytes at read =
    sections_from (sections_end o bytes at - sections_start o bytes at) read
    (sections_start o bytes at) (sections_end o bytes at)

-- ---- the three parts

-- of sections with equal names the last one counts
abbrev pub by_names : {S : Type 0} → Result (List (List ℕ × S)) BtfError
    → Result (FinMap text_cmp S) BtfError
by_names sections = if_ok sections (λ all. Ok (put_all empty all))

unfoldable pub func_sections : Endianness
    → List ℕ
    → List ℕ
    → Result (FinMap text_cmp FuncSecInfo) BtfError
func_sections o bytes strings =
    if_some (part_fault o bytes func_part) (λ e. Err e)
    (by_names
    (part_sections o bytes func_part
    (func_section o bytes strings (record_size o bytes func_part)
    (sections_end o bytes func_part))))

unfoldable pub line_sections : Endianness
    → List ℕ
    → List ℕ
    → Result (FinMap text_cmp LineSecInfo) BtfError
line_sections o bytes strings =
    if_some (part_fault o bytes line_part) (λ e. Err e)
    (by_names
    (part_sections o bytes line_part
    (line_section o bytes strings (record_size o bytes line_part)
    (sections_end o bytes line_part))))

unfoldable pub core_relo_sections : Bool
    → Endianness
    → List ℕ
    → Result (List (ℕ × List Relocation)) BtfError
core_relo_sections type_matches o bytes =
    if_some (part_fault o bytes core_relo_part) (λ e. Err e)
    (part_sections o bytes core_relo_part
    (core_relo_section type_matches o bytes (record_size o bytes core_relo_part)
    (sections_end o bytes core_relo_part)))

-- the contents: func info and line info by section name, the relocations of sections in order, each
-- after the offset of its section's name, and the sizes of the entries of func info and line info
pub record ExtInfo : Type 0 where
  pub func_info : FinMap text_cmp FuncSecInfo
  pub line_info : FinMap text_cmp LineSecInfo
  pub relocations : List (ℕ × List Relocation)
  pub func_record_size : ℕ
  pub line_record_size : ℕ

unfoldable pub read_ext : Bool → Endianness → List ℕ → List ℕ → Result ExtInfo BtfError
read_ext type_matches o bytes strings =
    if_some (ext_header_fault o bytes) (λ e. Err e) (
    if_ok (func_sections o bytes strings) (λ funcs.
    if_ok (line_sections o bytes strings) (λ lines.
    if_ok (core_relo_sections type_matches o bytes) (λ relocations. Ok (record {
      func_info = funcs;
      line_info = lines;
      relocations = relocations;
      func_record_size = record_size o bytes func_part;
      line_record_size = record_size o bytes line_part;
    })))))

-- ---- the contents as a relation (the kernel's Documentation/bpf/btf.rst, 4.2 ".BTF.ext section"):
-- three parts, each of sections one after the other

-- A section is from an offset up to the next one, inside its part, and has these entries. Their
-- size is not below a minimum.
pub record IsSectionAt {S : Type 0} (o : Endianness) (bytes : List ℕ) (least size end : ℕ)
    (records : ℕ → Result S BtfError) (offset next : ℕ) (s : S)
    : Type 0 where
  pub sound : info_sec_fault o bytes least size offset end ≡ None
  pub ends : next ≡ section_end o bytes size offset
  pub gives : records offset ≡ Ok s

-- the bytes from an offset up to an end are those of some sections, one after the other
abbrev pub AreSectionsAt : {S : Type 0} → Endianness → List ℕ → ℕ → ℕ → ℕ
    → (ℕ → Result S BtfError) → ℕ → List S → Type 0
AreSectionsAt o bytes least size end records offset [] = offset ≡ end
AreSectionsAt o bytes least size end records offset (s ∷ sections) =
    (next : ℕ)
    × IsSectionAt o bytes least size end records offset next s
    × AreSectionsAt o bytes least size end records next sections

-- a part is sound and has these sections
pub record IsPart {S : Type 0} (o : Endianness) (bytes : List ℕ) (at least : ℕ)
    (records : ℕ → ℕ → Result S BtfError) (sections : List S)
    : Type 0 where
  pub sound : part_fault o bytes at ≡ None
  pub sections_are : AreSectionsAt o bytes least (record_size o bytes at) (sections_end o bytes at)
      (records (record_size o bytes at)) (sections_start o bytes at) sections

-- The header is sound, and the parts are these func info, line info and relocations; of sections of
-- func info or line info with equal names the last one counts.
pub record SpellsExt (type_matches : Bool) (o : Endianness) (bytes strings : List ℕ)
    (ext : ExtInfo)
    : Type 0 where
  pub header : ext_header_fault o bytes ≡ None
  pub funcs : (sections : List (List ℕ × FuncSecInfo))
      × (ext.func_info ≡ put_all empty sections)
      × IsPart o bytes func_part 8 (named_func_info o bytes strings) sections
  pub lines : (sections : List (List ℕ × LineSecInfo))
      × (ext.line_info ≡ put_all empty sections)
      × IsPart o bytes line_part 16 (named_line_info o bytes strings) sections
  pub relocations : IsPart o bytes core_relo_part 16 (section_core_relos type_matches o bytes)
      ext.relocations
  pub func_record_size : ext.func_record_size ≡ record_size o bytes func_part
  pub line_record_size : ext.line_record_size ≡ record_size o bytes line_part

-- ---- readings that know kind 12, and others

-- what is read without kind 12 is read with it
abbrev pub KnownKindsAddNothing : Type 0
KnownKindsAddNothing =
    (o : Endianness) (bytes strings : List ℕ) (ext : ExtInfo)
    → read_ext false o bytes strings ≡ Ok ext
    → read_ext true o bytes strings ≡ Ok ext
