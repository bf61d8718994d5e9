-- The license, the types and the records of `.BTF.ext` of a file without a fault.
use Rattle.std.proofs.Common.{◌≡◌, ℕ, ◌+◌, ◌-◌, ◌≤◌, Bool, true, false, List, [], ◌∷◌, ◌++◌, length, Option, Some, None, Result, Ok, Err, option_map, refl, ap, ◌∙◌, arith, sym, zero, suc, ◌*◌, not, ◌&&◌, map, subst, eqb-true}
use Rattle.std.specs.Prelude.{codes, nat_lt, ◌==◌, if◌then◌else◌}
use Rattle.std.specs.Result.{result_ok}
use Rattle.std.proofs.lemmas.List.{length-append, length-take}
use Rattle.std.proofs.lemmas.List.Sums.{sum_by_push}
use Rattle.std.specs.FinMap.{FinMap, entries, empty}
use Rattle.std.specs.List.{range_with_len}
use Rattle.std.proofs.Math.Nat.{mul-le-mul_right}
use Rattle.std.proofs.lemmas.Bool.Decides.{nat_tests}
use Rattle.std.proofs.lemmas.List.FromFn.{length-map-range_with_len}
use Rattle.ebpf_base.specs.Faults.{first_of, if_ok}
use Rattle.ebpf_btf.specs.Next.{if_some}
use Rattle.ebpf_base.specs.declared.endianness.Endianness.{Endianness}
use Rattle.ebpf_base.proofs.Faults.{both_None}
use Rattle.ebpf_btf.specs.declared.error.BtfError.{BtfError}
use Rattle.ebpf_btf.specs.Format.{word, further_words}
use Rattle.ebpf_btf.specs.Words.{type_length, types_length, count_of}
use Rattle.ebpf_btf.specs.Reading.{type_info_of, header_fault, types_part, types_start, types_end, strings_in, strings_start, strings_end, header_length, magic}
use Rattle.ebpf_btf.specs.TypeInfo.{TypeInfo}
use Rattle.ebpf_btf.specs.Types.{kind_of}
use Rattle.ebpf_btf.specs.declared.types.BtfType.{BtfType}
use Rattle.ebpf_btf.specs.declared.types.BtfType.TheVariants.{Unknown}
use Rattle.ebpf_btf.proofs.Lengths.{length_of_all}
use Rattle.ebpf_btf.proofs.Spelling.{found_spelled}
use Rattle.ebpf_btf_decls.specs.Externs.{extern_types, types_with, first_function_or_fault, ksyms_datasec, with_named, with_word, word_id, int_at, the_word, variable_at}
use Rattle.ebpf_btf_decls.specs.DataSections.{matched_entries}
use Rattle.ebpf_btf_decls.specs.declared.externs.FunctionOrFault.{FunctionOrFault}
use Rattle.ebpf_btf_decls.specs.declared.externs.FunctionOrFault.TheVariants.{Function, UnreadableType}
use Rattle.ebpf_elf.specs.Headers.{ei_data}
use Rattle.ebpf_elf.specs.Sections.{SectionOf, data_faults, data_of}
use Rattle.ebpf_btf_ext.specs.ExtFormat.{ext_header_fault, func_part, line_part, core_relo_part, part_fault, part_length, part_start, record_size, sections_start, sections_end, sec_name_off_at, num_info_at, section_end, info_sec_fault, func_infos, line_infos, func_record, line_record, core_relos_at, core_relo_at, all_ok}
use Rattle.ebpf_btf_ext.specs.ExtReading.{read_ext, ExtInfo, checked_section, named_func_info, named_line_info, section_core_relos, func_section, line_section, core_relo_section, sections_from, part_sections, func_sections, line_sections, core_relo_sections}
use Rattle.ebpf_parsing.specs.FileTypes.{types_of_file, btf_in, btf_of, btf_fault, types_fault_in, types_section, ext_in, ext_of, ext_beside, ext_fault, ext_fault_in, ext_fault_beside, ext_section, file_types_fault}
use Rattle.ebpf_parsing.specs.LicenseAndVersion.{license_in, license_as, license_fault_in, license_fault_as, license_text}
use Rattle.ebpf_parsing.specs.Sections.{first_section_named}
use Rattle.ebpf_parts.specs.Sections.{section_of, section_with, section_fault, section_fault_with, section_name_fault, data_fault}
use Rattle.ebpf_parts.specs.declared.error.ParseError.TheVariants.{SectionError}
use Rattle.ebpf_parts.specs.declared.parse_mode.ParseMode.{ParseMode}
use Rattle.ebpf_parts.specs.declared.parse_mode.ParseMode.TheVariants.{Strict, Lenient}
use Rattle.ebpf_base.proofs.TextMaps.{text_exact}
use Rattle.ebpf_base.specs.Maps.{put_all, text_cmp, text_total}
use Rattle.ebpf_btf.proofs.InOrder.{items_length}
use Rattle.ebpf_btf.specs.Strings.{text_at}
use Rattle.ebpf_btf.specs.declared.error.BtfError.TheVariants.{InvalidHeader, InvalidInfo}
use Rattle.ebpf_btf_ext.specs.declared.ext_infos.FuncSecInfo.{FuncSecInfo}
use Rattle.ebpf_btf_ext.specs.declared.ext_infos.LineSecInfo.{LineSecInfo}
use Rattle.ebpf_btf_ext.specs.declared.relocation.Relocation.{Relocation}
use Rattle.ebpf_limits.specs.OwnedBytes.{extern_types_size, type_byte_size, string_byte_size, license_bytes, types_in_bytes, types_bytes, readable_data, readable_types, readable_ext, ext_beside_types, data_in, funcs_row, lines_row, core_row, ext_bytes, part_bytes, ext_in_bytes, total}
use Rattle.ebpf_limits.proofs.OwnedFunctions.{range_short}
use Rattle.ebpf_limits.proofs.Counts.{Counted, covered, all_of}
use Rattle.ebpf_limits.specs.OwnedBytes as made

-- ---- the license and the types of a file without a fault.

-- ---- data of a section without a fault

none_before : {A B : Type 0} (f : A → B) (o : Option A) → option_map f o ≡ None → o ≡ None
none_before f None e = refl
none_before f (Some x) e = cc

pub readable : (s : SectionOf) → section_fault s ≡ None → readable_data s ≡ data_of s
unfolding readable_data section_fault section_fault_with
readable s clear =
    let behind = both_None (section_name_fault s) _ clear in
    let inside : first_of (data_faults s) ≡ None = none_before (SectionError s.index) _ (both_None (data_fault s) _ behind.1).0 in
    rw inside refl

-- ---- the license

text_short : (mode : ParseMode) (bytes : List ℕ) → length (license_text mode bytes) ≤ length bytes
unfolding license_text
text_short Strict bytes = simp (length-take) (omega arith)
text_short Lenient bytes = simp (length-take) (omega arith)

license_within : (mode : ParseMode) (o : Option SectionOf) → license_fault_in mode o ≡ None → length (license_in mode o) ≤ made.license_in o
unfolding section_of section_with
license_within mode None clear = omega arith
license_within mode (Some s) clear =
    let sound = both_None (section_fault s) _ clear in
    let short = text_short mode (data_of s) in
    rw (readable s sound.0) short

pub license_owned : (mode : ParseMode) (file : List ℕ) → license_fault_as mode file ≡ None → length (license_as mode file) ≤ license_bytes file
unfolding license_as license_fault_as license_bytes
license_owned mode file clear = license_within mode (first_section_named (codes "license") file) clear

-- ---- types

types_within : (o : Endianness) (bytes : List ℕ) (info : TypeInfo) → type_info_of o bytes ≡ Ok info → type_byte_size * types_length info.types + string_byte_size * length info.strings ≤ type_byte_size * word o bytes 12 + string_byte_size * word o bytes 20
unfolding types_part types_end strings_in strings_end
types_within o bytes info is =
    let spells = found_spelled o bytes (Ok info) is in
    let whole : types_length info.types ≡ length (types_part o bytes) = ap types_length spells.types.1 ∙ length_of_all o (types_part o bytes) Unknown spells.types.0 spells.types.2 in
    let types : length (types_part o bytes) ≤ word o bytes 12 = range_short bytes (types_start o bytes) (word o bytes 12) in
    let same : length info.strings ≡ length (strings_in o bytes) = ap length spells.strings in
    let strings : length (strings_in o bytes) ≤ word o bytes 20 = range_short bytes (strings_start o bytes) (word o bytes 20) in
    omega (arith, whole, types, same, strings)

long : (o : Endianness) (bytes : List ℕ) (info : TypeInfo) → type_info_of o bytes ≡ Ok info → nat_lt (length bytes) 24 ≡ false
unfolding header_fault
long o bytes info is = by_test (nat_lt (length bytes) 24) refl (found_spelled o bytes (Ok info) is).header
  where
    by_test : (b : Bool) → nat_lt (length bytes) 24 ≡ b → header_fault o bytes ≡ None → nat_lt (length bytes) 24 ≡ false
    by_test false e sound = e
    by_test true e sound = let no = rw e at sound in cc

counted : (o : Endianness) (bytes : List ℕ) (info : TypeInfo) → type_info_of o bytes ≡ Ok info → types_bytes (Some info) ≤ types_in_bytes o bytes (Some info)
counted o bytes info is = rw (long o bytes info is) (types_within o bytes info is)

-- ---- what externs add to the types

abbrev size_of : TypeInfo → ℕ
size_of info = type_byte_size * types_length info.types + string_byte_size * length info.strings

length_more : (xs : List BtfType) (t : BtfType) → types_length (xs ++ t ∷ []) ≤ types_length xs + type_length t
unfolding types_length
length_more [] t = omega arith
length_more (x ∷ xs) t = let more = sum_by_push type_length xs t in omega (arith, more)

named_more : (info : TypeInfo) (name : List ℕ) (t : ℕ → BtfType) → type_length (t (length info.strings)) ≡ 16 → size_of (with_named info name t) ≤ size_of info + (54 + 6 * length name)
named_more info name t sixteen =
    let types : types_length (with_named info name t).types ≤ types_length info.types + type_length (t (length info.strings)) = length_more info.types (t (length info.strings)) in
    let strings : length (with_named info name t).strings ≡ length (info.strings ++ name) + 1 = length-append (info.strings ++ name) (0 ∷ []) in
    let behind : length (info.strings ++ name) ≡ length info.strings + length name = length-append info.strings name in
    omega (arith, types, strings, behind, sixteen)

word_more : (info : TypeInfo) → size_of (with_word info) ≤ size_of info + 72
unfolding with_word type_length further_words kind_of count_of
word_more info = by_id (word_id info)
  where
    by_id : (o : Option ℕ) → size_of (if_some o (λ id. info) (with_named info (codes "int") int_at)) ≤ size_of info + 72
    by_id (Some id) = omega arith
    by_id None = let more = named_more info (codes "int") int_at refl in omega (arith, more)

extern_more : (info : TypeInfo) (o : Option FunctionOrFault) → size_of (types_with info o) ≤ size_of info + extern_types_size
unfolding types_with type_length further_words kind_of count_of
extern_more info None = omega arith
extern_more info (Some (UnreadableType e)) = omega arith
extern_more info (Some Function) =
    let word = word_more info in
    let more = named_more (with_word info) (codes "ksym_func_placeholder") (variable_at (the_word info)) refl in
    omega (arith, word, more)

-- ---- types and records that can be read are those of the file

by_result : (o : Endianness) (bytes : List ℕ) (r : Result TypeInfo BtfError) → type_info_of o bytes ≡ r
    → types_bytes (option_map extern_types (result_ok r)) ≤ extern_types_size + types_in_bytes o bytes (result_ok r)
by_result o bytes (Err e) is = omega arith
by_result o bytes (Ok info) is =
    let read = counted o bytes info is in
    let more = extern_more info (first_function_or_fault info (matched_entries (ksyms_datasec info))) in
    omega (arith, read, more)

in_section : (o : Endianness) (s : Option SectionOf) → types_fault_in o s ≡ None → types_bytes (option_map extern_types (btf_in o s)) ≤ extern_types_size + types_in_bytes o (data_in s) (result_ok (type_info_of o (data_in s)))
unfolding section_of section_with
in_section o None clear = omega arith
in_section o (Some s) clear =
    let sound = both_None (section_fault s) _ clear in
    rw (readable s sound.0) (by_result o (data_of s) (type_info_of o (data_of s)) refl)

pub types_owned : (file : List ℕ) → btf_fault file ≡ None → types_bytes (types_of_file file) ≤ extern_types_size + types_in_bytes (ei_data file) (data_in (types_section file)) (readable_types file)
unfolding types_of_file btf_of btf_fault readable_types
types_owned file clear = in_section (ei_data file) (types_section file) clear

same_in : (o : Endianness) (s : Option SectionOf) → types_fault_in o s ≡ None → result_ok (type_info_of o (data_in s)) ≡ btf_in o s
unfolding section_of section_with type_info_of header_fault
same_in o None clear = refl
same_in o (Some s) clear = let sound = both_None (section_fault s) _ clear in ap (λ b. result_ok (type_info_of o b)) (readable s sound.0)

types_same : (file : List ℕ) → btf_fault file ≡ None → readable_types file ≡ btf_of file
unfolding btf_of btf_fault readable_types
types_same file clear = same_in (ei_data file) (types_section file) clear

ext_in_same : (mode : ParseMode) (file : List ℕ) (types : TypeInfo) (s : Option SectionOf) → ext_fault_in mode (ei_data file) types s ≡ None → result_ok (read_ext true (ei_data file) (data_in s) types.strings) ≡ ext_in (ei_data file) types s
unfolding section_of section_with read_ext ext_header_fault
ext_in_same mode file types None clear = refl
ext_in_same mode file types (Some s) clear = let sound = both_None (section_fault s) _ clear in ap (λ b. result_ok (read_ext true (ei_data file) b types.strings)) (readable s sound.0)

beside_same : (mode : ParseMode) (file : List ℕ) (types : Option TypeInfo) → ext_fault_beside mode file types ≡ None → ext_beside_types file types ≡ ext_beside file types
beside_same mode file None clear = refl
beside_same mode file (Some types) clear = ext_in_same mode file types (ext_section file) clear

pub ext_same : (mode : ParseMode) (file : List ℕ) → file_types_fault mode file ≡ None → readable_ext file ≡ ext_of file
unfolding ext_of readable_ext file_types_fault ext_fault
ext_same mode file clear =
    let both = both_None (btf_fault file) _ clear in
    ap (ext_beside_types file) (types_same file both.0) ∙ beside_same mode file (btf_of file) both.1

-- ---- the records of `.BTF.ext`, by the lengths of its parts

-- ---- answers that are no faults

ok_parts : {A X : Type 0} (r : Result A BtfError) (f : A → Result X BtfError) (x : X) → if_ok r f ≡ Ok x → (a : A) × (r ≡ Ok a) × (f a ≡ Ok x)
ok_parts (Ok a) f x e = (a, refl, e)
ok_parts (Err b) f x e = absurd (let no : ⊥ = cc in no)

no_fault : {X : Type 0} (o : Option BtfError) (rest : Result X BtfError) (x : X) → if_some o (λ e. Err e) rest ≡ Ok x → (o ≡ None) × (rest ≡ Ok x)
no_fault None rest x e = (refl, e)
no_fault (Some b) rest x e = absurd (let no : ⊥ = cc in no)

second_fails : (a b c : Bool) (e f g : BtfError) → first_of ((a, e) ∷ (b, f) ∷ (c, g) ∷ []) ≡ None → b ≡ false
second_fails true b c e f g is = cc
second_fails false true c e f g is = cc
second_fails false false c e f g is = refl

-- records that are long enough, or none
first_false : (a b : Bool) → b ≡ true → (a && b) ≡ false → a ≡ false
first_false true b t e = sym t ∙ e
first_false false b t e = refl

long_enough : (least size n : ℕ) → (nat_lt size least && not (n == 0)) ≡ false → least * n ≤ size * n
long_enough least size zero is = omega arith
long_enough least size (suc n) is =
    let some : (suc n == 0) ≡ false = grind (arith, nat_tests) in
    let e : nat_lt size least ≡ false = first_false (nat_lt size least) (not (suc n == 0)) (ap not some) is in
    mul-le-mul_right (suc n) (grind (arith, nat_tests, e))

-- ---- one section

module _ {S : Type 0} (o : Endianness) (bytes : List ℕ) (least size end : ℕ) (records : ℕ → Result S BtfError) (count : S → ℕ)
    (counted : (offset : ℕ) (s : S) → records offset ≡ Ok s → count s ≤ num_info_at o bytes offset) where
  one_section : (offset : ℕ) (found : S × ℕ) → checked_section o bytes least size end records offset ≡ Ok found → offset + (8 + least * count found.0) ≤ found.1
  unfolding checked_section info_sec_fault
  one_section offset found is =
      let sound = no_fault (info_sec_fault o bytes least size offset end) _ found is in
      let parts = ok_parts (records offset) _ found sound.1 in
      let same : (parts.0, section_end o bytes size offset) ≡ found = cc in
      let fewer : count parts.0 ≤ num_info_at o bytes offset = counted offset parts.0 parts.1 in
      let short : least * num_info_at o bytes offset ≤ size * num_info_at o bytes offset = long_enough least size (num_info_at o bytes offset) (second_fails _ _ _ _ _ _ sound.0) in
      let times : count parts.0 * least ≤ num_info_at o bytes offset * least = mul-le-mul_right least fewer in
      subst (λ (f : S × ℕ). offset + (8 + least * count f.0) ≤ f.1) same (omega (arith, short, times))

-- ---- sections one after the other, each of at most 10 times the bytes that it has in the file

module _ {S : Type 0} (w : S → ℕ) (read : ℕ → Result (S × ℕ) BtfError) (end : ℕ) (steps : (offset : ℕ) (found : S × ℕ) → read offset ≡ Ok found → 10 * offset + w found.0 ≤ 10 * found.1) where
  at_end : (offset : ℕ) (all : List S) → (offset == end) ≡ true → ◌≡◌ {A = Result (List S) BtfError} (Ok []) (Ok all) → 10 * offset + total w all ≤ 10 * end
  at_end offset all here is =
      let none : [] ≡ all = cc in
      let same : offset ≡ end = eqb-true offset end here in
      subst (λ xs. 10 * offset + total w xs ≤ 10 * end) none (omega (arith, same))

  all_read : (left offset : ℕ) (all : List S) → sections_from left read offset end ≡ Ok all → 10 * offset + total w all ≤ 10 * end
  unfolding sections_from
  all_read zero offset all is =
      elim (offset == end) as (λ b. (offset == end) ≡ b → (if b then Ok [] else Err InvalidInfo) ≡ Ok all → 10 * offset + total w all ≤ 10 * end) [
        | true ↦ λ t e. at_end offset all t e
        | false ↦ λ t e. absurd (let no : ⊥ = cc in no)
      ] refl is
  all_read (suc left) offset all is =
      elim (offset == end) as (λ b. (offset == end) ≡ b → (if b then Ok [] else if_ok (read offset) (λ found. if_ok (sections_from left read found.1 end) (λ more. Ok (found.0 ∷ more)))) ≡ Ok all → 10 * offset + total w all ≤ 10 * end) [
        | true ↦ λ t e. at_end offset all t e
        | false ↦ λ t e.
            (let first = ok_parts (read offset) _ all e in
            let found = first.0 in
            let later = ok_parts (sections_from left read found.1 end) _ all first.2 in
            let same : found.0 ∷ later.0 ≡ all = cc in
            let step : 10 * offset + w found.0 ≤ 10 * found.1 = steps offset found first.1 in
            let rest : 10 * found.1 + total w later.0 ≤ 10 * end = all_read left found.1 later.0 later.1 in
            subst (λ xs. 10 * offset + total w xs ≤ 10 * end) same (omega (arith, step, rest)))
      ] refl is

-- ---- a part

part_room : (o : Endianness) (bytes : List ℕ) (at : ℕ) → sections_end o bytes at - sections_start o bytes at ≤ part_length o bytes at
unfolding sections_start sections_end
part_room o bytes at = elim (part_length o bytes at == 0) as (λ b. (if b then 0 else part_start o bytes at + part_length o bytes at) - (if b then 0 else part_start o bytes at + 4) ≤ part_length o bytes at) [
  | true ↦ omega arith
  | false ↦ omega arith
]

-- a table by names counts no more than its entries in order
named_short : {S : Type 0} (w : List ℕ × S → ℕ) (all : List (List ℕ × S)) → total w (entries (put_all {R = text_cmp} empty all)) ≤ total w all
named_short w all = covered text_total text_exact (λ e. e.0) w w all all (all_of (Counted text_total text_exact (λ e. e.0) w w all) all (λ e here. (e, here, refl, omega arith)))

pub all_ok_length : {X : Type 0} (rs : List (Result X BtfError)) (xs : List X) → all_ok rs ≡ Ok xs → length xs ≤ length rs
all_ok_length {X = X} [] xs is = let none : [] ≡ xs = cc in subst (λ (ys : List X). length ys ≤ 0) none (omega arith)
all_ok_length {X = X} (r ∷ rs) xs is =
    let first = ok_parts r _ xs is in
    let later = ok_parts (all_ok rs) _ xs first.2 in
    let same : first.0 ∷ later.0 ≡ xs = cc in
    let rest = all_ok_length rs later.0 later.1 in
    subst (λ (ys : List X). length ys ≤ suc (length rs)) same (omega (arith, rest))

-- ---- the three parts

module _ (o : Endianness) (bytes strings : List ℕ) where
  func_count : (size offset : ℕ) (s : List ℕ × FuncSecInfo) → named_func_info o bytes strings size offset ≡ Ok s → length s.1.func_info ≤ num_info_at o bytes offset
  unfolding named_func_info func_infos
  func_count size offset s is =
      let parts = ok_parts (text_at strings (sec_name_off_at o bytes offset)) _ s is in
      let same : (parts.0, func_infos o bytes size offset) ≡ s = cc in
      let count = items_length (func_record o bytes) size (offset + 8) (num_info_at o bytes offset) in
      subst (λ (t : List ℕ × FuncSecInfo). length t.1.func_info ≤ num_info_at o bytes offset) same (omega (arith, count))

  line_count : (size offset : ℕ) (s : List ℕ × LineSecInfo) → named_line_info o bytes strings size offset ≡ Ok s → length s.1.line_info ≤ num_info_at o bytes offset
  unfolding named_line_info line_infos
  line_count size offset s is =
      let parts = ok_parts (text_at strings (sec_name_off_at o bytes offset)) _ s is in
      let same : (parts.0, line_infos o bytes size offset) ≡ s = cc in
      let count = items_length (line_record o bytes) size (offset + 8) (num_info_at o bytes offset) in
      subst (λ (t : List ℕ × LineSecInfo). length t.1.line_info ≤ num_info_at o bytes offset) same (omega (arith, count))

  core_count : (size offset : ℕ) (s : ℕ × List Relocation) → section_core_relos true o bytes size offset ≡ Ok s → length s.1 ≤ num_info_at o bytes offset
  unfolding section_core_relos core_relos_at
  core_count size offset s is =
      let n = num_info_at o bytes offset in
      let parts = ok_parts (core_relos_at true bytes size (offset + 8) n) _ s is in
      let same : (sec_name_off_at o bytes offset, parts.0) ≡ s = cc in
      let fewer = all_ok_length (map (core_relo_at true bytes size (offset + 8)) (range_with_len 0 n)) parts.0 parts.1 in
      let count = length-map-range_with_len (core_relo_at true bytes size (offset + 8)) 0 n in
      subst (λ (t : ℕ × List Relocation). length t.1 ≤ n) same (omega (arith, fewer, count))

  funcs_within : (m : FinMap text_cmp FuncSecInfo) → func_sections o bytes strings ≡ Ok m → total funcs_row (entries m) ≤ 10 * part_length o bytes func_part
  unfolding func_sections
  funcs_within m is =
      let size = record_size o bytes func_part in
      let end = sections_end o bytes func_part in
      let sound = no_fault (part_fault o bytes func_part) _ m is in
      let parts = ok_parts (part_sections o bytes func_part (func_section o bytes strings size end)) _ m sound.1 in
      let same : put_all {R = text_cmp} empty parts.0 ≡ m = cc in
      let read = all_read funcs_row (func_section o bytes strings size end) end (λ offset found is. (let step = one_section o bytes 8 size end (named_func_info o bytes strings size) (λ (s : List ℕ × FuncSecInfo). length s.1.func_info) (func_count size) offset found is in omega (arith, step))) _ (sections_start o bytes func_part) parts.0 parts.1 in
      let fewer = named_short funcs_row parts.0 in
      let room = part_room o bytes func_part in
      subst (λ t. total funcs_row (entries t) ≤ 10 * part_length o bytes func_part) same (omega (arith, read, fewer, room))

  lines_within : (m : FinMap text_cmp LineSecInfo) → line_sections o bytes strings ≡ Ok m → total lines_row (entries m) ≤ 10 * part_length o bytes line_part
  unfolding line_sections
  lines_within m is =
      let size = record_size o bytes line_part in
      let end = sections_end o bytes line_part in
      let sound = no_fault (part_fault o bytes line_part) _ m is in
      let parts = ok_parts (part_sections o bytes line_part (line_section o bytes strings size end)) _ m sound.1 in
      let same : put_all {R = text_cmp} empty parts.0 ≡ m = cc in
      let read = all_read lines_row (line_section o bytes strings size end) end (λ offset found is. (let step = one_section o bytes 16 size end (named_line_info o bytes strings size) (λ (s : List ℕ × LineSecInfo). length s.1.line_info) (line_count size) offset found is in omega (arith, step))) _ (sections_start o bytes line_part) parts.0 parts.1 in
      let fewer = named_short lines_row parts.0 in
      let room = part_room o bytes line_part in
      subst (λ t. total lines_row (entries t) ≤ 10 * part_length o bytes line_part) same (omega (arith, read, fewer, room))

  core_within : (all : List (ℕ × List Relocation)) → core_relo_sections true o bytes ≡ Ok all → total core_row all ≤ 10 * part_length o bytes core_relo_part
  unfolding core_relo_sections
  core_within all is =
      let size = record_size o bytes core_relo_part in
      let end = sections_end o bytes core_relo_part in
      let sound = no_fault (part_fault o bytes core_relo_part) _ all is in
      let read = all_read core_row (core_relo_section true o bytes size end) end (λ offset found is. (let step = one_section o bytes 16 size end (section_core_relos true o bytes size) (λ (s : ℕ × List Relocation). length s.1) (core_count size) offset found is in omega (arith, step))) _ (sections_start o bytes core_relo_part) all sound.1 in
      let room = part_room o bytes core_relo_part in
      omega (arith, read, room)

  -- ---- the whole

  header_within : (a b c : Bool) (e f g : BtfError) → first_of ((a, e) ∷ (b, f) ∷ (c, g) ∷ (nat_lt (length bytes) (header_length o bytes), InvalidHeader) ∷ []) ≡ None → nat_lt (length bytes) (header_length o bytes) ≡ false
  header_within true b c e f g is = cc
  header_within false true c e f g is = cc
  header_within false false true e f g is = cc
  header_within false false false e f g is = elim (nat_lt (length bytes) (header_length o bytes)) as (λ b. first_of ((b, InvalidHeader) ∷ []) ≡ None → b ≡ false) [
    | true ↦ λ no. cc
    | false ↦ λ yes. refl
  ] is

  part_counted : (at : ℕ) → nat_lt (length bytes) (header_length o bytes) ≡ false → part_length o bytes at ≤ part_bytes o bytes at
  unfolding part_length
  part_counted at whole = by_tests (nat_lt (length bytes) (at + 8)) (nat_lt (header_length o bytes) (at + 8)) refl refl
    where
      by_tests : (b c : Bool) → nat_lt (length bytes) (at + 8) ≡ b → nat_lt (header_length o bytes) (at + 8) ≡ c → part_length o bytes at ≤ part_bytes o bytes at
      by_tests false c e f = rw e (omega arith)
      by_tests true true e f = rw (e, f) (omega arith)
      by_tests true false e f = absurd (let no : ⊥ = grind (arith, nat_tests, e, f, whole) in no)

  pub ext_within : (ext : ExtInfo) → read_ext true o bytes strings ≡ Ok ext → ext_bytes (Some ext) ≤ ext_in_bytes o bytes (Some ext)
  unfolding read_ext ext_header_fault
  ext_within ext is =
      let sound = no_fault (ext_header_fault o bytes) _ ext is in
      let whole = header_within (nat_lt (length bytes) 24) (not (magic o bytes == 0xEB9F)) (nat_lt (header_length o bytes) 24) InvalidHeader InvalidHeader InvalidHeader sound.0 in
      let funcs = ok_parts (func_sections o bytes strings) _ ext sound.1 in
      let lines = ok_parts (line_sections o bytes strings) _ ext funcs.2 in
      let core = ok_parts (core_relo_sections true o bytes) _ ext lines.2 in
      let same : record { func_info = funcs.0; line_info = lines.0; relocations = core.0; func_record_size = record_size o bytes func_part; line_record_size = record_size o bytes line_part } ≡ ext = cc in
      let a = funcs_within funcs.0 funcs.1 in
      let b = lines_within lines.0 lines.1 in
      let c = core_within core.0 core.1 in
      let d = part_counted func_part whole in
      let e = part_counted line_part whole in
      let f = part_counted core_relo_part whole in
      subst (λ (x : ExtInfo). ext_bytes (Some x) ≤ ext_in_bytes o bytes (Some x)) same (omega (arith, a, b, c, d, e, f))

-- ---- the records of `.BTF.ext` of a file without a fault

records_by_result : (o : Endianness) (bytes strings : List ℕ) (r : Result ExtInfo BtfError) → read_ext true o bytes strings ≡ r → ext_bytes (result_ok r) ≤ ext_in_bytes o bytes (result_ok r)
records_by_result o bytes strings (Err e) is = omega arith
records_by_result o bytes strings (Ok ext) is = ext_within o bytes strings ext is

records_in_section : (mode : ParseMode) (o : Endianness) (types : TypeInfo) (s : Option SectionOf) → ext_fault_in mode o types s ≡ None → ext_bytes (ext_in o types s) ≤ ext_in_bytes o (data_in s) (ext_in o types s)
unfolding section_of section_with
records_in_section mode o types None clear = omega arith
records_in_section mode o types (Some s) clear =
    let sound = both_None (section_fault s) _ clear in
    rw (readable s sound.0) (records_by_result o (data_of s) types.strings (read_ext true o (data_of s) types.strings) refl)

records_beside : (mode : ParseMode) (file : List ℕ) (types : Option TypeInfo) → ext_fault_beside mode file types ≡ None → ext_bytes (ext_beside file types) ≤ ext_in_bytes (ei_data file) (data_in (ext_section file)) (ext_beside file types)
records_beside mode file None clear = omega arith
records_beside mode file (Some types) clear = records_in_section mode (ei_data file) types (ext_section file) clear

pub ext_owned : (mode : ParseMode) (file : List ℕ) → file_types_fault mode file ≡ None → ext_bytes (ext_of file) ≤ ext_in_bytes (ei_data file) (data_in (ext_section file)) (readable_ext file)
unfolding ext_of file_types_fault ext_fault
ext_owned mode file clear =
    let both = both_None (btf_fault file) _ clear in
    rw (ext_same mode file clear) (records_beside mode file (btf_of file) both.1)
