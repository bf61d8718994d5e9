-- The bytes that the kernel is handed are read as the types that are stated.
use Rattle.std.proofs.Common.{◌≡◌, ◌+◌, ◌-◌, ◌^◌, ◌<◌, ℕ, zero, suc, Bool, true, false, cond, List, [], ◌∷◌, drop, Some, refl, sym, ap, arith, subst, ◌*◌, ◌++◌, length, get_or, ◌∙◌, append-nil, append_assoc, ◌≤◌, ◌||◌, ◌==◌, not, nat_lt, Option, None, Result, Ok, Err}
use Rattle.std.specs.Prelude.{slice_get, slice_index, slice_range, map, flat_map, unwrap_or, option_map, codes}
use Rattle.std.specs.List.{All, find}
use Rattle.std.proofs.lemmas.List.Elements.{All-drop, All-take}
use Rattle.std.proofs.lemmas.List.{length-append}
use Rattle.std.specs.Option.{option_map_or}
use Rattle.std.proofs.lemmas.Bool.Decides.{nat_tests}
use Rattle.ebpf_base.specs.Faults.{first_of, if_ok}
use Rattle.ebpf_base.specs.Numbers.{number_at}
use Rattle.ebpf_base.specs.declared.endianness.Endianness.{Endianness}
use Rattle.ebpf_base.specs.declared.endianness.Endianness.TheVariants.{Little, Big}
use Rattle.ebpf_btf.proofs.Header.{header_again, header_word, length_header, middle}
use Rattle.ebpf_btf.proofs.Written.{written_type}
use Rattle.ebpf_btf.proofs.InOrder.{items_none}
use Rattle.ebpf_btf.proofs.Lengths.{length_here, at_least}
use Rattle.ebpf_btf.proofs.SameWords.{spelled_same}
use Rattle.ebpf_btf.proofs.WordsBehind.{word_front, word_behind}
use Rattle.ebpf_btf.proofs.Spelling.{found_spelled}
use Rattle.ebpf_btf.specs.Format.{IsTypeAt, entry_at, spelled, vlen_at, word, further_words, info_at, info_kind, info_vlen}
use Rattle.ebpf_btf.specs.Header.{header_bytes}
use Rattle.ebpf_btf.specs.Words.{type_length, count_of, flag_of, further_of, word_bytes, words_bytes, words_of}
use Rattle.ebpf_btf.specs.Items.{items_at}
use Rattle.ebpf_btf.specs.Offsets.{without_fallback}
use Rattle.ebpf_btf.specs.Reading.{header_fault, header_length, magic, strings_end, type_info_of, types_end, types_part, types_start}
use Rattle.ebpf_btf.specs.TypeInfo.{TypeInfo}
use Rattle.ebpf_btf.specs.Types.{kind_of, kind_number, name_off, size_word, type_word}
use Rattle.ebpf_btf.specs.declared.error.BtfError.{BtfError}
use Rattle.ebpf_btf.specs.declared.error.BtfError.TheVariants as btf_errors
use Rattle.ebpf_btf.specs.declared.kind.BtfKind.TheVariants as kinds
use Rattle.ebpf_btf.specs.declared.members.DataSecEntry.{DataSecEntry}
use Rattle.ebpf_btf.specs.declared.types.BtfType.{BtfType}
use Rattle.ebpf_btf.specs.declared.types.BtfType.TheVariants.{DataSec, Unknown, Int, Var, Func}
use Rattle.ebpf_elf.specs.Headers.{ei_data}
use Rattle.ebpf_elf.specs.Names.{is_name}
use Rattle.ebpf_elf.specs.Sections.{SectionOf, data_of, header, sections, data_faults, section_name}
use Rattle.ebpf_btf_load.proofs.SectionTurns.{position_within, words_turn}
use Rattle.ebpf_btf_load.proofs.Turns.{AreReady, ArePlaced, Stands, is_placed, of_kind}
use Rattle.ebpf_btf_load.proofs.WrittenWords.{AreSmall, items_first, length_words_over}
use Rattle.ebpf_btf_load.proofs.Standing.{Tiled, place, type_there, type_kept, from_tiled, like_itself, starts_there, tiled_from, like_place, like_there}
use Rattle.ebpf_btf_load.proofs.TypeIds.{before_others}
use Rattle.ebpf_btf_load.specs.KsymsSections.{linkage_by, linkage_in, linkages_of, int_words, standin_bytes, variable_words, all_strings, first_int, is_int_of_4, standins_or_fault, standins_with}
use Rattle.ebpf_btf_load.specs.KernelTypes.{standin_types, KernelTypesAreRead, btf_bytes, sources_in, kernel_type_info, standins_of, type_info_with, types_changes, with_changes, FunctionLinkagesAreStated, all_types, btf_part, btf_section, kernel_types_of, no_file_fault, part_of, sources_of, types_of_bytes, types_of_found, types_of_section, types_of_sources, types_or_fault, written_types, all_words, words_over}
use Rattle.ebpf_btf_load.specs.TypeSources.{if_no_fault, start_of, type_end, type_starts}
use Rattle.ebpf_btf_load.specs.declared.ksyms.Standins.{Standins}
use Rattle.ebpf_btf_load.specs.declared.error.KernelTypesError.{KernelTypesError}
use Rattle.ebpf_btf_load.specs.declared.error.KernelTypesError.TheVariants.{ElfError, TooLarge}
use Rattle.ebpf_btf_load.specs.declared.words.WrittenWord.{WrittenWord}

-- ---- answers without a fault

no_fault : {X : Type 0} (f : Option KernelTypesError) (r : Result X KernelTypesError) (y : X) → if_no_fault f r ≡ Ok y → (f ≡ None) × (r ≡ Ok y)
no_fault None r y is = (refl, is)
no_fault (Some e) r y is = cc

ok_then : {A X : Type 0} (r : Result A KernelTypesError) (next : A → Result X KernelTypesError) (y : X) → if_ok r next ≡ Ok y
    → (x : A) × (r ≡ Ok x) × (next x ≡ Ok y)
ok_then (Ok x) next y is = (x, refl, is)
ok_then (Err e) next y is = cc

same_ok : {X : Type 0} (x y : X) → ◌≡◌ {A = Result X KernelTypesError} (Ok x) (Ok y) → x ≡ y
same_ok x y is = cc

-- ---- fields of types that are read of bytes have 32 bits

abbrev pub AreBytes : List ℕ → Type 0
AreBytes bytes = All (λ b. b < 256) bytes

byte_small : (bytes : List ℕ) → AreBytes bytes → (k : ℕ) → slice_index bytes k < 256
byte_small [] small k = omega arith
byte_small (b ∷ bytes) small zero = small 0 0 (omega arith)
byte_small (b ∷ bytes) small (suc k) = byte_small bytes (λ i d below. small (suc i) d (omega arith)) k

word_small : (o : Endianness) (part : List ℕ) (p : ℕ) → AreBytes part → word o part p < 2 ^ 32
unfolding number_at
word_small Little part p small =
    let at = byte_small (drop p part) (All-drop (λ b. b < 256) p part small) in
    omega (arith, at 0, at 1, at 2, at 3)
word_small Big part p small =
    let at = byte_small (drop p part) (All-drop (λ b. b < 256) p part small) in
    omega (arith, at 0, at 1, at 2, at 3)

entries_small : (o : Endianness) (part : List ℕ) (p n : ℕ) → AreBytes part → AreSmall (items_at (entry_at o part) 12 p n)
unfolding entry_at
entries_small o part p zero small = subst AreSmall (sym (items_none (entry_at o part) 12 p)) tt
entries_small o part p (suc n) small =
    subst AreSmall (sym (items_first (entry_at o part) 12 p n))
    (word_small o part p small, word_small o part (p + 4) small, word_small o part (p + 8) small, entries_small o part (p + 12) n small)

section_small : (o : Endianness) (part : List ℕ) (p e name size : ℕ) (rows : List DataSecEntry) → AreBytes part → IsTypeAt o part p e (DataSec name size rows)
    → (size < 2 ^ 32) × AreSmall rows
unfolding spelled kind_of
section_small o part p e name size rows small is =
    let words : DataSec name size rows ≡ DataSec (word o part p) (word o part (p + 8)) (items_at (entry_at o part) 12 (p + 12) (vlen_at o part p)) =
    (of_kind o part p e (DataSec name size rows) kinds.DataSec is refl).1 in
    let sized : size ≡ word o part (p + 8) = cc in
    let same : rows ≡ items_at (entry_at o part) 12 (p + 12) (vlen_at o part p) = cc in
    let low = word_small o part (p + 8) small in
    (omega arith, subst AreSmall (sym same) (entries_small o part (p + 12) (vlen_at o part p) small))

pub sections_small : (o : Endianness) (part : List ℕ) (first : List BtfType) → AreBytes part → Tiled o part 0 first
    → (id name size : ℕ) (rows : List DataSecEntry) → slice_get (Unknown ∷ first) id ≡ Some (DataSec name size rows) → (size < 2 ^ 32) × AreSmall rows
sections_small o part first small tiled zero name size rows is = cc
sections_small o part first small tiled (suc k) name size rows is =
    section_small o part (place 0 first k) (place 0 first k + type_length (DataSec name size rows)) name size rows small (type_there o part 0 first k (DataSec name size rows) tiled is).0

-- ---- the bytes of a section

pub range_bytes : (bytes : List ℕ) (from to : ℕ) → AreBytes bytes → AreBytes (slice_range bytes from to)
range_bytes bytes from to small = All-take (λ b. b < 256) (to - from) (drop from bytes) (All-drop (λ b. b < 256) from bytes small)

found_of : (p : SectionOf → Bool) (file : List ℕ) (indices : List ℕ) (s : SectionOf) → find p (map (λ i. record { file = file; index = i }) indices) ≡ Some s → s.file ≡ file
found_of p file [] s is = cc
found_of p file (i ∷ indices) s is = by_test (p (record { file = file; index = i })) is (found_of p file indices s)
  where
    by_test : (b : Bool) → cond b (Some (record { file = file; index = i })) (find p (map (λ i. record { file = file; index = i }) indices)) ≡ Some s
        → (find p (map (λ i. record { file = file; index = i }) indices) ≡ Some s → s.file ≡ file) → s.file ≡ file
    by_test true here later = let same : record { file = file; index = i } ≡ s = cc in ap (λ t. t.file) (sym same)
    by_test false here later = later here

section_bytes : (s : SectionOf) → AreBytes s.file → AreBytes (data_of s)
unfolding data_of
section_bytes s small = by_test _
  where
    by_test : (b : Bool) → AreBytes (cond b [] (slice_range s.file (header s).sh_offset ((header s).sh_offset + (header s).sh_size)))
    by_test true = λ k d below. absurd (omega arith)
    by_test false = range_bytes s.file (header s).sh_offset ((header s).sh_offset + (header s).sh_size) small

pub data_bytes : (p : SectionOf → Bool) (file : List ℕ) (s : SectionOf) → AreBytes file → find p (sections file) ≡ Some s → AreBytes (data_of s)
data_bytes p file s small is = section_bytes s (subst AreBytes (sym (found_of p file _ s is)) small)

-- ---- the types that stand in, behind others

-- ---- one type behind others

type_moved : (o : Endianness) (xs ys : List ℕ) (end : ℕ) (t : BtfType) → IsTypeAt o ys 0 end t → IsTypeAt o (xs ++ ys) (length xs) (length xs + end) t
type_moved o xs ys end t is =
    let kind = kind_of t in
    let ends : end ≡ 0 + 12 + 4 * further_words kind (info_vlen (info_at o ys 0)) = is.ends in
    let info : word o (xs ++ ys) (length xs + 4) ≡ word o ys (0 + 4) = word_behind o xs ys 4 in
    let more : length xs + end ≡ length xs + 12 + 4 * further_words kind (info_vlen (info_at o ys 0)) = omega arith in
    record {
      kind = ap info_kind info ∙ is.kind;
      words = is.words ∙ sym (spelled_same o ys 0 (xs ++ ys) (length xs) kind (λ k within. word_behind o xs ys k ∙ ap (word o ys) (front k)));
      ends = more ∙ ap (λ n. length xs + 12 + 4 * further_words kind (info_vlen n)) (sym info);
    }
  where
    front : (k : ℕ) → k ≡ 0 + k
    front k = omega arith

one_more : (o : Endianness) (part ys : List ℕ) (p : ℕ) (ts : List BtfType) (t : BtfType) → Tiled o part p ts → IsTypeAt o ys 0 (length ys) t → Tiled o (part ++ ys) p (ts ++ t ∷ [])
one_more o part ys p [] t are is =
    let long : length ys ≡ 0 + type_length t = length_here o ys 0 (length ys) t is in
    let all : length (part ++ ys) ≡ length part + length ys = length-append part ys in
    let there = type_moved o part ys (length ys) t is in
    let first : IsTypeAt o (part ++ ys) p (p + type_length t) t = moved p (p + type_length t) (omega (arith, are)) (omega (arith, are)) there in
    (first, omega (arith, are), omega (arith, are))
  where
    moved : (q n : ℕ) → q ≡ length part → n ≡ length part + length ys → IsTypeAt o (part ++ ys) (length part) (length part + length ys) t → IsTypeAt o (part ++ ys) q n t
    moved q n from to there = rw (from, to) there
one_more o part ys p (u ∷ us) t are is =
    let all : length (part ++ ys) ≡ length part + length ys = length-append part ys in (
      type_kept o part (part ++ ys) p (p + type_length u) u are.0 (λ q from within. word_front o part ys q (omega (arith, are.1))),
      omega (arith, are.1),
      one_more o part ys (p + type_length u) us t are.2 is,
    )

-- ---- the two

fits_four : (a b c d : ℕ) → a < 2 ^ 32 → b < 2 ^ 32 → c < 2 ^ 32 → d < 2 ^ 32 → (i : ℕ) → i < 4 → get_or (a ∷ b ∷ c ∷ d ∷ []) i 0 < 2 ^ 32
fits_four a b c d p q r s zero below = p
fits_four a b c d p q r s (suc zero) below = q
fits_four a b c d p q r s (suc (suc zero)) below = r
fits_four a b c d p q r s (suc (suc (suc zero))) below = s
fits_four a b c d p q r s (suc (suc (suc (suc i)))) below = absurd (omega arith)

int_there : (o : Endianness) (name : ℕ) → name < 2 ^ 32
    → IsTypeAt o (flat_map (word_bytes o) (int_words name true)) 0 (length (flat_map (word_bytes o) (int_words name true))) (Int name 4 0x01000020)
unfolding words_of name_off kind_of kind_number flag_of count_of size_word type_word further_of words_bytes without_fallback
int_there o name small =
    written_type o (Int name 4 0x01000020) (int_words name true) (flat_map (word_bytes o) (int_words name true)) (omega arith) (omega arith)
    (fits_four name 0x01000000 4 0x01000020 small (omega arith) (omega arith) (omega arith)) refl refl

variable_there : (o : Endianness) (name int : ℕ) → name < 2 ^ 32 → int < 2 ^ 32
    → IsTypeAt o (flat_map (word_bytes o) (name ∷ 0x0e000000 ∷ int ∷ 1 ∷ [])) 0 (length (flat_map (word_bytes o) (name ∷ 0x0e000000 ∷ int ∷ 1 ∷ []))) (Var name int 1)
unfolding words_of name_off kind_of kind_number flag_of count_of size_word type_word further_of words_bytes without_fallback
variable_there o name int small low =
    let ws = name ∷ 0x0e000000 ∷ int ∷ 1 ∷ [] in
    written_type o (Var name int 1) ws (flat_map (word_bytes o) ws) (omega arith) (omega arith) (fits_four name 0x0e000000 int 1 small (omega arith) low (omega arith)) refl refl

none_more : (o : Endianness) (part : List ℕ) (ts : List BtfType) → Tiled o part 0 ts → Tiled o (part ++ []) 0 (ts ++ [])
none_more o part ts are = rw (append-nil part, append-nil ts) are

with_int : (o : Endianness) (part : List ℕ) (ts : List BtfType) (name : ℕ) (adds : Bool) → name < 2 ^ 32 → Tiled o part 0 ts
    → Tiled o (part ++ flat_map (word_bytes o) (int_words name adds)) 0 (ts ++ cond adds (Int name 4 0x01000020 ∷ []) [])
with_int o part ts name true small are = one_more o part (flat_map (word_bytes o) (int_words name true)) 0 ts (Int name 4 0x01000020) are (int_there o name small)
with_int o part ts name false small are = none_more o part ts are

with_variable : (o : Endianness) (part : List ℕ) (ts : List BtfType) (name int : ℕ) (adds : Bool) → name < 2 ^ 32 → int < 2 ^ 32 → Tiled o part 0 ts
    → Tiled o (part ++ flat_map (word_bytes o) (cond adds (name ∷ 0x0e000000 ∷ int ∷ 1 ∷ []) [])) 0 (ts ++ cond adds (Var name int 1 ∷ []) [])
with_variable o part ts name int true small low are =
    one_more o part (flat_map (word_bytes o) (name ∷ 0x0e000000 ∷ int ∷ 1 ∷ [])) 0 ts (Var name int 1) are (variable_there o name int small low)
with_variable o part ts name int false small low are = none_more o part ts are

pub with_standins : (o : Endianness) (part : List ℕ) (ts : List BtfType) (types : TypeInfo) (s : Standins) → length types.strings < 2 ^ 32 → s.name_offset < 2 ^ 32 → s.int_id < 2 ^ 32
    → Tiled o part 0 ts → Tiled o (part ++ standin_bytes o (length types.strings) s) 0 (ts ++ standin_types types s)
with_standins o part ts types s small name int are =
    let first = flat_map (word_bytes o) (int_words (length types.strings) s.adds_int) in
    let second = flat_map (word_bytes o) (variable_words s) in
    let a = cond s.adds_int (Int (length types.strings) 4 0x01000020 ∷ []) [] in
    let b = cond s.adds_variable (Var s.name_offset s.int_id 1 ∷ []) [] in
    let both = with_variable o (part ++ first) (ts ++ a) s.name_offset s.int_id s.adds_variable name int (with_int o part ts (length types.strings) s.adds_int small are) in
    grouped o (part ++ first ++ second) (part ++ (first ++ second)) (ts ++ a ++ b) (ts ++ (a ++ b)) (append_assoc part first second) (append_assoc ts a b) both
  where
    grouped : (o : Endianness) (xs ys : List ℕ) (ts us : List BtfType) → xs ≡ ys → ts ≡ us → Tiled o xs 0 ts → Tiled o ys 0 us
    grouped o xs ys ts us p q are = rw (← p, ← q) are

-- ---- the bytes that the kernel is handed are read as the types that are stated

-- ---- the types that stand in

-- their ids and the offset of the name have 32 bits
pub record AreLow (s : Standins) : Type 0 where
  pub name : s.name_offset < 2 ^ 32
  pub int : s.int_id < 2 ^ 32
  pub variable : s.variable_id < 2 ^ 32

with_low : (types : TypeInfo) (r : Option ℕ) → first_int types ≡ r → length types.types ≤ 0xfffffff0 → length types.strings ≤ 0xffffff00 → AreLow (standins_with types r)
with_low types None is few short = record { name = omega arith; int = omega arith; variable = omega arith }
with_low types (Some id) is few short =
    let below = position_within is_int_of_4 types.types 0 id is in
    record { name = omega arith; int = omega arith; variable = omega arith }

standins_are : (types : TypeInfo) (s : Standins) → standins_or_fault types ≡ Ok s → (s ≡ standins_with types (first_int types)) × AreLow s × (length types.strings < 2 ^ 32)
standins_are types s is = by_test (nat_lt 0xfffffff0 (length types.types)) (nat_lt 0xffffff00 (length types.strings)) refl refl is
  where
    by_test : (a b : Bool) → nat_lt 0xfffffff0 (length types.types) ≡ a → nat_lt 0xffffff00 (length types.strings) ≡ b
        → cond (a || b) (Err TooLarge) (Ok (standins_with types (first_int types))) ≡ Ok s
        → (s ≡ standins_with types (first_int types)) × AreLow s × (length types.strings < 2 ^ 32)
    by_test true b few short here = cc
    by_test false true few short here = cc
    by_test false false few short here =
        let same = same_ok (standins_with types (first_int types)) s here in
        let n : length types.types ≤ 0xfffffff0 = grind (arith, nat_tests) in
        let m : length types.strings ≤ 0xffffff00 = grind (arith, nat_tests) in
        (sym same, subst AreLow same (with_low types (first_int types) refl n m), omega arith)

-- ---- where the types stand

whole_part : (o : Endianness) (bytes : List ℕ) → header_fault o bytes ≡ None → part_of o bytes ≡ types_part o bytes
unfolding header_fault
whole_part o bytes fine =
    by_rows (nat_lt (length bytes) 24) (not (magic o bytes == 0xEB9F)) (nat_lt (header_length o bytes) 24) (nat_lt (length bytes) (types_end o bytes)) fine
  where
    by_rows : (a b c d : Bool) → first_of ((a, btf_errors.InvalidHeader) ∷ (b, btf_errors.InvalidHeader) ∷ (c, btf_errors.InvalidHeader) ∷ (d, btf_errors.InvalidHeader)
        ∷ (nat_lt (length bytes) (strings_end o bytes), btf_errors.InvalidHeader) ∷ []) ≡ None → cond (a || d) [] (types_part o bytes) ≡ types_part o bytes
    by_rows true b c d none = cc
    by_rows false true c d none = cc
    by_rows false false true d none = cc
    by_rows false false false true none = cc
    by_rows false false false false none = refl

pub are_placed : (o : Endianness) (part : List ℕ) (first : List BtfType) → Tiled o part 0 first → ArePlaced first (type_starts o part 0 (Unknown ∷ first))
unfolding type_end kind_of
are_placed o part first tiled k t is = ap (λ r. unwrap_or r 0) (starts_there o part 0 first k t tiled is)

-- ---- the whole, from what the words are found from

module _ (file bytes : List ℕ) (types : TypeInfo) (small : AreBytes bytes) (read : type_info_of (ei_data file) bytes ≡ Ok types) where
  part_bytes : AreBytes (types_part (ei_data file) bytes)
  unfolding types_part
  part_bytes = range_bytes bytes (types_start (ei_data file) bytes) (types_end (ei_data file) bytes) small

  is_ready : (first : List BtfType) (s : Standins) → types.types ≡ Unknown ∷ first → Tiled (ei_data file) (part_of (ei_data file) bytes) 0 first
      → AreBytes (part_of (ei_data file) bytes) → AreLow s → AreReady (sources_of file bytes types) s first
  is_ready first s all tiled low standins = record {
    all = all;
    placed = subst (λ (ts : List BtfType). ArePlaced first (type_starts (ei_data file) (part_of (ei_data file) bytes) 0 ts)) (sym all)
        (are_placed (ei_data file) (part_of (ei_data file) bytes) first tiled);
    name = standins.name;
    int = standins.int;
    variable = standins.variable;
    inside = λ k t is. (type_there (ei_data file) (part_of (ei_data file) bytes) 0 first k t tiled is).1;
    small = λ id name size rows is. sections_small (ei_data file) (part_of (ei_data file) bytes) first low tiled id name size rows (ap (λ ts. slice_get ts id) (sym all) ∙ is);
  }

  pub written : (handed types_bytes strings : List ℕ) → btf_part (ei_data file) types_bytes strings ≡ Ok handed
      → (length types_bytes < 2 ^ 32) × (length strings < 2 ^ 32) × (header_bytes (ei_data file) (length types_bytes) (length strings) ++ types_bytes ++ strings ≡ handed)
  written handed types_bytes strings is = by_test (nat_lt 0xffffffff (length types_bytes)) (nat_lt 0xffffffff (length strings)) refl refl is
    where
      by_test : (a b : Bool) → nat_lt 0xffffffff (length types_bytes) ≡ a → nat_lt 0xffffffff (length strings) ≡ b
          → cond (a || b) (Err TooLarge) (Ok (header_bytes (ei_data file) (length types_bytes) (length strings) ++ types_bytes ++ strings)) ≡ Ok handed
          → (length types_bytes < 2 ^ 32) × (length strings < 2 ^ 32) × (header_bytes (ei_data file) (length types_bytes) (length strings) ++ types_bytes ++ strings ≡ handed)
      by_test true b few short here = cc
      by_test false true few short here = cc
      by_test false false few short here =
          let n : length types_bytes < 2 ^ 32 = grind (arith, nat_tests) in
          let m : length strings < 2 ^ 32 = grind (arith, nat_tests) in
          (n, m, same_ok _ handed here)

  -- what the bytes that are handed come from
  pub record IsHanded (handed : List ℕ) : Type 0 where
    pub first : List BtfType
    pub s : Standins
    pub words : List WrittenWord
    pub all : types.types ≡ Unknown ∷ first
    pub tiled : Tiled (ei_data file) (part_of (ei_data file) bytes) 0 first
    pub part : part_of (ei_data file) bytes ≡ types_part (ei_data file) bytes
    pub ready : AreReady (sources_of file bytes types) s first
    pub short : length types.strings < 2 ^ 32
    pub standins : s ≡ standins_of (sources_of file bytes types)
    pub found : all_words (sources_of file bytes types) s ≡ Ok words
    pub made : written_types (sources_of file bytes types) s words ≡ Ok handed

  pub is_handed : (handed : List ℕ) → types_of_sources (sources_of file bytes types) ≡ Ok handed → IsHanded handed
  is_handed handed made =
      let g = sources_of file bytes types in
      let o = ei_data file in
      let spells = found_spelled o bytes (Ok types) read in
      let first = spells.types.0 in
      let part = whole_part o bytes spells.header in
      let tiled : Tiled o (part_of o bytes) 0 first = subst (λ (xs : List ℕ). Tiled o xs 0 first) (sym part) (tiled_from o (types_part o bytes) 0 first spells.types.2) in
      let low : AreBytes (part_of o bytes) = subst AreBytes (sym part) part_bytes in
      let a = ok_then (standins_or_fault types) (λ s. if_ok (all_words g s) (λ words. written_types g s words)) handed made in
      let s = a.0 in
      let standins = standins_are types s a.1 in
      let b = ok_then (all_words g s) (λ words. written_types g s words) handed a.2 in
      record {
        first = first;
        s = s;
        words = b.0;
        all = spells.types.1;
        tiled = tiled;
        part = part;
        ready = is_ready first s spells.types.1 tiled low standins.1;
        short = standins.2;
        standins = standins.0;
        found = b.1;
        made = b.2;
      }

  -- the types that stand in the bytes
  pub record AreHanded (handed : List ℕ) (h : IsHanded handed) : Type 0 where
    pub after : List BtfType
    pub stands : Stands (ei_data file) h.s.name_offset h.first (words_over (ei_data file) (part_of (ei_data file) bytes) h.words) after
    pub list : Unknown ∷ (after ++ standin_types types h.s) ≡ (type_info_with (sources_of file bytes types) h.s).types
    pub tiled : Tiled (ei_data file) (all_types (sources_of file bytes types) h.s h.words) 0 (after ++ standin_types types h.s)

  pub are_handed : (handed : List ℕ) (h : IsHanded handed) → AreHanded handed h
  are_handed handed h =
      let g = sources_of file bytes types in
      let o = ei_data file in
      let part = part_of o bytes in
      let changes = types_changes g h.s 0 types.types in
      let turned = (words_turn g h.s h.first h.ready h.words h.found).turns part h.first (record { tiled = h.tiled; like = like_itself h.s.name_offset h.first }) in
      let after = turned.0 in
      let changed : with_changes types.types changes ≡ Unknown ∷ after = ap (λ ts. with_changes ts changes) h.all ∙ turned.1 in
      record {
        after = after;
        stands = turned.2;
        list = ap (λ ts. ts ++ standin_types types h.s) (sym changed);
        tiled = with_standins o (words_over o part h.words) after types h.s h.short h.ready.name h.ready.int turned.2.tiled;
      }

  pub from_handed : (handed : List ℕ) (h : IsHanded handed) → type_info_of (ei_data file) handed ≡ Ok (kernel_type_info (sources_of file bytes types))
  unfolding kernel_type_info
  from_handed handed h =
      let g = sources_of file bytes types in
      let o = ei_data file in
      let are = are_handed handed h in
      let part = all_types g h.s h.words in
      let strings = all_strings types h.s in
      let ts = are.after ++ standin_types types h.s in
      let out = written handed part strings h.made in
      ap (type_info_of o) (sym out.2)
      ∙ header_again o part strings ts out.0 out.1 (from_tiled o part 0 ts are.tiled)
      ∙ ap (λ all. Ok (record { types = all; strings = strings })) are.list
      ∙ ap (λ s. Ok (type_info_with g s)) h.standins

-- ---- the law

types_given : (file bytes handed : List ℕ) (r : Result TypeInfo BtfError) → type_info_of (ei_data file) bytes ≡ r
    → if_ok (types_or_fault r) (λ types. types_of_sources (sources_of file bytes types)) ≡ Ok handed
    → (types : TypeInfo) × (type_info_of (ei_data file) bytes ≡ Ok types) × (types_of_sources (sources_of file bytes types) ≡ Ok handed)
types_given file bytes handed (Ok types) read made = (types, read, made)
types_given file bytes handed (Err e) read made = cc

section_given : (file handed : List ℕ) (r : Option SectionOf) → types_of_found file r ≡ Ok (Some handed)
    → (types : TypeInfo) × (type_info_of (ei_data file) (option_map_or data_of r []) ≡ Ok types)
    × (types_of_sources (sources_of file (option_map_or data_of r []) types) ≡ Ok handed)
section_given file handed None gives = let no : ◌≡◌ {A = Option (List ℕ)} None (Some handed) = same_ok None (Some handed) gives in cc
section_given file handed (Some section) gives =
    let found = ok_then (types_of_section file section) (λ bytes. Ok (Some bytes)) (Some handed) gives in
    let some = same_ok (Some found.0) (Some handed) found.2 in
    let same : found.0 ≡ handed = cc in
    let made = (no_fault (option_map ElfError (first_of (data_faults section))) (types_of_bytes file (data_of section)) found.0 found.1).1 in
    types_given file (data_of section) handed (type_info_of (ei_data file) (data_of section)) refl (made ∙ ap Ok same)

bytes_given : (p : SectionOf → Bool) (file : List ℕ) (r : Option SectionOf) → find p (sections file) ≡ r → AreBytes file → AreBytes (option_map_or data_of r [])
bytes_given p file None is small = λ k d below. absurd (omega arith)
bytes_given p file (Some section) is small = data_bytes p file section small is

-- what a file gives
pub from_file : (file handed : List ℕ) → AreBytes file → kernel_types_of file ≡ Ok (Some handed)
    → (types : TypeInfo) × (type_info_of (ei_data file) (btf_bytes file) ≡ Ok types) × AreBytes (btf_bytes file)
    × (types_of_sources (sources_in file types) ≡ Ok handed)
unfolding kernel_types_of btf_section
from_file file handed small gives =
    let test : SectionOf → Bool = λ s. is_name (codes ".BTF") (section_name s) in
    let found = (no_fault (no_file_fault file) (types_of_found file (find test (sections file))) (Some handed) gives).1 in
    let given = section_given file handed (find test (sections file)) found in
    (given.0, given.1, bytes_given test file (find test (sections file)) refl small, given.2)

pub kernel_types_are_read : KernelTypesAreRead
kernel_types_are_read file handed small gives =
    let from = from_file file handed small gives in
    let h = is_handed file (btf_bytes file) from.0 from.2 from.1 handed from.3 in
    (from.0, from.1, from_handed file (btf_bytes file) from.0 from.2 from.1 handed h)

-- ---- the linkages of FUNCs in the bytes that the kernel is handed are the ones that are stated

-- ---- the part of the types behind a header

part_again : (o : Endianness) (part strings : List ℕ) → length part < 2 ^ 32 → types_part o (header_bytes o (length part) (length strings) ++ part ++ strings) ≡ part
unfolding types_part types_start types_end header_length
part_again o part strings small =
    let m = length part in
    let n = length strings in
    let bytes = header_bytes o m n ++ part ++ strings in
    let long : length (header_bytes o m n) ≡ 24 = length_header o m n in
    let head : word o bytes 4 ≡ 24 = header_word o m n part strings 1 (omega arith) (omega arith) in
    let from : word o bytes 8 ≡ 0 = header_word o m n part strings 2 (omega arith) (omega arith) in
    let size : word o bytes 12 ≡ m = header_word o m n part strings 3 (omega arith) small in
    middle (header_bytes o m n) part strings (word o bytes 4 + word o bytes 8) (word o bytes 4 + word o bytes 8 + word o bytes 12) (omega arith) (omega arith)

-- ---- a linkage

place_front : (p : ℕ) (ts us : List BtfType) (k : ℕ) (t : BtfType) → slice_get ts k ≡ Some t → place p (ts ++ us) k ≡ place p ts k
place_front p [] us k t is = cc
place_front p (v ∷ vs) us zero t is = refl
place_front p (v ∷ vs) us (suc k) t is = place_front (p + type_length v) vs us k t is

module _ (file bytes : List ℕ) (types : TypeInfo) (small : AreBytes bytes) (read : type_info_of (ei_data file) bytes ≡ Ok types) where
  of_function : (handed : List ℕ) (h : IsHanded file bytes types small read handed) (id name proto : ℕ) → slice_get types.types id ≡ Some (Func name proto)
      → linkage_in (ei_data file) (types_part (ei_data file) handed) (type_info_with (sources_of file bytes types) h.s).types id
      ≡ linkage_by (linkages_of (sources_of file bytes types)) id (linkage_in (ei_data file) (types_part (ei_data file) bytes) types.types id)
  unfolding kind_of kind_number
  of_function handed h id name proto func =
      let g = sources_of file bytes types in
      let o = ei_data file in
      let part = part_of o bytes in
      let over = words_over o part h.words in
      let all = all_types g h.s h.words in
      let are = are_handed file bytes types small read handed h in
      let n = is_placed g h.s h.first h.ready id (Func name proto) func (omega arith) in
      let p = start_of g.starts id in
      let there = like_there h.s.name_offset h.first are.after n.k (Func name proto) are.stands.like n.here in
      let ts = are.after ++ standin_types types h.s in
      let here : slice_get ts n.k ≡ Some there.0 = before_others are.after (standin_types types h.s) n.k there.0 there.1 in
      let at : start_of (type_starts o all 0 (Unknown ∷ ts)) id ≡ p =
      ap (start_of (type_starts o all 0 (Unknown ∷ ts))) n.index ∙ are_placed o all ts are.tiled n.k there.0 here
      ∙ place_front 0 are.after (standin_types types h.s) n.k there.0 there.1 ∙ like_place h.s.name_offset 0 h.first are.after n.k are.stands.like ∙ sym n.at in
      let out = written file bytes types small read handed all (all_strings types h.s) h.made in
      let whole : types_part o handed ≡ all = ap (types_part o) (sym out.2) ∙ part_again o all (all_strings types h.s) out.0 in
      let inside = h.ready.inside n.k (Func name proto) n.here in
      let enough = at_least (Func name proto) in
      let long = length_words_over o part h.words in
      let front : word o all (p + 4) ≡ word o over (p + 4) = word_front o over (standin_bytes o (length types.strings) h.s) (p + 4) (omega (arith, n.at)) in
      let set = (words_turn g h.s h.first h.ready h.words h.found).sets part refl id name proto func in
      (λ i. linkage_in o (whole i) (sym are.list i) id)
      ∙ ap (λ q. info_vlen (word o all (q + 4))) at
      ∙ ap info_vlen front ∙ set ∙ ap (λ xs. linkage_by (linkages_of g) id (linkage_in o xs types.types id)) h.part

pub function_linkages_are_stated : FunctionLinkagesAreStated
unfolding kernel_type_info
function_linkages_are_stated file handed types small gives read id name proto func =
    let from = from_file file handed small gives in
    let same : from.0 ≡ types = read_once from.0 types (sym from.1 ∙ read) in
    let made = subst (λ (t : TypeInfo). types_of_sources (sources_in file t) ≡ Ok handed) same from.3 in
    let g = sources_in file types in
    let o = ei_data file in
    let h = is_handed file (btf_bytes file) types from.2 read handed made in
    ap (λ s. linkage_in o (types_part o handed) (type_info_with g s).types id) (sym h.standins)
    ∙ of_function file (btf_bytes file) types from.2 read handed h id name proto func
  where
    read_once : (a b : TypeInfo) → ◌≡◌ {A = Result TypeInfo BtfError} (Ok a) (Ok b) → a ≡ b
    read_once a b e = cc
