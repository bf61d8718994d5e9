-- The types of an object in the form that the kernel takes: the file's `.BTF` with some words
-- written over it, some types appended, and the list of types that these bytes encode.
--
-- A worked example, in little endian. `.BTF` has three types behind void:
--
--   id 1, bytes  0 to 15: INT `int` of 4 bytes
--   id 2, bytes 16 to 31: VAR `x` of type 1, global
--   id 3, bytes 32 to 55: DATASEC `.data`, size 0, one entry: type 2, offset 0, size 4
--
-- The file's section `.data` has 8 bytes, and the symbol `x` the address 4. `data_words` gives four
-- words, each as (offset, value): (40, 8) is the size of the DATASEC; (44, 2), (48, 4) and (52, 4)
-- are the type, the offset and the size of its entry. `words_over` writes each as 4 bytes: bytes 48
-- to 51 become 04 00 00 00. `kernel_type_info` says the same of the types: types 1 and 2 stay, and
-- type 3 becomes DATASEC `.data`, size 8, one entry: type 2, offset 4, size 4. Nothing is appended,
-- since no DATASEC `.ksyms` has entries.
use Rattle.std.specs.Prelude.{ℕ, ◌+◌, nat_lt, List, [], ◌∷◌, ◌++◌, length, codes, Option, None}
use Rattle.std.specs.Prelude.{Result, Ok, Err, if◌then◌else◌, nat_le, take, drop, fold, Bool, true}
use Rattle.std.specs.Prelude.{false, ◌||◌, Some, option_map, zero, suc, ◌*◌, not, ◌&&◌, ◌==◌, map}
use Rattle.std.specs.Prelude.{slice_get, ◌≡◌, ◌<◌}
use Rattle.std.specs.List.{find, flat_map, All}
use Rattle.std.specs.Option.{option_map_or}
use Rattle.ebpf_base.specs.Faults.{fault_of, or_else, first_of, first_in, if_ok}
use Rattle.ebpf_base.specs.declared.endianness.Endianness.{Endianness}
use Rattle.ebpf_btf.specs.Header.{header_bytes}
use Rattle.ebpf_btf.specs.Words.{word_bytes}
use Rattle.ebpf_btf.specs.Reading.{type_info_of, types_end, types_part}
use Rattle.ebpf_btf.specs.Strings.{is_text, text_at}
use Rattle.ebpf_btf.specs.TypeInfo.{TypeInfo}
use Rattle.ebpf_btf.specs.declared.members.DataSecEntry.{DataSecEntry}
use Rattle.ebpf_btf.specs.declared.types.BtfType.{BtfType}
use Rattle.ebpf_btf.specs.declared.types.BtfType.TheVariants.{DataSec, Func, FuncProto, Int, Var}
use Rattle.ebpf_elf.specs.Faults.{faults}
use Rattle.ebpf_elf.specs.Headers.{ei_data}
use Rattle.ebpf_elf.specs.Names.{is_name}
use Rattle.ebpf_elf.specs.Sections.{SectionOf, data_faults, data_of, section_name, sections}
use Rattle.ebpf_btf.specs.declared.members.BtfParam.{BtfParam}
use Rattle.ebpf_btf.specs.declared.error.BtfError as btf_errors
use Rattle.ebpf_btf_load.specs.SectionWords.{data_words, kconfig_words, full_size, placed_rows}
use Rattle.ebpf_btf_load.specs.SectionWords.{in_offset_order, extern_places, rooms_end}
use Rattle.ebpf_btf_load.specs.SectionWords.{kconfig_rows, rooms_in}
use Rattle.ebpf_btf_load.specs.KsymsSections.{hidden_words, ksyms_words, all_strings, standin_bytes}
use Rattle.ebpf_btf_load.specs.KsymsSections.{standins_or_fault, linkage_by, linkage_in}
use Rattle.ebpf_btf_load.specs.KsymsSections.{linkages_of, ksyms_rows, first_int, standins_with}
use Rattle.ebpf_btf_load.specs.TypeSources.{symbol_table_bytes, TypeSources, list_or_none}
use Rattle.ebpf_btf_load.specs.TypeSources.{if_no_fault, type_starts}
use Rattle.ebpf_btf_load.specs.declared.ksyms.Standins.{Standins}
use Rattle.ebpf_btf_load.specs.declared.error.KernelTypesError.{KernelTypesError}
use Rattle.ebpf_btf_load.specs.declared.error.KernelTypesError.TheVariants.{TooLarge, OutOfMemory}
use Rattle.ebpf_btf_load.specs.declared.error.KernelTypesError.TheVariants.{BtfError, ElfError}
use Rattle.ebpf_btf_load.specs.declared.words.WrittenWord.{WrittenWord}
use Rattle.ebpf_btf_load.specs.declared.data_sections.PlacedRow.{PlacedRow}

-- ---- the words that are written over the bytes of the types

-- the words of a DATASEC, by its name
abbrev pub few_rows_words : TypeSources
    → Standins
    → ℕ
    → ℕ
    → ℕ
    → List DataSecEntry
    → Result (List WrittenWord) KernelTypesError
few_rows_words g s id name size rows =
    if is_text (codes ".ksyms") (text_at g.types.strings name) then ksyms_words g s id rows
    else if is_text (codes ".kconfig") (text_at g.types.strings name) then kconfig_words g id rows
    else data_words g id name size rows

-- the words of a type: those of a DATASEC, which has no more than 65,535 entries in a file; other
-- types have none
unfoldable pub section_type_words : TypeSources
    → Standins
    → ℕ
    → BtfType
    → Result (List WrittenWord) KernelTypesError
section_type_words g s id (DataSec name size rows) =
    if nat_lt 65535 (length rows) then Err TooLarge else few_rows_words g s id name size rows
section_type_words g s id _ = Ok []

-- the words of types, whose ids begin at one
abbrev pub types_words : TypeSources → Standins → ℕ → List BtfType → List WrittenWord
types_words g s id [] = []
types_words g s id (t ∷ ts) =
    list_or_none (section_type_words g s id t) ++ types_words g s (id + 1) ts

-- the first fault of the words of types
abbrev pub type_words_fault : TypeSources → Standins → ℕ → List BtfType → Option KernelTypesError
type_words_fault g s id [] = None
type_words_fault g s id (t ∷ ts) =
    or_else (fault_of (section_type_words g s id t)) (type_words_fault g s (id + 1) ts)

-- the words of DATASECs, then the words of hidden functions; later words replace earlier ones
abbrev pub all_words : TypeSources → Standins → Result (List WrittenWord) KernelTypesError
all_words g s =
    if_no_fault (type_words_fault g s 0 g.types.types)
    (Ok (types_words g s 0 g.types.types ++ hidden_words g))

-- ---- words that are written over others

-- bytes with others written over them from an offset on; the bytes stay where the others would
-- pass their end. Example: 7, 8 over 1, 2, 3, 4 at offset 1 gives 1, 7, 8, 4.
abbrev pub bytes_over : List ℕ → ℕ → List ℕ → List ℕ
bytes_over old offset bytes =
    if nat_le (offset + length bytes) (length old)
    then take offset old ++ (bytes ++ drop (offset + length bytes) old)
    else old

abbrev pub word_over : Endianness → List ℕ → WrittenWord → List ℕ
word_over order old w = bytes_over old w.offset (word_bytes order w.value)

-- words written over bytes; later words replace earlier ones
abbrev pub words_over : Endianness → List ℕ → List WrittenWord → List ℕ
words_over order old words = fold (word_over order) old words

-- ---- the one answer that no definition states: an allocation failure

abbrev pub is_kernel_types_memory : KernelTypesError → Bool
is_kernel_types_memory OutOfMemory = true
is_kernel_types_memory _ = false

-- ---- the bytes of the types

-- the bytes of the types; none where the header is wrong
abbrev pub part_of : Endianness → List ℕ → List ℕ
part_of order bytes =
    if nat_lt (length bytes) 24 || nat_lt (length bytes) (types_end order bytes)
    then []
    else types_part order bytes

-- a header, types and strings, each of fewer than 2 ^ 32 bytes
abbrev pub btf_part : Endianness → List ℕ → List ℕ → Result (List ℕ) KernelTypesError
btf_part order types strings =
    if nat_lt 0xffffffff (length types) || nat_lt 0xffffffff (length strings)
    then Err TooLarge
    else Ok (header_bytes order (length types) (length strings) ++ types ++ strings)

-- the bytes of the types with words written, and of the appended types
abbrev pub all_types : TypeSources → Standins → List WrittenWord → List ℕ
all_types g s words =
    words_over g.order g.part words ++ standin_bytes g.order (length g.types.strings) s

abbrev pub written_types : TypeSources → Standins → List WrittenWord
    → Result (List ℕ) KernelTypesError
written_types g s words = btf_part g.order (all_types g s words) (all_strings g.types s)

abbrev pub types_of_sources : TypeSources → Result (List ℕ) KernelTypesError
types_of_sources g =
    if_ok (standins_or_fault g.types) (λ s.
    if_ok (all_words g s) (λ words. written_types g s words))

-- ---- the file

abbrev pub sources_of : List ℕ → List ℕ → TypeInfo → TypeSources
sources_of file bytes types = record {
  order = ei_data file;
  part = part_of (ei_data file) bytes;
  types = types;
  starts = type_starts (ei_data file) (part_of (ei_data file) bytes) 0 types.types;
  file = file;
  table = symbol_table_bytes file;
}

abbrev pub types_or_fault : Result TypeInfo btf_errors.BtfError → Result TypeInfo KernelTypesError
types_or_fault (Ok types) = Ok types
types_or_fault (Err e) = Err (BtfError e)

abbrev pub types_read : Endianness → List ℕ → Result TypeInfo KernelTypesError
types_read order bytes = types_or_fault (type_info_of order bytes)

abbrev pub types_of_bytes : List ℕ → List ℕ → Result (List ℕ) KernelTypesError
types_of_bytes file bytes =
    if_ok (types_read (ei_data file) bytes) (λ types.
    types_of_sources (sources_of file bytes types))

abbrev pub types_of_section : List ℕ → SectionOf → Result (List ℕ) KernelTypesError
types_of_section file s =
    if_no_fault (option_map ElfError (first_of (data_faults s))) (types_of_bytes file (data_of s))

abbrev pub types_of_found : List ℕ → Option SectionOf → Result (Option (List ℕ)) KernelTypesError
types_of_found file None = Ok None
types_of_found file (Some s) = if_ok (types_of_section file s) (λ bytes. Ok (Some bytes))

-- the bytes are no file
unfoldable pub no_file_fault : List ℕ → Option KernelTypesError
no_file_fault file = option_map ElfError (first_in (faults file))

-- the first section `.BTF`
unfoldable pub btf_section : List ℕ → Option SectionOf
btf_section file = find (λ s. is_name (codes ".BTF") (section_name s)) (sections file)

-- the bytes of the types for the kernel, from the bytes of a file; None where it has no `.BTF`
unfoldable pub kernel_types_of : List ℕ → Result (Option (List ℕ)) KernelTypesError
kernel_types_of file = if_no_fault (no_file_fault file) (types_of_found file (btf_section file))

-- ---- the list of types for the kernel: the types of the file, some of them changed, and then the
-- appended types. Each keeps its id. FUNCs stay as they are: their linkage is in their bytes and is
-- no part of a type.

-- ---- changes of types

-- a change of a type of one kind
pub data Change : Type 0 where
  -- of a DATASEC: its size and its entries
  Entries : ℕ → List DataSecEntry → Change
  -- of a VAR: its linkage, 0 static, 1 global
  Linkage : ℕ → Change
  -- of a VAR: its type and its linkage
  TypeAndLinkage : ℕ → ℕ → Change
  -- of a FUNC_PROTO: the name of its parameters that have a type and no name
  ParamNames : ℕ → Change

abbrev pub named_param : ℕ → BtfParam → BtfParam
named_param name p =
    if not (p.btf_type == 0) && p.name_offset == 0 then record p { name_offset = name } else p

-- a type with a change; a type of another kind stays
unfoldable pub changed : BtfType → Change → BtfType
changed (DataSec name _ _) (Entries size entries) = DataSec name size entries
changed (Var name type _) (Linkage linkage) = Var name type linkage
changed (Var name _ _) (TypeAndLinkage type linkage) = Var name type linkage
changed (FuncProto offset type params) (ParamNames name) =
    FuncProto offset type (map (named_param name) params)
changed t _ = t

-- whether a type is of a kind that may change; all others stay
unfoldable pub may_change : BtfType → Bool
may_change (DataSec _ _ _) = true
may_change (Var _ _ _) = true
may_change (FuncProto _ _ _) = true
may_change _ = false

-- a change of the type with an id
pub record TypeChange : Type 0 where
  pub id : ℕ
  pub change : Change

-- types by their ids, with one of them changed
abbrev pub changed_at : ℕ → (BtfType → BtfType) → List BtfType → List BtfType
changed_at id becomes [] = []
changed_at zero becomes (t ∷ ts) = becomes t ∷ ts
changed_at (suc id) becomes (t ∷ ts) = t ∷ changed_at id becomes ts

abbrev pub with_change : List BtfType → TypeChange → List BtfType
with_change types c = changed_at c.id (λ t. changed t c.change) types

-- types with changes, one after the other
abbrev pub with_changes : List BtfType → List TypeChange → List BtfType
with_changes types changes = fold with_change types changes

-- the type with an id, after all changes of that id
abbrev pub changed_by : List TypeChange → ℕ → BtfType → BtfType
changed_by changes id t = fold (λ now c. if c.id == id then changed now c.change else now) t changes

-- ---- `.ksyms`: an entry takes 4 bytes, one behind the other, and the placeholder variable
-- replaces FUNCs

-- the changes by an entry: the parameters of a FUNC get names, a VAR the type of 4 bytes and global
-- linkage
abbrev pub extern_changes : Standins → ℕ → Option BtfType → List TypeChange
extern_changes s id (Some (Func name proto)) =
    record { id = proto; change = ParamNames s.name_offset } ∷ []
extern_changes s id (Some (Var name type linkage)) =
    record { id = id; change = TypeAndLinkage s.int_id 1 } ∷ []
extern_changes s id _ = []

abbrev pub externs_changes : TypeInfo → Standins → List DataSecEntry → List TypeChange
externs_changes types s rows =
    flat_map (λ row. extern_changes s row.btf_type (slice_get types.types row.btf_type)) rows

abbrev pub ksyms_changes : TypeInfo → Standins → ℕ → List DataSecEntry → List TypeChange
ksyms_changes types s id rows =
    record { id = id; change = Entries (length rows * 4) (ksyms_rows types s 0 rows) }
    ∷ externs_changes types s rows

-- ---- `.kconfig`: the size of the map's value, the offsets of the externs in it, and global
-- linkage

abbrev pub global_changes : List DataSecEntry → List TypeChange
global_changes rows = map (λ row. record { id = row.btf_type; change = Linkage 1 }) rows

abbrev pub kconfig_changes : TypeInfo → ℕ → List DataSecEntry → List TypeChange
kconfig_changes types id rows =
    record {
      id = id;
      change = Entries (rooms_end 0 (rooms_in types [] rows))
          (in_offset_order (kconfig_rows (extern_places 0 (rooms_in types [] rows)) rows));
    }
    ∷ global_changes rows

-- ---- own variables: the section's size, the symbols' addresses, and hidden variables become
-- static

-- a size that was found (without one, no types are returned)
abbrev pub found_size : Result ℕ KernelTypesError → ℕ
found_size (Ok size) = size
found_size (Err e) = 0

abbrev pub static_changes : List PlacedRow → List TypeChange
static_changes placed =
    flat_map
    (λ p. if p.is_hidden then record { id = p.row.btf_type; change = Linkage 0 } ∷ [] else [])
    placed

abbrev pub placed_changes : ℕ → ℕ → List PlacedRow → List TypeChange
placed_changes id size placed =
    record { id = id; change = Entries size (in_offset_order (map (λ p. p.row) placed)) }
    ∷ static_changes placed

abbrev pub data_changes : TypeSources → ℕ → ℕ → ℕ → List DataSecEntry → List TypeChange
data_changes g id name size rows =
    placed_changes id (found_size (full_size g id name size)) (placed_rows g (size == 0) rows)

-- ---- all types

-- the changes of types by a DATASEC among them, by its name
unfoldable pub section_changes : TypeSources → Standins → ℕ → BtfType → List TypeChange
section_changes g s id (DataSec name size rows) =
    if is_text (codes ".ksyms") (text_at g.types.strings name) then ksyms_changes g.types s id rows
    else if is_text (codes ".kconfig") (text_at g.types.strings name)
    then kconfig_changes g.types id rows
    else data_changes g id name size rows
section_changes g s id _ = []

-- the changes by all DATASECs among types, whose ids begin at one
abbrev pub types_changes : TypeSources → Standins → ℕ → List BtfType → List TypeChange
types_changes g s id [] = []
types_changes g s id (t ∷ ts) = section_changes g s id t ++ types_changes g s (id + 1) ts

-- `int`, signed, of 32 bits, and the variable, of its type and with global linkage
abbrev pub standin_types : TypeInfo → Standins → List BtfType
standin_types types s =
    (if s.adds_int then Int (length types.strings) 4 0x01000020 ∷ [] else [])
    ++ (if s.adds_variable then Var s.name_offset s.int_id 1 ∷ [] else [])

abbrev pub type_info_with : TypeSources → Standins → TypeInfo
type_info_with g s = record {
  types = with_changes g.types.types (types_changes g s 0 g.types.types) ++ standin_types g.types s;
  strings = all_strings g.types s;
}

abbrev pub standins_of : TypeSources → Standins
standins_of g = standins_with g.types (first_int g.types)

-- all changes
unfoldable pub changes_of : TypeSources → List TypeChange
changes_of g = types_changes g (standins_of g) 0 g.types.types

-- the types for the kernel, and their strings
unfoldable pub kernel_type_info : TypeSources → TypeInfo
kernel_type_info g = type_info_with g (standins_of g)

-- ---- theorems about the bytes for the kernel

-- the bytes of the first section `.BTF`
abbrev pub btf_bytes : List ℕ → List ℕ
btf_bytes file = option_map_or data_of (btf_section file) []

-- the inputs of a file's types
abbrev pub sources_in : List ℕ → TypeInfo → TypeSources
sources_in file types = sources_of file (btf_bytes file) types

-- The bytes for the kernel are read as the stated types: `.BTF` of the file gives types, and these
-- bytes give the file's types with their changes, and its strings with the names of the appended
-- types.
abbrev pub KernelTypesAreRead : Type 0
KernelTypesAreRead =
    (file handed : List ℕ) → All (λ b. b < 256) file → kernel_types_of file ≡ Ok (Some handed)
    → (types : TypeInfo)
    × (type_info_of (ei_data file) (btf_bytes file) ≡ Ok types)
    × (type_info_of (ei_data file) handed ≡ Ok (kernel_type_info (sources_in file types)))

-- In these bytes each FUNC of the file has the stated linkage, or else its linkage in the file.
abbrev pub FunctionLinkagesAreStated : Type 0
FunctionLinkagesAreStated =
    (file handed : List ℕ) (types : TypeInfo)
    → All (λ b. b < 256) file
    → kernel_types_of file ≡ Ok (Some handed)
    → type_info_of (ei_data file) (btf_bytes file) ≡ Ok types
    → (id name proto : ℕ) → slice_get types.types id ≡ Some (Func name proto)
    → linkage_in (ei_data file) (types_part (ei_data file) handed)
    (kernel_type_info (sources_in file types)).types id
    ≡ linkage_by (linkages_of (sources_in file types)) id
    (linkage_in (ei_data file) (types_part (ei_data file) (btf_bytes file)) types.types id)

-- Each type keeps its id, and the changes of its id alone decide its new value.
abbrev pub TypesKeepIds : Type 0
TypesKeepIds = (g : TypeSources) (id : ℕ) (t : BtfType) → slice_get g.types.types id ≡ Some t
    → slice_get (kernel_type_info g).types id ≡ Some (changed_by (changes_of g) id t)

-- A type that is no DATASEC, VAR or FUNC_PROTO stays.
abbrev pub OtherTypesStay : Type 0
OtherTypesStay =
    (g : TypeSources) (id : ℕ) (t : BtfType) → slice_get g.types.types id ≡ Some t
    → may_change t ≡ false
    → slice_get (kernel_type_info g).types id ≡ Some t

-- The types behind the file's types are the appended ones.
abbrev pub StandinsAreLast : Type 0
StandinsAreLast =
    (g : TypeSources)
    → drop (length g.types.types) (kernel_type_info g).types ≡ standin_types g.types (standins_of g)
