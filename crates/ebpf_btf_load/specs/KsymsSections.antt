-- The types that replace the externs of `.ksyms`, the words of that DATASEC, the words of hidden
-- functions, and the linkages of FUNCs.
use Rattle.std.specs.Prelude.{ℕ, ◌+◌, nat_lt, Bool, false, true, not, ◌&&◌, ◌||◌, ◌==◌, List, []}
use Rattle.std.specs.Prelude.{◌∷◌, ◌++◌, length, codes, Option, Some, None, Result, Ok, Err}
use Rattle.std.specs.Prelude.{slice_get, if◌then◌else◌, ◌*◌, ◌%◌, ◌^◌, nat_le, option_map, fold}
use Rattle.std.specs.List.{flat_map, list_any, position_from, find}
use Rattle.std.specs.Option.{option_to_list}
use Rattle.ebpf_base.specs.Faults.{first_some, fault_of, if_ok}
use Rattle.ebpf_base.specs.declared.endianness.Endianness.{Endianness}
use Rattle.ebpf_btf.specs.Strings.{is_text, text_at}
use Rattle.ebpf_btf.specs.TypeInfo.{TypeInfo}
use Rattle.ebpf_btf.specs.Words.{word_bytes}
use Rattle.ebpf_btf.specs.Format.{info_at, info_vlen}
use Rattle.ebpf_btf.specs.declared.members.BtfParam.{BtfParam}
use Rattle.ebpf_btf.specs.declared.members.DataSecEntry.{DataSecEntry}
use Rattle.ebpf_btf.specs.declared.types.BtfType.{BtfType}
use Rattle.ebpf_btf.specs.declared.types.BtfType.TheVariants.{Int, Func, DataSec, FuncProto, Var}
use Rattle.ebpf_base.specs.Numbers.{number_at}
use Rattle.ebpf_elf.specs.Names.{is_name}
use Rattle.ebpf_elf.specs.Sections.{sections, section_name}
use Rattle.ebpf_elf.specs.Symbols.{SymbolOf, entry, symbols, symbol_section_index}
use Rattle.ebpf_btf_load.specs.SectionWords.{section_words}
use Rattle.ebpf_btf_load.specs.TypeSources.{start_of, TypeSources, list_or_none, place_in}
use Rattle.ebpf_btf_load.specs.TypeSources.{if_no_fault, has_btf_name, is_function_symbol}
use Rattle.ebpf_btf_load.specs.TypeSources.{is_hidden, type_starts}
use Rattle.ebpf_btf_load.specs.declared.ksyms.Standins.{Standins}
use Rattle.ebpf_btf_load.specs.declared.error.KernelTypesError.{KernelTypesError}
use Rattle.ebpf_btf_load.specs.declared.error.KernelTypesError.TheVariants.{TooLarge, NotAVariable}
use Rattle.ebpf_btf_load.specs.declared.words.WrittenWord.{WrittenWord}

-- ---- the INT and the VAR that replace the entries of `.ksyms`: the kernel accepts only variables
-- in a DATASEC. They are appended, so ids and offsets don't change. libbpf 1.5 appends only the VAR
-- (libbpf.c: add_dummy_ksym_var). If it finds no INT of 4 bytes (find_int_btf_id), its variables
-- have the type void, which the kernel refuses.

unfoldable pub is_int_of_4 : BtfType → Bool
is_int_of_4 (Int _ size _) = size == 4
is_int_of_4 _ = false

-- the id of the first INT of 4 bytes
abbrev pub first_int : TypeInfo → Option ℕ
first_int types = position_from is_int_of_4 0 types.types

-- ---- the types that `.ksyms` names

abbrev pub is_func_type : Option BtfType → Bool
is_func_type (Some (Func _ _)) = true
is_func_type _ = false

-- whether the type with an id is a FUNC
unfoldable pub is_func : TypeInfo → ℕ → Bool
is_func types id = is_func_type (slice_get types.types id)

abbrev pub names_func : TypeInfo → List DataSecEntry → Bool
names_func types rows = list_any (λ row. is_func types row.btf_type) rows

abbrev pub is_ksyms : TypeInfo → ℕ → Bool
is_ksyms types name = is_text (codes ".ksyms") (text_at types.strings name)

-- whether a type is a DATASEC `.ksyms` with entries
unfoldable pub takes_variables : TypeInfo → BtfType → Bool
takes_variables types (DataSec name size rows) = is_ksyms types name && not (length rows == 0)
takes_variables types _ = false

-- whether such a DATASEC has a FUNC among its entries
unfoldable pub takes_functions : TypeInfo → BtfType → Bool
takes_functions types (DataSec name size rows) = is_ksyms types name && names_func types rows
takes_functions types _ = false

-- ---- the appended types

abbrev pub standins_with : TypeInfo → Option ℕ → Standins
standins_with types (Some id) = record {
  int_id = id;
  adds_int = false;
  variable_id = length types.types;
  name_offset = length types.strings;
  adds_variable = list_any (takes_functions types) types.types;
}
standins_with types None = record {
  int_id = length types.types;
  adds_int = list_any (takes_variables types) types.types;
  variable_id = length types.types + 1;
  name_offset = length types.strings + 4;
  adds_variable = list_any (takes_functions types) types.types;
}

-- the first INT of 4 bytes, or else `int`; a variable where `.ksyms` names a FUNC
abbrev pub standins_or_fault : TypeInfo → Result Standins KernelTypesError
standins_or_fault types =
    if nat_lt 0xfffffff0 (length types.types) || nat_lt 0xffffff00 (length types.strings)
    then Err TooLarge
    else Ok (standins_with types (first_int types))

-- `int`, signed, of 32 bits: its name, its kind, its size, its encoding
abbrev pub int_words : ℕ → Bool → List ℕ
int_words name adds = if adds then name ∷ 0x01000000 ∷ 4 ∷ 0x01000020 ∷ [] else []

-- the variable: its name, its kind, its type, global linkage
abbrev pub variable_words : Standins → List ℕ
variable_words s = if s.adds_variable then s.name_offset ∷ 0x0e000000 ∷ s.int_id ∷ 1 ∷ [] else []

abbrev pub standin_bytes : Endianness → ℕ → Standins → List ℕ
standin_bytes order int_name s =
    flat_map (word_bytes order) (int_words int_name s.adds_int)
    ++ flat_map (word_bytes order) (variable_words s)

-- the strings, then the names of the appended types, each with its zero byte
abbrev pub int_name_bytes : Bool → List ℕ
int_name_bytes adds = if adds then codes "int\0" else []

abbrev pub variable_name_bytes : Bool → List ℕ
variable_name_bytes adds = if adds then codes "ksym_func_placeholder\0" else []

abbrev pub all_strings : TypeInfo → Standins → List ℕ
all_strings types s =
    types.strings ++ (int_name_bytes s.adds_int ++ variable_name_bytes s.adds_variable)

-- DATASECs of the kernel's symbols (libbpf 1.5, libbpf.c: bpf_object__collect_externs). The kernel
-- takes variables alone there, of a type that has a size; so each entry is 4 bytes behind the one
-- before it.

-- ---- functions

-- the name that a parameter without a name gets; a parameter of type 0, which means a variable
-- count, gets none
abbrev pub param_word : ℕ → ℕ → BtfParam → List WrittenWord
param_word name offset p =
    if not (p.btf_type == 0) && p.name_offset == 0
    then record { offset = offset; value = name } ∷ []
    else []

abbrev pub params_words : ℕ → ℕ → List BtfParam → List WrittenWord
params_words name offset [] = []
params_words name offset (p ∷ ps) = param_word name offset p ++ params_words name (offset + 8) ps

unfoldable pub params_or_fault : TypeSources
    → ℕ
    → ℕ
    → BtfType
    → Result (List WrittenWord) KernelTypesError
params_or_fault g name proto (FuncProto _ _ params) =
    if nat_lt 65535 (length params)
    then Err TooLarge
    else Ok (params_words name (place_in g proto 12) params)
params_or_fault g name proto _ = Ok []

abbrev pub proto_or_none : TypeSources
    → ℕ
    → ℕ
    → Option BtfType
    → Result (List WrittenWord) KernelTypesError
proto_or_none g name proto None = Ok []
proto_or_none g name proto (Some t) = params_or_fault g name proto t

abbrev pub proto_words : TypeSources → ℕ → ℕ → Result (List WrittenWord) KernelTypesError
proto_words g name proto = proto_or_none g name proto (slice_get g.types.types proto)

-- a FUNC gets global linkage, and its parameters names
abbrev pub extern_function_words : TypeSources
    → ℕ
    → ℕ
    → ℕ
    → Result (List WrittenWord) KernelTypesError
extern_function_words g name id proto =
    if_ok (proto_words g name proto) (λ others.
    Ok (record { offset = place_in g id 4; value = 0x0c000001 } ∷ others))

-- ---- variables

-- a VAR gets the type of 4 bytes, and global linkage
abbrev pub extern_variable_words : TypeSources → ℕ → ℕ → List WrittenWord
extern_variable_words g int id =
    record { offset = place_in g id 8; value = int }
    ∷ record { offset = place_in g id 12; value = 1 }
    ∷ []

-- ---- the types that entries name

abbrev pub extern_or_fault : TypeSources
    → Standins
    → ℕ
    → Option BtfType
    → Result (List WrittenWord) KernelTypesError
extern_or_fault g s id (Some (Func name proto)) = extern_function_words g s.name_offset id proto
extern_or_fault g s id (Some (Var name type linkage)) = Ok (extern_variable_words g s.int_id id)
extern_or_fault g s id _ = Err (NotAVariable id)

unfoldable pub extern_words : TypeSources
    → Standins
    → ℕ
    → Result (List WrittenWord) KernelTypesError
extern_words g s id = extern_or_fault g s id (slice_get g.types.types id)

abbrev pub externs_words : TypeSources → Standins → List DataSecEntry → List WrittenWord
externs_words g s rows = flat_map (λ row. list_or_none (extern_words g s row.btf_type)) rows

abbrev pub ksyms_fault : TypeSources → Standins → List DataSecEntry → Option KernelTypesError
ksyms_fault g s rows = first_some (λ row. fault_of (extern_words g s row.btf_type)) rows

-- ---- the section

-- the id of an entry: the placeholder variable in place of a FUNC
abbrev pub standing_type : TypeInfo → Standins → ℕ → ℕ
standing_type types s id = if is_func types id then s.variable_id else id

abbrev pub ksyms_rows : TypeInfo → Standins → ℕ → List DataSecEntry → List DataSecEntry
ksyms_rows types s offset [] = []
ksyms_rows types s offset (row ∷ rows) =
    record { btf_type = standing_type types s row.btf_type; offset = offset; size = 4 }
    ∷ ksyms_rows types s (offset + 4) rows

abbrev pub own_ksyms_words : TypeSources → Standins → ℕ → List DataSecEntry → List WrittenWord
own_ksyms_words g s id rows =
    section_words (start_of g.starts id) (length rows * 4) (ksyms_rows g.types s 0 rows)

abbrev pub ksyms_words : TypeSources
    → Standins
    → ℕ
    → List DataSecEntry
    → Result (List WrittenWord) KernelTypesError
ksyms_words g s id rows =
    if_no_fault (ksyms_fault g s rows) (Ok (own_ksyms_words g s id rows ++ externs_words g s rows))

-- ---- functions of `.text` that are hidden, whose FUNCs get static linkage, so that the verifier
-- checks them together with their callers (libbpf 1.5, libbpf.c: bpf_object__add_programs,
-- bpf_object__sanitize_and_load_btf).

-- whether the FUNC with an id is of global linkage (1), which its info word has in place of a count
unfoldable pub is_global : TypeSources → ℕ → Bool
is_global g id =
    if nat_le (start_of g.starts id + 8) (length g.part)
    then number_at g.order 4 g.part (start_of g.starts id + 4) % 2 ^ 16 == 1
    else false

-- whether a type with an id is a global FUNC that has the name of a symbol
unfoldable pub is_function_of : TypeSources → SymbolOf → ℕ → BtfType → Bool
is_function_of g s id (Func name proto) = is_global g id && has_btf_name g.types.strings name s
is_function_of g s id _ = false

-- the id of the first of types whose ids begin at one
abbrev pub function_from : TypeSources → SymbolOf → ℕ → List BtfType → Option ℕ
function_from g s id [] = None
function_from g s id (t ∷ ts) =
    if is_function_of g s id t then Some id else function_from g s (id + 1) ts

abbrev pub hidden_func : TypeSources → SymbolOf → Option ℕ
hidden_func g s = function_from g s 0 g.types.types

abbrev pub text_index : List ℕ → Option ℕ
text_index file =
    option_map (λ s. s.index) (find (λ s. is_name (codes ".text") (section_name s)) (sections file))

abbrev pub is_in_text : ℕ → Option ℕ → Bool
is_in_text text None = false
is_in_text text (Some section) = section == text

abbrev pub is_hidden_function : List ℕ → ℕ → SymbolOf → Bool
is_hidden_function table text s =
    is_in_text text (symbol_section_index (entry s))
    && is_function_symbol table s
    && is_hidden table s

-- the info word of a hidden function's FUNC: static linkage
abbrev pub function_word : TypeSources → ℕ → SymbolOf → Option WrittenWord
function_word g text s =
    if is_hidden_function g.table text s
    then option_map (λ id. record { offset = place_in g id 4; value = 0x0c000000 })
    (hidden_func g s)
    else None

abbrev pub hidden_words_in : TypeSources → ℕ → List SymbolOf → List WrittenWord
hidden_words_in g text symbols = flat_map (λ s. option_to_list (function_word g text s)) symbols

abbrev pub hidden_words_at : TypeSources → Option ℕ → List WrittenWord
hidden_words_at g None = []
hidden_words_at g (Some text) = hidden_words_in g text (symbols g.file)

abbrev pub hidden_words : TypeSources → List WrittenWord
hidden_words g = hidden_words_at g (text_index g.file)

-- The linkages of FUNCs, which their info words have in place of a count (the kernel's
-- Documentation/bpf/btf.rst, 2.2.12
-- "BTF_KIND_FUNC"), so that a type says nothing of them: functions that `.ksyms` names become
-- global, and then hidden ones static.

-- the linkage that the FUNC with an id has in the bytes of types: 0 static, 1 global
abbrev pub linkage_in : Endianness → List ℕ → List BtfType → ℕ → ℕ
linkage_in order part types id =
    info_vlen (info_at order part (start_of (type_starts order part 0 types) id))

-- the linkage that a FUNC gets
pub record FunctionLinkage : Type 0 where
  pub id : ℕ
  pub linkage : ℕ

-- the last linkage that a FUNC gets, or else its own
abbrev pub linkage_by : List FunctionLinkage → ℕ → ℕ → ℕ
linkage_by linkages id own = fold (λ now l. if l.id == id then l.linkage else now) own linkages

-- ---- `.ksyms`

abbrev pub extern_linkage : ℕ → Option BtfType → List FunctionLinkage
extern_linkage id (Some (Func name proto)) = record { id = id; linkage = 1 } ∷ []
extern_linkage id _ = []

abbrev pub extern_linkages : TypeInfo → List DataSecEntry → List FunctionLinkage
extern_linkages types rows =
    flat_map (λ row. extern_linkage row.btf_type (slice_get types.types row.btf_type)) rows

unfoldable pub section_linkages : TypeInfo → BtfType → List FunctionLinkage
section_linkages types (DataSec name size rows) =
    if is_text (codes ".ksyms") (text_at types.strings name) then extern_linkages types rows else []
section_linkages types _ = []

-- ---- hidden functions

abbrev pub hidden_linkage : TypeSources → ℕ → SymbolOf → Option FunctionLinkage
hidden_linkage g text s =
    if is_hidden_function g.table text s
    then option_map (λ id. record { id = id; linkage = 0 }) (hidden_func g s)
    else None

abbrev pub hidden_linkages_in : TypeSources → ℕ → List SymbolOf → List FunctionLinkage
hidden_linkages_in g text symbols = flat_map (λ s. option_to_list (hidden_linkage g text s)) symbols

abbrev pub hidden_linkages_at : TypeSources → Option ℕ → List FunctionLinkage
hidden_linkages_at g None = []
hidden_linkages_at g (Some text) = hidden_linkages_in g text (symbols g.file)

-- ---- all

unfoldable pub linkages_of : TypeSources → List FunctionLinkage
linkages_of g =
    flat_map (section_linkages g.types) g.types.types ++ hidden_linkages_at g (text_index g.file)
