-- The variables of a section of struct_ops, each of which declares a map (libbpf 1.7, libbpf.c:
-- init_struct_ops_maps, btf_fixup_datasec, find_elf_var_sym). A variable is an entry of the first
-- DATASEC of the section's name.
--
-- A worked example. The section `.struct_ops` has 144 bytes, and its DATASEC, of size 0, has two
-- entries: `a` and `b`, global variables of `struct tcp_congestion_ops`, of 72 bytes. The symbol
-- `b` has the address 72. So `b` is at offset 72, and ends where the section does.
use Rattle.std.specs.Prelude.{ℕ, ◌+◌, ◌^◌, ◌==◌, ◌&&◌, ◌||◌, Bool, false, not, nat_le, nat_lt, List}
use Rattle.std.specs.Prelude.{[], take, drop, slice_get, Option, Some, None, option_map, unwrap_or}
use Rattle.std.specs.Prelude.{Result, Ok, Err, if◌then◌else◌}
use Rattle.std.specs.List.{find, flat_map}
use Rattle.std.specs.Option.{option_and_then, option_to_list}
use Rattle.std.specs.Result.{result_ok}
use Rattle.ebpf_base.specs.Faults.{fault_of, first_some, if_ok}
use Rattle.ebpf_btf.specs.Next.{if_some}
use Rattle.ebpf_btf.specs.Steps.{resolved}
use Rattle.ebpf_btf.specs.Strings.{id_of_name, is_text, text_at, type_name}
use Rattle.ebpf_btf.specs.TypeInfo.{TypeInfo}
use Rattle.ebpf_btf.specs.Types.{is_kind, name_off}
use Rattle.ebpf_btf.specs.declared.kind.BtfKind.TheVariants as kinds
use Rattle.ebpf_btf.specs.declared.members.DataSecEntry.{DataSecEntry}
use Rattle.ebpf_btf.specs.declared.types.BtfType.{BtfType}
use Rattle.ebpf_btf.specs.declared.types.BtfType.TheVariants.{DataSec, Var}
use Rattle.ebpf_elf.specs.Names.{is_name}
use Rattle.ebpf_elf.specs.Symbols.{SymbolOf, entry, symbol_name, symbol_section_index, symbols}
use Rattle.ebpf_struct_ops.specs.KernelStructs.{value_size}
use Rattle.ebpf_struct_ops.specs.TypeFacts.{type_behind}
use Rattle.ebpf_struct_ops.specs.declared.error.StructOpsError.{StructOpsError}
use Rattle.ebpf_struct_ops.specs.declared.error.StructOpsError.TheVariants.{Variable}
use Rattle.ebpf_struct_ops.specs.declared.faults.VariableFault.{VariableFault}
use Rattle.ebpf_struct_ops.specs.declared.faults.VariableFault.TheVariants as faults
use Rattle.ebpf_struct_ops.specs.declared.bare.BareVariable.{BareVariable}
use Rattle.ebpf_struct_ops.specs.declared.places.SectionFacts.{SectionFacts}
use Rattle.ebpf_struct_ops.specs.declared.places.VarFields.{VarFields}
use Rattle.ebpf_struct_ops.specs.declared.places.VariablePlace.{VariablePlace}

-- ---- the fields of a VAR: compilers write the offsets of static variables (linkage 0) and of
-- externs (2)

unfoldable pub var_fields : BtfType → Option VarFields
var_fields (Var name type linkage) =
    Some (record {
      name_offset = name;
      type_id = type;
      keeps_offset = linkage == 0 || linkage == 2;
    })
var_fields _ = None

-- ---- its offset: that of its entry, or the address of its symbol

abbrev pub stands_in : ℕ → Option ℕ → Bool
stands_in section None = false
stands_in section (Some own) = own == section

abbrev pub names_variable : ℕ → List ℕ → SymbolOf → Bool
names_variable section name s =
    if stands_in section (symbol_section_index (entry s))
    then is_name name (symbol_name s)
    else false

abbrev pub symbol_address : List ℕ → ℕ → List ℕ → Option ℕ
symbol_address bytes section name =
    option_map (λ s. (entry s).st_value) (find (names_variable section name) (symbols bytes))

abbrev pub variable_offset : List ℕ → SectionFacts → DataSecEntry → VarFields → List ℕ → Option ℕ
variable_offset bytes s e v name =
    if s.lacks_offsets && not v.keeps_offset
    then symbol_address bytes s.index name
    else Some e.offset

-- ---- its place

-- the id of a STRUCT with a name, behind modifiers
unfoldable pub struct_of : TypeInfo → ℕ → Result ℕ VariableFault
struct_of types id =
    if not (is_kind kinds.Struct (type_behind types id)) then Err faults.NotAStruct
    else if is_text [] (type_name types (type_behind types id)) then Err faults.Anonymous
    else if_some (result_ok (resolved types.types id)) (λ found. Ok found) (Err faults.NotAStruct)

abbrev pub inside_section : SectionFacts → ℕ → ℕ → ℕ → Result VariablePlace VariableFault
inside_section s offset id size =
    if nat_le (2 ^ 32) offset || nat_lt s.length (offset + size)
    then Err faults.OutsideSection
    else Ok (record { offset = offset; type_id = id; size = size })

unfoldable pub variable_place : List ℕ → TypeInfo → SectionFacts → DataSecEntry → VarFields
    → List ℕ
    → Result VariablePlace VariableFault
variable_place bytes types s e v name =
    if_ok (struct_of types v.type_id) (λ id.
    if_some (variable_offset bytes s e v name)
    (λ offset. inside_section s offset id (value_size (type_behind types id)))
    (Err faults.NoSymbol))

-- ---- its names

-- the text at an offset; empty where it can't be read
abbrev pub text_or_empty : TypeInfo → ℕ → List ℕ
text_or_empty types offset = unwrap_or (result_ok (text_at types.strings offset)) []

abbrev pub var_name : TypeInfo → VarFields → List ℕ
var_name types v = text_or_empty types v.name_offset

abbrev pub named_variable : TypeInfo → List ℕ → Result VariablePlace VariableFault
    → Result BareVariable StructOpsError
named_variable types name (Err fault) = Err (Variable name fault)
named_variable types name (Ok p) =
    Ok (record {
      name = name;
      type_name = text_or_empty types (name_off (type_behind types p.type_id));
      place = p;
    })

-- the variable of an entry that names a VAR
unfoldable pub var_variable : List ℕ → TypeInfo → SectionFacts → DataSecEntry → VarFields
    → Result BareVariable StructOpsError
var_variable bytes types s e v =
    named_variable types (var_name types v)
    (variable_place bytes types s e v (var_name types v))

-- ---- all variables of a section

abbrev pub entry_fields : TypeInfo → DataSecEntry → Option VarFields
entry_fields types e = option_and_then var_fields (slice_get types.types e.btf_type)

-- the variable of an entry
unfoldable pub entry_variable : List ℕ → TypeInfo → SectionFacts → DataSecEntry
    → Result BareVariable StructOpsError
entry_variable bytes types s e =
    if_some (entry_fields types e) (λ v. var_variable bytes types s e v)
    (Err (Variable [] faults.NotAVariable))

abbrev pub bare_variables : List ℕ → TypeInfo → SectionFacts → List DataSecEntry
    → List BareVariable
bare_variables bytes types s entries =
    flat_map (λ e. option_to_list (result_ok (entry_variable bytes types s e))) entries

abbrev pub bare_variables_fault : List ℕ → TypeInfo → SectionFacts → List DataSecEntry
    → Option StructOpsError
bare_variables_fault bytes types s entries =
    first_some (λ e. fault_of (entry_variable bytes types s e)) entries
