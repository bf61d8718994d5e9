-- Externs: the kernel's functions and variables that an object names in its DATASEC `.ksyms`, and
-- the variable that the types have in place of the functions (libbpf's
-- bpf_object__collect_externs).
use Rattle.std.specs.FinMap.{FinMap, empty}
use Rattle.std.specs.List.{position, flat_map}
use Rattle.std.specs.Prelude.{◌≡◌, length, take, ℕ, Bool, false, List, Option, None, ◌==◌, codes}
use Rattle.std.specs.Prelude.{true, ◌||◌, not, Some, Result, Ok, Err, if◌then◌else◌}
use Rattle.ebpf_base.specs.Faults.{or_else, first_some, fault_of, if_ok}
use Rattle.ebpf_btf.specs.Next.{if_some}
use Rattle.ebpf_base.specs.Maps.{put_all, text_cmp}
use Rattle.ebpf_btf.specs.Additions.{with_type, with_string, too_large_fault}
use Rattle.ebpf_btf.specs.TypeInfo.{TypeInfo}
use Rattle.ebpf_btf.specs.Steps.{type_at, resolved}
use Rattle.ebpf_btf.specs.Strings.{type_name}
use Rattle.ebpf_btf.specs.Words.{type_fault}
use Rattle.ebpf_btf.specs.declared.error.BtfError.{BtfError}
use Rattle.ebpf_btf.specs.declared.error.BtfError.TheVariants.{InvalidDatasec, InvalidSymbolName}
use Rattle.ebpf_btf.specs.declared.members.DataSecEntry.{DataSecEntry}
use Rattle.ebpf_btf.specs.declared.types.BtfType.{BtfType}
use Rattle.ebpf_btf.specs.declared.types.BtfType.TheVariants.{Int, Var, Func}
use Rattle.ebpf_btf_decls.specs.DataSections.{given, DatasecMatch, datasec_match, matched_entries}
use Rattle.ebpf_btf_decls.specs.DataSections.{datasec_match_fault}
use Rattle.ebpf_btf_decls.specs.declared.externs.FunctionOrFault.{FunctionOrFault}
use Rattle.ebpf_btf_decls.specs.declared.externs.FunctionOrFault.TheVariants.{Function}
use Rattle.ebpf_btf_decls.specs.declared.externs.FunctionOrFault.TheVariants.{UnreadableType}
use Rattle.ebpf_model.specs.declared.symbol.ExternDesc.{ExternDesc}

-- ---- what contracts of private functions name and no public one

-- types and strings that begin with others
pub record Begins (before after : TypeInfo) : Type 0 where
  pub types : take (length before.types) after.types ≡ before.types
  pub strings : take (length before.strings) after.strings ≡ before.strings

-- ---- the INT and the VAR that stand in for what a DATASEC of externs names as functions, since
-- the kernel takes variables alone there.

-- an INT of 4 bytes
unfoldable pub is_word : BtfType → Bool
is_word (Int _ size _) = size == 4
is_word _ = false

-- the id of the first
abbrev pub word_id : TypeInfo → Option ℕ
word_id info = position is_word info.types

-- the name of the next type, and the type behind the others
abbrev pub with_named : TypeInfo → List ℕ → (ℕ → BtfType) → TypeInfo
with_named info name t = with_type (with_string info name) (t (length info.strings))

-- an offset or a type that has no room
abbrev pub named_fault : TypeInfo → List ℕ → (ℕ → BtfType) → Option BtfError
named_fault info name t =
    or_else (too_large_fault (length info.strings))
    (type_fault (with_string info name) (t (length info.strings)))

-- `int`, signed, of 32 bits
abbrev pub int_at : ℕ → BtfType
int_at name = Int name 4 0x01000020

-- with an INT of 4 bytes: there is one, or `int` is added
unfoldable pub with_word : TypeInfo → TypeInfo
with_word info = if_some (word_id info) (λ id. info) (with_named info (codes "int") int_at)

unfoldable pub word_fault : TypeInfo → Option BtfError
word_fault info = if_some (word_id info) (λ id. None) (named_fault info (codes "int") int_at)

-- its id
unfoldable pub the_word : TypeInfo → ℕ
the_word info = if_some (word_id info) (λ id. id) (length info.types)

-- the variable: global, of that type
abbrev pub variable_at : ℕ → ℕ → BtfType
variable_at word name = Var name word 1

abbrev pub with_placeholder : TypeInfo → TypeInfo
with_placeholder info =
    with_named (with_word info) (codes "ksym_func_placeholder") (variable_at (the_word info))

abbrev pub placeholder_fault : TypeInfo → Option BtfError
placeholder_fault info =
    or_else (word_fault info)
    (named_fault (with_word info) (codes "ksym_func_placeholder") (variable_at (the_word info)))

-- ---- one extern

unfoldable pub is_function : BtfType → Bool
is_function (Func _ _) = true
is_function _ = false

-- the id of the type that a FUNC or VAR holds
unfoldable pub func_or_var_type : BtfType → Option ℕ
func_or_var_type (Func _ id) = Some id
func_or_var_type (Var _ id _) = Some id
func_or_var_type _ = None

-- a variable of type void has no type, all else has one
abbrev pub new_extern : ℕ → BtfType → Bool → ℕ → ExternDesc
new_extern id t weak held_id = record {
  btf_id = id;
  is_typed = is_function t || not (held_id == 0);
  is_weak = weak;
  kernel_btf_id = None;
  ksym_addr = None;
  is_resolved = false;
}

-- What an entry declares, with its name: a FUNC or VAR, for whose name there is a symbol that is
-- weak or not, and whose type can be resolved.
unfoldable pub extern_of : TypeInfo → (List ℕ → Option Bool) → DataSecEntry
    → Result (List ℕ × ExternDesc) BtfError
extern_of info weak entry =
    if_ok (type_at info.types entry.btf_type) (λ t.
    if_some (func_or_var_type t)
    (λ id.
    if_ok (type_name info t) (λ name.
    if_some (weak name)
    (λ is_weak.
    if_ok (resolved info.types id) (λ r. Ok (name, new_extern entry.btf_type t is_weak r)))
    (Err InvalidSymbolName)))
    (Err InvalidDatasec))

-- what the symbol of the name says
abbrev pub IsWeak : (List ℕ → Option Bool) → List ℕ → ExternDesc → Type 0
IsWeak weak name d = weak name ≡ Some d.is_weak

-- ---- all of them

-- the first DATASEC `.ksyms`, or one before it whose name can't be read
abbrev pub ksyms_datasec : TypeInfo → Option DatasecMatch
ksyms_datasec info = first_some (datasec_match info (codes ".ksyms")) info.types

-- what a search for a function meets at an entry: one, or a type that can't be read
abbrev pub function_or_fault_by : Result BtfType BtfError → Option FunctionOrFault
function_or_fault_by (Ok t) = if is_function t then Some Function else None
function_or_fault_by (Err e) = Some (UnreadableType e)

unfoldable pub function_or_fault : TypeInfo → DataSecEntry → Option FunctionOrFault
function_or_fault info entry = function_or_fault_by (type_at info.types entry.btf_type)

abbrev pub first_function_or_fault : TypeInfo → List DataSecEntry → Option FunctionOrFault
first_function_or_fault info entries = first_some (function_or_fault info) entries

-- with a function among the externs there is a placeholder
unfoldable pub types_with : TypeInfo → Option FunctionOrFault → TypeInfo
types_with info (Some Function) = with_placeholder info
types_with info _ = info

unfoldable pub types_fault : TypeInfo → Option FunctionOrFault → Option BtfError
types_fault info None = None
types_fault info (Some (UnreadableType e)) = Some e
types_fault info (Some Function) = placeholder_fault info

-- the externs that entries declare, by name; of equal names the later counts
abbrev pub entries_externs : TypeInfo → (List ℕ → Option Bool) → List DataSecEntry
    → FinMap text_cmp ExternDesc
entries_externs info weak entries =
    put_all empty (flat_map (λ entry. given (extern_of info weak entry)) entries)

abbrev pub extern_entries_fault : TypeInfo → (List ℕ → Option Bool) → List DataSecEntry
    → Option BtfError
extern_entries_fault info weak entries =
    first_some (λ entry. fault_of (extern_of info weak entry)) entries

-- the types with what externs add
abbrev pub extern_types : TypeInfo → TypeInfo
extern_types info =
    types_with info (first_function_or_fault info (matched_entries (ksyms_datasec info)))

-- the externs of an object with these types, and what symbols say of names
abbrev pub externs : TypeInfo → (List ℕ → Option Bool) → FinMap text_cmp ExternDesc
externs info weak = entries_externs (extern_types info) weak (matched_entries (ksyms_datasec info))

abbrev pub extern_declarations_fault : TypeInfo → (List ℕ → Option Bool) → Option BtfError
extern_declarations_fault info weak =
    or_else (datasec_match_fault (ksyms_datasec info))
    (or_else (types_fault info (first_function_or_fault info (matched_entries (ksyms_datasec
    info))))
    (extern_entries_fault (extern_types info) weak (matched_entries (ksyms_datasec info))))
