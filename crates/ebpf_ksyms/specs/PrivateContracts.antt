-- What contracts of private functions name and no public one: entries, ids and addresses in tables.
use Rattle.std.specs.Prelude.{ℕ, List, [], ◌∷◌, Option, Some, None, if◌then◌else◌, ◌≡◌, true, ◌++◌}
use Rattle.std.specs.Prelude.{length, map, nat_lt, Ok, Err, option_map, ⊤}
use Rattle.std.specs.FinMap.{empty}
use Rattle.std.specs.List.{position_from, filter_map}
use Rattle.std.specs.Option.{option_and_then}
use Rattle.std.specs.BTreeMap.{get_by}
use Rattle.std.specs.Iterator.{Yields}
use Rattle.std.specs.Result.{result_ok}
use Rattle.ebpf_base.specs.Faults.{or_else}
use Rattle.ebpf_base.specs.Maps.{put_all, text_cmp}
use Rattle.ebpf_btf.specs.Steps.{type_at}
use Rattle.ebpf_btf.specs.Strings.{is_named, is_text, id_of_name, type_name, text_at}
use Rattle.ebpf_btf.specs.TypeInfo.{TypeInfo}
use Rattle.ebpf_btf.specs.declared.kind.BtfKind.{BtfKind}
use Rattle.ebpf_btf.specs.declared.types.BtfType.{BtfType}
use Rattle.ebpf_btf.specs.declared.types.BtfType.TheVariants.{Func, Var}
use Rattle.ebpf_core_candidates.specs.Candidates.{is_hash_marked, name_hash}
use Rattle.ebpf_ksyms.specs.Addresses.{is_one_of, Item, Line, address_of, line_of_item, lines_fault}
use Rattle.ebpf_ksyms.specs.Addresses.{address_if_named, stated_fault, Counts, address_and_name}
use Rattle.ebpf_ksyms.specs.Addresses.{stated_address}
use Rattle.ebpf_ksyms.specs.Externs.{NamedExtern, Externs, is_typeless, left_without, with_address}
use Rattle.ebpf_ksyms.specs.Externs.{is_typed, outcome_by, KernelIds, lookup_key_of}
use Rattle.ebpf_ksyms.specs.Outcomes.{address_result, refusal_of, typed_result, with_result}
use Rattle.ebpf_ksyms.specs.Outcomes.{OutcomeValue, outcome_with, result_by}
use Rattle.ebpf_ksyms.specs.declared.error.KsymsError.{KsymsError}
use Rattle.ebpf_ksyms.specs.declared.extern_outcome.ExternResult.{ExternResult}
use Rattle.ebpf_ksyms.specs.declared.extern_outcome.ExternResult.TheVariants.{Kept, Untyped}
use Rattle.ebpf_ksyms.specs.declared.ids.NameIds.{NameIds}
use Rattle.ebpf_ksyms.specs.declared.ids.ExternKind.{ExternKind}
use Rattle.ebpf_ksyms.specs.declared.ids.ExternKind.TheVariants.{Function, Variable}
use Rattle.ebpf_ksyms.specs.declared.named.NameTable.{NameTable}
use Rattle.ebpf_model.specs.declared.symbol.ExternDesc.{ExternDesc}
use Rattle.ebpf_btf.specs.declared.kind.BtfKind.TheVariants as kinds

-- ---- externs as a list and as a map

-- the entry of a name, where it has an extern
abbrev pub entry_named : List ℕ → Option ExternDesc → List NamedExtern
entry_named name None = []
entry_named name (Some d) = (name, d) ∷ []

-- the map of some entries
abbrev pub externs_from : List NamedExtern → Externs
externs_from es = put_all empty es

-- ---- the ids of a kernel's functions and variables, by name

-- the lowest ids of a FUNC and of a VAR with a name
abbrev pub ids_in : TypeInfo → List ℕ → NameIds
ids_in kernel name =
    record {
      function = id_of_name kernel name kinds.Func;
      variable = id_of_name kernel name kinds.Var;
    }

-- the one of an extern kind
abbrev pub id_of : ExternKind → NameIds → Option ℕ
id_of Function ids = ids.function
id_of Variable ids = ids.variable

abbrev pub id_at : (List ℕ → Option NameIds) → ExternKind → List ℕ → Option ℕ
id_at known kind name = option_and_then (id_of kind) (known name)

-- whether a type is a function or a variable
unfoldable pub extern_kind : BtfType → Option ExternKind
extern_kind (Func _ _) = Some Function
extern_kind (Var _ _ _) = Some Variable
extern_kind _ = None

-- with one more id, which does not count where a lower one is there
abbrev pub with_lower_id : NameIds → ExternKind → ℕ → NameIds
with_lower_id ids Function id = record ids { function = or_else ids.function (Some id) }
with_lower_id ids Variable id = record ids { variable = or_else ids.variable (Some id) }

abbrev pub with_id_of : NameIds → ℕ → Option ExternKind → NameIds
with_id_of ids id None = ids
with_id_of ids id (Some kind) = with_lower_id ids kind id

-- the ids of a name, with one more type
abbrev pub with_type_ids : TypeInfo → List ℕ → ℕ → BtfType → NameIds → NameIds
with_type_ids kernel name id t ids =
    if is_text name (type_name kernel t) then with_id_of ids id (extern_kind t) else ids

-- the ids of a name, with types that have ids from a number on
abbrev pub finished : TypeInfo → List ℕ → ℕ → List BtfType → NameIds → NameIds
finished kernel name id types ids = record {
  function = or_else ids.function (position_from (is_named kernel name kinds.Func) id types);
  variable = or_else ids.variable (position_from (is_named kernel name kinds.Var) id types);
}

-- ---- what contracts of private functions name and no public one

-- the value at a name that is marked
unfoldable pub value_named : {V : Type 0} → NameTable V → List ℕ → Option V
value_named m name =
    if is_hash_marked m.marks.items (name_hash name)
    then get_by (λ k. text_cmp name k.now) m.values
    else None

-- values at some names alone
abbrev pub only_at : {V : Type 0} → List (List ℕ) → (List ℕ → V) → List ℕ → Option V
only_at names value name = if is_one_of names name then Some (value name) else None

-- whether types of a kind are functions or variables
unfoldable pub extern_kind_of : BtfKind → Option ExternKind
extern_kind_of kinds.Func = Some Function
extern_kind_of kinds.Var = Some Variable
extern_kind_of _ = None

-- the ids of a name, with one more type, of a kind and with its name at an offset
abbrev pub with_head_ids : TypeInfo → List ℕ → ℕ → BtfKind → ℕ → NameIds → NameIds
with_head_ids kernel name id kind offset ids =
    if is_text name (text_at kernel.strings offset)
    then with_id_of ids id (extern_kind_of kind)
    else ids

-- ---- the addresses of names, line by line, and where reading stops

-- the address of each name that is wanted, as far as lines gave it
abbrev pub KnownAddresses : Type 0
KnownAddresses = List ℕ → Option (Option ℕ)

-- what is known after a line
abbrev pub with_line : KnownAddresses → List ℕ → KnownAddresses
with_line known line name =
    option_map (λ before. or_else before (address_if_named name (address_and_name line)))
    (known name)

abbrev pub with_read_line : KnownAddresses → Line → KnownAddresses
with_read_line known (Ok line) = with_line known line
with_read_line known (Err e) = known

-- the fault of a line by what is known
abbrev pub known_fault : List ℕ → List ℕ → Option (Option ℕ) → Option KsymsError
known_fault name word None = None
known_fault name word (Some before) = stated_fault name before word (stated_address word)

abbrev pub named_line_fault : KnownAddresses → Option (List ℕ × List ℕ) → Option KsymsError
named_line_fault known None = None
named_line_fault known (Some pair) = known_fault pair.1 pair.0 (known pair.1)

abbrev pub text_line_fault : KnownAddresses → List ℕ → Option KsymsError
text_line_fault known line = named_line_fault known (address_and_name line)

abbrev pub read_line_fault : KnownAddresses → Line → Option KsymsError
read_line_fault known (Ok line) = text_line_fault known line
read_line_fault known (Err e) = Some e

module _ {S : Type 0} (steps : S → Option Item → S → Type 0) (lines : S) (names : List (List ℕ))
  where
    -- all items that count were read, none was refused, and each name has its address
    pub record AreRead (known : KnownAddresses) : Type 0 where
      pub items : List Item
      pub counted : Counts steps lines (nat_lt 0 (length names)) items
      pub read : lines_fault (is_one_of names) (map line_of_item items) ≡ None
      pub addresses : (q : List ℕ)
          → known q ≡ only_at names (λ name. address_of name (map line_of_item items)) q

    -- the last item that was read is refused, and none before it; there are names to read for
    pub record StopsAt (e : KsymsError) : Type 0 where
      pub items : List Item
      pub item : Item
      pub rest : S
      pub wanted : nat_lt 0 (length names) ≡ true
      pub came : Yields steps lines (items ++ item ∷ []) rest
      pub before : lines_fault (is_one_of names) (map line_of_item items) ≡ None
      pub refused : lines_fault (is_one_of names) (map line_of_item (items ++ item ∷ [])) ≡ Some e

-- ---- externs without a type, where addresses are given by a table

abbrev pub flattened : Option (Option ℕ) → Option ℕ
flattened None = None
flattened (Some o) = o

-- the address of a name, where there is one
abbrev pub known_at : KnownAddresses → List ℕ → Option ℕ
known_at known name = flattened (known name)

-- the value of an extern, and the reason of its refusal
abbrev pub typeless_as : (List ℕ → Option ℕ) → NamedExtern → ExternDesc
typeless_as address e = if is_typeless e.1 then with_address e.1 (address e.0) else e.1

abbrev pub typeless_refused : (List ℕ → Option ℕ) → NamedExtern → Option KsymsError
typeless_refused address e = if is_typeless e.1 then left_without (address e.0) e else None

-- ---- externs with a type, where ids of the kernel are given by a table

-- the name that an extern is looked up by
abbrev pub lookup_name : TypeInfo → NamedExtern → Option (List ℕ)
lookup_name local e =
    if is_typed e.1
    then option_map (λ s. s.name)
    (option_and_then (lookup_key_of e.0) (result_ok (type_at local.types e.1.btf_id)))
    else None

abbrev pub lookup_names : TypeInfo → List NamedExtern → List (List ℕ)
lookup_names local es = filter_map (lookup_name local) es

-- the result of an extern by its type, as `result_by` gives it; others are kept
abbrev pub result_with_type : KernelIds → TypeInfo → Option TypeInfo → NamedExtern → ExternResult
result_with_type kernel_ids local kernel e =
    if is_typed e.1 then typed_result (outcome_by kernel_ids local kernel e) else Kept

-- the value of an extern, and the reason of its refusal
abbrev pub typed_as : KernelIds → TypeInfo → Option TypeInfo → NamedExtern → ExternDesc
typed_as kernel_ids local kernel e =
    with_result e.1 (result_with_type kernel_ids local kernel e)

abbrev pub typed_refused : KernelIds → TypeInfo → Option TypeInfo → NamedExtern → Option KsymsError
typed_refused kernel_ids local kernel e = refusal_of (result_with_type kernel_ids local kernel e)

-- the ids of the names that some externs are looked up by; without a kernel none is asked
abbrev pub KnowsIds : TypeInfo → Option TypeInfo → List NamedExtern → (List ℕ → Option NameIds)
    → Type 0
KnowsIds local None es known = ⊤
KnowsIds local (Some kernel) es known =
    (q : List ℕ) → known q ≡ only_at (lookup_names local es) (ids_in kernel) q

-- the result of an extern without a type, where a table of addresses may be there
abbrev pub untyped_by : Option (NameTable (Option ℕ)) → NamedExtern → ExternResult
untyped_by None e = Untyped
untyped_by (Some addresses) e = address_result e (known_at (value_named addresses) e.0)

-- the outcome of an entry, by the ids of names
unfoldable pub outcome_by_ids : (List ℕ → Option NameIds) → (NamedExtern → ExternResult)
    → TypeInfo → Option TypeInfo → NamedExtern → OutcomeValue
outcome_by_ids ids untyped local kernel e =
    outcome_with (result_by (id_at ids) untyped local kernel) e
