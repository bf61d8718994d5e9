-- Resolution of externs: each extern gets the id of the kernel's type of its name, or the
-- address of its name, or the first refusal is the error. `IsResolved` relates the externs before
-- and after, and `IsResolutionFault` is the first refusal.
use Rattle.std.specs.FinMap.{FinMap, entries, from_sorted}
use Rattle.std.specs.Iterator.{Yields}
use Rattle.std.specs.List.{filter_map}
use Rattle.std.specs.Prelude.{ℕ, List, Bool, true, false, Option, Some, None, Result, Ok, Err}
use Rattle.std.specs.Prelude.{unwrap_or, ◌≡◌, ◌&&◌, ◌++◌, [], ◌∷◌, map, not, nat_lt, length}
use Rattle.std.specs.Prelude.{if◌then◌else◌, ◌⊎◌}
use Rattle.ebpf_base.specs.Faults.{fault_of, first_some, if_ok}
use Rattle.ebpf_base.specs.Maps.{text_cmp}
use Rattle.ebpf_btf.specs.EssentialNames.{essential_name}
use Rattle.ebpf_btf.specs.Strings.{id_of_name}
use Rattle.ebpf_btf.specs.Steps.{resolved, type_at}
use Rattle.ebpf_btf.specs.TypeInfo.{TypeInfo}
use Rattle.ebpf_btf.specs.Types.{type_word}
use Rattle.ebpf_btf.specs.declared.error.BtfError.{BtfError}
use Rattle.ebpf_btf.specs.declared.kind.BtfKind.{BtfKind}
use Rattle.ebpf_btf.specs.declared.kind.BtfKind.TheVariants as kinds
use Rattle.ebpf_btf.specs.declared.types.BtfType.{BtfType}
use Rattle.ebpf_btf.specs.declared.types.BtfType.TheVariants.{Func, Var}
use Rattle.ebpf_core_candidates.specs.Compatibility.{types_compatible}
use Rattle.ebpf_ksyms.specs.Addresses.{of_type_fault, Item, Line, line_of_item, lines_fault}
use Rattle.ebpf_ksyms.specs.Addresses.{address_of, Counts, is_one_of}
use Rattle.ebpf_ksyms.specs.declared.error.KsymsError.{KsymsError}
use Rattle.ebpf_ksyms.specs.declared.error.KsymsError.TheVariants.{FunctionNotFound}
use Rattle.ebpf_ksyms.specs.declared.error.KsymsError.TheVariants.{IncompatibleFunctionSignature}
use Rattle.ebpf_ksyms.specs.declared.error.KsymsError.TheVariants.{IncompatibleVariableType}
use Rattle.ebpf_ksyms.specs.declared.error.KsymsError.TheVariants.{InvalidExternType}
use Rattle.ebpf_ksyms.specs.declared.error.KsymsError.TheVariants.{VariableNotFound}
use Rattle.ebpf_ksyms.specs.declared.error.KsymsError.TheVariants.{TypedKsymRequiresKernelBtf}
use Rattle.ebpf_ksyms.specs.declared.ids.ExternKind.{ExternKind}
use Rattle.ebpf_ksyms.specs.declared.ids.ExternKind.TheVariants.{Function, Variable}
use Rattle.ebpf_model.specs.declared.symbol.ExternDesc.{ExternDesc}

-- ---- the key of an extern with a type

-- the kind that is looked up, the name, and the id of the type that the local FUNC or VAR holds
pub record LookupKeyValue : Type 0 where
  pub kind : ExternKind
  pub name : List ℕ
  pub type_id : ℕ

-- A function is looked up by its name before the first three underscores, a variable by its whole
-- name.
unfoldable pub lookup_key_of : List ℕ → BtfType → Option LookupKeyValue
lookup_key_of name (Func _ id) =
    Some (record { kind = Function; name = essential_name name; type_id = id })
lookup_key_of name (Var _ id _) = Some (record { kind = Variable; name = name; type_id = id })
lookup_key_of name _ = None

abbrev pub btf_kind_of : ExternKind → BtfKind
btf_kind_of Function = kinds.Func
btf_kind_of Variable = kinds.Var

-- ---- the type of the kernel

-- the lowest id of the kernel's FUNCs or VARs of a name
abbrev pub KernelIds : Type 0
KernelIds = ExternKind → List ℕ → Option ℕ

abbrev pub kernel_ids_in : TypeInfo → KernelIds
kernel_ids_in kernel kind name = id_of_name kernel name (btf_kind_of kind)

-- whether the type that a local FUNC or VAR holds stands for the one that the kernel's holds, both
-- resolved
unfoldable pub are_types_compatible : TypeInfo → ℕ → TypeInfo → ℕ → Result Bool BtfError
are_types_compatible local type_id kernel id =
    if_ok (resolved local.types type_id) (λ one.
    if_ok (type_at kernel.types id) (λ t.
    if_ok (resolved kernel.types (unwrap_or (type_word t) 0)) (λ other.
    types_compatible local one kernel other)))

-- ---- the outcome: an id of the kernel, or none for a weak extern, or a refusal

abbrev pub Outcome : Type 0
Outcome = Result (Option ℕ) KsymsError

-- no id where the extern is weak, else the error
abbrev pub unless_weak : Bool → KsymsError → Outcome
unless_weak true e = Ok None
unless_weak false e = Err e

abbrev pub not_found : ExternKind → List ℕ → KsymsError
not_found Function name = FunctionNotFound name
not_found Variable name = VariableNotFound name

abbrev pub not_alike : ExternKind → List ℕ → KsymsError
not_alike Function name = IncompatibleFunctionSignature name
not_alike Variable name = IncompatibleVariableType name

abbrev pub compared_outcome : Bool → LookupKeyValue → ℕ → Result Bool BtfError → Outcome
compared_outcome weak s id (Err e) = Err (of_type_fault e)
compared_outcome weak s id (Ok true) = Ok (Some id)
compared_outcome weak s id (Ok false) = unless_weak weak (not_alike s.kind s.name)

abbrev pub at_found : TypeInfo → TypeInfo → Bool → LookupKeyValue → Option ℕ → Outcome
at_found local kernel weak s None = unless_weak weak (not_found s.kind s.name)
at_found local kernel weak s (Some id) =
    compared_outcome weak s id (are_types_compatible local s.type_id kernel id)

abbrev pub at_lookup_key : TypeInfo → TypeInfo → KernelIds → List ℕ → Bool → Option LookupKeyValue
    → Outcome
at_lookup_key local kernel kernel_ids name weak None = Err (InvalidExternType name)
at_lookup_key local kernel kernel_ids name weak (Some s) =
    at_found local kernel weak s (kernel_ids s.kind s.name)

abbrev pub at_type : TypeInfo → TypeInfo → KernelIds → List ℕ → Bool → Result BtfType BtfError
    → Outcome
at_type local kernel kernel_ids name weak (Err e) = Err (of_type_fault e)
at_type local kernel kernel_ids name weak (Ok t) =
    at_lookup_key local kernel kernel_ids name weak (lookup_key_of name t)

-- ---- externs

abbrev pub Externs : Type 0
Externs = FinMap text_cmp ExternDesc

-- a name, and the extern
abbrev pub NamedExtern : Type 0
NamedExtern = List ℕ × ExternDesc

-- ---- which externs are to be resolved

-- unresolved at the call, with a type
abbrev pub is_typed : ExternDesc → Bool
is_typed d = not d.is_resolved && d.is_typed

-- unresolved at the call, without a type
abbrev pub is_typeless : ExternDesc → Bool
is_typeless d = not d.is_resolved && not d.is_typed

-- ---- externs with a type

-- the outcome of an extern with a type; `kernel_ids` gives ids of the kernel by name
abbrev pub outcome_by : KernelIds → TypeInfo → Option TypeInfo → NamedExtern → Outcome
outcome_by kernel_ids local None e = unless_weak e.1.is_weak TypedKsymRequiresKernelBtf
outcome_by kernel_ids local (Some kernel) e =
    at_type local kernel kernel_ids e.0 e.1.is_weak (type_at local.types e.1.btf_id)

abbrev pub no_kernel_ids : KernelIds
no_kernel_ids kind name = None

abbrev pub kernel_ids_of : Option TypeInfo → KernelIds
kernel_ids_of None = no_kernel_ids
kernel_ids_of (Some kernel) = kernel_ids_in kernel

abbrev pub outcome : TypeInfo → Option TypeInfo → NamedExtern → Outcome
outcome local kernel e = outcome_by (kernel_ids_of kernel) local kernel e

-- resolved with an id of the kernel; else weak, with address 0
abbrev pub with_outcome : ExternDesc → Outcome → ExternDesc
with_outcome d (Ok (Some id)) = record d { kernel_btf_id = Some id; is_resolved = true }
with_outcome d (Ok None) = record d { ksym_addr = Some 0 }
with_outcome d (Err e) = d

-- ---- externs without a type

-- resolved with an address; else weak, with address 0
abbrev pub with_address : ExternDesc → Option ℕ → ExternDesc
with_address d (Some address) = record d { ksym_addr = Some address; is_resolved = true }
with_address d None = record d { ksym_addr = Some 0 }

-- the name of an extern that lines are read for
abbrev pub wanted_name : NamedExtern → Option (List ℕ)
wanted_name e = if is_typeless e.1 then Some e.0 else None

-- the names that lines are read for
abbrev pub wanted_names : List NamedExtern → List (List ℕ)
wanted_names es = filter_map wanted_name es

-- ---- all externs

-- an extern after resolution
abbrev pub resolved_as : TypeInfo → Option TypeInfo → List Line → NamedExtern → ExternDesc
resolved_as local kernel lines e =
    if is_typed e.1 then with_outcome e.1 (outcome local kernel e)
    else if is_typeless e.1 then with_address e.1 (address_of e.0 lines)
    else e.1

-- entries with their values made anew
abbrev pub renewed : (NamedExtern → ExternDesc) → List NamedExtern → List NamedExtern
renewed f es = map (λ e. (e.0, f e)) es

-- the externs with their values made anew
unfoldable pub renew : (NamedExtern → ExternDesc) → Externs → Externs
renew f externs = from_sorted (renewed f (entries externs))

-- the externs afterwards; without types of the object they stay
unfoldable pub resolved_externs : Option TypeInfo → Option TypeInfo → List Line → Externs → Externs
resolved_externs None kernel lines externs = externs
resolved_externs (Some local) kernel lines externs = renew (resolved_as local kernel lines) externs

-- ---- refusals

-- an extern with a type, which the kernel does not have
abbrev pub type_refused : TypeInfo → Option TypeInfo → NamedExtern → Option KsymsError
type_refused local kernel e = if is_typed e.1 then fault_of (outcome local kernel e) else None

-- the first of them by name
unfoldable pub types_refused : Option TypeInfo → Option TypeInfo → Externs → Option KsymsError
types_refused None kernel externs = None
types_refused (Some local) kernel externs = first_some (type_refused local kernel) (entries externs)

-- the names that lines are read for: none without types of the object
unfoldable pub names_read : Option TypeInfo → Externs → List (List ℕ)
names_read None externs = []
names_read (Some local) externs = wanted_names (entries externs)

-- whether lines are read
abbrev pub reads_lines : Option TypeInfo → Externs → Bool
reads_lines local externs = nat_lt 0 (length (names_read local externs))

-- the first line that is refused
abbrev pub lines_refused : Option TypeInfo → Externs → List Line → Option KsymsError
lines_refused local externs lines = lines_fault (is_one_of (names_read local externs)) lines

-- a strong extern without an address
abbrev pub left_without : Option ℕ → NamedExtern → Option KsymsError
left_without (Some address) e = None
left_without None e = if e.1.is_weak then None else Some (VariableNotFound e.0)

abbrev pub name_refused : List Line → NamedExtern → Option KsymsError
name_refused lines e = if is_typeless e.1 then left_without (address_of e.0 lines) e else None

-- the first of them by name
unfoldable pub names_refused : Option TypeInfo → Externs → List Line → Option KsymsError
names_refused None externs lines = None
names_refused (Some local) externs lines = first_some (name_refused lines) (entries externs)

-- ---- answers

module _ {S : Type 0} (steps : S → Option Item → S → Type 0) (lines : S) where
  -- the externs afterwards, where nothing is refused
  pub record IsResolved (local kernel : Option TypeInfo) (externs after : Externs) : Type 0 where
    pub items : List Item
    pub counted : Counts steps lines (reads_lines local externs) items
    pub types : types_refused local kernel externs ≡ None
    pub read : lines_refused local externs (map line_of_item items) ≡ None
    pub names : names_refused local externs (map line_of_item items) ≡ None
    pub stands : after ≡ resolved_externs local kernel (map line_of_item items) externs

  -- an extern with a type is refused; no item counts
  abbrev pub StopsAtType : Option TypeInfo → Option TypeInfo → Externs → KsymsError → Type 0
  StopsAtType local kernel externs e = types_refused local kernel externs ≡ Some e

  -- the last item that was read is refused, and none before it; lines are read
  pub record StopsAtLine (local kernel : Option TypeInfo) (externs : Externs) (e : KsymsError)
      : Type 0 where
    pub items : List Item
    pub item : Item
    pub rest : S
    pub wanted : reads_lines local externs ≡ true
    pub came : Yields steps lines (items ++ item ∷ []) rest
    pub types : types_refused local kernel externs ≡ None
    pub before : lines_refused local externs (map line_of_item items) ≡ None
    pub refused : lines_refused local externs (map line_of_item (items ++ item ∷ [])) ≡ Some e

  -- all items are accepted, and an extern is left without an address
  pub record StopsAtName (local kernel : Option TypeInfo) (externs : Externs) (e : KsymsError)
      : Type 0 where
    pub items : List Item
    pub counted : Counts steps lines (reads_lines local externs) items
    pub types : types_refused local kernel externs ≡ None
    pub read : lines_refused local externs (map line_of_item items) ≡ None
    pub refused : names_refused local externs (map line_of_item items) ≡ Some e

  -- the least refusal: externs with types come first, then the lines, then the names left
  abbrev pub IsResolutionFault : Option TypeInfo → Option TypeInfo → Externs → KsymsError → Type 0
  IsResolutionFault local kernel externs e =
      StopsAtType local kernel externs e ⊎
      (StopsAtLine local kernel externs e ⊎ StopsAtName local kernel externs e)
