-- The outcome of each extern of an object over a kernel. The externs are in the order of their
-- names, so that the outcome at a position is that of the entry at the same position. One that is
-- refused keeps no other from its outcome.
use Rattle.std.specs.FinMap.{entries, from_sorted}
use Rattle.std.specs.Iterator.{Yields}
use Rattle.std.specs.Prelude.{ℕ, List, Bool, true, false, Option, Some, None, Ok, Err, ◌≡◌, ◌++◌}
use Rattle.std.specs.Prelude.{[], ◌∷◌, map, if◌then◌else◌}
use Rattle.ebpf_base.specs.Faults.{first_some}
use Rattle.ebpf_btf.specs.TypeInfo.{TypeInfo}
use Rattle.ebpf_ksyms.specs.Addresses.{Item, Line, line_of_item, address_of, Counts}
use Rattle.ebpf_ksyms.specs.Externs.{Externs, NamedExtern, KernelIds, Outcome, outcome_by, is_typed}
use Rattle.ebpf_ksyms.specs.Externs.{is_typeless, kernel_ids_of, reads_lines, lines_refused}
use Rattle.ebpf_ksyms.specs.Externs.{names_refused, resolved_externs, types_refused}
use Rattle.ebpf_ksyms.specs.declared.error.KsymsError.{KsymsError}
use Rattle.ebpf_ksyms.specs.declared.error.KsymsError.TheVariants.{VariableNotFound}
use Rattle.ebpf_ksyms.specs.declared.extern_outcome.ExternResult.{ExternResult}
use Rattle.ebpf_ksyms.specs.declared.extern_outcome.ExternResult.TheVariants.{Id, Address, Absent}
use Rattle.ebpf_ksyms.specs.declared.extern_outcome.ExternResult.TheVariants.{Refused, Untyped}
use Rattle.ebpf_ksyms.specs.declared.extern_outcome.ExternResult.TheVariants.{Kept}
use Rattle.ebpf_model.specs.declared.symbol.ExternDesc.{ExternDesc}

-- the name of an extern, the extern before resolution, and its result
pub record OutcomeValue : Type 0 where
  pub name : List ℕ
  pub desc : ExternDesc
  pub result : ExternResult

-- ---- the result of one extern

-- the result of an extern with a type, by what the kernel has for it
abbrev pub typed_result : Outcome → ExternResult
typed_result (Ok (Some id)) = Id id
typed_result (Ok None) = Absent
typed_result (Err e) = Refused e

-- the result of an extern without a type, by the address of its name
abbrev pub address_result : NamedExtern → Option ℕ → ExternResult
address_result e (Some address) = Address address
address_result e None = if e.1.is_weak then Absent else Refused (VariableNotFound e.0)

-- the result of any extern; `untyped` gives that of one without a type
abbrev pub result_by : KernelIds → (NamedExtern → ExternResult) → TypeInfo → Option TypeInfo
    → NamedExtern → ExternResult
result_by kernel_ids untyped local kernel e =
    if is_typed e.1 then typed_result (outcome_by kernel_ids local kernel e)
    else if is_typeless e.1 then untyped e
    else Kept

-- ---- the outcomes of all externs

-- the outcome of an entry, under its name
abbrev pub outcome_with : (NamedExtern → ExternResult) → NamedExtern → OutcomeValue
outcome_with result e = record { name = e.0; desc = e.1; result = result e }

abbrev pub outcomes_with : (NamedExtern → ExternResult) → List NamedExtern → List OutcomeValue
outcomes_with result es = map (outcome_with result) es

-- the outcomes; without types of the object all externs are kept
abbrev pub outcomes_by : (NamedExtern → ExternResult) → Option TypeInfo → Option TypeInfo → Externs
    → List OutcomeValue
outcomes_by untyped None kernel externs = outcomes_with (λ _. Kept) (entries externs)
outcomes_by untyped (Some local) kernel externs =
    outcomes_with (result_by (kernel_ids_of kernel) untyped local kernel) (entries externs)

-- the outcomes by types alone
unfoldable pub typed_outcomes : Option TypeInfo → Option TypeInfo → Externs → List OutcomeValue
typed_outcomes local kernel externs = outcomes_by (λ _. Untyped) local kernel externs

-- the outcomes by types and by the lines of the kernel's symbols
unfoldable pub extern_outcomes : Option TypeInfo → Option TypeInfo → List Line → Externs
    → List OutcomeValue
extern_outcomes local kernel lines externs =
    outcomes_by (λ e. address_result e (address_of e.0 lines)) local kernel externs

-- ---- what follows a result

-- the extern with its result
abbrev pub with_result : ExternDesc → ExternResult → ExternDesc
with_result d (Id id) = record d { kernel_btf_id = Some id; is_resolved = true }
with_result d (Address address) = record d { ksym_addr = Some address; is_resolved = true }
with_result d Absent = record d { ksym_addr = Some 0 }
with_result d (Refused e) = d
with_result d Untyped = d
with_result d Kept = d

-- the refusal of an extern that is refused
abbrev pub refusal_of : ExternResult → Option KsymsError
refusal_of (Refused e) = Some e
refusal_of _ = None

-- ---- answers

module _ {S : Type 0} (steps : S → Option Item → S → Type 0) (lines : S) where
  -- the outcomes, where all lines that count are accepted
  pub record AreExternOutcomes (local kernel : Option TypeInfo) (externs : Externs)
      (outcomes : List OutcomeValue)
      : Type 0 where
    pub items : List Item
    pub counted : Counts steps lines (reads_lines local externs) items
    pub read : lines_refused local externs (map line_of_item items) ≡ None
    pub each : outcomes ≡ extern_outcomes local kernel (map line_of_item items) externs

  -- the last item that was read is refused, and none before it; lines are read
  pub record IsLineFault (local : Option TypeInfo) (externs : Externs) (e : KsymsError)
      : Type 0 where
    pub items : List Item
    pub item : Item
    pub rest : S
    pub wanted : reads_lines local externs ≡ true
    pub came : Yields steps lines (items ++ item ∷ []) rest
    pub before : lines_refused local externs (map line_of_item items) ≡ None
    pub refused : lines_refused local externs (map line_of_item (items ++ item ∷ [])) ≡ Some e

-- ---- resolution by the outcomes

-- the refusal of an extern with a type, and of one without
abbrev pub typed_refusal : OutcomeValue → Option KsymsError
typed_refusal o = if o.desc.is_typed then refusal_of o.result else None

abbrev pub untyped_refusal : OutcomeValue → Option KsymsError
untyped_refusal o = if o.desc.is_typed then None else refusal_of o.result

-- an entry with its result
abbrev pub entry_after : OutcomeValue → NamedExtern
entry_after o = (o.name, with_result o.desc o.result)

-- the externs with all results
abbrev pub externs_after : List OutcomeValue → Externs
externs_after outcomes = from_sorted (map entry_after outcomes)

-- the first refusal by types is that of the first extern with a type that is refused, whatever the
-- lines
abbrev pub TypesRefuseByOutcomes : Type 0
TypesRefuseByOutcomes = (local kernel : Option TypeInfo) (externs : Externs)
    → (types_refused local kernel externs
    ≡ first_some typed_refusal (typed_outcomes local kernel externs)) × ((lines : List Line)
    → types_refused local kernel externs
    ≡ first_some typed_refusal (extern_outcomes local kernel lines externs))

-- the first refusal of a name left without an address is that of the first extern without a type
-- that is refused
abbrev pub NamesRefuseByOutcomes : Type 0
NamesRefuseByOutcomes = (local kernel : Option TypeInfo) (lines : List Line) (externs : Externs)
    → names_refused local externs lines
    ≡ first_some untyped_refusal (extern_outcomes local kernel lines externs)

-- where no name is left, the externs after resolution are those with all results
abbrev pub ResultsAreWritten : Type 0
ResultsAreWritten = (local kernel : Option TypeInfo) (lines : List Line) (externs : Externs)
    → names_refused local externs lines ≡ None
    → resolved_externs local kernel lines externs
    ≡ externs_after (extern_outcomes local kernel lines externs)
