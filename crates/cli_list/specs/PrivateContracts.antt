-- What contracts of private functions name and no public one.
use Rattle.std.specs.Prelude.{◌≡◌, ℕ, ◌+◌, ◌-◌, ◌^◌, ◌==◌, min, count_by, Bool, false, List}
use Rattle.std.specs.Prelude.{[], ◌∷◌, ◌++◌, fold, map, length, slice_get, Option, Some, None}
use Rattle.std.specs.Prelude.{string_bytes, unwrap_or, if◌then◌else◌}
use Rattle.std.specs.BTreeMap.{BTreeMap}
use Rattle.std.specs.BTreeMap as counting
use Rattle.std.specs.BTreeSet.{BTreeSet}
use Rattle.std.specs.FinMap.{FinMap, get, insert}
use Rattle.std.specs.List.{flat_map}
use Rattle.std.specs.declared.cmp.Ordering.{Ordering}
use Rattle.ebpf_base.specs.Maps.{key_cmp}
use Rattle.ebpf_btf.specs.TypeInfo.{TypeInfo}
use Rattle.ebpf_btf_ext.specs.declared.relocation.Relocation.{Relocation}
use Rattle.cli_common.specs.RecordKinds.{kind_of}
use Rattle.cli_common.specs.TypeLabels.{type_label}
use Rattle.cli_list.specs.RecordCounts.{asks, group_cmp}
use Rattle.cli_list.specs.declared.layout.ListedLayout.{ListedLayout}
use Rattle.cli_list.specs.declared.records.RecordGroup.{RecordGroup}
use Rattle.ebpf_model.specs.Symbols.{FunctionKey}
use Rattle.cli_common.specs.declared.map_uses.MapUse.{MapUse}

-- ---- the numbers of programs, noted as they rise

abbrev pub is_number : Option ℕ → ℕ → Bool
is_number None n = false
is_number (Some m) n = m == n

-- whether a list ends in a number
unfoldable pub ends_in : List ℕ → ℕ → Bool
ends_in numbers n = is_number (slice_get numbers (length numbers - 1)) n

-- with one more number, where it isn't the last
abbrev pub noted : List ℕ → ℕ → List ℕ
noted numbers n = if ends_in numbers n then numbers else numbers ++ n ∷ []

module _ {K : Type 0} {R : K → K → Ordering} where
  -- with one more user of what has these
  abbrev pub with_user_beside : FinMap R (List ℕ) → K → ℕ → Option (List ℕ) → FinMap R (List ℕ)
  with_user_beside users used n own = insert users used (noted (unwrap_or own []) n)

  -- with one more user of this
  abbrev pub with_user : ℕ → FinMap R (List ℕ) → K → FinMap R (List ℕ)
  with_user n users used = with_user_beside users used n (get users used)

  -- with one more user of each of these
  abbrev pub with_users : ℕ → FinMap R (List ℕ) → List K → FinMap R (List ℕ)
  with_users n users used = fold (with_user n) users used

  -- with the programs of these layouts, whose numbers begin at n, as users of what each uses
  abbrev pub users_from : (ListedLayout → List K) → ℕ → FinMap R (List ℕ) → List ListedLayout
      → FinMap R (List ℕ)
  users_from used n users [] = users
  users_from used n users (l ∷ ls) = users_from used (n + 1) (with_users n users (used l)) ls

-- ---- what a program uses, function by function

abbrev pub keys_or_none : Option (BTreeSet ℕ) → List ℕ
keys_or_none None = []
keys_or_none (Some s) = s.keys

abbrev pub helpers_at : FinMap key_cmp (BTreeSet ℕ) → List FunctionKey → List ℕ
helpers_at helpers keys = flat_map (λ key. keys_or_none (get helpers key)) keys

unfoldable pub helpers_of : FinMap key_cmp (BTreeSet ℕ) → ListedLayout → List ℕ
helpers_of helpers layout = helpers_at helpers layout.functions.items

abbrev pub use_names : List MapUse → List (List ℕ)
use_names uses = map (λ u. u.name) uses

abbrev pub names_or_none : Option (List MapUse) → List (List ℕ)
names_or_none None = []
names_or_none (Some uses) = use_names uses

abbrev pub names_at : FinMap key_cmp (List MapUse) → List FunctionKey → List (List ℕ)
names_at uses keys = flat_map (λ key. names_or_none (get uses key)) keys

unfoldable pub names_of : FinMap key_cmp (List MapUse) → ListedLayout → List (List ℕ)
names_of uses layout = names_at uses layout.functions.items

-- ---- the functions that programs reach

abbrev pub reached_keys : List ListedLayout → List FunctionKey
reached_keys layouts = flat_map (λ l. l.functions.items) layouts

-- ---- records, counted one after the other

-- the group of a record
pub record IsGroupOf (types : TypeInfo) (r : Relocation) (group : RecordGroup) : Type 0 where
  pub name : string_bytes group.name ≡ type_label types r.type_id
  pub kind : group.kind ≡ kind_of r.kind

-- what is counted, with n more
abbrev pub with_more : Option ℕ → ℕ → Option ℕ
with_more found n = if n == 0 then found else Some (min (unwrap_or found 0 + n) (2 ^ 64 - 1))

-- the counts with those of some records
abbrev pub CountsMore : TypeInfo → BTreeMap RecordGroup ℕ → List Relocation
    → BTreeMap RecordGroup ℕ → Type 0
CountsMore types before records after =
    (group : RecordGroup)
    → counting.get group_cmp after group
    ≡ with_more (counting.get group_cmp before group) (count_by (asks types group) records)
