-- What the kernel has for names that are looked up: without flavors, the lowest ids, by a table.
use Rattle.std.proofs.Common.{◌≡◌, ℕ, ◌<◌, ◌≤◌, ◌+◌, suc, zero, Bool, true, false, cond, List, [], ◌∷◌, ◌++◌, length, Option, Some, None, refl, ap, sym, ◌∙◌, arith, take, drop, eqb, ◌&&◌, ◌||◌, Result, Ok, Err}
use Rattle.std.specs.Prelude.{find, nat_eq, unwrap_or, option_map, MatchOption, ⊤}
use Rattle.std.specs.List.{range_with_len, starts_with, position_from, AllByRecursion, cons_option, filter_map}
use Rattle.std.specs.Str.Pattern.{FindsText, LacksTextAt}
use Rattle.std.proofs.lemmas.Slice.Eq.{starts_is, bytes_eq-Decides}
use Rattle.std.proofs.lemmas.Bool.Decides.{Decides-eqb}
use Rattle.std.specs.Option.{option_and_then}
use Rattle.std.specs.Result.{result_ok}
use Rattle.std.specs.Str.{bytes_eq}
use Rattle.std.proofs.lemmas.Bool.{or_right}
use Rattle.ebpf_base.specs.Faults.{or_else, first_some}
use Rattle.ebpf_btf.specs.EssentialNames.{essential_name, flavor_mark}
use Rattle.ebpf_btf.specs.Strings.{is_named, is_text, type_name}
use Rattle.ebpf_btf.specs.Steps.{type_at}
use Rattle.ebpf_btf.specs.TypeInfo.{TypeInfo}
use Rattle.ebpf_btf.specs.Types.{is_kind, kind_number, kind_of, name_off}
use Rattle.ebpf_btf.specs.declared.error.BtfError.{BtfError}
use Rattle.ebpf_btf.specs.declared.kind.BtfKind.{BtfKind}
use Rattle.ebpf_btf.specs.declared.types.BtfType.{BtfType}
use Rattle.ebpf_btf.specs.declared.types.BtfType.TheVariants.{Func, Var}
use Rattle.ebpf_base.proofs.Faults.{or_else-None}
use Rattle.ebpf_ksyms.specs.Addresses.{is_one_of}
use Rattle.ebpf_ksyms.specs.Externs.{NamedExtern, kernel_ids_of, is_typed, is_typeless, outcome_by, renewed, at_found, at_lookup_key, at_type, kernel_ids_in, lookup_key_of, LookupKeyValue}
use Rattle.ebpf_ksyms.specs.Outcomes.{outcomes_with, refusal_of, result_by, typed_result, with_result}
use Rattle.ebpf_ksyms.specs.PrivateContracts.{finished, extern_kind, with_id_of, with_type_ids, extern_kind_of, with_head_ids, id_at, id_of, ids_in, only_at, lookup_name, lookup_names, typed_as, typed_refused, result_with_type, KnowsIds}
use Rattle.ebpf_ksyms.specs.declared.extern_outcome.ExternResult.{ExternResult}
use Rattle.ebpf_ksyms.specs.declared.extern_outcome.ExternResult.TheVariants.{Kept}
use Rattle.ebpf_ksyms.specs.declared.ids.NameIds.{NameIds}
use Rattle.ebpf_ksyms.specs.declared.ids.ExternKind.{ExternKind}
use Rattle.ebpf_ksyms.specs.declared.ids.ExternKind.TheVariants.{Function, Variable}
use Rattle.ebpf_btf.specs.declared.kind.BtfKind.TheVariants as kinds

-- ---- the name before the first three underscores, by where a search finds them

-- the first number of a range that passes
find-none : (p : ℕ → Bool) (a n : ℕ) → ((k : ℕ) → a ≤ k → k < a + n → p k ≡ false) → find p (range_with_len a n) ≡ None
find-none p a zero h = refl
find-none p a (suc n) h =
    let no : p a ≡ false = h a (omega arith) (omega arith) in
    rw no (find-none p (a + 1) n (λ k low high. h k (omega arith) (omega arith)))

find-first : (p : ℕ → Bool) (a n i : ℕ) → a ≤ i → i < a + n → ((k : ℕ) → a ≤ k → k < i → p k ≡ false) → p i ≡ true → find p (range_with_len a n) ≡ Some i
find-first p a zero i low high before here = absurd (omega arith)
find-first p a (suc n) i low high before here =
    elim (eqb a i) as (λ b. eqb a i ≡ b → find p (range_with_len a (suc n)) ≡ Some i) [
      | true ↦ λ e. let same : a ≡ i = grind (arith) in let yes : p a ≡ true = ap p same ∙ here in rw yes (ap Some same)
      | false ↦ λ e. let more : a < i = grind (arith) in let no : p a ≡ false = before a (omega arith) more in rw no (find-first p (a + 1) n i (omega arith) (omega arith) (λ k l h. before k (omega arith) h) here)
    ] refl

is_marked : List ℕ → ℕ → Bool
is_marked name k = starts_with nat_eq (drop k name) flavor_mark

-- three underscores stand where the search says so, and nowhere else
lacks_mark : (name : List ℕ) (k : ℕ) → LacksTextAt flavor_mark name k → is_marked name k ≡ false
unfolding is_marked
lacks_mark name k lacks =
    let is = starts_is Decides-eqb (drop k name) flavor_mark (starts_with nat_eq (drop k name) flavor_mark) refl in
    elim (starts_with nat_eq (drop k name) flavor_mark) as (λ b. (b ≡ true → drop k name ≡ flavor_mark ++ drop 3 (drop k name)) → b ≡ false) [
      | true ↦ λ h. absurd (lacks _ (h refl))
      | false ↦ λ h. refl
    ] is.0

has_mark : (name rest : List ℕ) (k : ℕ) → drop k name ≡ flavor_mark ++ rest → is_marked name k ≡ true
unfolding is_marked
has_mark name rest k h = (starts_is Decides-eqb (drop k name) flavor_mark (starts_with nat_eq (drop k name) flavor_mark) refl).1 rest h

pub no_flavor : (name : List ℕ) → FindsText flavor_mark name None → essential_name name ≡ take (length name) name
unfolding essential_name is_marked
no_flavor name none = ap (λ o. take (unwrap_or o (length name)) name) (find-none (is_marked name) 0 (length name) (λ k low high. lacks_mark name k (none k (omega arith))))

pub with_flavor : (name : List ℕ) (i j : ℕ) → i < length name → FindsText flavor_mark name (Some (i, j)) → essential_name name ≡ take i name
unfolding essential_name is_marked
with_flavor name i j inside found =
    ap (λ o. take (unwrap_or o (length name)) name) (find-first (is_marked name) 0 (length name) i (omega arith) (omega arith)
    (λ k low high. lacks_mark name k (found.0 k high)) (has_mark name (drop j name) i found.1.split))

pub take_all : (name : List ℕ) → take (length name) name ≡ name
take_all [] = refl
take_all (b ∷ name) = ap (λ rest. b ∷ rest) (take_all name)

-- ---- the lowest ids of a name, type by type

is_function : Option ExternKind → Bool
is_function (Some Function) = true
is_function _ = false

is_variable : Option ExternKind → Bool
is_variable (Some Variable) = true
is_variable _ = false

kind_Func : (t : BtfType) → is_kind kinds.Func t ≡ is_function (extern_kind t)
unfolding kind_of kind_number extern_kind is_function
kind_Func (Func _ _) = refl
kind_Func (Var _ _ _) = refl
kind_Func _ = refl

kind_Var : (t : BtfType) → is_kind kinds.Var t ≡ is_variable (extern_kind t)
unfolding kind_of kind_number extern_kind is_variable
kind_Var (Func _ _) = refl
kind_Var (Var _ _ _) = refl
kind_Var _ = refl

-- one id, then those after it
chosen : (b : Bool) (o : Option ℕ) (id : ℕ) (rest : Option ℕ) → or_else o (cond b (Some id) rest) ≡ or_else (cond b (or_else o (Some id)) o) rest
chosen true None id rest = refl
chosen true (Some x) id rest = refl
chosen false o id rest = refl

one_more : (s : Option ExternKind) (b : Bool) (ids : NameIds) (id : ℕ) (fs vs : Option ℕ) → ◌≡◌ {A = NameIds}
    (record { function = or_else ids.function (cond (is_function s && b) (Some id) fs); variable = or_else ids.variable (cond (is_variable s && b) (Some id) vs) })
    (record { function = or_else (cond b (with_id_of ids id s) ids).function fs; variable = or_else (cond b (with_id_of ids id s) ids).variable vs })
unfolding is_function is_variable
one_more None b ids id fs vs = elim b as (λ b. ◌≡◌ {A = NameIds} (record { function = or_else ids.function fs; variable = or_else ids.variable vs }) (record { function = or_else (cond b ids ids).function fs; variable = or_else (cond b ids ids).variable vs })) [ true ↦ refl | false ↦ refl ]
one_more (Some Function) true ids id fs vs = λ i. record { function = chosen true ids.function id fs i; variable = or_else ids.variable vs }
one_more (Some Function) false ids id fs vs = refl
one_more (Some Variable) true ids id fs vs = λ i. record { function = or_else ids.function fs; variable = chosen true ids.variable id vs i }
one_more (Some Variable) false ids id fs vs = refl

-- one type, then those after it
pub finished-cons : (kernel : TypeInfo) (name : List ℕ) (id : ℕ) (t : BtfType) (types : List BtfType) (ids : NameIds) → finished kernel name id (t ∷ types) ids ≡ finished kernel name (id + 1) types (with_type_ids kernel name id t ids)
finished-cons kernel name id t types ids =
    rw (kind_Func t, kind_Var t) (
    one_more (extern_kind t) (is_text name (type_name kernel t)) ids id (position_from (is_named kernel name kinds.Func) (id + 1) types) (position_from (is_named kernel name kinds.Var) (id + 1) types))

option-step : {A B C : Type 0} (f : B → C) (g : A → B) (h : A → C) (o : Option A) → ((x : A) → h x ≡ f (g x)) → option_map h o ≡ option_map f (option_map g o)
option-step f g h None e = refl
option-step f g h (Some x) e = ap Some (e x)

-- a pass with one more type
pub more-types : (kernel : TypeInfo) (name : List ℕ) (id : ℕ) (t : BtfType) (types : List BtfType) (before after : Option NameIds) → after ≡ option_map (with_type_ids kernel name id t) before → option_map (finished kernel name id (t ∷ types)) before ≡ option_map (finished kernel name (id + 1) types) after
more-types kernel name id t types before after e =
    option-step (finished kernel name (id + 1) types) (with_type_ids kernel name id t) (finished kernel name id (t ∷ types)) before (finished-cons kernel name id t types)
    ∙ ap (option_map (finished kernel name (id + 1) types)) (sym e)

-- with no type left it is over
pub no-types : (kernel : TypeInfo) (name : List ℕ) (id : ℕ) (types : List BtfType) (ids : Option NameIds) → types ≡ [] → option_map (finished kernel name id types) ids ≡ ids
no-types kernel name id types None e = refl
no-types kernel name id types (Some ids) e = rw (e, or_else-None ids.function, or_else-None ids.variable) refl

-- a type by its kind and the offset of its name
extern_kind_by : (t : BtfType) → extern_kind t ≡ extern_kind_of (kind_of t)
unfolding extern_kind kind_of extern_kind_of
extern_kind_by (Func _ _) = refl
extern_kind_by (Var _ _ _) = refl
extern_kind_by _ = refl

pub by_head : (kernel : TypeInfo) (name : List ℕ) (id : ℕ) (t : BtfType) (kind : BtfKind) (offset : ℕ) (before : Option NameIds) → kind_of t ≡ kind → name_off t ≡ offset
    → option_map (with_head_ids kernel name id kind offset) before ≡ option_map (with_type_ids kernel name id t) before
by_head kernel name id t kind offset before of_kind named =
    ap (λ k. option_map (with_head_ids kernel name id k offset) before) (sym of_kind)
    ∙ ap (λ n. option_map (with_head_ids kernel name id (kind_of t) n) before) (sym named)
    ∙ ap (λ found. option_map (λ ids. cond (is_text name (type_name kernel t)) (with_id_of ids id found) ids) before) (sym (extern_kind_by t))

-- ---- ids of the kernel by a table of the names that are looked up, in place of a search for each

-- a name, where there is one, is among others
IsListed : List (List ℕ) → Option (List ℕ) → Type 0
IsListed names o = MatchOption o ⊤ (λ n. is_one_of names n ≡ true)

listed_more : (n : List ℕ) (names : List (List ℕ)) (o : Option (List ℕ)) → IsListed names o → IsListed (n ∷ names) o
unfolding IsListed
listed_more n names None h = tt
listed_more n names (Some m) h = ap (λ b. bytes_eq n m || b) h ∙ or_right (bytes_eq n m) true refl

all_more : (f : NamedExtern → Option (List ℕ)) (n : List ℕ) (names : List (List ℕ)) (es : List NamedExtern) → AllByRecursion (λ e. IsListed names (f e)) es → AllByRecursion (λ e. IsListed (n ∷ names) (f e)) es
all_more f n names [] h = tt
all_more f n names (e ∷ es) h = (listed_more n names (f e) h.0, all_more f n names es h.1)

all_listed : (f : NamedExtern → Option (List ℕ)) (es : List NamedExtern) → AllByRecursion (λ e. IsListed (filter_map f es) (f e)) es
unfolding IsListed
all_listed f [] = tt
all_listed f (e ∷ es) =
    elim (f e) as (λ o. IsListed (cons_option o (filter_map f es)) o × AllByRecursion (λ d. IsListed (cons_option o (filter_map f es)) (f d)) es) [
      | None ↦ (tt, all_listed f es)
      | Some n ↦ (ap (λ b. b || is_one_of (filter_map f es) n) ((bytes_eq-Decides n n).1 refl), all_more f n (filter_map f es) es (all_listed f es))
    ]

module _ (local kernel : TypeInfo) (names : List (List ℕ)) (known : List ℕ → Option NameIds) (tells : (q : List ℕ) → known q ≡ only_at names (ids_in kernel) q) where
  id_of_kind : (kind : ExternKind) (name : List ℕ) → id_of kind (ids_in kernel name) ≡ kernel_ids_in kernel kind name
  id_of_kind Function name = refl
  id_of_kind Variable name = refl

  same_id : (kind : ExternKind) (name : List ℕ) → is_one_of names name ≡ true → id_at known kind name ≡ kernel_ids_in kernel kind name
  same_id kind name h =
      ap (option_and_then (id_of kind)) (tells name)
      ∙ ap (λ b. option_and_then (id_of kind) (cond b (Some (ids_in kernel name)) None)) h
      ∙ id_of_kind kind name

  same_lookup_key : (name : List ℕ) (weak : Bool) (o : Option LookupKeyValue) → IsListed names (option_map (λ s. s.name) o) → at_lookup_key local kernel (id_at known) name weak o ≡ at_lookup_key local kernel (kernel_ids_in kernel) name weak o
  unfolding IsListed
  same_lookup_key name weak None h = refl
  same_lookup_key name weak (Some s) h = ap (at_found local kernel weak s) (same_id s.kind s.name h)

  same_type : (name : List ℕ) (weak : Bool) (r : Result BtfType BtfError) → IsListed names (option_map (λ s. s.name) (option_and_then (lookup_key_of name) (result_ok r))) → at_type local kernel (id_at known) name weak r ≡ at_type local kernel (kernel_ids_in kernel) name weak r
  same_type name weak (Err e) h = refl
  same_type name weak (Ok t) h = same_lookup_key name weak (lookup_key_of name t) h

  same_with_type : (e : NamedExtern) → IsListed names (lookup_name local e) → result_with_type (id_at known) local (Some kernel) e ≡ result_with_type (kernel_ids_in kernel) local (Some kernel) e
  same_with_type e h =
      elim (is_typed e.1) as (λ b. IsListed names (cond b (option_map (λ s. s.name) (option_and_then (lookup_key_of e.0) (result_ok (type_at local.types e.1.btf_id)))) None) → cond b (typed_result (outcome_by (id_at known) local (Some kernel) e)) Kept ≡ cond b (typed_result (outcome_by (kernel_ids_in kernel) local (Some kernel) e)) Kept) [
        | true ↦ λ s. ap typed_result (same_type e.0 e.1.is_weak (type_at local.types e.1.btf_id) s)
        | false ↦ λ s. refl
      ] h

  same_result : (untyped : NamedExtern → ExternResult) (e : NamedExtern) → IsListed names (lookup_name local e) → result_by (id_at known) untyped local (Some kernel) e ≡ result_by (kernel_ids_in kernel) untyped local (Some kernel) e
  same_result untyped e h =
      elim (is_typed e.1) as (λ b. IsListed names (cond b (option_map (λ s. s.name) (option_and_then (lookup_key_of e.0) (result_ok (type_at local.types e.1.btf_id)))) None) → cond b (typed_result (outcome_by (id_at known) local (Some kernel) e)) (cond (is_typeless e.1) (untyped e) Kept) ≡ cond b (typed_result (outcome_by (kernel_ids_in kernel) local (Some kernel) e)) (cond (is_typeless e.1) (untyped e) Kept)) [
        | true ↦ λ s. ap typed_result (same_type e.0 e.1.is_weak (type_at local.types e.1.btf_id) s)
        | false ↦ λ s. refl
      ] h

  renewed_alike : (es : List NamedExtern) → AllByRecursion (λ e. IsListed names (lookup_name local e)) es → renewed (typed_as (id_at known) local (Some kernel)) es ≡ renewed (typed_as (kernel_ids_in kernel) local (Some kernel)) es
  renewed_alike [] h = refl
  renewed_alike (e ∷ es) h = λ i. (e.0, with_result e.1 (same_with_type e h.0 i)) ∷ renewed_alike es h.1 i

  refused_alike : (es : List NamedExtern) → AllByRecursion (λ e. IsListed names (lookup_name local e)) es → first_some (typed_refused (id_at known) local (Some kernel)) es ≡ first_some (typed_refused (kernel_ids_in kernel) local (Some kernel)) es
  refused_alike [] h = refl
  refused_alike (e ∷ es) h = λ i. or_else (refusal_of (same_with_type e h.0 i)) (refused_alike es h.1 i)

  outcomes_alike : (untyped : NamedExtern → ExternResult) (es : List NamedExtern) → AllByRecursion (λ e. IsListed names (lookup_name local e)) es → outcomes_with (result_by (id_at known) untyped local (Some kernel)) es ≡ outcomes_with (result_by (kernel_ids_in kernel) untyped local (Some kernel)) es
  outcomes_alike untyped [] h = refl
  outcomes_alike untyped (e ∷ es) h = λ i. record { name = e.0; desc = e.1; result = same_result untyped e h.0 i } ∷ outcomes_alike untyped es h.1 i

-- a table of the names that some externs are looked up by tells enough of them
module _ (local : TypeInfo) (es : List NamedExtern) (known : List ℕ → Option NameIds) where
  pub same_renewed : (kernel : Option TypeInfo) → KnowsIds local kernel es known → renewed (typed_as (id_at known) local kernel) es ≡ renewed (typed_as (kernel_ids_of kernel) local kernel) es
  same_renewed None h = refl
  same_renewed (Some kernel) h = renewed_alike local kernel (lookup_names local es) known h es (all_listed (lookup_name local) es)

  pub same_refused : (kernel : Option TypeInfo) → KnowsIds local kernel es known → first_some (typed_refused (id_at known) local kernel) es ≡ first_some (typed_refused (kernel_ids_of kernel) local kernel) es
  same_refused None h = refl
  same_refused (Some kernel) h = refused_alike local kernel (lookup_names local es) known h es (all_listed (lookup_name local) es)

  pub same_outcomes : (untyped : NamedExtern → ExternResult) (kernel : Option TypeInfo) → KnowsIds local kernel es known → outcomes_with (result_by (id_at known) untyped local kernel) es ≡ outcomes_with (result_by (kernel_ids_of kernel) untyped local kernel) es
  same_outcomes untyped None h = refl
  same_outcomes untyped (Some kernel) h = outcomes_alike local kernel (lookup_names local es) known h untyped es (all_listed (lookup_name local) es)
