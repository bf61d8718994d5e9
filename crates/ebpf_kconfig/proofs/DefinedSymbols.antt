-- The map that the configuration gives, its symbols, and the object that has them.
use Rattle.std.proofs.Common.{◌≡◌, ℕ, Bool, true, false, ◌||◌, cond, List, [], ◌∷◌, Option, Some, None, refl, sym, ap, ◌∙◌, ◌+◌, ◌-◌, ◌<◌, ◌≤◌, ◌++◌, length, subst, arith, length-append}
use Rattle.std.specs.Prelude.{fold, option_map, is_some, replicate, unwrap_or, ◌==◌}
use Rattle.std.specs.Cmp.{nat_cmp_total, IsTotalOrder}
use Rattle.std.specs.FinMap.{FinMap, get, entries, insert, get-insert, contains_key-keys, nat_cmp-IsAntisymmetric, empty, put, find, entries-insert, get-entries}
use Rattle.std.specs.List.{list_any, AllByRecursion, flat_map}
use Rattle.std.specs.Map.{keys_of}
use Rattle.std.specs.Option.{option_and_then, option_to_list}
use Rattle.std.specs.Ordering.{nat_cmp, eq_by_cmp}
use Rattle.std.specs.declared.cmp.Ordering.{Ordering}
use Rattle.std.specs.declared.cmp.Ordering.TheVariants.{Less, Equal, Greater}
use Rattle.std.specs.FinMap.Entries.{by_order}
use Rattle.std.proofs.lemmas.Bool.{eqb-true}
use Rattle.std.proofs.lemmas.List.{length-replicate}
use Rattle.ebpf_base.proofs.Faults.{both_None}
use Rattle.ebpf_base.proofs.Mapped.{map_values-from_get}
use Rattle.ebpf_base.proofs.Maps.{entries-empty, is_equal}
use Rattle.ebpf_base.specs.Faults.{first_some}
use Rattle.ebpf_base.specs.Maps.{text_cmp, key_cmp, key_total, text_total, map_values}
use Rattle.ebpf_kconfig.specs.KconfigMaps.{ExternsByName, KconfigValues, alignment_of, bytes_from, extern_end, extern_groups, extern_offset, extern_size, given_fault, group_externs, laid_out, layout_end, layout_key, rounded_up, value_fault, value_or_zeros, values_fault, with_extern, defined_at, defined_symbol, defined_in, with_defined, passes_made, PreparedIsFinished, DataIsValueSized}
use Rattle.ebpf_kconfig.specs.KconfigExterns.{kconfig_alignment}
use Rattle.ebpf_kconfig.specs.declared.externs.KconfigExtern.{KconfigExtern}
use Rattle.ebpf_kconfig.specs.declared.kconfig_type.KconfigType.{KconfigType}
use Rattle.ebpf_kconfig.specs.declared.kconfig_type.KconfigType.TheVariants as kconfig_types
use Rattle.ebpf_ksyms.specs.Sources.{Source}
use Rattle.ebpf_model.specs.Symbols.{is_extern}
use Rattle.ebpf_model.specs.declared.symbol.Symbol.{Symbol}
use Rattle.ebpf_object.proofs.Headline.{passes_finish, fds_written_by, resolved_by, externs_if_by, linked_by}
use Rattle.ebpf_object.specs.Chain.{Chain}
use Rattle.ebpf_object.specs.Prepared.{Stages}
use Rattle.ebpf_object.specs.Stages.{fds_written, Chosen}
use Rattle.ebpf_object.specs.declared.object.Object.{Object}

-- ---- symbols that are made to stand in the map one by one are all symbols made anew

module _ (offsets : FinMap text_cmp ℕ) where
  abbrev made : Symbol → Symbol
  made = defined_symbol offsets

  -- a symbol that stands in the map is no extern any more
  made_once : (s : Symbol) → made (made s) ≡ made s
  made_once s = by_test (is_extern s) refl (option_and_then (get offsets) s.name) refl
    where
      by_test : (b : Bool) → is_extern s ≡ b → (o : Option ℕ) → option_and_then (get offsets) s.name ≡ o → made (made s) ≡ made s
      by_test false e o f = let same : made s ≡ s = rw e refl in ap made same
      by_test true e None f = let same : made s ≡ s = rw (e, f) refl in ap made same
      by_test true e (Some offset) f = let is : made s ≡ defined_at s (Some offset) = rw (e, f) refl in rw is refl

  made_twice : (o : Option Symbol) → option_map made (option_map made o) ≡ option_map made o
  made_twice None = refl
  made_twice (Some s) = ap Some (made_once s)

  -- one more index
  get-with_defined : (m : FinMap nat_cmp Symbol) (k q : ℕ) → get (with_defined offsets m k) q ≡ cond (eq_by_cmp nat_cmp q k) (option_map made (get m q)) (get m q)
  get-with_defined m k q = by_found (get m k) refl
    where
      by_found : (o : Option Symbol) → get m k ≡ o → get (defined_in offsets m k o) q ≡ cond (eq_by_cmp nat_cmp q k) (option_map made (get m q)) (get m q)
      by_found None e = at_key (eq_by_cmp nat_cmp q k) refl
        where
          at_key : (b : Bool) → eq_by_cmp nat_cmp q k ≡ b → get m q ≡ cond b (option_map made (get m q)) (get m q)
          at_key false h = refl
          at_key true h =
              let is : get m q ≡ None = ap (get m) (nat_cmp-IsAntisymmetric q k (is_equal _ h)) ∙ e in
              rw is refl
      by_found (Some s) e = get-insert nat_cmp_total m k (made s) q ∙ at_key (eq_by_cmp nat_cmp q k) refl
        where
          at_key : (b : Bool) → eq_by_cmp nat_cmp q k ≡ b → cond b (Some (made s)) (get m q) ≡ cond b (option_map made (get m q)) (get m q)
          at_key false h = refl
          at_key true h =
              let is : get m q ≡ Some s = ap (get m) (nat_cmp-IsAntisymmetric q k (is_equal _ h)) ∙ e in
              rw is refl

  -- the symbols of some indices
  get-all : (ks : List ℕ) (m : FinMap nat_cmp Symbol) (q : ℕ) → get (fold (with_defined offsets) m ks) q ≡ cond (list_any (eq_by_cmp nat_cmp q) ks) (option_map made (get m q)) (get m q)
  get-all [] m q = refl
  get-all (k ∷ ks) m q =
      get-all ks (with_defined offsets m k) q
      ∙ ap (λ o. cond (list_any (eq_by_cmp nat_cmp q) ks) (option_map made o) o) (get-with_defined m k q)
      ∙ join (eq_by_cmp nat_cmp q k) (list_any (eq_by_cmp nat_cmp q) ks)
    where
      join : (b c : Bool) → cond c (option_map made (cond b (option_map made (get m q)) (get m q))) (cond b (option_map made (get m q)) (get m q)) ≡ cond (b || c) (option_map made (get m q)) (get m q)
      join true true = made_twice (get m q)
      join true false = refl
      join false true = refl
      join false false = refl

  -- the symbols of all
  get-all_keys : (m : FinMap nat_cmp Symbol) (q : ℕ) → get (fold (with_defined offsets) m (keys_of (entries m))) q ≡ option_map made (get m q)
  get-all_keys m q =
      get-all (keys_of (entries m)) m q
      ∙ ap (λ b. cond b (option_map made (get m q)) (get m q)) (sym (contains_key-keys m q))
      ∙ by_found (get m q)
    where
      by_found : (o : Option Symbol) → cond (is_some o) (option_map made o) o ≡ option_map made o
      by_found None = refl
      by_found (Some s) = refl

pub all_defined : (offsets : FinMap text_cmp ℕ) (m : FinMap nat_cmp Symbol) (ks : List ℕ) → ks ≡ keys_of (entries m)
    → fold (with_defined offsets) m ks ≡ map_values (defined_symbol offsets) m
all_defined offsets m ks is =
    ap (fold (with_defined offsets) m) is
    ∙ map_values-from_get (defined_symbol offsets) nat_cmp_total nat_cmp-IsAntisymmetric m _ (get-all_keys offsets m)

-- ---- what all stages leave of an object is finished

module _ (steps : Chosen) (lines : Source) (o after : Object) (s : Stages steps lines o after) where
  chain : Chain (passes_made s) o after
  chain = record {
    relocated = s.relocated;
    fds_written = s.fds_written;
    resolved = s.resolved;
    unlinked = s.unlinked;
    types = s.types;
    maps = fds_written_by steps.descriptors s.relocated s.fds_written s.maps;
    resolution = resolved_by steps.kernel lines s.fds_written s.resolved s.resolution;
    externs = externs_if_by steps.externs s.resolved s.unlinked s.externs;
    calls = linked_by steps.calls s.unlinked after s.calls;
  }

pub prepared_is_finished : PreparedIsFinished
prepared_is_finished steps lines o after s = passes_finish (passes_made s) o after (chain steps lines o after s)

-- ---- the data of the map is as long as its value: each value is as long as its extern, also in the order of the layout

-- ---- what holds of each value of a map

abbrev AllValues : {K X : Type 0} → (X → Type 0) → List (K × X) → Type 0
AllValues P es = AllByRecursion (λ e. P e.1) es

module _ {K X : Type 0} (R : K → K → Ordering) (P : X → Type 0) where
  all-put : (k : K) (v : X) (es : List (K × X)) → P v → AllValues P es → AllValues P (put R k v es)
  all-put k v [] p h = (p, tt)
  all-put k v (e ∷ es) p h =
      elim (R k e.0) as (λ r. AllValues P (by_order r ((k, v) ∷ e ∷ es) ((e.0, v) ∷ es) (e ∷ put R k v es))) [
        | Less ↦ (p, h)
        | Equal ↦ (p, h.1)
        | Greater ↦ (h.0, all-put k v es p h.1)
      ]

  all-insert : IsTotalOrder R → (m : FinMap R X) (k : K) (v : X) → P v → AllValues P (entries m) → AllValues P (entries (insert m k v))
  all-insert o m k v p h = rw (entries-insert o m k v) (all-put k v (entries m) p h)

  all-find : (q : K) (v : X) (es : List (K × X)) → AllValues P es → find R q es ≡ Some v → P v
  all-find q v [] h found = cc
  all-find q v (e ∷ es) h found = by_key (eq_by_cmp R q e.0) found h.0 (all-find q v es h.1)
    where
      by_key : (b : Bool) → cond b (Some e.1) (find R q es) ≡ Some v → P e.1 → (find R q es ≡ Some v → P v) → P v
      by_key true is here later = let same : e.1 ≡ v = cc in subst P same here
      by_key false is here later = later is

  all-get : (m : FinMap R X) (q : K) (v : X) → AllValues P (entries m) → get m q ≡ Some v → P v
  all-get m q v h found = all-find q v (entries m) h (sym (get-entries m q) ∙ found)

all-append : {X : Type 0} (P : X → Type 0) (xs ys : List X) → AllByRecursion P xs → AllByRecursion P ys → AllByRecursion P (xs ++ ys)
all-append P [] ys h g = g
all-append P (x ∷ xs) ys h g = (h.0, all-append P xs ys h.1 g)

-- ---- what holds of each extern holds of each in the order of the layout

module _ (P : KconfigExtern → Type 0) where
  abbrev AllNamed : ExternsByName → Type 0
  AllNamed group = AllValues P (entries group)

  of_group : (group : ExternsByName) (names : List (List ℕ)) → AllNamed group → AllByRecursion P (flat_map (λ name. option_to_list (get group name)) names)
  of_group group [] h = tt
  of_group group (name ∷ names) h = by_found (get group name) refl (of_group group names h)
    where
      by_found : (o : Option KconfigExtern) → get group name ≡ o → AllByRecursion P (flat_map (λ name. option_to_list (get group name)) names)
          → AllByRecursion P (option_to_list o ++ flat_map (λ name. option_to_list (get group name)) names)
      by_found None e rest = rest
      by_found (Some x) e rest = (all-get text_cmp P group name x h e, rest)

  abbrev AllGrouped : FinMap key_cmp ExternsByName → Type 0
  AllGrouped groups = AllValues AllNamed (entries groups)

  none_named : AllNamed empty
  none_named = rw (entries-empty text_cmp KconfigExtern) tt

  more_grouped : (groups : FinMap key_cmp ExternsByName) (e : KconfigExtern) → P e → AllGrouped groups → AllGrouped (with_extern groups e)
  more_grouped groups e p h =
      all-insert key_cmp AllNamed key_total groups (layout_key e) _ (all-insert text_cmp P text_total _ e.name e p (by_found (get groups (layout_key e)) refl)) h
    where
      by_found : (o : Option ExternsByName) → get groups (layout_key e) ≡ o → AllNamed (unwrap_or o empty)
      by_found None is = none_named
      by_found (Some group) is = all-get key_cmp AllNamed groups (layout_key e) group h is

  all_grouped : (externs : List KconfigExtern) (groups : FinMap key_cmp ExternsByName) → AllByRecursion P externs → AllGrouped groups → AllGrouped (fold with_extern groups externs)
  all_grouped [] groups h g = g
  all_grouped (e ∷ es) groups h g = all_grouped es (with_extern groups e) h.1 (more_grouped groups e h.0 g)

  in_order : (es : List ((ℕ × ℕ) × ExternsByName)) → AllValues AllNamed es → AllByRecursion P (flat_map (λ group. group_externs group.1) es)
  in_order [] h = tt
  in_order (e ∷ es) h = all-append P (group_externs e.1) _ (of_group e.1 (keys_of (entries e.1)) h.0) (in_order es h.1)

  none_grouped : AllGrouped empty
  none_grouped = rw (entries-empty key_cmp ExternsByName) tt

  all_laid_out : (externs : List KconfigExtern) → AllByRecursion P externs → AllByRecursion P (laid_out externs)
  all_laid_out externs h = in_order (entries (extern_groups externs)) (all_grouped externs empty h none_grouped)

-- ---- sizes

module _ (values : KconfigValues) where
  abbrev HasItsSize : KconfigExtern → Type 0
  HasItsSize e = length (value_or_zeros values e) ≡ extern_size e

  has_its_size : (e : KconfigExtern) → value_fault values e ≡ None → HasItsSize e
  has_its_size e none = by_given (get values e.name) none
    where
      by_given : (o : Option (List ℕ)) → given_fault e o ≡ None → length (unwrap_or o (replicate (extern_size e) 0)) ≡ extern_size e
      by_given None h = length-replicate (extern_size e) 0
      by_given (Some bytes) h = by_test (length bytes == extern_size e) refl
        where
          by_test : (b : Bool) → (length bytes == extern_size e) ≡ b → length bytes ≡ extern_size e
          by_test true is = eqb-true _ _ is
          by_test false is = let never = rw is at h in cc

  have_their_sizes : (externs : List KconfigExtern) → first_some (value_fault values) externs ≡ None → AllByRecursion HasItsSize externs
  have_their_sizes [] none = tt
  have_their_sizes (e ∷ es) none =
      let both = both_None (value_fault values e) (first_some (value_fault values) es) none in
      (has_its_size e both.0, have_their_sizes es both.1)

  is_positive : (kind : KconfigType) → 0 < kconfig_alignment kind
  is_positive kconfig_types.Bool = omega arith
  is_positive (kconfig_types.Tristate size) = omega arith
  is_positive (kconfig_types.Char signed) = omega arith
  is_positive (kconfig_types.Integer size signed) = omega arith
  is_positive (kconfig_types.CharArray len) = omega arith

  rounds_up : (offset alignment : ℕ) → 0 < alignment → offset ≤ rounded_up offset alignment
  rounds_up offset alignment positive = grind arith

  end_of_bytes : (end : ℕ) (es : List KconfigExtern) → AllByRecursion HasItsSize es → length (bytes_from values end es) + end ≡ layout_end end es
  end_of_bytes end [] h = omega arith
  end_of_bytes end (e ∷ es) h =
      let rest = end_of_bytes (extern_end end e) es h.1 in
      let behind : end ≤ extern_offset end e = rounds_up end (alignment_of e) (is_positive e.kind) in
      sized (extern_offset end e) (value_or_zeros values e) (bytes_from values (extern_end end e) es) (extern_size e) (layout_end (extern_end end e) es) behind h.0 rest
    where
      sized : (offset : ℕ) (value others : List ℕ) (size last : ℕ) → end ≤ offset → length value ≡ size → length others + (offset + size) ≡ last
          → length (replicate (offset - end) 0 ++ (value ++ others)) + end ≡ last
      sized offset value others size last behind is rest =
          simp (length-append, length-replicate) (omega arith)

pub data_sized : DataIsValueSized
unfolding values_fault
data_sized values externs none =
    let both = both_None (first_some (value_fault values) externs) _ none in
    let all = all_laid_out (HasItsSize values) externs (have_their_sizes values externs both.0) in
    let sized = end_of_bytes values 0 (laid_out externs) all in
    omega arith
