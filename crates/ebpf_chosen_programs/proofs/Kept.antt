-- Sets of keys, and maps of which some entries are kept.
use Rattle.std.proofs.Common.{◌≡◌, Bool, true, false, cond, List, [], ◌∷◌, map, Option, Some, None, refl, sym, ap, ◌∙◌, T}
use Rattle.std.specs.Prelude.{◌||◌, is_some}
use Rattle.std.specs.Cmp.{IsTotalOrder}
use Rattle.std.specs.declared.cmp.Ordering.{Ordering}
use Rattle.std.specs.FinMap.{FinMap, IsAntisymmetric, get, insert, empty, entries, entries_sorted, contains_key, from_sorted, entries-from_sorted, get-entries, get-from_sorted, get-retain_keys, get-insert, get-empty, retain_keys, same_map}
use Rattle.std.specs.FinMap.Entries.{find-where_key, is_sorted-where_key, where_key}
use Rattle.std.specs.List.{filter, list_any}
use Rattle.std.specs.Ordering.{eq_by_cmp}
use Rattle.ebpf_base.proofs.Mapped.{put_all-map_values, map_values-identity}
use Rattle.ebpf_base.specs.Maps.{put_all, mapped_entries}
use Rattle.ebpf_chosen_programs.specs.PrivateContracts.{member}

module _ {K X : Type 0} {R : K → K → Ordering} (o : IsTotalOrder R) (exact : IsAntisymmetric R) where
  each_same : (es : List (K × X)) → mapped_entries (λ v. v) es ≡ es
  each_same [] = refl
  each_same (e ∷ es) = ap (λ l. e ∷ l) (each_same es)

  -- the entries of a map, put into a map again
  pub put_back : (m : FinMap R X) → put_all empty (entries m) ≡ m
  put_back m = ap (put_all empty) (sym (each_same (entries m))) ∙ put_all-map_values o exact (λ v. v) m ∙ map_values-identity m

  -- those whose keys pass a test
  pub kept : (m : FinMap R X) (p : K → Bool) → put_all empty (filter (λ e. p e.0) (entries m)) ≡ retain_keys m p
  kept m p =
      let es : List (K × X) = where_key R p (entries m) in
      let up : T _ = is_sorted-where_key R p (entries m) (entries_sorted m) in
      ap (put_all empty) (sym (entries-from_sorted R es up))
      ∙ put_back (from_sorted es)
      ∙ same_map o exact _ _ (λ q.
      get-from_sorted R es q up
      ∙ find-where_key R p q (λ x t. ap p (sym (exact q x t))) (entries m)
      ∙ ap (λ x. cond (p q) x None) (sym (get-entries m q))
      ∙ sym (get-retain_keys m p q (λ x t. ap p (sym (exact q x t)))))

  -- the value of a key among the entries that are kept
  pub get_kept : (m : FinMap R X) (p : K → Bool) (q : K) → get (retain_keys m p) q ≡ cond (p q) (get m q) None
  get_kept m p q = get-retain_keys m p q (λ x t. ap p (sym (exact q x t)))

module _ {K : Type 0} {R : K → K → Ordering} (o : IsTotalOrder R) where
  with_one : (b any : Bool) (x : Option (Unit {0})) → (any || is_some (cond b (Some tt) x)) ≡ ((b || any) || is_some x)
  with_one true true x = refl
  with_one true false x = refl
  with_one false any x = refl

  -- a set has the keys that are put into it
  pub has_members : (m : FinMap R (Unit {0})) (ks : List K) (q : K) → contains_key (put_all m (map member ks)) q ≡ (list_any (eq_by_cmp R q) ks || contains_key m q)
  has_members m [] q = refl
  has_members m (k ∷ ks) q =
      has_members (insert m k tt) ks q
      ∙ ap (λ x. list_any (eq_by_cmp R q) ks || is_some x) (get-insert o m k tt q)
      ∙ with_one (eq_by_cmp R q k) (list_any (eq_by_cmp R q) ks) (get m q)

  none_more : (b : Bool) (x : Option (Unit {0})) → x ≡ None → (b || is_some x) ≡ b
  none_more true x e = refl
  none_more false x e = ap is_some e

  pub has_only_members : (ks : List K) (q : K) → contains_key (put_all {R = R} empty (map member ks)) q ≡ list_any (eq_by_cmp R q) ks
  has_only_members ks q = has_members empty ks q ∙ none_more (list_any (eq_by_cmp R q) ks) (get empty q) (get-empty R q)
