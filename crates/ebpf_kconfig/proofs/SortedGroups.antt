-- A map of maps, into which elements are put one by one, lists them as they are put into one list that stays in order.
use Rattle.std.proofs.Common.{◌≡◌, Bool, true, false, cond, List, [], ◌∷◌, ◌++◌, map, Option, Some, None, refl, ap, sym, subst, ◌∙◌, T, append-nil}
use Rattle.std.specs.Prelude.{unwrap_or, ◌&&◌, fold, ⊤}
use Rattle.std.specs.Cmp.{IsTotalOrder}
use Rattle.std.proofs.lemmas.Cmp.{tied_itself}
use Rattle.std.specs.FinMap.{FinMap, IsAntisymmetric, empty, entries, entries-insert, entries_sorted, find, get, get-entries, insert, is_sorted, put}
use Rattle.std.specs.FinMap.Entries.{below_all, by_order}
use Rattle.std.specs.List.{AllByRecursion, flat_map}
use Rattle.std.specs.Ordering.{eq_by_cmp, is_eq, is_lt}
use Rattle.std.specs.declared.cmp.Ordering.{Ordering}
use Rattle.std.specs.declared.cmp.Ordering.TheVariants.{Less, Equal, Greater}

first : (a b : Bool) → T (a && b) → T a
first true b p = tt
first false b p = p

second : (a b : Bool) → T (a && b) → T b
second true b p = p
second false b p = absurd p

is_less : (r : Ordering) → T (is_lt r) → r ≡ Less
is_less Less p = refl
is_less Equal p = absurd p
is_less Greater p = absurd p

is_equal : (r : Ordering) → is_eq r ≡ true → r ≡ Equal
is_equal Less p = absurd (cc)
is_equal Equal p = refl
is_equal Greater p = absurd (cc)

both : (a b : Bool) → T a → T b → T (a && b)
both true b p q = q
both false b p q = p

less_is : (r : Ordering) → r ≡ Less → T (is_lt r)
less_is r is = subst (λ x. T (is_lt x)) (sym is) tt

all_left : {X : Type 0} (P : X → Type 0) (xs ys : List X) → AllByRecursion P (xs ++ ys) → AllByRecursion P xs
all_left P [] ys h = tt
all_left P (x ∷ xs) ys h = (h.0, all_left P xs ys h.1)

all_right : {X : Type 0} (P : X → Type 0) (xs ys : List X) → AllByRecursion P (xs ++ ys) → AllByRecursion P ys
all_right P [] ys h = h
all_right P (x ∷ xs) ys h = all_right P xs ys h.1

some_or_none : {X : Type 0} (x : X) → Some x ≡ None → ⊥
some_or_none x e = cc

all_append : {X : Type 0} (P : X → Type 0) (xs ys : List X) → AllByRecursion P xs → AllByRecursion P ys → AllByRecursion P (xs ++ ys)
all_append P [] ys h g = g
all_append P (x ∷ xs) ys h g = (h.0, all_append P xs ys h.1 g)

module _ {E K N : Type 0} (R : K → K → Ordering) (S : N → N → Ordering) (o : IsTotalOrder R) (key : E → K) (name : E → N) where
  abbrev pub by_name : E → E → Ordering → Bool
  by_name e x Less = true
  by_name e x Equal = is_lt (S (name e) (name x))
  by_name e x Greater = false

  abbrev pub before : E → E → Bool
  before e x = by_name e x (R (key e) (key x))

  abbrev pub ins : E → List E → List E
  ins e [] = e ∷ []
  ins e (x ∷ xs) = cond (before e x) (e ∷ x ∷ xs) (x ∷ ins e xs)

  abbrev pub values : List (N × E) → List E
  values es = map (λ p. p.1) es

  abbrev pub IsGroup : K → List (N × E) → Type 0
  IsGroup k es = AllByRecursion (λ p. (name p.1 ≡ p.0) × (key p.1 ≡ k)) es

  AllAfter : E → List E → Type 0
  AllAfter e xs = AllByRecursion (λ x. before e x ≡ true) xs

  AllUpTo : E → List E → Type 0
  AllUpTo e xs = AllByRecursion (λ x. before e x ≡ false) xs

  -- ---- keys

  below_less : {V : Type 0} (x y : K) (es : List (K × V)) → R x y ≡ Less → T (below_all R y es) → T (below_all R x es)
  below_less x y [] less below = tt
  below_less x y (e ∷ es) less below =
      both _ _ (less_is (R x e.0) (o.trans x y e.0 less (is_less (R y e.0) (first _ _ below)))) (below_less x y es less (second _ _ below))

  below_equal : {V : Type 0} (x y : K) (es : List (K × V)) → R x y ≡ Equal → T (below_all R y es) → T (below_all R x es)
  below_equal x y [] equal below = tt
  below_equal x y (e ∷ es) equal below =
      both _ _ (less_is (R x e.0) (o.congr x y e.0 equal ∙ is_less (R y e.0) (first _ _ below))) (below_equal x y es equal (second _ _ below))

  -- ---- one list in order

  ins_front : (e : E) (xs : List E) → AllAfter e xs → ins e xs ≡ e ∷ xs
  unfolding AllAfter
  ins_front e [] all = refl
  ins_front e (x ∷ xs) all = ap (λ b. cond b (e ∷ x ∷ xs) (x ∷ ins e xs)) all.0

  ins_behind : (e : E) (xs ys : List E) → AllUpTo e xs → ins e (xs ++ ys) ≡ xs ++ ins e ys
  unfolding AllUpTo
  ins_behind e [] ys all = refl
  ins_behind e (x ∷ xs) ys all = ap (λ b. cond b (e ∷ x ∷ (xs ++ ys)) (x ∷ ins e (xs ++ ys))) all.0 ∙ ap (λ l. x ∷ l) (ins_behind e xs ys all.1)

  within_test : (e x : E) (xs ys : List E) (b : Bool) → ins e (xs ++ ys) ≡ ins e xs ++ ys → cond b (e ∷ x ∷ (xs ++ ys)) (x ∷ ins e (xs ++ ys)) ≡ cond b (e ∷ x ∷ xs) (x ∷ ins e xs) ++ ys
  within_test e x xs ys true rest = refl
  within_test e x xs ys false rest = ap (λ l. x ∷ l) rest

  ins_within : (e : E) (xs ys : List E) → AllAfter e ys → ins e (xs ++ ys) ≡ ins e xs ++ ys
  ins_within e [] ys all = ins_front e ys all
  ins_within e (x ∷ xs) ys all = within_test e x xs ys (before e x) (ins_within e xs ys all)

  -- ---- a group

  same_key : (e x : E) (k : K) → key x ≡ k → R (key e) k ≡ Equal → before e x ≡ is_lt (S (name e) (name x))
  same_key e x k is tied = ap (by_name e x) (ap (R (key e)) is ∙ tied)

  at_name : (e : E) (p : N × E) (r : Ordering) → (name p.1 ≡ p.0) × (key p.1 ≡ key e) → S (name e) p.0 ≡ r → before e p.1 ≡ is_lt r
  at_name e p r in_group is =
      same_key e p.1 (key e) in_group.1 (tied_itself o (key e)) ∙ ap (λ n. is_lt (S (name e) n)) in_group.0 ∙ ap is_lt is

  group_test : (e : E) (p : N × E) (es : List (N × E)) (r : Ordering) → S (name e) p.0 ≡ r → (name p.1 ≡ p.0) × (key p.1 ≡ key e)
      → cond (is_eq r) (Some p.1) (find S (name e) es) ≡ None
      → (find S (name e) es ≡ None → values (put S (name e) e es) ≡ ins e (values es))
      → values (by_order r ((name e, e) ∷ p ∷ es) ((p.0, e) ∷ es) (p ∷ put S (name e) e es)) ≡ ins e (p.1 ∷ values es)
  group_test e p es Less is in_group none rest = sym (ap (λ b. cond b (e ∷ p.1 ∷ values es) (p.1 ∷ ins e (values es))) (at_name e p Less in_group is))
  group_test e p es Equal is in_group none rest = absurd (some_or_none p.1 none)
  group_test e p es Greater is in_group none rest =
      ap (λ l. p.1 ∷ l) (rest none) ∙ sym (ap (λ b. cond b (e ∷ p.1 ∷ values es) (p.1 ∷ ins e (values es))) (at_name e p Greater in_group is))

  group_put : (e : E) (es : List (N × E)) → IsGroup (key e) es → find S (name e) es ≡ None → values (put S (name e) e es) ≡ ins e (values es)
  group_put e [] all none = refl
  group_put e (p ∷ es) all none = group_test e p es (S (name e) p.0) refl all.0 none (group_put e es all.1)

  nothing_in : (k : K) → IsGroup k []
  nothing_in k = tt

  group_after : (e : E) (k : K) (es : List (N × E)) → R (key e) k ≡ Less → IsGroup k es → AllAfter e (values es)
  unfolding AllAfter
  group_after e k [] less all = tt
  group_after e k (p ∷ es) less all = (ap (by_name e p.1) (ap (R (key e)) all.0.1 ∙ less), group_after e k es less all.1)

  group_up_to : (e : E) (k : K) (es : List (N × E)) → R (key e) k ≡ Greater → IsGroup k es → AllUpTo e (values es)
  unfolding AllUpTo
  group_up_to e k [] greater all = tt
  group_up_to e k (p ∷ es) greater all = (ap (by_name e p.1) (ap (R (key e)) all.0.1 ∙ greater), group_up_to e k es greater all.1)

  -- ---- groups in the order of their keys

  abbrev pub flat : List (K × FinMap S E) → List E
  flat gs = flat_map (λ g. values (entries g.1)) gs

  abbrev pub AreGroups : List (K × FinMap S E) → Type 0
  AreGroups gs = AllByRecursion (λ g. IsGroup g.0 (entries g.1)) gs

  groups_after : (e : E) (gs : List (K × FinMap S E)) → T (below_all R (key e) gs) → AreGroups gs → AllAfter e (flat gs)
  unfolding AllAfter
  groups_after e [] below all = tt
  groups_after e (g ∷ gs) below all =
      all_append (λ x. before e x ≡ true) (values (entries g.1)) (flat gs)
      (group_after e g.0 (entries g.1) (is_less (R (key e) g.0) (first _ _ below)) all.0)
      (groups_after e gs (second _ _ below) all.1)

  no_group : (k : K) (gs : List (K × FinMap S E)) → T (below_all R k gs) → find R k gs ≡ None
  no_group k [] below = refl
  no_group k (g ∷ gs) below =
      ap (λ (r : Ordering). cond (is_eq r) (Some g.1) (find R k gs)) (is_less (R k g.0) (first _ _ below)) ∙ no_group k gs (second _ _ below)

  -- ---- one element more

  abbrev pub no_elements : FinMap S E
  no_elements = empty

  module _ (os : IsTotalOrder S) (same_key_is : IsAntisymmetric R) (no_entries : entries no_elements ≡ []) where
    with_element : E → Option (FinMap S E) → FinMap S E
    with_element e group = insert (unwrap_or group no_elements) (name e) e

    one_group : (e : E) (found : Option (FinMap S E)) → found ≡ None → values (entries (with_element e found)) ≡ e ∷ []
    unfolding with_element
    one_group e found none =
        ap (λ (g : Option (FinMap S E)). map (λ (p : N × E). p.1) (entries (insert (unwrap_or g no_elements) (name e) e))) none
        ∙ ap (map (λ (p : N × E). p.1)) (entries-insert os no_elements (name e) e ∙ ap (put S (name e) e) no_entries)

    more_group : (e : E) (group : FinMap S E) → IsGroup (key e) (entries group) → find S (name e) (entries group) ≡ None
        → values (entries (with_element e (Some group))) ≡ ins e (values (entries group))
    unfolding with_element
    more_group e group are none = ap values (entries-insert os group (name e) e) ∙ group_put e (entries group) are none

    Free : E → Option (FinMap S E) → Type 0
    Free e found = find S (name e) (entries (unwrap_or found no_elements)) ≡ None

    flat_test : (e : E) (g : K × FinMap S E) (gs : List (K × FinMap S E)) (r : Ordering) → R (key e) g.0 ≡ r
        → T (below_all R g.0 gs) → IsGroup g.0 (entries g.1) → AreGroups gs
        → Free e (cond (is_eq r) (Some g.1) (find R (key e) gs))
        → (Free e (find R (key e) gs) → flat (put R (key e) (with_element e (find R (key e) gs)) gs) ≡ ins e (flat gs))
        → flat (by_order r ((key e, with_element e (cond (is_eq r) (Some g.1) (find R (key e) gs))) ∷ g ∷ gs) ((g.0, with_element e (cond (is_eq r) (Some g.1) (find R (key e) gs))) ∷ gs)
        (g ∷ put R (key e) (with_element e (cond (is_eq r) (Some g.1) (find R (key e) gs))) gs))
        ≡ ins e (values (entries g.1) ++ flat gs)
    unfolding Free
    flat_test e g gs Less is below in_group all free rest =
        let all_below : T (below_all R (key e) (g ∷ gs)) = both _ _ (less_is (R (key e) g.0) is) (below_less (key e) g.0 gs is below) in
        ap (λ l. l ++ (values (entries g.1) ++ flat gs)) (one_group e (find R (key e) gs) (no_group (key e) gs (second _ _ all_below)))
        ∙ sym (ins_front e (flat (g ∷ gs)) (groups_after e (g ∷ gs) all_below (in_group, all)))
    flat_test e g gs Equal is below in_group all free rest =
        let same : key e ≡ g.0 = same_key_is (key e) g.0 is in
        ap (λ l. l ++ flat gs) (more_group e g.1 (subst (λ k. IsGroup k (entries g.1)) (sym same) in_group) free)
        ∙ sym (ins_within e (values (entries g.1)) (flat gs) (groups_after e gs (below_equal (key e) g.0 gs is below) all))
    flat_test e g gs Greater is below in_group all free rest =
        ap (λ l. values (entries g.1) ++ l) (rest free) ∙ sym (ins_behind e (values (entries g.1)) (flat gs) (group_up_to e g.0 (entries g.1) is in_group))

    flat_put : (e : E) (gs : List (K × FinMap S E)) → T (is_sorted R gs) → AreGroups gs → Free e (find R (key e) gs)
        → flat (put R (key e) (with_element e (find R (key e) gs)) gs) ≡ ins e (flat gs)
    flat_put e [] sorted all free = append-nil (values (entries (with_element e None))) ∙ one_group e None refl
    flat_put e (g ∷ gs) sorted all free =
        flat_test e g gs (R (key e) g.0) refl (first _ _ sorted) all.0 all.1 free (flat_put e gs (second _ _ sorted) all.1)

    -- ---- what holds of the groups with one element more

    group_one_more : (e : E) (k : K) (p : N × E) (es : List (N × E)) (r : Ordering) → key e ≡ k → ((x y : N) → S x y ≡ Equal → x ≡ y) → S (name e) p.0 ≡ r
        → IsGroup k (p ∷ es) → IsGroup k (put S (name e) e es) → IsGroup k (by_order r ((name e, e) ∷ p ∷ es) ((p.0, e) ∷ es) (p ∷ put S (name e) e es))
    group_one_more e k p es Less is same at all rest = ((refl, is), all)
    group_one_more e k p es Equal is same at all rest = ((same (name e) p.0 at, is), all.1)
    group_one_more e k p es Greater is same at all rest = (all.0, rest)

    put_in_group : (e : E) (k : K) (es : List (N × E)) → key e ≡ k → ((x y : N) → S x y ≡ Equal → x ≡ y) → IsGroup k es → IsGroup k (put S (name e) e es)
    put_in_group e k [] is same all = ((refl, is), tt)
    put_in_group e k (p ∷ es) is same all = group_one_more e k p es (S (name e) p.0) is same refl all (put_in_group e k es is same all.1)

    -- the group that an element is put into
    found_test : (e : E) (g : K × FinMap S E) (found : Option (FinMap S E)) (r : Ordering) → R (key e) g.0 ≡ r → IsGroup g.0 (entries g.1)
        → IsGroup (key e) (entries (unwrap_or found no_elements)) → IsGroup (key e) (entries (unwrap_or (cond (is_eq r) (Some g.1) found) no_elements))
    found_test e g found Less at here rest = rest
    found_test e g found Equal at here rest = subst (λ k. IsGroup k (entries g.1)) (sym (same_key_is (key e) g.0 at)) here
    found_test e g found Greater at here rest = rest

    found_group : (e : E) (gs : List (K × FinMap S E)) → AreGroups gs → IsGroup (key e) (entries (unwrap_or (find R (key e) gs) no_elements))
    found_group e [] all = subst (λ (es : List (N × E)). IsGroup (key e) es) (sym no_entries) (nothing_in (key e))
    found_group e (g ∷ gs) all = found_test e g (find R (key e) gs) (R (key e) g.0) refl all.0 (found_group e gs all.1)

    new_group : (same : (x y : N) → S x y ≡ Equal → x ≡ y) (e : E) (gs : List (K × FinMap S E)) → AreGroups gs → IsGroup (key e) (entries (with_element e (find R (key e) gs)))
    unfolding with_element
    new_group same e gs all =
        subst (IsGroup (key e)) (sym (entries-insert os (unwrap_or (find R (key e) gs) no_elements) (name e) e))
        (put_in_group e (key e) (entries (unwrap_or (find R (key e) gs) no_elements)) refl same (found_group e gs all))

    put_test : (k : K) (v : FinMap S E) (g : K × FinMap S E) (gs : List (K × FinMap S E)) (r : Ordering) → R k g.0 ≡ r → IsGroup k (entries v) → AreGroups (g ∷ gs) → AreGroups (put R k v gs)
        → AreGroups (by_order r ((k, v) ∷ g ∷ gs) ((g.0, v) ∷ gs) (g ∷ put R k v gs))
    put_test k v g gs Less at new all rest = (new, all)
    put_test k v g gs Equal at new all rest = (subst (λ k. IsGroup k (entries v)) (same_key_is k g.0 at) new, all.1)
    put_test k v g gs Greater at new all rest = (all.0, rest)

    put_groups : (k : K) (v : FinMap S E) (gs : List (K × FinMap S E)) → IsGroup k (entries v) → AreGroups gs → AreGroups (put R k v gs)
    put_groups k v [] new all = (new, tt)
    put_groups k v (g ∷ gs) new all = put_test k v g gs (R k g.0) refl new all (put_groups k v gs new all.1)

    -- ---- names

    abbrev pub NoneNamed : E → List E → Type 0
    NoneNamed e xs = AllByRecursion (λ x. name x ≡ name e → ⊥) xs

    free_test : (e : E) (p : N × E) (es : List (N × E)) (r : Ordering) → S (name e) p.0 ≡ r → ((x y : N) → S x y ≡ Equal → x ≡ y) → name p.1 ≡ p.0 → (name p.1 ≡ name e → ⊥)
        → find S (name e) es ≡ None → cond (is_eq r) (Some p.1) (find S (name e) es) ≡ None
    free_test e p es Less at same is other rest = rest
    free_test e p es Equal at same is other rest = absurd (other (is ∙ sym (same (name e) p.0 at)))
    free_test e p es Greater at same is other rest = rest

    free_group : (same : (x y : N) → S x y ≡ Equal → x ≡ y) (e : E) (k : K) (es : List (N × E)) → IsGroup k es → NoneNamed e (values es) → find S (name e) es ≡ None
    free_group same e k [] all none = refl
    free_group same e k (p ∷ es) all none = free_test e p es (S (name e) p.0) refl same all.0.0 none.0 (free_group same e k es all.1 none.1)

    free_flat : (same : (x y : N) → S x y ≡ Equal → x ≡ y) (e : E) (gs : List (K × FinMap S E)) → AreGroups gs → NoneNamed e (flat gs) → Free e (find R (key e) gs)
    unfolding Free
    free_flat same e [] all none = ap (find S (name e)) no_entries
    free_flat same e (g ∷ gs) all none =
        either_free (eq_by_cmp R (key e) g.0) (free_group same e g.0 (entries g.1) all.0 (all_left (λ x. name x ≡ name e → ⊥) (values (entries g.1)) (flat gs) none))
        (free_flat same e gs all.1 (all_right (λ x. name x ≡ name e → ⊥) (values (entries g.1)) (flat gs) none))
      where
        either_free : (b : Bool) → find S (name e) (entries g.1) ≡ None → find S (name e) (entries (unwrap_or (find R (key e) gs) no_elements)) ≡ None
            → find S (name e) (entries (unwrap_or (cond b (Some g.1) (find R (key e) gs)) no_elements)) ≡ None
        either_free true here rest = here
        either_free false here rest = rest

    ins_test : (P : E → Type 0) (e x : E) (xs : List E) (b : Bool) → P e → AllByRecursion P (x ∷ xs) → AllByRecursion P (ins e xs) → AllByRecursion P (cond b (e ∷ x ∷ xs) (x ∷ ins e xs))
    ins_test P e x xs true new all rest = (new, all)
    ins_test P e x xs false new all rest = (all.0, rest)

    all_ins : (P : E → Type 0) (e : E) (xs : List E) → P e → AllByRecursion P xs → AllByRecursion P (ins e xs)
    all_ins P e [] new all = (new, tt)
    all_ins P e (x ∷ xs) new all = ins_test P e x xs (before e x) new all (all_ins P e xs new all.1)

    still_free : (e : E) (xs es : List E) → AllByRecursion (λ r. NoneNamed r xs) es → AllByRecursion (λ r. name e ≡ name r → ⊥) es → AllByRecursion (λ r. NoneNamed r (ins e xs)) es
    still_free e xs [] free other = tt
    still_free e xs (r ∷ es) free other = (all_ins (λ x. name x ≡ name r → ⊥) e xs other.0 free.0, still_free e xs es free.1 other.1)

    abbrev pub AreDistinct : List E → Type 0
    AreDistinct [] = ⊤
    AreDistinct (e ∷ es) = AllByRecursion (λ r. name e ≡ name r → ⊥) es × AreDistinct es

    abbrev pub with_one : FinMap R (FinMap S E) → E → FinMap R (FinMap S E)
    with_one groups e = insert groups (key e) (insert (unwrap_or (get groups (key e)) no_elements) (name e) e)

    with_one-entries : (groups : FinMap R (FinMap S E)) (e : E) → entries (with_one groups e) ≡ put R (key e) (with_element e (find R (key e) (entries groups))) (entries groups)
    unfolding with_element
    with_one-entries groups e =
        entries-insert o groups (key e) (insert (unwrap_or (get groups (key e)) no_elements) (name e) e)
        ∙ ap (λ (found : Option (FinMap S E)). put R (key e) (insert (unwrap_or found no_elements) (name e) e) (entries groups)) (get-entries groups (key e))

    pub listed : (same : (x y : N) → S x y ≡ Equal → x ≡ y) (groups : FinMap R (FinMap S E)) (es : List E) → AreGroups (entries groups) → AllByRecursion (λ r. NoneNamed r (flat (entries groups))) es → AreDistinct es
        → flat (entries (fold with_one groups es)) ≡ fold (λ xs e. ins e xs) (flat (entries groups)) es
    listed same groups [] are free distinct = refl
    listed same groups (e ∷ es) are free distinct =
        let is = with_one-entries groups e in
        let step : flat (entries (with_one groups e)) ≡ ins e (flat (entries groups)) =
        ap flat is ∙ flat_put e (entries groups) (entries_sorted groups) are (free_flat same e (entries groups) are free.0)
        in
        listed same (with_one groups e) es
        (subst AreGroups (sym is) (put_groups (key e) (with_element e (find R (key e) (entries groups))) (entries groups) (new_group same e (entries groups) are) are))
        (subst (λ xs. AllByRecursion (λ r. NoneNamed r xs) es) (sym step) (still_free e (flat (entries groups)) es free.1 distinct.0))
        distinct.1
        ∙ ap (λ xs. fold (λ ys x. ins x ys) xs es) step
