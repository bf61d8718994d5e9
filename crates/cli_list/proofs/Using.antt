-- What programs use and reach: users noted one after the other as their numbers rise, and functions gathered.
use Rattle.std.proofs.Common.{◌≡◌, ℕ, ◌+◌, ◌-◌, ◌≤◌, Bool, true, false, ◌||◌, cond, suc, List, [], ◌∷◌, ◌++◌, length, map, Some, refl, sym, ap, ◌∙◌, arith, eq-eqb, length-append, ◌<◌, drop, not, subst, Option, None}
use Rattle.std.specs.Prelude.{◌==◌, slice_get, unwrap_or, if◌then◌else◌, fold, slice_index_or, option_map}
use Rattle.std.specs.Cmp.{IsTotalOrder, nat_cmp_total}
use Rattle.std.specs.FinMap.{FinMap, IsAntisymmetric, get, empty, get-empty, get-insert, nat_cmp-IsAntisymmetric}
use Rattle.std.specs.List.{enumerate_from, filter, list_any, flat_map, AllZip}
use Rattle.std.specs.Ordering.{eq_by_cmp, nat_cmp}
use Rattle.std.specs.declared.cmp.Ordering.{Ordering}
use Rattle.std.proofs.lemmas.Bool.Decides.{nat_tests}
use Rattle.std.proofs.lemmas.List.{append_assoc, append-nil, get_or_default}
use Rattle.std.proofs.lemmas.List.Folds.{list_any-append}
use Rattle.std.specs.BTreeSet.{BTreeSet, contains, insert_key}
use Rattle.ebpf_base.proofs.Maps.{is_equal, key_exact}
use Rattle.ebpf_base.proofs.Lists.{filter-same, rest_more, rest_none}
use Rattle.ebpf_base.specs.Maps.{key_cmp, text_cmp, text_total, map_values}
use Rattle.ebpf_model.specs.Symbols.{FunctionKey}
use Rattle.cli_common.proofs.SortedKeys.{member-insert_keys}
use Rattle.ebpf_base.proofs.Mapped.{get-map_values}
use Rattle.ebpf_base.proofs.TextMaps.{text_exact}
use Rattle.ebpf_model.specs.declared.function.Function.{Function}
use Rattle.ebpf_object.specs.declared.object.Object.{Object}
use Rattle.cli_common.specs.HelperCalls.{calls_helper, helper_set, helpers_called}
use Rattle.cli_common.specs.declared.map_uses.MapUse.{MapUse}
use Rattle.cli_list.specs.PrivateContracts.{ends_in, is_number, noted, users_from, with_user, with_users, reached_keys, helpers_of, keys_or_none, names_of, names_or_none, use_names}
use Rattle.cli_list.specs.Listings.{if_any, numbers_of, is_reached, reaches, AreUsers, calls, has_use, uses_map}
use Rattle.cli_list.specs.declared.layout.ListedLayout.{ListedLayout}

-- ---- the programs that use something, noted one after the other as their numbers rise.

-- ---- lists of numbers

last_push : (xs : List ℕ) (n : ℕ) → slice_get (xs ++ n ∷ []) (length (xs ++ n ∷ []) - 1) ≡ Some n
last_push [] n = refl
last_push (x ∷ xs) n =
    let e : length (x ∷ xs ++ n ∷ []) - 1 ≡ suc (length (xs ++ n ∷ []) - 1) = omega (arith, length-append xs (n ∷ [])) in
    ap (slice_get (x ∷ xs ++ n ∷ [])) e ∙ last_push xs n

ends_in-push : (xs : List ℕ) (n m : ℕ) → ends_in (xs ++ n ∷ []) m ≡ (n == m)
unfolding ends_in
ends_in-push xs n m = ap (λ x. is_number x m) (last_push xs n)

ends_in-empty : (m : ℕ) → ends_in [] m ≡ false
unfolding ends_in
ends_in-empty m = refl

other_number : (n m : ℕ) → n + 1 ≤ m → (n == m) ≡ false
other_number n m h = grind (arith, nat_tests)

noted_again : (xs : List ℕ) (n : ℕ) → ends_in xs n ≡ true → noted xs n ≡ xs
noted_again xs n h = ap (λ b. if b then xs else xs ++ n ∷ []) h

noted_fresh : (xs : List ℕ) (n : ℕ) → ends_in xs n ≡ false → noted xs n ≡ xs ++ n ∷ []
noted_fresh xs n h = ap (λ b. if b then xs else xs ++ n ∷ []) h

all_of : (xs : List ℕ) → unwrap_or (if_any xs) [] ≡ xs
all_of [] = refl
all_of (x ∷ xs) = refl

some_is_any : (xs : List ℕ) (n : ℕ) → Some (xs ++ n ∷ []) ≡ if_any (xs ++ n ∷ [])
some_is_any [] n = refl
some_is_any (x ∷ xs) n = refl

-- ---- the users of one thing

-- a list ends below a number
abbrev IsBelow : List ℕ → ℕ → Type 0
IsBelow xs n = (m : ℕ) → n ≤ m → ends_in xs m ≡ false

still_below : (xs : List ℕ) (n : ℕ) → IsBelow xs n → IsBelow xs (n + 1)
still_below xs n below = λ m above. below m (omega arith)

pushed_below : (xs : List ℕ) (n : ℕ) → IsBelow (xs ++ n ∷ []) (n + 1)
pushed_below xs n = λ m above. ends_in-push xs n m ∙ other_number n m above

module _ {K : Type 0} {R : K → K → Ordering} (o : IsTotalOrder R) (exact : IsAntisymmetric R) (q : K) where
  -- a program that is noted already
  stays : (n : ℕ) (us : List K) (users : FinMap R (List ℕ)) (ys : List ℕ) → get users q ≡ Some ys → ends_in ys n ≡ true → get (with_users n users us) q ≡ Some ys
  stays n [] users ys here ends = here
  stays n (u ∷ us) users ys here ends = stays n us (with_user n users u) ys (get-insert o users u (noted (unwrap_or (get users u) []) n) q ∙ by_key (eq_by_cmp R q u) refl) ends
    where
      by_key : (b : Bool) → eq_by_cmp R q u ≡ b → cond b (Some (noted (unwrap_or (get users u) []) n)) (get users q) ≡ Some ys
      by_key false e = here
      by_key true e =
          let same : get users u ≡ Some ys = ap (get users) (sym (exact q u (is_equal (R q u) e))) ∙ here in
          ap (λ x. Some (noted (unwrap_or x []) n)) same ∙ ap Some (noted_again ys n ends)

  -- one program
  one_program : (n : ℕ) (us : List K) (users : FinMap R (List ℕ)) (xs : List ℕ) → get users q ≡ if_any xs → ends_in xs n ≡ false
      → get (with_users n users us) q ≡ cond (list_any (eq_by_cmp R q) us) (Some (xs ++ n ∷ [])) (if_any xs)
  one_program n [] users xs here fresh = here
  one_program n (u ∷ us) users xs here fresh = by_key (one_program n us (with_user n users u) xs) (eq_by_cmp R q u) refl
    where
      after : get (with_user n users u) q ≡ cond (eq_by_cmp R q u) (Some (noted (unwrap_or (get users u) []) n)) (get users q)
      after = get-insert o users u (noted (unwrap_or (get users u) []) n) q

      by_key : (get (with_user n users u) q ≡ if_any xs → ends_in xs n ≡ false → get (with_users n (with_user n users u) us) q ≡ cond (list_any (eq_by_cmp R q) us) (Some (xs ++ n ∷ [])) (if_any xs))
          → (b : Bool) → eq_by_cmp R q u ≡ b → get (with_users n (with_user n users u) us) q ≡ cond (b || list_any (eq_by_cmp R q) us) (Some (xs ++ n ∷ [])) (if_any xs)
      by_key others true e =
          let same : get users u ≡ if_any xs = ap (get users) (sym (exact q u (is_equal (R q u) e))) ∙ here in
          let noted_here : get (with_user n users u) q ≡ Some (xs ++ n ∷ []) =
          after
          ∙ ap (λ b. cond b (Some (noted (unwrap_or (get users u) []) n)) (get users q)) e
          ∙ ap (λ x. Some (noted (unwrap_or x []) n)) same
          ∙ ap (λ ys. Some (noted ys n)) (all_of xs)
          ∙ ap Some (noted_fresh xs n fresh)
          in
          stays n us (with_user n users u) (xs ++ n ∷ []) noted_here (ends_in-push xs n n ∙ eq-eqb n n refl)
      by_key others false e = others (after ∙ ap (λ b. cond b (Some (noted (unwrap_or (get users u) []) n)) (get users q)) e ∙ here) fresh

  module _ (used : ListedLayout → List K) where
    -- the numbers of those of some programs that use it
    abbrev numbers_from : ℕ → List ListedLayout → List ℕ
    numbers_from n ls = map (λ e. e.0) (filter (λ e. list_any (eq_by_cmp R q) (used e.1)) (enumerate_from n ls))

    -- all programs, one after the other
    all_programs : (ls : List ListedLayout) (n : ℕ) (users : FinMap R (List ℕ)) (xs : List ℕ) → get users q ≡ if_any xs → IsBelow xs n
        → get (users_from used n users ls) q ≡ if_any (xs ++ numbers_from n ls)
    all_programs [] n users xs here below = here ∙ ap if_any (sym (append-nil xs))
    all_programs (l ∷ ls) n users xs here below =
        by_test (all_programs ls (n + 1) (with_users n users (used l))) (list_any (eq_by_cmp R q) (used l)) (one_program n (used l) users xs here (below n (omega arith)))
      where
        by_test : ((ys : List ℕ) → get (with_users n users (used l)) q ≡ if_any ys → IsBelow ys (n + 1) → get (users_from used (n + 1) (with_users n users (used l)) ls) q ≡ if_any (ys ++ numbers_from (n + 1) ls))
            → (b : Bool) → get (with_users n users (used l)) q ≡ cond b (Some (xs ++ n ∷ [])) (if_any xs)
            → get (users_from used (n + 1) (with_users n users (used l)) ls) q ≡ if_any (xs ++ map (λ e. e.0) (cond b ((n, l) ∷ filter (λ e. list_any (eq_by_cmp R q) (used e.1)) (enumerate_from (n + 1) ls)) (filter (λ e. list_any (eq_by_cmp R q) (used e.1)) (enumerate_from (n + 1) ls))))
        by_test others true is = others (xs ++ n ∷ []) (is ∙ some_is_any xs n) (pushed_below xs n) ∙ ap if_any (append_assoc xs (n ∷ []) (numbers_from (n + 1) ls))
        by_test others false is = others xs is (still_below xs n below)

    pub users_stand : (layouts : List ListedLayout) → get {R = R} (users_from used 0 empty layouts) q ≡ if_any (numbers_of (λ l. list_any (eq_by_cmp R q) (used l)) layouts)
    users_stand layouts = all_programs layouts 0 empty [] (get-empty R q) (λ m above. ends_in-empty m)

-- ---- whether something passes among the lists that items give.

pub list_any-flat_map : {A B : Type 0} (p : B → Bool) (g : A → List B) (h : A → Bool) → ((x : A) → list_any p (g x) ≡ h x) → (xs : List A) → list_any p (flat_map g xs) ≡ list_any h xs
list_any-flat_map p g h is [] = refl
list_any-flat_map p g h is (x ∷ xs) =
    list_any-append p (g x) (flat_map g xs)
    ∙ ap (λ b. b || list_any p (flat_map g xs)) (is x)
    ∙ ap (λ b. h x || b) (list_any-flat_map p g h is xs)

-- ---- the functions that programs reach, gathered as a set of keys

module _ (layouts : List ListedLayout) (reached : BTreeSet FunctionKey) (is : reached.keys ≡ fold (insert_key key_cmp) [] (reached_keys layouts)) where
  reached_stands : (key : FunctionKey) → contains key_cmp reached key ≡ is_reached layouts key
  reached_stands key =
      ap (list_any (eq_by_cmp key_cmp key)) is
      ∙ member-insert_keys {R = key_cmp} key_exact key [] (reached_keys layouts)
      ∙ list_any-flat_map (eq_by_cmp key_cmp key) (λ l. l.functions.items) (λ l. reaches l key) (λ l. refl) layouts

  pub unreached_stand : (keys : List FunctionKey) → filter (λ key. not (contains key_cmp reached key)) keys ≡ filter (λ key. not (is_reached layouts key)) keys
  unreached_stand keys = filter-same _ _ keys (λ key. ap not (reached_stands key))

-- one more key is gathered
pub gathered_more : (xs : List FunctionKey) (i : ℕ) (d : FunctionKey) (ks new start : List FunctionKey) → i < length xs → new ≡ insert_key key_cmp ks (slice_index_or xs i d)
    → fold (insert_key key_cmp) ks (drop i xs) ≡ start → fold (insert_key key_cmp) new (drop (i + 1) xs) ≡ start
gathered_more xs i d ks new start below is before =
    ap (λ k. fold (insert_key key_cmp) k (drop (i + 1) xs)) is
    ∙ sym (ap (fold (insert_key key_cmp) ks) (rest_more xs i (slice_index_or xs i d) below (get_or_default xs i d (slice_index_or xs i d) below)))
    ∙ before

-- one more key is kept
pub kept_more : (p : FunctionKey → Bool) (key : FunctionKey) (rest ks new all : List FunctionKey) → p key ≡ true → new ≡ ks ++ key ∷ []
    → ks ++ filter p (key ∷ rest) ≡ all → new ++ filter p rest ≡ all
kept_more p key rest ks new all kept is before =
    ap (λ front. front ++ filter p rest) is
    ∙ append_assoc ks (key ∷ []) (filter p rest)
    ∙ sym (ap (λ b. ks ++ cond b (key ∷ filter p rest) (filter p rest)) kept)
    ∙ before

-- ---- a list beside another, item by item, as it grows

module _ {A B : Type 0} (R : A → B → Type 0) (xs : List A) where
  -- what stands beside the items that are left completes what is there
  abbrev pub Completes : ℕ → List B → Type 0
  Completes i ys = (rest : List B) → AllZip R (drop i xs) rest → AllZip R xs (ys ++ rest)

  pub one_more : (i : ℕ) (x : A) (ys : List B) (y : B) → i < length xs → x ≡ slice_index_or xs i x → R x y → Completes i ys → Completes (i + 1) (ys ++ y ∷ [])
  one_more i x ys y below here is before = λ rest others.
      subst (λ zs. AllZip R xs zs) (sym (append_assoc ys (y ∷ []) rest))
      (before (y ∷ rest) (subst (λ left. AllZip R left (y ∷ rest)) (sym (rest_more xs i x below here)) (is, others)))

  pub none_left : (i : ℕ) (ys : List B) → length xs ≤ i → Completes i ys → AllZip R xs ys
  none_left i ys past before =
      subst (λ zs. AllZip R xs zs) (append-nil ys)
      (before [] (subst (λ left. AllZip R left []) (sym (rest_none xs i past)) tt))

-- ---- which programs use what, from what each function that they reach uses.

-- programs that the same tests pass
same_numbers : (f g : ListedLayout → Bool) → ((l : ListedLayout) → f l ≡ g l) → (layouts : List ListedLayout) → numbers_of f layouts ≡ numbers_of g layouts
same_numbers f g is layouts = ap (map (λ e. e.0)) (filter-same (λ e. f e.1) (λ e. g e.1) (enumerate_from 0 layouts) (λ e. is e.1))

-- ---- helper functions

same_number : (m n : ℕ) → eq_by_cmp nat_cmp m n ≡ (n == m)
same_number m n = grind (arith, nat_tests)

any_number : (helper : ℕ) (ns : List ℕ) → list_any (eq_by_cmp nat_cmp helper) ns ≡ list_any (λ n. n == helper) ns
any_number helper [] = refl
any_number helper (n ∷ ns) = λ i. same_number helper n i || any_number helper ns i

helpers_found : (helper : ℕ) (found : Option Function) → list_any (eq_by_cmp nat_cmp helper) (keys_or_none (option_map helper_set found)) ≡ calls_helper found helper
unfolding helper_set
helpers_found helper None = refl
helpers_found helper (Some f) =
    member-insert_keys {R = nat_cmp} nat_cmp-IsAntisymmetric helper [] (helpers_called f.instructions)
    ∙ any_number helper (helpers_called f.instructions)

helpers_used : (o : Object) (helper : ℕ) (l : ListedLayout) → list_any (eq_by_cmp nat_cmp helper) (helpers_of (map_values helper_set o.functions) l) ≡ calls o helper l
unfolding helpers_of
helpers_used o helper l =
    list_any-flat_map (eq_by_cmp nat_cmp helper) (λ key. keys_or_none (get (map_values helper_set o.functions) key)) (λ key. calls_helper (get o.functions key) helper)
    (λ key. ap (λ found. list_any (eq_by_cmp nat_cmp helper) (keys_or_none found)) (get-map_values helper_set o.functions key) ∙ helpers_found helper (get o.functions key))
    l.functions.items

pub helper_users_stand : (o : Object) (layouts : List ListedLayout) → AreUsers {R = nat_cmp} (calls o) layouts (users_from (helpers_of (map_values helper_set o.functions)) 0 empty layouts)
helper_users_stand o layouts helper =
    users_stand {R = nat_cmp} nat_cmp_total nat_cmp-IsAntisymmetric helper (helpers_of (map_values helper_set o.functions)) layouts
    ∙ ap if_any (same_numbers _ (calls o helper) (helpers_used o helper) layouts)

-- ---- maps

any_name : (name : List ℕ) (uses : List MapUse) → list_any (eq_by_cmp text_cmp name) (use_names uses) ≡ list_any (λ u. eq_by_cmp text_cmp name u.name) uses
any_name name [] = refl
any_name name (u ∷ uses) = ap (λ b. eq_by_cmp text_cmp name u.name || b) (any_name name uses)

names_found : (name : List ℕ) (found : Option (List MapUse)) → list_any (eq_by_cmp text_cmp name) (names_or_none found) ≡ has_use found name
names_found name None = refl
names_found name (Some uses) = any_name name uses

names_used : (uses : FinMap key_cmp (List MapUse)) (name : List ℕ) (l : ListedLayout) → list_any (eq_by_cmp text_cmp name) (names_of uses l) ≡ uses_map uses name l
unfolding names_of
names_used uses name l =
    list_any-flat_map (eq_by_cmp text_cmp name) (λ key. names_or_none (get uses key)) (λ key. has_use (get uses key) name)
    (λ key. names_found name (get uses key)) l.functions.items

pub map_users_stand : (uses : FinMap key_cmp (List MapUse)) (layouts : List ListedLayout) → AreUsers {R = text_cmp} (uses_map uses) layouts (users_from (names_of uses) 0 empty layouts)
map_users_stand uses layouts name =
    users_stand {R = text_cmp} text_total text_exact name (names_of uses) layouts
    ∙ ap if_any (same_numbers _ (uses_map uses name) (names_used uses name) layouts)
