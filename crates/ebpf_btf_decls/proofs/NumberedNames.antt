-- A name among names, each of which stands once, and the last value of each name among entries.
use Rattle.std.proofs.Common.{◌≡◌, ℕ, zero, suc, ◌+◌, Bool, true, false, cond, List, [], ◌∷◌, ◌++◌, length, Option, Some, None, Result, Ok, Err, refl, sym, ap, ◌∙◌, arith, ◌<◌, take, drop, drop-cons, subst}
use Rattle.std.proofs.Math.Seq.{take-suc}
use Rattle.std.proofs.lemmas.Cmp.{eq_by_cmp_equiv}
use Rattle.std.proofs.lemmas.Grind.{flat_map-append}
use Rattle.std.proofs.lemmas.Option.{slice_get_past}
use Rattle.std.specs.BTreeMap.{BTreeMap, get as at_key, is_at, Updates}
use Rattle.std.specs.FinMap.{FinMap, get, insert, empty, get-insert, get-empty, same_map}
use Rattle.std.specs.List.{AllZip, flat_map, zip}
use Rattle.std.specs.Ordering.{eq_by_cmp, nat_cmp}
use Rattle.std.specs.declared.cmp.Ordering.{Ordering}
use Rattle.std.specs.Prelude.{MatchOption, slice_get, slice_set, slice_index_or, if◌then◌else◌}
use Rattle.ebpf_base.proofs.Faults.{or_else-None, or_else-assoc, first_some-push}
use Rattle.ebpf_base.proofs.Mapped.{later_text_stands}
use Rattle.ebpf_base.proofs.Lists.{get_end}
use Rattle.ebpf_base.proofs.Maps.{is_equal}
use Rattle.ebpf_base.proofs.TextMaps.{text_exact}
use Rattle.ebpf_base.specs.Faults.{first_some, or_else}
use Rattle.ebpf_base.specs.Maps.{put_all, last_at, text_cmp, text_total}
use Rattle.ebpf_btf.proofs.InOrder.{drop_some}
use Rattle.ebpf_btf.specs.Strings.{text_at}
use Rattle.ebpf_btf_decls.proofs.BothModes.{equal_numbers}
use Rattle.ebpf_btf_decls.specs.DataSections.{given}
use Rattle.ebpf_btf_decls.specs.SectionMaps.{put_at, AreDistinct, AreNumbered, HasNumber, AreKept}
use Rattle.ebpf_btf_decls.specs.declared.numbered_names.NumberedNames.{NumberedNames}
use Rattle.ebpf_parts.specs.declared.error.ParseError.{ParseError}

-- ---- a value at a place

pub put_new : {X : Type 0} (xs : List X) (n : ℕ) (x : X) → slice_get xs n ≡ None → put_at xs n x ≡ xs ++ x ∷ []
put_new [] n x none = refl
put_new (y ∷ ys) zero x none = absurd (cc)
put_new (y ∷ ys) (suc n) x none = ap (λ l. y ∷ l) (put_new ys n x none)

pub put_known : {X : Type 0} (xs : List X) (n : ℕ) (x y : X) → slice_get xs n ≡ Some y → put_at xs n x ≡ slice_set xs n x
put_known [] n x y there = absurd (cc)
put_known (z ∷ zs) zero x y there = refl
put_known (z ∷ zs) (suc n) x y there = ap (λ l. z ∷ l) (put_known zs n x y there)

-- a value that was put over one, or comes back and is put behind the others
pub put_over : {X : Type 0} (xs after : List X) (n : ℕ) (x b : X) (r : Result X X) → r ≡ Ok b → MatchOption (slice_get xs n) ((r ≡ Err x) × (after ≡ xs)) (λ before. (r ≡ Ok before) × (after ≡ slice_set xs n x)) → after ≡ put_at xs n x
put_over {X = X} xs after n x b r ok put = by_place (slice_get xs n) refl put
  where
    by_place : (o : Option X) → slice_get xs n ≡ o → MatchOption o ((r ≡ Err x) × (after ≡ xs)) (λ before. (r ≡ Ok before) × (after ≡ slice_set xs n x)) → after ≡ put_at xs n x
    by_place None is put = let wrong : Ok b ≡ Err x = sym ok ∙ put.0 in absurd (cc)
    by_place (Some y) is put = put.1 ∙ sym (put_known xs n x y is)

pub put_behind : {X : Type 0} (xs after : List X) (n : ℕ) (x b : X) (r : Result X X) → r ≡ Err b → MatchOption (slice_get xs n) ((r ≡ Err x) × (after ≡ xs)) (λ before. (r ≡ Ok before) × (after ≡ slice_set xs n x)) → after ++ b ∷ [] ≡ put_at xs n x
put_behind {X = X} xs after n x b r err put = by_place (slice_get xs n) refl put
  where
    by_place : (o : Option X) → slice_get xs n ≡ o → MatchOption o ((r ≡ Err x) × (after ≡ xs)) (λ before. (r ≡ Ok before) × (after ≡ slice_set xs n x)) → after ++ b ∷ [] ≡ put_at xs n x
    by_place None is put = let same : Err b ≡ Err x = sym err ∙ put.0 in let value : b ≡ x = cc in ap (λ l. l ++ b ∷ []) put.1 ∙ ap (λ y. xs ++ y ∷ []) value ∙ sym (put_new xs n x is)
    by_place (Some y) is put = let wrong : Err b ≡ Ok y = sym err ∙ put.0 in absurd (cc)

pub put_same : {X : Type 0} (xs : List X) (n : ℕ) (x : X) → slice_get xs n ≡ Some x → xs ≡ put_at xs n x
put_same [] n x there = absurd (cc)
put_same (y ∷ ys) zero x there = let same : y ≡ x = cc in ap (λ z. z ∷ ys) same
put_same (y ∷ ys) (suc n) x there = ap (λ l. y ∷ l) (put_same ys n x there)

-- what is there stays, but for a value that is put over one
still_put : {X : Type 0} (xs : List X) (n : ℕ) (x : X) → ((y : X) → slice_get xs n ≡ Some y → y ≡ x) → (y : X) (m : ℕ) → slice_get xs m ≡ Some y → slice_get (put_at xs n x) m ≡ Some y
still_put [] n x same y m at = absurd (cc)
still_put (z ∷ zs) zero x same y zero at = ap Some (sym (same z refl)) ∙ at
still_put (z ∷ zs) zero x same y (suc m) at = at
still_put (z ∷ zs) (suc n) x same y zero at = at
still_put (z ∷ zs) (suc n) x same y (suc m) at = still_put zs n x same y m at

still_there : {X : Type 0} (xs : List X) (x y : X) (n : ℕ) → slice_get xs n ≡ Some y → slice_get (xs ++ x ∷ []) n ≡ Some y
still_there [] x y n at = absurd (cc)
still_there (z ∷ zs) x y zero at = at
still_there (z ∷ zs) x y (suc n) at = still_there zs x y n at

only_end : {X : Type 0} (xs : List X) (x y : X) (n : ℕ) → slice_get xs n ≡ None → slice_get (xs ++ x ∷ []) n ≡ Some y → (n ≡ length xs) × (x ≡ y)
only_end [] x y zero none at = (refl, cc)
only_end [] x y (suc n) none at = absurd (cc)
only_end (z ∷ zs) x y zero none at = absurd (cc)
only_end (z ∷ zs) x y (suc n) none at = let p = only_end zs x y n none at in (ap suc p.0, p.1)

-- ---- names

pub at_name : (q name : List ℕ) → eq_by_cmp text_cmp q name ≡ true → q ≡ name
at_name q name is = text_exact q name (is_equal _ is)

same_name : (q : List ℕ) → eq_by_cmp text_cmp q q ≡ true
same_name q = (eq_by_cmp_equiv text_total).refl q

pub none_distinct : (names : List (List ℕ)) (numbers : FinMap text_cmp ℕ) → names ≡ [] → numbers ≡ empty → AreDistinct names numbers
none_distinct names numbers is made = record {
  is = λ q n at. let wrong : None ≡ Some n = sym (get-empty text_cmp q) ∙ ap (λ m. get m q) (sym made) ∙ at in absurd (cc);
  once = λ q n at. let wrong : None ≡ Some q = sym (ap (λ l. slice_get l n) is) ∙ at in absurd (cc);
}

module _ (names : List (List ℕ)) (numbers : FinMap text_cmp ℕ) (are : AreDistinct names numbers) (name : List ℕ) where
  -- a name that is there
  pub known_number : (n : ℕ) → slice_get names n ≡ Some name → HasNumber names names name n
  known_number n there = record {
    is = there;
    names = put_same names n name there;
    here = λ q at. let same : Some q ≡ Some name = sym at ∙ there in cc;
    only = λ m at. let same : Some m ≡ Some n = sym (are.once name m at) ∙ are.once name n there in cc;
  }

  -- a name behind the others
  module _ (new : get numbers name ≡ None) where
    nowhere : (m : ℕ) → slice_get names m ≡ Some name → ⊥
    nowhere m at = let wrong : None ≡ Some m = sym new ∙ are.once name m at in absurd (cc)

    pub new_number : HasNumber names (names ++ name ∷ []) name (length names)
    new_number = record {
      is = get_end names name;
      names = sym (put_new names (length names) name (slice_get_past names (length names) (omega arith)));
      here = λ q at. let wrong : None ≡ Some q = sym (slice_get_past names (length names) (omega arith)) ∙ at in absurd (cc);
      only = λ m at. absurd (nowhere m at);
    }

    got : (q : List ℕ) → get (insert numbers name (length names)) q ≡ cond (eq_by_cmp text_cmp q name) (Some (length names)) (get numbers q)
    got q = get-insert text_total numbers name (length names) q

    pub one_distinct : AreDistinct (names ++ name ∷ []) (insert numbers name (length names))
    one_distinct = record {
      is = λ q n at. named q n (eq_by_cmp text_cmp q name) refl (sym (got q) ∙ at);
      once = λ q n at. got q ∙ by_place q n (slice_get names n) refl at;
    }
      where
        named : (q : List ℕ) (n : ℕ) (b : Bool) → eq_by_cmp text_cmp q name ≡ b → cond b (Some (length names)) (get numbers q) ≡ Some n → slice_get (names ++ name ∷ []) n ≡ Some q
        named q n true same at = let place : length names ≡ n = cc in ap (slice_get (names ++ name ∷ [])) (sym place) ∙ get_end names name ∙ ap Some (sym (at_name q name same))
        named q n false other at = still_there names name q n (are.is q n at)

        other_name : (q : List ℕ) (n : ℕ) (b : Bool) → eq_by_cmp text_cmp q name ≡ b → slice_get names n ≡ Some q → cond b (Some (length names)) (get numbers q) ≡ Some n
        other_name q n true same at = absurd (nowhere n (at ∙ ap Some (at_name q name same)))
        other_name q n false other at = are.once q n at

        by_place : (q : List ℕ) (n : ℕ) (o : Option (List ℕ)) → slice_get names n ≡ o → slice_get (names ++ name ∷ []) n ≡ Some q → cond (eq_by_cmp text_cmp q name) (Some (length names)) (get numbers q) ≡ Some n
        by_place q n (Some p) is at = let same : Some p ≡ Some q = sym (still_there names name p n is) ∙ at in other_name q n (eq_by_cmp text_cmp q name) refl (is ∙ same)
        by_place q n None is at =
            let last : (n ≡ length names) × (name ≡ q) = only_end names name q n is at in
            ap (λ r. cond (eq_by_cmp text_cmp r name) (Some (length names)) (get numbers r)) (sym last.1)
            ∙ ap (λ b. cond b (Some (length names)) (get numbers name)) (same_name name) ∙ ap Some (sym last.0)

-- ---- offsets

-- a name that was read stands under its offset too
pub one_offset : (strings : List ℕ) (before after : NumberedNames) (offsets : BTreeMap ℕ ℕ) (name : List ℕ) (offset n : ℕ) → AreNumbered strings before → text_at strings offset ≡ Ok name
    → HasNumber before.names after.names name n → AreDistinct after.names after.numbers → Updates nat_cmp before.offsets offsets offset (Some n)
    → AreNumbered strings (record { names = after.names; numbers = after.numbers; offsets = offsets })
one_offset strings before after offsets name offset n were read has distinct put = record {
  distinct = distinct;
  offsets = λ o m at. step o m (is_at (nat_cmp offset) o) refl (sym (put.0 o) ∙ at);
}
  where
    step : (o m : ℕ) (b : Bool) → is_at (nat_cmp offset) o ≡ b → cond b (Some n) (at_key nat_cmp before.offsets o) ≡ Some m → (q : List ℕ) × (text_at strings o ≡ Ok q) × (slice_get after.names m ≡ Some q)
    step o m true here at =
        let place : offset ≡ o = equal_numbers offset o here in
        let number : n ≡ m = cc in
        (name, ap (text_at strings) (sym place) ∙ read, ap (slice_get after.names) (sym number) ∙ has.is)
    step o m false other at =
        let was = were.offsets o m at in
        (was.0, was.1, ap (λ l. slice_get l m) has.names ∙ still_put before.names n name has.here was.0 m was.2)

-- ---- names and values

zip_name : {X : Type 0} (names : List (List ℕ)) (values : List X) (m : ℕ) (e : List ℕ × X) → slice_get (zip names values) m ≡ Some e → slice_get names m ≡ Some e.0
zip_name [] values m e at = absurd (cc)
zip_name (n ∷ ns) [] m e at = absurd (cc)
zip_name (n ∷ ns) (v ∷ vs) zero e at = let same : (n, v) ≡ e = cc in ap (λ (p : List ℕ × _). Some p.0) same
zip_name (n ∷ ns) (v ∷ vs) (suc m) e at = zip_name ns vs m e at

zip_put : {X : Type 0} (names : List (List ℕ)) (values : List X) (n : ℕ) (name : List ℕ) (v : X) → length names ≡ length values → zip (put_at names n name) (put_at values n v) ≡ put_at (zip names values) n (name, v)
zip_put [] [] n name v each = refl
zip_put [] (w ∷ ws) n name v each = absurd (omega arith)
zip_put (m ∷ ms) [] n name v each = absurd (omega arith)
zip_put (m ∷ ms) (w ∷ ws) zero name v each = refl
zip_put (m ∷ ms) (w ∷ ws) (suc n) name v each = ap (λ l. (m, w) ∷ l) (zip_put ms ws n name v (omega arith))

put_long : {A X : Type 0} (names : List A) (values : List X) (n : ℕ) (name : A) (v : X) → length names ≡ length values → length (put_at names n name) ≡ length (put_at values n v)
put_long [] [] n name v each = refl
put_long [] (w ∷ ws) n name v each = absurd (omega arith)
put_long (m ∷ ms) [] n name v each = absurd (omega arith)
put_long (m ∷ ms) (w ∷ ws) zero name v each = each
put_long (m ∷ ms) (w ∷ ws) (suc n) name v each = ap suc (put_long ms ws n name v (omega arith))

-- ---- one more entry

pub last_at-append : {K X : Type 0} (R : K → K → Ordering) (q : K) (a : Option X) (es fs : List (K × X)) → last_at R q a (es ++ fs) ≡ last_at R q (last_at R q a es) fs
last_at-append R q a [] fs = refl
last_at-append R q a (e ∷ es) fs = last_at-append R q (if eq_by_cmp R q e.0 then Some e.1 else a) es fs

module _ {X : Type 0} (name : List ℕ) (v : X) (q : List ℕ) where
  -- no entry has the name
  no_entry : q ≡ name → (es : List (List ℕ × X)) (a : Option X) → ((m : ℕ) (e : List ℕ × X) → slice_get es m ≡ Some e → e.0 ≡ name → ⊥) → last_at text_cmp q a es ≡ a
  no_entry is [] a none = refl
  no_entry is (e ∷ es) a none = by_test (eq_by_cmp text_cmp q e.0) refl ∙ no_entry is es a (λ m. none (suc m))
    where
      by_test : (b : Bool) → eq_by_cmp text_cmp q e.0 ≡ b → last_at text_cmp q (if b then Some e.1 else a) es ≡ last_at text_cmp q a es
      by_test true same = absurd (none zero e refl (sym (at_name q e.0 same) ∙ is))
      by_test false other = refl

  last_put : (es : List (List ℕ × X)) (n : ℕ) (a : Option X) → ((e : List ℕ × X) → slice_get es n ≡ Some e → e.0 ≡ name) → ((m : ℕ) (e : List ℕ × X) → slice_get es m ≡ Some e → e.0 ≡ name → m ≡ n)
      → last_at text_cmp q a (put_at es n (name, v)) ≡ (if eq_by_cmp text_cmp q name then Some v else last_at text_cmp q a es)
  last_put [] n a here only = refl
  last_put (e ∷ es) (suc n) a here only = last_put es n (if eq_by_cmp text_cmp q e.0 then Some e.1 else a) here (λ m f at is. let same : suc m ≡ suc n = only (suc m) f at is in omega arith)
  last_put (e ∷ es) zero a here only = by_test (eq_by_cmp text_cmp q name) refl
    where
      by_test : (b : Bool) → eq_by_cmp text_cmp q name ≡ b → last_at text_cmp q (if b then Some v else a) es ≡ (if b then Some v else last_at text_cmp q (if eq_by_cmp text_cmp q e.0 then Some e.1 else a) es)
      by_test true same = no_entry (at_name q name same) es (Some v) (λ m f at is. let no : suc m ≡ zero = only (suc m) f at is in absurd (omega arith))
      by_test false other = ap (λ b. last_at text_cmp q (if b then Some e.1 else a) es) (sym (ap (eq_by_cmp text_cmp q) (here e refl) ∙ other))

twice : {E : Type 0} (a b : Option E) → or_else a b ≡ or_else (or_else a b) a
twice None b = sym (or_else-None b)
twice (Some e) b = refl

first_put : {X : Type 0} (f : List ℕ → Option ParseError) (es : List (List ℕ × X)) (n : ℕ) (name : List ℕ) (v : X) → ((e : List ℕ × X) → slice_get es n ≡ Some e → e.0 ≡ name)
    → first_some (λ e. f e.0) (put_at es n (name, v)) ≡ or_else (first_some (λ e. f e.0) es) (f name)
first_put f [] n name v here = or_else-None (f name)
first_put f (e ∷ es) zero name v here = twice (f name) (first_some (λ e. f e.0) es) ∙ ap (λ q. or_else (or_else (f q) (first_some (λ e. f e.0) es)) (f name)) (sym (here e refl))
first_put f (e ∷ es) (suc n) name v here = ap (or_else (f e.0)) (first_put f es n name v here) ∙ sym (or_else-assoc (f e.0) (first_some (λ e. f e.0) es) (f name))

pub none_kept : {X : Type 0} → AreKept {X = X} [] [] []
none_kept = record { each = refl; values = λ q a. refl; first = λ f. refl }

pub one_kept : {X : Type 0} (names after : List (List ℕ)) (values : List X) (entries : List (List ℕ × X)) (name : List ℕ) (n : ℕ) (v : X) → AreKept names values entries → HasNumber names after name n
    → AreKept after (put_at values n v) (entries ++ ((name, v) ∷ []))
one_kept names after values entries name n v kept has = record {
  each = ap length has.names ∙ put_long names values n name v kept.each;
  values = λ q a.
      ap (λ l. last_at text_cmp q a (zip l (put_at values n v))) has.names
      ∙ ap (last_at text_cmp q a) (zip_put names values n name v kept.each)
      ∙ last_put name v q (zip names values) n a (λ e at. has.here e.0 (zip_name names values n e at)) (λ m e at is. has.only m (zip_name names values m e at ∙ ap Some is))
      ∙ ap (λ o. if eq_by_cmp text_cmp q name then Some v else o) (kept.values q a)
      ∙ sym (last_at-append text_cmp q a entries ((name, v) ∷ []));
  first = λ f.
      ap (λ l. first_some (λ e. f e.0) (zip l (put_at values n v))) has.names
      ∙ ap (first_some (λ e. f e.0)) (zip_put names values n name v kept.each)
      ∙ first_put f (zip names values) n name v (λ e at. has.here e.0 (zip_name names values n e at))
      ∙ ap (λ o. or_else o (f name)) (kept.first f)
      ∙ sym (first_some-push (λ e. f e.0) entries (name, v));
}

-- ---- in a walk over items that declare names and values

taken_more : {A : Type 0} (items : List A) (i : ℕ) (x : A) → i < length items → take (i + 1) items ≡ take i items ++ (slice_index_or items i x ∷ [])
taken_more items i x below = let on : i + 1 ≡ suc i = omega arith in ap (λ n. take n items) on ∙ take-suc items i x below

-- an item without a fault
pub rest_clear : {A E : Type 0} (f : A → Option E) (xs : List A) (i : ℕ) (x : A) → i < length xs → f (slice_index_or xs i x) ≡ None → first_some f (drop i xs) ≡ first_some f xs
    → first_some f (drop (i + 1) xs) ≡ first_some f xs
rest_clear f xs i x below none left =
    let on : suc i ≡ i + 1 = omega arith in
    sym (ap (first_some f) (drop-cons xs i x below ∙ ap (λ n. slice_index_or xs i x ∷ drop n xs) on) ∙ ap (λ o. or_else o (first_some f (drop (i + 1) xs))) none) ∙ left

pub item_kept : {A X E : Type 0} (f : A → Result (List ℕ × X) E) (items : List A) (i : ℕ) (x : A) (names after : List (List ℕ)) (values new : List X) (name : List ℕ) (n : ℕ) (v : X) → i < length items
    → AreKept names values (flat_map (λ y. given (f y)) (take i items)) → f (slice_index_or items i x) ≡ Ok (name, v) → HasNumber names after name n → new ≡ put_at values n v
    → AreKept after new (flat_map (λ y. given (f y)) (take (i + 1) items))
item_kept f items i x names after values new name n v below kept is has put =
    let more : flat_map (λ y. given (f y)) (take (i + 1) items) ≡ flat_map (λ y. given (f y)) (take i items) ++ ((name, v) ∷ []) =
    ap (flat_map (λ y. given (f y))) (taken_more items i x below) ∙ flat_map-append (λ y. given (f y)) (take i items) (slice_index_or items i x ∷ [])
    ∙ ap (λ r. flat_map (λ y. given (f y)) (take i items) ++ (given r ++ [])) is in
    subst (λ l. AreKept after l (flat_map (λ y. given (f y)) (take (i + 1) items))) (sym put)
    (subst (AreKept after (put_at values n v)) (sym more) (one_kept names after values (flat_map (λ y. given (f y)) (take i items)) name n v kept has))

-- ---- in a walk over names and values

pub pair_left : {A B : Type 0} (xs : List A) (ys : List B) (i : ℕ) (x : A) (y : B) → slice_get xs i ≡ Some x → slice_get ys i ≡ Some y → zip (drop i xs) (drop i ys) ≡ (x, y) ∷ zip (drop (i + 1) xs) (drop (i + 1) ys)
pair_left xs ys i x y is_x is_y = ap (λ l. zip l (drop i ys)) (drop_some xs x i is_x) ∙ ap (λ l. zip (x ∷ drop (i + 1) xs) l) (drop_some ys y i is_y)

drop_past : {X : Type 0} (xs : List X) (i : ℕ) → slice_get xs i ≡ None → drop i xs ≡ []
drop_past [] zero none = refl
drop_past [] (suc i) none = refl
drop_past (x ∷ xs) zero none = absurd (cc)
drop_past (x ∷ xs) (suc i) none = drop_past xs i none

pub no_name_left : {A B : Type 0} (xs : List A) (ys : List B) (i : ℕ) → slice_get xs i ≡ None → zip (drop i xs) (drop i ys) ≡ []
no_name_left xs ys i none = ap (λ l. zip l (drop i ys)) (drop_past xs i none)

pub no_value_left : {A B : Type 0} (xs : List A) (ys : List B) (i : ℕ) → slice_get ys i ≡ None → zip (drop i xs) (drop i ys) ≡ []
no_value_left {A = A} {B = B} xs ys i none = ap (zip (drop i xs)) (drop_past ys i none) ∙ no_values (drop i xs)
  where
    no_values : (l : List A) → zip {K = A} {X = B} l [] ≡ []
    no_values [] = refl
    no_values (x ∷ l) = refl

-- ---- all of them

pub kept_put : {X : Type 0} (names : List (List ℕ)) (values : List X) (entries : List (List ℕ × X)) (m : FinMap text_cmp X) → AreKept names values entries → put_all m (zip names values) ≡ put_all m entries
kept_put names values entries m kept = same_map text_total text_exact _ _ (λ q. later_text_stands m (zip names values) q ∙ kept.values q (get m q) ∙ sym (later_text_stands m entries q))

-- ---- what holds of each name and its value

pub there : {A X : Type 0} (Q : A → X → Type 0) (names : List A) (values : List X) (n : ℕ) (v : X) → AllZip Q names values → slice_get values n ≡ Some v → (name : A) × (slice_get names n ≡ Some name) × Q name v
there Q [] [] n v all at = absurd (cc)
there Q [] (w ∷ ws) n v all at = absurd all
there Q (m ∷ ms) [] n v all at = absurd all
there Q (m ∷ ms) (w ∷ ws) zero v all at = let same : w ≡ v = cc in (m, refl, subst (Q m) same all.0)
there Q (m ∷ ms) (w ∷ ws) (suc n) v all at = there Q ms ws n v all.1 at

all_put : {A X : Type 0} (Q : A → X → Type 0) (names : List A) (values : List X) (n : ℕ) (name : A) (v : X) → AllZip Q names values → Q name v → AllZip Q (put_at names n name) (put_at values n v)
all_put Q [] [] n name v all here = (here, tt)
all_put Q [] (w ∷ ws) n name v all here = absurd all
all_put Q (m ∷ ms) [] n name v all here = absurd all
all_put Q (m ∷ ms) (w ∷ ws) zero name v all here = (here, all.1)
all_put Q (m ∷ ms) (w ∷ ws) (suc n) name v all here = (all.0, all_put Q ms ws n name v all.1 here)

pub all_more : {X : Type 0} (Q : List ℕ → X → Type 0) (names after : List (List ℕ)) (values new : List X) (name : List ℕ) (n : ℕ) (v : X) → AllZip Q names values → HasNumber names after name n → new ≡ put_at values n v → Q name v
    → AllZip Q after new
all_more Q names after values new name n v all has put here = subst (λ l. AllZip Q l new) (sym has.names) (subst (AllZip Q (put_at names n name)) (sym put) (all_put Q names values n name v all here))
