-- The candidates by the rows of the types.
use Rattle.std.proofs.Common.{◌≡◌, ◌-◌, ◌+◌, ◌≤◌, ℕ, zero, suc, Bool, true, false, not, ◌&&◌, cond, List, [], ◌∷◌, length, take, drop, get_or, refl, sym, ap, ◌∙◌, arith, true≢false, ltb, leb, ⊎_elim, ◌==◌, ◌++◌, map, Some, None, Result, Ok, Err, append_assoc, add-one}
use Rattle.std.specs.List.{AllWithin, filter, enumerate_from}
use Rattle.std.specs.List.Sorted.{IsPartitionedBy, IsSortedBy, IsStableBy, ties}
use Rattle.std.specs.Cmp.{IsStrictWeakOrder, IsTotalOrder, unsigned_ties}
use Rattle.std.specs.Fn.{Called, ComparesAs}
use Rattle.std.specs.Ordering.{is_lt, is_le, is_eq, ordering_index, ordering_reverse, ordering_then, nat_cmp}
use Rattle.std.specs.declared.cmp.Ordering.{Ordering}
use Rattle.std.specs.declared.cmp.Ordering.TheVariants.{Less, Equal, Greater}
use denote.Param.Members.{Mut}
use denote.Ref.{Bor}
use Rattle.std.proofs.lemmas.Bool.{cases_lt, and_from}
use Rattle.std.proofs.lemmas.Cmp.{alike_right}
use Rattle.std.proofs.lemmas.Fn.{always_returns_same}
use Rattle.std.proofs.lemmas.List.Elements.{filter_agree}
use Rattle.std.proofs.lemmas.List.Sorted.{ranks_by, searchable_from_sorted, IsPartitionedBy-ltb, IsPartitionedBy-leb}
use Rattle.std.proofs.Math.Bool.{and-false}
use Rattle.std.specs.Prelude.{slice_get, slice_range}
use Rattle.std.proofs.lemmas.Bool.Decides.{nat_tests}
use Rattle.std.proofs.lemmas.List.{take-map, drop-map}
use Rattle.std.proofs.lemmas.Slice.Eq.{bytes_eq-Decides}
use Rattle.std.specs.Str.{bytes_eq}
use Rattle.std.specs.Cmp.Lexicographic.{texts_ties}
use Rattle.ebpf_base.proofs.Maps.{is_equal}
use Rattle.ebpf_base.specs.Maps.{text_cmp}
use Rattle.ebpf_btf.specs.declared.error.BtfError.{BtfError}
use Rattle.ebpf_btf.specs.declared.kind.BtfKind.{BtfKind}
use Rattle.ebpf_btf.specs.declared.types.BtfType.{BtfType}
use Rattle.ebpf_btf.specs.EssentialNames.{essential_name}
use Rattle.ebpf_btf.specs.Strings.{type_name}
use Rattle.ebpf_btf.specs.TypeInfo.{TypeInfo}
use Rattle.ebpf_btf.specs.Types.{kind_number, kind_of, is_kind}
use Rattle.ebpf_core_candidates.specs.TypeRows.{IsLowerBound, IsUpperBound, TypeKey, is_before, type_key_cmp, marked_row, named_row, row_key_cmp, row_key, readable_name, rows, type_rows_from, type_key_at, row_key_total, search_key}
use Rattle.ebpf_core_candidates.specs.declared.type_row.TypeRow.{TypeRow}
use Rattle.ebpf_core_candidates.specs.Candidates.{candidates, is_candidate, is_hash_marked, name_hash, has_kind}
use Rattle.ebpf_core_candidates.proofs.Names.{other_kind}

is_lt-index : (o : Ordering) → is_lt o ≡ ltb (ordering_index o) 1
is_lt-index Less = refl
is_lt-index Equal = refl
is_lt-index Greater = refl

is_le-index : (o : Ordering) → is_le o ≡ leb (ordering_index o) 1
is_le-index Less = refl
is_le-index Equal = refl
is_le-index Greater = refl

-- in a list that is sorted by keys what is below a key stands first
pub parted_lt : {X K : Type 0} {R : K → K → Ordering} → IsTotalOrder R → (key : X → K) (xs : List X) (k : K)
    → IsSortedBy (λ a b. is_lt (R (key a) (key b))) xs → IsPartitionedBy (λ y. is_lt (R (key y) k)) xs
parted_lt {R = R} o key xs k up i j d low high e =
    let at = IsPartitionedBy-ltb (λ y. ordering_index (R (key y) k)) xs 1 (searchable_from_sorted o key xs k up) in
    is_lt-index _ ∙ at i j d low high (sym (is_lt-index _) ∙ e)

-- and what is not above it
pub parted_le : {X K : Type 0} {R : K → K → Ordering} → IsTotalOrder R → (key : X → K) (xs : List X) (k : K)
    → IsSortedBy (λ a b. is_lt (R (key a) (key b))) xs → IsPartitionedBy (λ y. is_le (R (key y) k)) xs
parted_le {R = R} o key xs k up i j d low high e =
    let at = IsPartitionedBy-leb (λ y. ordering_index (R (key y) k)) xs 1 (searchable_from_sorted o key xs k up) in
    is_le-index _ ∙ at i j d low high (sym (is_le-index _) ∙ e)

-- a filter that passes one part
filter_part : {X : Type 0} (p : X → Bool) (xs : List X) (low n : ℕ)
    → AllWithin (λ y. p y ≡ false) xs 0 low → AllWithin (λ y. p y ≡ true) xs low (low + n) → AllWithin (λ y. p y ≡ false) xs (low + n) (length xs)
    → low + n ≤ length xs → filter p xs ≡ take n (drop low xs)
filter_part p [] zero zero before within after some = refl
filter_part p [] zero (suc n) before within after some = absurd (omega arith)
filter_part p [] (suc low) n before within after some = absurd (omega arith)
filter_part p (x ∷ xs) zero zero before within after some =
    let first : p x ≡ false = after 0 x (omega arith) (omega arith) in
    rw first (filter_part p xs zero zero (λ k d a b. absurd (omega arith)) (λ k d a b. absurd (omega arith)) (λ k d a b. after (suc k) d (omega arith) (omega arith)) (omega arith))
filter_part p (x ∷ xs) zero (suc n) before within after some =
    let first : p x ≡ true = within 0 x (omega arith) (omega arith) in
    rw first (ap (λ ys. x ∷ ys) (filter_part p xs zero n (λ k d a b. absurd (omega arith)) (λ k d a b. within (suc k) d (omega arith) (omega arith)) (λ k d a b. after (suc k) d (omega arith) (omega arith)) (omega arith)))
filter_part p (x ∷ xs) (suc low) n before within after some =
    let first : p x ≡ false = before 0 x (omega arith) (omega arith) in
    rw first (filter_part p xs low n (λ k d a b. before (suc k) d (omega arith) (omega arith)) (λ k d a b. within (suc k) d (omega arith) (omega arith)) (λ k d a b. after (suc k) d (omega arith) (omega arith)) (omega arith))

not_eq_below : (o : Ordering) → is_lt o ≡ true → is_eq o ≡ false
not_eq_below Less e = refl
not_eq_below Equal e = cc
not_eq_below Greater e = cc

eq_between : (o : Ordering) → is_lt o ≡ false → is_le o ≡ true → is_eq o ≡ true
eq_between Less e f = cc
eq_between Equal e f = refl
eq_between Greater e f = cc

not_eq_above : (o : Ordering) → is_le o ≡ false → is_eq o ≡ false
not_eq_above Less e = cc
not_eq_above Equal e = cc
not_eq_above Greater e = refl

not_both : (o : Ordering) → is_lt o ≡ true → is_le o ≡ false → ⊥
not_both Less e f = cc
not_both Equal e f = cc
not_both Greater e f = cc

-- what is below ends before what is not above
pub ends_in_order : {X : Type 0} (c : X → Ordering) (xs : List X) (low high : ℕ) → low ≤ length xs → IsLowerBound c xs low → IsUpperBound c xs high → low ≤ high
ends_in_order c [] low high inside below upto = omega arith
ends_in_order c (x ∷ xs) low high inside below upto =
    ⊎_elim (λ less. absurd (not_both (c (get_or (x ∷ xs) high x)) (below.0 high x (omega arith) less) (upto.1 high x (omega arith) (omega arith)))) (λ more. more) (cases_lt high low)

-- what has the key stands between the two
pub filter_between : {X : Type 0} (c : X → Ordering) (xs : List X) (low high : ℕ) → low ≤ high → high ≤ length xs
    → IsLowerBound c xs low → IsUpperBound c xs high → filter (λ y. is_eq (c y)) xs ≡ take (high - low) (drop low xs)
filter_between c xs low high order inside below upto =
    filter_part (λ y. is_eq (c y)) xs low (high - low)
    (λ k d a b. not_eq_below _ (below.0 k d a b))
    (λ k d a b. eq_between _ (below.1 k d a (omega arith)) (upto.0 k d (omega arith) (omega arith)))
    (λ k d a b. not_eq_above _ (upto.1 k d (omega arith) b))
    (omega arith)

-- ---- a stable sort keeps what has a key

same_tie : (o : Ordering) → (not (is_lt (ordering_reverse o)) && not (is_lt o)) ≡ is_eq o
same_tie Less = refl
same_tie Equal = refl
same_tie Greater = refl

ties-is_eq : {X K : Type 0} {R : K → K → Ordering} → IsTotalOrder R → (key : X → K) (x y : X)
    → ties (λ a b. is_lt (R (key a) (key b))) x y ≡ is_eq (R (key y) (key x))
ties-is_eq {R = R} o key x y = ap (λ q. not (is_lt q) && not (is_lt (R (key y) (key x)))) (o.antisymm (key x) (key y)) ∙ same_tie (R (key y) (key x))

-- what a filter finds first passes it
first_passes : {X : Type 0} (p : X → Bool) (xs : List X) (x : X) (rest : List X) → filter p xs ≡ x ∷ rest → p x ≡ true
first_passes p [] x rest is = cc
first_passes p (y ∷ ys) x rest is = by_test (λ same. first_passes p ys x rest same) (p y) refl is
  where
    by_test : (filter p ys ≡ x ∷ rest → p x ≡ true) → (b : Bool) → p y ≡ b → cond b (y ∷ filter p ys) (filter p ys) ≡ x ∷ rest → p x ≡ true
    by_test later true e same = let one : y ≡ x = cc in ap p (sym one) ∙ e
    by_test later false e same = later same

-- where an element has the key, those that have it keep their order
filter_tied : {X K : Type 0} {R : K → K → Ordering} → IsTotalOrder R → (key : X → K) (xs ys : List X) (k : K) (x : X) → is_eq (R (key x) k) ≡ true
    → IsStableBy (λ a b. is_lt (R (key a) (key b))) xs ys → filter (λ y. is_eq (R (key y) k)) ys ≡ filter (λ y. is_eq (R (key y) k)) xs
filter_tied {X} {R = R} o key xs ys k x has stable =
    let same : (y : X) → ties (λ a b. is_lt (R (key a) (key b))) x y ≡ is_eq (R (key y) k) =
    λ (y : X). ties-is_eq o key x y ∙ ap is_eq (alike_right o (key x) k (key y) (is_equal (R (key x) k) has)) in
    sym (filter_agree (ties (λ a b. is_lt (R (key a) (key b))) x) (λ y. is_eq (R (key y) k)) same ys)
    ∙ stable x
    ∙ filter_agree (ties (λ a b. is_lt (R (key a) (key b))) x) (λ y. is_eq (R (key y) k)) same xs

pub filter_sorted : {X K : Type 0} {R : K → K → Ordering} → IsTotalOrder R → (key : X → K) (xs ys : List X) (k : K)
    → IsStableBy (λ a b. is_lt (R (key a) (key b))) xs ys → filter (λ y. is_eq (R (key y) k)) ys ≡ filter (λ y. is_eq (R (key y) k)) xs
filter_sorted {X} {R = R} o key xs ys k stable = by_found (filter p ys) refl (filter p xs) refl
  where
    p : X → Bool
    p y = is_eq (R (key y) k)

    by_found : (us : List X) → filter p ys ≡ us → (vs : List X) → filter p xs ≡ vs → filter p ys ≡ filter p xs
    by_found [] none [] nothing = none ∙ sym nothing
    by_found (u ∷ us) some vs other = filter_tied o key xs ys k u (first_passes p ys u us some) stable
    by_found [] none (v ∷ vs) some = filter_tied o key xs ys k v (first_passes p xs v vs some) stable

-- ---- what a sort ensures of the closure that compares

pub from_closure : {X K : Type 0} {R : K → K → Ordering} (o : IsTotalOrder R) (key : X → K) (P : (X → X → Bool) → Type 0)
    {F : Type 0} {g : Mut F (Bor X × (Bor X × Unit {0})) Ordering} {f : F} → ((lt : X → X → Bool) → IsStrictWeakOrder lt → ComparesAs g lt f → P lt)
    → ((a : Bor X × (Bor X × Unit {0})) (r : Ordering) (f' : F) → Called g f a r f' → (r ≡ R (key a.0.now) (key a.1.0.now)) × (f' ≡ f))
    → P (λ x y. is_lt (R (key x) (key y)))
from_closure {R = R} o key P {g = g} {f = f} clause answers =
    clause (λ x y. is_lt (R (key x) (key y))) (ranks_by o key)
    (always_returns_same g (λ a r. is_lt r ≡ is_lt (R (key a.0.now) (key a.1.0.now))) f (λ a r f' k. (ap is_lt (answers a r f' k).0, (answers a r f' k).1)))

-- ---- a stable sort by less than the whole order

filter_within : {X : Type 0} (p q : X → Bool) → ((x : X) → p x ≡ true → q x ≡ true) → (xs : List X) → filter p (filter q xs) ≡ filter p xs
filter_within p q follows [] = refl
filter_within {X} p q follows (x ∷ xs) = by_tests (p x) refl (q x) refl (filter_within p q follows xs)
  where
    by_tests : (b : Bool) → p x ≡ b → (c : Bool) → q x ≡ c → filter p (filter q xs) ≡ filter p xs
        → filter p (cond c (x ∷ filter q xs) (filter q xs)) ≡ cond b (x ∷ filter p xs) (filter p xs)
    by_tests true e true f rest = rw e (ap (λ ys. x ∷ ys) rest)
    by_tests true e false f rest = absurd (true≢false (sym (follows x e) ∙ f))
    by_tests false e true f rest = rw e rest
    by_tests false e false f rest = rest

pub stable_finer : {X : Type 0} (lt fine : X → X → Bool) → ((x y : X) → ties fine x y ≡ true → ties lt x y ≡ true)
    → (xs ys : List X) → IsStableBy lt xs ys → IsStableBy fine xs ys
stable_finer lt fine follows xs ys stable x =
    sym (filter_within (ties fine x) (ties lt x) (follows x) ys) ∙ ap (filter (ties fine x)) (stable x) ∙ filter_within (ties fine x) (ties lt x) (follows x) xs

pub stable_twice : {X : Type 0} (lt : X → X → Bool) (xs ys zs : List X) → IsStableBy lt xs ys → IsStableBy lt ys zs → IsStableBy lt xs zs
stable_twice lt xs ys zs first second x = second x ∙ first x

tie_left : (a b : Ordering) (c : Bool) → (not (is_lt (ordering_then a b)) && c) ≡ true → not (is_lt a) ≡ true
tie_left Less b c e = cc
tie_left Equal b c e = refl
tie_left Greater b c e = refl

tie_right : (a b : Ordering) (c : Bool) → (c && not (is_lt (ordering_then a b))) ≡ true → not (is_lt a) ≡ true
tie_right Less b true e = cc
tie_right Less b false e = cc
tie_right Equal b c e = refl
tie_right Greater b c e = refl

-- what ties by a first part and then by another ties by the first
pub ties_first : (a b c d : Ordering) → (not (is_lt (ordering_then a b)) && not (is_lt (ordering_then c d))) ≡ true → (not (is_lt a) && not (is_lt c)) ≡ true
ties_first a b c d e = and_from (not (is_lt a)) (not (is_lt c)) (tie_left a b (not (is_lt (ordering_then c d))) e) (tie_right c d (not (is_lt (ordering_then a b))) e)

-- ---- the candidates by the rows of the types

own_reverse : (o : Ordering) → o ≡ ordering_reverse o → Equal ≡ o
own_reverse Less same = grind (arith, same)
own_reverse Equal same = refl
own_reverse Greater same = grind (arith, same)

-- rows with one hash and one type key have one row key
pub same_row_key : (info : TypeInfo) (a b : TypeRow) → a.hash ≡ b.hash → type_key_at info a.id ≡ type_key_at info b.id
    → Equal ≡ row_key_cmp (row_key info a) (row_key info b)
same_row_key info a b hashes keys =
    own_reverse _ (row_key_total.antisymm (row_key info a) (row_key info a))
    ∙ ap (λ hash. row_key_cmp (row_key info a) (hash, type_key_at info a.id)) hashes
    ∙ ap (λ key. row_key_cmp (row_key info a) (b.hash, key)) keys

is_eq-then : (a b : Ordering) → is_eq (ordering_then a b) ≡ (is_eq a && is_eq b)
is_eq-then Less b = refl
is_eq-then Equal b = refl
is_eq-then Greater b = refl

is_eq-nat : (m n : ℕ) → is_eq (nat_cmp m n) ≡ (m == n)
is_eq-nat m n = sym (unsigned_ties m n)

is_eq-key : (a b : TypeKey) → is_eq (type_key_cmp a b) ≡ ((a.kind == b.kind) && bytes_eq a.name b.name)
is_eq-key a b =
    is_eq-then (nat_cmp a.kind b.kind) (text_cmp a.name b.name) ∙ ap (λ p. p && is_eq (text_cmp a.name b.name)) (is_eq-nat a.kind b.kind)
    ∙ ap (λ p. (a.kind == b.kind) && p) (sym (texts_ties a.name b.name))

-- equal names have one hash
same_hash : (k l : ℕ) (a b : List ℕ) → ((name_hash a == name_hash b) && ((k == l) && bytes_eq a b)) ≡ ((k == l) && bytes_eq a b)
same_hash k l a b = by_kinds (k == l) refl (bytes_eq a b) refl
  where
    by_kinds : (p : Bool) → (k == l) ≡ p → (q : Bool) → bytes_eq a b ≡ q → ((name_hash a == name_hash b) && (p && q)) ≡ (p && q)
    by_kinds true d true e =
        let names : a ≡ b = (bytes_eq-Decides a b).0 e in
        let hash : name_hash a ≡ name_hash b = ap name_hash names in
        let yes : (name_hash a == name_hash b) ≡ true = grind (arith, nat_tests) in
        rw yes refl
    by_kinds true d false e = and-false (name_hash a == name_hash b)
    by_kinds false d q e = and-false (name_hash a == name_hash b)

-- a row key is the wanted one where its kind and name are
is_search_key : (kind other : ℕ) (name text : List ℕ)
    → is_eq (row_key_cmp (name_hash text, record { kind = kind; name = text }) (search_key other name)) ≡ ((kind == other) && bytes_eq text name)
is_search_key kind other name text =
    let mine : TypeKey = record { kind = kind; name = text } in
    let theirs : TypeKey = record { kind = other; name = name } in
    is_eq-then (nat_cmp (name_hash text) (name_hash name)) (type_key_cmp mine theirs)
    ∙ ap (λ p. p && is_eq (type_key_cmp mine theirs)) (is_eq-nat (name_hash text) (name_hash name))
    ∙ ap (λ p. (name_hash text == name_hash name) && p) (is_eq-key mine theirs)
    ∙ same_hash kind other text name

cond_step : (b c : Bool) (r : TypeRow) (rest : List TypeRow) (e : ℕ × BtfType) (others : List (ℕ × BtfType)) → b ≡ c → r.id ≡ e.0
    → map (λ x. x.id) rest ≡ map (λ x. x.0) others → map (λ x. x.id) (cond b (r ∷ rest) rest) ≡ map (λ x. x.0) (cond c (e ∷ others) others)
cond_step true true r rest e others same id more = cc
cond_step true false r rest e others same id more = cc
cond_step false true r rest e others same id more = cc
cond_step false false r rest e others same id more = more

get_front : {X : Type 0} (id : ℕ) (all : List X) (t : X) (ts : List X) → drop id all ≡ t ∷ ts → slice_get all id ≡ Some t
get_front zero [] t ts is = cc
get_front zero (x ∷ xs) t ts is = cc
get_front (suc id) [] t ts is = cc
get_front (suc id) (x ∷ xs) t ts is = get_front id xs t ts is

drop_front : {X : Type 0} (id : ℕ) (all : List X) (t : X) (ts : List X) → drop id all ≡ t ∷ ts → drop (suc id) all ≡ ts
drop_front zero [] t ts is = cc
drop_front zero (x ∷ xs) t ts is = cc
drop_front (suc id) [] t ts is = cc
drop_front (suc id) (x ∷ xs) t ts is = drop_front id xs t ts is

-- the rows with a kind and an essential name are those of the candidates
module _ (chosen : List Bool) (marks : List Bool) (info : TypeInfo) (kind : BtfKind) (among : has_kind chosen kind ≡ true) (name : List ℕ) (first : ℕ) (others : List ℕ) (named : essential_name name ≡ first ∷ others) (marked : is_hash_marked marks (name_hash (first ∷ others)) ≡ true) where
  abbrev has : TypeRow → Bool
  has r = is_eq (row_key_cmp (row_key info r) (search_key (kind_number kind) (first ∷ others)))

  abbrev Same : ℕ → List BtfType → Type 0
  Same id ts = map (λ r. r.id) (filter has (type_rows_from chosen marks info id ts)) ≡ map (λ e. e.0) (filter (λ e. is_candidate info kind name e.1) (enumerate_from id ts))

  -- of a type of another kind
  by_other : (id : ℕ) (t : BtfType) (ts : List BtfType) → has_kind chosen (kind_of t) ≡ false → Same (id + 1) ts → Same id (t ∷ ts)
  by_other id t ts out rest = let other : is_kind kind t ≡ false = other_kind chosen t kind out among in rw (out, other) rest

  -- a name whose hash isn't marked is another one
  other_name : (text : List ℕ) → is_hash_marked marks (name_hash text) ≡ false → bytes_eq text (first ∷ others) ≡ false
  other_name text out = by_test (bytes_eq text (first ∷ others)) refl
    where
      by_test : (b : Bool) → bytes_eq text (first ∷ others) ≡ b → bytes_eq text (first ∷ others) ≡ false
      by_test true is =
          let same : text ≡ first ∷ others = (bytes_eq-Decides text (first ∷ others)).0 is in
          absurd (true≢false (sym marked ∙ sym (ap (λ n. is_hash_marked marks (name_hash n)) same) ∙ out))
      by_test false is = is

  -- of a type whose name was read
  by_text : (id : ℕ) (t : BtfType) (ts : List BtfType) (text : List ℕ) → has_kind chosen (kind_of t) ≡ true → slice_get info.types id ≡ Some t → type_name info t ≡ Ok text → Same (id + 1) ts
      → (essential : List ℕ) → essential_name text ≡ essential → Same id (t ∷ ts)
  by_text id t ts text in_it here is rest [] e = rw (in_it, is, e, named, and-false (is_kind kind t)) rest
  by_text id t ts text in_it here is rest (x ∷ xs) e = by_mark (is_hash_marked marks (name_hash (x ∷ xs))) refl
    where
      by_mark : (b : Bool) → is_hash_marked marks (name_hash (x ∷ xs)) ≡ b → Same id (t ∷ ts)
      by_mark true in_marks =
          let row : TypeRow = record { hash = name_hash (x ∷ xs); id = id } in
          let wanted : row_key info row ≡ (name_hash (x ∷ xs), record { kind = kind_number (kind_of t); name = x ∷ xs }) = rw (here, is, e) refl in
          let test : has row ≡ (is_kind kind t && bytes_eq (x ∷ xs) (first ∷ others)) =
          ap (λ p. is_eq (row_key_cmp p (search_key (kind_number kind) (first ∷ others)))) wanted ∙ is_search_key (kind_number (kind_of t)) (kind_number kind) (first ∷ others) (x ∷ xs) in
          rw (in_it, is, e, in_marks, named) (cond_step (has row) _ row _ (id, t) _ test refl rest)
      by_mark false out = rw (in_it, is, e, out, named, other_name (x ∷ xs) out, and-false (is_kind kind t)) rest

  by_name : (id : ℕ) (t : BtfType) (ts : List BtfType) → has_kind chosen (kind_of t) ≡ true → slice_get info.types id ≡ Some t → Same (id + 1) ts
      → (r : Result (List ℕ) BtfError) → type_name info t ≡ r → Same id (t ∷ ts)
  by_name id t ts in_it here rest (Err e) is = rw (in_it, is, and-false (is_kind kind t)) rest
  by_name id t ts in_it here rest (Ok text) is = by_text id t ts text in_it here is rest (essential_name text) refl

  by_kind : (id : ℕ) (t : BtfType) (ts : List BtfType) → slice_get info.types id ≡ Some t → Same (id + 1) ts → (b : Bool) → has_kind chosen (kind_of t) ≡ b → Same id (t ∷ ts)
  by_kind id t ts here rest true is = by_name id t ts is here rest (type_name info t) refl
  by_kind id t ts here rest false is = by_other id t ts is rest

  pub rows_found : (id : ℕ) (ts : List BtfType) → drop id info.types ≡ ts → Same id ts
  rows_found id [] at = refl
  rows_found id (t ∷ ts) at =
      by_kind id t ts (get_front id info.types t ts at) (rows_found (id + 1) ts (rw (add-one id) (drop_front id info.types t ts at))) (has_kind chosen (kind_of t)) refl

-- the ids of the part of the sorted rows that has the key
pub candidates_found : (chosen : List Bool) (marks : List Bool) (info : TypeInfo) (kind : BtfKind) → has_kind chosen kind ≡ true → (name : List ℕ) (sorted : List TypeRow) (ids : List ℕ) (low high number : ℕ) (first : ℕ) (others : List ℕ)
    → number ≡ kind_number kind → essential_name name ≡ first ∷ others → is_hash_marked marks (name_hash (first ∷ others)) ≡ true → IsStableBy (is_before info) (rows chosen marks info) sorted → ids ≡ map (λ r. r.id) sorted
    → filter (λ r. is_eq (row_key_cmp (row_key info r) (search_key number (first ∷ others)))) sorted ≡ slice_range sorted low high
    → take (high - low) (drop low ids) ≡ candidates info kind name
candidates_found chosen marks info kind among name sorted ids low high number first others same_kind named marked stable same_ids part =
    let k = search_key (kind_number kind) (first ∷ others) in
    let there : filter (λ r. is_eq (row_key_cmp (row_key info r) k)) sorted ≡ slice_range sorted low high = rw (← same_kind) part in
    let sorting : filter (λ r. is_eq (row_key_cmp (row_key info r) k)) sorted ≡ filter (λ r. is_eq (row_key_cmp (row_key info r) k)) (rows chosen marks info) =
    filter_sorted row_key_total (row_key info) (rows chosen marks info) sorted k stable in
    rw same_ids (
    ap (take (high - low)) (drop-map (λ (r : TypeRow). r.id) low sorted)
    ∙ take-map (λ (r : TypeRow). r.id) (high - low) (drop low sorted)
    ∙ ap (λ rs. map (λ (r : TypeRow). r.id) rs) (sym there ∙ sorting)
    ∙ rows_found chosen marks info kind among name first others named marked 0 info.types refl)

-- the same of a text that is not empty
pub candidates_named : (chosen : List Bool) (marks : List Bool) (info : TypeInfo) (kind : BtfKind) → has_kind chosen kind ≡ true → (name : List ℕ) (sorted : List TypeRow) (ids : List ℕ) (low high number : ℕ) (text : List ℕ)
    → number ≡ kind_number kind → text ≡ essential_name name → ((text ≡ []) → ⊥) → is_hash_marked marks (name_hash text) ≡ true → IsStableBy (is_before info) (rows chosen marks info) sorted → ids ≡ map (λ r. r.id) sorted
    → filter (λ r. is_eq (row_key_cmp (row_key info r) (search_key number text))) sorted ≡ slice_range sorted low high
    → take (high - low) (drop low ids) ≡ candidates info kind name
candidates_named chosen marks info kind among name sorted ids low high number [] same_kind named some marked stable same_ids part = absurd (some refl)
candidates_named chosen marks info kind among name sorted ids low high number (x ∷ xs) same_kind named some marked stable same_ids part =
    candidates_found chosen marks info kind among name sorted ids low high number x xs same_kind (sym named) marked stable same_ids part

-- ---- one pass over the types

-- a type of another kind is passed over
pub rows_pass : (chosen : List Bool) (marks : List Bool) (info : TypeInfo) (types : List BtfType) (i : ℕ) (t : BtfType) → drop i types ≡ t ∷ drop (i + 1) types
    → has_kind chosen (kind_of t) ≡ false → type_rows_from chosen marks info (i + 1) (drop (i + 1) types) ≡ type_rows_from chosen marks info i (drop i types)
rows_pass chosen marks info types i t here out = rw (here, out) refl

-- so is one without a marked name
pub rows_skip : (chosen : List Bool) (marks : List Bool) (info : TypeInfo) (types : List BtfType) (i : ℕ) (t : BtfType) → drop i types ≡ t ∷ drop (i + 1) types → has_kind chosen (kind_of t) ≡ true
    → marked_row marks (named_row i (readable_name info t)) ≡ None → type_rows_from chosen marks info (i + 1) (drop (i + 1) types) ≡ type_rows_from chosen marks info i (drop i types)
rows_skip chosen marks info types i t here among none = rw (here, among, none) refl

-- and a row is the next
pub rows_more : (chosen : List Bool) (marks : List Bool) (info : TypeInfo) (types : List BtfType) (i : ℕ) (t : BtfType) (front : List TypeRow) (row : TypeRow) → drop i types ≡ t ∷ drop (i + 1) types → has_kind chosen (kind_of t) ≡ true
    → marked_row marks (named_row i (readable_name info t)) ≡ Some row → (front ++ row ∷ []) ++ type_rows_from chosen marks info (i + 1) (drop (i + 1) types) ≡ front ++ type_rows_from chosen marks info i (drop i types)
rows_more chosen marks info types i t front row here among some = rw (here, among, some) (append_assoc front (row ∷ []) (type_rows_from chosen marks info (i + 1) (drop (i + 1) types)))

pub named : (i : ℕ) (name : List ℕ) → ((name ≡ []) → ⊥) → named_row i (Some name) ≡ Some (record { hash = name_hash name; id = i })
named i [] some = absurd (some refl)
named i (x ∷ xs) some = refl

-- of a row whose hash is marked, and of one whose hash isn't
pub in_marks : (marks : List Bool) (row : TypeRow) → is_hash_marked marks row.hash ≡ true → marked_row marks (Some row) ≡ Some row
in_marks marks row marked = rw marked refl

pub out_of_marks : (marks : List Bool) (row : TypeRow) → is_hash_marked marks row.hash ≡ false → marked_row marks (Some row) ≡ None
out_of_marks marks row out = rw out refl
