-- Items one after the other.
use Rattle.std.proofs.Common.{◌≡◌, ◌+◌, ◌*◌, ◌<◌, ◌≤◌, ℕ, List, [], get_or, sym, ◌∷◌, ◌++◌, drop, add-one, Some, None, length, refl, ap, ◌∙◌, arith, Bool, true, false}
use Rattle.std.specs.Prelude.{slice_get, map, ◌||◌}
use Rattle.std.specs.List.{range_with_len, list_any}
use Rattle.std.proofs.lemmas.List.FromFn.{length-map-range_with_len, get_or-map-range_with_len, map-range_with_len_more}
use Rattle.std.proofs.lemmas.Option.{slice_get-get_or, slice_get_past, slice_get_within, get_or_from_slice_get}
use Rattle.std.proofs.Math.Seq.{drop-cons}
use Rattle.std.proofs.Math.ListN.{drop_of_length-le}
use Rattle.ebpf_btf.specs.Items.{items_at}
use Rattle.std.proofs.Math.Nat.{mul-le-mul_left}

pub items_length : {X : Type 0} (item : ℕ → X) (size offset n : ℕ) → length (items_at item size offset n) ≡ n
unfolding items_at
items_length item size offset n = length-map-range_with_len (λ k. item (offset + size * k)) 0 n

pub item_some : {X : Type 0} (item : ℕ → X) (size offset n k : ℕ) → k < n → slice_get (items_at item size offset n) k ≡ Some (item (offset + size * k))
unfolding items_at
item_some item size offset n k below =
    let whole = length-map-range_with_len (λ k. item (offset + size * k)) 0 n in
    let there = get_or-map-range_with_len (λ k. item (offset + size * k)) 0 n k k (item (offset + size * k)) below (omega arith) in
    slice_get-get_or (map (λ k. item (offset + size * k)) (range_with_len 0 n)) k (item (offset + size * k)) (omega arith) ∙ ap Some there

pub item_none : {X : Type 0} (item : ℕ → X) (size offset n k : ℕ) → n ≤ k → slice_get (items_at item size offset n) k ≡ None
unfolding items_at
item_none item size offset n k past =
    let whole = length-map-range_with_len (λ k. item (offset + size * k)) 0 n in
    slice_get_past (map (λ k. item (offset + size * k)) (range_with_len 0 n)) k (omega arith)

pub items_none : {X : Type 0} (item : ℕ → X) (size offset : ℕ) → items_at item size offset 0 ≡ []
unfolding items_at
items_none item size offset = refl

-- one item more
pub items_more : {X : Type 0} (item : ℕ → X) (size offset n : ℕ)
    → items_at item size offset (n + 1) ≡ items_at item size offset n ++ item (offset + size * n) ∷ []
unfolding items_at
items_more item size offset n = map-range_with_len_more (λ k. item (offset + size * k)) 0 n n (omega arith)

-- ---- what is behind an offset of a list

pub drop_some : {X : Type 0} (xs : List X) (x : X) (k : ℕ) → slice_get xs k ≡ Some x → drop k xs ≡ x ∷ drop (k + 1) xs
drop_some xs x k is =
    rw (drop-cons xs k x (slice_get_within xs k x is), get_or_from_slice_get xs k x x is, add-one) refl

pub drop_none : {X : Type 0} (xs : List X) (k : ℕ) → length xs ≤ k → drop k xs ≡ []
drop_none xs k past = drop_of_length-le xs past

-- an item that is got is the one at its offset
pub item_read : {X : Type 0} (xs : List X) (x : X) (k : ℕ) → slice_get xs k ≡ Some x → x ≡ get_or xs k x
item_read xs x k is = sym (get_or_from_slice_get xs k x x is)

-- ---- records of a size, one after the other

-- each of them is inside what has all
pub record_inside : (offset size count k least n : ℕ) → k < count → offset + size * count ≤ n → least ≤ size → offset + size * k + least ≤ n
record_inside offset size count k least n below whole long =
    let fits : size * (k + 1) ≤ size * count = mul-le-mul_left size (omega arith) in
    omega arith

-- ---- whether one of a list passes, looked at one after the other

pub any_here : {X : Type 0} (test : X → Bool) (xs : List X) (k : ℕ) (x : X) → slice_get xs k ≡ Some x → test x ≡ true → list_any test (drop k xs) ≡ true
any_here test xs k x is passes = ap (list_any test) (drop_some xs x k is) ∙ ap (λ b. b || list_any test (drop (k + 1) xs)) passes

pub any_past : {X : Type 0} (test : X → Bool) (xs : List X) (k : ℕ) (x : X) → slice_get xs k ≡ Some x → test x ≡ false
    → list_any test (drop k xs) ≡ list_any test (drop (k + 1) xs)
any_past test xs k x is fails = ap (list_any test) (drop_some xs x k is) ∙ ap (λ b. b || list_any test (drop (k + 1) xs)) fails

pub any_over : {X : Type 0} (test : X → Bool) (xs : List X) (k : ℕ) → length xs ≤ k → list_any test (drop k xs) ≡ false
any_over test xs k past = ap (list_any test) (drop_none xs k past)
