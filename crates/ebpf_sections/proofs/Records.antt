-- Indices of records, sorted by slots, and the records of sections by their names.
use Rattle.std.proofs.Common.{◌≡◌, ℕ, zero, suc, ◌<◌, ◌≤◌, true, List, [], ◌∷◌, length, get_or, arith, ◌+◌, ◌-◌, Bool, false, not, ◌&&◌, ◌++◌, map, filter, refl, sym, ap, subst, ◌∙◌, append_assoc, append-nil, All, cond, Option, Some, None}
use Rattle.std.proofs.lemmas.Bool.Decides.{nat_tests}
use Rattle.std.proofs.lemmas.List.{map-id}
use Rattle.std.proofs.lemmas.List.Elements.{filter_agree, All-filter}
use Rattle.std.proofs.lemmas.List.FromFn.{length-range_with_len, get_or-range_with_len}
use Rattle.std.proofs.lemmas.List.Kept.{IsStrictlySortedBy-filter}
use Rattle.std.proofs.lemmas.List.Sorted.{IsPermutation-refl, IsPermutation-sym, IsPermutation-map, IsPermutation-filter_both, IsPermutation-trans, IsPermutation-append_right, list_any-IsPermutation}
use Rattle.std.proofs.lemmas.Map.Keys.{IsDistinct-from_sorted, IsDistinct-IsPermutation}
use Rattle.std.proofs.lemmas.Map.Views.{tells_apart}
use Rattle.std.specs.Cmp.{nat_cmp_total, eq_by_cmp_equiv}
use Rattle.std.specs.FinMap.{nat_cmp-IsAntisymmetric, FinMap, get, insert, empty, get-insert, get-empty}
use Rattle.std.specs.List.{flat_map, range_with_len, AllByRecursion, IsDistinct}
use Rattle.std.specs.List.Sorted.{IsPermutation, IsSorted, IsStrictlySortedBy}
use Rattle.std.specs.Ordering.{nat_cmp, eq_by_cmp}
use Rattle.std.specs.Prelude.{◌==◌, nat_lt, unwrap_or}
use Rattle.std.specs.declared.cmp.Ordering.TheVariants.{Less}
use Rattle.ebpf_base.proofs.Lists.{filter-filter, filter-map, map-map}
use Rattle.ebpf_base.proofs.Maps.{strictly_sorted, same_keys}
use Rattle.ebpf_base.proofs.TextMaps.{text_exact}
use Rattle.ebpf_base.specs.Maps.{text_cmp, text_total}
use Rattle.ebpf_btf_ext.specs.ExtReading.{func_info_at, line_info_at, no_func_info, no_line_info, ExtInfo}
use Rattle.ebpf_btf_ext.specs.declared.ext_infos.FuncSecInfo.{FuncSecInfo}
use Rattle.ebpf_btf_ext.specs.declared.ext_infos.LineSecInfo.{LineSecInfo}
use Rattle.ebpf_sections.specs.Records.{slot_at, is_at_slot, is_slot_among, is_among_slots, indices_with, FuncAndLineInfo, func_and_line_info_of, AreRecordsOf, found_funcs, found_lines}
use Rattle.ebpf_sections.specs.declared.info_records.RecordIndex.{RecordIndex}
use Rattle.ebpf_sections.proofs.InOrder.{none_passes, stands_at}

-- ---- indices of records, sorted by slots: a part of them holds the records of some slots

bool_same : (a b : Bool) → (a ≡ true → b ≡ true) → (b ≡ true → a ≡ true) → a ≡ b
bool_same true b f g = sym (f refl)
bool_same false true f g = g refl
bool_same false false f g = refl

-- ---- numbers in order

above : (a b n : ℕ) → a < b → AllByRecursion (λ y. nat_cmp a y ≡ Less) (range_with_len b n)
above a b zero below = tt
above a b (suc n) below =
    let less : nat_lt a b ≡ true = grind (arith, nat_tests) in
    (rw less refl, above a (b + 1) n (omega arith))

range_rises : (a n : ℕ) → IsStrictlySortedBy nat_cmp (range_with_len a n)
unfolding IsStrictlySortedBy
range_rises a zero = tt
range_rises a (suc n) = (above a (a + 1) n (omega arith), range_rises (a + 1) n)

below_end : (n : ℕ) → All (λ i. i < n) (range_with_len 0 n)
below_end n = λ k d below.
    let inside : k < n = omega (arith, below, length-range_with_len 0 n) in
    let here : get_or (range_with_len 0 n) k d ≡ 0 + k = get_or-range_with_len 0 n k d inside in
    omega (arith, here, inside)

module _ {X : Type 0} (slot : X → ℕ) where
  one_slot : (s : ℕ) (x : X) → is_among_slots slot s 1 x ≡ (slot x == s)
  one_slot s x = bool_same _ _ (λ e. grind (arith, nat_tests)) (λ e. grind (arith, nat_tests))

  pub of_one_slot : (s : ℕ) (xs : List X) → filter (is_among_slots slot s 1) xs ≡ filter (λ x. slot x == s) xs
  of_one_slot s xs = filter_agree _ _ (one_slot s) xs

-- ---- gathered slot by slot, they only stand in another order

module _ {X : Type 0} (slot : X → ℕ) where
  none_in : (first : ℕ) (x : X) → is_among_slots slot first 0 x ≡ false
  none_in first x = bool_same _ _ (λ e. grind (arith, nat_tests)) (λ e. cc)

  first_is_in : (first n : ℕ) (x : X) → (is_among_slots slot first (suc n) x && stands_at slot first x) ≡ stands_at slot first x
  first_is_in first n x = bool_same _ _ (λ e. grind (arith, nat_tests)) (λ e. grind (arith, nat_tests))

  others_are_in : (first n : ℕ) (x : X) → (is_among_slots slot first (suc n) x && not (stands_at slot first x)) ≡ is_among_slots slot (first + 1) n x
  others_are_in first n x = bool_same _ _ (λ e. grind (arith, nat_tests)) (λ e. grind (arith, nat_tests))

  gathered : (xs : List X) (first count : ℕ) → IsPermutation (filter (is_among_slots slot first count) xs) (flat_map (λ s. filter (stands_at slot s) xs) (range_with_len first count))
  gathered xs first zero = subst (λ l. IsPermutation l []) (sym (none_passes (is_among_slots slot first 0) xs (λ k d below. none_in first (get_or xs k d)))) (IsPermutation-refl [])
  gathered xs first (suc n) =
      let all = filter (is_among_slots slot first (suc n)) xs in
      let split : IsPermutation all (filter (stands_at slot first) all ++ filter (λ x. not (stands_at slot first x)) all) = IsPermutation-filter_both (stands_at slot first) (λ x. not (stands_at slot first x)) (λ x. refl) all in
      let front : filter (stands_at slot first) all ≡ filter (stands_at slot first) xs = filter-filter (stands_at slot first) (is_among_slots slot first (suc n)) xs ∙ filter_agree _ _ (first_is_in first n) xs in
      let rest : filter (λ x. not (stands_at slot first x)) all ≡ filter (is_among_slots slot (first + 1) n) xs = filter-filter (λ x. not (stands_at slot first x)) (is_among_slots slot first (suc n)) xs ∙ filter_agree _ _ (others_are_in first n) xs in
      let parts : IsPermutation all (filter (stands_at slot first) xs ++ filter (is_among_slots slot (first + 1) n) xs) = subst (λ l. IsPermutation all (l ++ filter (is_among_slots slot (first + 1) n) xs)) front (subst (λ l. IsPermutation all (filter (stands_at slot first) all ++ l)) rest split) in
      IsPermutation-trans _ _ _ parts (IsPermutation-append_right (filter (stands_at slot first) xs) _ _ (gathered xs (first + 1) n))

  -- two lists with the same at each slot have the same at some slots, in another order
  same_parts : (xs ys : List X) (first count : ℕ) → ((s : ℕ) → filter (stands_at slot s) xs ≡ filter (stands_at slot s) ys) → IsPermutation (filter (is_among_slots slot first count) xs) (filter (is_among_slots slot first count) ys)
  same_parts xs ys first count same =
      let slots = range_with_len first count in
      let there : flat_map (λ s. filter (stands_at slot s) ys) slots ≡ flat_map (λ s. filter (stands_at slot s) xs) slots = λ i. flat_map (λ s. sym (same s) i) slots in
      IsPermutation-trans _ _ _ (gathered xs first count) (subst (λ l. IsPermutation l (filter (is_among_slots slot first count) ys)) there (IsPermutation-sym _ _ (gathered ys first count)))

-- ---- indices with the slots of a function

numbers_kept : (t : RecordIndex → Bool) (slot : ℕ → ℕ) (n : ℕ) → map (λ p. p.index) (filter t (indices_with slot n)) ≡ filter (λ i. t (record { slot = slot i; index = i })) (range_with_len 0 n)
numbers_kept t slot n =
    let row : ℕ → RecordIndex = λ i. record { slot = slot i; index = i } in
    ap (map (λ p. p.index)) (filter-map t row (range_with_len 0 n)) ∙ map-map (λ p. p.index) row (filter (λ i. t (row i)) (range_with_len 0 n)) ∙ map-id _

module _ (slot : ℕ → ℕ) (n first count : ℕ) (indices : List RecordIndex) (sorted : List ℕ) where
  -- sorted again they are the indices of the slots in order
  pub indices_in_order : ((q : ℕ) → filter (is_at_slot q) indices ≡ filter (is_at_slot q) (indices_with slot n))
      → IsPermutation (map (λ p. p.index) (filter (is_slot_among first count) indices)) sorted → IsSorted nat_cmp sorted
      → sorted ≡ filter (is_among_slots slot first count) (range_with_len 0 n)
  indices_in_order by_slot moved up =
      let wanted = filter (is_among_slots slot first count) (range_with_len 0 n) in
      let rising : IsStrictlySortedBy nat_cmp wanted = IsStrictlySortedBy-filter nat_cmp (is_among_slots slot first count) (range_with_len 0 n) (range_rises 0 n) in
      let apart : IsDistinct (eq_by_cmp nat_cmp) wanted = IsDistinct-from_sorted nat_cmp wanted rising in
      let parts : IsPermutation (filter (is_slot_among first count) (indices_with slot n)) (filter (is_slot_among first count) indices) = same_parts (λ p. p.slot) _ _ first count (λ q. sym (by_slot q)) in
      let numbers : IsPermutation wanted (map (λ p. p.index) (filter (is_slot_among first count) indices)) = subst (λ l. IsPermutation l (map (λ p. p.index) (filter (is_slot_among first count) indices))) (numbers_kept (is_slot_among first count) slot n) (IsPermutation-map (λ p. p.index) _ _ parts) in
      let all : IsPermutation wanted sorted = IsPermutation-trans _ _ _ numbers moved in
      let flips : (x y : ℕ) → eq_by_cmp nat_cmp x y ≡ eq_by_cmp nat_cmp y x = λ x y. (eq_by_cmp_equiv nat_cmp_total).symm x y in
      same_keys nat_cmp_total nat_cmp-IsAntisymmetric sorted wanted
      (strictly_sorted nat_cmp_total sorted up (IsDistinct-IsPermutation (eq_by_cmp nat_cmp) flips wanted sorted all apart))
      rising
      (λ q. sym (list_any-IsPermutation (eq_by_cmp nat_cmp q) wanted sorted all))

-- ---- what stands at the indices

-- what a list has at its indices is the list
indexed : {X : Type 0} (f : ℕ → X) (a : ℕ) (xs : List X) (d : X) → ((k : ℕ) → k < length xs → f (a + k) ≡ get_or xs k d) → map f (range_with_len a (length xs)) ≡ xs
indexed f a [] d at = refl
indexed f a (x ∷ xs) d at =
    let first : a + 0 ≡ a = omega arith in
    let head : f a ≡ x = ap f (sym first) ∙ at 0 (omega arith) in
    let rest : map f (range_with_len (a + 1) (length xs)) ≡ xs = indexed f (a + 1) xs d (λ k below. let next : a + 1 + k ≡ a + suc k = omega arith in ap f next ∙ at (suc k) (omega arith)) in
    λ i. head i ∷ rest i

rows_at_indices : {X Y : Type 0} (g : X → Y) (p : X → Bool) (xs : List X) (d : X) → map (λ i. g (get_or xs i d)) (filter (λ i. p (get_or xs i d)) (range_with_len 0 (length xs))) ≡ map g (filter p xs)
rows_at_indices {X = X} g p xs d =
    let at : ℕ → X = λ i. get_or xs i d in
    let numbers = range_with_len 0 (length xs) in
    sym (ap (map g) (filter-map p at numbers) ∙ map-map g at (filter (λ i. p (at i)) numbers))
    ∙ ap (λ l. map g (filter p l)) (indexed at 0 xs d (λ k below. let same : 0 + k ≡ k = omega arith in ap (λ n. get_or xs n d) same))

-- ---- the records of some slots

module _ {X : Type 0} (slot : X → ℕ) (zero_row : X) (first count : ℕ) (rows : List X) (indices : List RecordIndex) (sorted : List ℕ) where
  pub records_found : (from : X → X) → ((q : ℕ) → filter (is_at_slot q) indices ≡ filter (is_at_slot q) (indices_with (slot_at slot zero_row rows) (length rows)))
      → IsPermutation (map (λ p. p.index) (filter (is_slot_among first count) indices)) sorted → IsSorted nat_cmp sorted
      → map (λ i. from (get_or rows i zero_row)) sorted ≡ map from (filter (is_among_slots slot first count) rows)
  records_found from by_slot moved up =
      ap (map (λ i. from (get_or rows i zero_row))) (indices_in_order (slot_at slot zero_row rows) (length rows) first count indices sorted by_slot moved up)
      ∙ rows_at_indices from (is_among_slots slot first count) rows zero_row

  pub records_inside : ((q : ℕ) → filter (is_at_slot q) indices ≡ filter (is_at_slot q) (indices_with (slot_at slot zero_row rows) (length rows)))
      → IsPermutation (map (λ p. p.index) (filter (is_slot_among first count) indices)) sorted → IsSorted nat_cmp sorted
      → All (λ i. i < length rows) sorted
  records_inside by_slot moved up =
      subst (All (λ i. i < length rows)) (sym (indices_in_order (slot_at slot zero_row rows) (length rows) first count indices sorted by_slot moved up))
      (All-filter (is_among_slots (slot_at slot zero_row rows) first count) (λ i. i < length rows) (range_with_len 0 (length rows)) (below_end (length rows)))

-- slots that are counted from the first one
pub records_kept : {X : Type 0} (f : X → X) → ((x : X) → f x ≡ x) → (rows : List X) → map f rows ≡ rows
records_kept f same rows = (λ i. map (λ x. same x i) rows) ∙ map-id rows

-- ---- indices one after the other

pub indices_more : (slot : ℕ → ℕ) (xs : List RecordIndex) (n i : ℕ) (p : RecordIndex) → i < n → p ≡ record { slot = slot i; index = i }
    → (xs ++ p ∷ []) ++ map (λ k. record { slot = slot k; index = k }) (range_with_len (i + 1) (n - (i + 1))) ≡ xs ++ map (λ k. record { slot = slot k; index = k }) (range_with_len i (n - i))
indices_more slot xs n i p below here =
    let left : n - i ≡ suc (n - (i + 1)) = omega arith in
    append_assoc xs (p ∷ []) _
    ∙ ap (λ q. xs ++ q ∷ map (λ k. record { slot = slot k; index = k }) (range_with_len (i + 1) (n - (i + 1)))) here
    ∙ ap (λ k. xs ++ map (λ k. record { slot = slot k; index = k }) (range_with_len i k)) (sym left)

pub indices_start : (slot : ℕ → ℕ) (n : ℕ) → map (λ k. record { slot = slot k; index = k }) (range_with_len 0 (n - 0)) ≡ indices_with slot n
indices_start slot n =
    let all : n - 0 ≡ n = omega arith in
    ap (λ k. indices_with slot k) all

pub indices_none : (slot : ℕ → ℕ) (xs : List RecordIndex) (n i : ℕ) → n ≤ i → xs ++ map (λ k. record { slot = slot k; index = k }) (range_with_len i (n - i)) ≡ xs
indices_none slot xs n i past =
    let none : n - i ≡ 0 = omega arith in
    ap (λ k. xs ++ map (λ k. record { slot = slot k; index = k }) (range_with_len i k)) none ∙ append-nil xs

-- ---- tables that have at some names the func info and line info of the sections of these names

module _ (ext : Option ExtInfo) where
  pub none_are : (table : FinMap text_cmp FuncAndLineInfo) → table ≡ empty → AreRecordsOf ext table
  none_are table none = record { are = λ name records is. by_none name records (get table name) (ap (λ m. get m name) none ∙ get-empty text_cmp name) is }
    where
      by_none : (name : List ℕ) (records : FuncAndLineInfo) (o : Option FuncAndLineInfo) → o ≡ None → o ≡ Some records → records ≡ func_and_line_info_of ext name
      by_none name records None gone there_is = cc
      by_none name records (Some y) gone there_is = cc

  pub put_are : (table after : FinMap text_cmp FuncAndLineInfo) (n : List ℕ) (records : FuncAndLineInfo)
      → AreRecordsOf ext table → records ≡ func_and_line_info_of ext n → after ≡ insert table n records → AreRecordsOf ext after
  put_are table after n records before there put = record { are = λ name found is. by_same name found (eq_by_cmp text_cmp name n) refl (sym (ap (λ m. get m name) put ∙ get-insert text_total table n records name) ∙ is) }
    where
      by_same : (name : List ℕ) (found : FuncAndLineInfo) (b : Bool) → eq_by_cmp text_cmp name n ≡ b → cond b (Some records) (get table name) ≡ Some found → found ≡ func_and_line_info_of ext name
      by_same name found true same some =
          let there_is : records ≡ found = cc in
          sym there_is ∙ there ∙ ap (func_and_line_info_of ext) (sym (tells_apart text_exact name n same))
      by_same name found false same some = before.are name found some

-- ---- a section of a name that is not found has no func info and no line info

pub no_funcs : (found : Option (FinMap text_cmp FuncSecInfo)) (name : List ℕ) → found ≡ None → func_info_at (found_funcs found) name ≡ no_func_info
no_funcs found name none = rw none (ap (λ o. unwrap_or o no_func_info) (get-empty {X = FuncSecInfo} text_cmp name))

pub no_lines : (found : Option (FinMap text_cmp LineSecInfo)) (name : List ℕ) → found ≡ None → line_info_at (found_lines found) name ≡ no_line_info
no_lines found name none = rw none (ap (λ o. unwrap_or o no_line_info) (get-empty {X = LineSecInfo} text_cmp name))
