-- The maps that an iterator over a list gives are those of the list.
use Rattle.std.proofs.Common.{◌≡◌, Bool, true, false, List, map, length, sym, ◌∙◌, subst, ℕ, cond, [], ◌∷◌, Option, Some, refl, ap, suc, zero, ◌+◌, ◌-◌, ◌<◌, ◌≤◌, ◌++◌, take, drop, arith, nat_le, leb-true, leb-false, if◌then◌else◌, slice_get, ◌⊎◌, ⊎_elim, length-append, length-take, length-drop, ◌||◌}
use Rattle.std.proofs.lemmas.Iterator.{items_from_drains}
use Rattle.std.proofs.lemmas.Iterator.Adapters.{YieldsList-from_vec}
use Rattle.std.proofs.lemmas.List.{map-id}
use Rattle.std.specs.Prelude.{MatchBool, Result, Ok, Err, OnOk, IfErr, option_map}
use Rattle.std.specs.Iterator.{Drains}
use Rattle.std.specs.Vec.Iter.{into_iter_items, into_iter_len, into_iter_steps}
use Rattle.std.specs.declared.vec.IntoIter.{IntoIter}
use Rattle.std.specs.BTreeMap.{is_at}
use Rattle.std.specs.FinMap.{get, from_entries, entries}
use Rattle.std.specs.List.{IsDistinct, AllByRecursion, list_any}
use Rattle.std.specs.Map.{lookup, keys_of, values_of}
use Rattle.std.specs.Ordering.{eq_by_cmp}
use Rattle.std.specs.Str.{bytes_eq}
use Rattle.std.proofs.lemmas.Map.Text.{is_eq-slice_cmp}
use Rattle.std.specs.List.Sorted.{IsStrictlySortedBy}
use Rattle.std.specs.String.{string_cmp}
use Rattle.std.specs.declared.string.String.{String}
use denote.Ref.{Bor}
use Rattle.ebpf_base.proofs.Maps.{get-view}
use Rattle.ebpf_base.proofs.TextMaps.{entries-text}
use Rattle.ebpf_base.specs.Maps.{text_cmp, text_total, lent_bytes, by_bytes}
use Rattle.ebpf_object.specs.Patches.{global_of, globals_of, overwritten}
use Rattle.ebpf_reloc.specs.Maps.{GivenMap, LentMap, given_map}
use Rattle.ebpf_reloc.specs.Passes.{HoldsOfGivenMaps}

-- an iterator that gives all of a list
module _ {Z : Type 0} (s : IntoIter LentMap Z) (all : List LentMap) (items : into_iter_items s ≡ all) (len : into_iter_len s ≡ length all) where
  drained : (xs : List LentMap) → Drains (into_iter_steps {X = LentMap} {Z = Z}) s xs → xs ≡ all
  drained xs d = sym (map-id xs) ∙ items_from_drains xs (d.1.0, d.1.1, λ _. (d.0, d.1.2)) (YieldsList-from_vec all items len)

  of_all : (P : List GivenMap → Type 0) → HoldsOfGivenMaps (into_iter_steps {X = LentMap} {Z = Z}) s P → P (map given_map all)
  of_all P g = subst (λ (xs : List LentMap). P (map given_map xs)) (drained g.0 g.1) g.2

  pub given_ok : {U E : Type 0} (r : Result U E) (P : List GivenMap → Type 0) → OnOk r (HoldsOfGivenMaps (into_iter_steps {X = LentMap} {Z = Z}) s P) → OnOk r (P (map given_map all))
  given_ok (Ok u) P g = of_all P g
  given_ok (Err e) P g = g

  refused : (b : Bool) (N : Type 0) (P : List GivenMap → Type 0) → MatchBool b N (HoldsOfGivenMaps (into_iter_steps {X = LentMap} {Z = Z}) s P) → MatchBool b N (P (map given_map all))
  refused true N P g = g
  refused false N P g = of_all P g

  pub given_err : {U E : Type 0} (r : Result U E) (m : E → Bool) (N : E → Type 0) (P : E → List GivenMap → Type 0)
      → IfErr r (λ e. MatchBool (m e) (N e) (HoldsOfGivenMaps (into_iter_steps {X = LentMap} {Z = Z}) s (P e))) → IfErr r (λ e. MatchBool (m e) (N e) (P e (map given_map all)))
  given_err (Ok u) m N P g = g
  given_err (Err e) m N P g = refused (m e) (N e) (P e) g

-- of two facts of an answer, each
module _ {U E : Type 0} (A B : Type 0) where
  pub first_ok : (r : Result U E) → OnOk r (A × B) → OnOk r A
  first_ok (Ok u) both = both.0
  first_ok (Err e) both = both

  pub second_ok : (r : Result U E) → OnOk r (A × B) → OnOk r B
  second_ok (Ok u) both = both.1
  second_ok (Err e) both = both

-- ---- variables by name

abbrev pub Given : Type 0
Given = List (Bor (List ℕ) × (Bor (List ℕ) × Bool))

mapped : {A B : Type 0} (f : A → B) (b : Bool) (x : A) (o : Option A) → cond b (Some (f x)) (option_map f o) ≡ option_map f (cond b (Some x) o)
mapped f true x o = refl
mapped f false x o = refl

lookup_given : (es : Given) (q : List ℕ) → lookup (is_at (text_cmp q)) (map (λ e. (e.0.now, global_of e.1)) es) ≡ option_map global_of (lookup (λ k. bytes_eq q k.now) es)
lookup_given [] q = refl
lookup_given (e ∷ es) q = rw (is_eq-slice_cmp q e.0.now, lookup_given es q) (mapped global_of (bytes_eq q e.0.now) e.1 _)

pub get_given : (es : Given) (q : List ℕ) → get (globals_of es) q ≡ option_map global_of (lookup (λ k. bytes_eq q k.now) es)
get_given es q = get-view text_total (map (λ e. (e.0.now, global_of e.1)) es) q ∙ lookup_given es q

pub keys_given : (es : Given) → lent_bytes (keys_of es) ≡ keys_of (map (λ e. (e.0.now, global_of e.1)) es)
keys_given [] = refl
keys_given (e ∷ es) = ap (λ ks. e.0.now ∷ ks) (keys_given es)

pub distinct_given : (es : Given) → IsDistinct (λ (a b : Bor (List ℕ)). bytes_eq a.now b.now) (keys_of es) → IsDistinct (eq_by_cmp text_cmp) (keys_of (map (λ e. (e.0.now, global_of e.1)) es))
unfolding IsDistinct
distinct_given [] h = tt
distinct_given (e ∷ es) h = (apart es h.0, distinct_given es h.1)
  where
    apart : (fs : Given) → AllByRecursion (λ y. bytes_eq e.0.now y.now ≡ false) (keys_of fs) → AllByRecursion (λ y. eq_by_cmp text_cmp e.0.now y ≡ false) (keys_of (map (λ e. (e.0.now, global_of e.1)) fs))
    apart [] g = tt
    apart (f ∷ fs) g = (is_eq-slice_cmp e.0.now f.0.now ∙ g.0, apart fs g.1)

-- ---- bytes that are written over a part of others

at_left : (xs ys : List ℕ) (i : ℕ) → i < length xs → slice_get (xs ++ ys) i ≡ slice_get xs i
at_left [] ys i h = absurd (let no : ⊥ = omega arith in no)
at_left (x ∷ xs) ys zero h = refl
at_left (x ∷ xs) ys (suc i) h = at_left xs ys i (omega arith)

at_right : (xs ys : List ℕ) (i n : ℕ) → i ≡ length xs + n → slice_get (xs ++ ys) i ≡ slice_get ys n
at_right [] ys i n e = ap (slice_get ys) (let same : i ≡ n = omega arith in same)
at_right (x ∷ xs) ys zero n e = absurd (let no : ⊥ = omega arith in no)
at_right (x ∷ xs) ys (suc i) n e = at_right xs ys i n (omega arith)

at_take : (n : ℕ) (xs : List ℕ) (i : ℕ) → i < n → slice_get (take n xs) i ≡ slice_get xs i
at_take zero xs i h = absurd (let no : ⊥ = omega arith in no)
at_take (suc n) [] i h = refl
at_take (suc n) (x ∷ xs) zero h = refl
at_take (suc n) (x ∷ xs) (suc i) h = at_take n xs i (omega arith)

at_drop : (n : ℕ) (xs : List ℕ) (i p : ℕ) → p ≡ n + i → slice_get (drop n xs) i ≡ slice_get xs p
at_drop zero xs i p e = ap (slice_get xs) (let same : i ≡ p = omega arith in same)
at_drop (suc n) [] i p e = refl
at_drop (suc n) (x ∷ xs) i zero e = absurd (let no : ⊥ = omega arith in no)
at_drop (suc n) (x ∷ xs) i (suc p) e = at_drop n xs i p (omega arith)

module _ (old bytes : List ℕ) (offset : ℕ) where
  over : List ℕ
  over = take offset old ++ (bytes ++ drop (offset + length bytes) old)

  module _ (fits : offset + length bytes ≤ length old) where
    front : length (take offset old) ≡ offset
    front = simp length-take (omega arith)

    over_long : length over ≡ length old
    unfolding over
    over_long = simp (length-append, length-take, length-drop) (omega arith)

    over_before : (i : ℕ) → i < offset → slice_get over i ≡ slice_get old i
    unfolding over
    over_before i h = at_left (take offset old) _ i (omega (arith, front)) ∙ at_take offset old i h

    over_within : (i : ℕ) → offset ≤ i → i < offset + length bytes → slice_get over i ≡ slice_get bytes (i - offset)
    unfolding over
    over_within i low high =
        at_right (take offset old) _ i (i - offset) (omega (arith, front))
        ∙ at_left bytes _ (i - offset) (omega arith)

    over_behind : (i : ℕ) → offset + length bytes ≤ i → slice_get over i ≡ slice_get old i
    unfolding over
    over_behind i low =
        at_right (take offset old) _ i (i - offset) (omega (arith, front))
        ∙ at_right bytes _ (i - offset) (i - (offset + length bytes)) (omega arith)
        ∙ at_drop (offset + length bytes) old (i - (offset + length bytes)) i (omega arith)

  abbrev test : Bool
  test = nat_le (offset + length bytes) (length old)

  -- by whether the bytes pass the end
  by_test : (P : List ℕ → Type 0) → (offset + length bytes ≤ length old → P over) → P old → P (overwritten old offset bytes)
  unfolding over
  by_test P inside outside = elim test as (λ b. test ≡ b → P (if b then over else old)) [
    | true ↦ λ e. inside (leb-true _ _ e)
    | false ↦ λ e. outside
  ] refl

  pub overwritten_long : length (overwritten old offset bytes) ≡ length old
  overwritten_long = by_test (λ l. length l ≡ length old) over_long refl

  pub overwritten_beside : (i : ℕ) → (i < offset) ⊎ (offset + length bytes ≤ i) → slice_get (overwritten old offset bytes) i ≡ slice_get old i
  overwritten_beside i side = by_test (λ l. slice_get l i ≡ slice_get old i)
      (λ fits. ⊎_elim (over_before fits i) (over_behind fits i) side)
      refl

  pub overwritten_within : (i : ℕ) → offset + length bytes ≤ length old → offset ≤ i → i < offset + length bytes → slice_get (overwritten old offset bytes) i ≡ slice_get bytes (i - offset)
  unfolding over
  overwritten_within i fits low high = elim test as (λ b. test ≡ b → slice_get (if b then over else old) i ≡ slice_get bytes (i - offset)) [
    | true ↦ λ e. over_within fits i low high
    | false ↦ λ e. absurd (let low : length old < offset + length bytes = leb-false _ _ e in let no : ⊥ = omega arith in no)
  ] refl

-- ---- a test of the values of a map, and of its entries in the order of the keys

module _ {X Y : Type 0} where
  any-by_bytes : (test : X → Bool) (es : List (String Y × X)) → list_any (λ e. test e.1) (by_bytes es) ≡ list_any test (values_of es)
  any-by_bytes test [] = refl
  any-by_bytes test (e ∷ es) = ap (λ b. test e.1 || b) (any-by_bytes test es)

  -- a map keyed by texts, in their order
  pub any_text : (test : X → Bool) (es : List (String Y × X)) → IsStrictlySortedBy string_cmp (keys_of es)
      → list_any (λ e. test e.1) (entries (from_entries {R = text_cmp} (by_bytes es))) ≡ list_any test (values_of es)
  any_text test es h = ap (list_any (λ e. test e.1)) (entries-text es h) ∙ any-by_bytes test es
