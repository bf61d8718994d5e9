-- Finite maps by number, by text and by section and address: the orders of their keys, their
-- entries, copies and changes.
use Rattle.std.specs.Prelude.{◌≡◌, ℕ, List, map, string_bytes, Bool, ◌&&◌, nat_le, fold, Option}
use Rattle.std.specs.Prelude.{Some, if◌then◌else◌}
use Rattle.std.specs.declared.string.String.{String}
use Rattle.std.specs.Ordering.{nat_cmp, ordering_then, eq_by_cmp}
use Rattle.std.specs.Cmp.{IsTotalOrder, nat_cmp_total, then_total, on_total, IsPartialEquivalence}
use Rattle.std.specs.Cmp.{eq_by_cmp_equiv, partial_equiv_from_equiv, on_per, and_per}
use Rattle.std.specs.Cmp.Lexicographic.{slice_cmp, nat_list_cmp_total, pointwise, lists_per}
use denote.Ref.{Bor, MutBor}
use Rattle.std.specs.declared.cmp.Ordering.{Ordering}
use Rattle.std.specs.Coded.{Coded, coded_ℕ, coded_list, coded×}
use Rattle.std.specs.List.{AllZip, filter}
use Rattle.std.specs.FinMap.{FinMap, entries, insert, get, from_sorted}
use denote.Param.Members.{Shared}

-- ---- keys

-- texts by their bytes
abbrev pub text_cmp : List ℕ → List ℕ → Ordering
text_cmp = slice_cmp nat_cmp

pub text_total : IsTotalOrder text_cmp
text_total = nat_list_cmp_total

-- how a model stores a text
abbrev pub coded_text : Coded (List ℕ)
coded_text = coded_list coded_ℕ

-- a section's index, then an address in it
abbrev pub key_cmp : ℕ × ℕ → ℕ × ℕ → Ordering
key_cmp a b = ordering_then (nat_cmp a.0 b.0) (nat_cmp a.1 b.1)

pub key_total : IsTotalOrder key_cmp
key_total =
    then_total (on_total (λ (p : ℕ × ℕ). p.0) nat_cmp_total)
    (on_total (λ (p : ℕ × ℕ). p.1) nat_cmp_total)

-- how a model stores a section's index and an address
abbrev pub coded_key : Coded (ℕ × ℕ)
coded_key = coded× coded_ℕ coded_ℕ

-- the entries of a map keyed by texts, with the bytes for each text
abbrev pub by_bytes : {X Y : Type 0} → List (String Y × X) → List (List ℕ × X)
by_bytes = map (λ e. (string_bytes e.0, e.1))

-- the bytes of borrowed texts
abbrev pub lent_bytes : List (Bor (List ℕ)) → List (List ℕ)
lent_bytes = map (λ text. text.now)

-- ---- copies and equality

-- the same keys, each with a copy of its value
abbrev pub AreCopies : {K X : Type 0} {R : K → K → Ordering}
    → (X → X → Type 0)
    → FinMap R X
    → FinMap R X
    → Type 0
AreCopies IsCopy m n = AllZip (λ e f. (f.0 ≡ e.0) × IsCopy e.1 f.1) (entries m) (entries n)

-- whether two maps have the same keys, each with an equal value
abbrev pub maps_eq : {K X : Type 0} {R : K → K → Ordering}
    → (X → X → Bool)
    → FinMap R X
    → FinMap R X
    → Bool
maps_eq {R = R} eq m n =
    pointwise (λ e f. eq_by_cmp R e.0 f.0 && eq e.1 f.1) (entries m) (entries n)

pub maps_eq_laws : {K X : Type 0} {R : K → K → Ordering} {eq : X → X → Bool}
    → IsTotalOrder R
    → IsPartialEquivalence eq
    → IsPartialEquivalence (maps_eq {R = R} eq)
maps_eq_laws o values =
    on_per entries
    (lists_per
    (and_per (on_per (λ e. e.0) (partial_equiv_from_equiv (eq_by_cmp_equiv o)))
    (on_per (λ e. e.1) values)))

-- ---- entries

-- the entries of the offsets from one on
abbrev pub entries_from : {X : Type 0} → ℕ → List (ℕ × X) → List (ℕ × X)
entries_from from entries = filter (λ e. nat_le from e.0) entries

-- the entries put into a map, one after the other
abbrev pub put_all : {K X : Type 0} {R : K → K → Ordering} → FinMap R X → List (K × X) → FinMap R X
put_all m entries = fold (λ so_far e. insert so_far e.0 e.1) m entries

-- the value of the last entry with a key, else the one before
abbrev pub last_at : {K X : Type 0} → (K → K → Ordering) → K → Option X → List (K × X) → Option X
last_at R q before entries =
    fold (λ found e. if eq_by_cmp R q e.0 then Some e.1 else found) before entries

-- of the entries put into a map, the last one with a key is the entry of the map
abbrev pub LaterStands : {K : Type 0} → (K → K → Ordering) → Type 0 → Type 0
LaterStands {K} R X =
    (m : FinMap R X) (entries : List (K × X)) (q : K)
    → get (put_all m entries) q ≡ last_at R q (get m q) entries

-- ---- mapped values, and calls that write a value in place

-- the entries, each with its value mapped
abbrev pub mapped_entries : {K V W : Type 0} → (V → W) → List (K × V) → List (K × W)
mapped_entries f entries = map (λ e. (e.0, f e.1)) entries

-- the map with the same keys, each with its value mapped
unfoldable pub map_values : {K V W : Type 0} {R : K → K → Ordering}
    → (V → W)
    → FinMap R V
    → FinMap R W
map_values f m = from_sorted (mapped_entries f (entries m))

module _ {F V : Type 0} (g : Shared F (MutBor V × Unit {0}) (Unit {0} × (MutBor V × Unit {0})))
    (write : F) where
  -- a call of a closure at a `&mut` to v may leave w there
  pub record Writes (v w : V) : Type 0 where
    pub lent : MutBor V
    pub left : MutBor V
    pub before : lent.now ≡ v
    pub post_holds : g.post write (lent, tt) (tt, (left, tt))
    pub after : left.now ≡ w

  -- each call leaves f of the value that was there
  abbrev pub WritesBy : (V → V) → Type 0
  WritesBy f = (v w : V) → Writes v w → w ≡ f v
