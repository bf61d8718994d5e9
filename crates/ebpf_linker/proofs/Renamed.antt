-- The same functions under other keys and with other names of faults, and their walks and paths.
use Rattle.std.proofs.Common.{◌≡◌, ℕ, zero, suc, List, [], ◌∷◌, map, Some, refl, sym, ap, ◌∙◌, subst, inl, inr}
use Rattle.std.specs.Prelude.{slice_get}
use Rattle.ebpf_linker.proofs.Paths.{get_among}
use Rattle.ebpf_linker.specs.Functions.{SlotReference, Nothing, Faulty, Names, Functions, References, Among, Distinct, Walk, last_key_or, Reached}
use Rattle.ebpf_linker.specs.Order.{Simple, KeyPath, InKeyPathOrder}

-- ---- the same functions under other keys and with other names of faults

abbrev pub renamed : {M D K E : Type 0} → (M → K) → (D → E) → SlotReference M D → SlotReference K E
renamed key name Nothing = Nothing
renamed key name (Faulty d) = Faulty (name d)
renamed key name (Names m) = Names (key m)

-- numbers name keys: functions that are numbered are the same functions, and no key has two numbers
pub record Numbers {M D K E : Type 0} (G : Functions M D) (F : Functions K E) (IsNumber : M → Type 0) (key : M → K) (name : D → E) : Type 0 where
  pub content : (m : M) → IsNumber m → F.content (key m) ≡ G.content m
  pub reference : (m : M) (i : ℕ) → IsNumber m → F.reference (key m) i ≡ renamed key name (G.reference m i)
  pub closed : (m k : M) (i : ℕ) → IsNumber m → G.reference m i ≡ Names k → IsNumber k
  pub apart : (m k : M) → IsNumber m → IsNumber k → key m ≡ key k → m ≡ k
  pub mismatch : (m : M) → IsNumber m → F.mismatch (key m) ≡ name (G.mismatch m)
  pub too_long : (m : M) → IsNumber m → F.too_long (key m) ≡ name (G.too_long m)
  pub stray_line : (m : M) → IsNumber m → F.stray_line (key m) ≡ name (G.stray_line m)

-- ---- walks and paths of functions, from their numbers to their keys and back

-- the same references, by numbers and by the keys that they stand for
pub record SameReferences {M D K E : Type 0} (R : References M D) (S : References K E) (IsNumber : M → Type 0) (key : M → K) (name : D → E) : Type 0 where
  pub reference : (m : M) (i : ℕ) → IsNumber m → S (key m) i ≡ renamed key name (R m i)
  pub closed : (m k : M) (i : ℕ) → IsNumber m → R m i ≡ Names k → IsNumber k
  pub apart : (m k : M) → IsNumber m → IsNumber k → key m ≡ key k → m ≡ k

abbrev pub AllNumbers : {M : Type 0} → (M → Type 0) → List M → Type 0
AllNumbers IsNumber [] = Unit {0}
AllNumbers IsNumber (m ∷ ms) = IsNumber m × AllNumbers IsNumber ms

module _ {M K : Type 0} (IsNumber : M → Type 0) (key : M → K) where
  pub number_at : (ms : List M) (m : M) → AllNumbers IsNumber ms → Among ms m → IsNumber m
  number_at [] m h a = absurd a
  number_at (n ∷ ms) m h (inl e) = subst IsNumber e h.0
  number_at (n ∷ ms) m h (inr a) = number_at ms m h.1 a

  pub all_numbers : (ms : List M) → ((m : M) → Among ms m → IsNumber m) → AllNumbers IsNumber ms
  all_numbers [] h = tt
  all_numbers (m ∷ ms) h = (h m (inl refl), all_numbers ms (λ n a. h n (inr a)))

  pub among_to : (ms : List M) (m : M) → Among ms m → Among (map key ms) (key m)
  among_to [] m a = absurd a
  among_to (n ∷ ms) m (inl e) = inl (ap key e)
  among_to (n ∷ ms) m (inr a) = inr (among_to ms m a)

  pub among_from : (ms : List M) (k : K) → Among (map key ms) k → (m : M) × Among ms m × (key m ≡ k)
  among_from [] k a = absurd a
  among_from (n ∷ ms) k (inl e) = (n, inl refl, e)
  among_from (n ∷ ms) k (inr a) = let (m, b, e) = among_from ms k a in (m, inr b, e)

  pub last_to : (p : M) (ms : List M) → last_key_or (key p) (map key ms) ≡ key (last_key_or p ms)
  last_to p [] = refl
  last_to p (m ∷ ms) = last_to m ms

  pub last_number : (p : M) (ms : List M) → IsNumber p → AllNumbers IsNumber ms → IsNumber (last_key_or p ms)
  last_number p [] is h = is
  last_number p (m ∷ ms) is h = last_number m ms h.0 h.1

  pub distinct_from : (ms : List M) → Distinct (map key ms) → Distinct ms
  distinct_from [] h = tt
  distinct_from (n ∷ ms) h = (λ a. h.0 (among_to ms n a), distinct_from ms h.1)

  pub get_from : (ms : List M) (i : ℕ) (k : K) → slice_get (map key ms) i ≡ Some k → (m : M) × (slice_get ms i ≡ Some m) × (key m ≡ k)
  get_from [] i k e = cc
  get_from (m ∷ ms) zero k e = (m, refl, cc)
  get_from (m ∷ ms) (suc i) k e = get_from ms i k e

  -- keys that have numbers
  pub numbers_of : (ks : List K) → ((k : K) → Among ks k → (m : M) × IsNumber m × (key m ≡ k)) → (ms : List M) × (map key ms ≡ ks) × AllNumbers IsNumber ms
  numbers_of [] h = ([], refl, tt)
  numbers_of (k ∷ ks) h =
      let (m, is, e) = h k (inl refl) in
      let (ms, are, all) = numbers_of ks (λ l a. h l (inr a)) in
      (m ∷ ms, cc (e, are), (is, all))

module _ {M D K E : Type 0} (key : M → K) (name : D → E) where
  -- a key that a reference names has a number
  pub names_from : (r : SlotReference M D) (k : K) → renamed key name r ≡ Names k → (m : M) × (r ≡ Names m) × (key m ≡ k)
  names_from Nothing k e = cc
  names_from (Faulty d) k e = cc
  names_from (Names m) k e = (m, refl, cc)

  pub faulty_from : (r : SlotReference M D) (e : E) → renamed key name r ≡ Faulty e → (d : D) × (r ≡ Faulty d) × (name d ≡ e)
  faulty_from Nothing e h = cc
  faulty_from (Faulty d) e h = (d, refl, cc)
  faulty_from (Names m) e h = cc

module _ {M D K E : Type 0} (R : References M D) (S : References K E) (IsNumber : M → Type 0) (key : M → K) (name : D → E) (same : SameReferences R S IsNumber key name) where
  pub distinct_to : (ms : List M) → AllNumbers IsNumber ms → Distinct ms → Distinct (map key ms)
  distinct_to [] all h = tt
  distinct_to (n ∷ ms) all h = (
    λ a. let (m, b, e) = among_from IsNumber key ms (key n) a in h.0 (subst (Among ms) (same.apart m n (number_at IsNumber key ms m all.1 b) all.0 e) b),
    distinct_to ms all.1 h.1,
  )

  -- what a walk leads to has a number
  pub walk_numbers : (p : M) (q : List ℕ) (ms : List M) → IsNumber p → Walk R p q ms → AllNumbers IsNumber ms
  walk_numbers p [] [] is w = tt
  walk_numbers p [] (m ∷ ms) is w = absurd w
  walk_numbers p (x ∷ q) [] is w = absurd w
  walk_numbers p (x ∷ q) (m ∷ ms) is w = let n = same.closed p m x is w.0 in (n, walk_numbers m q ms n w.1)

  pub reached_number : (p k : M) → IsNumber p → Reached R p k → IsNumber k
  reached_number p k is (x, q, ms, w, end) = subst IsNumber end (last_number IsNumber key p ms is (walk_numbers p (x ∷ q) ms is w))

  pub walk_to : (p : M) (q : List ℕ) (ms : List M) → IsNumber p → Walk R p q ms → Walk S (key p) q (map key ms)
  walk_to p [] [] is w = tt
  walk_to p [] (m ∷ ms) is w = absurd w
  walk_to p (x ∷ q) [] is w = absurd w
  walk_to p (x ∷ q) (m ∷ ms) is w = (same.reference p x is ∙ ap (renamed key name) w.0, walk_to m q ms (same.closed p m x is w.0) w.1)

  pub walk_from : (p : M) (q : List ℕ) (ks : List K) → IsNumber p → Walk S (key p) q ks → (ms : List M) × (map key ms ≡ ks) × Walk R p q ms
  walk_from p [] [] is w = ([], refl, tt)
  walk_from p [] (k ∷ ks) is w = absurd w
  walk_from p (x ∷ q) [] is w = absurd w
  walk_from p (x ∷ q) (k ∷ ks) is w =
      let (m, names, e) = names_from key name (R p x) k (sym (same.reference p x is) ∙ w.0) in
      let w' = subst (λ (u : K). Walk S u q ks) (sym e) w.1 in
      let (ms, are, v) = walk_from m q ks (same.closed p m x is names) w' in
      (m ∷ ms, cc (e, are), (names, v))

  pub simple_to : (p : M) (q : List ℕ) (ms : List M) → IsNumber p → Simple R p q ms → Simple S (key p) q (map key ms)
  simple_to p q ms is s = record { walk = walk_to p q ms is s.walk; once = distinct_to ms (walk_numbers p q ms is s.walk) s.once }

  pub simple_from : (p : M) (q : List ℕ) (ks : List K) → IsNumber p → Simple S (key p) q ks → (ms : List M) × (map key ms ≡ ks) × Simple R p q ms
  simple_from p q ks is s =
      let (ms, are, w) = walk_from p q ks is s.walk in
      (ms, are, record { walk = w; once = distinct_from IsNumber key ms (subst Distinct (sym are) s.once) })

  -- the number of what a simple walk leads to
  pub end_from : (p : M) (q : List ℕ) (ks : List K) (k : K) → IsNumber p → Simple S (key p) q ks → last_key_or (key p) ks ≡ k → (m : M) × IsNumber m × (key m ≡ k)
  end_from p q ks k is s end =
      let (ms, are, t) = simple_from p q ks is s in
      (last_key_or p ms, last_number IsNumber key p ms is (walk_numbers p q ms is t.walk), sym (last_to IsNumber key p ms) ∙ ap (last_key_or (key p)) are ∙ end)

  pub key_path_to : (p m : M) (q : List ℕ) → IsNumber p → IsNumber m → KeyPath R p m q → KeyPath S (key p) (key m) q
  key_path_to p m q is im h =
      record {
        keys = map key h.keys;
        simple = simple_to p q h.keys is h.simple;
        ends = last_to IsNumber key p h.keys ∙ ap key h.ends;
        some = h.some;
        least = λ other others s ne ends b.
            let (ms, are, s') = simple_from p other others is s in
            let e : key (last_key_or p ms) ≡ key m = sym (last_to IsNumber key p ms) ∙ ap (last_key_or (key p)) are ∙ ends in
            h.least other ms s' ne (same.apart (last_key_or p ms) m (last_number IsNumber key p ms is (walk_numbers p other ms is s'.walk)) im e) b;
      }

  pub key_path_from : (p m : M) (q : List ℕ) → IsNumber p → IsNumber m → KeyPath S (key p) (key m) q → KeyPath R p m q
  key_path_from p m q is im h =
      let (ms, are, s) = simple_from p q h.keys is h.simple in
      record {
        keys = ms;
        simple = s;
        ends = same.apart (last_key_or p ms) m (last_number IsNumber key p ms is (walk_numbers p q ms is s.walk)) im (sym (last_to IsNumber key p ms) ∙ ap (last_key_or (key p)) are ∙ h.ends);
        some = h.some;
        least = λ other others t ne ends b. h.least other (map key others) (simple_to p other others is t) ne (last_to IsNumber key p others ∙ ap key ends) b;
      }

  -- a function with a key path has a number
  pub key_path_number : (p m : M) (q : List ℕ) → IsNumber p → KeyPath R p m q → IsNumber m
  key_path_number p m q is h = subst IsNumber h.ends (last_number IsNumber key p h.keys is (walk_numbers p q h.keys is h.simple.walk))

  pub in_order_to : (p : M) (ms : List M) → IsNumber p → AllNumbers IsNumber ms → InKeyPathOrder R p ms → InKeyPathOrder S (key p) (map key ms)
  in_order_to p ms is all h = (
    λ k a.
        let (m, b, e) = among_from IsNumber key ms k a in
        let (q, path) = h.0 m b in
        (q, subst (λ (u : K). KeyPath S (key p) u q) e (key_path_to p m q is (number_at IsNumber key ms m all b) path)),
    λ i j k l x y lt ai aj kx ky.
        let (m, mi, e) = get_from IsNumber key ms i k ai in
        let (n, nj, f) = get_from IsNumber key ms j l aj in
        let im = number_at IsNumber key ms m all (get_among ms i m mi) in
        let in_ = number_at IsNumber key ms n all (get_among ms j n nj) in
        h.1 i j m n x y lt mi nj (key_path_from p m x is im (subst (λ (u : K). KeyPath S (key p) u x) (sym e) kx)) (key_path_from p n y is in_ (subst (λ (u : K). KeyPath S (key p) u y) (sym f) ky)),
  )
