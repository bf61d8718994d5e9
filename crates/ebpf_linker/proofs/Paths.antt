-- Walks, and the order of lists of numbers.
use Rattle.std.proofs.Common.{◌≡◌, ℕ, zero, suc, ◌<◌, ◌⊎◌, List, [], ◌∷◌, ◌++◌, length, Some, refl, sym, ap, ◌∙◌, subst, inl, inr, arith, length-append}
use Rattle.std.specs.Prelude.{slice_get}
use Rattle.std.proofs.lemmas.Bool.{cases_order}
use Rattle.ebpf_linker.specs.Functions.{SlotReference, Names, References, Among, Distinct, Walk, last_key_or}
use Rattle.ebpf_linker.specs.Order.{Before}

-- the order

pub before_trans : (x y z : List ℕ) → Before x y → Before y z → Before x z
before_trans x y [] h g = absurd g
before_trans x [] (c ∷ z) h g = absurd h
before_trans [] (b ∷ y) (c ∷ z) h g = tt
before_trans (a ∷ x) (b ∷ y) (c ∷ z) (inl h) (inl g) = inl (omega arith)
before_trans (a ∷ x) (b ∷ y) (c ∷ z) (inl h) (inr g) = inl (omega (arith, g.0))
before_trans (a ∷ x) (b ∷ y) (c ∷ z) (inr h) (inl g) = inl (omega (arith, h.0))
before_trans (a ∷ x) (b ∷ y) (c ∷ z) (inr h) (inr g) = inr (h.0 ∙ g.0, before_trans x y z h.1 g.1)

pub irreflexive : (x : List ℕ) → Before x x → ⊥
irreflexive [] h = h
irreflexive (a ∷ x) (inl h) = omega arith
irreflexive (a ∷ x) (inr h) = irreflexive x h.1

before_cons : (a b : ℕ) (x y : List ℕ) → (a ≡ b) ⊎ ((a < b) ⊎ (b < a)) → Before x y ⊎ ((x ≡ y) ⊎ Before y x) → Before (a ∷ x) (b ∷ y) ⊎ ((a ∷ x ≡ b ∷ y) ⊎ Before (b ∷ y) (a ∷ x))
before_cons a b x y (inl e) (inl h) = inl (inr (e, h))
before_cons a b x y (inl e) (inr (inl h)) = inr (inl cc)
before_cons a b x y (inl e) (inr (inr h)) = inr (inr (inr (sym e, h)))
before_cons a b x y (inr (inl lt)) h = inl (inl lt)
before_cons a b x y (inr (inr lt)) h = inr (inr (inl lt))

pub before_cases : (x y : List ℕ) → Before x y ⊎ ((x ≡ y) ⊎ Before y x)
before_cases [] [] = inr (inl refl)
before_cases [] (b ∷ y) = inl tt
before_cases (a ∷ x) [] = inr (inr tt)
before_cases (a ∷ x) (b ∷ y) = before_cons a b x y (cases_order a b) (before_cases x y)

-- a list before one with a last number: before the rest, the rest, or the rest and a lower number
pub before_last : (q t : List ℕ) (s : ℕ) → Before q (t ++ s ∷ []) → Before q t ⊎ ((q ≡ t) ⊎ ((y : ℕ) × (rest : List ℕ) × (q ≡ t ++ y ∷ rest) × (y < s)))
before_last [] [] s h = inr (inl refl)
before_last [] (b ∷ t) s h = inl tt
before_last (a ∷ q) [] s (inl h) = inr (inr (a, q, refl, h))
before_last (a ∷ q) [] s (inr h) = absurd h.1
before_last (a ∷ q) (b ∷ t) s (inl h) = inl (inl h)
before_last (a ∷ q) (b ∷ t) s (inr h) =
    elim (before_last q t s h.1) [
      | inl x ↦ inl (inr (h.0, x))
      | inr (inl x) ↦ inr (inl cc)
      | inr (inr (y, rest, e, lt)) ↦ inr (inr (y, rest, cc, lt))
    ]

-- lists with a last number

pub last_cut : (q t : List ℕ) (x y : ℕ) (rest : List ℕ) → q ++ x ∷ [] ≡ t ++ y ∷ rest → ((q ≡ t) × (x ≡ y)) ⊎ ((more : List ℕ) × (q ≡ t ++ y ∷ more))
last_cut [] [] x y rest e = inl (refl, cc)
last_cut [] (b ∷ []) x y rest e = cc
last_cut [] (b ∷ c ∷ t) x y rest e = cc
last_cut (a ∷ q) [] x y rest e = let f : a ≡ y = cc in inr (q, ap (λ (u : ℕ). u ∷ q) f)
last_cut (a ∷ q) (b ∷ t) x y rest e =
    let f : q ++ x ∷ [] ≡ t ++ y ∷ rest = cc in
    let g : a ≡ b = cc in
    elim (last_cut q t x y rest f) [ inl h ↦ inl (cc (h.0, g), h.1) | inr h ↦ inr (h.0, cc (h.1, g)) ]

pub last_same : (q t : List ℕ) (x y : ℕ) → q ++ x ∷ [] ≡ t ++ y ∷ [] → (q ≡ t) × (x ≡ y)
last_same q t x y e =
    elim (last_cut q t x y [] e) [
      | inl h ↦ h
      | inr (more, is) ↦ absurd (omega (arith, ap length e, ap length is, length-append q (x ∷ []), length-append t (y ∷ []), length-append t (y ∷ more)))
    ]

module _ {K : Type 0} where
  pub among_left : (ks ms : List K) (k : K) → Among ks k → Among (ks ++ ms) k
  among_left [] ms k h = absurd h
  among_left (n ∷ ks) ms k (inl h) = inl h
  among_left (n ∷ ks) ms k (inr h) = inr (among_left ks ms k h)

  pub among_right : (ks ms : List K) (k : K) → Among ms k → Among (ks ++ ms) k
  among_right [] ms k h = h
  among_right (n ∷ ks) ms k h = inr (among_right ks ms k h)

  pub among_cases : (ks ms : List K) (k : K) → Among (ks ++ ms) k → Among ks k ⊎ Among ms k
  among_cases [] ms k h = inr h
  among_cases (n ∷ ks) ms k (inl h) = inl (inl h)
  among_cases (n ∷ ks) ms k (inr h) = elim (among_cases ks ms k h) [ inl a ↦ inl (inr a) | inr b ↦ inr b ]

  pub get_among : (ks : List K) (i : ℕ) (k : K) → slice_get ks i ≡ Some k → Among ks k
  get_among [] i k at = cc
  get_among (m ∷ ks) zero k at = inl cc
  get_among (m ∷ ks) (suc i) k at = inr (get_among ks i k at)

  pub among_get : (ks : List K) (k : K) → Among ks k → (i : ℕ) × (slice_get ks i ≡ Some k)
  among_get [] k a = absurd a
  among_get (m ∷ ks) k (inl e) = (0, ap Some e)
  among_get (m ∷ ks) k (inr a) = let (i, at) = among_get ks k a in (suc i, at)

  pub nil_length : (ks : List K) → length ks ≡ 0 → ks ≡ []
  nil_length [] e = refl
  nil_length (k ∷ ks) e = absurd (omega arith)

  pub distinct_front : (ks ms : List K) → Distinct (ks ++ ms) → Distinct ks
  distinct_front [] ms h = tt
  distinct_front (n ∷ ks) ms h = (λ a. h.0 (among_left ks ms n a), distinct_front ks ms h.1)

  pub distinct_apart : (ks ms : List K) (k : K) → Distinct (ks ++ ms) → Among ks k → Among ms k → ⊥
  distinct_apart [] ms k h a b = a
  distinct_apart (n ∷ ks) ms k h (inl a) b = h.0 (among_right ks ms n (subst (Among ms) (sym a) b))
  distinct_apart (n ∷ ks) ms k h (inr a) b = distinct_apart ks ms k h.1 a b

  pub distinct_more : (ks : List K) (k : K) → Distinct ks → (Among ks k → ⊥) → Distinct (ks ++ k ∷ [])
  distinct_more [] k h new = (λ a. a, tt)
  distinct_more (n ∷ ks) k h new =
      (λ a. elim (among_cases ks (k ∷ []) n a) [ inl b ↦ h.0 b | inr (inl b) ↦ new (inl (sym b)) | inr (inr b) ↦ b ], distinct_more ks k h.1 (λ a. new (inr a)))

  pub last_of_last : (p : K) (ks : List K) (k : K) → last_key_or p (ks ++ k ∷ []) ≡ k
  last_of_last p [] k = refl
  last_of_last p (n ∷ ks) k = last_of_last n ks k

pub names_same : {K E : Type 0} (k m : K) (r : SlotReference K E) → r ≡ Names k → r ≡ Names m → k ≡ m
names_same k m r e f = cc

module _ {K E : Type 0} (R : References K E) where
  -- a walk goes on by one reference
  pub walk_more : (p : K) (q : List ℕ) (ks : List K) (x : ℕ) (k : K) → Walk R p q ks → R (last_key_or p ks) x ≡ Names k → Walk R p (q ++ x ∷ []) (ks ++ k ∷ [])
  walk_more p [] [] x k w e = (e, tt)
  walk_more p [] (m ∷ ks) x k w e = absurd w
  walk_more p (y ∷ q) [] x k w e = absurd w
  walk_more p (y ∷ q) (m ∷ ks) x k w e = (w.0, walk_more m q ks x k w.1 e)

  -- its slots determine its keys
  pub walk_same : (p : K) (q : List ℕ) (ks ms : List K) → Walk R p q ks → Walk R p q ms → ks ≡ ms
  walk_same p [] [] [] w v = refl
  walk_same p [] [] (m ∷ ms) w v = absurd v
  walk_same p [] (k ∷ ks) ms w v = absurd w
  walk_same p (x ∷ q) [] ms w v = absurd w
  walk_same p (x ∷ q) (k ∷ ks) [] w v = absurd v
  walk_same p (x ∷ q) (k ∷ ks) (m ∷ ms) w v =
      let e = names_same k m (R p x) w.0 v.0 in
      let r = walk_same k q ks ms w.1 (subst (λ (n : K). Walk R n q ms) (sym e) v.1) in
      cc

  -- the parts of a walk
  pub record WalkParts (p : K) (t q : List ℕ) (ks : List K) : Type 0 where
    pub front : List K
    pub back : List K
    pub whole : ks ≡ front ++ back
    pub first : Walk R p t front
    pub second : Walk R (last_key_or p front) q back

  pub walk_parts : (p : K) (t q : List ℕ) (ks : List K) → Walk R p (t ++ q) ks → WalkParts p t q ks
  walk_parts p [] q ks w = record { front = []; back = ks; whole = refl; first = tt; second = w }
  walk_parts p (x ∷ t) q [] w = absurd w
  walk_parts p (x ∷ t) q (k ∷ ks) w =
      let r = walk_parts k t q ks w.1 in
      record { front = k ∷ r.front; back = r.back; whole = ap (λ (u : List K). k ∷ u) r.whole; first = (w.0, r.first); second = r.second }

  -- the last reference of a walk
  pub record Last (p : K) (q : List ℕ) (ks : List K) : Type 0 where
    pub path : List ℕ
    pub slot : ℕ
    pub keys : List K
    pub key : K
    pub path_is : q ≡ path ++ slot ∷ []
    pub keys_are : ks ≡ keys ++ key ∷ []
    pub walk : Walk R p path keys
    pub leads : R (last_key_or p keys) slot ≡ Names key

  pub walk_last : (p : K) (x : ℕ) (q : List ℕ) (ks : List K) → Walk R p (x ∷ q) ks → Last p (x ∷ q) ks
  walk_last p x q [] w = absurd w
  walk_last p x [] (k ∷ []) w = record { path = []; slot = x; keys = []; key = k; path_is = refl; keys_are = refl; walk = tt; leads = w.0 }
  walk_last p x [] (k ∷ m ∷ ks) w = absurd w.1
  walk_last p x (y ∷ q) (k ∷ ks) w =
      let r = walk_last k y q ks w.1 in
      record {
        path = x ∷ r.path;
        slot = r.slot;
        keys = k ∷ r.keys;
        key = r.key;
        path_is = ap (λ (u : List ℕ). x ∷ u) r.path_is;
        keys_are = ap (λ (u : List K). k ∷ u) r.keys_are;
        walk = (w.0, r.walk);
        leads = r.leads;
      }
