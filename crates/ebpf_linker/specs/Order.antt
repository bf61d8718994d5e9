-- The order of the linked functions: the depth-first pre-order by slot. Its other name is the order
-- of key paths.
--
-- A path is a list of slot numbers. Each leads from a function to the function that its slot refers
-- to. The key path of a function is the least path to it on which no function occurs twice.
--
-- Example: P's slot 0 refers to f, P's slot 1 to g, and f's slot 0 to g. The key path of f is 0.
-- Two paths lead to g, 1 and 0.0. Its key path is 0.0. So the order is f, g.
use Rattle.std.specs.Prelude.{◌≡◌, ◌≢◌, ℕ, ◌<◌, ◌⊎◌, List, [], ◌∷◌, Some, slice_get}
use Rattle.ebpf_linker.specs.Functions.{Faulty, References, Among, Distinct, Walk, last_key_or}

-- one list of numbers is before another: less at the first difference, or a beginning of it
abbrev pub Before : List ℕ → List ℕ → Type 0
Before xs [] = ⊥
Before [] (y ∷ ys) = Unit {0}
Before (x ∷ xs) (y ∷ ys) = (x < y) ⊎ ((x ≡ y) × Before xs ys)

module _ {K E : Type 0} where
  -- a walk on which no key occurs twice
  pub record Simple (R : References K E) (p : K) (path : List ℕ) (keys : List K) : Type 0 where
    pub walk : Walk R p path keys
    pub once : Distinct keys

  -- the key path of k: the least of the simple walks to it
  pub record KeyPath (R : References K E) (p k : K) (path : List ℕ) : Type 0 where
    pub keys : List K
    pub simple : Simple R p path keys
    pub ends : last_key_or p keys ≡ k
    pub some : path ≢ []
    pub least : (other : List ℕ) (others : List K) → Simple R p other others → other ≢ []
        → last_key_or p others ≡ k → Before other path → ⊥

  -- each one has a key path, and the key path of an earlier one is before that of a later one
  abbrev pub InKeyPathOrder : References K E → K → List K → Type 0
  InKeyPathOrder R p ks =
      ((k : K) → Among ks k → (path : List ℕ) × KeyPath R p k path)
      × ((i j : ℕ) (k m : K) (x y : List ℕ) → i < j → slice_get ks i ≡ Some k
      → slice_get ks j ≡ Some m → KeyPath R p k x → KeyPath R p m y → Before x y)

  -- slot x of the function that this simple walk leads to refers to what can't be had
  pub record HasReferenceFault (R : References K E) (p : K) (path : List ℕ) (x : ℕ) (e : E)
      : Type 0 where
    pub keys : List K
    pub simple : Simple R p path keys
    pub fault : R (last_key_or p keys) x ≡ Faulty e
