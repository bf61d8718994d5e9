-- Comparisons of types and of fields.
use Rattle.std.proofs.Common.{◌≡◌, ◌==◌, ◌&&◌, ℕ, zero, suc, true, false, List, [], ◌∷◌, length, arith, if◌then◌else◌, Option, Some, None, Result, Ok, Err, ◌⊎◌, inl, inr, refl, sym, ◌∙◌, Bool, ◌++◌, map, ap, ◌-◌, ◌+◌, ◌<◌, ◌≤◌}
use Rattle.std.specs.List.{zip, flat_map}
use Rattle.std.proofs.lemmas.Bool.Decides.{nat_tests}
use Rattle.std.proofs.lemmas.Grind.{flat_map-append}
use Rattle.std.proofs.lemmas.List.{append-nil}
use Rattle.std.proofs.lemmas.Bool.{and_parts}
use Rattle.ebpf_btf.specs.declared.error.BtfError.{BtfError}
use Rattle.ebpf_btf.specs.declared.error.BtfError.TheVariants.{MaximumTypeDepth}
use Rattle.ebpf_btf.specs.declared.members.BtfParam.{BtfParam}
use Rattle.ebpf_btf.specs.declared.types.BtfType.{BtfType}
use Rattle.ebpf_btf.specs.Steps.{resolved_type}
use Rattle.ebpf_btf.specs.Types.{kind_of}
use Rattle.ebpf_base.specs.Faults.{if_ok}
use Rattle.ebpf_btf.specs.Next.{if_some}
use Rattle.ebpf_btf.specs.EssentialNames.{essential_name}
use Rattle.ebpf_btf.specs.TypeInfo.{TypeInfo}
use Rattle.ebpf_core_candidates.specs.declared.compatible.Likeness.{Likeness}
use Rattle.ebpf_core_candidates.specs.declared.compatible.Likeness.TheVariants.{Alike, Different}
use Rattle.ebpf_core_candidates.specs.declared.compatible.Pair.{Pair}
use Rattle.ebpf_core_candidates.specs.Compatibility.{compared_from, inner_alike, if_alike, params_alike, parts_alike, shallow_alike, both, both_begin_at_0, is_compared, same_kind, inner_type_id, inner_pair, if_resolved, pair_of, params_of, Comparison, is_alike, first_end, found_from, inner_pairs, pairs_or_none, element, elements, fields_fit, types_fit}

-- ---- a pair

-- no level is left
pub compared_deep : (levels : ℕ) (local target : List BtfType) (root left : ℕ) (pair : Pair) → levels ≡ 0
    → compared_from levels local target root left pair ≡ Err (MaximumTypeDepth root)
unfolding compared_from
compared_deep levels local target root left pair none = rw none refl

compared_full_at : (levels : ℕ) (local target : List BtfType) (root : ℕ) (pair : Pair)
    → compared_from levels local target root zero pair ≡ Err (MaximumTypeDepth root)
unfolding compared_from
compared_full_at zero local target root pair = refl
compared_full_at (suc levels) local target root pair = refl

-- no pair is left
pub compared_full : (levels : ℕ) (local target : List BtfType) (root left : ℕ) (pair : Pair) → left ≡ 0
    → compared_from levels local target root left pair ≡ Err (MaximumTypeDepth root)
compared_full levels local target root left pair none = rw none (compared_full_at levels local target root pair)

-- a level and a pair are left, and so many without them
module _ (levels : ℕ) (local target : List BtfType) (root left : ℕ) (pair : Pair) (n m : ℕ) (deep : levels ≡ suc n) (many : left ≡ suc m) where
  compared_look : compared_from levels local target root left pair
      ≡ if_resolved local target pair (λ a b. if shallow_alike a b then parts_alike (compared_from n local target root) m a b else Ok Different)
  unfolding compared_from
  compared_look = rw (deep, many) refl

  pub compared_local_fault : (e : BtfError) → resolved_type local pair.local ≡ Err e
      → compared_from levels local target root left pair ≡ Err e
  compared_local_fault e fault = rw (compared_look, fault) refl

  pub compared_target_fault : (a : BtfType) (e : BtfError) → resolved_type local pair.local ≡ Ok a → resolved_type target pair.target ≡ Err e
      → compared_from levels local target root left pair ≡ Err e
  compared_target_fault a e one fault = rw (compared_look, one, fault) refl

  pub compared_different : (a b : BtfType) → resolved_type local pair.local ≡ Ok a → resolved_type target pair.target ≡ Ok b
      → shallow_alike a b ≡ false → compared_from levels local target root left pair ≡ Ok Different
  compared_different a b one other differ = rw (compared_look, one, other, differ) refl

  pub compared_parts : (a b : BtfType) → resolved_type local pair.local ≡ Ok a → resolved_type target pair.target ≡ Ok b
      → shallow_alike a b ≡ true → compared_from levels local target root left pair ≡ parts_alike (compared_from n local target root) m a b
  compared_parts a b one other same = rw (compared_look, one, other, same) refl

-- types that are alike have as many parameters
pub same_count : (a b : BtfType) → shallow_alike a b ≡ true → length (params_of a) ≡ length (params_of b)
same_count a b alike =
    let counts : (length (params_of a) == length (params_of b)) ≡ true = (and_parts (same_kind a b && is_compared (kind_of a) && both_begin_at_0 a b) _ alike).1 in
    grind (arith, nat_tests)

-- ---- the parameters that are left

-- what they come to, and then what the two types hold, where so many levels are left
abbrev pub rest_alike : ℕ → List BtfType → List BtfType → ℕ → ℕ → BtfType → BtfType → List BtfParam → List BtfParam → Result Likeness BtfError
rest_alike n local target root left a b xs ys =
    if_alike (params_alike (compared_from n local target root) left (zip xs ys)) (λ rest. inner_alike (compared_from n local target root) rest a b)

module _ (n : ℕ) (local target : List BtfType) (root left : ℕ) (a b : BtfType) (xs ys : List BtfParam) where
  -- all of them
  pub rest_all : xs ≡ params_of a → ys ≡ params_of b
      → rest_alike n local target root left a b xs ys ≡ parts_alike (compared_from n local target root) left a b
  rest_all first second = rw (first, second) refl

  -- the first of them
  rest_first : (x y : BtfParam) (us vs : List BtfParam) → xs ≡ x ∷ us → ys ≡ y ∷ vs
      → rest_alike n local target root left a b xs ys
      ≡ if_alike (if_alike (compared_from n local target root left (pair_of x.btf_type y.btf_type)) (λ rest. params_alike (compared_from n local target root) rest (zip us vs))) (λ rest. inner_alike (compared_from n local target root) rest a b)
  rest_first x y us vs first second = rw (first, second) refl

  pub rest_fault : (x y : BtfParam) (us vs : List BtfParam) (e : BtfError) → xs ≡ x ∷ us → ys ≡ y ∷ vs
      → compared_from n local target root left (pair_of x.btf_type y.btf_type) ≡ Err e
      → rest_alike n local target root left a b xs ys ≡ Err e
  rest_fault x y us vs e first second fault = rw (rest_first x y us vs first second, fault) refl

  pub rest_different : (x y : BtfParam) (us vs : List BtfParam) → xs ≡ x ∷ us → ys ≡ y ∷ vs
      → compared_from n local target root left (pair_of x.btf_type y.btf_type) ≡ Ok Different
      → rest_alike n local target root left a b xs ys ≡ Ok Different
  rest_different x y us vs first second differ = rw (rest_first x y us vs first second, differ) refl

  pub rest_next : (x y : BtfParam) (us vs : List BtfParam) (rest : ℕ) → xs ≡ x ∷ us → ys ≡ y ∷ vs
      → compared_from n local target root left (pair_of x.btf_type y.btf_type) ≡ Ok (Alike rest)
      → rest_alike n local target root left a b xs ys ≡ rest_alike n local target root rest a b us vs
  rest_next x y us vs rest first second same = rw (rest_first x y us vs first second, same) refl

  zip_none : (zs : List BtfParam) → zip {X = BtfParam} zs [] ≡ []
  zip_none [] = refl
  zip_none (z ∷ zs) = refl

  -- none of them
  rest_past : (xs ≡ []) ⊎ (ys ≡ []) → rest_alike n local target root left a b xs ys ≡ inner_alike (compared_from n local target root) left a b
  rest_past (inl none) = rw none refl
  rest_past (inr none) = rw (none, zip_none xs) refl

  -- none of them, and an inner pair is there, or none
  module _ (p q : Option ℕ) (m : Option Pair) (past : (xs ≡ []) ⊎ (ys ≡ [])) (one : p ≡ inner_type_id a) (other : q ≡ inner_type_id b) (pair : m ≡ both p q) where
    inner_is : inner_pair a b ≡ m
    inner_is = sym (pair ∙ rw (one, other) refl)

    pub rest_inner : (next : Pair) → m ≡ Some next → rest_alike n local target root left a b xs ys ≡ compared_from n local target root left next
    rest_inner next some = rest_past past ∙ rw (inner_is ∙ some) refl

    pub rest_none : m ≡ None → rest_alike n local target root left a b xs ys ≡ Ok (Alike left)
    rest_none none = rest_past past ∙ rw (inner_is ∙ none) refl

-- ---- a comparison that goes pair by pair comes to the first that ends it, of what is found at the pairs in order

abbrev Found : Type 0
Found = Result Bool BtfError

-- what one comes to, and then the others
abbrev step : Found → Result Likeness BtfError → Result Likeness BtfError
step (Ok true) rest = rest
step (Ok false) rest = Ok Different
step (Err e) rest = Err e

-- all, one after the other, where so many pairs may be met
abbrev run : ℕ → BtfError → List Found → Result Likeness BtfError
run left past [] = Ok (Alike left)
run zero past (x ∷ xs) = Err past
run (suc left) past (x ∷ xs) = step x (run left past xs)

run_append : (left : ℕ) (past : BtfError) (xs ys : List Found) → run left past (xs ++ ys) ≡ if_alike (run left past xs) (λ rest. run rest past ys)
run_append left past [] ys = refl
run_append zero past (x ∷ xs) ys = refl
run_append (suc left) past (Ok true ∷ xs) ys = run_append left past xs ys
run_append (suc left) past (Ok false ∷ xs) ys = refl
run_append (suc left) past (Err e ∷ xs) ys = refl

run_end : (left : ℕ) (past : BtfError) (xs : List Found) → is_alike (run left past xs) ≡ first_end left past xs
unfolding first_end
run_end zero past [] = refl
run_end (suc left) past [] = refl
run_end zero past (x ∷ xs) = refl
run_end (suc left) past (Ok true ∷ xs) = run_end left past xs
run_end (suc left) past (Ok false ∷ xs) = refl
run_end (suc left) past (Err e ∷ xs) = refl

same_after : (r : Result Likeness BtfError) (f g : ℕ → Result Likeness BtfError) → ((n : ℕ) → f n ≡ g n) → if_alike r f ≡ if_alike r g
same_after (Ok (Alike left)) f g same = same left
same_after (Ok Different) f g same = refl
same_after (Err e) f g same = refl

-- a comparison of pairs that is the run over what is found at them
module _ (compare : Comparison) (found : Pair → List Found) (past : BtfError) (runs : (left : ℕ) (pair : Pair) → compare left pair ≡ run left past (found pair)) where
  abbrev types_of : BtfParam × BtfParam → Pair
  types_of p = pair_of p.0.btf_type p.1.btf_type

  params_run : (left : ℕ) (ps : List (BtfParam × BtfParam)) → params_alike compare left ps ≡ run left past (flat_map found (map types_of ps))
  params_run left [] = refl
  params_run left (p ∷ ps) =
      ap (λ r. if_alike r (λ rest. params_alike compare rest ps)) (runs left (types_of p))
      ∙ same_after (run left past (found (types_of p))) (λ rest. params_alike compare rest ps) (λ rest. run rest past (flat_map found (map types_of ps))) (λ rest. params_run rest ps)
      ∙ sym (run_append left past (found (types_of p)) (flat_map found (map types_of ps)))

  inner_runs : (left : ℕ) (pair : Option Pair)
      → if_some pair (λ p. compare left p) (Ok (Alike left)) ≡ run left past (flat_map found (if_some pair (λ p. p ∷ []) []))
  inner_runs left None = refl
  inner_runs left (Some p) = runs left p ∙ ap (run left past) (sym (append-nil (found p)))

  parts_run : (left : ℕ) (a b : BtfType) → parts_alike compare left a b ≡ run left past (flat_map found (inner_pairs a b))
  parts_run left a b =
      let ps : List (BtfParam × BtfParam) = zip (params_of a) (params_of b) in
      let hs : List Pair = if_some (inner_pair a b) (λ p. p ∷ []) [] in
      ap (λ r. if_alike r (λ rest. inner_alike compare rest a b)) (params_run left ps)
      ∙ same_after (run left past (flat_map found (map types_of ps))) (λ rest. inner_alike compare rest a b) (λ rest. run rest past (flat_map found hs)) (λ rest. inner_runs rest (inner_pair a b))
      ∙ sym (run_append left past (flat_map found (map types_of ps)) (flat_map found hs))
      ∙ ap (run left past) (sym (flat_map-append found (map types_of ps) hs))

  agreed_runs : (left : ℕ) (a b : BtfType) (same : Bool)
      → (if same then parts_alike compare left a b else Ok Different) ≡ step (Ok same) (run left past (flat_map found (inner_pairs a b)))
  agreed_runs left a b true = parts_run left a b
  agreed_runs left a b false = refl

  pair_runs : (left : ℕ) (one other : Result BtfType BtfError)
      → if_ok one (λ a. if_ok other (λ b. if shallow_alike a b then parts_alike compare left a b else Ok Different))
      ≡ step (if_ok one (λ a. if_ok other (λ b. Ok (shallow_alike a b)))) (run left past (flat_map found (pairs_or_none (if_ok one (λ a. if_ok other (λ b. Ok (inner_pairs a b)))))))
  pair_runs left (Ok a) (Ok b) = agreed_runs left a b (shallow_alike a b)
  pair_runs left (Ok a) (Err e) = refl
  pair_runs left (Err e) other = refl

compared_run : (levels : ℕ) (local target : List BtfType) (root left : ℕ) (pair : Pair)
    → compared_from levels local target root left pair ≡ run left (MaximumTypeDepth root) (found_from levels local target root pair)
unfolding compared_from found_from
compared_run zero local target root zero pair = refl
compared_run zero local target root (suc left) pair = refl
compared_run (suc levels) local target root zero pair = refl
compared_run (suc levels) local target root (suc left) pair =
    pair_runs (compared_from levels local target root) (found_from levels local target root) (MaximumTypeDepth root)
    (λ rest next. compared_run levels local target root rest next)
    left (resolved_type local pair.local) (resolved_type target pair.target)

-- what a comparison comes to
pub compared_found : (levels : ℕ) (local target : List BtfType) (root left : ℕ) (pair : Pair) (r : Result Likeness BtfError)
    → r ≡ compared_from levels local target root left pair
    → is_alike r ≡ first_end left (MaximumTypeDepth root) (found_from levels local target root pair)
compared_found levels local target root left pair r is =
    ap is_alike (is ∙ compared_run levels local target root left pair) ∙ run_end left (MaximumTypeDepth root) (found_from levels local target root pair)

-- ---- one level of a comparison of fields, where k levels are over

fields_level : (k : ℕ) (local target : TypeInfo) (root : ℕ) (pair : Pair) → k < 33
    → fields_fit (33 - k) local target root pair
    ≡ if_resolved local.types target.types pair (λ a b.
    if_some (elements a b) (λ next. fields_fit (33 - (k + 1)) local target root next) (types_fit local target a b))
unfolding fields_fit
fields_level k local target root pair below =
    let more : 33 - k ≡ suc (33 - (k + 1)) = omega arith in
    rw more refl

pub fields_local_fault : (k : ℕ) (local target : TypeInfo) (root : ℕ) (pair : Pair) (e : BtfError) → k < 33
    → resolved_type local.types pair.local ≡ Err e → fields_fit (33 - k) local target root pair ≡ Err e
fields_local_fault k local target root pair e below fault = rw (fields_level k local target root pair below, fault) refl

pub fields_target_fault : (k : ℕ) (local target : TypeInfo) (root : ℕ) (pair : Pair) (a : BtfType) (e : BtfError) → k < 33
    → resolved_type local.types pair.local ≡ Ok a → resolved_type target.types pair.target ≡ Err e
    → fields_fit (33 - k) local target root pair ≡ Err e
fields_target_fault k local target root pair a e below one fault = rw (fields_level k local target root pair below, one, fault) refl

pub fields_here : (k : ℕ) (local target : TypeInfo) (root : ℕ) (pair : Pair) (a b : BtfType) → k < 33
    → resolved_type local.types pair.local ≡ Ok a → resolved_type target.types pair.target ≡ Ok b
    → elements a b ≡ None → fields_fit (33 - k) local target root pair ≡ types_fit local target a b
fields_here k local target root pair a b below one other none = rw (fields_level k local target root pair below, one, other, none) refl

pub fields_next : (k : ℕ) (local target : TypeInfo) (root : ℕ) (pair : Pair) (a b : BtfType) (p q : Option ℕ) (m : Option Pair) (next : Pair) → k < 33
    → resolved_type local.types pair.local ≡ Ok a → resolved_type target.types pair.target ≡ Ok b
    → p ≡ element a → q ≡ element b → m ≡ both p q → m ≡ Some next → fields_fit (33 - k) local target root pair ≡ fields_fit (33 - (k + 1)) local target root next
fields_next k local target root pair a b p q m next below one other first second pairs some =
    let both_arrays : elements a b ≡ Some next = sym (sym some ∙ pairs ∙ rw (first, second) refl) in
    rw (fields_level k local target root pair below, one, other, both_arrays) refl

pub fields_over : (k : ℕ) (local target : TypeInfo) (root : ℕ) (pair : Pair) → 33 ≤ k
    → fields_fit (33 - k) local target root pair ≡ Err (MaximumTypeDepth root)
unfolding fields_fit
fields_over k local target root pair over =
    let none : 33 - k ≡ zero = omega arith in
    rw none refl

-- the empty name has no flavor
pub no_flavor : essential_name [] ≡ []
unfolding essential_name
no_flavor = refl
