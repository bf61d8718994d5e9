-- The references as the search checks them, and where they lead.
use Rattle.std.proofs.Common.{◌≡◌, ℕ, zero, suc, ◌+◌, ◌<◌, List, [], ◌∷◌, map, length, Option, Some, refl, ap, subst, inl, inr, get_or, ◌≢◌, Bool, true, false, ◌∙◌}
use Rattle.std.specs.Prelude.{slice_get, ◌==◌, All, Vec, Result, if◌then◌else◌}
use Rattle.std.specs.declared.alloc.Global.{Global}
use Rattle.std.proofs.Math.Path.{fun_ext}
use Rattle.std.proofs.lemmas.Bool.{cases_Bool}
use Rattle.std.proofs.lemmas.Option.{slice_get_within, get_or_from_slice_get, slice_get-get_or}
use Rattle.std.proofs.lemmas.List.Elements.{All-get_or}
use Rattle.ebpf_linker.proofs.Held.{refs, AreSorted}
use Rattle.ebpf_linker.proofs.Paths.{names_same}
use Rattle.ebpf_linker.specs.Faults.{checked_references, checked, func_info_agrees}
use Rattle.ebpf_linker.specs.Functions.{References, or_empty, SlotReference, Nothing, Faulty, Names, Functions, Among, Walk}
use Rattle.ebpf_linker.specs.Numbered.{of_target, referred, calls_at, functions_by_number, body_content, option_content, Rises, IsWithin, Sound}
use Rattle.ebpf_linker.specs.Order.{Simple, KeyPath}
use Rattle.ebpf_linker.specs.PrivateContracts.{content_in}
use Rattle.ebpf_linker.specs.Result.{IsOrder}
use Rattle.ebpf_linker.specs.Search.{Finds, checked_target, checked_call, checked_calls}
use Rattle.ebpf_linker.specs.declared.body.Body.{Body}
use Rattle.ebpf_linker.specs.declared.reference.Reference.{Reference}
use Rattle.ebpf_linker.specs.declared.reference.Fault.{Fault}
use Rattle.ebpf_linker.specs.declared.reference.Target.{Target}
use Rattle.ebpf_linker.specs.declared.reference.Target.TheVariants.{Function, Nowhere}

-- ---- the references as the search checks them are those of linking

module _ (B : List Body) (p : ℕ) where
  target_within : (n : ℕ) (t : Target) → IsWithin n t → IsWithin n (checked_target B p t)
  target_within n (Nowhere e) h = h
  target_within n (Function k) h =
      elim (cases_Bool (func_info_agrees (functions_by_number B []) p k)) [ inl e ↦ rw e h | inr e ↦ rw e tt ]

  rises_seen : (low : ℕ) (cs : List Reference) → Rises low cs → Rises low (map (checked_call B p) cs)
  rises_seen low [] h = tt
  rises_seen low (c ∷ cs) h = (h.0, rises_seen (c.slot + 1) cs h.1)

  get_seen : (cs : List Reference) (i : ℕ) (c : Reference) → slice_get (map (checked_call B p) cs) i ≡ Some c → (d : Reference) × (slice_get cs i ≡ Some d) × (checked_call B p d ≡ c)
  get_seen [] i c e = cc
  get_seen (d ∷ cs) zero c e = (d, refl, cc)
  get_seen (d ∷ cs) (suc i) c e = get_seen cs i c e

  pub all_at : (n : ℕ) (cs : List Reference) (i : ℕ) (c : Reference) → All (λ d. IsWithin n d.target) cs → slice_get cs i ≡ Some c → IsWithin n c.target
  all_at n cs i c all at =
      let here = All-get_or (λ (d : Reference). IsWithin n d.target) cs i c (slice_get_within cs i c at) all in
      subst (λ (d : Reference). IsWithin n d.target) (get_or_from_slice_get cs i c c at) here

  -- the references that the search sees are as sound as those that are given
  pub are_sorted : (n : ℕ) (C : List (Vec Reference Global)) → Sound n C → AreSorted n (checked_calls B C p)
  are_sorted n C sound =
      record {
        rises = λ k. rises_seen 0 (calls_at C k) (sound.rises k);
        within = λ k i c at.
            let (d, is, e) = get_seen (calls_at C k) i c at in
            subst (λ (u : Reference). IsWithin n u.target) e (target_within n d.target (all_at n (calls_at C k) i d (sound.within k) is));
      }

  of_seen : (t : Target) → of_target (checked_target B p t) ≡ checked (functions_by_number B []) p (of_target t)
  of_seen (Nowhere e) = refl
  of_seen (Function k) = elim (cases_Bool (func_info_agrees (functions_by_number B []) p k)) [ inl e ↦ rw e refl | inr e ↦ rw e refl ]

  referred_seen : (cs : List Reference) (x : ℕ) → referred (map (checked_call B p) cs) x ≡ checked (functions_by_number B []) p (referred cs x)
  referred_seen [] x = refl
  referred_seen (c ∷ cs) x = elim (cases_Bool (c.slot == x)) [ inl e ↦ rw e (of_seen c.target) | inr e ↦ rw e (referred_seen cs x) ]

  -- what the search follows is what linking does
  pub same_refs : (C : List (Vec Reference Global)) → refs (checked_calls B C p) ≡ checked_references (functions_by_number B C) p
  same_refs C = fun_ext (λ (k : ℕ). fun_ext (λ (x : ℕ). referred_seen (calls_at C k) x))

-- what function k is, read from its list
pub content_read : (B : List Body) (k : ℕ) (d : Body) → k < length B → content_in B k ≡ body_content (get_or B k d)
content_read B k d lt = ap (λ (u : Option Body). or_empty (option_content u)) (slice_get-get_or B k d lt)

-- what the search answers of the checked references holds of those of linking
pub finds : (B : List Body) (C : List (Vec Reference Global)) (p : ℕ) (answer : Result (Vec ℕ Global) Fault) → Finds (functions_by_number B C) (refs (checked_calls B C p)) p answer → Finds (functions_by_number B C) (checked_references (functions_by_number B C) p) p answer
finds B C p answer h = subst (λ (R : References ℕ Fault). Finds (functions_by_number B C) R p answer) (same_refs B p C) h

-- ---- where linking follows what the slots refer to

module _ {K E : Type 0} (F : Functions K E) (p : K) where
  named_if : (b : Bool) (e : E) (k m : K) → ◌≡◌ {A = SlotReference K E} (if b then Names k else Faulty e) (Names m) → ◌≡◌ {A = SlotReference K E} (Names k) (Names m)
  named_if true e k m h = h
  named_if false e k m h = cc

  pub checked_names : (r : SlotReference K E) (m : K) → checked F p r ≡ Names m → r ≡ Names m
  checked_names Nothing m e = cc
  checked_names (Faulty d) m e = cc
  checked_names (Names k) m e = named_if (func_info_agrees F p k) (F.mismatch k) k m e

  nothing_if : (b : Bool) (e : E) (k : K) → ◌≡◌ {A = SlotReference K E} (if b then Names k else Faulty e) Nothing → ⊥
  nothing_if true e k h = cc
  nothing_if false e k h = cc

  checked_some : (r : SlotReference K E) → r ≢ Nothing → checked F p r ≢ Nothing
  checked_some Nothing ne e = ne refl
  checked_some (Faulty d) ne e = cc
  checked_some (Names k) ne e = nothing_if (func_info_agrees F p k) (F.mismatch k) k e

  walk_plain : (q : K) (path : List ℕ) (keys : List K) → Walk (checked_references F p) q path keys → Walk F.reference q path keys
  walk_plain q [] [] w = tt
  walk_plain q [] (k ∷ keys) w = absurd w
  walk_plain q (x ∷ path) [] w = absurd w
  walk_plain q (x ∷ path) (k ∷ keys) w = (checked_names (F.reference q x) k w.0, walk_plain k path keys w.1)

  module _ (ks : List K) (order : IsOrder (checked_references F p) p ks) where
    -- a reference of the program or of a function that it reaches
    followed : (q : K) (x : ℕ) → Among (p ∷ ks) q → F.reference q x ≢ Nothing → (m : K) × (checked_references F p q x ≡ Names m) × (F.reference q x ≡ Names m) × Among ks m
    followed q x a ne =
        let (m, is, b) = order.resolved q x a (checked_some (F.reference q x) ne) in
        (m, is, checked_names (F.reference q x) m is, b)

    walk_linking : (q : K) (path : List ℕ) (keys : List K) → Among (p ∷ ks) q → Walk F.reference q path keys → Walk (checked_references F p) q path keys
    walk_linking q [] [] a w = tt
    walk_linking q [] (k ∷ keys) a w = absurd w
    walk_linking q (x ∷ path) [] a w = absurd w
    walk_linking q (x ∷ path) (k ∷ keys) a w =
        let ne : F.reference q x ≢ Nothing = λ (z : F.reference q x ≡ Nothing). cc (w.0) in
        let (m, is, plain, b) = followed q x a ne in
        let same : m ≡ k = names_same m k (F.reference q x) plain w.0 in
        (is ∙ ap Names same, walk_linking k path keys (inr (subst (Among ks) same b)) w.1)

    simple_plain : (path : List ℕ) (keys : List K) → Simple (checked_references F p) p path keys → Simple F.reference p path keys
    simple_plain path keys s = record { walk = walk_plain p path keys s.walk; once = s.once }

    simple_linking : (path : List ℕ) (keys : List K) → Simple F.reference p path keys → Simple (checked_references F p) p path keys
    simple_linking path keys s = record { walk = walk_linking p path keys (inl refl) s.walk; once = s.once }

    key_path_plain : (k : K) (path : List ℕ) → KeyPath (checked_references F p) p k path → KeyPath F.reference p k path
    key_path_plain k path h =
        record {
          keys = h.keys;
          simple = simple_plain path h.keys h.simple;
          ends = h.ends;
          some = h.some;
          least = λ other others s ne ends b. h.least other others (simple_linking other others s) ne ends b;
        }

    key_path_linking : (k : K) (path : List ℕ) → KeyPath F.reference p k path → KeyPath (checked_references F p) p k path
    key_path_linking k path h =
        record {
          keys = h.keys;
          simple = simple_linking path h.keys h.simple;
          ends = h.ends;
          some = h.some;
          least = λ other others s ne ends b. h.least other others (simple_plain other others s) ne ends b;
        }

    -- the order is that of the slots' references
    pub plain : IsOrder F.reference p ks
    plain =
        record {
          once = order.once;
          reached = λ k a. let (x, path, keys, w, end) = order.reached k a in (x, path, keys, walk_plain p (x ∷ path) keys w, end);
          complete = λ k (x, path, keys, w, end). order.complete k (x, path, keys, walk_linking p (x ∷ path) keys (inl refl) w, end);
          resolved = λ k x a ne. let (m, is, r, b) = followed k x a ne in (m, r, b);
          order = (
            λ k a. let (path, h) = order.order.0 k a in (path, key_path_plain k path h),
            λ i j k m x y lt ai aj kx ky. order.order.1 i j k m x y lt ai aj (key_path_linking k x kx) (key_path_linking m y ky),
          );
        }
