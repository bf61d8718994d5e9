-- The slots so far, and the least fault of linking.
use Rattle.std.proofs.Common.{◌≡◌, ℕ, zero, suc, ◌<◌, List, ◌∷◌, take, Some, None, sym, ap, ◌∙◌, subst, arith, ◌≢◌, ◌+◌, ◌≤◌, Bool, true, false, [], ◌++◌, length, reverse, refl, inl, inr}
use Rattle.std.specs.Prelude.{slice_get, slice_index_or}
use Rattle.std.proofs.lemmas.Bool.{ltb-false}
use Rattle.std.proofs.lemmas.Option.{slice_get_within}
use Rattle.std.proofs.lemmas.List.{take-append-le}
use Rattle.ebpf_base.specs.Faults.{first_of}
use Rattle.ebpf_linker.proofs.Cursor.{Apart, path_of, keys_of, walk_of, keys_found, keys_distinct, not_nil}
use Rattle.ebpf_linker.proofs.Held.{refs, AreSorted, rising, Found, at_index}
use Rattle.ebpf_linker.proofs.OneResult.{one_base, one_key_path, base_at}
use Rattle.ebpf_linker.proofs.Paths.{among_get, get_among, before_cases, distinct_more, last_of_last, nil_length, walk_more, walk_same}
use Rattle.ebpf_linker.proofs.Searched.{First, distinct_places, key_path, in_order, State, begins_with, before_found, held_top, plain_before, fault_here, push_at, ended, Step, Ended, Unresolved, Passes, Opens, NoCopy}
use Rattle.ebpf_linker.specs.Faults.{CopyFault, append_fault, Base, FaultStandsAt, Faultless, LeastFault}
use Rattle.ebpf_linker.specs.Functions.{Functions, Among, total, Nothing, Names, Walk, last_key_or, body}
use Rattle.ebpf_linker.specs.Numbered.{of_target}
use Rattle.ebpf_linker.specs.Order.{Before, KeyPath, InKeyPathOrder}
use Rattle.ebpf_linker.specs.Result.{IsOrder}
use Rattle.ebpf_linker.specs.Search.{IsFound, Search}
use Rattle.ebpf_linker.specs.declared.reference.Reference.{Reference}
use Rattle.ebpf_linker.specs.declared.reference.Fault.{Fault}
use Rattle.ebpf_linker.specs.declared.reference.Target.TheVariants.{Function, Nowhere}
use Rattle.ebpf_linker.specs.declared.search.Frame.{Frame}

module _ (F : Functions ℕ Fault) (N : ℕ) (C : ℕ → List Reference) (p : ℕ) where
  -- what was found so far is in order
  pub so_far : (ks : List ℕ) → Apart (p ∷ ks) → ((j k : ℕ) → 0 < j → slice_get (p ∷ ks) j ≡ Some k → First C p (p ∷ ks) j k) → InKeyPathOrder (refs C) p ks
  so_far ks apart firsts = (
    λ k a. let (j, at) = among_get ks k a in let first = firsts (suc j) k (omega arith) at in (first.path, key_path N C p (p ∷ ks) (suc j) k apart (omega arith) at first),
    λ i j k m x y lt ai aj kx ky. in_order N C p (p ∷ ks) (suc i) (suc j) k m x y apart (omega arith) (omega arith) ai aj (firsts (suc i) k (omega arith) ai) kx ky,
  )

  pub earlier : (ks : List ℕ) (i m : ℕ) → 0 < i → slice_get (p ∷ ks) i ≡ Some m → Among ks m
  earlier ks zero m pos at = absurd (omega arith)
  earlier ks (suc i) m pos at = get_among ks i m at

  pub fits_at : (ks : List ℕ) (j : ℕ) (path : List ℕ) (e : Fault) → Apart (p ∷ ks) → ((j k : ℕ) → 0 < j → slice_get (p ∷ ks) j ≡ Some k → First C p (p ∷ ks) j k) → (h : CopyFault F (refs C) p path e) → slice_get ks j ≡ Some h.key → append_fault F h.key (total F (p ∷ take j ks)) ≡ None → ⊥
  fits_at ks j path e apart firsts h at fits =
      let order = so_far ks apart firsts in
      let once = distinct_places N C p ks (λ i l k ai al. let e = apart.apart (suc i) (suc l) k (omega arith) (omega arith) ai al in omega (arith, e)) in
      let first = firsts (suc j) h.key (omega arith) at in
      let same : path ≡ first.path = one_key_path F (refs C) p h.key path first.path h.path_is (key_path N C p (p ∷ ks) (suc j) h.key apart (omega arith) at first) in
      let complete : (m : ℕ) (y : List ℕ) → KeyPath (refs C) p m y → Before y path → Among ks m = λ m y kp b.
      let (i, pi, lt, ai) = first.least y kp.keys kp.simple kp.some (subst (Before y) same b) in
      earlier ks i m pi (ai ∙ ap Some kp.ends) in
      let base = base_at F (refs C) p ks j h.key path once order complete at h.path_is in
      let e' = one_base F (refs C) p path _ _ h.base_is base in
      let z : append_fault F h.key (total F (p ∷ take j ks)) ≡ Some e = sym (ap (append_fault F h.key) e') ∙ h.fault in
      cc (z, fits)

-- ---- the slots so far, and the least fault of linking

pub record Counted (F : Functions ℕ Fault) (o : List ℕ) (u : ℕ) : Type 0 where
  pub used : u ≡ total F o
  pub room : (j k : ℕ) → 0 < j → slice_get o j ≡ Some k → u ≤ 2147483647
  pub fits : (j k : ℕ) → 0 < j → slice_get o j ≡ Some k → append_fault F k (total F (take j o)) ≡ None

first_none : {E : Type 0} (b c : Bool) (d e : E) → first_of ((b, d) ∷ (c, e) ∷ []) ≡ None → b ≡ false
first_none true c d e h = cc
first_none false c d e h = refl

take_all : (o ys : List ℕ) → take (length o) (o ++ ys) ≡ o
take_all [] ys = refl
take_all (x ∷ o) ys = ap (λ (u : List ℕ). x ∷ u) (take_all o ys)

module _ (F : Functions ℕ Fault) where
  total_more : (o : List ℕ) (k : ℕ) → total F (o ++ k ∷ []) ≡ total F o + length (body F k)
  total_more [] k = omega arith
  total_more (m ∷ o) k = omega (arith, total_more o k)

module _ (F : Functions ℕ Fault) (N : ℕ) (C : ℕ → List Reference) (p : ℕ) where
  counted_more : (o : List ℕ) (u k : ℕ) → Counted F o u → append_fault F k u ≡ None → Counted F (o ++ k ∷ []) (u + length (body F k))
  counted_more o u k h fit =
      let lt = ltb-false 2147483647 (u + length (body F k)) (first_none _ _ _ _ fit) in
      record {
        used = omega (arith, h.used, total_more F o k);
        room = λ j m pos at. lt;
        fits = λ j m pos at.
            elim (push_at N C p o k j m at) [
              | inl x ↦
                  let e = take-append-le j o (k ∷ []) (omega (arith, x.0)) in
                  ap (λ (v : List ℕ). append_fault F m (total F v)) e ∙ h.fits j m pos x.1
              | inr x ↦
                  let e : total F (take j (o ++ k ∷ [])) ≡ u = ap (λ (v : ℕ). total F (take v (o ++ k ∷ []))) x.0 ∙ ap (total F) (take_all o (k ∷ [])) ∙ sym h.used in
                  ap (append_fault F m) e ∙ ap (λ (v : ℕ). append_fault F v u) (sym x.1) ∙ fit
            ];
      }

  pub counted : (s t : Search) (top : Frame) → Counted F s.order s.used → Step F C top s t None → Counted F t.order t.used
  counted s t top h (Ended past same is) = subst (λ (u : Search). Counted F u.order u.used) (sym same) h
  counted s t top h (Unresolved c e at to same is) = cc (is)
  counted s t top h (Passes c k at to flag same is) = subst (λ (u : Search). Counted F u.order u.used) (sym same) h
  counted s t top h (Opens c k at to flag fits same is) = subst (λ (u : Search). Counted F u.order u.used) (sym same) (counted_more s.order s.used k h fits)
  counted s t top h (NoCopy c k e at to flag full same is) = cc (is)

  -- a function found whose copy can't be
  not_here : (ks : List ℕ) (j : ℕ) (path : List ℕ) (e : Fault) → Apart (p ∷ ks) → ((j k : ℕ) → 0 < j → slice_get (p ∷ ks) j ≡ Some k → First C p (p ∷ ks) j k) → ((j k : ℕ) → 0 < j → slice_get (p ∷ ks) j ≡ Some k → append_fault F k (total F (take j (p ∷ ks))) ≡ None) → (h : CopyFault F (refs C) p path e) → 0 < j → slice_get (p ∷ ks) j ≡ Some h.key → ⊥
  not_here ks zero path e apart firsts fits h pos at = omega arith
  not_here ks (suc j) path e apart firsts fits h pos at = fits_at F N C p ks j path e apart firsts h at (fits (suc j) h.key (omega arith) at)

  no_copy_fault : (o path : List ℕ) (f : List Bool) (s : List Frame) (u : ℕ) (e : Fault) → State N C p o f s → Counted F o u → (h : CopyFault F (refs C) p path e) → Found o (length o) (Names h.key) → ⊥
  no_copy_fault o path f s u e st n h is_found =
      let (ks, is) = begins_with N C p o p st.start in
      let (j, pos, lt, at) = is_found in
      let apart = subst Apart is st.apart in
      let firsts = subst (λ (v : List ℕ). (j k : ℕ) → 0 < j → slice_get v j ≡ Some k → First C p v j k) is st.firsts in
      let fits = subst (λ (v : List ℕ). (j k : ℕ) → 0 < j → slice_get v j ≡ Some k → append_fault F k (total F (take j v)) ≡ None) is n.fits in
      not_here ks j path e apart firsts fits h pos (ap (λ (v : List ℕ). slice_get v j) (sym is) ∙ at)

  -- no fault of any kind before the cursor
  none_before : AreSorted N C → (o : List ℕ) (f : List Bool) (s : List Frame) (top : Frame) (r : Reference) (u : ℕ) → State N C p o f (s ++ top ∷ []) → Counted F o u → slice_get (C top.function) top.next ≡ Some r → (other : List ℕ) (y : ℕ) (d : Fault) → FaultStandsAt F (refs C) p other y d → Before (other ++ y ∷ []) (path_of C p (top ∷ reverse s) ++ r.slot ∷ []) → ⊥
  none_before sound o f s top r u h n at other y d (inl g) b = plain_before N C p sound o top (reverse s) r h.start (held_top N C p o s top h.held) at other y d g b
  none_before sound o f s top r u h n at other y d (inr g) b =
      let is_found = before_found N C p sound o top (reverse s) r h.start (held_top N C p o s top h.held) at (other ++ y ∷ []) g.path_is.keys g.path_is.simple g.path_is.some b in
      no_copy_fault o (other ++ y ∷ []) f (s ++ top ∷ []) u d h n g (subst (λ (v : ℕ). Found o (length o) (Names v)) g.path_is.ends is_found)

  lower : (ks path : List ℕ) (j k m : ℕ) → KeyPath (refs C) p k path → (first : First C p (p ∷ ks) (suc j) m) → (m ≡ k → ⊥) → (Found (p ∷ ks) (length (p ∷ ks)) (Names k) → ⊥) → slice_get ks j ≡ Some m → Before first.path path
  lower ks path j k m kp first ne fresh at =
      elim (before_cases first.path path) [
        | inl b ↦ b
        | inr (inl e) ↦
            let keys : first.keys ≡ kp.keys = walk_same (refs C) p path first.keys kp.keys (subst (λ (v : List ℕ). Walk (refs C) p v first.keys) e first.simple.walk) kp.simple.walk in
            absurd (ne (sym first.ends ∙ ap (last_key_or p) keys ∙ kp.ends))
        | inr (inr b) ↦
            let (i, pos, lt, ai) = first.least path kp.keys kp.simple kp.some b in
            let in' = slice_get_within (p ∷ ks) i (last_key_or p kp.keys) ai in
            absurd (fresh (i, pos, in', ai ∙ ap Some kp.ends))
      ]

  -- the functions found are those with lower key paths
  base_now : (ks o path : List ℕ) (k : ℕ) → o ≡ p ∷ ks → Apart o → ((j m : ℕ) → 0 < j → slice_get o j ≡ Some m → First C p o j m) → KeyPath (refs C) p k path → ((m : ℕ) (y : List ℕ) → KeyPath (refs C) p m y → Before y path → Found o (length o) (Names m)) → (Found o (length o) (Names k) → ⊥) → Base F (refs C) p path (total F o)
  base_now ks o path k is apart firsts kp is_found fresh =
      let apart' = subst Apart is apart in
      let firsts' = subst (λ (v : List ℕ). (j m : ℕ) → 0 < j → slice_get v j ≡ Some m → First C p v j m) is firsts in
      let is_found' = subst (λ (v : List ℕ). (m : ℕ) (y : List ℕ) → KeyPath (refs C) p m y → Before y path → Found v (length v) (Names m)) is is_found in
      let fresh' = subst (λ (v : List ℕ). Found v (length v) (Names k) → ⊥) is fresh in
      record {
        earlier = ks;
        once = distinct_places N C p ks (λ i l m ai al. let e = apart'.apart (suc i) (suc l) m (omega arith) (omega arith) ai al in omega (arith, e));
        before = λ m a.
            let (j, at) = among_get ks m a in
            let first = firsts' (suc j) m (omega arith) at in
            let q = key_path N C p (p ∷ ks) (suc j) m apart' (omega arith) at first in
            let lt = slice_get_within ks j m at in
            (first.path, q, lower ks path j k m kp first (λ e. fresh' (suc j, omega arith, omega arith, at ∙ ap Some e)) fresh' at);
        all = λ m y q b. let (j, pos, lt, at) = is_found' m y q b in earlier F N C p ks j m pos at;
        size = ap (total F) is;
      }

  -- the function that can't have a copy
  past_now : AreSorted N C → (o : List ℕ) (f : List Bool) (s : List Frame) (top : Frame) (r : Reference) (k u : ℕ) (e : Fault) → State N C p o f (s ++ top ∷ []) → Counted F o u → slice_get (C top.function) top.next ≡ Some r → r.target ≡ Function k → slice_index_or f k false ≡ false → append_fault F k u ≡ Some e → CopyFault F (refs C) p (path_of C p (top ∷ reverse s) ++ r.slot ∷ []) e
  past_now sound o f s top r k u e h n at to flag bad =
      let held = held_top N C p o s top h.held in
      let fresh = h.unmarked k flag in
      let es = top ∷ reverse s in
      let w = walk_of C p (rising sound) o (length o) top (reverse s) h.start held in
      let leads : refs C (last_key_or p (keys_of C p es)) r.slot ≡ Names k = rw w.1 ((at_index (C top.function) 0 top.next r (sound.rises top.function) at).1 ∙ ap of_target to) in
      let start = begins_with N C p o p h.start in
      let path = path_of C p es ++ r.slot ∷ [] in
      let kp : KeyPath (refs C) p k path = record {
        keys = keys_of C p es ++ k ∷ [];
        simple = record {
          walk = walk_more (refs C) p (path_of C p es) (keys_of C p es) r.slot k w.0 leads;
          once = distinct_more (keys_of C p es) k (keys_distinct C p o (length o) top (reverse s) h.apart held) (λ a. fresh (keys_found C p o (length o) top (reverse s) k held a));
        };
        ends = last_of_last p (keys_of C p es) k;
        some = not_nil (path_of C p es) r.slot;
        least = λ other others q ne ends b. fresh (subst (λ (v : ℕ). Found o (length o) (Names v)) ends (before_found N C p sound o top (reverse s) r h.start held at other others q ne b));
      } in
      let is_found : (m : ℕ) (y : List ℕ) → KeyPath (refs C) p m y → Before y path → Found o (length o) (Names m) = λ m y q b. subst (λ (v : ℕ). Found o (length o) (Names v)) q.ends (before_found N C p sound o top (reverse s) r h.start held at y q.keys q.simple q.some b) in
      record {
        key = k;
        base = total F o;
        path_is = kp;
        base_is = base_now start.0 o path k start.1 h.apart h.firsts kp is_found (λ x. fresh x);
        fault = ap (append_fault F k) (sym n.used) ∙ bad;
      }

  pub refused : AreSorted N C → (s t : Search) (top : Frame) (d : Fault) → State N C p s.order s.is_found (s.work_list ++ top ∷ []) → Counted F s.order s.used → Step F C top s t (Some d) → LeastFault F (refs C) p d
  refused sound s t top d h n (Ended past same is) = cc (is)
  refused sound s t top d h n (Unresolved c e at to same is) =
      let fault : c.target ≡ Nowhere d = cc (to, is) in
      record {
        path = path_of C p (top ∷ reverse s.work_list);
        slot = c.slot;
        stands = inl (fault_here N C p sound s.order top (reverse s.work_list) c d h.start h.apart (held_top N C p s.order s.work_list top h.held) at fault);
        none_before = λ other y g q v. none_before sound s.order s.is_found s.work_list top c s.used h n at other y g q v;
      }
  refused sound s t top d h n (Passes c k at to flag same is) = cc (is)
  refused sound s t top d h n (Opens c k at to flag fits same is) = cc (is)
  refused sound s t top d h n (NoCopy c k e at to flag full same is) =
      record {
        path = path_of C p (top ∷ reverse s.work_list);
        slot = c.slot;
        stands = inr (past_now sound s.order s.is_found s.work_list top c k s.used d h n at to flag (full ∙ sym is));
        none_before = λ other y g q v. none_before sound s.order s.is_found s.work_list top c s.used h n at other y g q v;
      }

  -- the end

  walk_among : (ks path keys : List ℕ) → IsOrder (refs C) p ks → Walk (refs C) p path keys → Among (p ∷ ks) (last_key_or p keys)
  walk_among ks [] [] order w = inl refl
  walk_among ks [] (k ∷ keys) order w = absurd w
  walk_among ks (x ∷ path) keys order w = inr (order.complete (last_key_or p keys) (x, path, keys, w, refl))

  key_reached : (ks path : List ℕ) (k : ℕ) → IsOrder (refs C) p ks → (keys : List ℕ) → path ≢ [] → Walk (refs C) p path keys → last_key_or p keys ≡ k → Among ks k
  key_reached ks [] k order keys ne w e = absurd (ne refl)
  key_reached ks (x ∷ path) k order keys ne w e = order.complete k (x, path, keys, w, e)

  faultless : (ks : List ℕ) (f : List Bool) (u : ℕ) → State N C p (p ∷ ks) f [] → Counted F (p ∷ ks) u → IsOrder (refs C) p ks → Faultless F (refs C) p
  faultless ks f u st n order path x e (inl h) =
      let some : refs C (last_key_or p h.keys) x ≢ Nothing = λ (z : refs C (last_key_or p h.keys) x ≡ Nothing). cc (h.fault) in
      let (m, is, a) = order.resolved (last_key_or p h.keys) x (walk_among ks path h.keys order h.simple.walk) some in
      cc (h.fault, is)
  faultless ks f u st n order path x e (inr h) =
      let a = key_reached ks (path ++ x ∷ []) h.key order h.path_is.keys h.path_is.some h.path_is.simple.walk h.path_is.ends in
      let (j, at) = among_get ks h.key a in
      let lt = slice_get_within ks j h.key at in
      no_copy_fault (p ∷ ks) (path ++ x ∷ []) f [] u e st n h (suc j, omega arith, omega arith, at)

  roomy : (ks : List ℕ) (u : ℕ) → Counted F (p ∷ ks) u → (k : ℕ) → Among ks k → total F (p ∷ ks) ≤ 2147483647
  roomy ks u n k a =
      let (j, at) = among_get ks k a in
      let z = n.room (suc j) k (omega arith) at in
      omega (arith, z, n.used)

  pub found_all : (o : List ℕ) (f : List Bool) (s : List Frame) (u : ℕ) → length s ≡ 0 → State N C p o f s → Counted F o u → (ks : List ℕ) × (o ≡ p ∷ ks) × IsFound F (refs C) p ks
  found_all o f s u e h n =
      let (ks, is, order) = ended N C p o f s e h in
      let st = subst (λ (v : List ℕ). State N C p v f []) is (subst (State N C p o f) (nil_length s e) h) in
      let n' = subst (λ (v : List ℕ). Counted F v u) is n in
      (ks, is, record { order = order; faultless = faultless ks f u st n' order; fits = λ j k at. n'.fits (suc j) k (omega arith) at; room = roomy ks u n' })

pub counted_first : (F : Functions ℕ Fault) (p u : ℕ) (o : List ℕ) → o ≡ p ∷ [] → u ≡ length (body F p) → Counted F o u
counted_first F p u o e len =
    let w = ap (total F) e in
    record {
      used = omega (arith, len, w);
      room = λ j k pos at. let q = slice_get_within o j k at in let v = ap length e in absurd (omega (arith, q, v, pos));
      fits = λ j k pos at. let q = slice_get_within o j k at in let v = ap length e in absurd (omega (arith, q, v, pos));
    }
