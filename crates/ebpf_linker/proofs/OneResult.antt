-- Linking has one result: the order, the bases, the slots, the records and the map of a linked program, and the least fault.
use Rattle.std.proofs.Common.{◌≡◌, ℕ, zero, suc, ◌+◌, ◌<◌, ◌≤◌, List, [], ◌∷◌, length, take, Some, refl, sym, ap, ◌∙◌, subst, inl, inr, arith, ◌-◌, ◌++◌, Option, ⊎_elim}
use Rattle.std.specs.Prelude.{slice_get, pos, ◌-ℤ◌}
use Rattle.std.proofs.lemmas.Bool.{cases_eq, cases_lt}
use Rattle.ebpf_base.proofs.Lists.{there_is}
use Rattle.ebpf_linker.proofs.Paths.{before_cases, before_trans, irreflexive, get_among, among_get, last_same, walk_same, walk_parts}
use Rattle.ebpf_linker.proofs.Visits.{begins_among}
use Rattle.ebpf_linker.specs.Faults.{Base, FaultStandsAt, LeastFault, append_fault, checked_references, has_some}
use Rattle.ebpf_linker.specs.Functions.{References, Functions, FunctionContent, Among, Distinct, total, body, relinked, SlotReference, Nothing, Faulty, Names, BeginsAt, Becomes, Linked, Walk, last_key_or, SlotReference as Refers}
use Rattle.ebpf_linker.specs.LinkMap.{CopyOf, copies_from, AreReferences, IsLinkMap, PlacesRise, Lands, copied_slot_count}
use Rattle.ebpf_linker.specs.Order.{Before, KeyPath, InKeyPathOrder, HasReferenceFault}
use Rattle.ebpf_linker.specs.Result.{IsLayout, has_lines, count_if, IsProgram}
use Rattle.ebpf_linker.specs.declared.body.LinkedProgram.{LinkedProgram}
use Rattle.ebpf_linker.specs.declared.link_map.PlacedReference.{PlacedReference}
use Rattle.ebpf_parts.specs.declared.insn.bpf_insn.{bpf_insn}

-- ---- a function has one base, and it is what the search counts

module _ {K E : Type 0} (F : Functions K E) (R : References K E) where
  -- k taken out
  record Without (ms : List K) (k : K) : Type 0 where
    rest : List K
    size : total F ms ≡ length (body F k) + total F rest
    kept : (m : K) → Among ms m → (k ≡ m → ⊥) → Among rest m

  without : (ms : List K) (k : K) → Among ms k → Without ms k
  without [] k a = absurd a
  without (m ∷ ms) k (inl e) =
      let z = ap (λ (u : K). length (body F u)) e in
      record { rest = ms; size = omega (arith, z); kept = λ n b ne. elim b [ inl f ↦ absurd (ne (sym e ∙ f)) | inr c ↦ c ] }
  without (m ∷ ms) k (inr a) =
      let w = without ms k a in
      record { rest = m ∷ w.rest; size = omega (arith, w.size); kept = λ n b ne. elim b [ inl f ↦ inl f | inr c ↦ inr (w.kept n c ne) ] }

  -- distinct functions among others have no more slots
  pub total_le : (ks ms : List K) → Distinct ks → ((k : K) → Among ks k → Among ms k) → total F ks ≤ total F ms
  total_le [] ms once h = omega arith
  total_le (k ∷ ks) ms once h =
      let w = without ms k (h k (inl refl)) in
      let le = total_le ks w.rest once.1 (λ m a. w.kept m (h m (inr a)) (λ e. once.0 (subst (Among ks) (sym e) a))) in
      omega (arith, le, w.size)

  same_total : (ks ms : List K) → Distinct ks → Distinct ms → ((k : K) → Among ks k → Among ms k) → ((k : K) → Among ms k → Among ks k) → total F ks ≡ total F ms
  same_total ks ms a b f g = let x = total_le ks ms a f in let y = total_le ms ks b g in omega (arith, x, y)

  pub one_base : (p : K) (path : List ℕ) (b c : ℕ) → Base F R p path b → Base F R p path c → b ≡ c
  one_base p path b c x y =
      let e = same_total x.earlier y.earlier x.once y.once (λ k a. let (q, kp, bf) = x.before k a in y.all k q kp bf) (λ k a. let (q, kp, bf) = y.before k a in x.all k q kp bf) in
      omega (arith, x.size, y.size, e)

  pub one_key_path : (p k : K) (x y : List ℕ) → KeyPath R p k x → KeyPath R p k y → x ≡ y
  one_key_path p k x y a b =
      elim (before_cases x y) [
        | inl h ↦ absurd (b.least x a.keys a.simple a.some a.ends h)
        | inr (inl e) ↦ e
        | inr (inr h) ↦ absurd (a.least y b.keys b.simple b.some b.ends h)
      ]

  among_take : (ks : List K) (j : ℕ) (m : K) → Among (take j ks) m → (i : ℕ) × (i < j) × (slice_get ks i ≡ Some m)
  among_take [] zero m a = absurd a
  among_take [] (suc j) m a = absurd a
  among_take (k ∷ ks) zero m a = absurd a
  among_take (k ∷ ks) (suc j) m (inl e) = (0, omega arith, ap Some e)
  among_take (k ∷ ks) (suc j) m (inr a) = let (i, lt, at) = among_take ks j m a in (suc i, omega arith, at)

  take_among : (ks : List K) (i j : ℕ) (m : K) → i < j → slice_get ks i ≡ Some m → Among (take j ks) m
  take_among [] i j m lt at = cc
  take_among (k ∷ ks) zero zero m lt at = absurd (omega arith)
  take_among (k ∷ ks) zero (suc j) m lt at = inl cc
  take_among (k ∷ ks) (suc i) zero m lt at = absurd (omega arith)
  take_among (k ∷ ks) (suc i) (suc j) m lt at = inr (take_among ks i j m (omega arith) at)

  distinct_take : (ks : List K) (j : ℕ) → Distinct ks → Distinct (take j ks)
  distinct_take [] zero h = tt
  distinct_take [] (suc j) h = tt
  distinct_take (k ∷ ks) zero h = tt
  distinct_take (k ∷ ks) (suc j) h = (λ a. let (i, lt, at) = among_take ks j k a in h.0 (get_among ks i k at), distinct_take ks j h.1)

  -- in the order of key paths, the base of a member is what stands before it
  pub base_at : (p : K) (ks : List K) (j : ℕ) (k : K) (x : List ℕ) → Distinct ks → InKeyPathOrder R p ks → ((m : K) (y : List ℕ) → KeyPath R p m y → Before y x → Among ks m) → slice_get ks j ≡ Some k → KeyPath R p k x → Base F R p x (total F (p ∷ take j ks))
  base_at p ks j k x once order complete at path =
      record {
        earlier = take j ks;
        once = distinct_take ks j once;
        before = λ m a.
            let (i, lt, ai) = among_take ks j m a in
            let (y, kp) = order.0 m (get_among ks i m ai) in
            (y, kp, order.1 i j m k y x lt ai at kp path);
        all = λ m y kp b.
            let (i, ai) = among_get ks m (complete m y kp b) in
            elim (cases_lt i j) [
              | inl lt ↦ take_among ks i j m lt ai
              | inr le ↦
                  elim (cases_eq i j) [
                    | inl e ↦
                        let same : k ≡ m = cc (e, at, ai) in
                        let z = one_key_path p k x y path (subst (λ (u : K). KeyPath R p u y) (sym same) kp) in
                        absurd (irreflexive y (subst (Before y) z b))
                    | inr ne ↦ absurd (irreflexive y (before_trans y x y b (order.1 j i k m x y (omega arith) at ai path kp)))
                  ]
            ];
        size = refl;
      }

-- a linked program is no longer than it and all functions together
pub no_longer : {K E : Type 0} (F : Functions K E) (p : K) (ks all : List K) (n : ℕ) → IsLayout F p ks → n ≡ total F (p ∷ ks) → ((k : K) (c : FunctionContent) → F.content k ≡ Some c → Among all k) → n ≤ length (body F p) + total F all
no_longer F p ks all n h size covers =
    let le = total_le F F.reference ks all h.order.once (λ k a. let (c, there) = h.functions k a in covers k c there) in
    omega (arith, le, size)

-- ---- linking has one result: the order, the slots and the records of a linked program, and the least fault

-- ---- the order

not_both : (x y : List ℕ) → Before x y → Before y x → ⊥
not_both x y h g = irreflexive x (before_trans x y x h g)

module _ {K E : Type 0} (R : References K E) (p : K) where
  later_in_order : (k : K) (ks : List K) → InKeyPathOrder R p (k ∷ ks) → InKeyPathOrder R p ks
  later_in_order k ks h = (λ m a. h.0 m (inr a), λ i j m n x y lt at at' a b. h.1 (suc i) (suc j) m n x y (omega arith) at at' a b)

  -- the first of two lists of the same keys
  same_first : (k m : K) (ks ms : List K) → InKeyPathOrder R p (k ∷ ks) → InKeyPathOrder R p (m ∷ ms) → Among (k ∷ ks) m → Among (m ∷ ms) k → k ≡ m
  same_first k m ks ms h g (inl e) b = e
  same_first k m ks ms h g (inr a) (inl e) = sym e
  same_first k m ks ms h g (inr a) (inr b) =
      let (x, kx) = h.0 k (inl refl) in
      let (y, my) = g.0 m (inl refl) in
      let (i, at) = among_get ks m a in
      let (j, at') = among_get ms k b in
      absurd (not_both x y (h.1 0 (suc i) k m x y (omega arith) refl at kx my) (g.1 0 (suc j) m k y x (omega arith) refl at' my kx))

  -- one list has these keys in the order of their key paths
  one_order : (ks ms : List K) → Distinct ks → Distinct ms → InKeyPathOrder R p ks → InKeyPathOrder R p ms → ((k : K) → Among ks k → Among ms k) → ((k : K) → Among ms k → Among ks k) → ks ≡ ms
  one_order [] [] a b h g to from = refl
  one_order [] (m ∷ ms) a b h g to from = absurd (from m (inl refl))
  one_order (k ∷ ks) [] a b h g to from = absurd (to k (inl refl))
  one_order (k ∷ ks) (m ∷ ms) a b h g to from =
      let same : k ≡ m = same_first k m ks ms h g (from m (inl refl)) (to k (inl refl)) in
      let rest : ks ≡ ms = one_order ks ms a.1 b.1 (later_in_order k ks h) (later_in_order m ms g)
      (λ q among. ⊎_elim (λ (e : m ≡ q). absurd (a.0 (subst (λ (r : K). Among ks r) (sym (same ∙ e)) among))) (λ (c : Among ms q). c) (to q (inr among)))
      (λ q among. ⊎_elim (λ (e : k ≡ q). absurd (b.0 (subst (λ (r : K). Among ms r) (sym (sym same ∙ e)) among))) (λ (c : Among ks q). c) (from q (inr among)))
      in
      λ i. same i ∷ rest i

-- ---- the slots

same_slots : {X : Type 0} (xs ys : List X) → length xs ≡ length ys → ((i : ℕ) → i < length xs → slice_get xs i ≡ slice_get ys i) → xs ≡ ys
same_slots [] [] e h = refl
same_slots [] (y ∷ ys) e h = absurd (omega arith)
same_slots (x ∷ xs) [] e h = absurd (omega arith)
same_slots (x ∷ xs) (y ∷ ys) e h =
    let first : Some x ≡ Some y = h 0 (omega arith) in
    let head : x ≡ y = cc in
    let rest : xs ≡ ys = same_slots xs ys (omega arith) (λ i lt. h (suc i) (omega arith)) in
    λ i. head i ∷ rest i

module _ {K E : Type 0} (F : Functions K E) where
  -- a place of some functions, one after the other, is inside one of them
  record Inside (ks : List K) (x : ℕ) : Type 0 where
    key : K
    base : ℕ
    slot : ℕ
    begins : BeginsAt F ks key base
    within : slot < length (body F key)
    is : x ≡ base + slot

  inside : (ks : List K) (x : ℕ) → x < total F ks → Inside ks x
  inside [] x lt = absurd (omega arith)
  inside (k ∷ ks) x lt = ⊎_elim
      (λ (low : x < length (body F k)). record { key = k; base = 0; slot = x; begins = inl (refl, refl); within = low; is = omega arith })
      (λ (high : length (body F k) ≤ x).
      let rest = inside ks (x - length (body F k)) (omega arith) in
      record { key = rest.key; base = length (body F k) + rest.base; slot = rest.slot; begins = inr (rest.base, refl, rest.begins); within = rest.within; is = omega (arith, rest.is) })
      (cases_lt x (length (body F k)))

  pub one_begin : (ks : List K) (k : K) (b c : ℕ) → Distinct ks → BeginsAt F ks k b → BeginsAt F ks k c → b ≡ c
  one_begin [] k b c once h g = absurd h
  one_begin (m ∷ ks) k b c once (inl h) (inl g) = h.1 ∙ sym g.1
  one_begin (m ∷ ks) k b c once (inl h) (inr g) = absurd (once.0 (subst (λ (r : K). Among ks r) (sym h.0) (begins_among F ks k g.0 g.2)))
  one_begin (m ∷ ks) k b c once (inr h) (inl g) = absurd (once.0 (subst (λ (r : K). Among ks r) (sym g.0) (begins_among F ks k h.0 h.2)))
  one_begin (m ∷ ks) k b c once (inr h) (inr g) = h.1 ∙ ap (λ n. length (body F m) + n) (one_begin ks k h.0 g.0 once.1 h.2 g.2) ∙ sym g.1

  becomes_one : (p : K) (ks : List K) (place : ℕ) (r : SlotReference K E) (s t u : bpf_insn) → Distinct ks → Becomes F p ks place r s t → Becomes F p ks place r s u → t ≡ u
  becomes_one p ks place Nothing s t u once h g = h ∙ sym g
  becomes_one p ks place (Faulty e) s t u once h g = absurd h
  becomes_one p ks place (Names k) s t u once h g =
      h.2 ∙ ap (λ n. relinked s (pos (length (body F p) + n) -ℤ pos (place + 1))) (one_begin ks k h.0 g.0 once h.1 g.1) ∙ sym g.2

  -- one list of slots has these functions, one after the other
  pub one_body : (p : K) (ks : List K) (xs ys : List bpf_insn) → Distinct ks → Linked F p ks xs → Linked F p ks ys → xs ≡ ys
  one_body p ks xs ys once h g = same_slots xs ys (h.size ∙ sym g.size) (λ x lt.
      let n = inside (p ∷ ks) x (let size = h.size in omega arith) in
      let s = there_is (body F n.key) n.slot n.within in
      let t = h.slots n.key n.base n.slot s.0 n.begins s.1 in
      let u = g.slots n.key n.base n.slot s.0 n.begins s.1 in
      let same = becomes_one p ks (n.base + n.slot) (F.reference n.key n.slot) s.0 t.0 u.0 once t.2 u.2 in
      ap (slice_get xs) n.is ∙ t.1 ∙ ap Some same ∙ sym u.1 ∙ ap (slice_get ys) (sym n.is))

  -- a slot that is no reference stands as it is in each copy of its function
  pub plain_stays : (p : K) (ks : List K) (out : List bpf_insn) → Linked F p ks out → (k : K) (b i : ℕ) (s : bpf_insn) → BeginsAt F (p ∷ ks) k b → slice_get (body F k) i ≡ Some s → F.reference k i ≡ Nothing → slice_get out (b + i) ≡ Some s
  plain_stays p ks out h k b i s begins at none =
      let t = h.slots k b i s begins at in
      t.1 ∙ ap Some (subst (λ (r : SlotReference K E). Becomes F p ks (b + i) r s t.0) none t.2)

  -- ---- the program

  pub one_layout : (p : K) (ks ms : List K) → IsLayout F p ks → IsLayout F p ms → ks ≡ ms
  one_layout p ks ms h g = one_order F.reference p ks ms h.order.once g.order.once h.order.order g.order.order (λ k a. g.order.complete k (h.order.reached k a)) (λ k a. h.order.complete k (g.order.reached k a))

  same_made : (p : K) (ks : List K) (l n : LinkedProgram) → IsProgram F p ks l → IsProgram F p ks n → l ≡ n
  same_made p ks l n h g =
      let slots : l.slots ≡ n.slots = one_body p ks l.slots n.slots h.layout.order.once h.linked g.linked in
      let funcs : l.func_info ≡ n.func_info = h.func_info ∙ sym g.func_info in
      let lines : l.line_info ≡ n.line_info = h.line_info ∙ sym g.line_info in
      let func_count : l.func_count ≡ n.func_count = h.func_count ∙ ap (count_if (has_some ks)) funcs ∙ sym g.func_count in
      let line_count : l.line_count ≡ n.line_count = h.line_count ∙ ap (count_if (has_lines F ks)) lines ∙ sym g.line_count in
      λ i. record { slots = slots i; func_info = funcs i; line_info = lines i; func_count = func_count i; line_count = line_count i }

  pub one_program : (p : K) (ks ms : List K) (l n : LinkedProgram) → IsProgram F p ks l → IsProgram F p ms n → l ≡ n
  one_program p ks ms l n h g = same_made p ms l n (subst (λ (os : List K). IsProgram F p os l) (one_layout p ks ms h.layout g.layout) h) g

-- ---- the least fault

same_error : {E : Type 0} (d e : E) (o : Option E) → o ≡ Some d → o ≡ Some e → d ≡ e
same_error d e o a b = cc

module _ {K E : Type 0} (F : Functions K E) (R : References K E) (p : K) where
  ends_where : (path : List ℕ) (k m : K) (ks ms : List K) → Walk R p path ks → Walk R p path ms → last_key_or p ks ≡ k → last_key_or p ms ≡ m → k ≡ m
  ends_where path k m ks ms w v a b = sym a ∙ ap (last_key_or p) (walk_same R p path ks ms w v) ∙ b

  -- a slot that refers to what can't be had leads nowhere
  no_way : (path : List ℕ) (x : ℕ) (d : E) (keys : List K) → HasReferenceFault R p path x d → Walk R p (path ++ x ∷ []) keys → ⊥
  no_way path x d keys h w =
      let parts = walk_parts R p path (x ∷ []) keys w in
      let same : parts.front ≡ h.keys = walk_same R p path parts.front h.keys parts.first h.simple.walk in
      step parts.back parts.second (ap (λ (ks : List K). R (last_key_or p ks) x) same ∙ h.fault)
    where
      step : {from : K} (back : List K) → Walk R from (x ∷ []) back → R from x ≡ Faulty d → ⊥
      step [] v e = v
      step (k ∷ back) v e = cc (v.0, e)

  one_at : (path : List ℕ) (x : ℕ) (d e : E) → FaultStandsAt F R p path x d → FaultStandsAt F R p path x e → d ≡ e
  one_at path x d e (inl h) (inl g) =
      let same : h.keys ≡ g.keys = walk_same R p path h.keys g.keys h.simple.walk g.simple.walk in
      let both : Faulty d ≡ Faulty e = sym h.fault ∙ ap (λ (ks : List K). R (last_key_or p ks) x) same ∙ g.fault in
      cc
  one_at path x d e (inl h) (inr g) = absurd (no_way path x d g.path_is.keys h g.path_is.simple.walk)
  one_at path x d e (inr h) (inl g) = absurd (no_way path x e h.path_is.keys g h.path_is.simple.walk)
  one_at path x d e (inr h) (inr g) =
      let key : h.key ≡ g.key = ends_where (path ++ x ∷ []) h.key g.key h.path_is.keys g.path_is.keys h.path_is.simple.walk g.path_is.simple.walk h.path_is.ends g.path_is.ends in
      let base : h.base ≡ g.base = one_base F R p (path ++ x ∷ []) h.base g.base h.base_is g.base_is in
      same_error d e (append_fault F g.key g.base) ((λ i. append_fault F (sym key i) (sym base i)) ∙ h.fault) g.fault

  pub one_fault : (d e : E) → LeastFault F R p d → LeastFault F R p e → d ≡ e
  one_fault d e h g = elim (before_cases (h.path ++ h.slot ∷ []) (g.path ++ g.slot ∷ [])) [
    | inl b ↦ absurd (g.none_before h.path h.slot d h.stands b)
    | inr (inl same) ↦
        let (path, slot) = last_same h.path g.path h.slot g.slot same in
        one_at g.path g.slot d e (subst (λ (x : List ℕ). FaultStandsAt F R p x g.slot d) path (subst (λ (x : ℕ). FaultStandsAt F R p h.path x d) slot h.stands)) g.stands
    | inr (inr b) ↦ absurd (h.none_before g.path g.slot e g.stands b)
  ]

-- a program can be linked, or has a least fault, but not both
pub not_linked : {K E : Type 0} (F : Functions K E) (p : K) (ks : List K) (e : E) → IsLayout F p ks → LeastFault F (checked_references F p) p e → ⊥
not_linked F p ks e h g = h.faultless g.path g.slot e g.stands

-- ---- a program has one map, and it is the map of the linked program

-- ---- one list of references

-- those at a place are not above it
not_below : (low : ℕ) (rs : List PlacedReference) (r : PlacedReference) → PlacesRise low rs → Among rs r → low ≤ r.place
not_below low [] r h a = absurd a
not_below low (s ∷ rs) r h (inl e) = let z = ap (λ (u : PlacedReference). u.place) e in omega (arith, h.0, z)
not_below low (s ∷ rs) r h (inr a) = let le = not_below (s.place + 1) rs r h.1 a in omega (arith, h.0, le)

-- the first of two lists of the same references
same_reference : (low high : ℕ) (r s : PlacedReference) (rs ss : List PlacedReference) → PlacesRise low (r ∷ rs) → PlacesRise high (s ∷ ss) → Among (s ∷ ss) r → Among (r ∷ rs) s → r ≡ s
same_reference low high r s rs ss h g (inl e) b = sym e
same_reference low high r s rs ss h g (inr a) (inl e) = e
same_reference low high r s rs ss h g (inr a) (inr b) =
    let x = not_below (s.place + 1) ss r g.1 a in
    let y = not_below (r.place + 1) rs s h.1 b in
    absurd (omega (arith, x, y))

not_again : (low : ℕ) (r : PlacedReference) (rs : List PlacedReference) → PlacesRise low (r ∷ rs) → Among rs r → ⊥
not_again low r rs h a = let le = not_below (r.place + 1) rs r h.1 a in omega (arith, le)

pub same_references : (low high : ℕ) (rs ss : List PlacedReference) → PlacesRise low rs → PlacesRise high ss → ((r : PlacedReference) → Among rs r → Among ss r) → ((r : PlacedReference) → Among ss r → Among rs r) → rs ≡ ss
same_references low high [] [] h g to from = refl
same_references low high [] (s ∷ ss) h g to from = absurd (from s (inl refl))
same_references low high (r ∷ rs) [] h g to from = absurd (to r (inl refl))
same_references low high (r ∷ rs) (s ∷ ss) h g to from =
    let same : r ≡ s = same_reference low high r s rs ss h g (to r (inl refl)) (from s (inl refl)) in
    let rest : rs ≡ ss = same_references (r.place + 1) (s.place + 1) rs ss h.1 g.1
    (λ q a. ⊎_elim (λ (e : s ≡ q). absurd (not_again low r rs h (subst (Among rs) (sym (same ∙ e)) a))) (λ (b : Among ss q). b) (to q (inr a)))
    (λ q a. ⊎_elim (λ (e : r ≡ q). absurd (not_again high s ss g (subst (Among ss) (sym (sym same ∙ e)) a))) (λ (b : Among rs q). b) (from q (inr a)))
    in
    λ i. same i ∷ rest i

module _ {K E : Type 0} (F : Functions K E) (p : K) where
  one_references : (ks : List K) (rs ss : List PlacedReference) → AreReferences F p ks rs → AreReferences F p ks ss → rs ≡ ss
  one_references ks rs ss h g = same_references 0 0 rs ss h.rises g.rises (λ r a. g.complete r (h.sound r a)) (λ r a. h.complete r (g.sound r a))

  -- a program has one map
  pub one_link_map : (ks ms : List K) (cs ds : List (CopyOf K)) (rs ss : List PlacedReference) → IsLinkMap F p ks cs rs → IsLinkMap F p ms ds ss → (ks ≡ ms) × (cs ≡ ds) × (rs ≡ ss)
  one_link_map ks ms cs ds rs ss h g =
      let order : ks ≡ ms = one_layout F p ks ms h.layout g.layout in (
        order,
        h.copies ∙ ap (λ (os : List K). copies_from F 0 (p ∷ os)) order ∙ sym g.copies,
        one_references ms rs ss (subst (λ (os : List K). AreReferences F p os rs) order h.references) g.references,
      )

  -- ---- the linked program

  count_slots : (base : ℕ) (ks : List K) → copied_slot_count (copies_from F base ks) ≡ total F ks
  count_slots base [] = refl
  count_slots base (k ∷ ks) = ap (λ (n : ℕ). length (body F k) + n) (count_slots (base + length (body F k)) ks)

  -- the copies have the slots of the linked program
  pub same_size : (ks ms : List K) (cs : List (CopyOf K)) (rs : List PlacedReference) (l : LinkedProgram) → IsLinkMap F p ks cs rs → IsProgram F p ms l → copied_slot_count cs ≡ length l.slots
  same_size ks ms cs rs l h g = ap copied_slot_count h.copies ∙ count_slots 0 (p ∷ ks) ∙ ap (λ (os : List K). total F (p ∷ os)) (one_layout F p ks ms h.layout g.layout) ∙ sym g.linked.size

  -- a copy that begins somewhere is listed
  copy_listed : (low base : ℕ) (ks : List K) (k : K) (b : ℕ) → BeginsAt F ks k b → base ≡ low + b → Among (copies_from F low ks) (record { key = k; base = base; slots = length (body F k) })
  copy_listed low base [] k b h e = absurd h
  copy_listed low base (m ∷ ks) k b (inl h) e =
      let place : low ≡ base = omega (arith, h.1, e) in
      inl (λ i. record { key = h.0 i; base = place i; slots = length (body F (h.0 i)) })
  copy_listed low base (m ∷ ks) k b (inr (c, is, h)) e = inr (copy_listed (low + length (body F m)) base ks k c h (omega (arith, is, e)))

  -- the slot at a reference's place names the distance to its base
  pub lands : (ks ms : List K) (cs : List (CopyOf K)) (rs : List PlacedReference) (l : LinkedProgram) → IsLinkMap F p ks cs rs → IsProgram F p ms l → (r : PlacedReference) → Among rs r → Lands F cs l.slots r
  lands ks ms cs rs l h g r a =
      let n = h.references.sound r a in
      let linked = subst (λ (os : List K). IsProgram F p os l) (sym (one_layout F p ks ms h.layout g.layout)) g in
      let (t, stands, becomes) = linked.linked.slots n.k n.b n.i n.s n.begins n.slot in
      let (c, reaches, is) = subst (λ (u : Refers K E). Becomes F p ks (n.b + n.i) u n.s t) n.names becomes in
      let same : c ≡ n.c = one_begin F ks n.m c n.c h.layout.order.once reaches n.reaches in
      let base : length (body F p) + c ≡ r.base = ap (λ (x : ℕ). length (body F p) + x) same ∙ sym n.base in
      record {
        from = record { key = n.k; base = n.b; slots = length (body F n.k) };
        listed = subst (λ (u : List (CopyOf K)). Among u (record { key = n.k; base = n.b; slots = length (body F n.k) })) (sym h.copies) (copy_listed 0 n.b (p ∷ ks) n.k n.b n.begins (omega arith));
        i = n.i;
        place = n.place;
        to = record { key = n.m; base = r.base; slots = length (body F n.m) };
        reached = subst (λ (u : List (CopyOf K)). Among u (record { key = n.m; base = r.base; slots = length (body F n.m) })) (sym h.copies) (copy_listed 0 r.base (p ∷ ks) n.m (length (body F p) + n.c) (inr (n.c, refl, n.reaches)) (omega (arith, n.base)));
        names = n.names;
        base = refl;
        slot = t;
        stands = ap (slice_get l.slots) n.place ∙ stands;
        distance = ap (λ (u : bpf_insn). u.imm) is ∙ (λ j. pos (base j) -ℤ pos (sym n.place j + 1));
      }
