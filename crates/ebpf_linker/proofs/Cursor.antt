-- Each reference before the one that the search has come to leads to a function that was found.
use Rattle.std.proofs.Common.{◌≡◌, ◌≢◌, ℕ, ◌<◌, List, [], ◌∷◌, ◌++◌, Option, Some, None, refl, sym, ap, ◌∙◌, subst, inl, inr, arith}
use Rattle.std.specs.Prelude.{slice_get}
use Rattle.ebpf_linker.specs.declared.reference.Reference.{Reference}
use Rattle.ebpf_linker.specs.declared.search.Frame.{Frame}
use Rattle.ebpf_linker.specs.Functions.{Nothing, Names, Among, Distinct, Walk, last_key_or}
use Rattle.ebpf_linker.specs.Order.{Before}
use Rattle.ebpf_linker.specs.Numbered.{of_target}
use Rattle.ebpf_linker.proofs.Held.{refs, Rising, at_index, indexed, rises_index, Found, found_up, copies, Done, AreDone, Leads, Held, held_done, held_entry}
use Rattle.ebpf_linker.proofs.Paths.{before_last, last_same, last_cut, among_left, among_right, among_cases, distinct_apart, distinct_more, last_of_last, walk_more, walk_same, walk_parts}

abbrev pub slot_or : Option Reference → ℕ
slot_or None = 0
slot_or (Some r) = r.slot

-- no two places of the order hold one function, the first place aside
pub record Apart (o : List ℕ) : Type 0 where
  pub apart : (i j k : ℕ) → 0 < i → 0 < j → slice_get o i ≡ Some k → slice_get o j ≡ Some k → i ≡ j

pub not_nil : (q : List ℕ) (x : ℕ) → q ++ x ∷ [] ≡ [] → ⊥
not_nil [] x e = cc
not_nil (y ∷ q) x e = cc

last_key_or_append : (p : ℕ) (ks : List ℕ) (k : ℕ) (ms : List ℕ) → last_key_or p (ks ++ k ∷ ms) ≡ last_key_or k ms
last_key_or_append p [] k ms = refl
last_key_or_append p (m ∷ ks) k ms = last_key_or_append m ks k ms

module _ (C : ℕ → List Reference) (p : ℕ) where
  -- the slot of the next reference
  abbrev pub slot_of : Frame → ℕ
  slot_of e = slot_or (slice_get (C e.function) e.next)

  -- the path to the function that was opened last, and the keys on it
  abbrev pub path_of : List Frame → List ℕ
  path_of [] = []
  path_of (e ∷ []) = []
  path_of (e ∷ f ∷ es) = path_of (f ∷ es) ++ slot_of f ∷ []

  abbrev pub keys_of : List Frame → List ℕ
  keys_of [] = []
  keys_of (e ∷ []) = []
  keys_of (e ∷ f ∷ es) = keys_of (f ∷ es) ++ e.function ∷ []

  reference_is : Rising C → (f i : ℕ) (r : Reference) → slice_get (C f) i ≡ Some r → refs C f r.slot ≡ of_target r.target
  reference_is sound f i r at = (at_index (C f) 0 i r (sound.rises f) at).1

  leads_is : Rising C → (f e : Frame) → Leads C f e → refs C f.function (slot_of f) ≡ Names e.function
  leads_is sound f e l =
      ap (λ (u : Option Reference). refs C f.function (slot_or u)) l.at ∙ reference_is sound f.function f.next l.call l.at ∙ ap of_target l.to

  pub walk_of : Rising C → (o : List ℕ) (n : ℕ) (e : Frame) (es : List Frame) → slice_get o 0 ≡ Some p → Held C o n (e ∷ es) → Walk (refs C) p (path_of (e ∷ es)) (keys_of (e ∷ es)) × (last_key_or p (keys_of (e ∷ es)) ≡ e.function)
  walk_of sound o n e [] start h =
      let same : slice_get o e.copy ≡ slice_get o 0 = ap (slice_get o) h.2 in
      (tt, cc (h.1.function))
  walk_of sound o n e (f ∷ es) start h =
      let r = walk_of sound o e.copy f es start h.3 in
      let to : refs C (last_key_or p (keys_of (f ∷ es))) (slot_of f) ≡ Names e.function = rw r.1 (leads_is sound f e h.2) in
      (walk_more (refs C) p (path_of (f ∷ es)) (keys_of (f ∷ es)) (slot_of f) e.function r.0 to, last_of_last p (keys_of (f ∷ es)) e.function)

  -- the keys on the path were found
  pub keys_found : (o : List ℕ) (n : ℕ) (e : Frame) (es : List Frame) (k : ℕ) → Held C o n (e ∷ es) → Among (keys_of (e ∷ es)) k → Found o n (Names k)
  keys_found o n e [] k h a = absurd a
  keys_found o n e (f ∷ es) k h a =
      elim (among_cases (keys_of (f ∷ es)) (e.function ∷ []) k a) [
        | inl b ↦ found_up o e.copy n (Names k) (omega (arith, h.1.below)) (keys_found o e.copy f es k h.3 b)
        | inr (inl b) ↦ (e.copy, omega (arith, (held_entry C o e.copy f es h.3).below), h.1.below, h.1.function ∙ ap Some b)
        | inr (inr b) ↦ absurd b
      ]

  pub keys_distinct : (o : List ℕ) (n : ℕ) (e : Frame) (es : List Frame) → Apart o → Held C o n (e ∷ es) → Distinct (keys_of (e ∷ es))
  keys_distinct o n e [] apart h = tt
  keys_distinct o n e (f ∷ es) apart h =
      distinct_more (keys_of (f ∷ es)) e.function (keys_distinct o e.copy f es apart h.3)
      (λ a.
      let (j, pos, lt, at) = keys_found o e.copy f es e.function h.3 a in
      let same = apart.apart j e.copy e.function pos (omega arith) at h.1.function in
      omega (arith, same))

  -- an open function other than the first is on the path
  open_among : (o : List ℕ) (n : ℕ) (es : List Frame) (c f : ℕ) → Held C o n es → Among (copies es) c → 0 < c → slice_get o c ≡ Some f → Among (keys_of es) f
  open_among o n [] c f h a pos at = absurd a
  open_among o n (e ∷ []) c f h (inl a) pos at = absurd (omega (arith, a, h.2))
  open_among o n (e ∷ []) c f h (inr a) pos at = absurd a
  open_among o n (e ∷ d ∷ es) c f h (inl a) pos at =
      let is : e.function ≡ f = cc (h.1.function, a) in
      among_right (keys_of (d ∷ es)) (e.function ∷ []) f (inl is)
  open_among o n (e ∷ d ∷ es) c f h (inr a) pos at = among_left (keys_of (d ∷ es)) (e.function ∷ []) f (open_among o e.copy (d ∷ es) c f h.3 a pos at)

  -- from a function that was found and isn't open each reference leads to one that was found
  found_on : Rising C → (o : List ℕ) (n : ℕ) (es : List Frame) → Held C o n es → AreDone C o n es → (k x : ℕ) → Found o n (Names k) → (Among (keys_of es) k → ⊥) → refs C k x ≢ Nothing → Found o n (refs C k x)
  found_on sound o n es held s k x (j, pos, lt, at) apart some =
      let r = indexed (C k) x some in
      subst (Found o n) (sym r.is) (s.leads j k r.index r.call lt at (λ a. apart (open_among o n es j k held a pos at)) r.at)

  -- the same along a walk that meets no open function
  onwards : Rising C → (o : List ℕ) (n : ℕ) (es : List Frame) → Held C o n es → AreDone C o n es → (k : ℕ) (q ks : List ℕ) (x : ℕ) → Found o n (Names k) → Walk (refs C) k q ks → ((m : ℕ) → Among (keys_of es) m → Among (k ∷ ks) m → ⊥) → refs C (last_key_or k ks) x ≢ Nothing → Found o n (refs C (last_key_or k ks) x)
  onwards sound o n es held s k [] [] x found walk apart some = found_on sound o n es held s k x found (λ a. apart k a (inl refl)) some
  onwards sound o n es held s k [] (m ∷ ks) x found walk apart some = absurd walk
  onwards sound o n es held s k (y ∷ q) [] x found walk apart some = absurd walk
  onwards sound o n es held s k (y ∷ q) (m ∷ ks) x found walk apart some =
      let ne : refs C k y ≢ Nothing = λ (e : refs C k y ≡ Nothing). cc (walk.0) in
      let next = found_on sound o n es held s k y found (λ a. apart k a (inl refl)) ne in
      onwards sound o n es held s m q ks x (subst (Found o n) walk.0 next) walk.1 (λ d a b. apart d a (inr b)) some

  -- a reference of the open function on top, below slot s
  done_at : Rising C → (o : List ℕ) (n f next s y : ℕ) → Done C o n f next → ((i : ℕ) (r : Reference) → slice_get (C f) i ≡ Some r → r.slot < s → i < next) → y < s → refs C f y ≢ Nothing → Found o n (refs C f y)
  done_at sound o n f next s y d upto lt some =
      let r = indexed (C f) y some in
      subst (Found o n) (sym r.is) (d.leads r.index r.call (upto r.index r.call r.at (omega (arith, r.slot))) r.at)

  beside : Rising C → (o : List ℕ) (n : ℕ) (e : Frame) (es : List Frame) (s : ℕ) → Held C o n (e ∷ es) → ((i : ℕ) (r : Reference) → slice_get (C e.function) i ≡ Some r → r.slot < s → i < e.next) → (y : ℕ) (more back qs : List ℕ) (x : ℕ) → Walk (refs C) e.function (y ∷ more) back → qs ≡ keys_of (e ∷ es) ++ back → Distinct qs → refs C (last_key_or p qs) x ≢ Nothing → y < s → Found o n (refs C (last_key_or p qs) x)
  beside sound o n e es s held upto y more [] qs x walk whole once some lt = absurd walk
  beside sound o n e es s held upto y more (k ∷ back) qs x walk whole once some lt =
      let ne : refs C e.function y ≢ Nothing = λ (z : refs C e.function y ≡ Nothing). cc (walk.0) in
      let found = subst (Found o n) walk.0 (done_at sound o n e.function e.next s y (held_entry C o n e es held).done upto lt ne) in
      let end : last_key_or p qs ≡ last_key_or k back = ap (last_key_or p) whole ∙ last_key_or_append p (keys_of (e ∷ es)) k back in
      let some' : refs C (last_key_or k back) x ≢ Nothing = λ (z : refs C (last_key_or k back) x ≡ Nothing). some (rw end z) in
      let once' = subst Distinct whole once in
      rw end (onwards sound o n (e ∷ es) held (held_done C o n e es held) k more back x found walk.1 (λ m a b. distinct_apart (keys_of (e ∷ es)) (k ∷ back) m once' a b) some')

  -- .. where the place is beside the path, below slot s
  pub at_cursor : Rising C → (o : List ℕ) (n : ℕ) (e : Frame) (es : List Frame) (s : ℕ) → slice_get o 0 ≡ Some p → Held C o n (e ∷ es) → ((i : ℕ) (r : Reference) → slice_get (C e.function) i ≡ Some r → r.slot < s → i < e.next) → (q qs : List ℕ) (x y : ℕ) (rest : List ℕ) → Walk (refs C) p q qs → Distinct qs → refs C (last_key_or p qs) x ≢ Nothing → q ++ x ∷ [] ≡ path_of (e ∷ es) ++ y ∷ rest → y < s → Found o n (refs C (last_key_or p qs) x)
  at_cursor sound o n e es s start held upto q qs x y rest walk once some is lt =
      let w = walk_of sound o n e es start held in
      elim (last_cut q (path_of (e ∷ es)) x y rest is) [
        | inl (same, slot) ↦
            let keys : qs ≡ keys_of (e ∷ es) = walk_same (refs C) p (path_of (e ∷ es)) qs (keys_of (e ∷ es)) (subst (λ (u : List ℕ). Walk (refs C) p u qs) same walk) w.0 in
            let end : last_key_or p qs ≡ e.function = ap (last_key_or p) keys ∙ w.1 in
            let some' : refs C e.function x ≢ Nothing = λ (z : refs C e.function x ≡ Nothing). some (rw end z) in
            rw end (done_at sound o n e.function e.next s x (held_entry C o n e es held).done upto (omega (arith, slot)) some')
        | inr (more, longer) ↦
            let parts = walk_parts (refs C) p (path_of (e ∷ es)) (y ∷ more) qs (subst (λ (u : List ℕ). Walk (refs C) p u qs) longer walk) in
            let keys : parts.front ≡ keys_of (e ∷ es) = walk_same (refs C) p (path_of (e ∷ es)) parts.front (keys_of (e ∷ es)) parts.first w.0 in
            let end : last_key_or p parts.front ≡ e.function = ap (last_key_or p) keys ∙ w.1 in
            beside sound o n e es s held upto y more parts.back qs x (subst (λ (u : ℕ). Walk (refs C) u (y ∷ more) parts.back) end parts.second) (parts.whole ∙ ap (λ (u : List ℕ). u ++ parts.back) keys) once some lt
      ]

  -- a reference whose place is before the path to the top followed by slot s leads to a function that was found
  pub cursor : Rising C → (o : List ℕ) (n : ℕ) (e : Frame) (es : List Frame) (s : ℕ) → slice_get o 0 ≡ Some p → Held C o n (e ∷ es) → ((i : ℕ) (r : Reference) → slice_get (C e.function) i ≡ Some r → r.slot < s → i < e.next) → (q qs : List ℕ) (x : ℕ) → Walk (refs C) p q qs → Distinct qs → refs C (last_key_or p qs) x ≢ Nothing → Before (q ++ x ∷ []) (path_of (e ∷ es) ++ s ∷ []) → Found o n (refs C (last_key_or p qs) x)
  cursor sound o n e [] s start held upto q qs x walk once some before =
      elim (before_last (q ++ x ∷ []) [] s before) [
        | inl h ↦ absurd h
        | inr (inl h) ↦ absurd (not_nil q x h)
        | inr (inr (y, rest, is, lt)) ↦ at_cursor sound o n e [] s start held upto q qs x y rest walk once some is lt
      ]
  cursor sound o n e (f ∷ es) s start held upto q qs x walk once some before =
      let low = held.1.below in
      let up : (i : ℕ) (r : Reference) → slice_get (C f.function) i ≡ Some r → r.slot < slot_of f → i < f.next = λ i r at lt. rises_index (C f.function) 0 i f.next r held.2.call (sound.rises f.function) at held.2.at (let e : slot_of f ≡ held.2.call.slot = ap slot_or held.2.at in omega (arith, e)) in
      elim (before_last (q ++ x ∷ []) (path_of (e ∷ f ∷ es)) s before) [
        | inl h ↦ found_up o e.copy n (refs C (last_key_or p qs) x) (omega (arith, low)) (cursor sound o e.copy f es (slot_of f) start held.3 up q qs x walk once some h)
        | inr (inl h) ↦
            let w = walk_of sound o e.copy f es start held.3 in
            let (same, slot) = last_same q (path_of (f ∷ es)) x (slot_of f) h in
            let keys : qs ≡ keys_of (f ∷ es) = walk_same (refs C) p (path_of (f ∷ es)) qs (keys_of (f ∷ es)) (subst (λ (u : List ℕ). Walk (refs C) p u qs) same walk) w.0 in
            let end : last_key_or p qs ≡ f.function = ap (last_key_or p) keys ∙ w.1 in
            let to : refs C (last_key_or p qs) x ≡ Names e.function = rw (end, slot) (leads_is sound f e held.2) in
            rw to (e.copy, omega (arith, (held_entry C o e.copy f es held.3).below), low, held.1.function)
        | inr (inr (y, rest, is, lt)) ↦ at_cursor sound o n e (f ∷ es) s start held upto q qs x y rest walk once some is lt
      ]
