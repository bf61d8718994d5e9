-- The search: its steps, what is left to follow, its state, and what holds when it ends.
use Rattle.std.proofs.Common.{◌≡◌, ℕ, zero, suc, ◌+◌, ◌-◌, ◌<◌, Bool, true, false, cond, List, [], ◌∷◌, ◌++◌, length, Option, Some, None, refl, ap, subst, arith, ◌≢◌, ◌≤◌, ◌⊎◌, sym, ◌∙◌, inl, inr, length-append, length-set, get_or-set_same, get_or-set_other, reverse, replicate}
use Rattle.std.specs.Prelude.{slice_get, slice_index_or, slice_set, MatchOption}
use Rattle.std.specs.Bool.{MatchBool}
use Rattle.std.proofs.lemmas.Option.{slice_get_within, slice_get_cases}
use Rattle.std.proofs.lemmas.Bool.{cases_eq, cases_lt}
use Rattle.std.proofs.lemmas.List.{reverse-append, length-replicate}
use Rattle.ebpf_linker.proofs.Cursor.{Apart, path_of, keys_of, walk_of, keys_found, keys_distinct, cursor, not_nil}
use Rattle.ebpf_base.proofs.Lists.{get_end}
use Rattle.ebpf_linker.proofs.Held.{AreSorted, refs, rising, get_more, get_back, at_index, indexed, rises_index, Found, found_up, found_more, AreDone, Held, held_entry, held_pop, held_next, held_push}
use Rattle.ebpf_linker.proofs.Paths.{before_trans, before_cases, among_get, get_among, distinct_front, distinct_more, last_of_last, nil_length, walk_more, walk_same, walk_last}
use Rattle.ebpf_linker.specs.Faults.{append_fault}
use Rattle.ebpf_linker.specs.Functions.{Functions, SlotReference, Nothing, Faulty, Names, Among, Distinct, Walk, last_key_or, Reached}
use Rattle.ebpf_linker.specs.Numbered.{IsWithin, of_target}
use Rattle.ebpf_linker.specs.Order.{Before, Simple, KeyPath, HasReferenceFault}
use Rattle.ebpf_linker.specs.Result.{IsOrder}
use Rattle.ebpf_linker.specs.Search.{Search, passed, opened, Entered, StepTo, call_target, Advanced}
use Rattle.ebpf_linker.specs.declared.reference.Reference.{Reference}
use Rattle.ebpf_linker.specs.declared.reference.Fault.{Fault}
use Rattle.ebpf_linker.specs.declared.reference.Target.{Target}
use Rattle.ebpf_linker.specs.declared.reference.Target.TheVariants.{Function, Nowhere}
use Rattle.ebpf_linker.specs.declared.search.Frame.{Frame}

not_within : (cs : List Reference) (i : ℕ) → slice_get cs i ≡ None → length cs ≤ i
not_within cs i e =
    elim (slice_get_cases cs i).1 [ inl x ↦ cc (x.2) | inr x ↦ x.0 ]

-- what one step does: it comes to the end of the function on top; or its next reference leads nowhere, to a function that
-- was found, to one that is opened, or to one that can't have a copy
pub data Step (F : Functions ℕ Fault) (C : ℕ → List Reference) (top : Frame) (s t : Search) (r : Option Fault) : Type 0 where
  Ended : length (C top.function) ≤ top.next → t ≡ s → r ≡ None → Step F C top s t r
  Unresolved : (c : Reference) (e : Fault) → slice_get (C top.function) top.next ≡ Some c → c.target ≡ Nowhere e → t ≡ s → r ≡ Some e → Step F C top s t r
  Passes : (c : Reference) (k : ℕ) → slice_get (C top.function) top.next ≡ Some c → c.target ≡ Function k → slice_index_or s.is_found k false ≡ true → t ≡ passed top s → r ≡ None → Step F C top s t r
  Opens : (c : Reference) (k : ℕ) → slice_get (C top.function) top.next ≡ Some c → c.target ≡ Function k → slice_index_or s.is_found k false ≡ false → append_fault F k s.used ≡ None → t ≡ opened F top s k → r ≡ None → Step F C top s t r
  NoCopy : (c : Reference) (k : ℕ) (e : Fault) → slice_get (C top.function) top.next ≡ Some c → c.target ≡ Function k → slice_index_or s.is_found k false ≡ false → append_fault F k s.used ≡ Some e → t ≡ s → r ≡ Some e → Step F C top s t r

module _ (F : Functions ℕ Fault) (C : ℕ → List Reference) (top : Frame) (s t : Search) (r : Option Fault) where
  by_copy : (c : Reference) (k : ℕ) → slice_get (C top.function) top.next ≡ Some c → c.target ≡ Function k → slice_index_or s.is_found k false ≡ false → (o : Option Fault) → append_fault F k s.used ≡ o → MatchOption o ((t ≡ opened F top s k) × (r ≡ None)) (λ e. (t ≡ s) × (r ≡ Some e)) → Step F C top s t r
  by_copy c k at to flag None fits a = Opens c k at to flag fits a.0 a.1
  by_copy c k at to flag (Some e) fits a = NoCopy c k e at to flag fits a.0 a.1

  by_flag : (c : Reference) (k : ℕ) → slice_get (C top.function) top.next ≡ Some c → c.target ≡ Function k → (b : Bool) → slice_index_or s.is_found k false ≡ b → MatchBool b ((t ≡ passed top s) × (r ≡ None)) (Entered F top s t r k) → Step F C top s t r
  by_flag c k at to true flag a = Passes c k at to flag a.0 a.1
  by_flag c k at to false flag a = by_copy c k at to flag (append_fault F k s.used) refl a

  by_target : (c : Reference) → slice_get (C top.function) top.next ≡ Some c → (g : Target) → c.target ≡ g → StepTo F top s t r (Some g) → Step F C top s t r
  by_target c at (Nowhere e) to a = Unresolved c e at to a.0 a.1
  by_target c at (Function k) to a = by_flag c k at to (slice_index_or s.is_found k false) refl a

  by_call : (o : Option Reference) → slice_get (C top.function) top.next ≡ o → StepTo F top s t r (call_target o) → Step F C top s t r
  by_call None at a = Ended (not_within (C top.function) top.next at) a.0 a.1
  by_call (Some c) at a = by_target c at c.target refl a

  pub step_of : Advanced F C top s t r → Step F C top s t r
  step_of a = by_call (slice_get (C top.function) top.next) refl a

-- ---- what is left to follow

-- what is left to follow in the open functions
abbrev pub left_in : (ℕ → List Reference) → List Frame → ℕ
left_in C [] = 0
left_in C (e ∷ es) = (length (C e.function) - e.next + 1) + left_in C es

-- and in those from i on that were not found
abbrev pub unfound : List Bool → (ℕ → List Reference) → ℕ → ℕ
unfound [] C i = 0
unfound (b ∷ f) C i = cond b 0 (length (C i) + 2) + unfound f C (i + 1)

left_more : (C : ℕ → List Reference) (s t : List Frame) → left_in C (s ++ t) ≡ left_in C s + left_in C t
left_more C [] t = omega arith
left_more C (e ∷ s) t = omega (arith, left_more C s t)

unfound_set : (f : List Bool) (C : ℕ → List Reference) (i j k : ℕ) → j ≡ i + k → slice_index_or f k false ≡ false → k < length f → unfound (slice_set f k true) C i + (length (C j) + 2) ≡ unfound f C i
unfound_set [] C i j k is flag lt = absurd (omega arith)
unfound_set (b ∷ f) C i j zero is flag lt =
    let same : j ≡ i = omega arith in
    let e = ap (λ (u : ℕ). length (C u)) same in
    rw flag (omega (arith, e))
unfound_set (b ∷ f) C i j (suc k) is flag lt = omega (arith, unfound_set f C (i + 1) j k (omega arith) flag (omega arith))

-- what is left to follow in all
abbrev pub left_of : (ℕ → List Reference) → Search → ℕ
left_of C s = unfound s.is_found C 0 + left_in C s.work_list

-- it falls in each step
pub less_left : (F : Functions ℕ Fault) (N : ℕ) (C : ℕ → List Reference) (top : Frame) (s t : Search) → AreSorted N C → length s.is_found ≡ N → Step F C top s t None → left_of C t < unfound s.is_found C 0 + left_in C (s.work_list ++ top ∷ [])
less_left F N C top s t sound size (Ended past same is) = let z = ap (left_of C) same in omega (arith, z, left_more C s.work_list (top ∷ []))
less_left F N C top s t sound size (Unresolved c e at to same is) = cc (is)
less_left F N C top s t sound size (Passes c k at to flag same is) =
    let next : Frame = record top { next = top.next + 1 } in
    let z = ap (left_of C) same in
    let lt = slice_get_within (C top.function) top.next c at in
    omega (arith, z, lt, left_more C s.work_list (next ∷ []), left_more C s.work_list (top ∷ []))
less_left F N C top s t sound size (Opens c k at to flag fits same is) =
    let new : Frame = record { copy = length s.order; function = k; next = 0 } in
    let inside : k < N = subst (IsWithin N) to (sound.within top.function top.next c at) in
    let e = unfound_set s.is_found C 0 k k (omega arith) flag (omega (arith, size, inside)) in
    let z = ap (left_of C) same in
    omega (arith, e, z, left_more C (s.work_list ++ top ∷ []) (new ∷ []))
less_left F N C top s t sound size (NoCopy c k e at to flag full same is) = cc (is)

-- ---- the state of the search, its steps, and what holds when it ends

-- k, at place j of the order, is reached by a walk before which each walk leads to an earlier function
pub record First (C : ℕ → List Reference) (p : ℕ) (o : List ℕ) (j k : ℕ) : Type 0 where
  pub path : List ℕ
  pub keys : List ℕ
  pub simple : Simple (refs C) p path keys
  pub some : path ≢ []
  pub ends : last_key_or p keys ≡ k
  pub least : (q qs : List ℕ) → Simple (refs C) p q qs → q ≢ [] → Before q path → (i : ℕ) × (0 < i) × (i < j) × (slice_get o i ≡ Some (last_key_or p qs))

pub record State (N : ℕ) (C : ℕ → List Reference) (p : ℕ) (o : List ℕ) (f : List Bool) (s : List Frame) : Type 0 where
  pub held : Held C o (length o) (reverse s)
  pub start : slice_get o 0 ≡ Some p
  pub flags : length f ≡ N
  pub marked : (k : ℕ) → slice_index_or f k false ≡ true → Found o (length o) (Names k)
  pub unmarked : (k : ℕ) → slice_index_or f k false ≡ false → Found o (length o) (Names k) → ⊥
  pub apart : Apart o
  pub firsts : (j k : ℕ) → 0 < j → slice_get o j ≡ Some k → First C p o j k
  pub within : (j k : ℕ) → slice_get o j ≡ Some k → k < N

module _ (N : ℕ) (C : ℕ → List Reference) (p : ℕ) where
  pub first_more : (o ys : List ℕ) (j k : ℕ) → First C p o j k → First C p (o ++ ys) j k
  first_more o ys j k h =
      record {
        path = h.path;
        keys = h.keys;
        simple = h.simple;
        some = h.some;
        ends = h.ends;
        least = λ q qs w ne b. let (i, pos, lt, at) = h.least q qs w ne b in (i, pos, lt, get_more o ys i (last_key_or p qs) at);
      }

  pub upto_next : AreSorted N C → (e : Frame) (r : Reference) → slice_get (C e.function) e.next ≡ Some r → (i : ℕ) (s : Reference) → slice_get (C e.function) i ≡ Some s → s.slot < r.slot → i < e.next
  upto_next sound e r at i s at' lt = rises_index (C e.function) 0 i e.next s r (sound.rises e.function) at' at lt

  -- the last reference of a simple walk before the cursor
  pub before_found : AreSorted N C → (o : List ℕ) (e : Frame) (es : List Frame) (r : Reference) → slice_get o 0 ≡ Some p → Held C o (length o) (e ∷ es) → slice_get (C e.function) e.next ≡ Some r → (q qs : List ℕ) → Simple (refs C) p q qs → q ≢ [] → Before q (path_of C p (e ∷ es) ++ r.slot ∷ []) → Found o (length o) (Names (last_key_or p qs))
  before_found sound o e es r start held at [] qs w ne b = absurd (ne refl)
  before_found sound o e es r start held at (x ∷ q) qs w ne b =
      let l = walk_last (refs C) p x q qs w.walk in
      let once : Distinct l.keys = distinct_front l.keys (l.key ∷ []) (subst Distinct l.keys_are w.once) in
      let some : refs C (last_key_or p l.keys) l.slot ≢ Nothing = λ (z : refs C (last_key_or p l.keys) l.slot ≡ Nothing). cc (l.leads) in
      let b' = subst (λ (u : List ℕ). Before u (path_of C p (e ∷ es) ++ r.slot ∷ [])) l.path_is b in
      let is_found = cursor C p (rising sound) o (length o) e es r.slot start held (upto_next sound e r at) l.path l.keys l.slot l.walk once some b' in
      let end : last_key_or p qs ≡ l.key = ap (last_key_or p) l.keys_are ∙ last_of_last p l.keys l.key in
      rw end (subst (Found o (length o)) l.leads is_found)

  -- the function that is opened now
  pub first_now : AreSorted N C → (o : List ℕ) (k : ℕ) (e : Frame) (es : List Frame) (r : Reference) → slice_get o 0 ≡ Some p → Apart o → Held C o (length o) (e ∷ es) → slice_get (C e.function) e.next ≡ Some r → r.target ≡ Function k → (Found o (length o) (Names k) → ⊥) → First C p (o ++ k ∷ []) (length o) k
  first_now sound o k e es r start apart held at to fresh =
      let w = walk_of C p (rising sound) o (length o) e es start held in
      let leads : refs C (last_key_or p (keys_of C p (e ∷ es))) r.slot ≡ Names k = rw w.1 ((at_index (C e.function) 0 e.next r (sound.rises e.function) at).1 ∙ ap of_target to) in
      record {
        path = path_of C p (e ∷ es) ++ r.slot ∷ [];
        keys = keys_of C p (e ∷ es) ++ k ∷ [];
        simple = record {
          walk = walk_more (refs C) p (path_of C p (e ∷ es)) (keys_of C p (e ∷ es)) r.slot k w.0 leads;
          once = distinct_more (keys_of C p (e ∷ es)) k (keys_distinct C p o (length o) e es apart held) (λ a. fresh (keys_found C p o (length o) e es k held a));
        };
        some = not_nil (path_of C p (e ∷ es)) r.slot;
        ends = last_of_last p (keys_of C p (e ∷ es)) k;
        least = λ q qs s ne b.
            let (i, pos, lt, is) = before_found sound o e es r start held at q qs s ne b in
            (i, pos, lt, get_more o (k ∷ []) i (last_key_or p qs) is);
      }

  -- no reference before the cursor leads nowhere
  pub plain_before : AreSorted N C → (o : List ℕ) (e : Frame) (es : List Frame) (r : Reference) → slice_get o 0 ≡ Some p → Held C o (length o) (e ∷ es) → slice_get (C e.function) e.next ≡ Some r → (other : List ℕ) (y : ℕ) (g : Fault) → HasReferenceFault (refs C) p other y g → Before (other ++ y ∷ []) (path_of C p (e ∷ es) ++ r.slot ∷ []) → ⊥
  plain_before sound o e es r start held at other y g h b =
      let some : refs C (last_key_or p h.keys) y ≢ Nothing = λ (z : refs C (last_key_or p h.keys) y ≡ Nothing). cc (h.fault) in
      let is_found = cursor C p (rising sound) o (length o) e es r.slot start held (upto_next sound e r at) other h.keys y h.simple.walk h.simple.once some b in
      let no_ : Found o (length o) (Faulty g) = subst (Found o (length o)) h.fault is_found in
      no_

  -- a reference that leads nowhere
  pub fault_here : AreSorted N C → (o : List ℕ) (e : Frame) (es : List Frame) (r : Reference) (d : Fault) → slice_get o 0 ≡ Some p → Apart o → Held C o (length o) (e ∷ es) → slice_get (C e.function) e.next ≡ Some r → r.target ≡ Nowhere d → HasReferenceFault (refs C) p (path_of C p (e ∷ es)) r.slot d
  fault_here sound o e es r d start apart held at to =
      let w = walk_of C p (rising sound) o (length o) e es start held in
      let is : refs C (last_key_or p (keys_of C p (e ∷ es))) r.slot ≡ Faulty d = rw w.1 ((at_index (C e.function) 0 e.next r (sound.rises e.function) at).1 ∙ ap of_target to) in
      record { keys = keys_of C p (e ∷ es); simple = record { walk = w.0; once = keys_distinct C p o (length o) e es apart held }; fault = is }

  -- what stands at a place of a list with one more
  pub push_at : (o : List ℕ) (k j m : ℕ) → slice_get (o ++ k ∷ []) j ≡ Some m → ((j < length o) × (slice_get o j ≡ Some m)) ⊎ ((j ≡ length o) × (k ≡ m))
  push_at o k j m at =
      elim (cases_lt j (length o)) [
        | inl below ↦ inl (below, get_back o (k ∷ []) j m below at)
        | inr above ↦
            let lt = slice_get_within (o ++ k ∷ []) j m at in
            let same : j ≡ length o = omega (arith, length-append o (k ∷ []), lt) in
            let at' : slice_get (o ++ k ∷ []) (length o) ≡ Some m = subst (λ (u : ℕ). slice_get (o ++ k ∷ []) u ≡ Some m) same at in
            inr (same, cc (at', get_end o k))
      ]

  found_push : (o : List ℕ) (k m : ℕ) → Found (o ++ k ∷ []) (length (o ++ k ∷ [])) (Names m) → Found o (length o) (Names m) ⊎ (k ≡ m)
  found_push o k m (j, pos, lt, at) = elim (push_at o k j m at) [ inl x ↦ inl (j, pos, x.0, x.1) | inr x ↦ inr x.1 ]

  pub apart_push : (o : List ℕ) (k : ℕ) → Apart o → (Found o (length o) (Names k) → ⊥) → Apart (o ++ k ∷ [])
  apart_push o k a fresh =
      record {
        apart = λ i j m pi pj ai aj.
            elim (push_at o k i m ai) [
              | inl x ↦ elim (push_at o k j m aj) [ inl y ↦ a.apart i j m pi pj x.1 y.1 | inr y ↦ absurd (fresh (i, pi, x.0, x.1 ∙ ap Some (sym y.1))) ]
              | inr x ↦ elim (push_at o k j m aj) [ inl y ↦ absurd (fresh (j, pj, y.0, y.1 ∙ ap Some (sym x.1))) | inr y ↦ x.0 ∙ sym y.0 ]
            ];
      }

  -- the steps

  pub held_top : (o : List ℕ) (s : List Frame) (top : Frame) → Held C o (length o) (reverse (s ++ top ∷ [])) → Held C o (length o) (top ∷ reverse s)
  held_top o s top h = subst (Held C o (length o)) (reverse-append s (top ∷ [])) h

  top_held : (o : List ℕ) (s : List Frame) (top : Frame) → Held C o (length o) (top ∷ reverse s) → Held C o (length o) (reverse (s ++ top ∷ []))
  top_held o s top h = subst (Held C o (length o)) (sym (reverse-append s (top ∷ []))) h

  step_over : (o : List ℕ) (f : List Bool) (s : List Frame) (top : Frame) → State N C p o f (s ++ top ∷ []) → length (C top.function) ≤ top.next → State N C p o f s
  step_over o f s top h over =
      record { held = held_pop C o (length o) top (reverse s) over (held_top o s top h.held); start = h.start; flags = h.flags; marked = h.marked; unmarked = h.unmarked; apart = h.apart; firsts = h.firsts; within = h.within }

  step_next : (o : List ℕ) (f : List Bool) (s : List Frame) (top : Frame) (r : Reference) (k : ℕ) → State N C p o f (s ++ top ∷ []) → slice_get (C top.function) top.next ≡ Some r → r.target ≡ Function k → slice_index_or f k false ≡ true → State N C p o f (s ++ record top { next = top.next + 1 } ∷ [])
  step_next o f s top r k h at to flag =
      let is_found : Found o (length o) (of_target r.target) = rw to (h.marked k flag) in
      record { held = top_held o s (record top { next = top.next + 1 }) (held_next C o (length o) top (reverse s) r at is_found (held_top o s top h.held)); start = h.start; flags = h.flags; marked = h.marked; unmarked = h.unmarked; apart = h.apart; firsts = h.firsts; within = h.within }

  step_push : AreSorted N C → (o : List ℕ) (f : List Bool) (s : List Frame) (top : Frame) (r : Reference) (k : ℕ) → State N C p o f (s ++ top ∷ []) → slice_get (C top.function) top.next ≡ Some r → r.target ≡ Function k → slice_index_or f k false ≡ false → State N C p (o ++ k ∷ []) (slice_set f k true) ((s ++ top ∷ []) ++ record { copy = length o; function = k; next = 0 } ∷ [])
  step_push sound o f s top r k h at to flag =
      let held = held_top o s top h.held in
      let new : Frame = record { copy = length o; function = k; next = 0 } in
      let size : length (o ++ k ∷ []) ≡ length o + 1 = omega (arith, length-append o (k ∷ [])) in
      let pushed = held_push C o k top (reverse s) r at to held in
      let fresh = h.unmarked k flag in
      let top_at = (held_entry C o (length o) top (reverse s) held) in
      let some : 0 < length o = omega (arith, top_at.below) in
      let inside : k < N = subst (IsWithin N) to (sound.within top.function top.next r at) in
      let inside' : k < length f = omega (arith, h.flags) in
      let first = first_now sound o k top (reverse s) r h.start h.apart held at to fresh in
      record {
        held = subst (Held C (o ++ k ∷ []) (length (o ++ k ∷ []))) (sym (reverse-append (s ++ top ∷ []) (new ∷ []) ∙ ap (λ (u : List Frame). new ∷ u) (reverse-append s (top ∷ [])))) (subst (λ (u : ℕ). Held C (o ++ k ∷ []) u (new ∷ top ∷ reverse s)) (sym size) pushed);
        start = get_more o (k ∷ []) 0 p h.start;
        flags = length-set f k true ∙ h.flags;
        marked = λ m flag'.
            elim (cases_eq m k) [
              | inl same ↦ (length o, some, omega (arith, size), get_end o k ∙ ap Some (sym same))
              | inr other ↦
                  let was : slice_index_or f m false ≡ true = sym (get_or-set_other f k m true false other) ∙ flag' in
                  found_up (o ++ k ∷ []) (length o) (length (o ++ k ∷ [])) (Names m) (omega (arith, size)) (found_more o (k ∷ []) (length o) (Names m) (h.marked m was))
            ];
        unmarked = λ m flag' is_found.
            elim (cases_eq m k) [
              | inl same ↦ cc (get_or-set_same f k true false inside')
              | inr other ↦
                  let was : slice_index_or f m false ≡ false = sym (get_or-set_other f k m true false other) ∙ flag' in
                  elim (found_push o k m is_found) [ inl old ↦ h.unmarked m was old | inr is ↦ other (sym is) ]
            ];
        apart = apart_push o k h.apart fresh;
        firsts = λ j m pos at'.
            elim (push_at o k j m at') [
              | inl x ↦ first_more o (k ∷ []) j m (h.firsts j m pos x.1)
              | inr (same, is) ↦ subst (λ (u : ℕ). First C p (o ++ k ∷ []) u m) (sym same) (subst (First C p (o ++ k ∷ []) (length o)) is first)
            ];
        within = λ j m at'.
            elim (push_at o k j m at') [ inl x ↦ h.within j m x.1 | inr x ↦ subst (λ (u : ℕ). u < N) x.1 inside ];
      }

  to_state : (o o' : List ℕ) (f f' : List Bool) (s s' : List Frame) → o' ≡ o → f' ≡ f → s' ≡ s → State N C p o f s → State N C p o' f' s'
  to_state o o' f f' s s' e g h st = subst (λ (u : List ℕ). State N C p u f' s') (sym e) (subst (λ (u : List Bool). State N C p o u s') (sym g) (subst (State N C p o f) (sym h) st))

  -- one step of the search
  pub advanced : (F : Functions ℕ Fault) → AreSorted N C → (s t : Search) (top : Frame) → State N C p s.order s.is_found (s.work_list ++ top ∷ []) → Step F C top s t None → State N C p t.order t.is_found t.work_list
  advanced F sound s t top h (Ended past same is) = subst (λ (u : Search). State N C p u.order u.is_found u.work_list) (sym same) (step_over s.order s.is_found s.work_list top h past)
  advanced F sound s t top h (Unresolved c e at to same is) = cc (is)
  advanced F sound s t top h (Passes c k at to flag same is) = subst (λ (u : Search). State N C p u.order u.is_found u.work_list) (sym same) (step_next s.order s.is_found s.work_list top c k h at to flag)
  advanced F sound s t top h (Opens c k at to flag fits same is) = subst (λ (u : Search). State N C p u.order u.is_found u.work_list) (sym same) (step_push sound s.order s.is_found s.work_list top c k h at to flag)
  advanced F sound s t top h (NoCopy c k e at to flag full same is) = cc (is)

  -- the end

  -- no two places hold one number
  pub distinct_places : (o : List ℕ) → ((i j k : ℕ) → slice_get o i ≡ Some k → slice_get o j ≡ Some k → i ≡ j) → Distinct o
  distinct_places [] h = tt
  distinct_places (m ∷ o) h = (
    λ a. let (j, at) = among_get o m a in let e = h 0 (suc j) m refl at in omega (arith, e),
    distinct_places o (λ i j k ai aj. let e = h (suc i) (suc j) k ai aj in omega (arith, e)),
  )

  -- each reference of each function found leads to one found
  closed : (o : List ℕ) → AreDone C o (length o) [] → (j k x : ℕ) → slice_get o j ≡ Some k → refs C k x ≢ Nothing → Found o (length o) (refs C k x)
  closed o s j k x at some =
      let r = indexed (C k) x some in
      subst (Found o (length o)) (sym r.is) (s.leads j k r.index r.call (slice_get_within o j k at) at (λ a. a) r.at)

  nil_end : (o : List ℕ) (m : ℕ) (ks : List ℕ) → Walk (refs C) m [] ks → Found o (length o) (Names m) → Found o (length o) (Names (last_key_or m ks))
  nil_end o m [] w h = h
  nil_end o m (k ∷ ks) w h = absurd w

  found_among : (ks : List ℕ) (k : ℕ) → Found (p ∷ ks) (length (p ∷ ks)) (Names k) → Among ks k
  found_among ks k (zero, pos, lt, at) = absurd (omega arith)
  found_among ks k (suc j, pos, lt, at) = get_among ks j k at

  names_among : (ks : List ℕ) (r : SlotReference ℕ Fault) → Found (p ∷ ks) (length (p ∷ ks)) r → (m : ℕ) × (r ≡ Names m) × Among ks m
  names_among ks Nothing h = absurd h
  names_among ks (Faulty d) h = absurd h
  names_among ks (Names m) h = (m, refl, found_among ks m h)

  reached_path : (k : ℕ) (q qs : List ℕ) → Walk (refs C) p q qs → q ≢ [] → last_key_or p qs ≡ k → Reached (refs C) p k
  reached_path k [] qs w ne e = absurd (ne refl)
  reached_path k (x ∷ q) qs w ne e = (x, q, qs, w, e)

  reached_by : {o : List ℕ} {j : ℕ} (k : ℕ) → First C p o j k → Reached (refs C) p k
  reached_by k h = reached_path k h.path h.keys h.simple.walk h.some h.ends

  walk_found : (o : List ℕ) → AreDone C o (length o) [] → (j k : ℕ) (q ks : List ℕ) (x : ℕ) → slice_get o j ≡ Some k → Walk (refs C) k (x ∷ q) ks → Found o (length o) (Names (last_key_or k ks))
  walk_found o s j k q [] x at w = absurd w
  walk_found o s j k [] (m ∷ ks) x at w =
      let some : refs C k x ≢ Nothing = λ (z : refs C k x ≡ Nothing). cc (w.0) in
      let is_found = subst (Found o (length o)) w.0 (closed o s j k x at some) in
      nil_end o m ks w.1 is_found
  walk_found o s j k (y ∷ q) (m ∷ ks) x at w =
      let some : refs C k x ≢ Nothing = λ (z : refs C k x ≡ Nothing). cc (w.0) in
      let (i, pos, lt, is) = subst (Found o (length o)) w.0 (closed o s j k x at some) in
      walk_found o s i m q ks y is w.1

  pub key_path : (o : List ℕ) (j k : ℕ) → Apart o → 0 < j → slice_get o j ≡ Some k → (h : First C p o j k) → KeyPath (refs C) p k h.path
  key_path o j k apart pos at h =
      record {
        keys = h.keys;
        simple = h.simple;
        ends = h.ends;
        some = h.some;
        least = λ other others w ne ends b.
            let (i, pi, lt, ai) = h.least other others w ne b in
            let e = apart.apart i j k pi pos (ai ∙ ap Some ends) at in
            omega (arith, e);
      }

  -- an earlier function has the lower key path
  pub in_order : (o : List ℕ) (i j k m : ℕ) (x y : List ℕ) → Apart o → 0 < i → i < j → slice_get o i ≡ Some k → slice_get o j ≡ Some m → First C p o i k → KeyPath (refs C) p k x → KeyPath (refs C) p m y → Before x y
  in_order o i j k m x y apart pos lt ai aj h kx ky =
      let early : Before y h.path → ⊥ = λ b. let (l, pl, ltl, al) = h.least y ky.keys ky.simple ky.some b in let e = apart.apart l j m pl (omega arith) (al ∙ ap Some ky.ends) aj in omega (arith, e) in
      elim (before_cases x y) [
        | inl b ↦ b
        | inr (inl e) ↦
            let keys : kx.keys ≡ ky.keys = walk_same (refs C) p x kx.keys ky.keys kx.simple.walk (subst (λ (u : List ℕ). Walk (refs C) p u ky.keys) (sym e) ky.simple.walk) in
            let same : k ≡ m = sym kx.ends ∙ ap (last_key_or p) keys ∙ ky.ends in
            let l = apart.apart i j m pos (omega arith) (ai ∙ ap Some same) aj in
            absurd (omega (arith, l))
        | inr (inr b) ↦
            elim (before_cases x h.path) [
              | inl c ↦ absurd (early (before_trans y x h.path b c))
              | inr (inl e) ↦ absurd (early (subst (Before y) e b))
              | inr (inr c) ↦ absurd (kx.least h.path h.keys h.simple h.some h.ends c)
            ]
      ]

  pub finished : (ks : List ℕ) (f : List Bool) → State N C p (p ∷ ks) f [] → IsOrder (refs C) p ks
  finished ks f h =
      record {
        once = distinct_places ks (λ i j k ai aj. let e = h.apart.apart (suc i) (suc j) k (omega arith) (omega arith) ai aj in omega (arith, e));
        reached = λ k a. let (j, at) = among_get ks k a in reached_by k (h.firsts (suc j) k (omega arith) at);
        complete = λ k r. found_among ks k (subst (λ (u : ℕ). Found (p ∷ ks) (length (p ∷ ks)) (Names u)) r.4 (walk_found (p ∷ ks) h.held 0 p r.1 r.2 r.0 refl r.3));
        resolved = λ k x a some. let (j, at) = among_get (p ∷ ks) k a in names_among ks (refs C k x) (closed (p ∷ ks) h.held j k x at some);
        order = (
          λ k a. let (j, at) = among_get ks k a in let first = h.firsts (suc j) k (omega arith) at in (first.path, key_path (p ∷ ks) (suc j) k h.apart (omega arith) at first),
          λ i j k m x y lt ai aj kx ky. in_order (p ∷ ks) (suc i) (suc j) k m x y h.apart (omega arith) (omega arith) ai aj (h.firsts (suc i) k (omega arith) ai) kx ky,
        );
      }

  pub begins_with : (o : List ℕ) (k : ℕ) → slice_get o 0 ≡ Some k → (ks : List ℕ) × (o ≡ k ∷ ks)
  begins_with [] k e = cc
  begins_with (m ∷ ks) k e = (ks, cc)

  pub ended : (o : List ℕ) (f : List Bool) (s : List Frame) → length s ≡ 0 → State N C p o f s → (ks : List ℕ) × (o ≡ p ∷ ks) × IsOrder (refs C) p ks
  ended o f s e h =
      let (ks, is) = begins_with o p h.start in
      (ks, is, finished ks f (subst (λ (u : List ℕ). State N C p u f []) is (subst (State N C p o f) (nil_length s e) h)))

  get_replicate : (n k : ℕ) → slice_index_or (replicate n false) k false ≡ false
  get_replicate zero k = refl
  get_replicate (suc n) zero = refl
  get_replicate (suc n) (suc k) = get_replicate n k

  found_none : (r : SlotReference ℕ Fault) → Found (p ∷ []) 1 r → ⊥
  found_none Nothing h = h
  found_none (Faulty d) h = h
  found_none (Names k) h = omega (arith, h.1, h.2)

  only_one : (j k : ℕ) → p < N → slice_get (p ∷ []) j ≡ Some k → k < N
  only_one zero k within at = let e : p ≡ k = cc in omega arith
  only_one (suc j) k within at = cc

  started_so : p < N → State N C p (p ∷ []) (replicate N false) (record { copy = 0; function = p; next = 0 } ∷ [])
  started_so within =
      record {
        held = (
          record { leads = λ c f i r lt at apart call. let z : c ≡ 0 = omega arith in absurd (apart (inl (sym z))) },
          record { function = refl; below = omega arith; done = record { leads = λ i r lt at. absurd (omega arith) } },
          refl,
        );
        start = refl;
        flags = length-replicate N false;
        marked = λ k e. cc (get_replicate N k);
        unmarked = λ k e h. found_none (Names k) h;
        apart = record { apart = λ i j k pi pj ai aj. let z = slice_get_within (p ∷ []) i k ai in absurd (omega (arith, z)) };
        firsts = λ j k pos at. let z = slice_get_within (p ∷ []) j k at in absurd (omega (arith, z));
        within = λ j k at. only_one j k within at;
      }

  -- the state at the start
  pub started : (o : List ℕ) (f : List Bool) (s : List Frame) → p < N → o ≡ p ∷ [] → f ≡ replicate N false → s ≡ record { copy = 0; function = p; next = 0 } ∷ [] → State N C p o f s
  started o f s within eo ef es =
      let first : Frame = record { copy = 0; function = p; next = 0 } in
      to_state (p ∷ []) o (replicate N false) f (first ∷ []) s eo ef es (started_so within)
