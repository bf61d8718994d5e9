-- The slots of the linked program, one copy after the other, and that a program with a link map can be linked.
use Rattle.std.proofs.Common.{◌≡◌, ℕ, zero, suc, ◌+◌, ◌<◌, ◌≤◌, List, [], ◌∷◌, ◌++◌, length, drop, Some, refl, sym, ap, ◌∙◌, subst, arith, append_assoc, length-append, add-one, ◌≢◌, inl, inr, length-set, get_or-set_same, get_or-set_other}
use Rattle.std.specs.Prelude.{slice_get, slice_set, slice_index, pos, ◌-ℤ◌, Vec}
use Rattle.std.proofs.lemmas.Bool.{ne_eqb, eq-eqb}
use Rattle.std.specs.declared.alloc.Global.{Global}
use Rattle.ebpf_linker.proofs.Held.{get_more}
use Rattle.ebpf_linker.proofs.OneResult.{no_longer}
use Rattle.ebpf_linker.proofs.Visits.{begins_among}
use Rattle.ebpf_linker.specs.Copies.{linked_slot, copied_slots, body_at, linked_copies, with_bases, bodies_slot_count}
use Rattle.ebpf_linker.specs.Faults.{has_some}
use Rattle.ebpf_linker.specs.Functions.{SlotReference, Nothing, relinked, Faulty, Names, Among, Distinct, total, BeginsAt, Becomes, Linked, Functions, body}
use Rattle.ebpf_linker.specs.LinkMap.{CopyOf, IsLinkMap}
use Rattle.ebpf_linker.specs.Numbered.{of_target, referred, Rises, calls_at, functions_by_number}
use Rattle.ebpf_linker.specs.Result.{IsOrder, linked_func_info, linked_line_info, has_lines, count_if, IsProgram}
use Rattle.ebpf_linker.specs.declared.body.Body.{Body}
use Rattle.ebpf_linker.specs.declared.body.LinkedProgram.{LinkedProgram}
use Rattle.ebpf_linker.specs.declared.link_map.PlacedReference.{PlacedReference}
use Rattle.ebpf_linker.specs.declared.reference.Reference.{Reference}
use Rattle.ebpf_linker.specs.declared.reference.Fault.{Fault}
use Rattle.ebpf_parts.specs.declared.insn.bpf_insn.{bpf_insn}

-- ---- the slots of the linked program, one copy after the other, are those that are wanted

-- ---- appending a copy, one slot after another

pub record Copying (old out body : List bpf_insn) (cs : List Reference) (bases : List ℕ) (i next : ℕ) : Type 0 where
  pub whole : out ++ copied_slots bases cs (length out) i (drop i body) ≡ old ++ copied_slots bases cs (length old) 0 body
  pub size : length out ≡ length old + i
  pub same : (x : ℕ) → i ≤ x → referred (drop next cs) x ≡ referred cs x
  pub rises : Rises i (drop next cs)

drop_suc : {X : Type 0} (xs : List X) (i : ℕ) (x : X) → slice_get xs i ≡ Some x → drop i xs ≡ x ∷ drop (suc i) xs
drop_suc [] i x e = cc
drop_suc (y ∷ xs) zero x e = let z : y ≡ x = cc in cc
drop_suc (y ∷ xs) (suc i) x e = drop_suc xs i x e

drop_get : {X : Type 0} (xs : List X) (i : ℕ) (x : X) → slice_get xs i ≡ Some x → drop i xs ≡ x ∷ drop (i + 1) xs
drop_get xs i x e = rw add-one (drop_suc xs i x e)

head_get : {X : Type 0} (xs : List X) (i : ℕ) (x : X) (ys : List X) → drop i xs ≡ x ∷ ys → slice_get xs i ≡ Some x
head_get [] zero x ys e = cc
head_get [] (suc i) x ys e = cc
head_get (y ∷ xs) zero x ys e = cc
head_get (y ∷ xs) (suc i) x ys e = head_get xs i x ys e

nothing_below : (cs : List Reference) (low x : ℕ) → Rises low cs → x < low → referred cs x ≡ Nothing
nothing_below [] low x h lt = refl
nothing_below (c ∷ cs) low x h lt =
    let ne : c.slot ≡ x → ⊥ = λ (e : c.slot ≡ x). omega (arith, h.0) in
    rw (ne_eqb c.slot x ne) (nothing_below cs (c.slot + 1) x h.1 (omega (arith, h.0)))

rises_more : (cs : List Reference) (low : ℕ) → Rises low cs → ((c : Reference) (more : List Reference) → cs ≡ c ∷ more → c.slot ≡ low → ⊥) → Rises (low + 1) cs
rises_more [] low h ne = tt
rises_more (c ∷ cs) low h ne = let z = ne c cs refl in (omega (arith, h.0, z), h.1)

module _ (old out body : List bpf_insn) (cs : List Reference) (bases : List ℕ) (i next : ℕ) where
  more_whole : (s t : bpf_insn) → Copying old out body cs bases i next → slice_get body i ≡ Some s → t ≡ linked_slot bases (length out) (referred cs i) s → (out ++ t ∷ []) ++ copied_slots bases cs (length (out ++ t ∷ [])) (i + 1) (drop (i + 1) body) ≡ old ++ copied_slots bases cs (length old) 0 body
  more_whole s t h at is =
      let size : length (out ++ t ∷ []) ≡ length out + 1 = length-append out (t ∷ []) in
      append_assoc out (t ∷ []) (copied_slots bases cs (length (out ++ t ∷ [])) (i + 1) (drop (i + 1) body))
      ∙ ap (λ (n : ℕ). out ++ t ∷ copied_slots bases cs n (i + 1) (drop (i + 1) body)) size
      ∙ ap (λ (u : bpf_insn). out ++ u ∷ copied_slots bases cs (length out + 1) (i + 1) (drop (i + 1) body)) is
      ∙ ap (λ (u : List bpf_insn). out ++ copied_slots bases cs (length out) i u) (sym (drop_get body i s at))
      ∙ h.whole

  -- at a reference
  pub refers : (s t : bpf_insn) (c : Reference) (n : ℕ) → Copying old out body cs bases i next → slice_get body i ≡ Some s → slice_get cs next ≡ Some c → c.slot ≡ i → n ≡ length out → t ≡ linked_slot bases n (of_target c.target) s → Copying old (out ++ t ∷ []) body cs bases (i + 1) (next + 1)
  refers s t c n h at call slot size is' =
      let is : t ≡ linked_slot bases (length out) (of_target c.target) s = is' ∙ ap (λ (m : ℕ). linked_slot bases m (of_target c.target) s) size in
      let rest = drop_get cs next c call in
      let here : referred cs i ≡ of_target c.target = sym (h.same i (omega arith)) ∙ ap (λ (u : List Reference). referred u i) rest ∙ rw (eq-eqb c.slot i slot) refl in
      let rises = subst (Rises i) rest h.rises in
      record {
        whole = more_whole s t h at (is ∙ ap (λ (r : SlotReference ℕ Fault). linked_slot bases (length out) r s) (sym here));
        size = omega (arith, length-append out (t ∷ []), h.size);
        same = λ x le.
            let ne : c.slot ≡ x → ⊥ = λ (e : c.slot ≡ x). omega arith in
            let skip : referred (c ∷ drop (next + 1) cs) x ≡ referred (drop (next + 1) cs) x = rw (ne_eqb c.slot x ne) refl in
            sym skip ∙ ap (λ (u : List Reference). referred u x) (sym rest) ∙ h.same x (omega arith);
        rises = subst (λ (n : ℕ). Rises (n + 1) (drop (next + 1) cs)) slot rises.1;
      }

  -- elsewhere
  pub passes : (s : bpf_insn) → Copying old out body cs bases i next → slice_get body i ≡ Some s → ((c : Reference) → slice_get cs next ≡ Some c → c.slot ≡ i → ⊥) → Copying old (out ++ s ∷ []) body cs bases (i + 1) next
  passes s h at ne =
      let rises = rises_more (drop next cs) i h.rises (λ c more e slot. ne c (head_get cs next c more e) slot) in
      let none : referred cs i ≡ Nothing = sym (h.same i (omega arith)) ∙ nothing_below (drop next cs) (i + 1) i rises (omega arith) in
      record {
        whole = more_whole s s h at (ap (λ (r : SlotReference ℕ Fault). linked_slot bases (length out) r s) (sym none));
        size = omega (arith, length-append out (s ∷ []), h.size);
        same = λ x le. h.same x (omega arith);
        rises = rises;
      }

pub to_copying : (old out out' body : List bpf_insn) (cs : List Reference) (bases : List ℕ) (i next next' : ℕ) → out' ≡ out → next' ≡ next → Copying old out body cs bases i next → Copying old out' body cs bases i next'
to_copying old out out' body cs bases i next next' e f h =
    subst (λ (u : List bpf_insn). Copying old u body cs bases i next') (sym e) (subst (Copying old out body cs bases i) (sym f) h)

-- ---- the slots of the linked program are those that are wanted

pub get_right : {X : Type 0} (xs ys : List X) (n i : ℕ) → n ≡ length xs + i → slice_get (xs ++ ys) n ≡ slice_get ys i
get_right [] ys n i e = let z : n ≡ i = omega arith in ap (slice_get ys) z
get_right (y ∷ xs) ys zero i e = absurd (omega arith)
get_right (y ∷ xs) ys (suc n) i e = get_right xs ys n i (omega arith)

pub length-copied_slots : (bases : List ℕ) (cs : List Reference) (place i : ℕ) (s : List bpf_insn) → length (copied_slots bases cs place i s) ≡ length s
length-copied_slots bases cs place i [] = refl
length-copied_slots bases cs place i (x ∷ s) = omega (arith, length-copied_slots bases cs (place + 1) (i + 1) s)

copied_get : (bases : List ℕ) (cs : List Reference) (place j n m : ℕ) (s : List bpf_insn) (i : ℕ) (x : bpf_insn) → n ≡ place + i → m ≡ j + i → slice_get s i ≡ Some x → slice_get (copied_slots bases cs place j s) i ≡ Some (linked_slot bases n (referred cs m) x)
copied_get bases cs place j n m [] i x en em e = cc
copied_get bases cs place j n m (y ∷ s) zero x en em e =
    let a : n ≡ place = omega arith in
    let b : m ≡ j = omega arith in
    let c : y ≡ x = cc in
    rw (a, b) (ap (λ (u : bpf_insn). Some (linked_slot bases place (referred cs j) u)) c)
copied_get bases cs place j n m (y ∷ s) (suc i) x en em e = copied_get bases cs (place + 1) (j + 1) n m s i x (omega arith) (omega arith) e

module _ (B : List Body) (C : List (Vec Reference Global)) where
  -- the slots of the copies
  linked_copies_get : (bases ks : List ℕ) (k place b i n : ℕ) (x : bpf_insn) → BeginsAt (functions_by_number B C) ks k b → slice_get (body_at B k) i ≡ Some x → n ≡ place + b + i → slice_get (linked_copies B C bases place ks) (b + i) ≡ Some (linked_slot bases n (referred (calls_at C k) i) x)
  linked_copies_get bases [] k place b i n x h e en = absurd h
  linked_copies_get bases (m ∷ ks) k place b i n x (inl h) e en =
      let z : b + i ≡ i = omega (arith, h.1) in
      let e' = subst (λ (u : ℕ). slice_get (body_at B u) i ≡ Some x) (sym h.0) e in
      rw (z, ← h.0) (get_more (copied_slots bases (calls_at C m) place 0 (body_at B m)) (linked_copies B C bases (place + length (body_at B m)) ks) i _ (copied_get bases (calls_at C m) place 0 n i (body_at B m) i x (omega (arith, h.1)) (omega arith) e'))
  linked_copies_get bases (m ∷ ks) k place b i n x (inr (c, is, h)) e en =
      let size = length-copied_slots bases (calls_at C m) place 0 (body_at B m) in
      get_right (copied_slots bases (calls_at C m) place 0 (body_at B m)) (linked_copies B C bases (place + length (body_at B m)) ks) (b + i) (c + i) (omega arith)
      ∙ linked_copies_get bases ks k (place + length (body_at B m)) c i n x h e (omega arith)

  pub size_same : (ks : List ℕ) → total (functions_by_number B C) ks ≡ bodies_slot_count B ks
  size_same [] = refl
  size_same (k ∷ ks) = omega (arith, size_same ks)

  length-linked_copies : (bases : List ℕ) (place : ℕ) (ks : List ℕ) → length (linked_copies B C bases place ks) ≡ bodies_slot_count B ks
  length-linked_copies bases place [] = refl
  length-linked_copies bases place (k ∷ ks) =
      omega (arith, length-append (copied_slots bases (calls_at C k) place 0 (body_at B k)) (linked_copies B C bases (place + length (body_at B k)) ks), length-copied_slots bases (calls_at C k) place 0 (body_at B k), length-linked_copies bases (place + length (body_at B k)) ks)

  -- the bases
  bases_other : (end : ℕ) (bases ks : List ℕ) (k : ℕ) → (Among ks k → ⊥) → slice_index (with_bases B end bases ks) k ≡ slice_index bases k
  bases_other end bases [] k apart = refl
  bases_other end bases (m ∷ ks) k apart =
      let ne : k ≢ m = λ (e : k ≡ m). apart (inl (sym e)) in
      bases_other (end + length (body_at B m)) (slice_set bases m end) ks k (λ a. apart (inr a)) ∙ get_or-set_other bases m k end 0 ne

  pub base_of_index : (end : ℕ) (bases ks : List ℕ) (k : ℕ) → Distinct ks → ((m : ℕ) → Among ks m → m < length bases) → Among ks k → (c : ℕ) × BeginsAt (functions_by_number B C) ks k c × (slice_index (with_bases B end bases ks) k ≡ end + c)
  base_of_index end bases [] k once within a = absurd a
  base_of_index end bases (m ∷ ks) k once within (inl e) =
      let other = bases_other (end + length (body_at B m)) (slice_set bases m end) ks m once.0 in
      let same = get_or-set_same bases m end 0 (within m (inl refl)) in
      (0, inl (e, refl), ap (slice_index (with_bases B (end + length (body_at B m)) (slice_set bases m end) ks)) (sym e) ∙ other ∙ same ∙ (let z : end ≡ end + 0 = omega arith in z))
  base_of_index end bases (m ∷ ks) k once within (inr a) =
      let within' : (n : ℕ) → Among ks n → n < length (slice_set bases m end) = λ n h. rw length-set (within n (inr h)) in
      let (c, begins, is) = base_of_index (end + length (body_at B m)) (slice_set bases m end) ks k once.1 within' a in
      (length (body_at B m) + c, inr (c, omega arith, begins), is ∙ (let z : end + length (body_at B m) + c ≡ end + (length (body_at B m) + c) = omega arith in z))

  becomes_at : (p : ℕ) (ks : List ℕ) (bases : List ℕ) (place : ℕ) (r : SlotReference ℕ Fault) (s : bpf_insn) → ((m : ℕ) → Among ks m → (c : ℕ) × BeginsAt (functions_by_number B C) ks m c × (slice_index bases m ≡ length (body_at B p) + c)) → (r ≢ Nothing → (m : ℕ) × (r ≡ Names m) × Among ks m) → Becomes (functions_by_number B C) p ks place r s (linked_slot bases place r s)
  becomes_at p ks bases place Nothing s at resolved = refl
  becomes_at p ks bases place (Faulty e) s at resolved =
      let ne : ◌≢◌ {A = SlotReference ℕ Fault} (Faulty e) Nothing = λ (z : ◌≡◌ {A = SlotReference ℕ Fault} (Faulty e) Nothing). cc in
      let (m, is, a) = resolved ne in cc
  becomes_at p ks bases place (Names k) s at resolved =
      let ne : ◌≢◌ {A = SlotReference ℕ Fault} (Names k) Nothing = λ (z : ◌≡◌ {A = SlotReference ℕ Fault} (Names k) Nothing). cc in
      let r = resolved ne in
      let same : k ≡ r.0 = cc (r.1) in
      let (c, begins, is) = at k (subst (Among ks) (sym same) r.2) in
      (c, begins, ap (λ (u : ℕ). relinked s (pos u -ℤ pos (place + 1))) (is))

  pub is_linked : (p : ℕ) (ks : List ℕ) (out : List bpf_insn) (bases : List ℕ) → IsOrder (functions_by_number B C).reference p ks → ((m : ℕ) → Among ks m → m < length B) → (before : List ℕ) → length before ≡ length B → bases ≡ with_bases B (length (body_at B p)) before ks → out ≡ linked_copies B C bases 0 (p ∷ ks) → Linked (functions_by_number B C) p ks out
  is_linked p ks out bases order within before count places is =
      record {
        size = ap length is ∙ length-linked_copies bases 0 (p ∷ ks) ∙ sym (size_same (p ∷ ks));
        slots = λ k b i s begins at.
            let at' = at in
            let within' : (m : ℕ) → Among ks m → m < length before = λ m h. let lt = within m h in omega (arith, lt, count) in
            let found : (m : ℕ) → Among ks m → (c : ℕ) × BeginsAt (functions_by_number B C) ks m c × (slice_index bases m ≡ length (body_at B p) + c) = λ m h. let (c, g, e) = base_of_index (length (body_at B p)) before ks m order.once within' h in (c, g, ap (λ (u : List ℕ). slice_index u m) places ∙ e) in (
              linked_slot bases (b + i) (referred (calls_at C k) i) s,
              ap (λ (u : List bpf_insn). slice_get u (b + i)) is ∙ linked_copies_get bases (p ∷ ks) k 0 b i (b + i) s begins at' (omega arith),
              becomes_at p ks bases (b + i) (referred (calls_at C k) i) s found (λ some. order.resolved k i (begins_among (functions_by_number B C) (p ∷ ks) k b begins) some),
            );
      }

-- ---- a program that has a link map can be linked

module _ {K E : Type 0} (F : Functions K E) (p : K) (ks : List K) (order : IsOrder F.reference p ks) where
  begins_somewhere : (ms : List K) (k : K) → Among ms k → (c : ℕ) × BeginsAt F ms k c
  begins_somewhere [] k a = absurd a
  begins_somewhere (m ∷ ms) k (inl e) = (0, inl (e, refl))
  begins_somewhere (m ∷ ms) k (inr a) = let (c, h) = begins_somewhere ms k a in (length (body F m) + c, inr (c, refl, h))

  -- what a slot becomes
  written_slot : (place : ℕ) (k : K) (i : ℕ) (s : bpf_insn) → Among (p ∷ ks) k → (t : bpf_insn) × Becomes F p ks place (F.reference k i) s t
  written_slot place k i s a = step (F.reference k i) refl
    where
      step : (r : SlotReference K E) → F.reference k i ≡ r → (t : bpf_insn) × Becomes F p ks place r s t
      step Nothing e = (s, refl)
      step (Faulty d) e =
          let some : F.reference k i ≢ Nothing = λ (z : F.reference k i ≡ Nothing). cc in
          let (m, names, b) = order.resolved k i a some in
          cc
      step (Names m) e =
          let some : F.reference k i ≢ Nothing = λ (z : F.reference k i ≡ Nothing). cc in
          let (n, names, b) = order.resolved k i a some in
          let same : n ≡ m = cc in
          let (c, begins) = begins_somewhere ks m (subst (Among ks) same b) in
          (relinked s (pos (length (body F p) + c) -ℤ pos (place + 1)), (c, begins, refl))

  -- a copy of some slots of a function, from slot low on, which begins at a place
  record Copied (k : K) (place low : ℕ) (code : List bpf_insn) : Type 0 where
    out : List bpf_insn
    size : length out ≡ length code
    at : (i x j : ℕ) (s : bpf_insn) → slice_get code i ≡ Some s → x ≡ place + i → j ≡ low + i → (t : bpf_insn) × (slice_get out i ≡ Some t) × Becomes F p ks x (F.reference k j) s t

  one_more : (k : K) (place low : ℕ) (s : bpf_insn) (code : List bpf_insn) (t : bpf_insn) → Becomes F p ks place (F.reference k low) s t → (rest : Copied k (place + 1) (low + 1) code) → (i x j : ℕ) (u : bpf_insn) → slice_get (s ∷ code) i ≡ Some u → x ≡ place + i → j ≡ low + i → (v : bpf_insn) × (slice_get (t ∷ rest.out) i ≡ Some v) × Becomes F p ks x (F.reference k j) u v
  one_more k place low s code t becomes rest zero x j u at ex ej =
      let same : s ≡ u = cc in
      let place_is : place ≡ x = omega arith in
      let low_is : low ≡ j = omega arith in
      (t, refl, subst (λ (y : bpf_insn). Becomes F p ks x (F.reference k j) y t) same (subst (λ (n : ℕ). Becomes F p ks x (F.reference k n) s t) low_is (subst (λ (n : ℕ). Becomes F p ks n (F.reference k low) s t) place_is becomes)))
  one_more k place low s code t becomes rest (suc i) x j u at ex ej = rest.at i x j u at (omega arith) (omega arith)

  copied : (k : K) (place low : ℕ) (code : List bpf_insn) → Among (p ∷ ks) k → Copied k place low code
  copied k place low [] a = record { out = []; size = refl; at = λ i x j s at ex ej. cc }
  copied k place low (s ∷ code) a =
      let (t, becomes) = written_slot place k low s a in
      let rest = copied k (place + 1) (low + 1) code a in
      record { out = t ∷ rest.out; size = ap suc rest.size; at = one_more k place low s code t becomes rest }

  -- copies of these functions, the first at a place
  record Written (place : ℕ) (ms : List K) : Type 0 where
    out : List bpf_insn
    size : length out ≡ total F ms
    at : (k : K) (b i x : ℕ) (s : bpf_insn) → BeginsAt F ms k b → slice_get (body F k) i ≡ Some s → x ≡ place + b + i → (t : bpf_insn) × (slice_get out (b + i) ≡ Some t) × Becomes F p ks x (F.reference k i) s t

  one_copy : (place : ℕ) (m : K) (ms : List K) (first : Copied m place 0 (body F m)) (rest : Written (place + length (body F m)) ms) → (k : K) (b i x : ℕ) (s : bpf_insn) → BeginsAt F (m ∷ ms) k b → slice_get (body F k) i ≡ Some s → x ≡ place + b + i → (t : bpf_insn) × (slice_get (first.out ++ rest.out) (b + i) ≡ Some t) × Becomes F p ks x (F.reference k i) s t
  one_copy place m ms first rest k b i x s (inl h) at ex =
      let at' = subst (λ (u : K). slice_get (body F u) i ≡ Some s) (sym h.0) at in
      let (t, there, becomes) = first.at i x i s at' (omega (arith, h.1, ex)) (omega arith) in
      let place_is : b + i ≡ i = omega (arith, h.1) in (
        t,
        ap (slice_get (first.out ++ rest.out)) place_is ∙ get_more first.out rest.out i t there,
        subst (λ (u : K). Becomes F p ks x (F.reference u i) s t) h.0 becomes,
      )
  one_copy place m ms first rest k b i x s (inr (c, e, h)) at ex =
      let (t, there, becomes) = rest.at k c i x s h at (omega (arith, e, ex)) in
      (t, get_right first.out rest.out (b + i) (c + i) (omega (arith, e, first.size)) ∙ there, becomes)

  written : (place : ℕ) (ms : List K) → ((k : K) → Among ms k → Among (p ∷ ks) k) → Written place ms
  written place [] h = record { out = []; size = refl; at = λ k b i x s begins at ex. absurd begins }
  written place (m ∷ ms) h =
      let first = copied m place 0 (body F m) (h m (inl refl)) in
      let rest = written (place + length (body F m)) ms (λ k a. h k (inr a)) in
      record { out = first.out ++ rest.out; size = omega (arith, length-append first.out rest.out, first.size, rest.size); at = one_copy place m ms first rest }

  is_written : (w : Written 0 (p ∷ ks)) → Linked F p ks w.out
  is_written w = record {
    size = w.size;
    slots = λ k b i s begins at. w.at k b i (b + i) s begins at (omega arith);
  }

-- the linked program
pub can_be_linked : {K E : Type 0} (F : Functions K E) (p : K) (ks : List K) (cs : List (CopyOf K)) (rs : List PlacedReference) → IsLinkMap F p ks cs rs → (l : LinkedProgram) × IsProgram F p ks l
can_be_linked F p ks cs rs h =
    let w = written F p ks h.layout.order 0 (p ∷ ks) (λ k a. a) in
    let linked = is_written F p ks h.layout.order w in (
      record {
        slots = w.out;
        func_info = linked_func_info F p ks;
        line_info = linked_line_info F p ks;
        func_count = count_if (has_some ks) (linked_func_info F p ks);
        line_count = count_if (has_lines F ks) (linked_line_info F p ks);
      },
      record {
        layout = h.layout;
        linked = linked;
        func_info = refl;
        line_info = refl;
        func_count = refl;
        line_count = refl;
        bound = λ all covers. no_longer F p ks all _ h.layout linked.size covers;
      },
    )
