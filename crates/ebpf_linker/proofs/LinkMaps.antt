-- The copies and references of a link map are those of the linked program.
use Rattle.std.proofs.Common.{◌≡◌, ◌≢◌, ℕ, suc, ◌+◌, ◌<◌, ◌≤◌, List, [], ◌∷◌, ◌++◌, length, map, Option, Some, None, refl, sym, ap, ◌∙◌, subst, inl, inr, arith}
use Rattle.std.specs.Prelude.{slice_get, slice_index, ◌==◌, Vec}
use Rattle.std.specs.declared.alloc.Global.{Global}
use Rattle.std.proofs.lemmas.Bool.{cases_Bool, eqb-true}
use Rattle.std.proofs.lemmas.Option.{slice_get_within}
use Rattle.ebpf_parts.specs.declared.insn.bpf_insn.{bpf_insn}
use Rattle.ebpf_linker.specs.declared.body.Body.{Body}
use Rattle.ebpf_linker.specs.declared.link_map.NumberedCopy.{NumberedCopy}
use Rattle.ebpf_linker.specs.declared.link_map.PlacedReference.{PlacedReference}
use Rattle.ebpf_linker.specs.declared.reference.Reference.{Reference}
use Rattle.ebpf_linker.specs.declared.reference.Target.{Target}
use Rattle.ebpf_linker.specs.declared.reference.Target.TheVariants.{Function, Nowhere}
use Rattle.ebpf_parts.specs.Slots.{is_pseudo_call}
use Rattle.ebpf_linker.specs.Functions.{Nothing, Names, Among, BeginsAt}
use Rattle.ebpf_linker.specs.Copies.{body_at, with_bases, linked_reference_at, linked_reference, with_linked_reference, references_of_copy, references_of_copies, IsReady}
use Rattle.ebpf_linker.specs.LinkMap.{CopyOf, copies_from, IsReference, AreReferences, IsLinkMap, numbered_copy, PlacesRise}
use Rattle.ebpf_linker.specs.Numbered.{of_target, referred, calls_at, functions_by_number, Rises, Sound}
use Rattle.ebpf_linker.proofs.Held.{at_index}
use Rattle.ebpf_linker.proofs.OneResult.{one_begin}
use Rattle.ebpf_linker.proofs.Paths.{among_cases, among_left, among_right, names_same}
use Rattle.ebpf_linker.proofs.Visits.{begins_among}
use Rattle.ebpf_linker.proofs.Readying.{all_in}
use Rattle.ebpf_linker.proofs.Whole.{base_of_index}

-- ---- lists of references

rise_lower : (low high : ℕ) (rs : List PlacedReference) → low ≤ high → PlacesRise high rs → PlacesRise low rs
rise_lower low high [] le h = tt
rise_lower low high (r ∷ rs) le h = (omega (arith, h.0), h.1)

-- one list after another, which begins where the first one ends
rise_append : (low mid : ℕ) (xs ys : List PlacedReference) → low ≤ mid → PlacesRise low xs → ((r : PlacedReference) → Among xs r → r.place < mid) → PlacesRise mid ys → PlacesRise low (xs ++ ys)
rise_append low mid [] ys le h below g = rise_lower low mid ys le g
rise_append low mid (x ∷ xs) ys le h below g = (h.0, rise_append (x.place + 1) mid xs ys (let lt = below x (inl refl) in omega (arith, lt)) h.1 (λ r a. below r (inr a)) g)

-- ---- the references of one copy

module _ (bases : List ℕ) (base : ℕ) (code : List bpf_insn) where
  -- where one of these calls gives a reference
  record LinkedReferences (cs : List Reference) (r : PlacedReference) : Type 0 where
    call : Reference
    index : ℕ
    at : slice_get cs index ≡ Some call
    function : ℕ
    leads : call.target ≡ Function function
    slot : bpf_insn
    stands : slice_get code call.slot ≡ Some slot
    is : r ≡ record { place = base + call.slot; base = slice_index bases function; is_call = is_pseudo_call slot }

  later : (c : Reference) (cs : List Reference) (r : PlacedReference) → LinkedReferences cs r → LinkedReferences (c ∷ cs) r
  later c cs r h = record { call = h.call; index = suc h.index; at = h.at; function = h.function; leads = h.leads; slot = h.slot; stands = h.stands; is = h.is }

  references_from : (cs : List Reference) (r : PlacedReference) → Among (references_of_copy bases base code cs) r → LinkedReferences cs r
  references_from [] r a = absurd a
  references_from (c ∷ cs) r a = at_slot (slice_get code c.slot) c.target refl refl (λ b. later c cs r (references_from cs r b)) a
    where
      at_slot : (o : Option bpf_insn) (t : Target) → slice_get code c.slot ≡ o → c.target ≡ t → (Among (references_of_copy bases base code cs) r → LinkedReferences (c ∷ cs) r) → Among (with_linked_reference (linked_reference_at bases (base + c.slot) t o) (references_of_copy bases base code cs)) r → LinkedReferences (c ∷ cs) r
      at_slot None t es et rest b = rest b
      at_slot (Some s) (Nowhere e) es et rest b = rest b
      at_slot (Some s) (Function k) es et rest (inl e) = record { call = c; index = 0; at = refl; function = k; leads = et; slot = s; stands = es; is = sym e }
      at_slot (Some s) (Function k) es et rest (inr b) = rest b

  with_later : (o : Option PlacedReference) (rs : List PlacedReference) (r : PlacedReference) → Among rs r → Among (with_linked_reference o rs) r
  with_later None rs r a = a
  with_later (Some x) rs r a = inr a

  named_by : (t : Target) (k : ℕ) → of_target t ≡ Names k → t ≡ Function k
  named_by (Function m) k e = let z : m ≡ k = cc in ap Function z
  named_by (Nowhere d) k e = cc

  references_within : (cs : List Reference) (i k : ℕ) (s : bpf_insn) → slice_get code i ≡ Some s → referred cs i ≡ Names k → Among (references_of_copy bases base code cs) (record { place = base + i; base = slice_index bases k; is_call = is_pseudo_call s })
  references_within [] i k s at names = cc
  references_within (c ∷ cs) i k s at names =
      elim (cases_Bool (c.slot == i)) [
        | inl e ↦
            let same : c.slot ≡ i = eqb-true c.slot i e in
            let leads : c.target ≡ Function k = named_by c.target k (rw e at names) in
            let here : linked_reference bases base code c ≡ Some (record { place = base + i; base = slice_index bases k; is_call = is_pseudo_call s }) = (λ j. linked_reference_at bases (base + same j) (leads j) (slice_get code (same j))) ∙ ap (linked_reference_at bases (base + i) (Function k)) at in
            subst (λ (o : Option PlacedReference). Among (with_linked_reference o (references_of_copy bases base code cs)) (record { place = base + i; base = slice_index bases k; is_call = is_pseudo_call s })) (sym here) (inl refl)
        | inr e ↦ with_later (linked_reference bases base code c) (references_of_copy bases base code cs) _ (references_within cs i k s at (rw e at names))
      ]

  references_rise : (low : ℕ) (cs : List Reference) → Rises low cs → PlacesRise (base + low) (references_of_copy bases base code cs)
  references_rise low [] h = tt
  references_rise low (c ∷ cs) h =
      let z : base + (c.slot + 1) ≡ base + c.slot + 1 = omega arith in
      at_slot (slice_get code c.slot) c.target (subst (λ (n : ℕ). PlacesRise n (references_of_copy bases base code cs)) z (references_rise (c.slot + 1) cs h.1))
    where
      lower : PlacesRise (base + c.slot + 1) (references_of_copy bases base code cs) → PlacesRise (base + low) (references_of_copy bases base code cs)
      lower rest = rise_lower (base + low) (base + c.slot + 1) (references_of_copy bases base code cs) (omega (arith, h.0)) rest

      at_slot : (o : Option bpf_insn) (t : Target) → PlacesRise (base + c.slot + 1) (references_of_copy bases base code cs) → PlacesRise (base + low) (with_linked_reference (linked_reference_at bases (base + c.slot) t o) (references_of_copy bases base code cs))
      at_slot None t rest = lower rest
      at_slot (Some s) (Nowhere e) rest = lower rest
      at_slot (Some s) (Function k) rest = (omega (arith, h.0), rest)

  references_below : (cs : List Reference) (r : PlacedReference) → Among (references_of_copy bases base code cs) r → r.place < base + length code
  references_below cs r a =
      let h = references_from cs r a in
      let lt = slice_get_within code h.call.slot h.slot h.stands in
      let place = ap (λ (u : PlacedReference). u.place) h.is in
      omega (arith, lt, place)

-- ---- those of copies one after the other

module _ (B : List Body) (C : List (Vec Reference Global)) (bases : List ℕ) (sound : (k : ℕ) → Rises 0 (calls_at C k)) where
  -- where a copy of one of these functions, the first at a base, has a reference
  record From (base : ℕ) (ks : List ℕ) (r : PlacedReference) : Type 0 where
    k : ℕ
    b : ℕ
    begins : BeginsAt (functions_by_number B C) ks k b
    i : ℕ
    s : bpf_insn
    slot : slice_get (body_at B k) i ≡ Some s
    m : ℕ
    names : referred (calls_at C k) i ≡ Names m
    place : r.place ≡ base + b + i
    reaches : r.base ≡ slice_index bases m
    is_call : r.is_call ≡ is_pseudo_call s

  from_copy : (base k : ℕ) (ks : List ℕ) (r : PlacedReference) → LinkedReferences bases base (body_at B k) (calls_at C k) r → From base (k ∷ ks) r
  from_copy base k ks r h = record {
    k = k;
    b = 0;
    begins = inl (refl, refl);
    i = h.call.slot;
    s = h.slot;
    slot = h.stands;
    m = h.function;
    names = (at_index (calls_at C k) 0 h.index h.call (sound k) h.at).1 ∙ ap of_target h.leads;
    place = (let z = ap (λ (u : PlacedReference). u.place) h.is in omega (arith, z));
    reaches = ap (λ (u : PlacedReference). u.base) h.is;
    is_call = ap (λ (u : PlacedReference). u.is_call) h.is;
  }

  from_later : (base k : ℕ) (ks : List ℕ) (r : PlacedReference) → From (base + length (body_at B k)) ks r → From base (k ∷ ks) r
  from_later base k ks r h = record {
    k = h.k;
    b = length (body_at B k) + h.b;
    begins = inr (h.b, refl, h.begins);
    i = h.i;
    s = h.s;
    slot = h.slot;
    m = h.m;
    names = h.names;
    place = omega (arith, h.place);
    reaches = h.reaches;
    is_call = h.is_call;
  }

  all_from : (base : ℕ) (ks : List ℕ) (r : PlacedReference) → Among (references_of_copies B C bases base ks) r → From base ks r
  all_from base [] r a = absurd a
  all_from base (k ∷ ks) r a =
      elim (among_cases (references_of_copy bases base (body_at B k) (calls_at C k)) (references_of_copies B C bases (base + length (body_at B k)) ks) r a) [
        | inl b ↦ from_copy base k ks r (references_from bases base (body_at B k) (calls_at C k) r b)
        | inr b ↦ from_later base k ks r (all_from (base + length (body_at B k)) ks r b)
      ]

  all_to : (base : ℕ) (ks : List ℕ) (k b i m : ℕ) (s : bpf_insn) → BeginsAt (functions_by_number B C) ks k b → slice_get (body_at B k) i ≡ Some s → referred (calls_at C k) i ≡ Names m → Among (references_of_copies B C bases base ks) (record { place = base + b + i; base = slice_index bases m; is_call = is_pseudo_call s })
  all_to base [] k b i m s begins at names = absurd begins
  all_to base (n ∷ ks) k b i m s (inl h) at names =
      let place : base + i ≡ base + b + i = omega (arith, h.1) in
      let at' = subst (λ (u : ℕ). slice_get (body_at B u) i ≡ Some s) (sym h.0) at in
      let names' = subst (λ (u : ℕ). referred (calls_at C u) i ≡ Names m) (sym h.0) names in
      subst (λ (x : ℕ). Among (references_of_copies B C bases base (n ∷ ks)) (record { place = x; base = slice_index bases m; is_call = is_pseudo_call s })) place
      (among_left (references_of_copy bases base (body_at B n) (calls_at C n)) (references_of_copies B C bases (base + length (body_at B n)) ks) _ (references_within bases base (body_at B n) (calls_at C n) i m s at' names'))
  all_to base (n ∷ ks) k b i m s (inr (c, e, h)) at names =
      let place : base + length (body_at B n) + c + i ≡ base + b + i = omega (arith, e) in
      subst (λ (x : ℕ). Among (references_of_copies B C bases base (n ∷ ks)) (record { place = x; base = slice_index bases m; is_call = is_pseudo_call s })) place
      (among_right (references_of_copy bases base (body_at B n) (calls_at C n)) (references_of_copies B C bases (base + length (body_at B n)) ks) _ (all_to (base + length (body_at B n)) ks k c i m s h at names))

  all_rise : (base : ℕ) (ks : List ℕ) → PlacesRise base (references_of_copies B C bases base ks)
  all_rise base [] = tt
  all_rise base (k ∷ ks) =
      let z : base + 0 ≡ base = omega arith in
      let own = subst (λ (n : ℕ). PlacesRise n (references_of_copy bases base (body_at B k) (calls_at C k))) z (references_rise bases base (body_at B k) 0 (calls_at C k) (sound k)) in
      rise_append base (base + length (body_at B k)) (references_of_copy bases base (body_at B k) (calls_at C k)) (references_of_copies B C bases (base + length (body_at B k)) ks) (omega arith) own (references_below bases base (body_at B k) (calls_at C k)) (all_rise (base + length (body_at B k)) ks)

-- ---- the map

module _ (B : List Body) (C : List (Vec Reference Global)) where
  -- the copies don't depend on the references
  same_copies : (base : ℕ) (ks : List ℕ) → copies_from (functions_by_number B []) base ks ≡ copies_from (functions_by_number B C) base ks
  same_copies base [] = refl
  same_copies base (k ∷ ks) = ap (λ (u : List (CopyOf ℕ)). record { key = k; base = base; slots = length (body_at B k) } ∷ u) (same_copies (base + length (body_at B k)) ks)

  module _ (p : ℕ) (ks bases : List ℕ) (ready : IsReady B C p ks) (before : List ℕ) (count : length before ≡ length B) (places : bases ≡ with_bases B (length (body_at B p)) before ks) (sound : Sound (length B) C) where
    -- the bases are the places at which the copies begin
    begins_there : (m : ℕ) → Among ks m → (c : ℕ) × BeginsAt (functions_by_number B C) ks m c × (slice_index bases m ≡ length (body_at B p) + c)
    begins_there m a =
        let within : (n : ℕ) → Among ks n → n < length before = λ n b. let lt = all_in B C p ks n ready.copies b in omega (arith, lt, count) in
        let (c, begins, e) = base_of_index B C (length (body_at B p)) before ks m ready.layout.order.once within a in
        (c, begins, ap (λ (u : List ℕ). slice_index u m) places ∙ e)

    is_reference : (r : PlacedReference) → From B C bases sound.rises 0 (p ∷ ks) r → IsReference (functions_by_number B C) p ks r
    is_reference r h =
        let some : referred (calls_at C h.k) h.i ≢ Nothing = λ (z : referred (calls_at C h.k) h.i ≡ Nothing). let names = h.names in cc in
        let (m, names, a) = ready.layout.order.resolved h.k h.i (begins_among (functions_by_number B C) (p ∷ ks) h.k h.b h.begins) some in
        let same : m ≡ h.m = names_same m h.m (referred (calls_at C h.k) h.i) names h.names in
        let (c, reaches, e) = begins_there h.m (subst (Among ks) same a) in
        record {
          k = h.k;
          b = h.b;
          begins = h.begins;
          i = h.i;
          s = h.s;
          slot = h.slot;
          m = h.m;
          names = h.names;
          c = c;
          reaches = reaches;
          place = omega (arith, h.place);
          base = h.reaches ∙ e;
          is_call = h.is_call;
        }

    is_linked_reference : (r : PlacedReference) → IsReference (functions_by_number B C) p ks r → Among (references_of_copies B C bases 0 (p ∷ ks)) r
    is_linked_reference r h =
        let (c, reaches, e) = begins_there h.m (begins_among (functions_by_number B C) ks h.m h.c h.reaches) in
        let same : c ≡ h.c = one_begin (functions_by_number B C) ks h.m c h.c ready.layout.order.once reaches h.reaches in
        let place : 0 + h.b + h.i ≡ r.place = omega (arith, h.place) in
        let base : slice_index bases h.m ≡ r.base = e ∙ ap (λ (n : ℕ). length (body_at B p) + n) same ∙ sym h.base in
        let is : record { place = 0 + h.b + h.i; base = slice_index bases h.m; is_call = is_pseudo_call h.s } ≡ r = λ j. record { place = place j; base = base j; is_call = sym h.is_call j } in
        subst (Among (references_of_copies B C bases 0 (p ∷ ks))) is (all_to B C bases sound.rises 0 (p ∷ ks) h.k h.b h.i h.m h.s h.begins h.slot h.names)

    pub are_references : AreReferences (functions_by_number B C) p ks (references_of_copies B C bases 0 (p ∷ ks))
    are_references = record {
      sound = λ r a. is_reference r (all_from B C bases sound.rises 0 (p ∷ ks) r a);
      complete = λ r h. is_linked_reference r h;
      rises = all_rise B C bases sound.rises 0 (p ∷ ks);
    }

    -- the link map
    pub is_link_map : (copies : List NumberedCopy) (references : List PlacedReference) → copies ≡ map numbered_copy (copies_from (functions_by_number B []) 0 (p ∷ ks)) → references ≡ references_of_copies B C bases 0 (p ∷ ks) → (x : List ℕ) × (cs : List (CopyOf ℕ)) × IsLinkMap (functions_by_number B C) p x cs references × (copies ≡ map numbered_copy cs)
    is_link_map copies references are_copies are_linked_references = (
      ks,
      copies_from (functions_by_number B C) 0 (p ∷ ks),
      record {
        layout = ready.layout;
        copies = refl;
        references = subst (AreReferences (functions_by_number B C) p ks) (sym are_linked_references) are_references;
      },
      are_copies ∙ ap (map numbered_copy) (same_copies 0 (p ∷ ks)),
    )
