-- Functions one after the other: their bases, slots, records and references.
use Rattle.std.proofs.Common.{◌≡◌, ℕ, zero, suc, ◌+◌, ◌<◌, ◌≤◌, ◌^◌, Bool, true, false, List, [], ◌∷◌, ◌++◌, length, drop, None, refl, sym, ap, ◌∙◌, subst, inl, inr, arith, length-set, get_or, drop-cons, add-one, append_assoc, length-append, map, ◌-◌, Option, Some}
use Rattle.std.specs.Prelude.{slice_set, All, Vec, ◌||◌, ◌==◌, not, nat_lt, nat_le}
use Rattle.std.specs.declared.alloc.Global.{Global}
use Rattle.std.proofs.lemmas.Bool.{ltb-false, ne_eqb, leb-false, or_parts}
use Rattle.std.proofs.lemmas.List.Elements.{All-set}
use Rattle.std.proofs.lemmas.Option.{slice_get-get_or}
use Rattle.ebpf_base.proofs.Lists.{rest_more}
use Rattle.ebpf_base.specs.Faults.{first_of}
use Rattle.ebpf_btf_ext.specs.declared.ext_infos.bpf_func_info.{bpf_func_info}
use Rattle.ebpf_btf_ext.specs.declared.ext_infos.bpf_line_info.{bpf_line_info}
use Rattle.ebpf_linker.proofs.Checked.{content_read}
use Rattle.ebpf_linker.proofs.Whole.{length-copied_slots}
use Rattle.ebpf_linker.specs.Copies.{body_at, with_bases, bodies_slot_count, copied_slots, linked_copies, Fit, references_of_copy, references_of_copies, linked_reference, with_linked_reference}
use Rattle.ebpf_linker.specs.Faults.{content_fault, has_stray, has_some, first_line, is_stray}
use Rattle.ebpf_linker.specs.Functions.{FunctionContent, Among}
use Rattle.ebpf_linker.specs.LinkMap.{copies_from, numbered_copy}
use Rattle.ebpf_linker.specs.Numbered.{calls_at, calls_or_empty, functions_by_number, body_content}
use Rattle.ebpf_linker.specs.PrivateContracts.{content_in}
use Rattle.ebpf_linker.specs.Result.{func_moved, line_moved, func_records, line_records, has_lines}
use Rattle.ebpf_linker.specs.declared.body.Body.{Body}
use Rattle.ebpf_linker.specs.declared.link_map.NumberedCopy.{NumberedCopy}
use Rattle.ebpf_linker.specs.declared.link_map.PlacedReference.{PlacedReference}
use Rattle.ebpf_linker.specs.declared.reference.Reference.{Reference}
use Rattle.ebpf_linker.specs.declared.reference.Fault.TheVariants.{ProgramTooLong, InvalidLineInfo}
use Rattle.ebpf_parts.specs.declared.insn.bpf_insn.{bpf_insn}

-- ---- the places at which functions begin

first_none : {E : Type 0} (b c : Bool) (d e : E) → first_of ((b, d) ∷ (c, e) ∷ []) ≡ None → (b ≡ false) × (c ≡ false)
first_none true c d e h = cc
first_none false true d e h = cc
first_none false false d e h = (refl, refl)

-- a function that can have its copy is not too long, and has no stray line record
pub can_have : {E : Type 0} (c : FunctionContent) (base : ℕ) (d e : E) → content_fault c base d e ≡ None → (base + length c.slots ≤ 2147483647) × (has_stray base c.line_info ≡ false)
can_have c base d e h = let z = first_none _ _ _ _ h in (ltb-false 2147483647 (base + length c.slots) z.0, z.1)

pub next_is : (ks : List ℕ) (i k : ℕ) → i < length ks → k ≡ get_or ks i 0 → drop i ks ≡ k ∷ drop (i + 1) ks
next_is ks i k lt e = rw (add-one, e) (drop-cons ks i 0 lt)

module _ (B : List Body) (ks : List ℕ) (end i : ℕ) where
  -- the next function can have its copy
  pub fit_next : (k : ℕ) → Fit B end (drop i ks) → i < length ks → k ≡ get_or ks i 0 → (content_fault (content_in B k) end (ProgramTooLong k) (InvalidLineInfo k) ≡ None) × Fit B (end + length (body_at B k)) (drop (i + 1) ks)
  fit_next k h lt e = subst (Fit B end) (next_is ks i k lt e) h

pub record Placing (B : List Body) (first : ℕ) (before ks bases : List ℕ) (end i : ℕ) : Type 0 where
  pub places : with_bases B end bases (drop i ks) ≡ with_bases B first before ks
  pub fit : Fit B end (drop i ks)
  pub below : All (λ b. b < 2 ^ 31) bases
  pub flags : length bases ≡ length B

module _ (B : List Body) (first : ℕ) (ks bases : List ℕ) (end i : ℕ) where
  pub bases_next : (before : List ℕ) (k n : ℕ) → Placing B first before ks bases end i → i < length ks → k ≡ get_or ks i 0 → n ≡ length (body_at B k) → Placing B first before ks (slice_set bases k end) (end + n) (i + 1)
  bases_next before k n h lt e size =
      let d = next_is ks i k lt e in
      let f = fit_next B ks end i k h.fit lt e in
      let short = can_have (content_in B k) end _ _ f.0 in
      record {
        places = ap (λ (m : ℕ). with_bases B (end + m) (slice_set bases k end) (drop (i + 1) ks)) size ∙ sym (ap (with_bases B end bases) d) ∙ h.places;
        fit = subst (λ (m : ℕ). Fit B (end + m) (drop (i + 1) ks)) (sym size) f.1;
        below = All-set (λ b. b < 2 ^ 31) bases k end (omega (arith, short.0)) h.below;
        flags = length-set bases k end ∙ h.flags;
      }

  pub room_next : (k : ℕ) → Fit B end (drop i ks) → i < length ks → k ≡ get_or ks i 0 → end + length (body_at B k) ≤ 2147483647
  room_next k h lt e = (can_have (content_in B k) end _ _ (fit_next B ks end i k h lt e).0).0

pub length-with_bases : (B : List Body) (end : ℕ) (bases ks : List ℕ) → length (with_bases B end bases ks) ≡ length bases
length-with_bases B end bases [] = refl
length-with_bases B end bases (k ∷ ks) = length-with_bases B (end + length (body_at B k)) (slice_set bases k end) ks ∙ length-set bases k end

-- the copies so far, and those to come
pub record Laying (B : List Body) (C : List (Vec Reference Global)) (bases order : List ℕ) (out : List bpf_insn) (i : ℕ) : Type 0 where
  pub whole : out ++ linked_copies B C bases (length out) (drop i order) ≡ linked_copies B C bases 0 order
  pub room : length out + bodies_slot_count B (drop i order) ≡ bodies_slot_count B order

module _ (B : List Body) (C : List (Vec Reference Global)) (bases order : List ℕ) (out : List bpf_insn) (i : ℕ) where
  pub linked_copies_next : (k : ℕ) (body out' : List bpf_insn) (cs : List Reference) → Laying B C bases order out i → i < length order → k ≡ get_or order i 0 → body_at B k ≡ body → calls_at C k ≡ cs → out' ≡ out ++ copied_slots bases cs (length out) 0 body → Laying B C bases order out' (i + 1)
  linked_copies_next k body out' cs h lt e b f is =
      let d = next_is order i k lt e in
      let is' : out' ≡ out ++ copied_slots bases (calls_at C k) (length out) 0 (body_at B k) = rw (b, f) is in
      let size : length out' ≡ length out + length (body_at B k) = ap length is' ∙ length-append out (copied_slots bases (calls_at C k) (length out) 0 (body_at B k)) ∙ ap (λ (n : ℕ). length out + n) (length-copied_slots bases (calls_at C k) (length out) 0 (body_at B k)) in
      record {
        whole = ap (λ (n : ℕ). out' ++ linked_copies B C bases n (drop (i + 1) order)) size
            ∙ ap (λ (u : List bpf_insn). u ++ linked_copies B C bases (length out + length (body_at B k)) (drop (i + 1) order)) is'
            ∙ append_assoc out (copied_slots bases (calls_at C k) (length out) 0 (body_at B k)) (linked_copies B C bases (length out + length (body_at B k)) (drop (i + 1) order))
            ∙ ap (λ (u : List ℕ). out ++ linked_copies B C bases (length out) u) (sym d)
            ∙ h.whole;
        room = (let z = ap (bodies_slot_count B) d in omega (arith, z, h.room, size));
      }

  pub fits_next : (k : ℕ) (body : List bpf_insn) → Laying B C bases order out i → i < length order → k ≡ get_or order i 0 → body_at B k ≡ body → length out + length body ≤ bodies_slot_count B order
  fits_next k body h lt e b = let z = ap (bodies_slot_count B) (next_is order i k lt e) in let y = ap length b in omega (arith, z, h.room, y)

-- the references of function k, read from its list
pub calls_read : (C : List (Vec Reference Global)) (k : ℕ) (d : Vec Reference Global) → k < length C → calls_at C k ≡ (get_or C k d).items
calls_read C k d lt = ap calls_or_empty (slice_get-get_or C k d lt)

-- what stands at a place past the end
abbrev pub no_body : Body
no_body = record { slots = record { ref_ptr = (0, 0); now = [] }; func_info = record { ref_ptr = (0, 0); now = [] }; line_info = record { ref_ptr = (0, 0); now = [] } }

pub body_read : (B : List Body) (k : ℕ) (d : Body) → k < length B → body_at B k ≡ (get_or B k d).slots.now
body_read B k d lt = ap (λ (u : FunctionContent). u.slots) (content_read B k d lt)

pub among_at : (ks : List ℕ) (i k : ℕ) → i < length ks → k ≡ get_or ks i 0 → Among ks k
among_at [] i k lt e = absurd (omega arith)
among_at (m ∷ ks) zero k lt e = inl (sym e)
among_at (m ∷ ks) (suc i) k lt e = inr (among_at ks i k (omega arith) e)

-- ---- the records of one copy after the other

pub some_if : {X : Type 0} (xs : List X) (b : Bool) → b ≡ (length xs == 0) → has_some xs ≡ not b
some_if [] b e = ap not (sym e)
some_if (x ∷ xs) b e = ap not (sym (e ∙ ne_eqb (suc (length xs)) 0 (λ z. omega (arith, z))))

more_of : {X : Type 0} (out more piece rest all whole : List X) → all ≡ piece ++ rest → out ++ all ≡ whole → more ≡ out ++ piece → more ++ rest ≡ whole
more_of out more piece rest all whole e h is = cc (append_assoc out piece rest)

module _ (B : List Body) (ks : List ℕ) (base i : ℕ) (inside : i < length ks) (known : get_or ks i 0 < length B) where
  abbrev next : ℕ
  next = get_or ks i 0

  abbrev here : Body
  here = get_or B next no_body

  abbrev rest : List ℕ
  rest = drop (i + 1) ks

  -- what is said of the functions from here on begins with what is said of this one
  here_next : {Y : Type 0} (f : List ℕ → Y) (g : FunctionContent → Y) → f (next ∷ rest) ≡ g (content_in B next) → f (drop i ks) ≡ g (body_content here)
  here_next f g same = ap f (next_is ks i next inside refl) ∙ same ∙ ap g (content_read B next no_body known)

  pub funcs_more : (out more whole : List bpf_func_info) → out ++ func_records (functions_by_number B []) base (drop i ks) ≡ whole → more ≡ out ++ map (func_moved base) here.func_info.now → more ++ func_records (functions_by_number B []) (base + length here.slots.now) rest ≡ whole
  funcs_more out more whole = more_of out more _ _ _ whole (here_next (func_records (functions_by_number B []) base) (λ c. map (func_moved base) c.func_info ++ func_records (functions_by_number B []) (base + length c.slots) rest) refl)

  pub lines_more : (out more whole : List bpf_line_info) → out ++ line_records (functions_by_number B []) base (drop i ks) ≡ whole → more ≡ out ++ map (line_moved (first_line here.line_info.now) base) here.line_info.now → more ++ line_records (functions_by_number B []) (base + length here.slots.now) rest ≡ whole
  lines_more out more whole = more_of out more _ _ _ whole (here_next (line_records (functions_by_number B []) base) (λ c. map (line_moved (first_line c.line_info) base) c.line_info ++ line_records (functions_by_number B []) (base + length c.slots) rest) refl)

  pub copies_more : (out more whole : List NumberedCopy) → out ++ map numbered_copy (copies_from (functions_by_number B []) base (drop i ks)) ≡ whole → more ≡ out ++ record { function = next; base = base; slots = length here.slots.now } ∷ [] → more ++ map numbered_copy (copies_from (functions_by_number B []) (base + length here.slots.now) rest) ≡ whole
  copies_more out more whole = more_of out more _ _ _ whole (here_next (λ us. map numbered_copy (copies_from (functions_by_number B []) base us)) (λ c. record { function = next; base = base; slots = length c.slots } ∷ map numbered_copy (copies_from (functions_by_number B []) (base + length c.slots) rest)) refl)

  pub references_more : (C : List (Vec Reference Global)) (bases : List ℕ) (cs : List Reference) → calls_at C next ≡ cs → (out more whole : List PlacedReference) → out ++ references_of_copies B C bases base (drop i ks) ≡ whole → more ≡ out ++ references_of_copy bases base here.slots.now cs → more ++ references_of_copies B C bases (base + length here.slots.now) rest ≡ whole
  references_more C bases cs calls out more whole h is =
      more_of out more _ _ _ whole (here_next (references_of_copies B C bases base) (λ c. references_of_copy bases base c.slots (calls_at C next) ++ references_of_copies B C bases (base + length c.slots) rest) refl) h
      (is ∙ ap (λ (u : List Reference). out ++ references_of_copy bases base here.slots.now u) (sym calls))

  pub fit_more : Fit B base (drop i ks) → Fit B (base + length here.slots.now) rest
  fit_more h = subst (λ (c : FunctionContent). Fit B (base + length c.slots) rest) (content_read B next no_body known) (fit_next B ks base i next h inside refl).1

  can_here : Fit B base (drop i ks) → (base + length here.slots.now ≤ 2147483647) × (has_stray base here.line_info.now ≡ false)
  can_here h = subst (λ (c : FunctionContent). (base + length c.slots ≤ 2147483647) × (has_stray base c.line_info ≡ false)) (content_read B next no_body known) (can_have (content_in B next) base _ _ (fit_next B ks base i next h inside refl).0)

  pub room_more : Fit B base (drop i ks) → base + length here.slots.now ≤ 2147483647
  room_more h = (can_here h).0

  pub sound_more : Fit B base (drop i ks) → has_stray base here.line_info.now ≡ false
  sound_more h = (can_here h).1

  lines_next : has_lines (functions_by_number B []) (drop i ks) ≡ has_some here.line_info.now || has_lines (functions_by_number B []) rest
  lines_next = here_next (has_lines (functions_by_number B [])) (λ c. has_some c.line_info || has_lines (functions_by_number B []) rest) refl

  pub lines_here : (whole : Bool) → has_lines (functions_by_number B []) (drop i ks) ≡ whole → has_some here.line_info.now ≡ true → true ≡ whole
  lines_here whole h some = sym (rw some at lines_next) ∙ h

  pub lines_after : (whole : Bool) → has_lines (functions_by_number B []) (drop i ks) ≡ whole → has_some here.line_info.now ≡ false → has_lines (functions_by_number B []) rest ≡ whole
  lines_after whole h none = sym (rw none at lines_next) ∙ h

-- ---- line records that go along with a copy

-- a line record that isn't stray can be moved
pub not_stray : (first base : ℕ) (line : bpf_line_info) → is_stray first base line ≡ false → (first ≤ line.insn_off) × (line.insn_off - first + base < 2 ^ 32)
not_stray first base line e =
    let z = or_parts (nat_lt line.insn_off first) (nat_le (2 ^ 32) (line.insn_off - first + base)) e in
    (ltb-false line.insn_off first z.0, leb-false (2 ^ 32) (line.insn_off - first + base) z.1)

-- ---- the copies and the references of one function after the other

-- the references of one function

module _ (bases : List ℕ) (base : ℕ) (body : List bpf_insn) (cs : List Reference) (i : ℕ) (c : Reference) (inside : i < length cs) (here : c ≡ get_or cs i c) (out whole : List PlacedReference) (so_far : out ++ references_of_copy bases base body (drop i cs) ≡ whole) where
  next_call : out ++ with_linked_reference (linked_reference bases base body c) (references_of_copy bases base body (drop (i + 1) cs)) ≡ whole
  next_call = sym (ap (λ (u : List Reference). out ++ references_of_copy bases base body u) (rest_more cs i c inside here)) ∙ so_far

  -- a slot that refers
  pub reference_here : (r : PlacedReference) (more : List PlacedReference) → linked_reference bases base body c ≡ Some r → more ≡ out ++ r ∷ [] → more ++ references_of_copy bases base body (drop (i + 1) cs) ≡ whole
  reference_here r more is new =
      ap (λ (u : List PlacedReference). u ++ references_of_copy bases base body (drop (i + 1) cs)) new
      ∙ append_assoc out (r ∷ []) (references_of_copy bases base body (drop (i + 1) cs))
      ∙ ap (λ (o : Option PlacedReference). out ++ with_linked_reference o (references_of_copy bases base body (drop (i + 1) cs))) (sym is)
      ∙ next_call

  -- one that does not
  pub no_linked_reference : linked_reference bases base body c ≡ None → out ++ references_of_copy bases base body (drop (i + 1) cs) ≡ whole
  no_linked_reference is = ap (λ (o : Option PlacedReference). out ++ with_linked_reference o (references_of_copy bases base body (drop (i + 1) cs))) (sym is) ∙ next_call

-- the first function, whose copy begins at 0

module _ (B : List Body) where
  pub copies_first : (p : ℕ) (ks : List ℕ) (body : List bpf_insn) (none first : List NumberedCopy) → body_at B p ≡ body → none ≡ [] → first ≡ none ++ record { function = p; base = 0; slots = length body } ∷ [] → first ++ map numbered_copy (copies_from (functions_by_number B []) (length body) ks) ≡ map numbered_copy (copies_from (functions_by_number B []) 0 (p ∷ ks))
  copies_first p ks body none first is empty new =
      let zero_base : 0 + length (body_at B p) ≡ length (body_at B p) = omega arith in
      ap (λ (u : List NumberedCopy). u ++ map numbered_copy (copies_from (functions_by_number B []) (length body) ks)) (new ∙ ap (λ (u : List NumberedCopy). u ++ record { function = p; base = 0; slots = length body } ∷ []) empty)
      ∙ ap (λ (s : List bpf_insn). record { function = p; base = 0; slots = length s } ∷ map numbered_copy (copies_from (functions_by_number B []) (length s) ks)) (sym is)
      ∙ ap (λ (n : ℕ). record { function = p; base = 0; slots = length (body_at B p) } ∷ map numbered_copy (copies_from (functions_by_number B []) n ks)) (sym zero_base)

  pub references_first : (C : List (Vec Reference Global)) (bases : List ℕ) (p : ℕ) (ks : List ℕ) (body : List bpf_insn) (cs : List Reference) (none first : List PlacedReference) → body_at B p ≡ body → calls_at C p ≡ cs → none ≡ [] → first ≡ none ++ references_of_copy bases 0 body cs → first ++ references_of_copies B C bases (length body) ks ≡ references_of_copies B C bases 0 (p ∷ ks)
  references_first C bases p ks body cs none first is calls empty new =
      let zero_base : 0 + length (body_at B p) ≡ length (body_at B p) = omega arith in
      ap (λ (u : List PlacedReference). u ++ references_of_copies B C bases (length body) ks) (new ∙ ap (λ (u : List PlacedReference). u ++ references_of_copy bases 0 body cs) empty)
      ∙ ap (λ (s : List bpf_insn). references_of_copy bases 0 s cs ++ references_of_copies B C bases (length s) ks) (sym is)
      ∙ ap (λ (u : List Reference). references_of_copy bases 0 (body_at B p) u ++ references_of_copies B C bases (length (body_at B p)) ks) (sym calls)
      ∙ ap (λ (n : ℕ). references_of_copy bases 0 (body_at B p) (calls_at C p) ++ references_of_copies B C bases n ks) (sym zero_base)
