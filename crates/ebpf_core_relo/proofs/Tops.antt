-- The first span that holds an offset, found by the greatest end up to each span.
use Rattle.std.proofs.Common.{◌≡◌, ℕ, zero, suc, ◌/◌, ◌<◌, ◌≤◌, Bool, true, false, ◌&&◌, List, [], ◌∷◌, ◌++◌, length, get_or, max, Some, None, refl, sym, ap, subst, ◌∙◌, arith, ltb, leb, inl, inr, append_assoc, map, append-nil, cond, Option, eqb, if◌then◌else◌}
use Rattle.std.proofs.Math.Bool.{and-true}
use Rattle.std.specs.Prelude.{slice_get, nat_eq}
use Rattle.std.proofs.Math.Nat.{le-max_left, le-max_right, max-le}
use Rattle.std.specs.List.Sorted.{IsPartitionPoint, IsPartitionedBy}
use Rattle.std.proofs.lemmas.Bool.{leb-true, leb-false, lt-leb, le-leb, lt-ltb, le-ltb, cases_lt, and_left, and_right, and_parts, eqb-true}
use Rattle.ebpf_core_relo.specs.declared.spans.Span.{Span}
use Rattle.ebpf_core_relo.specs.Spans.{span_holds, span_at, IsTopped, last_start, last_top, rises, tops, all_spans, entries_of_section, span_of, spans_among, spans_of}
use Rattle.ebpf_core_relo.specs.PrivateContracts.{if_begun, first_at, with_span, spans_or_none}
use Rattle.std.specs.Option.{option_or}
use Rattle.std.proofs.lemmas.List.Folds.{find-append}
use Rattle.std.specs.FinMap.{FinMap, empty, entries, get, get-empty, get-insert, insert}
use Rattle.std.specs.Cmp.{nat_cmp_total}
use Rattle.std.specs.Ordering.{eq_by_cmp, nat_cmp}
use Rattle.std.proofs.lemmas.Bool.Decides.{eqb_tells}
use Rattle.ebpf_base.proofs.SameMaps.{number_agrees}
use Rattle.ebpf_base.specs.Maps.{key_cmp}
use Rattle.ebpf_model.specs.declared.function.Function.{Function}

passed : (offset : ℕ) (s : Span) (ss : List Span) → span_holds offset s ≡ false → span_at offset (s ∷ ss) ≡ span_at offset ss
passed offset s ss misses = rw misses refl

-- spans that begin behind the offset
none_past : (offset place : ℕ) (spans : List Span) → offset < place → rises place spans ≡ true → span_at offset spans ≡ None
none_past offset place [] lt rising = refl
none_past offset place (s ∷ ss) lt rising =
    let begins = leb-true place s.start (and_parts (leb place s.start) (rises s.start ss) rising).0 in
    passed offset s ss (and_left (leb s.start offset) (ltb (offset / 8) s.end) (lt-leb s.start offset (omega arith)))
    ∙ none_past offset s.start ss (omega arith) (and_parts (leb place s.start) (rises s.start ss) rising).1

past_max : (x m e : ℕ) → m ≤ x → x < max m e → x < e
past_max x m e le lt = elim (cases_lt x e) [
  | inl is ↦ is
  | inr above ↦ let most = max-le {a = m} {b = e} {k = x} le above in omega arith
]

here_begun : (offset place : ℕ) (s : Span) (ss : List Span) → offset / 8 < s.end → leb s.start offset ≡ true → span_at offset (s ∷ ss) ≡ if_begun offset (Some s)
here_begun offset place s ss lt begun = rw (begun, lt-ltb (offset / 8) s.end lt) refl

here_later : (offset place : ℕ) (s : Span) (ss : List Span) → rises place (s ∷ ss) ≡ true → leb s.start offset ≡ false → span_at offset (s ∷ ss) ≡ if_begun offset (Some s)
here_later offset place s ss rising later =
    rw later (none_past offset s.start ss (leb-false s.start offset later) (and_parts (leb place s.start) (rises s.start ss) rising).1)

-- the span at which the greatest end first passes the offset
here : (offset place : ℕ) (s : Span) (ss : List Span) → rises place (s ∷ ss) ≡ true → offset / 8 < s.end → span_at offset (s ∷ ss) ≡ if_begun offset (Some s)
here offset place s ss rising lt =
    elim (leb s.start offset) as (λ b. leb s.start offset ≡ b → span_at offset (s ∷ ss) ≡ if_begun offset (Some s)) [
      | true ↦ λ begun. here_begun offset place s ss lt begun
      | false ↦ λ later. here_later offset place s ss rising later
    ] refl

-- no end before it passes the offset, and its own does
pub found : (offset place top : ℕ) (spans : List Span) (i : ℕ) → top ≤ offset / 8 → rises place spans ≡ true
    → ((j : ℕ) → j < i → get_or (tops top spans) j 0 ≤ offset / 8)
    → (i < length spans → offset / 8 < get_or (tops top spans) i 0)
    → span_at offset spans ≡ if_begun offset (slice_get spans i)
found offset place top [] i le rising before at = refl
found offset place top (s ∷ ss) zero le rising before at =
    here offset place s ss rising (past_max (offset / 8) top s.end le (at (omega arith)))
found offset place top (s ∷ ss) (suc i) le rising before at =
    let own : max top s.end ≤ offset / 8 = before 0 (omega arith) in
    passed offset s ss (and_right (leb s.start offset) (ltb (offset / 8) s.end) (le-ltb (offset / 8) s.end (let end = le-max_right top s.end in omega arith)))
    ∙ found offset s.start (max top s.end) ss i own (and_parts (leb place s.start) (rises s.start ss) rising).1
    (λ j lt. before (suc j) (omega arith))
    (λ lt. at (omega arith))

-- the greatest ends never fall
tops_from : (top : ℕ) (spans : List Span) (j d : ℕ) → j < length spans → top ≤ get_or (tops top spans) j d
tops_from top [] j d lt = absurd (omega arith)
tops_from top (s ∷ ss) zero d lt = le-max_left top s.end
tops_from top (s ∷ ss) (suc j) d lt =
    let here_up = le-max_left top s.end in
    let later = tops_from (max top s.end) ss j d (omega arith) in
    omega arith

length_tops : (top : ℕ) (spans : List Span) → length (tops top spans) ≡ length spans
length_tops top [] = refl
length_tops top (s ∷ ss) = ap suc (length_tops (max top s.end) ss)

rising_tops : (top : ℕ) (spans : List Span) (i j d : ℕ) → i ≤ j → j < length spans → get_or (tops top spans) i d ≤ get_or (tops top spans) j d
rising_tops top [] i j d le lt = absurd (omega arith)
rising_tops top (s ∷ ss) zero zero d le lt = omega arith
rising_tops top (s ∷ ss) zero (suc j) d le lt = tops_from (max top s.end) ss j d (omega arith)
rising_tops top (s ∷ ss) (suc i) zero d le lt = absurd (omega arith)
rising_tops top (s ∷ ss) (suc i) (suc j) d le lt = rising_tops (max top s.end) ss i j d (omega arith) (omega arith)

-- so those that are not past a number come first
pub parted : (top : ℕ) (spans : List Span) (x : ℕ) → IsPartitionedBy (λ end. leb end x) (tops top spans)
parted top spans x i j d le lt h =
    let inside : j < length spans = subst (λ n. j < n) (length_tops top spans) lt in
    let rising = rising_tops top spans i j d le inside in
    let below = leb-true (get_or (tops top spans) j d) x h in
    le-leb (get_or (tops top spans) i d) x (omega arith)

-- the span at the number of ends that are not past the slot
pub found_by : (offset : ℕ) (spans : List Span) (ends : List ℕ) (i : ℕ) → ends ≡ tops 0 spans → rises 0 spans ≡ true
    → IsPartitionPoint (λ end. leb end (offset / 8) ≡ true) (λ end. leb end (offset / 8) ≡ false) ends i
    → if_begun offset (slice_get spans i) ≡ span_at offset spans
found_by offset spans ends i is rising at =
    let parts = subst (λ (es : List ℕ). IsPartitionPoint (λ end. leb end (offset / 8) ≡ true) (λ end. leb end (offset / 8) ≡ false) es i) is at in
    sym (found offset 0 0 spans i (omega arith) rising
    (λ j lt. leb-true (get_or (tops 0 spans) j 0) (offset / 8) (parts.0 j 0 (omega arith) lt))
    (λ lt. leb-false (get_or (tops 0 spans) i 0) (offset / 8) (parts.1 i 0 (omega arith) (subst (λ n. i < n) (sym (length_tops 0 spans)) lt))))

-- ---- one more span

tops_more : (top : ℕ) (spans : List Span) (s : Span) → tops top (spans ++ s ∷ []) ≡ tops top spans ++ max (last_top top spans) s.end ∷ []
tops_more top [] s = refl
tops_more top (x ∷ spans) s = ap (λ es. max top x.end ∷ es) (tops_more (max top x.end) spans s)

last_top_more : (top : ℕ) (spans : List Span) (s : Span) → last_top top (spans ++ s ∷ []) ≡ max (last_top top spans) s.end
last_top_more top [] s = refl
last_top_more top (x ∷ spans) s = last_top_more (max top x.end) spans s

last_start_more : (place : ℕ) (spans : List Span) (s : Span) → last_start place (spans ++ s ∷ []) ≡ s.start
last_start_more place [] s = refl
last_start_more place (x ∷ spans) s = last_start_more x.start spans s

and_assoc : (a b c : Bool) → (a && (b && c)) ≡ ((a && b) && c)
and_assoc true b c = refl
and_assoc false b c = refl

rises_more : (place : ℕ) (spans : List Span) (s : Span) → rises place (spans ++ s ∷ []) ≡ (rises place spans && leb (last_start place spans) s.start)
rises_more place [] s = and-true (leb place s.start)
rises_more place (x ∷ spans) s =
    ap (λ b. leb place x.start && b) (rises_more x.start spans s) ∙ and_assoc (leb place x.start) (rises x.start spans) (leb (last_start x.start spans) s.start)

topped_more : (spans : List Span) (ends : List ℕ) (top start : ℕ) (s : Span) → IsTopped spans ends top start → start ≤ s.start
    → IsTopped (spans ++ s ∷ []) (ends ++ max top s.end ∷ []) (max top s.end) s.start
topped_more spans ends top start s h later = record {
  ends_are = ap (λ es. es ++ max top s.end ∷ []) h.ends_are ∙ ap (λ t. tops 0 spans ++ max t s.end ∷ []) h.top_is ∙ sym (tops_more 0 spans s);
  top_is = ap (λ t. max t s.end) h.top_is ∙ sym (last_top_more 0 spans s);
  start_is = sym (last_start_more 0 spans s);
  rising_is = rises_more 0 spans s ∙ ap (λ b. b && leb (last_start 0 spans) s.start) h.rising_is ∙ ap (λ p. leb p s.start) (sym h.start_is) ∙ le-leb start s.start later;
}

pub topped_by : (spans : List Span) (ends : List ℕ) (top start : ℕ) (s : Span) (spans' : List Span) (kept ends' : List ℕ) (top' : ℕ)
    → IsTopped spans ends top start → last_start 0 spans ≤ s.start → spans' ≡ spans ++ s ∷ [] → kept ≡ ends → ends' ≡ kept ++ top' ∷ [] → top' ≡ max top s.end
    → IsTopped spans' ends' top' s.start
topped_by spans ends top start s spans' kept ends' top' h later a b c d =
    let after : start ≤ s.start = subst (λ n. n ≤ s.start) (sym h.start_is) later in
    let more = topped_more spans ends top start s h after in
    record {
      ends_are = c ∙ ap (λ es. es ++ top' ∷ []) b ∙ ap (λ t. ends ++ t ∷ []) d ∙ more.ends_are ∙ sym (ap (tops 0) a);
      top_is = d ∙ more.top_is ∙ sym (ap (last_top 0) a);
      start_is = more.start_is ∙ sym (ap (last_start 0) a);
      rising_is = ap (rises 0) a ∙ more.rising_is;
    }

-- ---- lists of spans one behind the other

-- the first that holds an offset, list by list, is the first of all
pub first_of_all : (offset : ℕ) (runs : List (List Span)) (last : List Span) → first_at offset runs last ≡ span_at offset (all_spans runs last)
first_of_all offset [] last = refl
first_of_all offset (run ∷ runs) last =
    ap (option_or (span_at offset run)) (first_of_all offset runs last) ∙ sym (find-append (span_holds offset) run (all_spans runs last))

-- one more span, behind the last list and in a list of its own
pub behind_last : (runs : List (List Span)) (last : List Span) (s : Span) → all_spans runs (last ++ s ∷ []) ≡ all_spans runs last ++ s ∷ []
behind_last [] last s = refl
behind_last (run ∷ runs) last s = ap (λ more. run ++ more) (behind_last runs last s) ∙ sym (append_assoc run (all_spans runs last) (s ∷ []))

pub on_its_own : (runs : List (List Span)) (last : List Span) (s : Span) → all_spans (runs ++ last ∷ []) (s ∷ []) ≡ all_spans runs last ++ s ∷ []
on_its_own [] last s = refl
on_its_own (run ∷ runs) last s = ap (λ more. run ++ more) (on_its_own runs last s) ∙ sym (append_assoc run (all_spans runs last) (s ∷ []))

-- ---- one more function in the group of its section

by_case : (b : Bool) (group own : List Span) (e : (ℕ × ℕ) × Function) (rest : List ((ℕ × ℕ) × Function)) → (b ≡ true → own ≡ group)
    → spans_or_none (cond b (Some (own ++ span_of e ∷ [])) (Some group)) ++ map span_of rest ≡ group ++ map span_of (if b then e ∷ rest else rest)
by_case true group own e rest same = ap (λ g. (g ++ span_of e ∷ []) ++ map span_of rest) (same refl) ∙ append_assoc group (span_of e ∷ []) (map span_of rest)
by_case false group own e rest same = refl

listed_cond : (b : Bool) (v : List Span) (o : Option (List Span)) → spans_or_none (cond b (Some v) o) ≡ spans_or_none (cond b (Some v) (Some (spans_or_none o)))
listed_cond true v o = refl
listed_cond false v o = refl

eqb_sym : (a b : ℕ) → eqb a b ≡ eqb b a
eqb_sym a b = grind (arith, eqb_tells a b, eqb_tells b a)

eq_by_number : (q n : ℕ) → eq_by_cmp nat_cmp q n ≡ nat_eq n q
eq_by_number q n = sym (number_agrees q n) ∙ eqb_sym q n

one_more : (m : FinMap nat_cmp (List Span)) (e : (ℕ × ℕ) × Function) (rest : List ((ℕ × ℕ) × Function)) (q : ℕ)
    → spans_or_none (get (insert m e.0.0 (spans_or_none (get m e.0.0) ++ span_of e ∷ [])) q) ++ spans_among q rest ≡ spans_or_none (get m q) ++ spans_among q (e ∷ rest)
one_more m e rest q =
    ap (λ o. spans_or_none o ++ spans_among q rest) (get-insert nat_cmp_total m e.0.0 (spans_or_none (get m e.0.0) ++ span_of e ∷ []) q)
    ∙ ap (λ g. g ++ spans_among q rest) (listed_cond (eq_by_cmp nat_cmp q e.0.0) (spans_or_none (get m e.0.0) ++ span_of e ∷ []) (get m q))
    ∙ ap (λ b. spans_or_none (cond b (Some (spans_or_none (get m e.0.0) ++ span_of e ∷ [])) (Some (spans_or_none (get m q)))) ++ spans_among q rest) (eq_by_number q e.0.0)
    ∙ by_case (nat_eq e.0.0 q) (spans_or_none (get m q)) (spans_or_none (get m e.0.0)) e (entries_of_section q rest) (λ h. ap (λ n. spans_or_none (get m n)) (eqb-true e.0.0 q h))

added_by : (m : FinMap nat_cmp (List Span)) (n : ℕ) (s : Span) (o : Option (List Span)) → with_span m n s o ≡ insert m n (spans_or_none o ++ s ∷ [])
added_by m n s None = refl
added_by m n s (Some spans) = refl

-- the spans so far, with one more put behind those of its section
pub span_more : (m : FinMap nat_cmp (List Span)) (e : (ℕ × ℕ) × Function) (rest : List ((ℕ × ℕ) × Function)) (q : ℕ)
    → spans_or_none (get (with_span m e.0.0 (span_of e) (get m e.0.0)) q) ++ spans_among q rest ≡ spans_or_none (get m q) ++ spans_among q (e ∷ rest)
span_more m e rest q = ap (λ n. spans_or_none (get n q) ++ spans_among q rest) (added_by m e.0.0 (span_of e) (get m e.0.0)) ∙ one_more m e rest q

-- none yet
pub span_none : (functions : FinMap key_cmp Function) (q : ℕ) → spans_or_none (get (empty {R = nat_cmp}) q) ++ spans_among q (entries functions) ≡ spans_of functions q
span_none functions q = ap (λ o. spans_or_none o ++ spans_among q (entries functions)) (get-empty nat_cmp q)

pub span_all : (group : List Span) (q : ℕ) → group ++ spans_among q [] ≡ group
span_all group q = append-nil group
