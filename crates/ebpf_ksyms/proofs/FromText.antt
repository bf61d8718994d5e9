-- Resolution with the lines of a text: the items that it gives are its lines, one by one.
use Rattle.std.proofs.Common.{◌≡◌, ℕ, Bool, true, false, cond, List, [], ◌∷◌, ◌++◌, map, Option, Some, None, Result, Ok, Err, refl, ap, sym, subst, ◌∙◌, append-nil, append_assoc, inl, inr}
use Rattle.std.specs.Prelude.{⊤, IfErr, IfOk, MatchBool, string_bytes}
use Rattle.std.specs.IoError.{error_kind}
use Rattle.std.specs.Iterator.{Yields}
use Rattle.std.specs.Str.{IsUtf8, is_utf8}
use Rattle.std.specs.Str.Lines.{lines}
use Rattle.std.specs.declared.alloc.Global.{Global}
use Rattle.std.specs.declared.io.Error.{Error}
use Rattle.std.specs.declared.io.ErrorKind.TheVariants.{InvalidData}
use Rattle.std.specs.declared.string.String.{String}
use Rattle.std.proofs.lemmas.List.{map-append}
use Rattle.std.proofs.lemmas.Str.{IsUtf8-from_is_utf8, IsUtf8-string_bytes, is_utf8-from_IsUtf8}
use Rattle.ebpf_base.specs.Faults.{first_some, or_else}
use Rattle.ebpf_base.proofs.Faults.{both_None}
use Rattle.ebpf_btf.specs.TypeInfo.{TypeInfo}
use Rattle.ebpf_ksyms.specs.declared.error.KsymsError.{KsymsError}
use Rattle.ebpf_ksyms.specs.declared.error.KsymsError.TheVariants.{KallsymsAccessError, OutOfMemory}
use Rattle.ebpf_ksyms.specs.Addresses.{Item, Line, line_fault, line_of_item, lines_fault, with_before, Counts, is_one_of, is_ksyms_memory, line_read_fault}
use Rattle.ebpf_ksyms.specs.Externs.{Externs, IsResolutionFault, IsResolved, lines_refused, names_read, names_refused, reads_lines, resolved_externs, types_refused}
use Rattle.ebpf_ksyms.specs.Sources.{GivesLine, Unread, lines_left, IsRefusedBy, IsResolvedBy, counted, kallsyms_text_fault, text_line, text_lines}
use Rattle.ebpf_ksyms.proofs.Pieces.{access_or_memory, given, last_call, match_after}
use Rattle.ebpf_ksyms.proofs.Reading.{lines_fault-push}

-- ---- one line

-- a line that is UTF-8, and one that is not
read_line : (text : String Global) (line : List ℕ) → string_bytes text ≡ line → (error : Error) → Ok (string_bytes text) ≡ text_line error line
read_line text line is error =
    ap (λ b. cond b (Ok (string_bytes text)) (Err (KallsymsAccessError error))) (sym (is_utf8-from_IsUtf8 (string_bytes text) (IsUtf8-string_bytes text)))
    ∙ ap (text_line error) is

bad_line : (line : List ℕ) (error : Error) → (IsUtf8 line → ⊥) → text_line error line ≡ Err (KallsymsAccessError error)
bad_line line error bad = by_test (is_utf8 line) refl
  where
    by_test : (b : Bool) → is_utf8 line ≡ b → cond b (Ok line) (Err (KallsymsAccessError error)) ≡ Err (KallsymsAccessError error)
    by_test true good = absurd (bad (IsUtf8-from_is_utf8 line good))
    by_test false is = refl

-- what refuses the first lines refuses all
fault_front : (wanted : List ℕ → Bool) (before front more : List Line) (e : KsymsError) → first_some (λ l. line_fault wanted l.0 l.1) (with_before before front) ≡ Some e → first_some (λ l. line_fault wanted l.0 l.1) (with_before before (front ++ more)) ≡ Some e
fault_front wanted before [] more e h = absurd (cc)
fault_front wanted before (line ∷ front) more e h = by_first (line_fault wanted before line) (fault_front wanted (before ++ line ∷ []) front more e) h
  where
    by_first : (o : Option KsymsError)
        → (first_some (λ l. line_fault wanted l.0 l.1) (with_before (before ++ line ∷ []) front) ≡ Some e → first_some (λ l. line_fault wanted l.0 l.1) (with_before (before ++ line ∷ []) (front ++ more)) ≡ Some e)
        → or_else o (first_some (λ l. line_fault wanted l.0 l.1) (with_before (before ++ line ∷ []) front)) ≡ Some e → or_else o (first_some (λ l. line_fault wanted l.0 l.1) (with_before (before ++ line ∷ []) (front ++ more))) ≡ Some e
    by_first None rest h = rest h
    by_first (Some x) rest h = h

lines_fault-front : (wanted : List ℕ → Bool) (front more : List Line) (e : KsymsError) → lines_fault wanted front ≡ Some e → lines_fault wanted (front ++ more) ≡ Some e
unfolding lines_fault
lines_fault-front wanted front more e h = fault_front wanted [] front more e h

-- ---- the items that came

-- where none is refused, they are the first lines that were left
record Came (items : List Item) (s t : Unread) : Type 0 where
  taken : List (List ℕ)
  left : lines_left s ≡ taken ++ lines_left t
  same : (error : Error) → map line_of_item items ≡ map (text_line error) taken
  error : t.error ≡ s.error

came : (wanted : List ℕ → Bool) (items : List Item) (s t : Unread) (before : List Line) → Yields GivesLine s items t → first_some (λ l. line_fault wanted l.0 l.1) (with_before before (map line_of_item items)) ≡ None → Came items s t
unfolding line_fault
came wanted [] s t before y none = record { taken = []; left = ap lines_left y; same = λ error. refl; error = ap (λ u. u.error) (sym y) }
came wanted (Err e ∷ items) s t before y none = absurd (some_none none)
  where
    some_none : Some (line_read_fault e) ≡ None → ⊥
    some_none h = cc
came wanted (Ok x ∷ items) s t before y none =
    let step : GivesLine s (Some (Ok x)) y.0 = y.1 in
    let rest : Came items y.0 t = came wanted items y.0 t (before ++ Ok (string_bytes x) ∷ []) y.2 (both_None (line_fault wanted before (Ok (string_bytes x))) (first_some (λ l. line_fault wanted l.0 l.1) (with_before (before ++ Ok (string_bytes x) ∷ []) (map line_of_item items))) none).1 in
    record {
      taken = step.0 ∷ rest.taken;
      left = step.1 ∙ ap (λ ls. step.0 ∷ ls) rest.left;
      same = λ error. (λ i. read_line x step.0 step.2 error i ∷ rest.same error i);
      error = rest.error ∙ step.3;
    }

came_all : (wanted : List ℕ → Bool) (items : List Item) (s t : Unread) → Yields GivesLine s items t → lines_fault wanted (map line_of_item items) ≡ None → Came items s t
unfolding lines_fault
came_all wanted items s t y none = came wanted items s t [] y none

-- the items that count are the lines that count
counted_lines : (wanted : List ℕ → Bool) (b : Bool) (items : List Item) (s : Unread) → Counts GivesLine s b items → lines_fault wanted (map line_of_item items) ≡ None → (error : Error) → map line_of_item items ≡ counted error s.text b
counted_lines wanted true items s h none error =
    let c : Came items s h.1.0 = came_all wanted items s h.1.0 h.1.1 none in
    c.same error ∙ ap (map (text_line error)) (sym (append-nil c.taken) ∙ ap (λ ls. c.taken ++ ls) (sym h.1.2) ∙ sym c.left)
counted_lines wanted false items s h none error = ap (map line_of_item) h

-- ---- answers

module _ (s : Unread) (local kernel : Option TypeInfo) (externs : Externs) where
  -- the fault of lines, given that of externs with types
  after_types : (lines : List Line) → types_refused local kernel externs ≡ None → or_else (types_refused local kernel externs) (or_else (lines_refused local externs lines) (names_refused local externs lines)) ≡ or_else (lines_refused local externs lines) (names_refused local externs lines)
  after_types lines types = ap (λ o. or_else o (or_else (lines_refused local externs lines) (names_refused local externs lines))) types

  pub resolved_by : (after : Externs) → IsResolved GivesLine s local kernel externs after → IsResolvedBy s.text local kernel externs after
  resolved_by after h =
      let same : (error : Error) → map line_of_item h.items ≡ text_lines s.text local kernel externs error = counted_lines (is_one_of (names_read local externs)) (reads_lines local externs) h.items s h.counted h.read in
      record {
        sound = λ error.
            ap (λ ls. or_else (types_refused local kernel externs) (or_else (lines_refused local externs ls) (names_refused local externs ls))) (sym (same error))
            ∙ after_types (map line_of_item h.items) h.types
            ∙ ap (λ o. or_else o (names_refused local externs (map line_of_item h.items))) h.read
            ∙ h.names;
        stands = λ error. h.stands ∙ ap (λ ls. resolved_externs local kernel ls externs) (same error);
      }

  -- a line that is refused, behind others that are not
  at_line : (e : KsymsError) (items : List Item) (item : Item) (t u : Unread) → reads_lines local externs ≡ true → types_refused local kernel externs ≡ None → (c : Came items s t) → (step : GivesLine t (Some item) u) → line_of_item item ≡ text_line s.error step.0 → lines_refused local externs (map line_of_item (items ++ item ∷ [])) ≡ Some e → kallsyms_text_fault s.text local kernel externs s.error ≡ Some e
  at_line e items item t u reads types c step is refused =
      let here : map line_of_item (items ++ item ∷ []) ≡ map (text_line s.error) (c.taken ++ step.0 ∷ []) =
      map-append line_of_item items (item ∷ []) ∙ (λ i. c.same s.error i ++ is i ∷ []) ∙ sym (map-append (text_line s.error) c.taken (step.0 ∷ [])) in
      let all : text_lines s.text local kernel externs s.error ≡ map line_of_item (items ++ item ∷ []) ++ map (text_line s.error) (lines_left u) =
      ap (counted s.error s.text) reads
      ∙ ap (map (text_line s.error)) (c.left ∙ ap (λ ls. c.taken ++ ls) step.1 ∙ sym (append_assoc c.taken (step.0 ∷ []) (lines_left u)))
      ∙ map-append (text_line s.error) (c.taken ++ step.0 ∷ []) (lines_left u)
      ∙ ap (λ ls. ls ++ map (text_line s.error) (lines_left u)) (sym here) in
      after_types (text_lines s.text local kernel externs s.error) types
      ∙ ap (λ o. or_else o (names_refused local externs (text_lines s.text local kernel externs s.error)))
      (ap (lines_refused local externs) all ∙ lines_fault-front (is_one_of (names_read local externs)) (map line_of_item (items ++ item ∷ [])) (map (text_line s.error) (lines_left u)) e refused)

  -- an item that is an error: out of memory, or a line that is not UTF-8
  at_error : (e : KsymsError) (items : List Item) (err : Error) (t u : Unread) → error_kind s.error ≡ InvalidData → reads_lines local externs ≡ true → types_refused local kernel externs ≡ None → Came items s t → GivesLine t (Some (Err err)) u → lines_refused local externs (map line_of_item items) ≡ None → lines_refused local externs (map line_of_item (items ++ Err err ∷ [])) ≡ Some e → MatchBool (is_ksyms_memory e) ⊤ (IsRefusedBy s.text local kernel externs e)
  unfolding line_fault
  at_error e items err t u kind reads types c step before refused =
      let one : lines_refused local externs (map line_of_item (items ++ Err err ∷ [])) ≡ Some (line_read_fault err) =
      ap (lines_fault (is_one_of (names_read local externs))) (map-append line_of_item items (Err err ∷ []))
      ∙ lines_fault-push (is_one_of (names_read local externs)) (map line_of_item items) (Err (line_read_fault err))
      ∙ ap (λ o. or_else o (Some (line_read_fault err))) before in
      let same : Some (line_read_fault err) ≡ Some e = sym one ∙ refused in
      access_or_memory (IsRefusedBy s.text local kernel externs) err e
      (λ other.
      let bad : (err ≡ t.error) × (IsUtf8 step.0 → ⊥) = subst (λ b. MatchBool b ⊤ ((err ≡ t.error) × (IsUtf8 step.0 → ⊥))) other step.2 in
      let access : line_read_fault err ≡ KallsymsAccessError err = ap (λ b. cond b OutOfMemory (KallsymsAccessError err)) other in
      record {
        error = s.error;
        kind = kind;
        fault = at_line (KallsymsAccessError err) items (Err err) t u reads types c step
            (ap Err (access ∙ ap KallsymsAccessError (bad.0 ∙ c.error)) ∙ sym (bad_line step.0 s.error bad.1))
            (one ∙ ap Some access);
      }) (cc)

  at_item : (e : KsymsError) (items : List Item) (item : Item) (t u : Unread) → error_kind s.error ≡ InvalidData → reads_lines local externs ≡ true → types_refused local kernel externs ≡ None → Came items s t → GivesLine t (Some item) u → lines_refused local externs (map line_of_item items) ≡ None → lines_refused local externs (map line_of_item (items ++ item ∷ [])) ≡ Some e → MatchBool (is_ksyms_memory e) ⊤ (IsRefusedBy s.text local kernel externs e)
  at_item e items (Ok x) t u kind reads types c step before refused =
      given (is_ksyms_memory e) (record {
        error = s.error;
        kind = kind;
        fault = at_line e items (Ok x) t u reads types c step (read_line x step.0 step.2 s.error) refused;
      })
  at_item e items (Err err) t u kind reads types c step before refused = at_error e items err t u kind reads types c step before refused

  pub refused_by : error_kind s.error ≡ InvalidData → (e : KsymsError) → IsResolutionFault GivesLine s local kernel externs e → MatchBool (is_ksyms_memory e) ⊤ (IsRefusedBy s.text local kernel externs e)
  refused_by kind e (inl types) =
      given (is_ksyms_memory e) (record {
        error = s.error;
        kind = kind;
        fault = ap (λ o. or_else o (or_else (lines_refused local externs (text_lines s.text local kernel externs s.error)) (names_refused local externs (text_lines s.text local kernel externs s.error)))) types;
      })
  refused_by kind e (inr (inl h)) =
      let r = last_call GivesLine h.items h.item s h.rest h.came in
      at_item e h.items h.item r.0 h.rest kind h.wanted h.types (came_all (is_one_of (names_read local externs)) h.items s r.0 r.1 h.before) r.2 h.before h.refused
  refused_by kind e (inr (inr h)) =
      let same : map line_of_item h.items ≡ text_lines s.text local kernel externs s.error = counted_lines (is_one_of (names_read local externs)) (reads_lines local externs) h.items s h.counted h.read s.error in
      given (is_ksyms_memory e) (record {
        error = s.error;
        kind = kind;
        fault = ap (λ ls. or_else (types_refused local kernel externs) (or_else (lines_refused local externs ls) (names_refused local externs ls))) (sym same)
            ∙ after_types (map line_of_item h.items) h.types
            ∙ ap (λ o. or_else o (names_refused local externs (map line_of_item h.items))) h.read
            ∙ h.refused;
      })

-- the same of an answer
pub all_resolved : {E : Type 0} (s : Unread) (local kernel : Option TypeInfo) (externs : Externs) (r : Result Externs E) → IfOk r (λ after. IsResolved GivesLine s local kernel externs after) → IfOk r (λ after. IsResolvedBy s.text local kernel externs after)
all_resolved s local kernel externs (Err e) h = tt
all_resolved s local kernel externs (Ok after) h = resolved_by s local kernel externs after h

pub all_refused : {X : Type 0} (s : Unread) → error_kind s.error ≡ InvalidData → (local kernel : Option TypeInfo) (externs : Externs) (r : Result X KsymsError) → IfErr r (λ e. MatchBool (is_ksyms_memory e) ⊤ (IsResolutionFault GivesLine s local kernel externs e)) → IfErr r (λ e. MatchBool (is_ksyms_memory e) ⊤ (IsRefusedBy s.text local kernel externs e))
all_refused s kind local kernel externs (Ok x) h = tt
all_refused s kind local kernel externs (Err e) h = match_after (IsRefusedBy s.text local kernel externs e) (is_ksyms_memory e) (refused_by s local kernel externs kind e) h
