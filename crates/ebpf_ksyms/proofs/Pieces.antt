-- The lines that a reader gives, by its bytes where they are known.
use Rattle.std.proofs.Common.{◌≡◌, ℕ, ◌<◌, Bool, true, false, cond, List, [], ◌∷◌, ◌++◌, map, length, Option, Some, None, Result, Ok, Err, refl, ap, sym, subst, ◌∙◌, inl, inr}
use Rattle.std.specs.Prelude.{⊤, IfErr, IfOk, MatchBool, string_bytes}
use Rattle.std.specs.Io.BufRead.{drop_through, first_line}
use Rattle.std.specs.Io.Iter.{YieldsKnownPiece}
use Rattle.std.specs.IoError.{error_kind}
use Rattle.std.specs.Iterator.{Yields}
use Rattle.std.specs.Str.{IsUtf8}
use Rattle.std.specs.declared.alloc.Global.{Global}
use Rattle.std.specs.declared.io.Error.{Error}
use Rattle.std.specs.declared.string.String.{String}
use Rattle.std.proofs.lemmas.List.{map-append}
use Rattle.std.proofs.lemmas.Str.{IsUtf8-string_bytes}
use Rattle.ebpf_base.specs.Faults.{first_some, or_else}
use Rattle.ebpf_base.proofs.Faults.{both_None}
use Rattle.ebpf_btf.specs.TypeInfo.{TypeInfo}
use Rattle.ebpf_ksyms.specs.declared.error.KsymsError.{KsymsError}
use Rattle.ebpf_ksyms.specs.declared.error.KsymsError.TheVariants.{KallsymsAccessError, OutOfMemory}
use Rattle.ebpf_ksyms.specs.Addresses.{Item, Line, line_fault, line_of_item, lines_fault, with_before, Counts, is_one_of, is_ksyms_memory, is_memory_kind, line_read_fault}
use Rattle.ebpf_ksyms.specs.Externs.{Externs, IsResolutionFault, IsResolved, lines_refused, names_read, names_refused, reads_lines, resolved_externs, types_refused}
use Rattle.ebpf_ksyms.specs.Sources.{AreFirst, AreTexts, CameAll, CameFirst, CountsLines, IsRefusedIn, IsResolvedIn, StopsAtAccessIn, after_lines, read_lines}
use Rattle.ebpf_ksyms.proofs.Reading.{lines_fault-push, match_then}

-- one more line
first-push : (bytes : List ℕ) (lines : List (List ℕ)) (line : List ℕ) → AreFirst bytes lines → 0 < length (after_lines bytes lines) → line ≡ first_line (after_lines bytes lines) → AreFirst bytes (lines ++ line ∷ [])
first-push bytes [] line h long is = ((long, is), tt)
first-push bytes (l ∷ lines) line h long is = (h.0, first-push (drop_through 10 bytes) lines line h.1 long is)

texts-push : (lines : List (List ℕ)) (line : List ℕ) → AreTexts lines → IsUtf8 line → AreTexts (lines ++ line ∷ [])
texts-push [] line h is = (is, tt)
texts-push (l ∷ lines) line h is = (h.0, texts-push lines line h.1 is)

-- the last of some calls
pub last_call : {S A : Type 0} (steps : S → Option A → S → Type 0) (xs : List A) (x : A) (s u : S) → Yields steps s (xs ++ x ∷ []) u → (t : S) × Yields steps s xs t × steps t (Some x) u
last_call steps [] x s u y = (s, refl, subst (λ r. steps s (Some x) r) y.2 y.1)
last_call steps (z ∷ xs) x s u y = let r = last_call steps xs x y.0 u y.2 in (r.0, (y.0, y.1, r.1), r.2)

-- ---- out of memory aside

pub given : {P : Type 0} (b : Bool) → P → MatchBool b ⊤ P
given true p = tt
given false p = p

pub match_after : {P : Type 0} (Q : Type 0) (b : Bool) → (P → MatchBool b ⊤ Q) → MatchBool b ⊤ P → MatchBool b ⊤ Q
match_after Q true f h = tt
match_after Q false f h = f h

pub access_or_memory : (P : KsymsError → Type 0) (err : Error) (e : KsymsError) → (is_memory_kind (error_kind err) ≡ false → P (KallsymsAccessError err)) → line_read_fault err ≡ e → MatchBool (is_ksyms_memory e) ⊤ (P e)
access_or_memory P err e other is =
    subst (λ f. MatchBool (is_ksyms_memory f) ⊤ (P f)) is (
    elim (is_memory_kind (error_kind err)) as (λ b. is_memory_kind (error_kind err) ≡ b → MatchBool (is_ksyms_memory (cond b OutOfMemory (KallsymsAccessError err))) ⊤ (P (cond b OutOfMemory (KallsymsAccessError err)))) [ true ↦ λ k. tt | false ↦ λ k. other k ] refl)

-- ---- the items that came

module _ {S : Type 0} (known : S → Option (List ℕ)) (steps : S → Option Item → S → Type 0) (tells : (s : S) (r : Option Item) (t : S) → steps s r t → YieldsKnownPiece string_bytes first_line 10 (known s) r (known t)) where
  -- they are texts, the first lines of known bytes
  record Came (items : List Item) (s t : S) : Type 0 where
    lines : List (List ℕ)
    same : map line_of_item items ≡ read_lines lines
    texts : AreTexts lines
    first : (bytes : List ℕ) → known s ≡ Some bytes → AreFirst bytes lines × (known t ≡ Some (after_lines bytes lines))

  some_none : {P : Type 0} (e : KsymsError) → Some e ≡ None → P
  some_none e h = cc

  came : (wanted : List ℕ → Bool) (items : List Item) (s t : S) (before : List Line) → Yields steps s items t → first_some (λ e. line_fault wanted e.0 e.1) (with_before before (map line_of_item items)) ≡ None → Came items s t
  unfolding line_fault
  came wanted [] s t before y none = record { lines = []; same = refl; texts = tt; first = λ bytes is. (tt, ap known (sym y) ∙ is) }
  came wanted (Err e ∷ items) s t before y none = some_none (line_read_fault e) none
  came wanted (Ok x ∷ items) s t before y none =
      let rest : Came items y.0 t = came wanted items y.0 t (before ++ Ok (string_bytes x) ∷ []) y.2 (both_None (line_fault wanted before (Ok (string_bytes x))) (first_some (λ e. line_fault wanted e.0 e.1) (with_before (before ++ Ok (string_bytes x) ∷ []) (map line_of_item items))) none).1 in
      record {
        lines = string_bytes x ∷ rest.lines;
        same = ap (λ ls. Ok (string_bytes x) ∷ ls) rest.same;
        texts = (IsUtf8-string_bytes x, rest.texts);
        first = λ bytes is.
            let piece : ((0 < length bytes) × (string_bytes x ≡ first_line bytes)) × (known y.0 ≡ Some (drop_through 10 bytes)) = rw is at (tells s (Some (Ok x)) y.0 y.1) in
            let more : AreFirst (drop_through 10 bytes) rest.lines × (known t ≡ Some (after_lines (drop_through 10 bytes) rest.lines)) = rest.first (drop_through 10 bytes) piece.1 in
            ((piece.0, more.0), more.1);
      }

  came_all : (wanted : List ℕ → Bool) (items : List Item) (s t : S) → Yields steps s items t → lines_fault wanted (map line_of_item items) ≡ None → Came items s t
  unfolding lines_fault
  came_all wanted items s t y none = came wanted items s t [] y none

  at_end : (t u : S) (bytes : List ℕ) → known t ≡ Some bytes → steps t None u → bytes ≡ []
  at_end t u bytes is step = rw is at (tells t None u step)

  -- the first lines, one more, and all of them
  came_first : (items : List Item) (s t : S) (o : Option (List ℕ)) → known s ≡ o → (c : Came items s t) → CameFirst o c.lines
  came_first items s t None is c = (c.texts, tt)
  came_first items s t (Some bytes) is c = (c.texts, (c.first bytes is).0)

  came_more : (items : List Item) (s t u : S) (o : Option (List ℕ)) → known s ≡ o → (c : Came items s t) → (x : String Global) → steps t (Some (Ok x)) u → CameFirst o (c.lines ++ string_bytes x ∷ [])
  came_more items s t u None is c x step = (texts-push c.lines (string_bytes x) c.texts (IsUtf8-string_bytes x), tt)
  came_more items s t u (Some bytes) is c x step =
      let first : AreFirst bytes c.lines × (known t ≡ Some (after_lines bytes c.lines)) = c.first bytes is in
      let piece : ((0 < length (after_lines bytes c.lines)) × (string_bytes x ≡ first_line (after_lines bytes c.lines))) × (known u ≡ Some (drop_through 10 (after_lines bytes c.lines))) = rw first.1 at (tells t (Some (Ok x)) u step) in
      (texts-push c.lines (string_bytes x) c.texts (IsUtf8-string_bytes x), first-push bytes c.lines (string_bytes x) first.0 piece.0.0 piece.0.1)

  came_whole : (items : List Item) (s t u : S) (o : Option (List ℕ)) → known s ≡ o → (c : Came items s t) → steps t None u → CameAll o c.lines
  came_whole items s t u None is c step = (c.texts, tt)
  came_whole items s t u (Some bytes) is c step =
      let first : AreFirst bytes c.lines × (known t ≡ Some (after_lines bytes c.lines)) = c.first bytes is in
      (c.texts, (first.0, at_end t u (after_lines bytes c.lines) first.1 step))

  -- the lines that count, of the items that do
  counted : (wanted : List ℕ → Bool) (b : Bool) (items : List Item) (s : S) (o : Option (List ℕ)) → known s ≡ o → Counts steps s b items → lines_fault wanted (map line_of_item items) ≡ None → (lines : List (List ℕ)) × (map line_of_item items ≡ read_lines lines) × CountsLines b o lines
  counted wanted true items s o is h none =
      let c : Came items s h.1.0 = came_all wanted items s h.1.0 h.1.1 none in
      (c.lines, c.same, came_whole items s h.1.0 h.0 o is c h.1.2)
  counted wanted false items s o is h none = ([], ap (map line_of_item) h, refl)

  module _ (s : S) (o : Option (List ℕ)) (is : known s ≡ o) (local kernel : Option TypeInfo) (externs : Externs) where
    pub resolved_in : (after : Externs) → IsResolved steps s local kernel externs after → IsResolvedIn o local kernel externs after
    resolved_in after h =
        let c = counted (is_one_of (names_read local externs)) (reads_lines local externs) h.items s o is h.counted h.read in
        record {
          lines = c.0;
          counted = c.2;
          types = h.types;
          read = subst (λ ls. lines_refused local externs ls ≡ None) c.1 h.read;
          names = subst (λ ls. names_refused local externs ls ≡ None) c.1 h.names;
          stands = h.stands ∙ ap (λ ls. resolved_externs local kernel ls externs) c.1;
        }

    at_line : (e : KsymsError) (items : List Item) (item : Item) (t u : S) → reads_lines local externs ≡ true → types_refused local kernel externs ≡ None → Came items s t → steps t (Some item) u → lines_refused local externs (map line_of_item items) ≡ None → lines_refused local externs (map line_of_item (items ++ item ∷ [])) ≡ Some e → MatchBool (is_ksyms_memory e) ⊤ (IsRefusedIn o local kernel externs e)
    unfolding line_fault
    at_line e items (Ok x) t u wanted types c step before refused =
        let same : map line_of_item (items ++ Ok x ∷ []) ≡ read_lines (c.lines ++ string_bytes x ∷ []) = map-append line_of_item items (Ok x ∷ []) ∙ ap (λ ls. ls ++ Ok (string_bytes x) ∷ []) c.same ∙ sym (map-append Ok c.lines (string_bytes x ∷ [])) in
        given (is_ksyms_memory e) (inr (inl (record {
          lines = c.lines;
          line = string_bytes x;
          wanted = wanted;
          came = came_more items s t u o is c x step;
          types = types;
          before = subst (λ ls. lines_refused local externs ls ≡ None) c.same before;
          refused = subst (λ ls. lines_refused local externs ls ≡ Some e) same refused;
        })))
    at_line e items (Err err) t u wanted types c step before refused =
        let one : lines_fault (is_one_of (names_read local externs)) (map line_of_item (items ++ Err err ∷ [])) ≡ Some (line_read_fault err) =
        ap (lines_fault (is_one_of (names_read local externs))) (map-append line_of_item items (Err err ∷ []))
        ∙ lines_fault-push (is_one_of (names_read local externs)) (map line_of_item items) (Err (line_read_fault err))
        ∙ ap (λ o. or_else o (Some (line_read_fault err))) before in
        let same : Some (line_read_fault err) ≡ Some e = sym one ∙ refused in
        match_then (is_ksyms_memory e) (λ a. inr (inr (inr a))) (access_or_memory (StopsAtAccessIn o local kernel externs) err e
        (λ other. record {
          lines = c.lines;
          error = err;
          wanted = wanted;
          came = came_first items s t o is c;
          types = types;
          before = subst (λ ls. lines_refused local externs ls ≡ None) c.same before;
          other = other;
          is = refl;
        }) (cc))

    pub refused_in : (e : KsymsError) → IsResolutionFault steps s local kernel externs e → MatchBool (is_ksyms_memory e) ⊤ (IsRefusedIn o local kernel externs e)
    refused_in e (inl types) = given (is_ksyms_memory e) (inl types)
    refused_in e (inr (inl h)) =
        let r = last_call steps h.items h.item s h.rest h.came in
        at_line e h.items h.item r.0 h.rest h.wanted h.types (came_all (is_one_of (names_read local externs)) h.items s r.0 r.1 h.before) r.2 h.before h.refused
    refused_in e (inr (inr h)) =
        let c = counted (is_one_of (names_read local externs)) (reads_lines local externs) h.items s o is h.counted h.read in
        given (is_ksyms_memory e) (inr (inr (inl (record {
          lines = c.0;
          counted = c.2;
          types = h.types;
          read = subst (λ ls. lines_refused local externs ls ≡ None) c.1 h.read;
          refused = subst (λ ls. names_refused local externs ls ≡ Some e) c.1 h.refused;
        }))))

  -- the same of an answer
  pub all_resolved : {E : Type 0} (s : S) (o : Option (List ℕ)) → known s ≡ o → (local kernel : Option TypeInfo) (externs : Externs) (r : Result Externs E) → IfOk r (λ after. IsResolved steps s local kernel externs after) → IfOk r (λ after. IsResolvedIn o local kernel externs after)
  all_resolved s o is local kernel externs (Err e) h = tt
  all_resolved s o is local kernel externs (Ok after) h = resolved_in s o is local kernel externs after h

  pub all_refused : {X : Type 0} (s : S) (o : Option (List ℕ)) → known s ≡ o → (local kernel : Option TypeInfo) (externs : Externs) (r : Result X KsymsError) → IfErr r (λ e. MatchBool (is_ksyms_memory e) ⊤ (IsResolutionFault steps s local kernel externs e)) → IfErr r (λ e. MatchBool (is_ksyms_memory e) ⊤ (IsRefusedIn o local kernel externs e))
  all_refused s o is local kernel externs (Ok x) h = tt
  all_refused s o is local kernel externs (Err e) h = match_after (IsRefusedIn o local kernel externs e) (is_ksyms_memory e) (refused_in s o is local kernel externs e) h
