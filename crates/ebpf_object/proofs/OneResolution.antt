-- Resolving externs has one result, where the bytes of the kernel's symbols are known.
use Rattle.std.proofs.Common.{◌≡◌, ◌⊎◌, inl, inr, ℕ, ◌<◌, Bool, true, false, List, [], ◌∷◌, ◌++◌, map, length, Option, Some, None, Ok, refl, sym, ap, subst, ◌∙◌, append-nil, append_assoc, arith}
use Rattle.std.proofs.lemmas.List.{map-append}
use Rattle.std.specs.Io.BufRead.{drop_through}
use Rattle.ebpf_base.proofs.Faults.{both_None}
use Rattle.ebpf_btf.specs.TypeInfo.{TypeInfo}
use Rattle.ebpf_ksyms.proofs.Reading.{lines_fault-push}
use Rattle.ebpf_ksyms.specs.Addresses.{Line, line_fault, lines_fault, is_one_of}
use Rattle.ebpf_ksyms.specs.Externs.{Externs, lines_refused, names_read, names_refused, reads_lines, resolved_externs, types_refused}
use Rattle.ebpf_ksyms.specs.Sources.{AreFirst, AreLines, CountsLines, IsRefusedIn, IsResolvedIn, StopsAtLineIn, StopsAtNameIn, StopsAtAccessIn, read_lines}
use Rattle.ebpf_ksyms.specs.declared.error.KsymsError.{KsymsError}
use Rattle.ebpf_object.specs.Prepared.{is_access_error}

-- ---- the lines of some bytes

no_bytes : (bytes : List ℕ) → 0 < length bytes → bytes ≡ [] → ⊥
no_bytes [] long is = absurd (omega arith)
no_bytes (b ∷ bytes) long is = cc

-- all lines begin with any first lines
all_begin : (bytes : List ℕ) (first all : List (List ℕ)) → AreFirst bytes first → AreLines bytes all → (rest : List (List ℕ)) × (all ≡ first ++ rest)
all_begin bytes [] all f a = (all, refl)
all_begin bytes (x ∷ xs) [] f a = absurd (no_bytes bytes f.0.0 a.1)
all_begin bytes (x ∷ xs) (y ∷ ys) f a =
    let more = all_begin (drop_through 10 bytes) xs ys f.1 (a.0.1, a.1) in
    let same : y ≡ x = a.0.0.1 ∙ sym f.0.1 in
    (more.0, λ i. same i ∷ more.1 i)

same_lines : (bytes : List ℕ) (xs ys : List (List ℕ)) → AreLines bytes xs → AreLines bytes ys → xs ≡ ys
same_lines bytes [] [] a b = refl
same_lines bytes [] (y ∷ ys) a b = absurd (no_bytes bytes b.0.0.0 a.1)
same_lines bytes (x ∷ xs) [] a b = absurd (no_bytes bytes a.0.0.0 b.1)
same_lines bytes (x ∷ xs) (y ∷ ys) a b =
    let more : xs ≡ ys = same_lines (drop_through 10 bytes) xs ys (a.0.1, a.1) (b.0.1, b.1) in
    let same : x ≡ y = a.0.0.1 ∙ sym b.0.0.1 in
    λ i. same i ∷ more i

same_counted : (b : Bool) (bytes : List ℕ) (xs ys : List (List ℕ)) → CountsLines b (Some bytes) xs → CountsLines b (Some bytes) ys → xs ≡ ys
same_counted true bytes xs ys a b = same_lines bytes xs ys a.1 b.1
same_counted false bytes xs ys a b = a ∙ sym b

-- of two beginnings one goes on past the other's last line, or they are the same
abbrev GoesOn : List (List ℕ) → List ℕ → List (List ℕ) → Type 0
GoesOn xs x ys = (rest : List (List ℕ)) × (ys ≡ xs ++ x ∷ rest)

one_more : (z w : List ℕ) (xs ys : List (List ℕ)) (x : List ℕ) → z ≡ w → GoesOn xs x ys → GoesOn (w ∷ xs) x (z ∷ ys)
one_more z w xs ys x same on = (on.0, λ i. same i ∷ on.1 i)

beginnings : (bytes : List ℕ) (xs ys : List (List ℕ)) (x y : List ℕ) → AreFirst bytes (xs ++ x ∷ []) → AreFirst bytes (ys ++ y ∷ [])
    → GoesOn xs x ys ⊎ (GoesOn ys y xs ⊎ (xs ++ x ∷ [] ≡ ys ++ y ∷ []))
beginnings bytes [] [] x y f g = let same : x ≡ y = f.0.1 ∙ sym g.0.1 in inr (inr (ap (λ l. l ∷ []) same))
beginnings bytes [] (y' ∷ ys) x y f g = let same : y' ≡ x = g.0.1 ∙ sym f.0.1 in inl (ys, ap (λ l. l ∷ ys) same)
beginnings bytes (x' ∷ xs) [] x y f g = let same : x' ≡ y = f.0.1 ∙ sym g.0.1 in inr (inl (xs, ap (λ l. l ∷ xs) same))
beginnings bytes (x' ∷ xs) (y' ∷ ys) x y f g =
    let same : x' ≡ y' = f.0.1 ∙ sym g.0.1 in
    elim (beginnings (drop_through 10 bytes) xs ys x y f.1 g.1) [
      | inl on ↦ inl (one_more y' x' xs ys x (sym same) on)
      | inr other ↦ elim other [
        | inl on ↦ inr (inl (one_more x' y' ys xs y same on))
        | inr is ↦ inr (inr (λ i. same i ∷ is i))
      ]
    ]

-- ---- their faults

begins_without : (wanted : List ℕ → Bool) (more before : List Line) → lines_fault wanted (before ++ more) ≡ None → lines_fault wanted before ≡ None
begins_without wanted [] before none = ap (lines_fault wanted) (sym (append-nil before)) ∙ none
begins_without wanted (line ∷ more) before none =
    let one : lines_fault wanted (before ++ line ∷ []) ≡ None = begins_without wanted more (before ++ line ∷ []) (ap (lines_fault wanted) (append_assoc before (line ∷ []) more) ∙ none) in
    (both_None (lines_fault wanted before) (line_fault wanted before line) (sym (lines_fault-push wanted before line) ∙ one)).0

clash : {E : Type 0} (o : Option E) (e : E) → o ≡ None → o ≡ Some e → ⊥
clash o e none some = cc

same_fault : {E : Type 0} (o : Option E) (d e : E) → o ≡ Some d → o ≡ Some e → d ≡ e
same_fault o d e a b = cc

module _ (local : Option TypeInfo) (externs : Externs) (all first rest : List (List ℕ)) (is : all ≡ first ++ rest) where
  -- no line of a beginning is refused where none of all is
  none_of_first : lines_refused local externs (read_lines all) ≡ None → lines_refused local externs (read_lines first) ≡ None
  none_of_first none =
      let parts : read_lines all ≡ read_lines first ++ read_lines rest = ap read_lines is ∙ map-append Ok first rest in
      begins_without (is_one_of (names_read local externs)) (read_lines rest) (read_lines first) (ap (lines_refused local externs) (sym parts) ∙ none)

-- ---- one result

module _ (bytes : List ℕ) (local kernel : Option TypeInfo) (externs : Externs) where
  pub one_resolved : (a b : Externs) → IsResolvedIn (Some bytes) local kernel externs a → IsResolvedIn (Some bytes) local kernel externs b → a ≡ b
  one_resolved a b h g =
      h.stands ∙ ap (λ lines. resolved_externs local kernel (read_lines lines) externs) (same_counted (reads_lines local externs) bytes h.lines g.lines h.counted g.counted) ∙ sym g.stands

  -- a line that is refused is among all lines
  line_among : (e : KsymsError) (h : StopsAtLineIn (Some bytes) local kernel externs e) (all : List (List ℕ))
      → CountsLines (reads_lines local externs) (Some bytes) all → lines_refused local externs (read_lines all) ≡ None → ⊥
  line_among e h all counted none =
      let came = subst (λ (b : Bool). CountsLines b (Some bytes) all) h.wanted counted in
      let more = all_begin bytes (h.lines ++ h.line ∷ []) all h.came.1 came.1 in
      clash (lines_refused local externs (read_lines (h.lines ++ h.line ∷ []))) e (none_of_first local externs all (h.lines ++ h.line ∷ []) more.0 more.1 none) h.refused

  -- of two lines that are refused none is before the other
  line_before : (d e : KsymsError) (h : StopsAtLineIn (Some bytes) local kernel externs d) (g : StopsAtLineIn (Some bytes) local kernel externs e) → GoesOn h.lines h.line g.lines → ⊥
  line_before d e h g on =
      clash (lines_refused local externs (read_lines (h.lines ++ h.line ∷ []))) d
      (none_of_first local externs g.lines (h.lines ++ h.line ∷ []) on.0 (on.1 ∙ sym (append_assoc h.lines (h.line ∷ []) on.0)) g.before) h.refused

  one_line : (d e : KsymsError) → StopsAtLineIn (Some bytes) local kernel externs d → StopsAtLineIn (Some bytes) local kernel externs e → d ≡ e
  one_line d e h g = elim (beginnings bytes h.lines g.lines h.line g.line h.came.1 g.came.1) [
    | inl on ↦ absurd (line_before d e h g on)
    | inr other ↦ elim other [
      | inl on ↦ absurd (line_before e d g h on)
      | inr is ↦ same_fault (lines_refused local externs (read_lines (g.lines ++ g.line ∷ []))) d e (ap (λ lines. lines_refused local externs (read_lines lines)) (sym is) ∙ h.refused) g.refused
    ]
  ]

  one_name : (d e : KsymsError) → StopsAtNameIn (Some bytes) local kernel externs d → StopsAtNameIn (Some bytes) local kernel externs e → d ≡ e
  one_name d e h g =
      let lines : h.lines ≡ g.lines = same_counted (reads_lines local externs) bytes h.lines g.lines h.counted g.counted in
      same_fault (names_refused local externs (read_lines g.lines)) d e (ap (λ ls. names_refused local externs (read_lines ls)) (sym lines) ∙ h.refused) g.refused

  no_access : (e : KsymsError) → is_access_error e ≡ false → StopsAtAccessIn (Some bytes) local kernel externs e → ⊥
  no_access e other h = let clash : true ≡ false = ap is_access_error (sym h.is) ∙ other in cc

  type_first : (e : KsymsError) → types_refused local kernel externs ≡ None → types_refused local kernel externs ≡ Some e → ⊥
  type_first e none some = clash (types_refused local kernel externs) e none some

  pub not_resolved : (a : Externs) (e : KsymsError) → is_access_error e ≡ false → IsResolvedIn (Some bytes) local kernel externs a → IsRefusedIn (Some bytes) local kernel externs e → ⊥
  not_resolved a e other h (inl at_type) = type_first e h.types at_type
  not_resolved a e other h (inr (inl at_line)) = line_among e at_line h.lines h.counted h.read
  not_resolved a e other h (inr (inr (inl at_name))) =
      let lines : h.lines ≡ at_name.lines = same_counted (reads_lines local externs) bytes h.lines at_name.lines h.counted at_name.counted in
      clash (names_refused local externs (read_lines at_name.lines)) e (ap (λ ls. names_refused local externs (read_lines ls)) (sym lines) ∙ h.names) at_name.refused
  not_resolved a e other h (inr (inr (inr at_access))) = no_access e other at_access

  pub one_refusal : (d e : KsymsError) → is_access_error d ≡ false → is_access_error e ≡ false → IsRefusedIn (Some bytes) local kernel externs d → IsRefusedIn (Some bytes) local kernel externs e → d ≡ e
  one_refusal d e od oe (inl h) (inl g) = same_fault (types_refused local kernel externs) d e h g
  one_refusal d e od oe (inl h) (inr (inl g)) = absurd (type_first d g.types h)
  one_refusal d e od oe (inl h) (inr (inr (inl g))) = absurd (type_first d g.types h)
  one_refusal d e od oe (inl h) (inr (inr (inr g))) = absurd (no_access e oe g)
  one_refusal d e od oe (inr (inl h)) (inl g) = absurd (type_first e h.types g)
  one_refusal d e od oe (inr (inl h)) (inr (inl g)) = one_line d e h g
  one_refusal d e od oe (inr (inl h)) (inr (inr (inl g))) = absurd (line_among d h g.lines g.counted g.read)
  one_refusal d e od oe (inr (inl h)) (inr (inr (inr g))) = absurd (no_access e oe g)
  one_refusal d e od oe (inr (inr (inl h))) (inl g) = absurd (type_first e h.types g)
  one_refusal d e od oe (inr (inr (inl h))) (inr (inl g)) = absurd (line_among e g h.lines h.counted h.read)
  one_refusal d e od oe (inr (inr (inl h))) (inr (inr (inl g))) = one_name d e h g
  one_refusal d e od oe (inr (inr (inl h))) (inr (inr (inr g))) = absurd (no_access e oe g)
  one_refusal d e od oe (inr (inr (inr h))) g = absurd (no_access d od h)
