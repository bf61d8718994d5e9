-- Resolving externs by a text has one result; the payload of a line's error aside.
use Rattle.std.proofs.Common.{◌≡◌, ℕ, Bool, true, false, cond, List, [], ◌∷◌, ◌++◌, map, Option, Some, None, Ok, Err, refl, ap, sym, ◌∙◌}
use Rattle.std.specs.FinMap.{entries}
use Rattle.std.specs.Prelude.{option_map, pos, slice_get}
use Rattle.std.specs.List.{cons_option}
use Rattle.std.specs.Str.{is_utf8}
use Rattle.std.specs.Str.Lines.{lines}
use Rattle.std.specs.declared.io.Error.{Error}
use Rattle.std.proofs.lemmas.List.Elements.{filter_map-append}
use Rattle.ebpf_base.specs.Faults.{first_some, or_else}
use Rattle.ebpf_btf.specs.TypeInfo.{TypeInfo}
use Rattle.ebpf_ksyms.specs.Addresses.{Line, address_and_name, address_in_line, address_of, addresses, is_one_of, line_fault, lines_fault, named_address_fault, stated_fault, stated_address, with_before}
use Rattle.ebpf_ksyms.specs.Externs.{Externs, lines_refused, names_read, names_refused, reads_lines, types_refused, NamedExtern, left_without, is_typeless}
use Rattle.ebpf_ksyms.specs.Sources.{IsRefusedBy, IsResolvedBy, counted, kallsyms_text_fault, text_line, text_lines}
use Rattle.ebpf_ksyms.specs.declared.error.KsymsError.{KsymsError}
use Rattle.ebpf_ksyms.specs.declared.error.KsymsError.TheVariants.{KallsymsAccessError}
use Rattle.ebpf_outcomes.specs.OneResult.{determined_resolution}

determined_fault : Option KsymsError → Option (Option KsymsError)
determined_fault fault = option_map determined_resolution fault

-- ---- two errors in the place of lines that are not UTF-8

module _ (one other : Error) where
  line_address : (name line : List ℕ) → address_in_line name (text_line one line) ≡ address_in_line name (text_line other line)
  line_address name line = by_test (is_utf8 line)
    where
      by_test : (b : Bool) → address_in_line name (cond b (Ok line) (Err (KallsymsAccessError one))) ≡ address_in_line name (cond b (Ok line) (Err (KallsymsAccessError other)))
      by_test true = refl
      by_test false = refl

  abbrev Alike : List Line → List Line → Type 0
  Alike xs ys = (name : List ℕ) → addresses name xs ≡ addresses name ys

  alike_more : (xs ys : List Line) (line : List ℕ) → Alike xs ys → Alike (xs ++ text_line one line ∷ []) (ys ++ text_line other line ∷ [])
  unfolding addresses
  alike_more xs ys line same name =
      filter_map-append (address_in_line name) xs (text_line one line ∷ [])
      ∙ (λ i. same name i ++ cons_option (line_address name line i) [])
      ∙ sym (filter_map-append (address_in_line name) ys (text_line other line ∷ []))

  all_alike : (ls : List (List ℕ)) → Alike (map (text_line one) ls) (map (text_line other) ls)
  unfolding addresses
  all_alike [] name = refl
  all_alike (line ∷ ls) name = λ i. cons_option (line_address name line i) (all_alike ls name i)

  same_address : (xs ys : List Line) → Alike xs ys → (name : List ℕ) → address_of name xs ≡ address_of name ys
  unfolding address_of
  same_address xs ys same name = ap (λ found. slice_get found 0) (same name)

  -- ---- the fault of a line

  good_line : (wanted : List ℕ → Bool) (xs ys : List Line) → Alike xs ys → (found : Option (List ℕ × List ℕ)) → named_address_fault wanted xs found ≡ named_address_fault wanted ys found
  good_line wanted xs ys same None = refl
  good_line wanted xs ys same (Some pair) = ap (λ address. cond (wanted pair.1) (stated_fault pair.1 address pair.0 (stated_address pair.0)) None) (same_address xs ys same pair.1)

  same_line : (wanted : List ℕ → Bool) (xs ys : List Line) (line : List ℕ) → Alike xs ys → determined_fault (line_fault wanted xs (text_line one line)) ≡ determined_fault (line_fault wanted ys (text_line other line))
  unfolding line_fault determined_fault
  same_line wanted xs ys line same = by_test (is_utf8 line)
    where
      by_test : (b : Bool) → determined_fault (line_fault wanted xs (cond b (Ok line) (Err (KallsymsAccessError one)))) ≡ determined_fault (line_fault wanted ys (cond b (Ok line) (Err (KallsymsAccessError other))))
      by_test true = ap determined_fault (good_line wanted xs ys same (address_and_name line))
      by_test false = refl

-- ---- the first fault

determined_fault_first : (a b c d : Option KsymsError) → determined_fault a ≡ determined_fault b → determined_fault c ≡ determined_fault d → determined_fault (or_else a c) ≡ determined_fault (or_else b d)
unfolding determined_fault
determined_fault_first None None c d first next = next
determined_fault_first None (Some y) c d first next = absurd (cc)
determined_fault_first (Some x) None c d first next = absurd (cc)
determined_fault_first (Some x) (Some y) c d first next = first

module _ (one other : Error) where
  same_faults : (wanted : List ℕ → Bool) (xs ys : List Line) (ls : List (List ℕ)) → Alike one other xs ys
      → determined_fault (first_some (λ l. line_fault wanted l.0 l.1) (with_before xs (map (text_line one) ls))) ≡ determined_fault (first_some (λ l. line_fault wanted l.0 l.1) (with_before ys (map (text_line other) ls)))
  same_faults wanted xs ys [] same = refl
  same_faults wanted xs ys (line ∷ ls) same =
      determined_fault_first (line_fault wanted xs (text_line one line)) (line_fault wanted ys (text_line other line)) _ _
      (same_line one other wanted xs ys line same)
      (same_faults wanted (xs ++ text_line one line ∷ []) (ys ++ text_line other line ∷ []) ls (alike_more one other xs ys line same))

  same_lines : (wanted : List ℕ → Bool) (text : List ℕ) (b : Bool) → determined_fault (lines_fault wanted (counted one text b)) ≡ determined_fault (lines_fault wanted (counted other text b))
  unfolding lines_fault
  same_lines wanted text true = same_faults wanted [] [] (lines text) (λ name. refl)
  same_lines wanted text false = refl

  counted_alike : (text : List ℕ) (b : Bool) → Alike one other (counted one text b) (counted other text b)
  counted_alike text true name = all_alike one other (lines text) name
  counted_alike text false name = refl

  same_names : (local : Option TypeInfo) (externs : Externs) (xs ys : List Line) → Alike one other xs ys → names_refused local externs xs ≡ names_refused local externs ys
  unfolding names_refused
  same_names None externs xs ys same = refl
  same_names (Some local) externs xs ys same =
      ap (λ (address : List ℕ → Option ℕ). first_some (λ (e : NamedExtern). cond (is_typeless e.1) (left_without (address e.0) e) None) (entries externs)) (λ i name. same_address one other xs ys same name i)

  same_fault : (text : List ℕ) (local kernel : Option TypeInfo) (externs : Externs) → determined_fault (kallsyms_text_fault text local kernel externs one) ≡ determined_fault (kallsyms_text_fault text local kernel externs other)
  same_fault text local kernel externs =
      determined_fault_first (types_refused local kernel externs) (types_refused local kernel externs) _ _ refl
      (determined_fault_first (lines_refused local externs (text_lines text local kernel externs one)) (lines_refused local externs (text_lines text local kernel externs other)) _ _
      (same_lines (is_one_of (names_read local externs)) text (reads_lines local externs))
      (ap determined_fault (same_names local externs (text_lines text local kernel externs one) (text_lines text local kernel externs other) (counted_alike text (reads_lines local externs)))))

same_determined_fault : (a b : Option KsymsError) (d e : KsymsError) → determined_fault a ≡ determined_fault b → a ≡ Some d → b ≡ Some e → determined_resolution d ≡ determined_resolution e
unfolding determined_fault
same_determined_fault a b d e same is_d is_e = some_of (sym (ap determined_fault is_d) ∙ same ∙ ap determined_fault is_e)
  where
    some_of : Some (determined_resolution d) ≡ Some (determined_resolution e) → determined_resolution d ≡ determined_resolution e
    some_of h = cc

pub one_refusal : (text : List ℕ) (local kernel : Option TypeInfo) (externs : Externs) (d e : KsymsError) → IsRefusedBy text local kernel externs d → IsRefusedBy text local kernel externs e → determined_resolution d ≡ determined_resolution e
one_refusal text local kernel externs d e h g =
    same_determined_fault (kallsyms_text_fault text local kernel externs h.error) (kallsyms_text_fault text local kernel externs g.error) d e (same_fault h.error g.error text local kernel externs) h.fault g.fault

pub any_error : Error
any_error = record { repr = 1; kind = 21; len = 0; code = pos 0; message = record { 0 = 0; 1 = 0; 2 = 0; 3 = 0; 4 = 0; 5 = 0; 6 = 0; 7 = 0; 8 = 0; 9 = 0 } }

pub one_resolved : (text : List ℕ) (local kernel : Option TypeInfo) (externs a b : Externs) → IsResolvedBy text local kernel externs a → IsResolvedBy text local kernel externs b → a ≡ b
one_resolved text local kernel externs a b h g = h.stands any_error ∙ sym (g.stands any_error)
