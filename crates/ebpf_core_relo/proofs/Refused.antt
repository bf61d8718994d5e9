-- Why the records of an object are refused, as an equation and by the place of the first fault.
use Rattle.std.proofs.Common.{◌≡◌, ℕ, zero, suc, Bool, true, false, ◌-◌, ◌/◌, List, [], ◌∷◌, ◌++◌, take, Option, Some, None, Result, Ok, Err, refl, sym, ap, ◌∙◌, subst, slice_get}
use Rattle.std.specs.Prelude.{IfErr, MatchBool}
use Rattle.std.specs.FinMap.{empty, get}
use Rattle.std.proofs.lemmas.Option.{same_Some}
use Rattle.std.proofs.lemmas.Result.{IfErr-at_err, IfErr-weaker}
use Rattle.ebpf_base.specs.Faults.{if_ok}
use Rattle.ebpf_btf.specs.Next.{if_some}
use Rattle.ebpf_btf.specs.Strings.{text_at}
use Rattle.ebpf_btf.specs.declared.error.BtfError.{BtfError as TypeError}
use Rattle.ebpf_btf_ext.specs.declared.relocation.Relocation.{Relocation}
use Rattle.ebpf_core.proofs.Refused.{outcome_first, outcome_refuses}
use Rattle.ebpf_core_candidates.proofs.Refusals.{by_answer, by_option, ok_parts, same_ok}
use Rattle.ebpf_core.specs.Searches.{outcome_of}
use Rattle.ebpf_core.specs.declared.error.RelocationError.{RelocationError}
use Rattle.ebpf_core.specs.declared.error.RelocationError.TheVariants as errors
use Rattle.ebpf_core_relo.proofs.RecordRuns.{in_section_ok}
use Rattle.ebpf_core_relo.specs.Records.{error_in_section, is_memory_in_section, without_texts_at, RelocationInputs, Written, all_applied, answer_in_section, named_applied, put_outcome, record_applied, records_applied, section_applied, slots_so_far, slots_written, unnamed_section, AreApplied, RecordIsRefused, NoFunction, NoOutcome, NotCarried, RecordsAreRefused, NoName, NoSection, RecordFails}
use Rattle.ebpf_core_relo.specs.Carried.{written}
use Rattle.ebpf_core_relo.specs.Spans.{spans_of, span_at}
use Rattle.ebpf_core_relo.specs.declared.error.BtfRelocationError.{BtfRelocationError}
use Rattle.ebpf_elf.specs.declared.section.SectionIndex.{SectionIndex}

module _ {A S E : Type 0} (step : A → S → Result S E) (run : List A → S → Result S E)
    (none : (s : S) → run [] s ≡ Ok s) (more : (x : A) (xs : List A) (s : S) → run (x ∷ xs) s ≡ if_ok (step x s) (run xs)) where
  -- all before the n-th are taken, and this is refused
  pub record StopsAt (xs : List A) (from : S) (fault : E) : Type 0 where
    pub n : ℕ
    pub x : A
    pub at : slice_get xs n ≡ Some x
    pub so_far : S
    pub taken : run (take n xs) from ≡ Ok so_far
    pub fails : step x so_far ≡ Err fault

  one_on : (x : A) (xs : List A) (from next : S) → step x from ≡ Ok next → run (x ∷ xs) from ≡ run xs next
  one_on x xs from next is = more x xs from ∙ ap (λ (r : Result S E). if_ok r (run xs)) is

  stops_on : (x : A) (xs : List A) (from next : S) (fault : E) → step x from ≡ Ok next → StopsAt xs next fault → StopsAt (x ∷ xs) from fault
  stops_on x xs from next fault is h = record {
    n = suc h.n;
    x = h.x;
    at = h.at;
    so_far = h.so_far;
    taken = one_on x (take h.n xs) from next is ∙ h.taken;
    fails = h.fails;
  }

  abbrev Stops : List A → S → Result S E → Type 0
  Stops xs from r = IfErr r (StopsAt xs from)

  pub stops : (xs : List A) (from : S) → Stops xs from (run xs from)
  stops [] from = subst (Stops [] from) (sym (none from)) tt
  stops (x ∷ xs) from =
      subst (Stops (x ∷ xs) from) (sym (more x xs from))
      (by_answer (Stops (x ∷ xs) from) (step x from) _ (λ e is. record { n = 0; x = x; at = refl; so_far = from; taken = none from; fails = is })
      (λ next is. IfErr-weaker (run xs next) (StopsAt xs next) (StopsAt (x ∷ xs) from) (λ e h. stops_on x xs from next e is h) (stops xs next)))

  refused_at : (xs : List A) (n : ℕ) (x : A) (from so_far : S) (fault : E) → slice_get xs n ≡ Some x → run (take n xs) from ≡ Ok so_far
      → step x so_far ≡ Err fault → run xs from ≡ Err fault
  refused_at [] n x from so_far fault at taken fails = cc
  refused_at (y ∷ ys) zero x from so_far fault at taken fails = rw (more y ys from, same_Some _ _ at, same_ok _ _ (sym (none from) ∙ taken), fails) refl
  refused_at (y ∷ ys) (suc n) x from so_far fault at taken fails =
      let (next, is, rest) = ok_parts (step y from) (run (take n ys)) so_far (sym (more y (take n ys) from) ∙ taken) in
      one_on y ys from next is ∙ refused_at ys n x next so_far fault at rest fails

  pub is_refused : (xs : List A) (from : S) (fault : E) → StopsAt xs from fault → run xs from ≡ Err fault
  is_refused xs from fault h = refused_at xs h.n h.x from h.so_far fault h.at h.taken h.fails

  -- some, and then one more
  pub and_one : (xs : List A) (x : A) (from so_far : S) → run xs from ≡ Ok so_far → run (xs ++ x ∷ []) from ≡ step x so_far
  and_one [] x from so_far taken = more x [] from ∙ all_of (step x from) ∙ ap (step x) (same_ok _ _ (sym (none from) ∙ taken))
    where
      all_of : (r : Result S E) → if_ok r (run []) ≡ r
      all_of (Ok s) = none s
      all_of (Err e) = refl
  and_one (y ∷ ys) x from so_far taken =
      let (next, is, rest) = ok_parts (step y from) (run ys) so_far (sym (more y ys from) ∙ taken) in
      one_on y (ys ++ x ∷ []) from next is ∙ and_one ys x next so_far rest

  pub but_one : (xs : List A) (x : A) (from left : S) → run (xs ++ x ∷ []) from ≡ Ok left → (so_far : S) × (run xs from ≡ Ok so_far) × (step x so_far ≡ Ok left)
  but_one [] x from left taken =
      let (next, is, rest) = ok_parts (step x from) (run []) left (sym (more x [] from) ∙ taken) in
      (from, none from, is ∙ sym (none next) ∙ rest)
  but_one (y ∷ ys) x from left taken =
      let (next, is, rest) = ok_parts (step y from) (run (ys ++ x ∷ [])) left (sym (more y (ys ++ x ∷ []) from) ∙ taken) in
      let (so_far, before, last) = but_one ys x next left rest in
      (so_far, one_on y ys from next is ∙ before, last)

-- ---- one record

module _ (inputs : RelocationInputs) (section : ℕ) (so_far : Written) (r : Relocation) where
  abbrev IsRefused : Result Written RelocationError → Type 0
  IsRefused x = IfErr x (RecordIsRefused inputs section so_far r)

  record_is : IsRefused (record_applied inputs section so_far r)
  unfolding record_applied put_outcome
  record_is =
      by_option IsRefused (span_at r.insn_off (spans_of inputs.functions section)) _ _ (λ is. NoFunction is)
      (λ s there. by_answer IsRefused (outcome_of inputs.sides.local inputs.sides.target r) _
      (λ e is. NoOutcome s e there (outcome_first inputs.sides.local inputs.sides.target r e is))
      (λ o found. by_answer IsRefused (written r.number (slots_so_far inputs.functions so_far (section, s.address)) ((r.insn_off - s.start) / 8) o) _
      (λ e is. NotCarried s o e there found is) (λ slots is. tt)))

  record_refuses : (fault : RelocationError) → RecordIsRefused inputs section so_far r fault → record_applied inputs section so_far r ≡ Err fault
  unfolding record_applied put_outcome
  record_refuses _ (NoFunction is) = rw is refl
  record_refuses _ (NoOutcome s fault there h) = rw (there, outcome_refuses inputs.sides.local inputs.sides.target r fault h) refl
  record_refuses _ (NotCarried s o fault there found is) = rw (there, found, is) refl

-- ---- the records of a part

module _ (inputs : RelocationInputs) (parts : List (ℕ × List Relocation)) where
  abbrev one : ℕ → Relocation → Written → Result Written RelocationError
  one section r so_far = record_applied inputs section so_far r

  located_by : (part : ℕ × List Relocation) (so_far : Written) (name : List ℕ) (section : SectionIndex) → text_at inputs.sides.local.strings part.0 ≡ Ok name
      → get inputs.section_infos name ≡ Some section → named_applied inputs part so_far ≡ answer_in_section name (records_applied inputs section.0 part.1 so_far)
  located_by part so_far name section is there = rw (named_applied, is, section_applied, there) refl

  abbrev AreRefused : Result Written BtfRelocationError → Type 0
  AreRefused x = IfErr x (RecordsAreRefused inputs parts)

  part_is : (n : ℕ) (part : ℕ × List Relocation) (so_far : Written) → slice_get parts n ≡ Some part → slots_written inputs (take n parts) ≡ Ok so_far
      → AreRefused (named_applied inputs part so_far)
  part_is n part so_far at taken = by_name (text_at inputs.sides.local.strings part.0) refl
    where
      in_section : (name : List ℕ) (x : Result Written RelocationError) → IfErr x (λ e. RecordsAreRefused inputs parts (error_in_section name e)) → AreRefused (answer_in_section name x)
      in_section name (Ok w) h = tt
      in_section name (Err e) h = h

      record_fails : (name : List ℕ) (section : SectionIndex) → text_at inputs.sides.local.strings part.0 ≡ Ok name → get inputs.section_infos name ≡ Some section → (e : RelocationError)
          → StopsAt (one section.0) (records_applied inputs section.0) (λ s. refl) (λ x xs s. refl) part.1 so_far e → RecordsAreRefused inputs parts (error_in_section name e)
      record_fails name section is there e h =
          let own : ℕ × List Relocation = (part.0, take h.n part.1) in
          let applied : AreApplied inputs parts n part h.n h.so_far =
          and_one (named_applied inputs) (all_applied inputs) (λ s. refl) (λ x xs s. refl) (take n parts) own empty so_far taken
          ∙ located_by own so_far name section is there
          ∙ ap (answer_in_section name) h.taken in
          RecordFails n h.n part h.so_far name section h.x e at h.at applied is there (IfErr-at_err _ h.fails (record_is inputs section.0 h.so_far h.x))

      by_section : (name : List ℕ) → text_at inputs.sides.local.strings part.0 ≡ Ok name → (o : Option SectionIndex) → get inputs.section_infos name ≡ o
          → AreRefused (answer_in_section name (if_some o (λ section. records_applied inputs section.0 part.1 so_far) (Err errors.SectionNotFound)))
      by_section name is None there = NoSection n part so_far name at taken is there
      by_section name is (Some section) there =
          in_section name (records_applied inputs section.0 part.1 so_far)
          (IfErr-weaker (records_applied inputs section.0 part.1 so_far) _ (λ e. RecordsAreRefused inputs parts (error_in_section name e)) (record_fails name section is there)
          (stops (one section.0) (records_applied inputs section.0) (λ s. refl) (λ x xs s. refl) part.1 so_far))

      by_name : (t : Result (List ℕ) TypeError) → text_at inputs.sides.local.strings part.0 ≡ t
          → AreRefused (elim t [ Ok name ↦ answer_in_section name (section_applied inputs name part.1 so_far) | Err f ↦ answer_in_section (unnamed_section part.0) (Err (errors.BtfError f)) ])
      by_name (Ok name) is = by_section name is (get inputs.section_infos name) refl
      by_name (Err e) is = NoName n part so_far e at taken is

  -- ---- all parts

  pub are_refused : (fault : BtfRelocationError) → slots_written inputs parts ≡ Err fault → RecordsAreRefused inputs parts fault
  are_refused fault e =
      let h : StopsAt (named_applied inputs) (all_applied inputs) (λ s. refl) (λ x xs s. refl) parts empty fault =
      IfErr-at_err _ e (stops (named_applied inputs) (all_applied inputs) (λ s. refl) (λ x xs s. refl) parts empty) in
      IfErr-at_err (RecordsAreRefused inputs parts) h.fails (part_is h.n h.x h.so_far h.at h.taken)

  -- ---- and back

  part_refuses : (n : ℕ) (part : ℕ × List Relocation) (so_far : Written) (fault : BtfRelocationError) → slice_get parts n ≡ Some part
      → slots_written inputs (take n parts) ≡ Ok so_far → named_applied inputs part so_far ≡ Err fault → slots_written inputs parts ≡ Err fault
  part_refuses n part so_far fault at taken fails =
      is_refused (named_applied inputs) (all_applied inputs) (λ s. refl) (λ x xs s. refl) parts empty fault
      (record { n = n; x = part; at = at; so_far = so_far; taken = taken; fails = fails })

  pub refuse : (fault : BtfRelocationError) → RecordsAreRefused inputs parts fault → slots_written inputs parts ≡ Err fault
  refuse _ (NoName n part so_far e at taken is) = part_refuses n part so_far _ at taken (rw (named_applied, is) refl)
  refuse _ (NoSection n part so_far name at taken is there) = part_refuses n part so_far _ at taken (rw (named_applied, is, section_applied, there) refl)
  refuse _ (RecordFails n m part left name section r fault at there applied is located h) =
      let own : ℕ × List Relocation = (part.0, take m part.1) in
      let (so_far, taken, last) = but_one (named_applied inputs) (all_applied inputs) (λ s. refl) (λ x xs s. refl) (take n parts) own empty left applied in
      let some : records_applied inputs section.0 (take m part.1) so_far ≡ Ok left =
      in_section_ok name (records_applied inputs section.0 (take m part.1) so_far) left (sym (located_by own so_far name section is located) ∙ last) in
      let all : records_applied inputs section.0 part.1 so_far ≡ Err fault =
      is_refused (one section.0) (records_applied inputs section.0) (λ s. refl) (λ x xs s. refl) part.1 so_far fault
      (record { n = m; x = r; at = there; so_far = left; taken = some; fails = record_refuses inputs section.0 left r fault h }) in
      part_refuses n part so_far _ at taken (located_by part so_far name section is located ∙ ap (answer_in_section name) all)

-- what a stated fault is, the one that is given is too
module _ {Y : Type 0} (P : BtfRelocationError → Type 0) (stated : Result Y BtfRelocationError) (to : (fault : BtfRelocationError) → stated ≡ Err fault → P fault) where
  without_texts_by : (b : Bool) (e : BtfRelocationError) → MatchBool b (e.section ≡ []) (stated ≡ Err (without_texts_at e)) → MatchBool b (e.section ≡ []) (P (without_texts_at e))
  without_texts_by true e is = is
  without_texts_by false e is = to (without_texts_at e) is

  pub refused_so : {X : Type 0} (r : Result X BtfRelocationError) → IfErr r (λ e. MatchBool (is_memory_in_section e) (e.section ≡ []) (stated ≡ Err (without_texts_at e)))
      → IfErr r (λ e. MatchBool (is_memory_in_section e) (e.section ≡ []) (P (without_texts_at e)))
  refused_so (Ok x) h = h
  refused_so (Err e) h = without_texts_by (is_memory_in_section e) e h
