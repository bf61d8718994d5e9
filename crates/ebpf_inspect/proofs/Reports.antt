-- The reports of programs, and the object as it is once these are linked.
use Rattle.std.proofs.Common.{◌≡◌, ◌<◌, ℕ, zero, suc, Bool, true, false, List, [], ◌∷◌, ◌++◌, take, cond, Option, Some, refl, sym, ap, ◌∙◌, subst, arith}
use Rattle.std.specs.Prelude.{MatchBool, slice_get, ◌||◌}
use Rattle.std.proofs.lemmas.List.{append_assoc}
use Rattle.std.proofs.lemmas.Bool.{or_left, or_right, MatchBool-at_true}
use Rattle.std.specs.Cmp.{eq_by_cmp_equiv}
use Rattle.std.specs.FinMap.{FinMap, get, insert, get-insert}
use Rattle.std.specs.List.{AllZip}
use Rattle.std.specs.Ordering.{eq_by_cmp}
use Rattle.ebpf_base.proofs.Maps.{key_exact, is_equal}
use Rattle.ebpf_base.specs.Maps.{key_cmp, key_total}
use Rattle.ebpf_inspect.specs.Inspected.{AreReports, link_map_of}
use Rattle.ebpf_inspect.specs.Named.{IsProgramReport, WithLinked}
use Rattle.ebpf_inspect.specs.declared.report.ProgramReport.{ProgramReport}
use Rattle.ebpf_object.proofs.Staging.{refused_as}
use Rattle.ebpf_object.specs.Headline.{linkable}
use Rattle.ebpf_object.specs.LinkedPrograms.{programs_in_order, is_program_key, ProgramsAreLinked}
use Rattle.ebpf_object.specs.Prepared.{RefusesPreparing}
use Rattle.ebpf_object.specs.Stages.{Wrapped}
use Rattle.ebpf_object.specs.declared.object.Object.{Object}
use Rattle.ebpf_object.specs.declared.prepare_error.PrepareError.{PrepareError}
use Rattle.ebpf_object.specs.declared.prepare_error.PrepareError.TheVariants.{Calls}
use Rattle.ebpf_reloc.proofs.OneResult.{link_maps_match, one_way}
use Rattle.ebpf_reloc.specs.Linking.{ProgramValue, key_of, IsLinked, IsProgramRefusal, IsFirstRefusal}
use Rattle.ebpf_reloc.specs.SlotTargets.{LinkableValue}
use Rattle.ebpf_model.specs.Symbols.{FunctionKey}
use Rattle.ebpf_model.specs.declared.function.Function.{Function}

module _ (parts : LinkableValue) where
  -- ---- the functions once programs are linked

  linked_functions : (ps : List ProgramValue) (rs : List ProgramReport) → AllZip (IsProgramReport parts) ps rs → FinMap key_cmp Function
  linked_functions [] [] each = parts.functions
  linked_functions [] (r ∷ rs) each = absurd each
  linked_functions (p ∷ ps) [] each = absurd each
  linked_functions (p ∷ ps) (r ∷ rs) each = insert (linked_functions ps rs each.1) (key_of p) each.0.function

  -- what stands at a key, by whether it is a program's
  abbrev StandsBy : FunctionKey → Bool → Option Function → Type 0
  StandsBy key is_key found = MatchBool is_key ((g : Function) × (found ≡ Some g) × IsLinked parts key g) (found ≡ get parts.functions key)

  one_linked : (m : FinMap key_cmp Function) (p : ProgramValue) (f : Function) (key : FunctionKey) (rest : Bool) → IsLinked parts (key_of p) f → StandsBy key rest (get m key)
      → StandsBy key (eq_by_cmp key_cmp key (key_of p) || rest) (get (insert m (key_of p) f) key)
  one_linked m p f key rest is_linked before = subst (λ (found : Option Function). StandsBy key (eq_by_cmp key_cmp key (key_of p) || rest) found) (sym (get-insert key_total m (key_of p) f key)) (step (eq_by_cmp key_cmp key (key_of p)) refl)
    where
      step : (same : Bool) → eq_by_cmp key_cmp key (key_of p) ≡ same → StandsBy key (same || rest) (cond same (Some f) (get m key))
      step true at = (f, refl, subst (λ (k : FunctionKey). IsLinked parts k f) (sym (key_exact key (key_of p) (is_equal _ at))) is_linked)
      step false at = before

  are_linked : (ps : List ProgramValue) (rs : List ProgramReport) (each : AllZip (IsProgramReport parts) ps rs) → ProgramsAreLinked parts ps (linked_functions ps rs each)
  unfolding linked_functions
  are_linked [] [] each key = refl
  are_linked [] (r ∷ rs) each key = absurd each
  are_linked (p ∷ ps) [] each key = absurd each
  are_linked (p ∷ ps) (r ∷ rs) each key = one_linked (linked_functions ps rs each.1) p each.0.function key (is_program_key ps key) each.0.is_linked (are_linked ps rs each.1 key)

  -- ---- programs up to one that can't be linked

  linked_at : (ps : List ProgramValue) (rs : List ProgramReport) (n k : ℕ) (p : ProgramValue) → AllZip (IsProgramReport parts) (take n ps) rs → k < n → slice_get ps k ≡ Some p → (g : Function) × IsLinked parts (key_of p) g
  linked_at ps rs zero k p each low at = absurd (omega (arith, low))
  linked_at [] rs (suc n) k p each low at = cc
  linked_at (q ∷ ps) [] (suc n) k p each low at = absurd each
  linked_at (q ∷ ps) (r ∷ rs) (suc n) zero p each low at =
      let same : q ≡ p = cc in
      (each.0.function, subst (λ (x : ProgramValue). IsLinked parts (key_of x) each.0.function) same each.0.is_linked)
  linked_at (q ∷ ps) (r ∷ rs) (suc n) (suc k) p each low at = linked_at ps rs n k p each.1 (omega (arith, low)) at

  pub first_refused : (ps : List ProgramValue) (rs : List ProgramReport) (n : ℕ) (p : ProgramValue) → AllZip (IsProgramReport parts) (take n ps) rs → slice_get ps n ≡ Some p → (e : PrepareError)
      → RefusesPreparing (Wrapped Calls (IsProgramRefusal parts p)) e → RefusesPreparing (Wrapped Calls (IsFirstRefusal parts ps)) e
  first_refused ps rs n p each at e refused =
      refused_as Calls (IsProgramRefusal parts p) (Wrapped Calls (IsFirstRefusal parts ps))
      (λ own fault. (own, refl, record { index = n; program = p; at = at; refused = fault; before = λ k earlier low there. linked_at ps rs n k earlier each low there })) e refused

-- ---- the reports of an object's programs

among : (before : List ProgramValue) (p : ProgramValue) (behind : List ProgramValue) → is_program_key (before ++ p ∷ behind) (key_of p) ≡ true
among [] p behind = or_left (eq_by_cmp key_cmp (key_of p) (key_of p)) (is_program_key behind (key_of p)) ((eq_by_cmp_equiv key_total).refl (key_of p))
among (q ∷ before) p behind = or_right (eq_by_cmp key_cmp (key_of p) (key_of q)) (is_program_key (before ++ p ∷ behind) (key_of p)) (among before p behind)

module _ (o linked : Object) (links : ProgramsAreLinked (linkable o) (programs_in_order o.programs) linked.functions) where
  reports : (before ps : List ProgramValue) (rs : List ProgramReport) → (before ++ ps) ≡ programs_in_order o.programs → AllZip (IsProgramReport (linkable o)) ps rs → AreReports o linked ps rs
  reports before [] [] is each = tt
  reports before [] (r ∷ rs) is each = absurd each
  reports before (p ∷ ps) [] is each = absurd each
  reports before (p ∷ ps) (r ∷ rs) is each =
      let key : is_program_key (programs_in_order o.programs) (key_of p) ≡ true = subst (λ all. is_program_key all (key_of p) ≡ true) is (among before p ps) in
      let (g, stands, is_linked) = MatchBool-at_true _ _ key (links (key_of p)) in (
        record {
          named = each.0.named;
          function = g;
          stands = stands;
          slots = each.0.slots ∙ ap (λ (f : Function). f.instructions) (one_way (linkable o) (key_of p) each.0.function g each.0.is_linked is_linked);
          is_linked = is_linked;
          mapped = each.0.mapped;
          tells = link_maps_match (linkable o) (key_of p) (link_map_of r) g each.0.mapped is_linked;
        },
        reports (before ++ p ∷ []) ps rs (append_assoc before (p ∷ []) ps ∙ is) each.1,
      )

pub with_linked : (o : Object) (rs : List ProgramReport) → AllZip (IsProgramReport (linkable o)) (programs_in_order o.programs) rs → WithLinked o rs
with_linked o rs each =
    let links = are_linked (linkable o) (programs_in_order o.programs) rs each in
    let linked : Object = record o { functions = linked_functions (linkable o) (programs_in_order o.programs) rs each } in
    (linked, (links, refl), reports o linked links [] (programs_in_order o.programs) rs refl each)
