-- What a refusal says of the reports of a file.
use Rattle.std.proofs.Common.{◌≡◌, ℕ, Bool, true, false, cond, List, [], ◌∷◌, map, Option, Some, None, refl, sym, ap, ◌∙◌, subst}
use Rattle.std.proofs.lemmas.Option.{none-some}
use Rattle.std.proofs.lemmas.Slice.Eq.{bytes_eq-Decides}
use Rattle.std.specs.Prelude.{⊤, MatchBool}
use Rattle.std.specs.FinMap.{get, entries, find, get-entries}
use Rattle.std.specs.Ordering.{eq_by_cmp}
use Rattle.std.specs.Str.{bytes_eq}
use Rattle.ebpf_base.proofs.TextMaps.{text_exact}
use Rattle.ebpf_base.proofs.Maps.{is_equal}
use Rattle.ebpf_base.specs.Maps.{text_cmp}
use Rattle.cli_plain.proofs.Refusing.{nothing}
use Rattle.cli_plain.specs.Done.{is_outside, IsFailureOf, LacksNamedReport}
use Rattle.cli_plain.specs.Linked.{IsFileLinked}
use Rattle.cli_plain.specs.Printed.{HasInspected, report_named}
use Rattle.cli_plain.specs.declared.failure.Failure.{Failure}
use Rattle.cli_plain.specs.declared.failure.Failure.TheVariants.{CannotRead, Btf, Preparing, NoProgram, CannotWrite, Memory}
use Rattle.ebpf_inspect.specs.Inspected.{AreReports}
use Rattle.ebpf_inspect.specs.declared.report.ProgramReport.{ProgramReport}
use Rattle.ebpf_ksyms.specs.Sources.{Source}
use Rattle.ebpf_object.specs.LinkedPrograms.{program_value, programs_in_order}
use Rattle.ebpf_object.specs.declared.object.Object.{Object}
use Rattle.ebpf_model.specs.declared.function.Program.{Program}
use Rattle.ebpf_reloc.specs.Linking.{ProgramValue}

-- ---- a program has a report

bytes_same : (xs ys : List ℕ) → xs ≡ ys → bytes_eq xs ys ≡ true
bytes_same xs ys is = (bytes_eq-Decides xs ys).1 is

names_same : (xs ys : List ℕ) → eq_by_cmp text_cmp xs ys ≡ true → ys ≡ xs
names_same xs ys is = sym (text_exact xs ys (is_equal (text_cmp xs ys) is))

either : {C : Type 0} (b : Bool) → (b ≡ true → C) → (b ≡ false → C) → C
either true same other = same refl
either false same other = other refl

module _ {X : Type 0} (first : X) (rest : Option X) where
  not_none : (b : Bool) → b ≡ true → cond b (Some first) rest ≡ None → ⊥
  not_none true is h = none-some first (sym h)
  not_none false is h = cc

  rest_none : (b : Bool) → cond b (Some first) rest ≡ None → rest ≡ None
  rest_none true h = absurd (none-some first (sym h))
  rest_none false h = h

  rest_some : (b : Bool) (x : X) → b ≡ false → cond b (Some first) rest ≡ Some x → rest ≡ Some x
  rest_some true x is h = cc
  rest_some false x is h = h

module _ (d o : Object) (name : List ℕ) (p : Program) where
  abbrev programs_of : List (List ℕ × Program) → List ProgramValue
  programs_of es = map (λ e. program_value e.0 e.1) es

  reported : (es : List (List ℕ × Program)) (rs : List ProgramReport) → find text_cmp name es ≡ Some p → AreReports d o (programs_of es) rs → report_named rs name ≡ None → ⊥
  reported [] rs is each lacks = none-some p is
  reported (e ∷ es) [] is each lacks = each
  reported (e ∷ es) (r ∷ rs) is each lacks =
      either (eq_by_cmp text_cmp name e.0)
      (λ same. not_none r (report_named rs name) (bytes_eq r.name name) (bytes_same r.name name (each.0.named ∙ names_same name e.0 same)) lacks)
      (λ other. reported es rs (rest_some e.1 (find text_cmp name es) (eq_by_cmp text_cmp name e.0) p other is) each.1 (rest_none r (report_named rs name) (bytes_eq r.name name) lacks))

-- no report of a name, so no program
module _ (d o : Object) (rs : List ProgramReport) (each : AreReports d o (programs_in_order o.programs) rs) (name : List ℕ) (lacks : report_named rs name ≡ None) where
  absent : (q : Option Program) → get o.programs name ≡ q → q ≡ None
  absent None is = refl
  absent (Some p) is = absurd (reported d o name p (entries o.programs) rs (sym (get-entries o.programs name) ∙ is) each lacks)

  no_program : get o.programs name ≡ None
  no_program = absent (get o.programs name) refl

-- ---- refusals

module _ (file : List ℕ) (btf : Option (List ℕ)) (lines : Source) (rs : List ProgramReport) (inspected : HasInspected file btf lines rs) where
  abbrev o : Object
  o = inspected.inspected.linked

  linked : IsFileLinked file btf lines o
  linked = record { types = inspected.types; kernel = inspected.kernel; headline = inspected.inspected.headline }

  named : (name : List ℕ) (f : Failure) → MatchBool (is_outside f) ⊤ (LacksNamedReport rs (Some name) f) → MatchBool (is_outside f) ⊤ (IsFailureOf file btf lines (Some name) f)
  named name (NoProgram missing) h =
      (o, linked, ap Some (sym h.0), subst (λ (n : List ℕ). get o.programs n ≡ None) (sym h.0) (no_program _ o rs inspected.inspected.each name h.1))
  named name (CannotRead path) h = absurd h
  named name (Btf e) h = nothing (is_outside (Btf e)) _ h
  named name (Preparing e) h = nothing (is_outside (Preparing e)) _ h
  named name CannotWrite h = h
  named name Memory h = h

  pub lacking : (default_passes : Option (List ℕ)) (f : Failure) → MatchBool (is_outside f) ⊤ (LacksNamedReport rs default_passes f) → MatchBool (is_outside f) ⊤ (IsFailureOf file btf lines default_passes f)
  lacking None f h = nothing (is_outside f) _ h
  lacking (Some name) f h = named name f h
