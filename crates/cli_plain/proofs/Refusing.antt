-- What a refusal says of the files.
use Rattle.std.proofs.Common.{◌≡◌, ℕ, Bool, true, false, List, Option, Some, None, refl, sym, ap, ◌∙◌, subst}
use Rattle.std.proofs.lemmas.Option.{none-some}
use Rattle.std.specs.Prelude.{⊤, MatchBool, MatchOption, IsSome, option_and_then}
use Rattle.std.specs.FinMap.{get}
use Rattle.cli_plain.specs.Done.{LacksNamed, is_outside, IsFailureOf}
use Rattle.cli_plain.specs.Linked.{IsFileLinked}
use Rattle.cli_plain.specs.declared.failure.Failure.{Failure}
use Rattle.cli_plain.specs.declared.failure.Failure.TheVariants.{CannotRead, Btf, Preparing, NoProgram, CannotWrite, Memory}
use Rattle.ebpf_ksyms.specs.Sources.{Source}
use Rattle.ebpf_object.specs.Headline.{ProgramsAreWhole}
use Rattle.ebpf_object.specs.LinkedPrograms.{function_of_named_program}
use Rattle.ebpf_object.specs.declared.object.Object.{Object}
use Rattle.ebpf_model.specs.declared.function.Function.{Function}
use Rattle.ebpf_model.specs.declared.function.Program.{Program}
use Rattle.ebpf_reloc.specs.SlotTargets.{LinkableValue}

-- nothing is refused by what can't be
pub nothing : (b : Bool) (F : Type 0) → MatchBool b ⊤ ⊥ → MatchBool b ⊤ F
nothing true F h = h
nothing false F h = absurd h

-- what holds in each case holds where a writer didn't fail
pub untouched : (b : Bool) (F : Type 0) → F → MatchBool b ⊤ F
untouched true F h = tt
untouched false F h = h

abbrev function_of : Object → Option Program → Option Function
function_of o program = option_and_then (λ p. get o.functions (p.section_index, p.address)) program

-- a program has a function
module _ (parts : LinkableValue) (o : Object) (whole : ProgramsAreWhole parts o) (name : List ℕ) where
  without : (p : Option Program) → get o.programs name ≡ p → function_of o p ≡ None → p ≡ None
  without None is lacks = refl
  without (Some program) is lacks = let g = whole name program is in absurd (none-some g.0 (sym lacks ∙ g.1))

  pub no_program : function_of_named_program o name ≡ None → get o.programs name ≡ None
  no_program lacks = without (get o.programs name) refl lacks

some_of : (o : Object) (p : Option Program) → IsSome (function_of o p) → IsSome p
some_of o None h = h
some_of o (Some program) h = refl

pub there : (o : Object) (default_passes : Option (List ℕ)) → MatchOption default_passes ⊤ (λ name. IsSome (function_of_named_program o name)) → MatchOption default_passes ⊤ (λ name. IsSome (get o.programs name))
there o None h = h
there o (Some name) h = some_of o (get o.programs name) h

module _ (file : List ℕ) (btf : Option (List ℕ)) (lines : Source) (o : Object) (linked : IsFileLinked file btf lines o) where
  named : (name : List ℕ) (f : Failure) → MatchBool (is_outside f) ⊤ (LacksNamed o (Some name) f) → MatchBool (is_outside f) ⊤ (IsFailureOf file btf lines (Some name) f)
  named name (NoProgram absent) h =
      (o, linked, ap Some (sym h.0), subst (λ (n : List ℕ). get o.programs n ≡ None) (sym h.0) (no_program _ o (linked.headline.finished.programs _ refl) name h.1))
  named name (CannotRead path) h = absurd h
  named name (Btf e) h = nothing (is_outside (Btf e)) _ h
  named name (Preparing e) h = nothing (is_outside (Preparing e)) _ h
  named name CannotWrite h = h
  named name Memory h = h

  pub lacking : (default_passes : Option (List ℕ)) (f : Failure) → MatchBool (is_outside f) ⊤ (LacksNamed o default_passes f) → MatchBool (is_outside f) ⊤ (IsFailureOf file btf lines default_passes f)
  lacking None f h = nothing (is_outside f) _ h
  lacking (Some name) f h = named name f h
