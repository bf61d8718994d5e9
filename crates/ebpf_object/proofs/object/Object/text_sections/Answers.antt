use Rattle.std.proofs.Common.{◌≡◌, ℕ, Bool, true, false, List, refl, sym, ap, ◌∙◌}
use Rattle.std.specs.Prelude.{◌||◌, ◌==◌}
use Rattle.std.specs.List.{list_any}
use Rattle.ebpf_object.specs.Names.{has_function_in}
use Rattle.ebpf_model.specs.Symbols.{text_sections_in}
use Rattle.ebpf_model.specs.declared.function.Function.{Function}
use Rattle.ebpf_object.proofs.object.Object.text_sections.Goals as goal

or_false : (b : Bool) → b ≡ (b || false)
or_false true = refl
or_false false = refl

pub returns : goal.returns
returns c =
    let each : (section : ℕ) → text_sections_in c.loop-key.sections section ≡ has_function_in c.args.self.now.functions section = λ section.
    or_false (text_sections_in c.loop-key.sections section)
    ∙ ap (λ (es : List ((ℕ × ℕ) × Function)). text_sections_in c.loop-key.sections section || list_any (λ (e : (ℕ × ℕ) × Function). section == e.0.0) es) (sym c.in-None.ensures.steps.0)
    ∙ c.loop-key.invariant.all section
    in
    λ i section. each section i
