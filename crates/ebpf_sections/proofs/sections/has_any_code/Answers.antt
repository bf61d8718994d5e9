use Rattle.std.proofs.Common.{◌≡◌, ◌∷◌, rules, sym, ap, ◌∙◌, false}
use Rattle.std.specs.List.{list_any}
use Rattle.std.specs.Prelude.{◌||◌}
use Rattle.ebpf_elf.specs.Sections.{sections}
use Rattle.ebpf_sections.specs.Sections.{has_code}
use Rattle.ebpf_sections.proofs.sections.has_any_code.Goals as goal

pub loop-section-init : goal.loop-section-init
loop-section-init c =
    let items : c.into_iter-section-iterator.result ≡ sections c.args.file.now = search rules in
    ap (list_any has_code) items

pub loop-section-preserved : goal.loop-section-preserved
loop-section-preserved c =
    let s = c.in-Some.section in
    let front : c.loop-section.section-iterator ≡ s ∷ c.next.new.self = search rules in
    let none : has_code s ≡ false = search rules in
    sym (ap (list_any has_code) front ∙ ap (λ b. b || list_any has_code c.next.new.self) none) ∙ c.loop-section.invariant
