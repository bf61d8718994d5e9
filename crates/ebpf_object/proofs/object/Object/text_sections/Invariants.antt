use Rattle.std.proofs.Common.{◌≡◌, ℕ, true, Some}
use Rattle.std.specs.Prelude.{◌||◌, ◌==◌}
use Rattle.std.specs.List.{list_any}
use Rattle.ebpf_object.specs.Names.{has_function_in}
use Rattle.ebpf_model.specs.Symbols.{text_sections_in}
use Rattle.ebpf_object.proofs.object.Object.text_sections.Given as goal

-- the sections so far, that of the last function among them, and those of the functions that are left
abbrev pub invariant-loop-key : goal.invariant-loop-key
invariant-loop-key l = record {
  all : (section : ℕ) → (text_sections_in l.sections section || list_any (λ e. section == e.0.0) l.key-iterator) ≡ has_function_in l.fn.self.functions section;
  last : (section : ℕ) → l.last ≡ Some section → text_sections_in l.sections section ≡ true;
}
