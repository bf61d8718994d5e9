use Rattle.std.proofs.Common.{◌≡◌, false}
use Rattle.std.specs.FinMap.{entries}
use Rattle.ebpf_base.specs.Faults.{first_some}
use Rattle.ebpf_base.specs.Maps.{mapped_entries}
use Rattle.ebpf_model.specs.Walks.{IsWithinFunction}
use Rattle.ebpf_reloc.specs.Relocated.{function_fault, first_fault, relocated}
use Rattle.ebpf_reloc.specs.Passes.{rule_edit_of, rule_symbols}
use Rattle.ebpf_reloc.proofs.functions.check_functions.Given as goal

-- the functions that are left have the first fault that all had at the start, and where none was edited and they stay,
-- all stay; the walk is ready for the next one
abbrev pub invariant-loop-function : goal.invariant-loop-function
invariant-loop-function l = record {
  fault : first_some (λ e. function_fault (rule_edit_of l.rule) (rule_symbols l.rule) l.relocations e.1) l.function-iterator ≡ first_fault (rule_edit_of l.rule) (rule_symbols l.rule) l.relocations l.functions;
  stay : l.edits ≡ false → mapped_entries (relocated (rule_edit_of l.rule) l.relocations) l.function-iterator ≡ l.function-iterator → mapped_entries (relocated (rule_edit_of l.rule) l.relocations) (entries l.functions) ≡ entries l.functions;
  ready : IsWithinFunction l.relocations l.walk;
}
