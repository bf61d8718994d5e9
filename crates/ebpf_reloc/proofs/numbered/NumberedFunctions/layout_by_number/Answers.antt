use Rattle.std.proofs.Common.{ℕ, List, map, subst, sym, ap, ◌∙◌}
use Rattle.ebpf_linker.specs.Numbered.{body_content}
use Rattle.ebpf_linker.specs.Faults.{LeastFault, checked_references}
use Rattle.ebpf_linker.specs.Copies.{IsLayoutAnswer}
use Rattle.ebpf_model.specs.Memory.{is_slot_memory}
use Rattle.ebpf_model.specs.declared.function.Function.{Function}
use Rattle.ebpf_reloc.proofs.SoFar.{is_fault, unless_memory}
use Rattle.ebpf_reloc.proofs.Keys.{fault_by_key}
use Rattle.ebpf_reloc.specs.Numbers.{function_keys, key_in, with_function_names}
use Rattle.ebpf_reloc.specs.References.{functions_of}
use Rattle.ebpf_reloc.specs.SlotTargets.{read}
use Rattle.ebpf_reloc.proofs.numbered.NumberedFunctions.layout_by_number.Goals as goal

pub returns-in_ok-with_function_names-in-Err-clause-fault : goal.returns-in_ok-with_function_names-in-Err-clause-fault
returns-in_ok-with_function_names-in-Err-clause-fault c =
    let parts = read c.args.self.now.parts in
    let bodies = ap (map body_content) c.linker_functions.ensures.bodies ∙ c.args.self.now.are_bodies in
    let calls = ap (map (λ v. v.items)) c.linker_functions.ensures.references ∙ c.args.self.now.are_calls in
    let key = key_in (function_keys parts.functions) c.args.number in
    let list = ap (map (λ f. f.now)) c.as_slice-functions.ensures.value ∙ c.args.self.now.are_functions in
    let same = c.in_ok-with_function_names-in-Err.ensures ∙ ap (λ (gs : List Function). with_function_names gs c.in-Err.fault) list in
    let least = subst (IsLayoutAnswer c.linker_functions.result.bodies.now c.linker_functions.result.references.now c.args.number) c.in-Err.is c.in_ok-answer.ensures in
    let fault = fault_by_key parts c.linker_functions.result.bodies.now c.linker_functions.result.references.now bodies calls c.args.number c.in-Err.fault c.requires least in
    unless_memory (is_slot_memory c.in_ok-with_function_names-in-Err.field-0)
    (is_fault parts c.args.number c.in_ok-with_function_names-in-Err.field-0 c.requires (subst (λ e. LeastFault (functions_of parts) (checked_references (functions_of parts) key) key e) (sym same) fault))
