use Rattle.std.proofs.Common.{rules, ◌≡◌, ◌++◌, ◌∙◌, ℕ, List, [], length, ap, Option}
use Rattle.ebpf_linker.specs.declared.reference.Reference.{Reference}
use Rattle.ebpf_linker.specs.declared.reference.Target.{Target}
use Rattle.ebpf_reloc.specs.PrivateContracts.{calls_of_slots, numbered_callback, numbered_target, numbered_target_at, with_call}
use Rattle.ebpf_reloc.specs.SlotTargets.{read}
use Rattle.ebpf_reloc.proofs.CallsRefer.{callback_behind}
use Rattle.ebpf_reloc.proofs.calls.calls_of.Goals as goal

pub returns-clause-calls : goal.returns-clause-calls
returns-clause-calls c =
    let parts = read c.args.parts.now in
    let keys = c.args.numbers.now.keys.now in
    let f = c.args.function.now in
    let added : c.add_call.new.calls.items ≡ c.in_ok-calls.calls.items ++ with_call c.len.result c.numbered_target-callback.result [] = search rules in
    added
    ∙ ap (λ (cs : List Reference). cs ++ with_call c.len.result c.numbered_target-callback.result []) c.in_ok-calls.ensures.calls
    ∙ ap (λ (n : ℕ). calls_of_slots parts keys c.args.caller f ++ with_call n c.numbered_target-callback.result []) c.len.ensures
    ∙ ap (λ (t : Option Target). calls_of_slots parts keys c.args.caller f ++ with_call (length f.instructions) t [])
    (c.numbered_target-callback.ensures ∙ ap (numbered_target keys c.args.caller) c.callback_target.ensures)
    ∙ callback_behind (numbered_target_at parts keys c.args.caller f) (numbered_callback parts keys c.args.caller f) f.instructions
