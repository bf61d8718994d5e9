use Rattle.std.proofs.Common.{ℕ, map, subst, sym, ap, ◌∙◌}
use Rattle.ebpf_linker.specs.Numbered.{body_content}
use Rattle.ebpf_reloc.proofs.SoFar.{is_linked}
use Rattle.ebpf_reloc.proofs.Keys.{program_by_key}
use Rattle.ebpf_reloc.specs.Numbers.{function_keys, key_in}
use Rattle.ebpf_reloc.specs.SlotTargets.{read}
use Rattle.ebpf_reloc.proofs.numbered.NumberedFunctions.linked_function.Goals as goal

pub returns : goal.returns
returns c =
    let parts = read c.args.self.now.parts in
    let bodies = ap (map body_content) c.linker_functions.ensures.bodies ∙ c.args.self.now.are_bodies in
    let calls = ap (map (λ v. v.items)) c.linker_functions.ensures.references ∙ c.args.self.now.are_calls in
    let number = c.args.layout.now.start in
    let (ks, h) = c.in_ok-linked.ensures in
    is_linked parts number c.function.result.now (map (key_in (function_keys parts.functions)) ks) c.in_ok-linked.linked c.with_linked.result c.requires.start c.function.ensures
    (program_by_key parts c.linker_functions.result.bodies.now c.linker_functions.result.references.now bodies calls number ks c.in_ok-linked.linked c.requires.start h)
    c.with_linked.ensures
