use Rattle.std.proofs.Common.{map, ap, ◌∙◌}
use Rattle.ebpf_linker.specs.Numbered.{body_content}
use Rattle.ebpf_reloc.proofs.Keys.{count_calls, references_sound}
use Rattle.ebpf_reloc.specs.SlotTargets.{read}
use Rattle.ebpf_reloc.proofs.numbered.NumberedFunctions.linker_functions.Goals as goal

pub new-requires-clause-count : goal.new-requires-clause-count
new-requires-clause-count c =
    let bodies = ap (map body_content) c.as_slice-bodies.ensures.value ∙ c.args.self.now.are_bodies in
    let calls = ap (map (λ v. v.items)) c.as_slice-calls.ensures.value ∙ c.args.self.now.are_calls in
    count_calls (read c.args.self.now.parts) c.as_slice-bodies.result.now c.as_slice-calls.result.now bodies calls

pub new-requires-clause-sound : goal.new-requires-clause-sound
new-requires-clause-sound c =
    let bodies = ap (map body_content) c.as_slice-bodies.ensures.value ∙ c.args.self.now.are_bodies in
    let calls = ap (map (λ v. v.items)) c.as_slice-calls.ensures.value ∙ c.args.self.now.are_calls in
    references_sound (read c.args.self.now.parts) c.as_slice-bodies.result.now c.as_slice-calls.result.now bodies calls
