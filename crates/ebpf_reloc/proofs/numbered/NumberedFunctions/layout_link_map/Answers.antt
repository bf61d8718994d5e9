use Rattle.std.proofs.Common.{ℕ, List, map, subst, refl, sym, ap, ◌∙◌}
use Rattle.ebpf_linker.specs.Numbered.{body_content}
use Rattle.ebpf_model.specs.declared.function.Function.{Function}
use Rattle.ebpf_reloc.proofs.Keys.{is_mapped}
use Rattle.ebpf_reloc.specs.Numbers.{function_keys, function_list}
use Rattle.ebpf_reloc.specs.PrivateContracts.{named_copy}
use Rattle.ebpf_reloc.specs.SlotTargets.{read}
use Rattle.ebpf_reloc.proofs.numbered.NumberedFunctions.layout_link_map.Goals as goal

pub returns : goal.returns
returns c =
    let parts = read c.args.self.now.parts in
    let bodies = ap (map body_content) c.linker_functions.ensures.bodies ∙ c.args.self.now.are_bodies in
    let calls = ap (map (λ v. v.items)) c.linker_functions.ensures.references ∙ c.args.self.now.are_calls in
    let ks = c.as_slice-keys.ensures.value ∙ c.args.self.now.are_keys in
    let list = ap (map (λ f. f.now)) c.as_slice-functions.ensures.value ∙ c.args.self.now.are_functions in
    is_mapped parts c.linker_functions.result.bodies.now c.linker_functions.result.references.now bodies calls c.args.layout.now.start c.in_ok-map.map (record { copies = c.from_vec.result; references = c.in_ok-map.map.references }) c.requires.start c.in_ok-map.ensures
    (c.from_vec.ensures ∙ c.in_ok-copies.ensures
    ∙ ap (λ (keys : List (ℕ × ℕ)). map (named_copy keys (map (λ f. f.now) c.as_slice-functions.result.now)) c.as_slice.result.now) ks
    ∙ ap (λ (fs : List Function). map (named_copy (function_keys parts.functions) fs) c.as_slice.result.now) list
    ∙ ap (map (named_copy (function_keys parts.functions) (function_list parts.functions))) c.as_slice.ensures)
    refl
