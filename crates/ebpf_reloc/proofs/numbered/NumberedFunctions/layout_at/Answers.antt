use Rattle.std.proofs.Common.{List, ℕ, subst, sym, ap, ◌∙◌, IfOk, IfErr, MatchBool}
use Rattle.std.specs.Prelude.{⊤}
use Rattle.std.specs.List.Sorted.{IsStrictlySortedBy}
use Rattle.ebpf_base.proofs.Maps.{entries_rise}
use Rattle.ebpf_base.specs.Maps.{key_cmp}
use Rattle.ebpf_reloc.proofs.SoFar.{no_program}
use Rattle.ebpf_reloc.proofs.Keys.{number_names}
use Rattle.ebpf_reloc.specs.Linking.{IsProgramFault}
use Rattle.ebpf_model.specs.Memory.{is_slot_memory}
use Rattle.ebpf_reloc.specs.Numbers.{function_keys}
use Rattle.ebpf_reloc.specs.PrivateContracts.{number_of_key, IsLaidOutAt}
use Rattle.ebpf_reloc.specs.SlotTargets.{read}
use Rattle.ebpf_reloc.proofs.numbered.NumberedFunctions.layout_at.Goals as goal

pub number_of_key-requires : goal.number_of_key-requires
number_of_key-requires c = subst (λ (keys : List (ℕ × ℕ)). IsStrictlySortedBy key_cmp keys) (sym (c.as_slice.ensures.value ∙ c.args.self.now.are_keys)) (entries_rise c.args.self.now.parts.functions.now)

pub layout_by_number-requires : goal.layout_by_number-requires
layout_by_number-requires c =
    let key : ℕ × ℕ = (c.args.section, c.args.address) in
    let keys = c.as_slice.ensures.value ∙ c.args.self.now.are_keys in
    (number_names (function_keys c.args.self.now.parts.functions.now) key c.in-Some.number (sym (c.in-Some.ensures ∙ ap (λ (ks : List (ℕ × ℕ)). number_of_key ks key) keys))).0

pub returns-in-Some-clause-layout : goal.returns-in-Some-clause-layout
returns-in-Some-clause-layout c =
    let key : ℕ × ℕ = (c.args.section, c.args.address) in
    let keys = c.as_slice.ensures.value ∙ c.args.self.now.are_keys in
    let named = (number_names (function_keys c.args.self.now.parts.functions.now) key c.in-Some.number (sym (c.in-Some.ensures ∙ ap (λ (ks : List (ℕ × ℕ)). number_of_key ks key) keys))).1 in
    subst (λ (k : ℕ × ℕ). IfOk c.layout_by_number.result (λ l. IsLaidOutAt (read c.args.self.now.parts) c.args.self.now.bodies.items c.args.self.now.calls.items k l)) named c.layout_by_number.ensures.layout

pub returns-in-Some-clause-fault : goal.returns-in-Some-clause-fault
returns-in-Some-clause-fault c =
    let key : ℕ × ℕ = (c.args.section, c.args.address) in
    let keys = c.as_slice.ensures.value ∙ c.args.self.now.are_keys in
    let named = (number_names (function_keys c.args.self.now.parts.functions.now) key c.in-Some.number (sym (c.in-Some.ensures ∙ ap (λ (ks : List (ℕ × ℕ)). number_of_key ks key) keys))).1 in
    subst (λ (k : ℕ × ℕ). IfErr c.layout_by_number.result (λ e. MatchBool (is_slot_memory e) ⊤ (IsProgramFault (read c.args.self.now.parts) k e))) named c.layout_by_number.ensures.fault

pub returns-in-None-clause-fault : goal.returns-in-None-clause-fault
returns-in-None-clause-fault c =
    let key : ℕ × ℕ = (c.args.section, c.args.address) in
    let keys = c.as_slice.ensures.value ∙ c.args.self.now.are_keys in
    no_program (read c.args.self.now.parts) key (sym (c.in-None.ensures ∙ ap (λ (ks : List (ℕ × ℕ)). number_of_key ks key) keys))
