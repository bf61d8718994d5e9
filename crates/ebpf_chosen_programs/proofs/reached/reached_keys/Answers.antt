use Rattle.std.proofs.Common.{◌∙◌, sym, subst, List}
use Rattle.std.specs.List.Sorted.{IsStrictlySortedBy}
use Rattle.std.proofs.lemmas.Result.{IfOk-weaker}
use Rattle.ebpf_base.proofs.Maps.{entries_rise}
use Rattle.ebpf_base.specs.Maps.{key_cmp}
use Rattle.ebpf_model.specs.Symbols.{FunctionKey}
use Rattle.ebpf_reloc.specs.SlotTargets.{read}
use Rattle.ebpf_chosen_programs.proofs.ByKeys.{reached_by}
use Rattle.ebpf_chosen_programs.proofs.reached.reached_keys.Goals as goal

pub program_numbers-requires : goal.program_numbers-requires
program_numbers-requires c =
    let f = c.args.functions.now in
    subst (λ (keys : List FunctionKey). IsStrictlySortedBy key_cmp keys) (sym (c.as_slice-keys.ensures.value ∙ f.are_keys)) (entries_rise (read f.parts).functions)

pub returns : goal.returns
returns c =
    let f = c.args.functions.now in
    IfOk-weaker c.found_keys.result _ _ (λ set is. reached_by (read f.parts) c.args.programs.now f.bodies.items f.calls.items c.as_slice-references.result.now f.keys.items c.as_slice-keys.result.now c.in_ok-first.first.items _ c.in_ok-is_found.is_found.items _ set f.are_keys f.are_bodies f.are_calls c.as_slice-keys.ensures.value c.as_slice-references.ensures.value c.in_ok-first.ensures c.as_slice.ensures.value c.in_ok-is_found.ensures c.as_slice-2.ensures.value is) c.found_keys.ensures
