use Rattle.std.proofs.Common.{List, ℕ, subst, sym, ◌∙◌}
use Rattle.std.specs.List.Sorted.{IsStrictlySortedBy}
use Rattle.ebpf_base.proofs.Maps.{entries_rise}
use Rattle.ebpf_base.specs.Maps.{key_cmp}
use Rattle.ebpf_reloc.proofs.numbered.NumberedFunctions.new.Goals as goal

pub all_calls-requires : goal.all_calls-requires
all_calls-requires c = subst (λ (keys : List (ℕ × ℕ)). IsStrictlySortedBy key_cmp keys) (sym (c.as_slice-2.ensures.value ∙ c.in_ok-keys.ensures)) (entries_rise c.args.parts.now.functions.now)
