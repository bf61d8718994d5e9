use Rattle.std.proofs.Common.{rules, ◌≡◌, ◌∙◌, Some, None, sym}
use Rattle.std.specs.BTreeMap.{get as at_key}
use Rattle.std.specs.Ordering.{nat_cmp}
use Rattle.ebpf_btf_decls.proofs.NumberedNames.{none_distinct}
use Rattle.ebpf_btf_decls.proofs.numbered_names.NumberedNames.none.Goals as goal

pub returns-clause-numbered : goal.returns-clause-numbered
returns-clause-numbered c = λ strings. record {
  distinct = none_distinct c.new.result c.new-2.result c.new.ensures c.new-2.ensures;
  offsets = λ offset n at. let none : at_key nat_cmp c.new-3.result offset ≡ None = search rules in let wrong : None ≡ Some n = sym none ∙ at in absurd (cc);
}
