use Rattle.std.proofs.Common.{◌≡◌, ℕ, take, drop}
use Rattle.std.specs.BTreeSet.{contains}
use Rattle.std.specs.List.{find}
use Rattle.std.specs.Ordering.{nat_cmp}
use Rattle.std.specs.Prelude.{is_some}
use Rattle.ebpf_sections.specs.Texts.{is_text_at, repeated}
use Rattle.ebpf_sections.proofs.FunctionSymbols.{repeated_from}
use Rattle.ebpf_sections.proofs.text.check_conflicts.Given as goal

abbrev pub invariant-loop-symbol : goal.invariant-loop-symbol
invariant-loop-symbol l = record {
  found : (q : ℕ) → contains nat_cmp l.found q ≡ is_some (find (is_text_at q) (take l.symbol-index l.symbols));
  repeated : repeated_from (take l.symbol-index l.symbols) (drop l.symbol-index l.symbols) ≡ repeated l.symbols;
}
