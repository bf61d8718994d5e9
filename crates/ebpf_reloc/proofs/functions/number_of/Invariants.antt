use Rattle.std.proofs.Common.{◌≡◌, ◌≤◌, ◌+◌, length, nat_lt, count_by}
use Rattle.std.specs.FinMap.{entries}
use Rattle.ebpf_reloc.proofs.functions.number_of.Given as goal

abbrev pub invariant-loop-before : goal.invariant-loop-before
invariant-loop-before l = record {
  rest : l.number + count_by (λ e. nat_lt e.0 l.offset) l.before-iterator ≡ count_by (λ e. nat_lt e.0 l.offset) (entries l.section_relocations);
  room : l.number + length l.before-iterator ≤ length (entries l.section_relocations);
}
