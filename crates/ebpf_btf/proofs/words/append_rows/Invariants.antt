use Rattle.std.proofs.Common.{◌≡◌, ◌++◌}
use Rattle.std.specs.Prelude.{flat_map}
use Rattle.ebpf_btf.proofs.words.append_rows.Given as goal

abbrev pub invariant-loop-row : goal.invariant-loop-row
invariant-loop-row g l = l.out.items ≡ l.initial.out.items ++ flat_map g.R.ListRow.words l.yielded
