use Rattle.std.proofs.Common.{◌≡◌}
use Rattle.std.specs.Prelude.{◌==◌}
use Rattle.std.specs.FinMap.{entries}
use Rattle.std.specs.List.{find}
use Rattle.ebpf_base.specs.Maps.{by_bytes}
use Rattle.ebpf_least_types.proofs.id_uses.section_name.Given as goal

-- the first among the names that are left is the first of all
abbrev pub invariant-loop-name : goal.invariant-loop-name
invariant-loop-name l = find (λ e. e.1.0 == l.index) (by_bytes l.name-iterator) ≡ find (λ e. e.1.0 == l.index) (entries l.infos)
