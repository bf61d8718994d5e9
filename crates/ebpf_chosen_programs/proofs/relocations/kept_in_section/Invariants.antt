use Rattle.std.proofs.Common.{◌≡◌}
use Rattle.std.specs.FinMap.{empty, entries}
use Rattle.std.specs.List.{filter}
use Rattle.ebpf_base.specs.Maps.{put_all}
use Rattle.ebpf_chosen_programs.specs.PrivateContracts.{stays_among}
use Rattle.ebpf_chosen_programs.proofs.relocations.kept_in_section.Given as goal

-- with those of the relocations that are left, all are there
abbrev pub invariant-loop-offset : goal.invariant-loop-offset
invariant-loop-offset l = put_all l.kept (filter (λ r. stays_among l.bytes.items r.0) l.offset-iterator) ≡ put_all empty (filter (λ r. stays_among l.bytes.items r.0) (entries l.fn.relocations))
