use Rattle.std.proofs.Common.{◌≡◌}
use Rattle.std.specs.FinMap.{contains_key, entries}
use Rattle.std.specs.List.{list_all}
use Rattle.ebpf_base.specs.Maps.{by_bytes}
use Rattle.ebpf_reloc.proofs.named_slots.all_described.Given as goal

-- the maps that are left decide
abbrev pub invariant-loop-name : goal.invariant-loop-name
invariant-loop-name l = list_all (λ e. contains_key l.descriptors e.0) (by_bytes l.name-iterator) ≡ list_all (λ e. contains_key l.descriptors e.0) (entries l.maps)
