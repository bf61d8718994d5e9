use Rattle.std.proofs.Common.{◌≡◌, ◌++◌, drop}
use Rattle.std.specs.FinMap.{get}
use Rattle.std.specs.List.{flat_map}
use Rattle.std.specs.Option.{option_to_list}
use Rattle.ebpf_base.specs.Maps.{lent_bytes}
use Rattle.ebpf_kconfig.specs.KconfigMaps.{lent_externs}
use Rattle.ebpf_kconfig.proofs.layout.add_names.Given as goal

-- with the externs of the names that are left, all are there
abbrev pub invariant-loop-name : goal.invariant-loop-name
invariant-loop-name l =
    lent_externs l.all.items ++ flat_map (λ name. option_to_list (get l.group name)) (lent_bytes (drop l.name-index l.names))
    ≡ lent_externs l.fn.all.items ++ flat_map (λ name. option_to_list (get l.group name)) (lent_bytes l.names)
