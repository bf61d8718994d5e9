use Rattle.std.proofs.Common.{◌≡◌, drop}
use Rattle.std.specs.List.{flat_map}
use Rattle.ebpf_base.specs.Maps.{put_all}
use Rattle.cli_prepare.specs.KernelValues.{kernel_value, kernel_values, value_entry}
use Rattle.cli_prepare.proofs.kconfig_values.values_of.Given as goal

-- with the values of the externs that are left, all are there
abbrev pub invariant-loop-wanted : goal.invariant-loop-wanted
invariant-loop-wanted l =
    put_all l.values (flat_map (λ e. value_entry e.name (kernel_value l.kernel l.order e)) (drop l.wanted-index l.externs))
    ≡ kernel_values l.kernel l.order l.externs
