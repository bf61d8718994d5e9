use Rattle.std.proofs.Common.{◌≡◌, length}
use Rattle.ebpf_kconfig.specs.ConfiguredValues.{setting}
use Rattle.ebpf_kconfig.proofs.config.setting.Given as goal

-- the lines that are left give the name what all give it
abbrev pub invariant-loop-line : goal.invariant-loop-line
invariant-loop-line l = setting l.rest l.name ≡ setting l.config l.name

abbrev pub decreases-loop-line : goal.decreases-loop-line
decreases-loop-line l = length l.rest
