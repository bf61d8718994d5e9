use Rattle.std.proofs.Common.{◌≡◌, ◌++◌}
use Rattle.cli_common.specs.ObjectPrograms.{setting_names}
use Rattle.cli_common.proofs.kconfig_externs.setting_names.Given as goal

-- with the names of the entries that are left, all are there
abbrev pub invariant-loop-entry : goal.invariant-loop-entry
invariant-loop-entry l = l.names ++ setting_names l.types l.entry-iterator ≡ setting_names l.types l.entries
