use Rattle.std.proofs.Common.{◌≡◌}
use Rattle.std.specs.List.{list_any}
use Rattle.ebpf_object.specs.OlderHelpers.{calls_newer, have_newer}
use Rattle.ebpf_object.proofs.sanitize.have_newer.Given as goal

-- what is left to look at answers as all did at the start
abbrev pub invariant-loop-function : goal.invariant-loop-function
invariant-loop-function l = list_any (λ e. list_any calls_newer e.1.instructions) l.function-iterator ≡ have_newer l.functions
