use Rattle.std.proofs.Common.{◌≡◌, drop, None}
use Rattle.ebpf_linker.specs.PrivateContracts.{is_list_sound}
use Rattle.ebpf_linker.proofs.soundness.is_list_sound.Given as goal

-- the tests that are left from here give what all give from the start
abbrev pub invariant-loop-call : goal.invariant-loop-call
invariant-loop-call l = is_list_sound l.count l.before (drop l.call-index l.calls) ≡ is_list_sound l.count None l.calls
