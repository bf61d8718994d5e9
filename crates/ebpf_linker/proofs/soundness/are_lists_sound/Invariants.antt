use Rattle.std.proofs.Common.{◌≡◌, drop, None}
use Rattle.std.specs.List.{list_all}
use Rattle.ebpf_linker.specs.PrivateContracts.{is_list_sound}
use Rattle.ebpf_linker.proofs.soundness.are_lists_sound.Given as goal

-- the tests that are left from here give what all give from the start
abbrev pub invariant-loop-list : goal.invariant-loop-list
invariant-loop-list l = list_all (λ v. is_list_sound l.count None v.items) (drop l.list-index l.calls) ≡ list_all (λ v. is_list_sound l.count None v.items) l.calls
