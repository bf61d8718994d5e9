use Rattle.std.proofs.Common.{◌≡◌, drop, map}
use Rattle.ebpf_base.specs.Maps.{put_all}
use Rattle.ebpf_chosen_programs.specs.PrivateContracts.{found_keys, key_set, member}
use Rattle.ebpf_chosen_programs.proofs.keys.found_keys.Given as goal

-- with the keys that are left, all are there
abbrev pub invariant-loop-number : goal.invariant-loop-number
invariant-loop-number l = put_all l.set (map member (found_keys (drop l.number l.keys) (drop l.number l.flags))) ≡ key_set (found_keys l.fn.keys l.fn.flags)
