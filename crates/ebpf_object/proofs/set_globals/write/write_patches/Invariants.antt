use Rattle.std.proofs.Common.{◌≡◌, map, drop}
use Rattle.ebpf_object.specs.Patches.{all_patched}
use Rattle.ebpf_object.specs.PrivateContracts.{value_of}
use Rattle.ebpf_object.proofs.set_globals.write.write_patches.Given as goal

-- what is left to write from here gives what all gives from the start
abbrev pub invariant-loop-patch : goal.invariant-loop-patch
invariant-loop-patch l = all_patched l.maps (map value_of (drop l.patch-index l.patches)) ≡ all_patched l.fn.maps (map value_of l.patches)
