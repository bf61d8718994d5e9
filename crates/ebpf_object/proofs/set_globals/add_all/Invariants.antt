use Rattle.std.proofs.Common.{◌≡◌, ◌++◌, drop, map}
use Rattle.std.specs.FinMap.{get}
use Rattle.std.specs.List.{flat_map}
use Rattle.ebpf_base.specs.Faults.{first_some}
use Rattle.ebpf_base.specs.Maps.{lent_bytes}
use Rattle.ebpf_object.specs.Patches.{patches_at, patch_fault_at, globals_of}
use Rattle.ebpf_object.specs.PrivateContracts.{value_of}
use Rattle.ebpf_object.proofs.set_globals.add_all.Given as goal

-- what is left from here is what all asked for from the start
abbrev pub invariant-loop-name : goal.invariant-loop-name
invariant-loop-name l = record {
  patches : map value_of l.patches.items ++ flat_map (λ name. patches_at l.lookup.symbols.now l.lookup.maps.now name (get (globals_of l.globals.entries) name)) (lent_bytes (drop l.name-index l.names))
      ≡ flat_map (λ name. patches_at l.lookup.symbols.now l.lookup.maps.now name (get (globals_of l.globals.entries) name)) (lent_bytes l.names);
  fault : first_some (λ name. patch_fault_at l.lookup.symbols.now l.lookup.maps.now name (get (globals_of l.globals.entries) name)) (lent_bytes (drop l.name-index l.names))
      ≡ first_some (λ name. patch_fault_at l.lookup.symbols.now l.lookup.maps.now name (get (globals_of l.globals.entries) name)) (lent_bytes l.names);
}
