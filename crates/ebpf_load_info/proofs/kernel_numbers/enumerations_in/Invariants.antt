use Rattle.std.proofs.Common.{◌≡◌, drop}
use Rattle.ebpf_base.specs.Faults.{first_some, or_else}
use Rattle.ebpf_load_info.specs.KernelNumbers.{enumeration, helpers, map_type_numbering, named_enumerators}
use Rattle.ebpf_load_info.proofs.kernel_numbers.enumerations_in.Given as goal

-- what was found, or else what the types that are left have, is what all have
abbrev pub invariant-loop-id : goal.invariant-loop-id
invariant-loop-id l = record {
  helpers : or_else l.helpers (first_some (named_enumerators l.types helpers.enumeration) (drop l.id l.types.types)) ≡ enumeration l.types helpers.enumeration;
  map_types : or_else l.map_types (first_some (named_enumerators l.types map_type_numbering.enumeration) (drop l.id l.types.types)) ≡ enumeration l.types map_type_numbering.enumeration;
}
