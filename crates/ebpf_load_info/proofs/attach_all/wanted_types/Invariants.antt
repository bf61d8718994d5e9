use Rattle.std.proofs.Common.{◌≡◌, ◌++◌, drop, map}
use Rattle.ebpf_base.specs.Maps.{lent_bytes}
use Rattle.ebpf_load_info.specs.PrivateContracts.{wanted_type}
use Rattle.ebpf_load_info.proofs.attach_all.wanted_types.Given as goal

-- with those of the sections that are left, all are there
abbrev pub invariant-loop-section_name : goal.invariant-loop-section_name
invariant-loop-section_name l =
    l.wanted ++ map wanted_type (lent_bytes (drop l.section_name-index l.section_names)) ≡ map wanted_type (lent_bytes l.section_names)
