use Rattle.std.proofs.Common.{◌≡◌, drop}
use Rattle.std.specs.List.{position_from}
use Rattle.ebpf_btf_load.specs.KsymsSections.{first_int, is_int_of_4}
use Rattle.ebpf_btf_load.proofs.ksyms.first_int.Given as goal

-- the types that are left have the id that all have
abbrev pub invariant-loop-id : goal.invariant-loop-id
invariant-loop-id l = position_from is_int_of_4 l.id (drop l.id l.types.types) ≡ first_int l.types
