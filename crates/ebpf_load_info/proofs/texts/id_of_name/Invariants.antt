use Rattle.std.proofs.Common.{◌≡◌, drop}
use Rattle.std.specs.List.{position_from}
use Rattle.ebpf_btf.specs.Strings.{id_of_name, is_named}
use Rattle.ebpf_load_info.proofs.texts.id_of_name.Given as goal

-- the types that are left have the id that all have
abbrev pub invariant-loop-id : goal.invariant-loop-id
invariant-loop-id l =
    position_from (is_named l.types l.name l.kind) l.id (drop l.id l.types.types) ≡ id_of_name l.types l.name l.kind
