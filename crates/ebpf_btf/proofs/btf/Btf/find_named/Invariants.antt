use Rattle.std.proofs.Common.{◌≡◌, drop}
use Rattle.std.specs.List.{position_from}
use Rattle.ebpf_btf.specs.Strings.{id_of_name, is_named}
use Rattle.ebpf_btf.proofs.btf.Btf.find_named.Given as goal

abbrev pub invariant-loop-id : goal.invariant-loop-id
invariant-loop-id l =
    position_from (is_named l.self l.name l.kind) l.id (drop l.id l.self.types) ≡ id_of_name l.self l.name l.kind
