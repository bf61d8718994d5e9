use Rattle.std.proofs.Common.{◌≡◌, ◌-◌, map}
use Rattle.std.specs.List.{range_with_len}
use Rattle.ebpf_btf_ext.specs.ExtFormat.{all_ok, core_relo_at, core_relos_at}
use Rattle.ebpf_btf_ext.specs.PrivateContracts.{prepended}
use Rattle.ebpf_btf_ext.proofs.ext_part.read_relocations.Given as goal

abbrev pub invariant-loop-number : goal.invariant-loop-number
invariant-loop-number l =
    prepended l.items.items (all_ok (map (core_relo_at l.type_matches l.bytes l.size l.offset) (range_with_len l.number (l.count - l.number)))) ≡ core_relos_at l.type_matches l.bytes l.size l.offset l.count
