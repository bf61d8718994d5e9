use Rattle.std.proofs.Common.{◌≡◌, ◌≤◌, ◌+◌, ◌-◌, ◌^◌, [], drop, length, map, ap, arith, rules, Some}
use Rattle.std.proofs.lemmas.Grind.{common_steps}
use Rattle.std.specs.Prelude.{min}
use Rattle.ebpf_base.proofs.Lists.{rest_none}
use Rattle.ebpf_linker.specs.LinkMap.{copied_slot_count}
use Rattle.ebpf_reloc.specs.Laws.{copy_of}
use Rattle.cli_list.proofs.layout.linked.Goals as goal

pub returns : goal.returns
returns c =
    let copies = c.args.copies.now in
    let i = c.loop-copy.copy-index in
    let past : length copies ≤ i = search rules in
    let none : drop i copies ≡ [] = rest_none copies i past in
    let slots : min (c.loop-copy.slots + 0) (2 ^ 64 - 1) ≡ min (copied_slot_count (map copy_of copies)) (2 ^ 64 - 1) = rw none at c.loop-copy.invariant.slots in
    let is : c.loop-copy.slots ≡ min (copied_slot_count (map copy_of copies)) (2 ^ 64 - 1) = omega (arith, c.loop-copy.invariant.near) in
    record { slots = ap Some is; functions = grind (arith, common_steps) }
