use Rattle.std.proofs.Common.{rules, sym, ap, ◌∙◌, ◌≡◌}
use Rattle.std.proofs.lemmas.Int.{to_z-of_z}
use Rattle.ebpf_reloc.specs.Maps.{with_map_target}
use Rattle.ebpf_reloc.proofs.MapChains.{tables_next, tables_none}
use mir.Syntax.{w32}
use mir.Val.{SFits}
use Rattle.ebpf_reloc.proofs.maps.MapTables.gather.Goals as goal

pub loop-descriptor-init : goal.loop-descriptor-init
loop-descriptor-init g c = (λ i. record { by_symbol = c.new.ensures i; by_section = c.new-2.ensures i }) ∙ sym tables_none

pub loop-descriptor-preserved : goal.loop-descriptor-preserved
loop-descriptor-preserved g c =
    let fits_imm : SFits w32 c.in-Some.descriptor = search rules in
    let put : c.put.new.self ≡ with_map_target c.loop-descriptor.tables c.in-Some.descriptor c.in-Some.map.now =
    c.in_ok-put.ensures ∙ ap (λ d. with_map_target c.loop-descriptor.tables d c.in-Some.map.now) (to_z-of_z w32 c.in-Some.descriptor fits_imm) in
    tables_next c.loop-descriptor.tables c.put.new.self c.loop-descriptor.yielded (c.in-Some.field-0-0, c.in-Some.descriptor, c.in-Some.map) c.loop-descriptor.invariant put
