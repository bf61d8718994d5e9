use Rattle.cli_list.proofs.Listed.{of_map, of_refusal}
use Rattle.ebpf_object.proofs.Staging.{of_prepared}
use Rattle.ebpf_reloc.specs.SlotTargets.{read}
use Rattle.cli_list.proofs.layout.layout_of.Goals as goal

pub returns-in-Ok : goal.returns-in-Ok
returns-in-Ok c =
    let o = c.args.maps.now.object.now in
    let p = c.args.program.now in
    of_prepared c.layout_of_map.result
    (λ l made. of_map o p l (read c.args.maps.now.functions.parts) c.requires c.as_str.result.now c.as_str.ensures c.in-Ok.map c.in-Ok.ensures.program made)
    c.layout_of_map.ensures

pub returns-in-Err : goal.returns-in-Err
returns-in-Err c =
    let o = c.args.maps.now.object.now in
    let p = c.args.program.now in
    of_prepared c.refused_layout.result
    (λ l made. of_refusal o p l (read c.args.maps.now.functions.parts) c.requires c.as_str.result.now c.as_str.ensures c.in-Err.error c.in-Err.ensures.program made)
    c.refused_layout.ensures
