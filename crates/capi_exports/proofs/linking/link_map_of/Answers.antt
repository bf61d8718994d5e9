use Rattle.capi_exports.proofs.MappedPrograms.{unlinkable}
use Rattle.capi_exports.proofs.linking.link_map_of.Goals as goal

pub returns-in-Err : goal.returns-in-Err
returns-in-Err c =
    unlinkable c.args.object.now c.args.name.now c.in-Some.text.now c.own_link_map.result c.in-Some.ensures c.own_link_map.ensures.program
    c.in-Err.fault c.slot_refusal.result c.in-Err.is c.in-Err.ensures.memory c.slot_refusal.ensures.refusal
