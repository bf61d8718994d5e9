use Rattle.ebpf_reloc.proofs.Keys.{found_key, no_key}
use Rattle.ebpf_chosen_programs.proofs.keys.number_of_key.Goals as goal

pub returns-in-Ok : goal.returns-in-Ok
returns-in-Ok c = found_key c.args.keys.now c.args.key c.in-Ok.number c.requires c.in-Ok.ensures.bound c.in-Ok.ensures.ok

pub returns-in-Err : goal.returns-in-Err
returns-in-Err c = no_key c.args.keys.now c.args.key c.in-Err.field-0 c.requires c.in-Err.ensures.position
