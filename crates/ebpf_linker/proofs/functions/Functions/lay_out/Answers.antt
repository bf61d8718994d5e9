use Rattle.std.proofs.Common.{refl}
use Rattle.ebpf_linker.proofs.Readying.{laid_out}
use Rattle.ebpf_linker.proofs.functions.Functions.lay_out.Goals as goal

pub returns-in-Ok : goal.returns-in-Ok
returns-in-Ok c = (refl, laid_out c.args.self.now.bodies.now c.args.self.now.references.now c.args.start _ c.in-Ok.order c.args.self.now.sound c.requires c.in_ok-order.ensures c.in-Ok.is)
