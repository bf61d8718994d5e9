use Rattle.ebpf_linker.proofs.Readying.{ready_of}
use Rattle.ebpf_linker.proofs.functions.Functions.link.Goals as goal

pub assemble-requires-clause-ready : goal.assemble-requires-clause-ready
assemble-requires-clause-ready c = (ready_of c.args.self.now.bodies.now c.args.self.now.references.now c.args.layout.now.start c.args.layout.now.order.items c.as_slice-order.result.now c.requires c.as_slice-order.ensures.value).0
