use Rattle.ebpf_linker.proofs.Readying.{ready_of}
use Rattle.ebpf_linker.proofs.functions.Functions.link_map.Goals as goal

pub link_map_of-requires : goal.link_map_of-requires
link_map_of-requires c = (ready_of c.args.self.now.bodies.now c.args.self.now.references.now c.args.layout.now.start c.args.layout.now.order.items c.deref.result.now c.requires c.deref.ensures.value).0
