use Rattle.ebpf_btf_decls.specs.Maps.{inner_struct_definition}
use Rattle.ebpf_btf_decls.proofs.BothModes.{one_more, same_remembered, inner_struct_same}
use Rattle.ebpf_btf_decls.proofs.known_structs.inner_struct_definition.Goals as goal

pub returns-clause-known : goal.returns-clause-known
returns-clause-known c = one_more (inner_struct_definition c.args.mode c.args.btf.now) (inner_struct_same c.args.mode c.args.btf.now) c.args.known.now c.insert.new.self c.args.name.now c.args.struct_id c.in_ok-said.said c.requires c.in_ok-said.ensures c.in_ok-insert.ensures.updates

pub returns-in_err-insert-clause-known : goal.returns-in_err-insert-clause-known
returns-in_err-insert-clause-known c = same_remembered (inner_struct_definition c.args.mode c.args.btf.now) c.args.known.now c.insert.new.self c.requires c.in_err-insert.ensures.err
