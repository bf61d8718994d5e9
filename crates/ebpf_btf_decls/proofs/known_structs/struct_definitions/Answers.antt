use Rattle.ebpf_btf_decls.specs.Maps.{struct_definitions}
use Rattle.ebpf_btf_decls.proofs.BothModes.{one_more, same_remembered, definitions_same}
use Rattle.ebpf_btf_decls.proofs.known_structs.struct_definitions.Goals as goal

pub returns-clause-known : goal.returns-clause-known
returns-clause-known c = record {
  maps = one_more (struct_definitions c.args.mode c.args.btf.now) (definitions_same c.args.mode c.args.btf.now) c.args.known.now.maps c.insert.new.self c.args.name.now c.args.struct_id c.in_ok-said.said c.requires.maps c.in_ok-said.ensures.says c.in_ok-insert.ensures.updates;
  inner_maps = c.in_ok-said.ensures.known;
}

pub returns-in_err-insert-clause-known : goal.returns-in_err-insert-clause-known
returns-in_err-insert-clause-known c = record {
  maps = same_remembered (struct_definitions c.args.mode c.args.btf.now) c.args.known.now.maps c.insert.new.self c.requires.maps c.in_err-insert.ensures.err;
  inner_maps = c.in_ok-said.ensures.known;
}
