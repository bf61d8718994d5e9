use Rattle.std.proofs.Common.{rules, ◌≡◌, [], true, length, refl}
use Rattle.std.specs.Prelude.{is_some}
use Rattle.std.specs.FinMap.{get, insert}
use Rattle.ebpf_btf_decls.proofs.SectionMaps.{one_wanted, one_there}
use Rattle.ebpf_btf_decls.proofs.data_sections.NamedSections.look_for.Goals as goal

pub gather_into-requires : goal.gather_into-requires
gather_into-requires c =
    let put : c.insert.new.self ≡ insert c.new-by_name.result c.args.name.now [] = search rules in
    one_wanted c.new-by_name.result c.insert.new.self c.args.name.now (length c.args.name.now) c.new-by_name.ensures refl put

pub returns-clause-there : goal.returns-clause-there
returns-clause-there c =
    let put : c.insert.new.self ≡ insert c.new-by_name.result c.args.name.now [] = search rules in
    let there : is_some (get c.insert.new.self c.args.name.now) ≡ true = one_there c.new-by_name.result c.insert.new.self c.args.name.now put in
    search (rules, there)
