use Rattle.std.proofs.Common.{rules, ◌≡◌, ◌++◌, sym, subst, ap, ◌∙◌}
use Rattle.std.specs.FinMap.{insert}
use Rattle.std.specs.Option.{OnSome}
use Rattle.ebpf_btf_decls.proofs.SectionMaps.{with_more}
use Rattle.ebpf_btf_decls.proofs.data_sections.add_entries.Goals as goal

pub returns-clause-with_entries : goal.returns-clause-with_entries
returns-clause-with_entries c =
    let w = c.extend_from_slice.new.self in
    let more : w ≡ c.in-Some.kept.now ++ c.args.entries.now = search rules in
    with_more c.args.by_name.now (c.get_mut.follows.lender w) c.args.name.now c.in-Some.kept.now c.args.entries.now (sym c.in-Some.ensures.value)
    (subst (λ r. OnSome r (c.get_mut.follows.lender w ≡ insert c.args.by_name.now c.args.name.now w)) c.in-Some.is (c.get_mut.follows.holds w)
    ∙ ap (insert c.args.by_name.now c.args.name.now) more)
