use Rattle.std.proofs.Common.{rules, ◌≡◌, ◌∙◌, Some, None, Err, sym, ap, subst}
use Rattle.std.specs.FinMap.{get}
use Rattle.ebpf_base.specs.Faults.{Refuses}
use Rattle.ebpf_btf_decls.specs.Maps.{btf_maps_fault}
use Rattle.ebpf_btf_decls.specs.SectionMaps.{unreadable_name_fault}
use Rattle.ebpf_btf_decls.proofs.SectionMaps.{are_maps, entry_refused, unreadable_refused}
use Rattle.ebpf_btf_decls.proofs.btf_defined_maps.read_section_maps.Goals as goal
use Rattle.ebpf_parts.specs.Memory.{is_parse_memory}
use Rattle.ebpf_parts.specs.declared.error.ParseError.{ParseError}

pub returns-in_err-distinct-clause-fault : goal.returns-in_err-distinct-clause-fault
returns-in_err-distinct-clause-fault c =
    let there : get c.args.sections.now.by_name c.args.name.now ≡ Some c.as_slice.result.now = search rules in
    let e : ParseError = c.in_err-distinct.field-0.0 in
    let result : c.from_residual.result ≡ Err e = search rules in
    subst (λ r. Refuses is_parse_memory r (btf_maps_fault c.args.mode c.args.btf.now (get c.args.symbols.now) 0 c.args.name.now)) (sym result)
    (entry_refused c.args.mode c.args.btf.now c.args.sections.now c.requires.found c.args.name.now c.as_slice.result.now there (get c.args.symbols.now) e c.in_err-distinct.ensures.fault)

pub returns-in-Some-unreadable-clause-fault : goal.returns-in-Some-unreadable-clause-fault
returns-in-Some-unreadable-clause-fault c =
    let there : get c.args.sections.now.by_name c.args.name.now ≡ Some c.as_slice.result.now = search rules in
    let unreadable : c.args.sections.now.unreadable ≡ Some c.in-Some-unreadable.offset = search rules in
    unreadable_refused c.args.mode c.args.btf.now c.args.sections.now c.requires.found c.args.name.now c.as_slice.result.now there (get c.args.symbols.now) c.in_ok-distinct.ensures.fault ∙ ap unreadable_name_fault unreadable

pub returns-in-None-clause-maps : goal.returns-in-None-clause-maps
returns-in-None-clause-maps c =
    let there : get c.args.sections.now.by_name c.args.name.now ≡ Some c.as_slice.result.now = search rules in
    let readable : c.args.sections.now.unreadable ≡ None = search rules in
    are_maps c.args.mode c.args.btf.now c.args.sections.now c.requires.found c.args.name.now c.as_slice.result.now there readable (get c.args.symbols.now) c.in_ok-distinct.ensures.fault c.in_ok-distinct.distinct c.in_ok-distinct.ensures.kept

pub returns-in-None-clause-fault : goal.returns-in-None-clause-fault
returns-in-None-clause-fault c =
    let there : get c.args.sections.now.by_name c.args.name.now ≡ Some c.as_slice.result.now = search rules in
    let readable : c.args.sections.now.unreadable ≡ None = search rules in
    unreadable_refused c.args.mode c.args.btf.now c.args.sections.now c.requires.found c.args.name.now c.as_slice.result.now there (get c.args.symbols.now) c.in_ok-distinct.ensures.fault ∙ ap unreadable_name_fault readable
