use Rattle.std.proofs.Common.{rules, ◌≡◌, ◌∙◌, Some, Err, OnOk, ap, subst}
use Rattle.std.specs.Bool.{MatchBool}
use Rattle.std.specs.FinMap.{get}
use Rattle.std.specs.Prelude.{⊤, string_bytes}
use Rattle.ebpf_base.specs.Faults.{Refuses}
use Rattle.ebpf_btf_decls.specs.SectionMaps.{AreMapsOf}
use Rattle.ebpf_btf_decls.specs.Maps.{btf_maps_fault}
use Rattle.ebpf_btf_decls.proofs.SectionMaps.{same_maps, same_fault, one_kept}
use Rattle.ebpf_btf_decls.proofs.btf_defined_maps.BtfDefinedMaps.put.Goals as goal
use Rattle.ebpf_parts.specs.Memory.{is_parse_memory}
use Rattle.ebpf_parts.specs.declared.error.ParseError.{ParseError}

pub returns-in-Some-clause-put : goal.returns-in-Some-clause-put
returns-in-Some-clause-put c =
    let there : get c.self.inside.distinct c.args.section.now.name ≡ Some c.in-Some.distinct.now = search rules in
    let kept = c.self.inside.kept.are c.args.section.now.name c.in-Some.distinct.now there in
    rw (← c.self.view_is)
    (subst (λ m. OnOk c.put.result (c.put.new.maps ≡ m))
    (same_maps c.self.inside.mode c.self.inside.btf.now c.args.section.now.name c.in-Some.distinct.now kept (get c.args.symbols.now) c.args.section.now.index.0 c.args.maps.now) c.put.ensures.put)

pub returns-in-Some-clause-fault : goal.returns-in-Some-clause-fault
returns-in-Some-clause-fault c =
    let there : get c.self.inside.distinct c.args.section.now.name ≡ Some c.in-Some.distinct.now = search rules in
    let kept = c.self.inside.kept.are c.args.section.now.name c.in-Some.distinct.now there in
    rw (← c.self.view_is) (subst (Refuses is_parse_memory c.put.result) (kept.fault (get c.args.symbols.now) c.args.section.now.index.0) c.put.ensures.fault)

pub returns-in_err-distinct-clause-fault : goal.returns-in_err-distinct-clause-fault
returns-in_err-distinct-clause-fault c =
    let e : ParseError = c.in_err-distinct.field-0.0 in
    let result : c.from_residual.result ≡ Err e = search rules in
    let name : c.section.inside.name.now ≡ c.args.section.now.name = search rules in
    let whole = ap (btf_maps_fault c.self.inside.mode c.self.inside.btf.now (get c.args.symbols.now) 0) name
    ∙ same_fault c.self.inside.mode c.self.inside.btf.now (get c.args.symbols.now) 0 c.args.section.now.index.0 c.args.section.now.name in
    rw (result, ← c.self.view_is) (subst (λ f. MatchBool (is_parse_memory e) ⊤ (f ≡ Some e)) whole c.in_err-distinct.ensures.fault)

pub invariant_of-self-inside-2 : goal.invariant_of-self-inside-2
invariant_of-self-inside-2 c =
    let name : c.section.inside.name.now ≡ string_bytes c.in_ok-from_str.field-0 = search rules in
    let are = subst (λ n. AreMapsOf c.self.inside.mode c.self.inside.btf.now n c.in_ok-distinct.distinct) name c.in_ok-distinct.ensures.maps in
    let kept = one_kept c.self.inside.mode c.self.inside.btf.now (string_bytes c.in_ok-from_str.field-0) c.in_ok-distinct.distinct are c.self.inside.distinct c.insert.new.self c.self.inside.kept
    c.insert.result c.insert.ensures.ok c.insert.ensures.err in
    (c.look_for.ensures.found, (c.in_ok-distinct.ensures.known, (kept, tt)))

pub returns-clause-put : goal.returns-clause-put
returns-clause-put c =
    let name : c.section.inside.name.now ≡ c.args.section.now.name = search rules in
    let are = subst (λ n. AreMapsOf c.self.inside.mode c.self.inside.btf.now n c.in_ok-distinct.distinct) name c.in_ok-distinct.ensures.maps in
    rw (← c.self.view_is)
    (c.in_ok-put.ensures.put ∙ same_maps c.self.inside.mode c.self.inside.btf.now c.args.section.now.name c.in_ok-distinct.distinct are (get c.args.symbols.now) c.args.section.now.index.0 c.args.maps.now)
