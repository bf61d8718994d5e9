use Rattle.std.proofs.Common.{rules, ◌≡◌, ◌∙◌, ◌+◌, List, ℕ, Option, None, Some, Ok, Err, drop, sym, subst, ap}
use Rattle.std.specs.Bool.{MatchBool}
use Rattle.std.specs.Prelude.{⊤, slice_get}
use Rattle.std.specs.FinMap.{get}
use Rattle.std.specs.List.{zip}
use Rattle.ebpf_base.proofs.Mapped.{put_all-append}
use Rattle.ebpf_base.specs.Faults.{Refuses, first_some, or_else}
use Rattle.ebpf_base.specs.Maps.{put_all}
use Rattle.ebpf_btf_decls.proofs.NumberedNames.{pair_left, no_value_left}
use Rattle.ebpf_btf_decls.proofs.SectionMaps.{refused_first}
use Rattle.ebpf_btf_decls.specs.DataSections.{given}
use Rattle.ebpf_btf_decls.specs.SectionMaps.{missing, defined_maps, distinct_fault}
use Rattle.ebpf_btf_decls.specs.Maps.{map_with_symbol}
use Rattle.ebpf_btf_decls.specs.declared.members.MapDefinitions.{MapDefinitions}
use Rattle.ebpf_btf_decls.proofs.distinct_maps.DistinctMaps.put.Goals as goal
use Rattle.ebpf_parts.specs.Memory.{is_parse_memory}
use Rattle.ebpf_parts.specs.declared.error.ParseError.{ParseError}

pub returns-in_default-get-clause-put : goal.returns-in_default-get-clause-put
returns-in_default-get-clause-put c =
    let none : slice_get c.args.self.now.last c.loop-number.number ≡ None = search rules in
    ap (λ (l : List (List ℕ × MapDefinitions)). put_all c.loop-number.maps (defined_maps (get c.args.symbols.now) c.args.section.now.index.0 l)) (sym (no_value_left c.args.self.now.names.names c.args.self.now.last c.loop-number.number none))
    ∙ c.loop-number.invariant.put

pub returns-in_default-get-clause-fault : goal.returns-in_default-get-clause-fault
returns-in_default-get-clause-fault c =
    let none : slice_get c.args.self.now.last c.loop-number.number ≡ None = search rules in
    sym c.loop-number.invariant.fault
    ∙ ap (first_some (λ (p : List ℕ × MapDefinitions). missing (get c.args.symbols.now) p.0)) (no_value_left c.args.self.now.names.names c.args.self.now.last c.loop-number.number none)

pub returns-in_err-put_last-clause-fault : goal.returns-in_err-put_last-clause-fault
returns-in_err-put_last-clause-fault c =
    let symbols = get c.args.symbols.now in
    let names = c.args.self.now.names.names in
    let last = c.args.self.now.last in
    let n = c.loop-number.number in
    let e : ParseError = c.in_err-put_last.field-0.0 in
    let result : c.from_residual.result ≡ Err e = search rules in
    let name : slice_get names n ≡ Some c.in-Some.name.now = search rules in
    let value : slice_get last n ≡ Some c.in-Some-get.definitions.now = search rules in
    let left = pair_left names last n c.in-Some.name.now c.in-Some-get.definitions.now name value in
    let rest : Option ParseError = first_some (λ (p : List ℕ × MapDefinitions). missing symbols p.0) (zip (drop (n + 1) names) (drop (n + 1) last)) in
    let wrong : MatchBool (is_parse_memory e) ⊤ (missing symbols c.in-Some.name.now ≡ Some e) = search rules in
    let whole : or_else (missing symbols c.in-Some.name.now) rest ≡ distinct_fault symbols c.args.self.now = sym (ap (first_some (λ (p : List ℕ × MapDefinitions). missing symbols p.0)) left) ∙ c.loop-number.invariant.fault in
    subst (λ r. Refuses is_parse_memory r (distinct_fault symbols c.args.self.now)) (sym result)
    (subst (λ x. MatchBool (is_parse_memory e) ⊤ (x ≡ Some e)) whole (refused_first is_parse_memory e (missing symbols c.in-Some.name.now) rest wrong))

pub loop-number-preserved : goal.loop-number-preserved
loop-number-preserved c =
    let symbols = get c.args.symbols.now in
    let section = c.args.section.now.index.0 in
    let names = c.args.self.now.names.names in
    let last = c.args.self.now.last in
    let n = c.loop-number.number in
    let name : slice_get names n ≡ Some c.in-Some.name.now = search rules in
    let value : slice_get last n ≡ Some c.in-Some-get.definitions.now = search rules in
    let left = pair_left names last n c.in-Some.name.now c.in-Some-get.definitions.now name value in
    let rest = zip (drop (n + 1) names) (drop (n + 1) last) in
    let put : c.put_last.new.maps ≡ put_all c.loop-number.maps (given (map_with_symbol symbols section (Ok (c.in-Some.name.now, c.in-Some-get.definitions.now)))) = search rules in
    let clear : missing symbols c.in-Some.name.now ≡ None = search rules in
    record {
      put = ap (λ m. put_all m (defined_maps symbols section rest)) put
          ∙ sym (put_all-append c.loop-number.maps (given (map_with_symbol symbols section (Ok (c.in-Some.name.now, c.in-Some-get.definitions.now)))) (defined_maps symbols section rest))
          ∙ ap (λ (l : List (List ℕ × MapDefinitions)). put_all c.loop-number.maps (defined_maps symbols section l)) (sym left) ∙ c.loop-number.invariant.put;
      fault = sym (ap (first_some (λ (p : List ℕ × MapDefinitions). missing symbols p.0)) left ∙ ap (λ o. or_else o (first_some (λ (p : List ℕ × MapDefinitions). missing symbols p.0) rest)) clear) ∙ c.loop-number.invariant.fault;
    }
