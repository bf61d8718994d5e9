use Rattle.std.proofs.Common.{◌≡◌, [], IfOk, refl, sym, ap, subst, take_all}
use Rattle.std.specs.FinMap.{get, empty}
use Rattle.std.specs.List.{AllZip, flat_map}
use Rattle.ebpf_base.specs.Faults.{fault_of}
use Rattle.ebpf_btf_decls.proofs.NumberedNames.{none_kept, item_kept, all_more, rest_clear, kept_put}
use Rattle.ebpf_btf_decls.specs.DataSections.{given}
use Rattle.ebpf_btf_decls.specs.Externs.{IsWeak, extern_of}
use Rattle.ebpf_btf_decls.specs.SectionMaps.{AreKept}
use Rattle.ebpf_btf_decls.proofs.externs.entries_externs.Goals as goal

pub loop-entry-init : goal.loop-entry-init
loop-entry-init c = record {
  numbered = c.none-names.ensures.numbered c.args.btf.now.strings;
  weak = subst (λ l. AllZip (IsWeak (get c.args.weak.now)) l c.new-last.result) (sym c.none-names.ensures.names) (subst (AllZip (IsWeak (get c.args.weak.now)) []) (sym c.new-last.ensures) tt);
  kept = subst (λ l. AreKept l c.new-last.result []) (sym c.none-names.ensures.names) (subst (λ l. AreKept [] l []) (sym c.new-last.ensures) none_kept);
  fault = refl;
}

pub loop-entry-preserved : goal.loop-entry-preserved
loop-entry-preserved c =
    let says = extern_of c.args.btf.now (get c.args.weak.now) in
    let found = c.in_ok-number.ensures.declared in
    record {
      numbered = c.in_ok-number.ensures.numbered;
      weak = all_more (IsWeak (get c.args.weak.now)) c.loop-entry.names.names c.extern_of.new.names.names c.loop-entry.last c.put_at.new.values found.0 c.in_ok-number.number c.in_ok-number.declared
          c.loop-entry.invariant.weak found.2 c.in_ok-put_at.ensures found.3;
      kept = item_kept says c.args.entries.now c.loop-entry.entry-index _ c.loop-entry.names.names c.extern_of.new.names.names c.loop-entry.last c.put_at.new.values found.0 c.in_ok-number.number c.in_ok-number.declared
          c.loop-entry-test.true c.loop-entry.invariant.kept found.1 found.2 c.in_ok-put_at.ensures;
      fault = rest_clear (λ entry. fault_of (says entry)) c.args.entries.now c.loop-entry.entry-index _ c.loop-entry-test.true (ap fault_of found.1) c.loop-entry.invariant.fault;
    }

pub returns-clause-externs : goal.returns-clause-externs
returns-clause-externs c =
    let says = extern_of c.args.btf.now (get c.args.weak.now) in
    let all = take_all c.loop-entry.entry-index c.args.entries.now c.loop-entry-test.false in
    let put = kept_put c.loop-entry.names.names c.loop-entry.last _ empty (subst (λ l. AreKept c.loop-entry.names.names c.loop-entry.last (flat_map (λ entry. given (says entry)) l)) all c.loop-entry.invariant.kept) in
    subst (λ m. IfOk c.by_name.result (λ found. found ≡ m)) put c.by_name.ensures.externs
