use Rattle.std.proofs.Common.{[], refl, sym, subst, take_all}
use Rattle.std.specs.FinMap.{get}
use Rattle.std.specs.List.{AllZip, flat_map}
use Rattle.ebpf_base.specs.Faults.{fault_of}
use Rattle.ebpf_btf_decls.proofs.NumberedNames.{none_kept, item_kept, all_more, rest_clear}
use Rattle.ebpf_btf_decls.specs.DataSections.{given}
use Rattle.ebpf_btf_decls.specs.SectionMaps.{HasSymbol, AreKept}
use Rattle.ebpf_btf_decls.specs.Maps.{declared, entry_map}
use Rattle.ebpf_btf_decls.proofs.btf_defined_maps.read_entries.Goals as goal

pub loop-entry-init : goal.loop-entry-init
loop-entry-init c = record {
  known = c.requires;
  numbered = c.none-distinct.ensures.numbered c.args.btf.now.strings;
  symbols = subst (λ l. AllZip (HasSymbol (get c.args.symbols.now)) l c.none-distinct.result.last) (sym c.none-distinct.ensures.names) (subst (AllZip (HasSymbol (get c.args.symbols.now)) []) (sym c.none-distinct.ensures.last) tt);
  kept = subst (λ l. AreKept l c.none-distinct.result.last []) (sym c.none-distinct.ensures.names) (subst (λ l. AreKept [] l []) (sym c.none-distinct.ensures.last) none_kept);
  fault = refl;
}

pub loop-entry-preserved : goal.loop-entry-preserved
loop-entry-preserved c =
    let was = c.loop-entry.distinct in
    let now = c.add_entry.new.distinct in
    let added = c.in_ok-add_entry.ensures.added in
    record {
      known = c.in_ok-add_entry.ensures.known;
      numbered = c.in_ok-add_entry.ensures.numbered;
      symbols = all_more (HasSymbol (get c.args.symbols.now)) was.names.names now.names.names was.last now.last added.0 added.1 added.2 c.loop-entry.invariant.symbols added.4 added.5 added.6;
      kept = item_kept (declared c.args.mode c.args.btf.now) c.args.entries.now c.loop-entry.entry-index _ was.names.names now.names.names was.last now.last added.0 added.1 added.2
          c.loop-entry-test.true c.loop-entry.invariant.kept added.3 added.4 added.5;
      fault = rest_clear (λ entry. fault_of (entry_map c.args.mode c.args.btf.now (get c.args.symbols.now) 0 entry)) c.args.entries.now c.loop-entry.entry-index _ c.loop-entry-test.true c.in_ok-add_entry.ensures.fault c.loop-entry.invariant.fault;
    }

pub returns-clause-kept : goal.returns-clause-kept
returns-clause-kept c =
    subst (λ l. AreKept c.loop-entry.distinct.names.names c.loop-entry.distinct.last (flat_map (λ entry. given (declared c.args.mode c.args.btf.now entry)) l)) (take_all c.loop-entry.entry-index c.args.entries.now c.loop-entry-test.false) c.loop-entry.invariant.kept
