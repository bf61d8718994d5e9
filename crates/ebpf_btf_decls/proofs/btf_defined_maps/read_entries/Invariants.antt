use Rattle.std.proofs.Common.{◌≡◌, take, drop}
use Rattle.std.specs.FinMap.{get}
use Rattle.std.specs.List.{AllZip, flat_map}
use Rattle.ebpf_btf_decls.specs.DataSections.{given}
use Rattle.ebpf_btf_decls.specs.SectionMaps.{HasSymbol, Knows, AreNumbered, AreKept}
use Rattle.ebpf_btf_decls.specs.Maps.{declared, entries_fault}
use Rattle.ebpf_btf_decls.proofs.btf_defined_maps.read_entries.Given as goal

-- what the entries so far declare is kept, which have no fault
abbrev pub invariant-loop-entry : goal.invariant-loop-entry
invariant-loop-entry l = record {
  known : Knows l.mode l.btf l.known;
  numbered : AreNumbered l.btf.strings l.distinct.names;
  symbols : AllZip (HasSymbol (get l.symbols)) l.distinct.names.names l.distinct.last;
  kept : AreKept l.distinct.names.names l.distinct.last (flat_map (λ entry. given (declared l.mode l.btf entry)) (take l.entry-index l.entries));
  fault : entries_fault l.mode l.btf (get l.symbols) 0 (drop l.entry-index l.entries) ≡ entries_fault l.mode l.btf (get l.symbols) 0 l.entries;
}
