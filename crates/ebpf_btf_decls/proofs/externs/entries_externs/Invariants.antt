use Rattle.std.proofs.Common.{◌≡◌, take, drop}
use Rattle.std.specs.FinMap.{get}
use Rattle.std.specs.List.{AllZip, flat_map}
use Rattle.ebpf_btf_decls.specs.DataSections.{given}
use Rattle.ebpf_btf_decls.specs.Externs.{IsWeak, extern_of, extern_entries_fault}
use Rattle.ebpf_btf_decls.specs.SectionMaps.{AreNumbered, AreKept}
use Rattle.ebpf_btf_decls.proofs.externs.entries_externs.Given as goal

-- the externs of the entries so far are kept, which have no fault
abbrev pub invariant-loop-entry : goal.invariant-loop-entry
invariant-loop-entry l = record {
  numbered : AreNumbered l.btf.strings l.names;
  weak : AllZip (IsWeak (get l.weak)) l.names.names l.last;
  kept : AreKept l.names.names l.last (flat_map (λ entry. given (extern_of l.btf (get l.weak) entry)) (take l.entry-index l.entries));
  fault : extern_entries_fault l.btf (get l.weak) (drop l.entry-index l.entries) ≡ extern_entries_fault l.btf (get l.weak) l.entries;
}
