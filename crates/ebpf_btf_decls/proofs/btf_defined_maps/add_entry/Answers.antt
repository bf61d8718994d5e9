use Rattle.std.proofs.Common.{◌≡◌, ◌∙◌, Some, sym, ap}
use Rattle.std.specs.FinMap.{get}
use Rattle.ebpf_btf_decls.proofs.NumberedNames.{there}
use Rattle.ebpf_btf_decls.specs.SectionMaps.{missing, HasSymbol}
use Rattle.ebpf_btf_decls.proofs.btf_defined_maps.add_entry.Goals as goal

pub check_symbol-requires : goal.check_symbol-requires
check_symbol-requires c = λ d at.
    let has = c.in-Ok.ensures.declared in
    let symbols = get c.args.symbols.now in
    let before = there (HasSymbol symbols) c.args.distinct.now.names.names c.args.distinct.now.last c.in-Ok.found.0 d c.requires.symbols at in
    let name : Some has.0 ≡ Some c.name.result.now = sym has.2.is ∙ c.name.ensures in
    let same : before.0 ≡ c.name.result.now = has.2.here before.0 before.1 ∙ (cc) in
    ap (missing symbols) (sym same) ∙ before.2
