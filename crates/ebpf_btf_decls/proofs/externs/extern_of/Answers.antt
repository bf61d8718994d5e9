use Rattle.std.proofs.Common.{◌≡◌, ◌∙◌, Some, sym, ap}
use Rattle.std.specs.FinMap.{get}
use Rattle.ebpf_btf_decls.proofs.NumberedNames.{there}
use Rattle.ebpf_btf_decls.specs.Externs.{IsWeak}
use Rattle.ebpf_btf_decls.proofs.externs.extern_of.Goals as goal

pub is_weak-requires : goal.is_weak-requires
is_weak-requires c = λ d at.
    let has = c.in_ok-number.ensures.number in
    let before = there (IsWeak (get c.args.weak.now)) c.args.names.now.names c.args.last.now c.in_ok-number.number d c.requires.weak at in
    let name : Some has.0 ≡ Some c.name.result.now = sym has.2.is ∙ c.name.ensures in
    let same : before.0 ≡ c.name.result.now = has.2.here before.0 before.1 ∙ (cc) in
    ap (get c.args.weak.now) (sym same) ∙ before.2
