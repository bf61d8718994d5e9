use Rattle.std.proofs.Common.{◌≡◌, subst, ap, sym, ◌∙◌}
use Rattle.std.specs.FinMap.{insert}
use Rattle.std.specs.Option.{OnSome, option_copied_mut}
use Rattle.ebpf_kconfig.specs.KconfigMaps.{defined_in}
use Rattle.ebpf_kconfig.proofs.externs.define_at.Goals as goal

pub returns : goal.returns
returns c =
    let m = c.args.symbols.now in
    let n = c.args.index in
    let w = c.define_symbol.new.symbol in
    subst (λ r. OnSome r (c.get_mut.follows.lender w ≡ insert m n w)) c.in-Some.is (c.get_mut.follows.holds w)
    ∙ ap (insert m n) c.define_symbol.ensures
    ∙ sym (ap (defined_in c.args.offsets.now m n) (sym c.get_mut.ensures.value ∙ ap option_copied_mut c.in-Some.is))
