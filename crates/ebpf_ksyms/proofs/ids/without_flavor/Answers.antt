use Rattle.std.proofs.Common.{◌<◌, length, sym, ◌∙◌, arith}
use Rattle.ebpf_ksyms.proofs.Outcomes.{no_flavor, with_flavor, take_all}
use Rattle.ebpf_ksyms.proofs.ids.without_flavor.Goals as goal

pub returns-in-Some : goal.returns-in-Some
returns-in-Some c =
    let h = c.in-Some.ensures.cases in
    let inside : h.0 < length c.args.name.now = omega (arith, h.2.1.ends) in
    h.3 ∙ sym (with_flavor c.args.name.now h.0 h.1 inside h.2)

pub returns-in-None : goal.returns-in-None
returns-in-None c = sym (no_flavor c.args.name.now c.in-None.ensures.cases ∙ take_all c.args.name.now)
