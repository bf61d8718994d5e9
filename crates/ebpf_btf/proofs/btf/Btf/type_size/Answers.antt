use Rattle.std.proofs.Common.{◌≡◌, None, Some, Err, sym, ap, ◌∙◌, arith}
use Rattle.std.specs.Prelude.{slice_get}
use Rattle.ebpf_btf.specs.Steps.{own_size, repeats, sized_by, times}
use Rattle.ebpf_btf.proofs.Looks.{size_too_large}
use Rattle.ebpf_btf.proofs.btf.Btf.type_size.Goals as goal

pub returns-in-Err : goal.returns-in-Err
returns-in-Err c =
    let ty = c.in_ok-ty.ty in
    let there : slice_get c.args.self.now.types c.loop-look.reached ≡ Some ty = sym c.in_ok-ty.ensures.found in
    let own : own_size ty ≡ None = sym c.own_size.ensures ∙ c.in_default.is in
    let next : sized_by ty ≡ Some c.in-Some-sized_by.next = sym c.sized_by.ensures ∙ c.in-Some-sized_by.is in
    let large : times c.loop-look.count (repeats ty) ≡ Err c.in-Err.e = ap (times c.loop-look.count) (sym c.repeats.ensures) ∙ sym c.times-in-loop-look.ensures ∙ c.in-Err.is in
    sym (size_too_large c.loop-look._look c.args.self.now.types c.args.type_id c.loop-look.count c.loop-look.reached ty c.in-Some-sized_by.next c.in-Err.e (omega arith) there own next large)
    ∙ c.loop-look.invariant
