use Rattle.std.proofs.Common.{sym, ◌∙◌}
use Rattle.std.proofs.lemmas.Result.{err_from_is_err_and}
use Rattle.ebpf_btf_ext.specs.ExtFormat.{core_relo_at}
use Rattle.ebpf_btf_ext.proofs.Relocations.{relocations_none, list_more, list_cut}
use Rattle.ebpf_btf_ext.proofs.ext_part.read_relocations.Goals as goal

pub loop-number-init : goal.loop-number-init
loop-number-init c = rw c.in_ok-items.ensures.items (relocations_none c.args.type_matches c.args.bytes.now c.args.size c.args.offset c.args.count)

pub returns-in_err-read_relocation : goal.returns-in_err-read_relocation
returns-in_err-read_relocation c =
    let p = err_from_is_err_and c.from_residual-in_err-read_relocation.result c.from_residual-in_err-read_relocation.ensures.1 in
    rw (p.1, p.2) (list_cut (core_relo_at c.args.type_matches c.args.bytes.now c.args.size c.args.offset) c.loop-number.number c.args.count c.loop-number.items.items _ _ c.loop-number-test.true c.loop-number.invariant (sym c.in_err-read_relocation.ensures))

pub loop-number-preserved : goal.loop-number-preserved
loop-number-preserved c =
    let step = list_more (core_relo_at c.args.type_matches c.args.bytes.now c.args.size c.args.offset) c.loop-number.number c.args.count c.loop-number.items.items c.in_ok-read_relocation.field-0 c.loop-number-test.true (sym c.in_ok-read_relocation.ensures) in
    rw c.in_ok-push.ensures.items (step ∙ c.loop-number.invariant)
