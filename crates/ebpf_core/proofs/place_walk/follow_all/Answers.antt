use Rattle.std.proofs.Common.{Some, None, Ok, Err, refl, sym, ap, ◌∙◌, arith}
use Rattle.ebpf_core.specs.Places.{is_place_memory}
use Rattle.ebpf_core_candidates.proofs.Refusals.{handed_on, refused}
use Rattle.ebpf_core.proofs.PlacePaths.{path_at, path_end}
use Rattle.ebpf_core.proofs.place_walk.follow_all.Goals as goal

pub returns-in_err-next : goal.returns-in_err-next
returns-in_err-next c =
    refused is_place_memory is_place_memory c.in_err-next.field-0.0 c.in_err-next.field-0.0 _ c.from_residual.result _
    (handed_on c.from_residual.result c.in_err-next.field-0.0 c.from_residual.ensures.1) refl
    (λ is. sym c.loop-by.invariant
    ∙ path_at c.args.local.now c.args.target.now c.args.path.now c.loop-by.by-index _ c.loop-by.spot (Err c.in_err-next.field-0.0) (omega arith) c.by-item.is is)
    c.in_err-next.ensures

pub returns-in_default : goal.returns-in_default
returns-in_default c =
    sym c.loop-by.invariant
    ∙ path_at c.args.local.now c.args.target.now c.args.path.now c.loop-by.by-index _ c.loop-by.spot (Ok None) (omega arith) c.by-item.is (c.in_ok-next.ensures ∙ ap Ok c.in_default.is)

pub loop-by-preserved : goal.loop-by-preserved
loop-by-preserved c =
    sym (path_at c.args.local.now c.args.target.now c.args.path.now c.loop-by.by-index _ c.loop-by.spot (Ok (Some c.in-Some.next)) (omega arith) c.by-item.is (c.in_ok-next.ensures ∙ ap Ok c.in-Some.is))
    ∙ c.loop-by.invariant

pub returns : goal.returns
returns c =
    sym c.loop-by.invariant ∙ path_end c.args.local.now c.args.target.now c.args.path.now c.loop-by.by-index c.loop-by.spot (omega arith)
