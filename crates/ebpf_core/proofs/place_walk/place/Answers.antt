use Rattle.std.proofs.Common.{◌≡◌, ◌∷◌, Ok, Err, sym, ◌∙◌, subst}
use Rattle.ebpf_base.specs.Faults.{Gives}
use Rattle.ebpf_core.specs.Places.{is_place_memory}
use Rattle.ebpf_core_candidates.proofs.Refusals.{exact, handed_on}
use Rattle.ebpf_core.proofs.PlacePaths.{place_begun, place_empty, place_named}
use Rattle.ebpf_core.proofs.place_walk.place.Goals as goal

pub returns-in_default : goal.returns-in_default
returns-in_default c = place_empty c.args.local.now c.args.target.now c.args.root_type c.args.path.now c.in_default.ensures.cases

pub returns-in_default-first : goal.returns-in_default-first
returns-in_default-first c =
    let split : c.args.path.now ≡ c.in-Some.first.now ∷ c.in-Some.path.now = cc (c.in-Some.ensures.cases.0) in
    place_named c.args.local.now c.args.target.now c.args.root_type c.args.path.now c.in-Some.path.now c.in-Some.first.now _ _ split c.in_default-first.is

pub returns-in_err-start : goal.returns-in_err-start
returns-in_err-start c =
    let split : c.args.path.now ≡ c.in-Some.first.now ∷ c.in-Some.path.now = cc (c.in-Some.ensures.cases.0) in
    exact is_place_memory c.from_residual.result _
    (place_begun c.args.local.now c.args.target.now c.args.root_type c.args.path.now c.in-Some.path.now c.in-Some.first.now _ (Err c.in_err-start.field-0.0) split c.in-Index.is c.in_err-start.ensures
    ∙ sym (handed_on c.from_residual.result c.in_err-start.field-0.0 c.from_residual.ensures.1))

pub returns : goal.returns
returns c =
    let split : c.args.path.now ≡ c.in-Some.first.now ∷ c.in-Some.path.now = cc (c.in-Some.ensures.cases.0) in
    subst (Gives is_place_memory c.follow_all.result)
    (sym (place_begun c.args.local.now c.args.target.now c.args.root_type c.args.path.now c.in-Some.path.now c.in-Some.first.now _ (Ok c.in_ok-start.start) split c.in-Index.is c.in_ok-start.ensures))
    c.follow_all.ensures
