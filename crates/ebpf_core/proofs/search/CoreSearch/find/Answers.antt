use Rattle.std.proofs.Common.{◌≡◌, true, false, Ok, refl, sym, ap, ◌∙◌}
use Rattle.ebpf_core.specs.Searches.{is_local, itself}
use Rattle.ebpf_core.proofs.Searching.{local_itself, path_refused, searched}
use Rattle.ebpf_core.proofs.search.CoreSearch.find.Goals as goal

pub returns-in_err-path-clause-outcome : goal.returns-in_err-path-clause-outcome
returns-in_err-path-clause-outcome c =
    path_refused c.self.inside.local.now c.self.inside.target.now c.args.relocation.now c.args.self.now c.self.view_is _ _ c.from_residual.ensures.1 c.in_err-path.ensures.same

pub returns-then-is_local-clause-outcome : goal.returns-then-is_local-clause-outcome
returns-then-is_local-clause-outcome c =
    let here : is_local c.args.relocation.now.kind ≡ true = cc (c.is_local.ensures, c.if-is_local.true) in
    local_itself c.self.inside.local.now c.self.inside.target.now c.args.relocation.now c.args.self.now c.self.view_is c.in_ok-path.path c.in_ok-path.ensures.same here
    ∙ ap (λ n. Ok (itself n)) (sym c.from.ensures)

pub returns-clause-outcome : goal.returns-clause-outcome
returns-clause-outcome c =
    let other : is_local c.args.relocation.now.kind ≡ false = cc (c.is_local.ensures, c.if-is_local.false) in
    searched c.self.inside.local.now c.self.inside.target.now c.args.relocation.now c.args.self.now c.self.view_is c.in_ok-path.path _ c.in_ok-path.ensures.same other
    _ _ c.search.ensures.outcome refl
