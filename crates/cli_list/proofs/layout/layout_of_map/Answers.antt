use Rattle.std.proofs.Common.{subst, sym}
use Rattle.std.specs.Prelude.{MatchOption}
use Rattle.cli_list.specs.Listings.{IsOfCopies, IsOfOne}
use Rattle.cli_list.proofs.layout.layout_of_map.Goals as goal

pub returns-in_ok-linked-in-Some : goal.returns-in_ok-linked-in-Some
returns-in_ok-linked-in-Some c =
    let l = c.in_ok-linked-in-Some.field-0 in
    subst (λ map. MatchOption map (IsOfOne c.args.program.now l) (λ m. IsOfCopies m.copies l)) (sym c.in-Some.is)
    (subst (λ copies. IsOfCopies copies l) c.as_slice.ensures c.in_ok-linked-in-Some.ensures)
