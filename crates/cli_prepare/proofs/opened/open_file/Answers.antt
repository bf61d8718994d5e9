use Rattle.std.proofs.Common.{List, ℕ, ap, subst}
use Rattle.std.specs.Global.{Vec}
use Rattle.cli_common.specs.CompletedObjects.{IsCompleted}
use Rattle.cli_prepare.proofs.OpenedObjects.{opened_as}
use Rattle.cli_prepare.proofs.opened.open_file.Goals as goal

pub returns-in-Ok : goal.returns-in-Ok
returns-in-Ok c =
    opened_as c.with_chosen.result c.in_ok-file.file.items c.in-Ok.chosen.kernel c.in_ok-parsed.parsed c.chosen_of.new.parsed
    (ap (λ (bytes : Vec ℕ). bytes.items) c.with_chosen.ensures.file) c.with_chosen.ensures.kernel c.with_chosen.ensures.parsed
    (subst (λ (bytes : List ℕ). IsCompleted bytes c.in_ok-parsed.parsed) c.deref.ensures.value c.in_ok-parsed.ensures)
    c.in-Ok.ensures
