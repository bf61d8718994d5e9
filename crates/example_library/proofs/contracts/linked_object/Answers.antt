use Rattle.std.proofs.Common.{refl}
use Rattle.example_library.proofs.contracts.linked_object.Goals as goal

pub returns : goal.returns
returns g c =
    let h = c.in_ok-object.ensures.headline in
    (h, h.finished.programs _ (rw c.requires refl))
