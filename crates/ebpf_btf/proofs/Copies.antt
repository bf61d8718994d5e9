-- Copies of lists.
use Rattle.std.proofs.Common.{◌≡◌, List}
use Rattle.std.specs.List.{AllZip}
use Rattle.std.proofs.lemmas.List.Elements.{same_from_all_zip}

-- a list of copies is the list, where each copy is its item
pub same_list : {X : Type 0} (R : X → X → Type 0) (xs ys : List X) → AllZip R xs ys → ((x y : X) → R x y → y ≡ x) → ys ≡ xs
same_list R xs ys zip same = same_from_all_zip R xs ys zip same
