-- The result after an option: a function of its value, or another result where it is none.
use Rattle.std.specs.Prelude.{Option, Some, None}

-- the function of the option's value, or the other result
abbrev pub if_some : {A X : Type 0} → Option A → (A → X) → X → X
if_some None next other = other
if_some (Some x) next other = next x
