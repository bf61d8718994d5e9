-- What contracts of private functions name and no public one.
use Rattle.std.specs.Prelude.{ℕ, nat_lt, List, [], ◌∷◌, if◌then◌else◌}
use Rattle.std.specs.FinMap.{FinMap}
use Rattle.std.specs.Ordering.{nat_cmp}
use Rattle.ebpf_base.specs.Maps.{map_values}
use Rattle.cli_common.specs.FunctionMaps.{NamedMaps}
use Rattle.cli_common.specs.declared.map_uses.KnownMapNames.{KnownMapNames}
use denote.Ref.{Bor}

-- names that are lent, as their bytes
unfoldable pub lent_names : FinMap nat_cmp (Bor (List ℕ)) → FinMap nat_cmp (List ℕ)
lent_names names = map_values (λ (n : Bor (List ℕ)). n.now) names

abbrev pub names_in : KnownMapNames → NamedMaps
names_in names =
    record { by_symbol = lent_names names.by_symbol; by_section = lent_names names.by_section }

-- the entries before the first one at an end or behind it
abbrev pub up_to : {X : Type 0} → ℕ → List (ℕ × X) → List (ℕ × X)
up_to end [] = []
up_to end (e ∷ es) = if nat_lt e.0 end then e ∷ up_to end es else []
