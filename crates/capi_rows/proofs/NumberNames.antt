-- The names of numbers: some examples, how long they are, and those of the code's stages.
use Rattle.std.proofs.Common.{◌≡◌, ◌++◌, ◌-◌, ◌≤◌, ℕ, zero, suc, Bool, true, false, cond, List, [], ◌∷◌, length, map, Some, refl, ap, ◌∙◌, arith}
use Rattle.std.specs.Prelude.{codes, nat_le, nat_lt, slice_get}
use Rattle.std.specs.List.{find, list_all}
use Rattle.std.specs.Option.{option_map_or}
use Rattle.std.proofs.lemmas.Bool.{and_parts}
use Rattle.std.proofs.lemmas.Bool.Decides.{nat_tests}
use Rattle.capi_rows.specs.NumberNames.{NumberNamesFit, NumberStage, name_found, name_in, number_name, number_stages, stage_value, with_title}
use Rattle.capi_rows.specs.declared.codes.Stage.{Stage}

bad_magic : number_name 101 ≡ codes "parse: BadMagic"
unfolding number_name
bad_magic = refl

no_name : number_name 159 ≡ []
unfolding number_name
no_name = refl

-- ---- how long names are

fits : List ℕ → List ℕ → Bool
fits title error = nat_le (length (title ++ error)) 64

all_fit : NumberStage → Bool
all_fit s = list_all (fits s.title) s.errors

within : (title error : List ℕ) → fits title error ≡ true → length (title ++ error) ≤ 64
unfolding fits
within title error h = grind (arith, nat_tests)

one_fits : (title : List ℕ) (errors : List (List ℕ)) (i : ℕ) → list_all (fits title) errors ≡ true → length (with_title title (slice_get errors i)) ≤ 64
one_fits title [] zero h = omega arith
one_fits title [] (suc i) h = omega arith
one_fits title (error ∷ errors) zero h = within title error (and_parts (fits title error) (list_all (fits title) errors) h).0
one_fits title (error ∷ errors) (suc i) h = one_fits title errors i (and_parts (fits title error) (list_all (fits title) errors) h).1

found_name : ℕ → List NumberStage → List ℕ
found_name number ss = option_map_or (name_in number) (find (λ s. nat_lt number s.end) ss) []

first_fits : (number : ℕ) (s : NumberStage) (ss : List NumberStage) (b : Bool) → all_fit s ≡ true → length (found_name number ss) ≤ 64
    → length (option_map_or (name_in number) (cond b (Some s) (find (λ s. nat_lt number s.end) ss)) []) ≤ 64
unfolding all_fit found_name
first_fits number s ss true here rest = one_fits s.title s.errors (number - s.first) here
first_fits number s ss false here rest = rest

found_fits : (number : ℕ) (ss : List NumberStage) → list_all all_fit ss ≡ true → length (found_name number ss) ≤ 64
unfolding found_name
found_fits number [] h = omega arith
found_fits number (s ∷ ss) h =
    let parts = and_parts (all_fit s) (list_all all_fit ss) h in
    first_fits number s ss (nat_lt number s.end) parts.0 (found_fits number ss parts.1)

stages_fit : list_all all_fit number_stages ≡ true
unfolding all_fit fits
stages_fit = refl

pub names_fit : NumberNamesFit
unfolding number_name found_name
names_fit number = found_fits number number_stages stages_fit

-- ---- the stages of the code

first_named : (number : ℕ) (s : Stage) (ss : List Stage) (b : Bool) → name_found number (find (λ s. nat_lt number s.end) ss) ≡ found_name number (map stage_value ss)
    → name_found number (cond b (Some s) (find (λ s. nat_lt number s.end) ss))
    ≡ option_map_or (name_in number) (cond b (Some (stage_value s)) (find (λ s. nat_lt number s.end) (map stage_value ss))) []
unfolding found_name
first_named number s ss true rest = refl
first_named number s ss false rest = rest

by_values : (number : ℕ) (ss : List Stage) → name_found number (find (λ s. nat_lt number s.end) ss) ≡ found_name number (map stage_value ss)
unfolding found_name
by_values number [] = refl
by_values number (s ∷ ss) = first_named number s ss (nat_lt number s.end) (by_values number ss)

pub named : (number : ℕ) (ss : List Stage) → map stage_value ss ≡ number_stages → name_found number (find (λ s. nat_lt number s.end) ss) ≡ number_name number
unfolding number_name found_name
named number ss is = by_values number ss ∙ ap (found_name number) is
