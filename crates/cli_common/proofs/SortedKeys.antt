-- What stands among the keys of a set that keys were put into.
use Rattle.std.proofs.Common.{◌≡◌, Bool, true, false, ◌||◌, List, [], ◌∷◌, refl, sym, ap, ◌∙◌}
use Rattle.std.specs.Prelude.{fold}
use Rattle.std.specs.BTreeSet.{insert_key}
use Rattle.std.specs.FinMap.{IsAntisymmetric}
use Rattle.std.specs.List.{list_any}
use Rattle.std.specs.Ordering.{eq_by_cmp, match_ordering}
use Rattle.std.specs.declared.cmp.Ordering.{Ordering}
use Rattle.std.specs.declared.cmp.Ordering.TheVariants.{Less, Equal, Greater}

or_false : (b : Bool) → b ≡ (b || false)
or_false true = refl
or_false false = refl

or_again : (b c : Bool) → (b || (b || c)) ≡ (b || c)
or_again true c = refl
or_again false c = refl

or_swap : (a b c : Bool) → (a || (b || c)) ≡ (b || (a || c))
or_swap true true c = refl
or_swap true false c = refl
or_swap false true c = refl
or_swap false false c = refl

or_turn : (a b c : Bool) → ((a || b) || c) ≡ (b || (a || c))
or_turn true true c = refl
or_turn true false c = refl
or_turn false true c = refl
or_turn false false c = refl

module _ {K : Type 0} {R : K → K → Ordering} (exact : IsAntisymmetric R) where
  -- with one more key
  pub member-insert_key : (q k : K) (ks : List K) → list_any (eq_by_cmp R q) (insert_key R ks k) ≡ (eq_by_cmp R q k || list_any (eq_by_cmp R q) ks)
  member-insert_key q k [] = refl
  member-insert_key q k (x ∷ xs) = by_place (member-insert_key q k xs) (R k x) refl
    where
      by_place : list_any (eq_by_cmp R q) (insert_key R xs k) ≡ (eq_by_cmp R q k || list_any (eq_by_cmp R q) xs) → (r : Ordering) → R k x ≡ r
          → list_any (eq_by_cmp R q) (match_ordering r (k ∷ x ∷ xs) (x ∷ xs) (x ∷ insert_key R xs k)) ≡ (eq_by_cmp R q k || (eq_by_cmp R q x || list_any (eq_by_cmp R q) xs))
      by_place later Less e = refl
      by_place later Equal e =
          sym (or_again (eq_by_cmp R q x) (list_any (eq_by_cmp R q) xs))
          ∙ ap (λ y. eq_by_cmp R q y || (eq_by_cmp R q x || list_any (eq_by_cmp R q) xs)) (sym (exact k x e))
      by_place later Greater e =
          ap (λ b. eq_by_cmp R q x || b) later
          ∙ or_swap (eq_by_cmp R q x) (eq_by_cmp R q k) (list_any (eq_by_cmp R q) xs)

  -- with some keys
  pub member-insert_keys : (q : K) (ks more : List K) → list_any (eq_by_cmp R q) (fold (insert_key R) ks more) ≡ (list_any (eq_by_cmp R q) ks || list_any (eq_by_cmp R q) more)
  member-insert_keys q ks [] = or_false (list_any (eq_by_cmp R q) ks)
  member-insert_keys q ks (k ∷ more) =
      member-insert_keys q (insert_key R ks k) more
      ∙ ap (λ b. b || list_any (eq_by_cmp R q) more) (member-insert_key q k ks)
      ∙ or_turn (eq_by_cmp R q k) (list_any (eq_by_cmp R q) ks) (list_any (eq_by_cmp R q) more)
