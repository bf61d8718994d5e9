-- A list grows by what comes of each item of a slice: with what comes of the items that are left, all is there.
use Rattle.std.proofs.Common.{◌≡◌, ◌∙◌, ap, sym, ℕ, ◌+◌, ◌<◌, List, [], ◌∷◌, ◌++◌, map, length, drop, append_assoc}
use Rattle.std.specs.List.{flat_map}
use Rattle.std.specs.Prelude.{slice_index_or}
use Rattle.ebpf_base.proofs.Lists.{lists_more, rest_more}

module _ {X Y : Type 0} where
  -- by one value of the next item
  pub one_mapped : (f : X → Y) (before after all : List Y) (xs : List X) (i : ℕ) (x : X) → i < length xs → x ≡ slice_index_or xs i x → after ≡ before ++ f x ∷ []
      → before ++ map f (drop i xs) ≡ all → after ++ map f (drop (i + 1) xs) ≡ all
  one_mapped f before after all xs i x below here added whole =
      ap (λ ys. ys ++ map f (drop (i + 1) xs)) added
      ∙ append_assoc before (f x ∷ []) (map f (drop (i + 1) xs))
      ∙ ap (λ rest. before ++ map f rest) (sym (rest_more xs i x below here))
      ∙ whole

  -- by a list of the next item
  pub one_list : (f : X → List Y) (before after all : List Y) (xs : List X) (i : ℕ) (x : X) → i < length xs → x ≡ slice_index_or xs i x → after ≡ before ++ f x
      → before ++ flat_map f (drop i xs) ≡ all → after ++ flat_map f (drop (i + 1) xs) ≡ all
  one_list f before after all xs i x below here added whole =
      ap (λ ys. ys ++ flat_map f (drop (i + 1) xs)) added
      ∙ append_assoc before (f x) (flat_map f (drop (i + 1) xs))
      ∙ ap (λ rest. before ++ rest) (sym (lists_more f xs i x below here))
      ∙ whole
