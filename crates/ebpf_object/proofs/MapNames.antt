-- Names that are gathered name by name are those of the first map of each section.
use Rattle.std.proofs.Common.{◌≡◌, ◌==◌, ℕ, Bool, true, false, T, cond, List, [], ◌∷◌, Option, Some, None, Result, Ok, Err, option_map, refl, sym, ap, subst, ◌∙◌, if◌then◌else◌}
use Rattle.std.specs.Prelude.{is_some, IfOk}
use Rattle.std.specs.Cmp.{eq_by_cmp_equiv, nat_cmp_total, unsigned_tied}
use Rattle.std.specs.FinMap.{FinMap, get, insert, entries, empty, contains_key, get-insert, get-empty, get-entries, find}
use Rattle.std.specs.List as list
use Rattle.std.specs.List.{IsDistinct, AllByRecursion}
use Rattle.std.specs.Map.{keys_of}
use Rattle.std.specs.Ordering.{nat_cmp, eq_by_cmp}
use Rattle.std.proofs.lemmas.Map.Keys.{IsDistinct-from_sorted}
use Rattle.std.proofs.lemmas.Map.Lookups.{exact_unsigned}
use Rattle.std.proofs.lemmas.Map.Views.{tells_apart}
use Rattle.ebpf_base.specs.Faults.{or_else}
use Rattle.ebpf_base.specs.Maps.{text_cmp, text_total}
use Rattle.ebpf_base.proofs.Faults.{or_else-None, or_else-assoc}
use Rattle.ebpf_base.proofs.Maps.{entries_rise}
use Rattle.ebpf_object.specs.Names.{with_map_name, with_map_names}
use Rattle.ebpf_object.specs.Patches.{first_map}
use Rattle.ebpf_parts.specs.Maps.{section_index_of}
use Rattle.ebpf_parts.specs.declared.maps.either.Map.{Map}

one_kept : {X : Type 0} (o : Option X) (there same : Bool) (x : X) → (same ≡ true → there ≡ is_some o) → (if there then o else cond same (Some x) o) ≡ or_else o (if same then Some x else None)
one_kept (Some w) true same x h = refl
one_kept (Some w) false true x h = absurd (subst T (sym (h refl)) tt)
one_kept (Some w) false false x h = refl
one_kept None true true x h = absurd (subst T (h refl) tt)
one_kept None true false x h = refl
one_kept None false true x h = refl
one_kept None false false x h = refl

get_if : {X : Type 0} (m n : FinMap nat_cmp X) (b : Bool) (q : ℕ) → get (if b then m else n) q ≡ (if b then get m q else get n q)
get_if m n true q = refl
get_if m n false q = refl

first_or : {X : Type 0} (b : Bool) (x : X) (o : Option X) → or_else (if b then Some x else None) o ≡ (if b then Some x else o)
first_or true x o = refl
first_or false x o = refl

module _ (section : ℕ) where
  abbrev is_here : Option Map → Bool
  is_here None = false
  is_here (Some m) = section == section_index_of m

  step : (found : FinMap nat_cmp (List ℕ)) (name : List ℕ) (o : Option Map) → get (with_map_name found name o) section ≡ or_else (get found section) (if is_here o then Some name else None)
  step found name None = sym (or_else-None (get found section))
  step found name (Some m) =
      let at = section_index_of m in
      get_if found (insert found at name) (contains_key found at) section
      ∙ ap (λ o. if contains_key found at then get found section else o) (get-insert nat_cmp_total found at name section ∙ ap (λ b. cond b (Some name) (get found section)) (unsigned_tied section at))
      ∙ one_kept (get found section) (contains_key found at) (section == at) name (λ same. ap (contains_key found) (sym (tells_apart exact_unsigned section at (unsigned_tied section at ∙ same))))

  -- ---- by names

  module _ (maps : FinMap text_cmp Map) where
    abbrev first_named : List (List ℕ) → Option (List ℕ)
    first_named names = list.find (λ n. is_here (get maps n)) names

    gathered : (found : FinMap nat_cmp (List ℕ)) (names : List (List ℕ)) → get (with_map_names maps found names) section ≡ or_else (get found section) (first_named names)
    gathered found [] = sym (or_else-None (get found section))
    gathered found (n ∷ ns) =
        gathered (with_map_name found n (get maps n)) ns
        ∙ ap (λ o. or_else o (first_named ns)) (step found n (get maps n))
        ∙ or_else-assoc (get found section) (if is_here (get maps n) then Some n else None) (first_named ns)
        ∙ ap (or_else (get found section)) (first_or (is_here (get maps n)) n (first_named ns))

  -- ---- by entries

  abbrev found_in : List (List ℕ × Map) → List (List ℕ) → Option (List ℕ)
  found_in es names = list.find (λ n. is_here (find text_cmp n es)) names

  later_names : (e : List ℕ × Map) (es : List (List ℕ × Map)) (names : List (List ℕ)) → AllByRecursion (λ y. eq_by_cmp text_cmp e.0 y ≡ false) names → found_in (e ∷ es) names ≡ found_in es names
  later_names e es [] h = refl
  later_names e es (n ∷ ns) h =
      let other : eq_by_cmp text_cmp n e.0 ≡ false = (eq_by_cmp_equiv text_total).symm n e.0 ∙ h.0 in
      λ i. if is_here (cond (other i) (Some e.1) (find text_cmp n es)) then Some n else later_names e es ns h.1 i

  name_if : (b : Bool) (e : List ℕ × Map) (o : Option (List ℕ × Map)) → (if b then Some e.0 else option_map (λ x. x.0) o) ≡ option_map (λ x. x.0) (if b then Some e else o)
  name_if true e o = refl
  name_if false e o = refl

  by_names : (es : List (List ℕ × Map)) → IsDistinct (eq_by_cmp text_cmp) (keys_of es) → found_in es (keys_of es) ≡ option_map (λ x. x.0) (list.find (λ x. section == section_index_of x.1) es)
  unfolding IsDistinct
  by_names [] apart = refl
  by_names (e ∷ es) apart =
      let here : eq_by_cmp text_cmp e.0 e.0 ≡ true = (eq_by_cmp_equiv text_total).refl e.0 in
      (λ i. if is_here (cond (here i) (Some e.1) (find text_cmp e.0 es)) then Some e.0 else (later_names e es (keys_of es) apart.0 ∙ by_names es apart.1) i)
      ∙ name_if (section == section_index_of e.1) e (list.find (λ x. section == section_index_of x.1) es)

  same_test : (maps : FinMap text_cmp Map) (names : List (List ℕ)) → first_named maps names ≡ found_in (entries maps) names
  same_test maps [] = refl
  same_test maps (n ∷ ns) = λ i. if is_here (get-entries maps n i) then Some n else same_test maps ns i

  all_names : (maps : FinMap text_cmp Map) → get (with_map_names maps empty (keys_of (entries maps))) section ≡ first_map maps section
  all_names maps =
      gathered maps empty (keys_of (entries maps))
      ∙ ap (λ o. or_else o (first_named maps (keys_of (entries maps)))) (get-empty nat_cmp section)
      ∙ same_test maps (keys_of (entries maps))
      ∙ by_names (entries maps) (IsDistinct-from_sorted text_cmp _ (entries_rise maps))

pub first_maps : {E : Type 0} (maps : FinMap text_cmp Map) (names : List (List ℕ)) (r : Result (FinMap nat_cmp (List ℕ)) E) → names ≡ keys_of (entries maps)
    → IfOk r (λ found. found ≡ with_map_names maps empty names) → IfOk r (λ found. (section : ℕ) → get found section ≡ first_map maps section)
first_maps maps names (Ok found) all made = λ section. ap (λ f. get f section) (made ∙ ap (with_map_names maps empty) all) ∙ all_names section maps
first_maps maps names (Err e) all made = tt
