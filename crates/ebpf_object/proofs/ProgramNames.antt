-- The programs of names, one after the other.
use Rattle.std.proofs.Common.{◌≡◌, ℕ, ◌+◌, ◌<◌, true, false, cond, List, [], ◌∷◌, ◌++◌, map, length, drop, Some, Bor, refl, sym, ap, ◌∙◌, Bool, subst}
use Rattle.std.specs.Prelude.{slice_index_or, MatchBool}
use Rattle.std.specs.Cmp.{eq_by_cmp_equiv}
use Rattle.std.specs.FinMap.{FinMap, entries, find, get-entries, get}
use Rattle.std.specs.List.{flat_map, IsDistinct, AllByRecursion}
use Rattle.std.specs.Map.{keys_of}
use Rattle.std.specs.Ordering.{eq_by_cmp}
use Rattle.std.proofs.lemmas.Map.Keys.{IsDistinct-from_sorted}
use Rattle.std.proofs.lemmas.List.{append_assoc}
use Rattle.ebpf_base.proofs.Lists.{flat_map-same, rest_more}
use Rattle.ebpf_base.proofs.Maps.{entries_rise}
use Rattle.ebpf_base.specs.Maps.{text_cmp, text_total, lent_bytes, key_cmp, key_total}
use Rattle.ebpf_model.specs.declared.function.Function.{Function}
use Rattle.ebpf_model.specs.declared.function.Program.{Program}
use Rattle.ebpf_object.specs.LinkedPrograms.{program_value, programs_in_order, is_program_key, MapsTellOfLinked}
use Rattle.ebpf_object.specs.PrivateContracts.{program_if, program_with}
use Rattle.ebpf_reloc.proofs.OneResult.{link_maps_match, any_at}
use Rattle.ebpf_reloc.specs.Linking.{ProgramValue, key_of, IsLinked}

-- those so far, with that of the first name that is left, and those of the others
pub one_name : (f : List ℕ → List ProgramValue) (before : List ProgramValue) (names : List (Bor (List ℕ))) (i : ℕ) (name : Bor (List ℕ)) → i < length names → name ≡ slice_index_or names i name
    → before ++ flat_map f (lent_bytes (drop i names)) ≡ (before ++ f name.now) ++ flat_map f (lent_bytes (drop (i + 1) names))
one_name f before names i name below here =
    ap (λ rest. before ++ flat_map f (lent_bytes rest)) (rest_more names i name below here) ∙ sym (append_assoc before (f name.now) (flat_map f (lent_bytes (drop (i + 1) names))))

-- the programs with the names of all, in their order
module _ (programs : FinMap text_cmp Program) where
  abbrev found_in : List (List ℕ × Program) → List ℕ → List ProgramValue
  found_in es name = program_if name (find text_cmp name es)

  later_names : (e : List ℕ × Program) (es : List (List ℕ × Program)) (names : List (List ℕ)) → AllByRecursion (λ y. eq_by_cmp text_cmp e.0 y ≡ false) names → flat_map (found_in (e ∷ es)) names ≡ flat_map (found_in es) names
  later_names e es [] h = refl
  later_names e es (name ∷ names) h =
      let other : eq_by_cmp text_cmp name e.0 ≡ false = (eq_by_cmp_equiv text_total).symm name e.0 ∙ h.0 in
      λ i. program_if name (cond (other i) (Some e.1) (find text_cmp name es)) ++ later_names e es names h.1 i

  by_names : (es : List (List ℕ × Program)) → IsDistinct (eq_by_cmp text_cmp) (keys_of es) → flat_map (found_in es) (keys_of es) ≡ map (λ e. program_value e.0 e.1) es
  unfolding IsDistinct
  by_names [] apart = refl
  by_names (e ∷ es) apart =
      let here : eq_by_cmp text_cmp e.0 e.0 ≡ true = (eq_by_cmp_equiv text_total).refl e.0 in
      λ i. program_if e.0 (cond (here i) (Some e.1) (find text_cmp e.0 es)) ++ (later_names e es (keys_of es) apart.0 ∙ by_names es apart.1) i

  pub all_names : flat_map (program_with programs) (keys_of (entries programs)) ≡ programs_in_order programs
  all_names =
      flat_map-same (program_with programs) (found_in (entries programs)) (keys_of (entries programs)) (λ name. ap (program_if name) (get-entries programs name))
      ∙ by_names (entries programs) (IsDistinct-from_sorted text_cmp _ (entries_rise programs))

-- ---- what the maps of programs tell of once the programs are linked

pub maps_tell_of_linked : MapsTellOfLinked
maps_tell_of_linked parts programs after function i program at m a =
    let key = key_of program in
    let is : is_program_key programs key ≡ true = any_at (λ p. eq_by_cmp key_cmp key (key_of p)) programs i program at ((eq_by_cmp_equiv key_total).refl key) in
    let (g, there, b) = subst (λ (c : Bool). MatchBool c ((g : Function) × (get after key ≡ Some g) × IsLinked parts key g) (get after key ≡ get parts.functions key)) is (function key) in
    (g, there, b, link_maps_match parts key m g a b)
