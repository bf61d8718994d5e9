-- Descriptors that have the names of all maps, in byte order: no name is unknown, and no map is without a descriptor.
use Rattle.std.proofs.Common.{◌≡◌, ◌||◌, ℕ, Bool, true, false, cond, List, [], ◌∷◌, map, Option, Some, None, refl, sym, ap, ◌∙◌, ◌&&◌}
use Rattle.std.specs.Prelude.{ℤ, not, if◌then◌else◌, option_map, slice_get}
use Rattle.std.specs.Cmp.{eq_by_cmp_equiv}
use Rattle.std.specs.Cmp.Lexicographic.{pointwise, pointwise_decides}
use Rattle.std.specs.FinMap.{contains_key, contains_key-keys, empty, entries, get-empty}
use Rattle.std.specs.List.{filter, list_all, list_any}
use Rattle.std.specs.Map.{keys_of}
use Rattle.std.specs.Option.{is_some}
use Rattle.std.specs.Ordering.{eq_by_cmp}
use Rattle.std.specs.Str.{bytes_eq}
use Rattle.std.proofs.lemmas.List.Folds.{list_all-map}
use Rattle.std.proofs.lemmas.Slice.Eq.{bytes_eq-Decides}
use Rattle.ebpf_base.proofs.Mapped.{later_text_stands}
use Rattle.ebpf_base.specs.Faults.{or_else}
use Rattle.ebpf_base.specs.Maps.{last_at, put_all, text_cmp, text_total}
use Rattle.ebpf_object.specs.LinkedPrograms.{linkable_of}
use Rattle.ebpf_object.specs.Names.{has_function_in}
use Rattle.ebpf_object.specs.Stages.{Descriptor, first_missing, maps_without_descriptors, unknown_maps}
use Rattle.ebpf_object.specs.declared.object.Object.{Object}
use Rattle.ebpf_object.specs.declared.prepare_error.PrepareError.TheVariants.{MissingDescriptor, UnknownMap}
use Rattle.ebpf_reloc.proofs.NoNames.{none_without_descriptor}

abbrev is_among : List ℕ → List (List ℕ) → Bool
is_among name names = list_any (eq_by_cmp text_cmp name) names

-- what is true of each text among some texts is true of all of them
all_among : (p : List ℕ → Bool) (names : List (List ℕ)) → ((name : List ℕ) → is_among name names ≡ true → p name ≡ true) → list_all p names ≡ true
all_among p [] each = refl
all_among p (n ∷ names) each =
    ap (λ b. b && list_all p names) (each n (ap (λ b. b || is_among n names) ((eq_by_cmp_equiv text_total).refl n)))
    ∙ all_among p names (λ q is. each q (later (eq_by_cmp text_cmp q n) (is_among q names) is))
  where
    later : (a b : Bool) → b ≡ true → (a || b) ≡ true
    later true b is = refl
    later false b is = is

-- where each passes, none fails
none_left : (p : List ℕ → Bool) (names : List (List ℕ)) → list_all p names ≡ true → filter (λ name. not (p name)) names ≡ []
none_left p [] all = refl
none_left p (n ∷ names) all = by (p n) (list_all p names) all (none_left p names)
  where
    by : (b rest : Bool) → (b && rest) ≡ true → (rest ≡ true → filter (λ name. not (p name)) names ≡ [])
        → (if not b then n ∷ filter (λ name. not (p name)) names else filter (λ name. not (p name)) names) ≡ []
    by true rest is others = others is
    by false rest is others = absurd (cc)

-- a name among those of some entries has a last one
last_is_some : (q : List ℕ) (before : Option ℤ) (ds : List Descriptor) → (is_some before || is_among q (map (λ d. d.0) ds)) ≡ true
    → is_some (last_at text_cmp q before ds) ≡ true
last_is_some q None [] is = is
last_is_some q (Some v) [] is = refl
last_is_some q before (d ∷ ds) is = last_is_some q (cond (eq_by_cmp text_cmp q d.0) (Some d.1) before) ds (by (eq_by_cmp text_cmp q d.0) before is)
  where
    by : (b : Bool) (o : Option ℤ) → (is_some o || (b || is_among q (map (λ d. d.0) ds))) ≡ true
        → (is_some (cond b (Some d.1) o) || is_among q (map (λ d. d.0) ds)) ≡ true
    by true o held = refl
    by false o held = held

module _ (o : Object) (ds : List Descriptor) (same : pointwise bytes_eq (keys_of (entries o.maps)) (map (λ d. d.0) ds) ≡ true) where
  names_same : keys_of (entries o.maps) ≡ map (λ d. d.0) ds
  names_same = (pointwise_decides bytes_eq-Decides (keys_of (entries o.maps)) (map (λ d. d.0) ds)).0 same

  none_unknown : unknown_maps o ds ≡ []
  none_unknown =
      ap (filter (λ name. not (contains_key o.maps name))) (sym names_same)
      ∙ none_left (contains_key o.maps) (keys_of (entries o.maps)) (all_among (contains_key o.maps) (keys_of (entries o.maps)) (λ q is. contains_key-keys o.maps q ∙ is))

  has : (q : List ℕ) → is_among q (keys_of (entries o.maps)) ≡ true → contains_key {R = text_cmp} (put_all empty ds) q ≡ true
  has q is =
      ap is_some (later_text_stands empty ds q ∙ ap (λ v. last_at text_cmp q v ds) (get-empty text_cmp q))
      ∙ last_is_some q None ds (ap (is_among q) (sym names_same) ∙ is)

  all_described : list_all (λ e. contains_key {R = text_cmp} (put_all empty ds) e.0) (entries o.maps) ≡ true
  all_described =
      sym (list_all-map (contains_key {R = text_cmp} (put_all empty ds)) (λ e. e.0) (entries o.maps))
      ∙ all_among (contains_key {R = text_cmp} (put_all empty ds)) (keys_of (entries o.maps)) has

  none_without : [] ≡ maps_without_descriptors o ds
  none_without = none_without_descriptor (put_all empty ds) (linkable_of o (has_function_in o.functions)) o.maps all_described

  pub none_missing : None ≡ first_missing o ds
  none_missing =
      sym
      (ap (λ names. or_else (option_map UnknownMap (slice_get names 0)) (option_map (λ s. MissingDescriptor s.name) (slice_get (maps_without_descriptors o ds) 0))) none_unknown
      ∙ ap (λ slots. option_map (λ s. MissingDescriptor s.name) (slice_get slots 0)) (sym none_without))
