-- The types to which the programs of sections are attached: one by one, and all by one pass over the types.
use Rattle.std.proofs.Common.{◌≡◌, ◌<◌, ◌≤◌, ◌+◌, ℕ, zero, suc, Bool, true, false, ◌||◌, cond, List, [], ◌∷◌, ◌++◌, length, drop, map, Option, Some, None, refl, sym, ap, ◌∙◌, slice_get}
use Rattle.std.specs.Prelude.{option_map, find, is_some, ◌&&◌}
use Rattle.std.specs.List.{list_all, list_any, position_from}
use Rattle.std.specs.Option.{option_or}
use Rattle.std.proofs.lemmas.List.Folds.{find-append}
use Rattle.std.proofs.lemmas.List.{drop_all}
use Rattle.ebpf_btf.specs.Strings.{is_named}
use Rattle.ebpf_btf.specs.TypeInfo.{TypeInfo}
use Rattle.ebpf_btf.specs.Types.{kind_of, name_off}
use Rattle.ebpf_btf.specs.declared.kind.BtfKind.{BtfKind}
use Rattle.ebpf_btf.specs.declared.view.TypeHead.{TypeHead}
use Rattle.ebpf_load_info.proofs.Heads.{first_here, further, named_by_head, none_by_head}
use Rattle.ebpf_load_info.specs.AttachTargets.{attach_target, target_name, target_or_none, wanted}
use Rattle.ebpf_load_info.specs.PrivateContracts.{AreFound, attached, id_wanted, is_found, is_wanted_at, is_wanted_by, wanted_or_other, wanted_type}
use Rattle.ebpf_load_info.specs.declared.attach.TargetKind.{TargetKind}
use Rattle.ebpf_load_info.specs.declared.attach.WantedType.{WantedType}
use Rattle.ebpf_load_info.specs.declared.attach.WantedType.TheVariants.{Other, Nameless, Named}

-- ---- one section

pub attached_as_wanted : (types : TypeInfo) (section : List ℕ) → attached (wanted_type section) (id_wanted types (wanted_type section)) ≡ attach_target section types
unfolding attach_target
attached_as_wanted types section = by_target (wanted section) (target_name section)
  where
    by_target : (o : Option TargetKind) (name : List ℕ) → attached (wanted_or_other o name) (id_wanted types (wanted_or_other o name)) ≡ target_or_none types o name
    by_target None name = refl
    by_target (Some target) [] = refl
    by_target (Some target) (b ∷ name) = refl

-- ---- a type by its head

module _ (types : TypeInfo) (id : ℕ) where
  pub one_by_head : (head : TypeHead) → option_map (λ (h : TypeHead). h.kind) (Some head) ≡ option_map kind_of (slice_get types.types id)
      → option_map (λ (h : TypeHead). h.name_offset) (Some head) ≡ option_map name_off (slice_get types.types id)
      → (all : List WantedType) → list_any (is_wanted_by types head) all ≡ list_any (is_wanted_at types id) all
  one_by_head head kinds names [] = refl
  one_by_head head kinds names (one ∷ all) =
      ap (λ b. b || list_any (is_wanted_by types head) all) (by_head one)
      ∙ ap (λ b. is_wanted_at types id one || b) (one_by_head head kinds names all)
    where
      by_head : (w : WantedType) → is_wanted_by types head w ≡ is_wanted_at types id w
      by_head Other = refl
      by_head Nameless = refl
      by_head (Named kind name) = named_by_head types name kind id head kinds names

  pub no_head : ◌≡◌ {A = Option BtfKind} None (option_map kind_of (slice_get types.types id)) → (all : List WantedType) → false ≡ list_any (is_wanted_at types id) all
  no_head kinds [] = refl
  no_head kinds (one ∷ all) = no_head kinds all ∙ ap (λ b. b || list_any (is_wanted_at types id) all) (by_type one)
    where
      by_type : (w : WantedType) → false ≡ is_wanted_at types id w
      by_type Other = refl
      by_type Nameless = refl
      by_type (Named kind name) = none_by_head types name kind id kinds

-- ---- all by one pass

-- the id of a wanted type among the types from an id on
abbrev pub id_from : TypeInfo → WantedType → ℕ → Option ℕ
id_from types Other id = None
id_from types Nameless id = None
id_from types (Named kind name) id = position_from (is_named types name kind) id (drop id types.types)

abbrev first_in : TypeInfo → WantedType → List ℕ → Option ℕ
first_in types one ids = find (λ id. is_wanted_at types id one) ids

-- what is found so far, or else among the types that are left, is what is wanted
abbrev pub AreFoundSoFar : TypeInfo → List WantedType → ℕ → List ℕ → Type 0
AreFoundSoFar types all id ids =
    (k : ℕ) (one : WantedType) → slice_get all k ≡ Some one → option_or (first_in types one ids) (id_from types one id) ≡ id_wanted types one

or_some : (o rest : Option ℕ) (id : ℕ) → option_or (option_or o (Some id)) rest ≡ option_or o (Some id)
or_some None rest id = refl
or_some (Some x) rest id = refl

or_none : (o : Option ℕ) → option_or o None ≡ o
or_none None = refl
or_none (Some x) = refl

neither : (b c : Bool) → (b || c) ≡ false → (b ≡ false) × (c ≡ false)
neither false c lacks = (refl, lacks)
neither true c lacks = cc

none_passes : {X : Type 0} (p : X → Bool) (xs : List X) → list_any p xs ≡ false → (k : ℕ) (x : X) → slice_get xs k ≡ Some x → p x ≡ false
none_passes p [] lacks k x at = cc
none_passes p (y ∷ xs) lacks zero x at = let same : y ≡ x = cc in ap p (sym same) ∙ (neither (p y) (list_any p xs) lacks).0
none_passes p (y ∷ xs) lacks (suc k) x at = none_passes p xs (neither (p y) (list_any p xs) lacks).1 k x at

module _ (types : TypeInfo) (all : List WantedType) where
  module _ (id : ℕ) (ids : List ℕ) (so_far : AreFoundSoFar types all id ids) where
    pub all_found : length types.types ≤ id → AreFound types all ids
    all_found past k one at = sym (or_none (first_in types one ids)) ∙ ap (option_or (first_in types one ids)) (sym (past_all one)) ∙ so_far k one at
      where
        past_all : (w : WantedType) → id_from types w id ≡ None
        past_all Other = refl
        past_all Nameless = refl
        past_all (Named kind name) = ap (position_from (is_named types name kind) id) (drop_all id types.types past)

    module _ (inside : id < length types.types) where
      passed : (one : WantedType) → false ≡ is_wanted_at types id one → id_from types one id ≡ id_from types one (id + 1)
      passed Other lacks = refl
      passed Nameless lacks = refl
      passed (Named kind name) lacks = further (is_named types name kind) types.types id id inside lacks

      here : (one : WantedType) → true ≡ is_wanted_at types id one → id_from types one id ≡ Some id
      here Other met = cc
      here Nameless met = cc
      here (Named kind name) met = first_here (is_named types name kind) types.types id id inside met

      -- a type that isn't wanted
      pub one_passed : list_any (is_wanted_at types id) all ≡ false → AreFoundSoFar types all (id + 1) ids
      one_passed lacks k one at =
          ap (option_or (first_in types one ids)) (sym (passed one (sym (none_passes (is_wanted_at types id) all lacks k one at))))
          ∙ so_far k one at

      -- one that is
      pub one_found : (more : List ℕ) → more ≡ ids ++ id ∷ [] → AreFoundSoFar types all (id + 1) more
      one_found more pushed k one at =
          ap (λ xs. option_or (first_in types one xs) (id_from types one (id + 1))) pushed
          ∙ ap (λ o. option_or o (id_from types one (id + 1))) (find-append (λ i. is_wanted_at types i one) ids (id ∷ []))
          ∙ by_test (is_wanted_at types id one) refl
          ∙ so_far k one at
        where
          by_test : (b : Bool) → is_wanted_at types id one ≡ b
              → option_or (option_or (first_in types one ids) (cond b (Some id) None)) (id_from types one (id + 1)) ≡ option_or (first_in types one ids) (id_from types one id)
          by_test true is = or_some (first_in types one ids) (id_from types one (id + 1)) id ∙ ap (option_or (first_in types one ids)) (sym (here one (sym is)))
          by_test false is =
              ap (λ o. option_or o (id_from types one (id + 1))) (or_none (first_in types one ids))
              ∙ ap (option_or (first_in types one ids)) (sym (passed one (sym is)))

-- nothing is left to find
pub named_found : (types : TypeInfo) (ids : List ℕ) (one : WantedType) (kind : BtfKind) (name : List ℕ) → one ≡ Named kind name → is_some (first_in types one ids) ≡ is_found types ids one
named_found types ids one kind name is =
    ap (λ w. is_some (first_in types w ids)) is
    ∙ sym (ap (is_found types ids) is)

or_found : (o rest : Option ℕ) → is_some o ≡ true → option_or o rest ≡ o
or_found None rest is = cc
or_found (Some x) rest is = refl

both : (b c : Bool) → (b && c) ≡ true → (b ≡ true) × (c ≡ true)
both true c is = (refl, is)
both false c is = cc

each_passes : {X : Type 0} (p : X → Bool) (xs : List X) → list_all p xs ≡ true → (k : ℕ) (x : X) → slice_get xs k ≡ Some x → p x ≡ true
each_passes p [] all k x at = cc
each_passes p (y ∷ xs) all zero x at = let same : y ≡ x = cc in ap p (sym same) ∙ (both (p y) (list_all p xs) all).0
each_passes p (y ∷ xs) all (suc k) x at = each_passes p xs (both (p y) (list_all p xs) all).1 k x at

pub none_left : (types : TypeInfo) (all : List WantedType) (id : ℕ) (ids : List ℕ) → AreFoundSoFar types all id ids → list_all (is_found types ids) all ≡ true → AreFound types all ids
none_left types all id ids so_far found k one at = by_type one (so_far k one at) (each_passes (is_found types ids) all found k one at)
  where
    by_type : (w : WantedType) → option_or (first_in types w ids) (id_from types w id) ≡ id_wanted types w → is_found types ids w ≡ true → first_in types w ids ≡ id_wanted types w
    by_type Other is met = sym (or_none (first_in types Other ids)) ∙ is
    by_type Nameless is met = sym (or_none (first_in types Nameless ids)) ∙ is
    by_type (Named kind name) is met = sym (or_found (first_in types (Named kind name) ids) (id_from types (Named kind name) id) met) ∙ is

-- ---- the targets

map_at : {A B : Type 0} (f g : A → B) (xs : List A) → ((k : ℕ) (x : A) → slice_get xs k ≡ Some x → f x ≡ g x) → map f xs ≡ map g xs
map_at f g [] same = refl
map_at f g (x ∷ xs) same = ap (λ y. y ∷ map f xs) (same 0 x refl) ∙ ap (λ ys. g x ∷ ys) (map_at f g xs (λ k y at. same (suc k) y at))

each_section : (types : TypeInfo) (sections : List (List ℕ)) → map (λ one. attached one (id_wanted types one)) (map wanted_type sections) ≡ map (λ section. attach_target section types) sections
each_section types [] = refl
each_section types (section ∷ sections) =
    ap (λ target. target ∷ map (λ one. attached one (id_wanted types one)) (map wanted_type sections)) (attached_as_wanted types section)
    ∙ ap (λ targets. attach_target section types ∷ targets) (each_section types sections)

pub all_attached : (types : TypeInfo) (sections : List (List ℕ)) (all : List WantedType) (ids : List ℕ) → all ≡ map wanted_type sections → AreFound types all ids
    → map (λ one. attached one (find (λ id. is_wanted_at types id one) ids)) all ≡ map (λ section. attach_target section types) sections
all_attached types sections all ids is found =
    map_at (λ one. attached one (find (λ id. is_wanted_at types id one) ids)) (λ one. attached one (id_wanted types one)) all (λ k one at. ap (attached one) (found k one at))
    ∙ ap (map (λ one. attached one (id_wanted types one))) is
    ∙ each_section types sections
