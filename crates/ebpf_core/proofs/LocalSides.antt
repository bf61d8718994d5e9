-- The local side of a record, and lists of answers.
use Rattle.std.proofs.Common.{◌≡◌, ℕ, ◌+◌, ◌<◌, ◌≤◌, List, [], ◌∷◌, ◌++◌, length, drop, map, Option, Some, None, Result, Ok, Err, refl, sym, ap, ◌∙◌, append_assoc, append-nil, get_or, true, false, subst, ◌^◌, Bool, ◌&&◌, if◌then◌else◌}
use Rattle.std.specs.Prelude.{slice_index_or, option_map, fold, nat_lt, IfOk}
use Rattle.std.specs.Result.{IsErrAnd, result_ok}
use denote.Ref.{Bor}
use Rattle.std.specs.Str.{all_ascii_digits}
use Rattle.std.specs.Str.Parse.{ParsesUnsigned, IsNumeral, digits_value, without_leading_plus}
use Rattle.std.proofs.lemmas.Bool.{lt-ltb, ltb-true}
use Rattle.std.proofs.lemmas.Str.Parse.{IsNumeralModel, numerals_by_value, tells_all_ascii_digits}
use Rattle.std.proofs.lemmas.List.{drop_more}
use Rattle.ebpf_base.proofs.Lists.{rest_more, rest_none, map-map}
use Rattle.ebpf_base.specs.Faults.{if_ok}
use Rattle.ebpf_btf.specs.TypeInfo.{TypeInfo}
use Rattle.ebpf_btf.specs.Steps.{resolved, type_at}
use Rattle.ebpf_btf.specs.Strings.{text_at, type_name}
use Rattle.ebpf_btf_ext.specs.declared.relocation.Relocation.{Relocation}
use Rattle.ebpf_core_candidates.proofs.Refusals.{by_answer}
use Rattle.ebpf_core.specs.LocalPaths.{all_of, part_step, spot_after, accessors, field_path, local_path, path_for, spot_at_element, basis_of, FieldLeads, NoPart, NoRoot, NoField, ToField, IsRead, LocalPathLeads, OfType, OfMatchedType, NoType, OfVariant, OfField, LocalSideIs, NoLocalType, NoName, NoString, NoAccessors, NotResolved, NoPath, Led, AccessorsLead, Arrived, Refused, Onward, accessor_of, number_of_digits}
use Rattle.ebpf_core.specs.Answers.{each, Tells, of_types}
use Rattle.ebpf_core.specs.declared.error.RelocationError.{RelocationError}
use Rattle.ebpf_core.specs.declared.local_walk.LocalSpot.{LocalSpot}
use Rattle.ebpf_core.specs.declared.matches.MatchValue.{MatchValue}
use Rattle.ebpf_core.specs.Outcomes.{type_name_at, values_agree, differing_names}
use Rattle.ebpf_core.proofs.Refusals.{refused_by, by_types}
use Rattle.ebpf_core.specs.declared.paths.LocalPath.{LocalPath}
use Rattle.ebpf_core.specs.declared.paths.NamedPath.{NamedPath}
use Rattle.ebpf_core.specs.declared.paths.RelocationBasis.{RelocationBasis}
use Rattle.ebpf_core.specs.declared.paths.RelocationBasis.TheVariants as bases

-- what is kept, and then a list that there may be
abbrev pub after : {X : Type 0} → List X → Option (List X) → Option (List X)
after kept rest = option_map (λ ys. kept ++ ys) rest

after_push : {X : Type 0} (kept : List X) (x : X) (rest : Option (List X)) → after kept (option_map (λ ys. x ∷ ys) rest) ≡ after (kept ++ x ∷ []) rest
after_push kept x None = refl
after_push kept x (Some ys) = ap Some (sym (append_assoc kept (x ∷ []) ys))

-- what is kept, and then an answer
abbrev pub onto : {X E : Type 0} → List X → Result (List X) E → Result (List X) E
onto kept rest = if_ok rest (λ ys. Ok (kept ++ ys))

pub onto_push : {X E : Type 0} (kept : List X) (x : X) (rest : Result (List X) E) → onto kept (if_ok rest (λ ys. Ok (x ∷ ys))) ≡ onto (kept ++ x ∷ []) rest
onto_push kept x (Err e) = refl
onto_push kept x (Ok ys) = ap Ok (sym (append_assoc kept (x ∷ []) ys))

module _ {X : Type 0} (f : X → Option ℕ) (kept : List ℕ) (xs : List X) (i : ℕ) (x : X) (below : i < length xs) (here : x ≡ slice_index_or xs i x) where
  -- a member that is there
  pub all_more : (n : ℕ) → f x ≡ Some n → after kept (all_of (map f (drop i xs))) ≡ after (kept ++ n ∷ []) (all_of (map f (drop (i + 1) xs)))
  all_more n is = rw (rest_more xs i x below here, is) (after_push kept n (all_of (map f (drop (i + 1) xs))))

  -- one that is not
  pub all_missing : f x ≡ None → after kept (all_of (map f (drop i xs))) ≡ None
  all_missing is = rw (rest_more xs i x below here, is) refl

-- at the end
pub all_end : {X : Type 0} (f : X → Option ℕ) (kept : List ℕ) (xs : List X) (i : ℕ) → length xs ≤ i → after kept (all_of (map f (drop i xs))) ≡ Some kept
all_end f kept xs i past = rw (rest_none xs i past) (ap Some (append-nil kept))

module _ {X Y E : Type 0} (f : X → Result Y E) (kept : List Y) (xs : List X) (i : ℕ) where
  -- an answer that is no fault
  pub each_more : (x : X) (y : Y) → i < length xs → x ≡ slice_index_or xs i x → f x ≡ Ok y
      → onto kept (each f (drop i xs)) ≡ onto (kept ++ y ∷ []) (each f (drop (i + 1) xs))
  each_more x y below here is = rw (rest_more xs i x below here, is) (onto_push kept y (each f (drop (i + 1) xs)))

  -- a fault
  pub each_fault : (x : X) (e : E) → i < length xs → x ≡ slice_index_or xs i x → f x ≡ Err e → onto kept (each f (drop i xs)) ≡ Err e
  each_fault x e below here is = rw (rest_more xs i x below here, is) refl

  -- at the end
  pub each_end : length xs ≤ i → onto kept (each f (drop i xs)) ≡ Ok kept
  each_end past = rw (rest_none xs i past) (ap Ok (append-nil kept))

-- ---- parts

module _ (info : TypeInfo) (number : ℕ) (access : List ℕ) where
  abbrev on_by : Result LocalSpot RelocationError → ℕ → Result LocalSpot RelocationError
  on_by so_far part = if_ok so_far (λ spot. part_step info number access spot part)

  -- a fault stays
  fault_stays : (parts : List ℕ) (e : RelocationError) → fold on_by (Err e) parts ≡ Err e
  fault_stays [] e = refl
  fault_stays (part ∷ parts) e = fault_stays parts e

  walked_from : (parts : List ℕ) (r : Result LocalSpot RelocationError) → fold on_by r parts ≡ if_ok r (spot_after info number access parts)
  unfolding spot_after
  walked_from parts (Ok from) = refl
  walked_from parts (Err e) = fault_stays parts e

  pub walked_on : (part : ℕ) (parts : List ℕ) (from : LocalSpot) → spot_after info number access (part ∷ parts) from ≡ if_ok (part_step info number access from part) (spot_after info number access parts)
  unfolding spot_after
  walked_on part parts from = walked_from parts (part_step info number access from part)

  pub walked_none : (from : LocalSpot) → spot_after info number access [] from ≡ Ok from
  unfolding spot_after
  walked_none from = refl

  module _ (parts : List ℕ) (i : ℕ) (from : LocalSpot) (all : Result LocalSpot RelocationError) (so_far : spot_after info number access (drop i parts) from ≡ all) where
    module _ (below : i < length parts) where
      part_taken : spot_after info number access (drop i parts) from ≡ if_ok (part_step info number access from (get_or parts i 0)) (spot_after info number access (drop (i + 1) parts))
      part_taken = ap (λ ps. spot_after info number access ps from) (drop_more parts i 0 below) ∙ walked_on (get_or parts i 0) (drop (i + 1) parts) from

      pub part_next : (next : LocalSpot) → part_step info number access from (get_or parts i 0) ≡ Ok next → spot_after info number access (drop (i + 1) parts) next ≡ all
      part_next next is = sym (part_taken ∙ ap (λ r. if_ok r (spot_after info number access (drop (i + 1) parts))) is) ∙ so_far

      pub part_refused : (r : Result LocalSpot RelocationError) (e : RelocationError) → IsErrAnd r (λ f. f ≡ e)
          → Tells {X = LocalSpot} (Err e) (part_step info number access from (get_or parts i 0)) → Tells r all
      part_refused r e is given =
          refused_by e (part_step info number access from (get_or parts i 0)) r all is
          (λ fault. sym so_far ∙ part_taken ∙ ap (λ a. if_ok a (spot_after info number access (drop (i + 1) parts))) fault) given

    pub parts_over : length parts ≤ i → all ≡ Ok from
    parts_over past = sym so_far ∙ ap (λ ps. spot_after info number access ps from) (rest_none parts i past) ∙ walked_none from

-- ---- matches that may differ from the first

module _ (target : TypeInfo) (first : MatchValue) (kept : List (List ℕ)) (others : List MatchValue) (i : ℕ) where
  module _ (other : MatchValue) (below : i < length others) (here : other ≡ slice_index_or others i other) where
    pub agreeing : values_agree first other ≡ true
        → onto kept (differing_names target first (drop i others)) ≡ onto kept (differing_names target first (drop (i + 1) others))
    agreeing is = rw (rest_more others i other below here, is) refl

    pub differing : (name : List ℕ) → values_agree first other ≡ false → of_types (type_name_at target other.candidate) ≡ Ok name
        → onto kept (differing_names target first (drop i others)) ≡ onto (kept ++ name ∷ []) (differing_names target first (drop (i + 1) others))
    differing name is named = rw (rest_more others i other below here, is, named) (onto_push kept name (differing_names target first (drop (i + 1) others)))

    pub unreadable : (e : RelocationError) → values_agree first other ≡ false → of_types (type_name_at target other.candidate) ≡ Err e
        → onto kept (differing_names target first (drop i others)) ≡ Err e
    unreadable e is fault = rw (rest_more others i other below here, is, fault) refl

  pub others_over : length others ≤ i → onto kept (differing_names target first (drop i others)) ≡ Ok kept
  others_over past = rw (rest_none others i past) (ap Ok (append-nil kept))

-- ---- a field

module _ (info : TypeInfo) (number : ℕ) (access : List ℕ) where
  abbrev walk : List ℕ → LocalSpot → Result LocalSpot RelocationError
  walk = spot_after info number access

  parts_lead : (parts : List ℕ) (from : LocalSpot) → AccessorsLead info number access parts from (walk parts from)
  parts_lead [] from = subst (AccessorsLead info number access [] from) (sym (walked_none info number access from)) (Arrived from)
  parts_lead (part ∷ parts) from =
      subst (AccessorsLead info number access (part ∷ parts) from) (sym (walked_on info number access part parts from))
      (by_answer (AccessorsLead info number access (part ∷ parts) from) (part_step info number access from part) _ (λ e is. Refused part parts from e is)
      (λ next is. Onward part parts from next (walk parts next) is (parts_lead parts next)))

  one_way : {parts : List ℕ} {from : LocalSpot} {a : Result LocalSpot RelocationError} → AccessorsLead info number access parts from a → walk parts from ≡ a
  one_way (Arrived from) = walked_none info number access from
  one_way (Refused part parts from fault is) = rw (walked_on info number access part parts from, is) refl
  one_way (Onward part parts from next a is more) = rw (walked_on info number access part parts from, is) (one_way more)

  module _ (id : ℕ) where
    field_leads : (parts : List ℕ) → FieldLeads info number access id parts (field_path info number access id parts)
    unfolding field_path
    field_leads [] = NoPart
    field_leads (root ∷ parts) =
        by_answer (FieldLeads info number access id (root ∷ parts)) (spot_at_element info [] 0 id root) _ (λ e is. NoRoot root parts e is)
        (λ start is. by_answer (FieldLeads info number access id (root ∷ parts)) (walk parts start) _ (λ e led. NoField root parts start e is (way start led))
        (λ end led. ToField root parts start end is (way start led)))
      where
        way : (start : LocalSpot) {a : Result LocalSpot RelocationError} → walk parts start ≡ a → AccessorsLead info number access parts start a
        way start led = subst (AccessorsLead info number access parts start) led (parts_lead parts start)

    one_field : {parts : List ℕ} {a : Result NamedPath RelocationError} → FieldLeads info number access id parts a → field_path info number access id parts ≡ a
    unfolding field_path
    one_field NoPart = refl
    one_field (NoRoot root parts e is) = rw is refl
    one_field (NoField root parts start e is way) = rw (is, one_way way) refl
    one_field (ToField root parts start end is way) = rw (is, one_way way) refl

-- ---- a path

module _ (info : TypeInfo) (r : Relocation) where
  module _ (access : List ℕ) (id : ℕ) (parts : List ℕ) where
    abbrev Leads : Result NamedPath RelocationError → Type 0
    Leads = LocalPathLeads info r access id parts

    leads_by : (s : RelocationBasis) → basis_of r.kind ≡ s → Leads (path_for info r.number access id parts s)
    leads_by bases.WholeType of = OfType of
    leads_by bases.MatchedType of = OfMatchedType of
    leads_by bases.Variant of = by_types Leads (type_at info.types id) _ (λ e is. NoType e of is) (λ t is. OfVariant t of is)
    leads_by bases.Field of = OfField (field_path info r.number access id parts) of (field_leads info r.number access id parts)

    leads_so : {a : Result NamedPath RelocationError} → path_for info r.number access id parts (basis_of r.kind) ≡ a → Leads a
    leads_so led = subst Leads led (leads_by (basis_of r.kind) refl)

    one_path : {a : Result NamedPath RelocationError} → Leads a → path_for info r.number access id parts (basis_of r.kind) ≡ a
    one_path (OfType of) = rw of refl
    one_path (OfMatchedType of) = rw of refl
    one_path (NoType e of is) = rw (of, is) refl
    one_path (OfVariant t of is) = rw (of, is) refl
    one_path (OfField a of way) = rw of (one_field info r.number access id way)

  -- ---- the local side

  abbrev Is : Result LocalPath RelocationError → Type 0
  Is = LocalSideIs info r

  pub side_is : Is (local_path info r)
  unfolding local_path
  side_is =
      by_types Is (type_at info.types r.type_id) _ (λ e is. NoLocalType e is)
      (λ t there. by_types Is (type_name info t) _ (λ e is. NoName t e there is)
      (λ name named. by_types Is (text_at info.strings r.access_str_off) _ (λ e is. NoString t name e there named is)
      (λ access is.
      let read : IsRead info r name access = record { type = t; there = there; named = named; access_is = is } in
      by_answer Is (accessors name access) _ (λ e is. NoAccessors name access e read is)
      (λ parts split. by_types Is (resolved info.types r.type_id) _ (λ e is. NotResolved name access parts e read split is)
      (λ id is. by_answer Is (path_for info r.number access id parts (basis_of r.kind)) _ (λ e led. NoPath name access parts id e read split is (leads_so access id parts led))
      (λ path led. Led name access parts id path read split is (leads_so access id parts led)))))))

  pub one_side : {a : Result LocalPath RelocationError} → Is a → local_path info r ≡ a
  unfolding local_path
  one_side (NoLocalType e is) = rw is refl
  one_side (NoName t e there is) = rw (there, is) refl
  one_side (NoString t name e there named is) = rw (there, named, is) refl
  one_side (NoAccessors name access e read is) = rw (read.there, read.named, read.access_is, is) refl
  one_side (NotResolved name access parts e read split is) = rw (read.there, read.named, read.access_is, split, is) refl
  one_side (NoPath name access parts id e read split is way) = rw (read.there, read.named, read.access_is, split, is, one_path access id parts way) refl
  one_side (Led name access parts id path read split is way) = rw (read.there, read.named, read.access_is, split, is, one_path access id parts way) refl

-- ---- parts of access strings: what `parse` reads

digits : IsNumeralModel (λ ds. all_ascii_digits ds ≡ true) (digits_value 10)
digits = numerals_by_value _ tells_all_ascii_digits

number_there : (ds : List ℕ) → IsNumeral 10 ds → digits_value 10 ds < 2 ^ 64 → number_of_digits ds ≡ Some (digits_value 10 ds)
number_there ds numeral fits =
    rw (lt-ltb 0 (length ds) numeral.0, digits.from ds numeral.1, lt-ltb (digits_value 10 ds) (2 ^ 64) fits) refl

not_all : {X : Type 0} (a b c : Bool) (x : X) → (a ≡ true → b ≡ true → c ≡ true → ⊥) → (if a && b && c then Some x else None) ≡ None
not_all true true true x never = absurd (never refl refl refl)
not_all true true false x never = refl
not_all true false c x never = refl
not_all false b c x never = refl

number_missing : (ds : List ℕ) → ¬ (IsNumeral 10 ds × (digits_value 10 ds < 2 ^ 64)) → number_of_digits ds ≡ None
number_missing ds never =
    not_all (nat_lt 0 (length ds)) (all_ascii_digits ds) (nat_lt (digits_value 10 ds) (2 ^ 64)) (digits_value 10 ds)
    (λ some all fits. never ((ltb-true 0 (length ds) some, digits.to ds all), ltb-true (digits_value 10 ds) (2 ^ 64) fits))

pub part_read : {E : Type 0} (piece : List ℕ) (r : Result ℕ E) → ParsesUnsigned 64 10 piece r → result_ok r ≡ accessor_of piece
unfolding accessor_of
part_read piece (Ok n) h =
    let there = number_there (without_leading_plus piece) h.0.0 h.0.1 in
    let same : n ≡ digits_value 10 (without_leading_plus piece) = h.1 in
    cc
part_read piece (Err e) h =
    let missing = number_missing (without_leading_plus piece) h in
    cc

-- the parts of the texts that pieces lend
pub parts_listed : {E : Type 0} (r : Result (Option (List ℕ)) E) (pieces slice : List (Bor (List ℕ))) (texts : List (List ℕ)) → map (λ piece. piece.now) pieces ≡ texts
    → slice ≡ pieces → IfOk r (λ parts. parts ≡ all_of (map (λ piece. accessor_of piece.now) slice)) → IfOk r (λ parts. parts ≡ all_of (map accessor_of texts))
parts_listed r pieces slice texts lent same given =
    subst (λ (numbers : List (Option ℕ)). IfOk r (λ parts. parts ≡ all_of numbers))
    (ap (map (λ (piece : Bor (List ℕ)). accessor_of piece.now)) same ∙ sym (map-map accessor_of (λ piece. piece.now) pieces) ∙ ap (map accessor_of) lent) given
