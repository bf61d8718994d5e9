-- What a struct says of a map rests neither on the map's name nor, without a fault in strict parsing, on the reading.
use Rattle.std.proofs.Common.{◌≡◌, ℕ, Bool, true, false, cond, List, [], ◌∷◌, Option, Some, None, Result, Ok, Err, refl, sym, ap, ◌∙◌, arith, ◌++◌}
use Rattle.std.proofs.lemmas.Bool.Decides.{nat_tests}
use Rattle.std.specs.BTreeMap.{BTreeMap, get, is_at, Updates}
use Rattle.std.specs.List.{flat_map}
use Rattle.std.specs.Map.{lookup}
use Rattle.std.specs.Ordering.{nat_cmp}
use Rattle.std.specs.Prelude.{◌==◌, if◌then◌else◌, slice_get}
use Rattle.ebpf_base.proofs.Faults.{both_None}
use Rattle.ebpf_base.specs.Faults.{first_some, fault_of, or_else, if_ok}
use Rattle.ebpf_btf.specs.Next.{if_some}
use Rattle.ebpf_btf.proofs.Looks.{resolved_here}
use Rattle.ebpf_btf.specs.Steps.{type_at, modifier_type_id, resolved}
use Rattle.ebpf_btf.specs.Strings.{type_name}
use Rattle.ebpf_btf.specs.TypeInfo.{TypeInfo}
use Rattle.ebpf_btf.specs.Types.{array_of}
use Rattle.ebpf_btf.specs.declared.error.BtfError.{BtfError}
use Rattle.ebpf_btf.specs.declared.error.BtfError.TheVariants.{InvalidValuesSpec, UnknownBtfType}
use Rattle.ebpf_btf.specs.declared.members.BtfMember.{BtfMember}
use Rattle.ebpf_btf.specs.declared.members.DataSecEntry.{DataSecEntry}
use Rattle.ebpf_btf.specs.declared.types.BtfType.{BtfType}
use Rattle.ebpf_btf.specs.declared.types.BtfType.TheVariants.{Ptr, Struct}
use Rattle.ebpf_btf_decls.specs.DataSections.{all_given, given, DatasecMatch, Named, UnreadableName, datasec_match}
use Rattle.ebpf_btf_decls.specs.Laws.{LenientDeclaresAsStrict}
use Rattle.ebpf_btf_decls.specs.MapMembers.{unexpected_type, members_at, pointee_struct, inner_map_struct, map_member_at, no_definitions, with_all, pointee, struct_members, number, own_number, sole_value_in, sole_value, is_prototype, is_prototype_in, is_prototype_at}
use Rattle.ebpf_btf_decls.specs.Maps.{with_members, plain_value, inner_member_value_of, inner_member_value, inner_definition, inner_struct_definition, are_programs, member_value_of, member_value, definitions, struct_definitions, number_value, variable, declared, map_with_symbol, entry_map, entries_maps, entries_fault, matched_maps, matched_maps_fault, type_maps, type_maps_fault}
use Rattle.ebpf_btf_decls.specs.SectionMaps.{Remembers}
use Rattle.ebpf_btf_decls.specs.declared.members.MapDefinitions.{MapDefinitions}
use Rattle.ebpf_btf_decls.specs.declared.members.MapMember.{MapMember}
use Rattle.ebpf_btf_decls.specs.declared.members.MapMember.TheVariants.{Pinning, Values}
use Rattle.ebpf_btf_decls.specs.declared.members.MapMember.TheVariants as about
use Rattle.ebpf_btf_decls.specs.declared.members.MapNumber.{MapNumber}
use Rattle.ebpf_btf_decls.specs.declared.members.MapNumber.TheVariants.{MapExtra}
use Rattle.ebpf_btf_decls.specs.declared.members.MemberValue.{MemberValue}
use Rattle.ebpf_btf_decls.specs.declared.members.MemberValue.TheVariants as said
use Rattle.ebpf_parts.specs.declared.maps.definition.BtfMapDef.{BtfMapDef}
use Rattle.ebpf_parts.specs.declared.parse_mode.ParseMode.{ParseMode}
use Rattle.ebpf_parts.specs.declared.parse_mode.ParseMode.TheVariants.{Strict, Lenient}

-- ---- what a struct says of a map does not rest on the map's name

module _ {X Y : Type 0} where
  -- an answer that goes on from an answer, where each step still gives what it gave
  pub via : (r s : Result X BtfError) (f g : X → Result Y BtfError) (y : Y) → ((x : X) → r ≡ Ok x → s ≡ Ok x) → ((x : X) → f x ≡ Ok y → g x ≡ Ok y) → if_ok r f ≡ Ok y → if_ok s g ≡ Ok y
  via (Ok x) s f g y first next h = ap (λ t. if_ok t g) (first x refl) ∙ next x h
  via (Err e) s f g y first next h = cc

module _ {X : Type 0} where
  chosen : (b : Bool) (r : Result X BtfError) (e d : BtfError) (x : X) → (if b then r else Err e) ≡ Ok x → (if b then r else Err d) ≡ Ok x
  chosen true r e d x h = h
  chosen false r e d x h = cc

  where_some : {A : Type 0} (a : Option A) (test : A → Bool) (f : A → Result X BtfError) (e d u : BtfError) (x : X)
      → if_some a (λ y. if test y then f y else Err e) (Err u) ≡ Ok x → if_some a (λ y. if test y then f y else Err d) (Err u) ≡ Ok x
  where_some None test f e d u x h = h
  where_some (Some y) test f e d u x h = chosen (test y) (f y) e d x h

all_same : (says other : BtfMember → Result MemberValue BtfError) → ((m : BtfMember) (s : MemberValue) → says m ≡ Ok s → other m ≡ Ok s) → (ms : List BtfMember) (all : List MemberValue) → all_given says ms ≡ Ok all → all_given other ms ≡ Ok all
all_same says other same [] all h = h
all_same says other same (m ∷ ms) all h =
    via (says m) (other m) (λ x. if_ok (all_given says ms) (λ xs. Ok (x ∷ xs))) (λ x. if_ok (all_given other ms) (λ xs. Ok (x ∷ xs))) all (same m)
    (λ x g. via (all_given says ms) (all_given other ms) (λ xs. Ok (x ∷ xs)) (λ xs. Ok (x ∷ xs)) all (all_same says other same ms) (λ xs k. k) g) h

pub with_same : (says other : BtfMember → Result MemberValue BtfError) → ((m : BtfMember) (s : MemberValue) → says m ≡ Ok s → other m ≡ Ok s) → (d e : MapDefinitions) (ms : List BtfMember) → with_members says d ms ≡ Ok e → with_members other d ms ≡ Ok e
with_same says other same d e ms h = via (all_given says ms) (all_given other ms) (λ all. Ok (with_all d all)) (λ all. Ok (with_all d all)) e (all_same says other same ms) (λ all k. k) h

-- from one reading and name of a map to another, where members that name no map say the same
module _ (info : TypeInfo) (r t : ParseMode) (n o : List ℕ)
    (plain : (m : MapMember) (id : ℕ) (s : MemberValue) → plain_value r info.types m id ≡ Ok s → plain_value t info.types m id ≡ Ok s)
    (programs : (held : ℕ) → are_programs r info.types held ≡ true → are_programs t info.types held ≡ true)
    (maps : (held : ℕ) (members : List BtfMember) → members_at info.types held ≡ Ok members → are_programs r info.types held ≡ false → are_programs t info.types held ≡ false) where
  inner_of : (m : MapMember) (id : ℕ) (s : MemberValue) → inner_member_value_of r info n m id ≡ Ok s → inner_member_value_of t info o m id ≡ Ok s
  unfolding inner_member_value_of
  inner_of Pinning id s h = absurd (cc)
  inner_of Values id s h = absurd (cc)
  inner_of m id s h = plain m id s h

  inner_kept : (m : BtfMember) (s : MemberValue) → inner_member_value r info n m ≡ Ok s → inner_member_value t info o m ≡ Ok s
  unfolding inner_member_value
  inner_kept m s h = via (map_member_at info.strings m) (map_member_at info.strings m) _ _ s (λ x k. k) (λ about k. inner_of about m.btf_type s k) h

  inner_definition_kept : (ms : List BtfMember) (d : BtfMapDef) → inner_definition r info n ms ≡ Ok d → inner_definition t info o ms ≡ Ok d
  inner_definition_kept ms d h =
      via _ _ (λ (e : MapDefinitions). Ok e.def) (λ (e : MapDefinitions). Ok e.def) d
      (λ e k. with_same (inner_member_value r info n) (inner_member_value t info o) inner_kept no_definitions e ms k) (λ e k. k) h

  pub inner_struct_kept : (id : ℕ) (d : BtfMapDef) → inner_struct_definition r info n id ≡ Ok d → inner_struct_definition t info o id ≡ Ok d
  inner_struct_kept id d h =
      via (members_at info.types id) (members_at info.types id) (λ ms. inner_definition r info n ms) (λ ms. inner_definition t info o ms) d (λ ms k. k) (λ ms k. inner_definition_kept ms d k) h

  held_kept : (id : ℕ) (s : ℕ) → inner_map_struct info.types n id ≡ Ok s → inner_map_struct info.types o id ≡ Ok s
  unfolding inner_map_struct
  held_kept id s h =
      via (type_at info.types id) (type_at info.types id) _ _ s (λ u k. k)
      (λ u k. where_some (array_of u) (λ array. array.len == 0) (λ array. pointee_struct info.types array.element_type) (InvalidValuesSpec n) (InvalidValuesSpec o) (unexpected_type u) s k) h

  abbrev values_by : Bool → Result BtfMapDef BtfError → Result MemberValue BtfError
  values_by programs inner = if programs then Ok said.Programs else if_ok inner (λ inner. Ok (said.Values inner))

  -- what has a definition has the members of a STRUCT
  with_members_at : (held : ℕ) (d : BtfMapDef) → inner_struct_definition r info n held ≡ Ok d → (ms : List BtfMember) × (members_at info.types held ≡ Ok ms)
  with_members_at held d h = by_members (members_at info.types held) refl h
    where
      by_members : (a : Result (List BtfMember) BtfError) → members_at info.types held ≡ a → if_ok a (λ ms. inner_definition r info n ms) ≡ Ok d → (ms : List BtfMember) × (members_at info.types held ≡ Ok ms)
      by_members (Err e) is k = absurd (cc)
      by_members (Ok ms) is k = (ms, is)

  values_kept : (held : ℕ) (s : MemberValue) → values_by (are_programs r info.types held) (inner_struct_definition r info n held) ≡ Ok s → values_by (are_programs t info.types held) (inner_struct_definition t info o held) ≡ Ok s
  values_kept held s h = by_programs (are_programs r info.types held) refl (inner_struct_definition r info n held) refl h
    where
      by_programs : (b : Bool) → are_programs r info.types held ≡ b → (a : Result BtfMapDef BtfError) → inner_struct_definition r info n held ≡ a → values_by b a ≡ Ok s
          → values_by (are_programs t info.types held) (inner_struct_definition t info o held) ≡ Ok s
      by_programs true are a is k = ap (λ b. values_by b (inner_struct_definition t info o held)) (programs held are) ∙ k
      by_programs false are (Err e) is k = absurd (cc)
      by_programs false are (Ok d) is k =
          let ms : (ms : List BtfMember) × (members_at info.types held ≡ Ok ms) = with_members_at held d is in
          ap (λ b. values_by b (inner_struct_definition t info o held)) (maps held ms.0 ms.1 are) ∙ ap (values_by false) (inner_struct_kept held d is) ∙ k

  member_value_of_kept : (m : MapMember) (id : ℕ) (s : MemberValue) → member_value_of r info n m id ≡ Ok s → member_value_of t info o m id ≡ Ok s
  unfolding member_value_of
  member_value_of_kept Values id s h =
      via (inner_map_struct info.types n id) (inner_map_struct info.types o id) (λ held. values_by (are_programs r info.types held) (inner_struct_definition r info n held))
      (λ held. values_by (are_programs t info.types held) (inner_struct_definition t info o held)) s (held_kept id) (λ held k. values_kept held s k) h
  member_value_of_kept m id s h = plain m id s h

  member_value_kept : (m : BtfMember) (s : MemberValue) → member_value r info n m ≡ Ok s → member_value t info o m ≡ Ok s
  unfolding member_value
  member_value_kept m s h = via (map_member_at info.strings m) (map_member_at info.strings m) _ _ s (λ x k. k) (λ about k. member_value_of_kept about m.btf_type s k) h

  pub definitions_kept : (id : ℕ) (d : MapDefinitions) → struct_definitions r info n id ≡ Ok d → struct_definitions t info o id ≡ Ok d
  definitions_kept id d h =
      via (members_at info.types id) (members_at info.types id) (λ ms. definitions r info n ms) (λ ms. definitions t info o ms) d (λ ms k. k)
      (λ ms k. with_same (member_value r info n) (member_value t info o) member_value_kept no_definitions d ms k) h

-- what is read of one name it is of another
module _ (mode : ParseMode) (info : TypeInfo) (n o : List ℕ) where
  pub inner_struct_same : (id : ℕ) (d : BtfMapDef) → inner_struct_definition mode info n id ≡ Ok d → inner_struct_definition mode info o id ≡ Ok d
  inner_struct_same = inner_struct_kept info mode mode n o (λ m id s h. h) (λ held h. h) (λ held ms is h. h)

  pub definitions_same : (id : ℕ) (d : MapDefinitions) → struct_definitions mode info n id ≡ Ok d → struct_definitions mode info o id ≡ Ok d
  definitions_same = definitions_kept info mode mode n o (λ m id s h. h) (λ held h. h) (λ held ms is h. h)

pub equal_numbers : (k q : ℕ) → is_at (nat_cmp k) q ≡ true → k ≡ q
equal_numbers k q h = grind (arith, nat_tests)

-- one more struct is remembered, which says the same of maps of all names
pub one_more : {X : Type 0} (says : List ℕ → ℕ → Result X BtfError) → ((n o : List ℕ) (id : ℕ) (d : X) → says n id ≡ Ok d → says o id ≡ Ok d)
    → (m n : BTreeMap ℕ X) (name : List ℕ) (id : ℕ) (d : X) → Remembers says m → says name id ≡ Ok d → Updates nat_cmp m n id (Some d) → Remembers says n
one_more {X = X} says same_for m n name id d knows is updates = record { known_is = λ q e at o. step q e o (is_at (nat_cmp id) q) refl (sym (updates.0 q) ∙ at) }
  where
    step : (q : ℕ) (e : X) (o : List ℕ) (b : Bool) → is_at (nat_cmp id) q ≡ b → cond (is_at (nat_cmp id) q) (Some d) (get nat_cmp m q) ≡ Some e → says o q ≡ Ok e
    step q e o true here at =
        let place : id ≡ q = equal_numbers id q here in
        let value : Some d ≡ Some e = sym (ap (λ b. cond b (Some d) (get nat_cmp m q)) here) ∙ at in
        let same : d ≡ e = cc in
        ap (says o) (sym place) ∙ same_for name o id d is ∙ ap Ok same
    step q e o false here at = knows.known_is q e (sym (ap (λ b. cond b (Some d) (get nat_cmp m q)) here) ∙ at) o

-- where no entry changes what is remembered stays
pub same_remembered : {X : Type 0} (says : List ℕ → ℕ → Result X BtfError) (m n : BTreeMap ℕ X) → Remembers says m → n.entries ≡ m.entries → Remembers says n
same_remembered says m n knows same = record { known_is = λ id d at. knows.known_is id d (sym (ap (lookup (is_at (nat_cmp id))) same) ∙ at) }

-- ---- lists of which no item has a fault

-- what each item gives without a fault it gives by another way
pub all_kept : {A X E : Type 0} (f g : A → List X) (a b : A → Option E) → ((x : A) → a x ≡ None → (g x ≡ f x) × (b x ≡ None))
    → (xs : List A) → first_some a xs ≡ None → (flat_map g xs ≡ flat_map f xs) × (first_some b xs ≡ None)
all_kept f g a b each [] none = (refl, refl)
all_kept f g a b each (x ∷ xs) none =
    let p = both_None (a x) (first_some a xs) none in
    let here = each x p.0 in
    let later = all_kept f g a b each xs p.1 in
    (ap (λ l. l ++ flat_map g xs) here.0 ∙ ap (λ l. f x ++ l) later.0, ap (λ o. or_else o (first_some b xs)) here.1 ∙ later.1)

-- ---- numbers

-- a PTR is no number itself
no_pointer : (types : List BtfType) (id : ℕ) (t : BtfType) → slice_get types id ≡ Some t → modifier_type_id t ≡ None → sole_value t ≡ None → own_number types id ≡ None
unfolding own_number
no_pointer types id t here last none =
    let found : resolved types id ≡ Ok id = resolved_here 0 types id id t (omega arith) here last in
    ap (λ r. sole_value_in (if_ok r (λ found. type_at types found))) found
    ∙ ap (λ o. sole_value_in (if_some o (λ t. Ok t) (Err (UnknownBtfType id)))) here ∙ none

spelled_alone : (types : List BtfType) (id n : ℕ) → number types id ≡ Ok n → own_number types id ≡ None
unfolding number pointee modifier_type_id sole_value
spelled_alone types id n is = by_place (slice_get types id) refl is
  where
    by_type : (t : BtfType) → slice_get types id ≡ Some t
        → if_some (pointee t) (λ a. if_ok (type_at types a) (λ u. if_some (array_of u) (λ array. Ok array.len) (Err (unexpected_type u)))) (Err (unexpected_type t)) ≡ Ok n
        → own_number types id ≡ None
    by_type (Ptr a b) here h = no_pointer types id (Ptr a b) here refl refl
    by_type _ here h = absurd (cc)

    by_place : (o : Option BtfType) → slice_get types id ≡ o
        → if_ok (if_some o (λ t. Ok t) (Err (UnknownBtfType id))) (λ p. if_some (pointee p) (λ a. if_ok (type_at types a) (λ u. if_some (array_of u) (λ array. Ok array.len) (Err (unexpected_type u)))) (Err (unexpected_type p))) ≡ Ok n
        → own_number types id ≡ None
    by_place None here h = absurd (cc)
    by_place (Some t) here h = by_type t here h

number_kept : (types : List BtfType) (of : MapNumber) (id : ℕ) (s : MemberValue) → number_value Strict types of id ≡ Ok s → number_value Lenient types of id ≡ Ok s
number_kept types MapExtra id s h = by_number (number types id) refl h
  where
    by_number : (r : Result ℕ BtfError) → number types id ≡ r → if_ok r (λ n. Ok (said.Number MapExtra n)) ≡ Ok s → number_value Lenient types MapExtra id ≡ Ok s
    by_number (Err e) is k = absurd (cc)
    by_number (Ok n) is k =
        ap (λ o. if_some o (λ n. Ok (said.Extra n)) (if_ok (number types id) (λ n. Ok (said.Number MapExtra n)))) (spelled_alone types id n is)
        ∙ ap (λ r. if_ok r (λ n. Ok (said.Number MapExtra n))) is ∙ k
number_kept types of id s h = h

plain_kept : (types : List BtfType) (m : MapMember) (id : ℕ) (s : MemberValue) → plain_value Strict types m id ≡ Ok s → plain_value Lenient types m id ≡ Ok s
unfolding plain_value
plain_kept types (about.Number of) id s h = number_kept types of id s h
plain_kept types m id s h = h

-- ---- members

-- what has the members of a STRUCT is no FUNC_PROTO
no_programs : (types : List BtfType) (id : ℕ) (members : List BtfMember) → members_at types id ≡ Ok members → is_prototype_at types id ≡ false
unfolding members_at is_prototype_at struct_members is_prototype
no_programs types id members is = by_place (slice_get types id) is
  where
    by_type : (t : BtfType) → if_some (struct_members t) (λ ms. Ok ms) (Err (unexpected_type t)) ≡ Ok members → is_prototype t ≡ false
    by_type (Struct a b c ms) h = refl
    by_type _ h = absurd (cc)

    by_place : (o : Option BtfType) → if_ok (if_some o (λ t. Ok t) (Err (UnknownBtfType id))) (λ t. if_some (struct_members t) (λ ms. Ok ms) (Err (unexpected_type t))) ≡ Ok members → is_prototype_in o ≡ false
    by_place None h = absurd (cc)
    by_place (Some t) h = by_type t h

module _ (info : TypeInfo) (name : List ℕ) where
  says_kept : (id : ℕ) (d : MapDefinitions) → struct_definitions Strict info name id ≡ Ok d → struct_definitions Lenient info name id ≡ Ok d
  says_kept = definitions_kept info Strict Lenient name name (plain_kept info.types) (λ held are. absurd (cc)) (λ held ms is none. no_programs info.types held ms is)

-- ---- maps

-- what a VAR with a name declares, by the type that it holds
abbrev named_by : ParseMode → TypeInfo → List ℕ → ℕ → Result (List ℕ × MapDefinitions) BtfError
named_by mode info name id = if_ok (resolved info.types id) (λ held. if_ok (struct_definitions mode info name held) (λ d. Ok (name, d)))

abbrev from_type : ParseMode → TypeInfo → BtfType → Result (List ℕ × MapDefinitions) BtfError
from_type mode info t = if_some (variable t) (λ id. if_ok (type_name info t) (λ name. named_by mode info name id)) (Err (unexpected_type t))

by_type : (mode : ParseMode) (info : TypeInfo) (entry : DataSecEntry) → declared mode info entry ≡ if_ok (type_at info.types entry.btf_type) (from_type mode info)
unfolding declared
by_type mode info entry = refl

by_some : {A X : Type 0} (o : Option A) (f g : A → Result X BtfError) (e : BtfError) (x : X) → ((a : A) → f a ≡ Ok x → g a ≡ Ok x) → if_some o f (Err e) ≡ Ok x → if_some o g (Err e) ≡ Ok x
by_some None f g e x each h = h
by_some (Some a) f g e x each h = each a h

module _ (info : TypeInfo) (p : List ℕ × MapDefinitions) where
  named_kept : (name : List ℕ) (id : ℕ) → named_by Strict info name id ≡ Ok p → named_by Lenient info name id ≡ Ok p
  named_kept name id h =
      via (resolved info.types id) (resolved info.types id) (λ held. if_ok (struct_definitions Strict info name held) (λ d. Ok (name, d))) (λ held. if_ok (struct_definitions Lenient info name held) (λ d. Ok (name, d))) p (λ held k. k)
      (λ held k. via (struct_definitions Strict info name held) (struct_definitions Lenient info name held) (λ d. Ok (name, d)) (λ d. Ok (name, d)) p (says_kept info name held) (λ d g. g) k) h

  type_kept : (t : BtfType) → from_type Strict info t ≡ Ok p → from_type Lenient info t ≡ Ok p
  type_kept t h =
      by_some (variable t) (λ id. if_ok (type_name info t) (λ name. named_by Strict info name id)) (λ id. if_ok (type_name info t) (λ name. named_by Lenient info name id)) (unexpected_type t) p
      (λ id k. via (type_name info t) (type_name info t) (λ name. named_by Strict info name id) (λ name. named_by Lenient info name id) p (λ name g. g) (λ name g. named_kept name id g) k) h

  declared_kept : (entry : DataSecEntry) → declared Strict info entry ≡ Ok p → declared Lenient info entry ≡ Ok p
  declared_kept entry h =
      by_type Lenient info entry
      ∙ via (type_at info.types entry.btf_type) (type_at info.types entry.btf_type) (from_type Strict info) (from_type Lenient info) p (λ t k. k) (λ t k. type_kept t k) (sym (by_type Strict info entry) ∙ h)

module _ (info : TypeInfo) (symbols : List ℕ → Option ℕ) (section : ℕ) where
  entry_kept : (entry : DataSecEntry) → fault_of (entry_map Strict info symbols section entry) ≡ None
      → (given (entry_map Lenient info symbols section entry) ≡ given (entry_map Strict info symbols section entry)) × (fault_of (entry_map Lenient info symbols section entry) ≡ None)
  unfolding entry_map
  entry_kept entry none = by_declared (declared Strict info entry) refl none
    where
      by_declared : (r : Result (List ℕ × MapDefinitions) BtfError) → declared Strict info entry ≡ r → fault_of (map_with_symbol symbols section r) ≡ None
          → (given (map_with_symbol symbols section (declared Lenient info entry)) ≡ given (map_with_symbol symbols section r)) × (fault_of (map_with_symbol symbols section (declared Lenient info entry)) ≡ None)
      by_declared (Err e) is k = absurd (cc)
      by_declared (Ok p) is k =
          let same : declared Lenient info entry ≡ Ok p = declared_kept info p entry is in
          (ap (λ r. given (map_with_symbol symbols section r)) same, ap (λ r. fault_of (map_with_symbol symbols section r)) same ∙ k)

  entries_kept : (entries : List DataSecEntry) → entries_fault Strict info symbols section entries ≡ None
      → (entries_maps Lenient info symbols section entries ≡ entries_maps Strict info symbols section entries) × (entries_fault Lenient info symbols section entries ≡ None)
  entries_kept entries none =
      all_kept (λ entry. given (entry_map Strict info symbols section entry)) (λ entry. given (entry_map Lenient info symbols section entry))
      (λ entry. fault_of (entry_map Strict info symbols section entry)) (λ entry. fault_of (entry_map Lenient info symbols section entry)) entry_kept entries none

  met_kept : (met : Option DatasecMatch) → matched_maps_fault Strict info symbols section met ≡ None
      → (matched_maps Lenient info symbols section met ≡ matched_maps Strict info symbols section met) × (matched_maps_fault Lenient info symbols section met ≡ None)
  met_kept None none = (refl, refl)
  met_kept (Some (Named entries)) none = entries_kept entries none
  met_kept (Some (UnreadableName e)) none = absurd (cc)

  type_met : (name : List ℕ) (t : BtfType) → type_maps_fault Strict info symbols section name t ≡ None
      → (type_maps Lenient info symbols section name t ≡ type_maps Strict info symbols section name t) × (type_maps_fault Lenient info symbols section name t ≡ None)
  unfolding type_maps type_maps_fault
  type_met name t none = met_kept (datasec_match info name t) none

pub lenient_declares_as_strict : LenientDeclaresAsStrict
lenient_declares_as_strict info symbols section name none =
    all_kept (type_maps Strict info symbols section name) (type_maps Lenient info symbols section name)
    (type_maps_fault Strict info symbols section name) (type_maps_fault Lenient info symbols section name) (type_met info symbols section name) info.types none
