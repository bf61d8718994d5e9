-- The members of a struct that declares a map: the definition that they make one by one, in which the later of two members of one name stands.
use Rattle.std.proofs.Common.{◌≡◌, ℕ, ◌+◌, ◌<◌, ◌≤◌, List, [], ◌∷◌, length, drop, Option, Some, None, Result, Ok, Err, refl, sym, ap, ◌∙◌, Bool, true, false, ◌++◌}
use Rattle.std.specs.Prelude.{slice_index_or, unwrap_or, is_some, if◌then◌else◌, slice_get}
use Rattle.ebpf_base.proofs.Lists.{rest_more, rest_none}
use Rattle.ebpf_base.specs.Faults.{or_else, fault_of, if_ok}
use Rattle.ebpf_btf.specs.Next.{if_some}
use Rattle.ebpf_btf.specs.Strings.{text_at}
use Rattle.ebpf_btf.specs.TypeInfo.{TypeInfo}
use Rattle.ebpf_btf.specs.declared.error.BtfError.{BtfError}
use Rattle.ebpf_btf.specs.declared.members.BtfMember.{BtfMember}
use Rattle.ebpf_btf.specs.declared.types.BtfType.{BtfType}
use Rattle.ebpf_btf_decls.specs.DataSections.{all_given}
use Rattle.ebpf_btf_decls.specs.Laws.{LaterMembersStand, LaterInnerMembersStand}
use Rattle.ebpf_btf_decls.specs.MapMembers.{with_all, map_member, map_member_at, number, own_number, sized_type, inner_map_struct, same_number, number_field, pinning_field, key_type_field, value_type_field, inner_def_field, last_some, no_definitions}
use Rattle.ebpf_btf_decls.specs.Maps.{with_members, are_programs, number_value, plain_value, inner_member_value_of, inner_member_value, inner_struct_definition, member_value_of, member_value, pinning_by_number}
use Rattle.ebpf_btf_decls.specs.declared.members.MapDefinitions.{MapDefinitions}
use Rattle.ebpf_btf_decls.specs.declared.members.MapMember.{MapMember}
use Rattle.ebpf_btf_decls.specs.declared.members.MapMember.TheVariants as about
use Rattle.ebpf_btf_decls.specs.declared.members.MapNumber.{MapNumber}
use Rattle.ebpf_btf_decls.specs.declared.members.MapNumber.TheVariants.{MapType, KeySize, ValueSize, MaxEntries, MapFlags, MapExtra}
use Rattle.ebpf_btf_decls.specs.declared.members.MemberValue.{MemberValue}
use Rattle.ebpf_btf_decls.specs.declared.members.MemberValue.TheVariants.{Number, Pinning, Key, Value, Values, Programs, Extra, Nothing}
use Rattle.ebpf_parts.specs.declared.maps.definition.BtfMapDef.{BtfMapDef}
use Rattle.ebpf_parts.specs.declared.maps.definition.PinningType.TheVariants as pinned
use Rattle.ebpf_parts.specs.declared.parse_mode.ParseMode.{ParseMode}
use Rattle.ebpf_parts.specs.declared.parse_mode.ParseMode.TheVariants.{Strict, Lenient}

-- ---- definitions that are made member by member

over : {X : Type 0} (a b : Option X) (x : X) → unwrap_or a (unwrap_or b x) ≡ unwrap_or (or_else a b) x
over None b x = refl
over (Some y) b x = refl

-- with no value a definition stays
pub none_given : (d : MapDefinitions) → with_all d [] ≡ d
unfolding with_all
none_given d = refl

-- what the first says, and then the others
pub first_given : (d : MapDefinitions) (s : MemberValue) (later : List MemberValue) → with_all (with_all d (s ∷ [])) later ≡ with_all d (s ∷ later)
unfolding with_all
first_given d s later = simp over

module _ (says : BtfMember → Result MemberValue BtfError) where
  pub given_first : (d : MapDefinitions) (s : MemberValue) (r : Result (List MemberValue) BtfError)
      → if_ok (if_ok r (λ xs. Ok (s ∷ xs))) (λ all. Ok (with_all d all)) ≡ if_ok r (λ all. Ok (with_all (with_all d (s ∷ [])) all))
  given_first d s (Ok xs) = ap Ok (sym (first_given d s xs))
  given_first d s (Err e) = refl

  -- a member that says something, before others
  pub with_first : (d : MapDefinitions) (m : BtfMember) (s : MemberValue) (members : List BtfMember) → says m ≡ Ok s
      → with_members says d (m ∷ members) ≡ with_members says (with_all d (s ∷ [])) members
  with_first d m s members is =
      ap (λ r. if_ok (if_ok r (λ x. if_ok (all_given says members) (λ xs. Ok (x ∷ xs)))) (λ all. Ok (with_all d all))) is
      ∙ given_first d s (all_given says members)

  -- a member with a fault
  pub with_fault : (d : MapDefinitions) (m : BtfMember) (e : BtfError) (members : List BtfMember) → says m ≡ Err e
      → with_members says d (m ∷ members) ≡ Err e
  with_fault d m e members is = ap (λ r. if_ok (if_ok r (λ x. if_ok (all_given says members) (λ xs. Ok (x ∷ xs)))) (λ all. Ok (with_all d all))) is

  -- ---- in a walk

  pub more_given : (d e : MapDefinitions) (members : List BtfMember) (i : ℕ) (m : BtfMember) (s : MemberValue)
      → i < length members → m ≡ slice_index_or members i m → says m ≡ Ok s → e ≡ with_all d (s ∷ [])
      → with_members says d (drop i members) ≡ with_members says e (drop (i + 1) members)
  more_given d e members i m s below here is with_it =
      ap (with_members says d) (rest_more members i m below here)
      ∙ with_first d m s (drop (i + 1) members) is
      ∙ ap (λ (f : MapDefinitions). with_members says f (drop (i + 1) members)) (sym with_it)

  pub fault_given : (d : MapDefinitions) (members : List BtfMember) (i : ℕ) (m : BtfMember) (e : BtfError)
      → i < length members → m ≡ slice_index_or members i m → says m ≡ Err e
      → with_members says d (drop i members) ≡ Err e
  fault_given d members i m e below here is = ap (with_members says d) (rest_more members i m below here) ∙ with_fault d m e (drop (i + 1) members) is

  pub all_are_given : (d : MapDefinitions) (members : List BtfMember) (i : ℕ) → length members ≤ i
      → with_members says d (drop i members) ≡ Ok d
  all_are_given d members i past = ap (with_members says d) (rest_none members i past) ∙ ap Ok (none_given d)

-- ---- what a member that says this is about

abbrev subject : MemberValue → MapMember
subject (Number of n) = about.Number of
subject (Pinning how) = about.Pinning
subject (Key id size) = about.Key
subject (Value id size) = about.Value
subject (Values inner) = about.Values
subject Programs = about.Values
subject (Extra n) = about.Number MapExtra
subject Nothing = about.Other

-- a value on a subject
abbrev on_subject : MapMember → MemberValue
on_subject (about.Number of) = Number of 0
on_subject about.Pinning = Pinning pinned.None
on_subject about.Key = Key 0 0
on_subject about.Value = Value 0 0
on_subject about.Values = Programs
on_subject about.Other = Nothing

-- values on one subject give the same fields
abbrev GivenBySubject : {X : Type 0} → (MemberValue → Option X) → Type 0
GivenBySubject f = (s : MemberValue) → is_some (f s) ≡ is_some (f (on_subject (subject s)))

chosen : (b : Bool) (n m : ℕ) → is_some (if b then Some n else None) ≡ is_some (if b then Some m else None)
chosen true n m = refl
chosen false n m = refl

number_by : (w : MapNumber) → GivenBySubject (number_field w)
number_by w (Number of n) = chosen (same_number w of) n 0
number_by w (Key id size) = chosen (same_number w KeySize) size 0
number_by w (Value id size) = chosen (same_number w ValueSize) size 0
number_by w (Extra n) = chosen (same_number w MapExtra) n 0
number_by w _ = refl

pinning_by : GivenBySubject pinning_field
pinning_by (Pinning how) = refl
pinning_by _ = refl

key_by : GivenBySubject key_type_field
key_by (Key id size) = refl
key_by _ = refl

value_by : GivenBySubject value_type_field
value_by (Value id size) = refl
value_by _ = refl

inner_by : GivenBySubject inner_def_field
inner_by (Values inner) = refl
inner_by _ = refl

-- ---- a member before a later one of the same field

other_hidden : {X : Type 0} (a b : Option X) → (is_some b ≡ true → is_some a ≡ true) → or_else a b ≡ a
other_hidden (Some x) b hides = refl
other_hidden None None hides = refl
other_hidden None (Some x) hides = let h : false ≡ true = hides refl in absurd (cc)

still_some : {X : Type 0} (a b : Option X) → is_some b ≡ true → is_some (or_else a b) ≡ true
still_some (Some x) b is = refl
still_some None b is = is

more_some : {X : Type 0} (a b : Option X) → is_some a ≡ true → is_some (or_else a b) ≡ true
more_some (Some x) b is = refl
more_some None b is = let h : false ≡ true = is in absurd (cc)

-- one among others that says it
among : {X : Type 0} (f : MemberValue → Option X) (front : List MemberValue) (s : MemberValue) (back : List MemberValue) → is_some (f s) ≡ true → is_some (last_some f (front ++ (s ∷ back))) ≡ true
among f [] s back is = still_some (last_some f back) (f s) is
among f (t ∷ front) s back is = more_some (last_some f (front ++ (s ∷ back))) (f t) (among f front s back is)

hidden : {X : Type 0} (f : MemberValue → Option X) → GivenBySubject f → (s later : MemberValue) (front back : List MemberValue) → subject s ≡ subject later
    → last_some f (s ∷ (front ++ (later ∷ back))) ≡ last_some f (front ++ (later ∷ back))
hidden f by s later front back same =
    other_hidden (last_some f (front ++ (later ∷ back))) (f s)
    (λ said. among f front later back (by later ∙ ap (λ m. is_some (f (on_subject m))) (sym same) ∙ sym (by s) ∙ said))

hidden_all : (d : MapDefinitions) (s later : MemberValue) (front back : List MemberValue) → subject s ≡ subject later
    → with_all d (s ∷ (front ++ (later ∷ back))) ≡ with_all d (front ++ (later ∷ back))
unfolding with_all
hidden_all d s later front back same = simp (
  hidden (number_field MapType) (number_by MapType) s later front back same,
  hidden (number_field KeySize) (number_by KeySize) s later front back same,
  hidden (number_field ValueSize) (number_by ValueSize) s later front back same,
  hidden (number_field MaxEntries) (number_by MaxEntries) s later front back same,
  hidden (number_field MapFlags) (number_by MapFlags) s later front back same,
  hidden (number_field MapExtra) (number_by MapExtra) s later front back same,
  hidden pinning_field pinning_by s later front back same,
  hidden key_type_field key_by s later front back same,
  hidden value_type_field value_by s later front back same,
  hidden inner_def_field inner_by s later front back same,
)

-- ---- members

module _ (says : BtfMember → Result MemberValue BtfError) where
  -- what a list of answers is made of
  parts : (r : Result MemberValue BtfError) (rs : Result (List MemberValue) BtfError) (all : List MemberValue)
      → if_ok r (λ x. if_ok rs (λ xs. Ok (x ∷ xs))) ≡ Ok all
      → (s : MemberValue) × (xs : List MemberValue) × (r ≡ Ok s) × (rs ≡ Ok xs) × (all ≡ s ∷ xs)
  parts (Ok s) (Ok xs) all is = (s, xs, refl, refl, cc)
  parts (Ok s) (Err e) all is = absurd (cc)
  parts (Err e) rs all is = absurd (cc)

  found : (between : List BtfMember) (later : BtfMember) (after : List BtfMember) (all : List MemberValue)
      → all_given says (between ++ (later ∷ after)) ≡ Ok all
      → (s : MemberValue) × (front : List MemberValue) × (back : List MemberValue) × (says later ≡ Ok s) × (all ≡ front ++ (s ∷ back))
  found [] later after all is =
      let p : (s : MemberValue) × (xs : List MemberValue) × (says later ≡ Ok s) × (all_given says after ≡ Ok xs) × (all ≡ s ∷ xs) = parts (says later) (all_given says after) all is in
      (p.0, [], p.1, p.2, p.4)
  found (m ∷ between) later after all is =
      let p : (s : MemberValue) × (xs : List MemberValue) × (says m ≡ Ok s) × (all_given says (between ++ (later ∷ after)) ≡ Ok xs) × (all ≡ s ∷ xs) = parts (says m) (all_given says (between ++ (later ∷ after))) all is in
      let q : (s : MemberValue) × (front : List MemberValue) × (back : List MemberValue) × (says later ≡ Ok s) × (p.1 ≡ front ++ (s ∷ back)) = found between later after p.1 p.3 in
      (q.0, p.0 ∷ q.1, q.2, q.3, p.4 ∙ ap (λ xs. p.0 ∷ xs) q.4)

  -- a member before a later one on the same subject
  earlier_hidden : (d : MapDefinitions) (s : MemberValue) (r : Result (List MemberValue) BtfError)
      → ((all : List MemberValue) → r ≡ Ok all → with_all d (s ∷ all) ≡ with_all d all)
      → if_ok r (λ all. Ok (with_all (with_all d (s ∷ [])) all)) ≡ if_ok r (λ all. Ok (with_all d all))
  earlier_hidden d s (Ok all) hides = ap Ok (first_given d s all ∙ hides all refl)
  earlier_hidden d s (Err e) hides = refl

  -- the members before both
  alike_after : (r : Result MemberValue BtfError) (Y Z : List BtfMember) → ((d : MapDefinitions) → with_members says d Y ≡ with_members says d Z)
      → (d : MapDefinitions)
      → if_ok (if_ok r (λ x. if_ok (all_given says Y) (λ xs. Ok (x ∷ xs)))) (λ all. Ok (with_all d all))
      ≡ if_ok (if_ok r (λ x. if_ok (all_given says Z) (λ xs. Ok (x ∷ xs)))) (λ all. Ok (with_all d all))
  alike_after (Ok s) Y Z same d = given_first says d s (all_given says Y) ∙ same (with_all d (s ∷ [])) ∙ sym (given_first says d s (all_given says Z))
  alike_after (Err e) Y Z same d = refl

  alike : (before Y Z : List BtfMember) → ((d : MapDefinitions) → with_members says d Y ≡ with_members says d Z)
      → (d : MapDefinitions) → with_members says d (before ++ Y) ≡ with_members says d (before ++ Z)
  alike [] Y Z same d = same d
  alike (m ∷ before) Y Z same d = alike_after (says m) (before ++ Y) (before ++ Z) (alike before Y Z same) d

  pub later_stands : (before between after : List BtfMember) (earlier later : BtfMember) (s : MemberValue)
      → says earlier ≡ Ok s → ((t : MemberValue) → says later ≡ Ok t → subject s ≡ subject t)
      → (d : MapDefinitions)
      → with_members says d (before ++ (earlier ∷ (between ++ (later ∷ after)))) ≡ with_members says d (before ++ (between ++ (later ∷ after)))
  later_stands before between after earlier later s is same = alike before (earlier ∷ (between ++ (later ∷ after))) (between ++ (later ∷ after)) (λ d.
      ap (λ r. if_ok (if_ok r (λ x. if_ok (all_given says (between ++ (later ∷ after))) (λ xs. Ok (x ∷ xs)))) (λ all. Ok (with_all d all))) is
      ∙ given_first says d s (all_given says (between ++ (later ∷ after)))
      ∙ earlier_hidden d s (all_given says (between ++ (later ∷ after))) (λ all given.
      let q : (t : MemberValue) × (front : List MemberValue) × (back : List MemberValue) × (says later ≡ Ok t) × (all ≡ front ++ (t ∷ back)) = found between later after all given in
      ap (λ xs. with_all d (s ∷ xs)) q.4 ∙ hidden_all d s q.0 q.1 q.2 (same q.0 q.3) ∙ ap (with_all d) (sym q.4)))

-- ---- what members say is about what their names say

by_subject : {A : Type 0} (m : MapMember) (r : Result A BtfError) (f : A → MemberValue) (s : MemberValue) → ((x : A) → subject (f x) ≡ m)
    → if_ok r (λ x. Ok (f x)) ≡ Ok s → subject s ≡ m
by_subject m (Ok x) f s each is = let e : f x ≡ s = cc in ap subject (sym e) ∙ each x
by_subject m (Err e) f s each is = absurd (cc)

by_inner : {A : Type 0} (r : Result A BtfError) (next : A → Result MemberValue BtfError) (s : MemberValue) → ((x : A) → next x ≡ Ok s → subject s ≡ about.Values)
    → if_ok r next ≡ Ok s → subject s ≡ about.Values
by_inner (Ok x) next s each is = each x is
by_inner (Err e) next s each is = absurd (cc)

-- a number, which the member spells or is
spelled : (types : List BtfType) (of : MapNumber) (id : ℕ) (s : MemberValue) → if_ok (number types id) (λ n. Ok (Number of n)) ≡ Ok s → subject s ≡ about.Number of
spelled types of id s is = by_subject (about.Number of) (number types id) (λ n. Number of n) s (λ n. refl) is

extra_subject : (types : List BtfType) (id : ℕ) (own : Option ℕ) (s : MemberValue)
    → if_some own (λ n. Ok (Extra n)) (if_ok (number types id) (λ n. Ok (Number MapExtra n))) ≡ Ok s → subject s ≡ about.Number MapExtra
extra_subject types id None s is = spelled types MapExtra id s is
extra_subject types id (Some n) s is = let e : Extra n ≡ s = cc in ap subject (sym e)

number_subject : (mode : ParseMode) (types : List BtfType) (of : MapNumber) (id : ℕ) (s : MemberValue) → number_value mode types of id ≡ Ok s → subject s ≡ about.Number of
number_subject Strict types of id s is = spelled types of id s is
number_subject Lenient types MapExtra id s is = extra_subject types id (own_number types id) s is
number_subject Lenient types of id s is = spelled types of id s is

-- values are programs or maps
values_subject : (programs : Bool) (inner : Result BtfMapDef BtfError) (s : MemberValue)
    → (if programs then Ok Programs else if_ok inner (λ inner. Ok (Values inner))) ≡ Ok s → subject s ≡ about.Values
values_subject true inner s is = let e : Programs ≡ s = cc in ap subject (sym e)
values_subject false inner s is = by_subject about.Values inner Values s (λ inner. refl) is

plain_subject : (mode : ParseMode) (types : List BtfType) (m : MapMember) (id : ℕ) (s : MemberValue) → (m ≡ about.Values → ⊥) → plain_value mode types m id ≡ Ok s → subject s ≡ m
unfolding plain_value
plain_subject mode types (about.Number of) id s other is = number_subject mode types of id s is
plain_subject mode types about.Pinning id s other is = by_subject about.Pinning (number types id) (λ n. Pinning (pinning_by_number n)) s (λ n. refl) is
plain_subject mode types about.Key id s other is = by_subject about.Key (sized_type types id) (λ t. Key t.0 t.1) s (λ t. refl) is
plain_subject mode types about.Value id s other is = by_subject about.Value (sized_type types id) (λ t. Value t.0 t.1) s (λ t. refl) is
plain_subject mode types about.Values id s other is = absurd (other refl)
plain_subject mode types about.Other id s other is = let e : Nothing ≡ s = cc in ap subject (sym e)

member_subject : (mode : ParseMode) (info : TypeInfo) (name : List ℕ) (m : MapMember) (id : ℕ) (s : MemberValue) → member_value_of mode info name m id ≡ Ok s → subject s ≡ m
unfolding member_value_of
member_subject mode info name about.Values id s is =
    by_inner (inner_map_struct info.types name id) (λ held. if are_programs mode info.types held then Ok Programs else if_ok (inner_struct_definition mode info name held) (λ inner. Ok (Values inner))) s
    (λ held here. values_subject (are_programs mode info.types held) (inner_struct_definition mode info name held) s here) is
member_subject mode info name m id s is = plain_subject mode info.types m id s (λ no. absurd (cc)) is

inner_subject : (mode : ParseMode) (info : TypeInfo) (name : List ℕ) (m : MapMember) (id : ℕ) (s : MemberValue) → inner_member_value_of mode info name m id ≡ Ok s → subject s ≡ m
unfolding inner_member_value_of
inner_subject mode info name about.Pinning id s is = absurd (cc)
inner_subject mode info name about.Values id s is = absurd (cc)
inner_subject mode info name m id s is = plain_subject mode info.types m id s (λ no. absurd (cc)) is

-- two answers by members that are about one thing
one_subject : (a b : Result MapMember BtfError) (f g : MapMember → Result MemberValue BtfError) (s t : MemberValue) → a ≡ b
    → ((m : MapMember) → f m ≡ Ok s → subject s ≡ m) → ((m : MapMember) → g m ≡ Ok t → subject t ≡ m)
    → if_ok a f ≡ Ok s → if_ok b g ≡ Ok t → subject s ≡ subject t
one_subject (Ok m) (Ok n) f g s t same by_f by_g is_s is_t = let e : m ≡ n = cc in by_f m is_s ∙ e ∙ sym (by_g n is_t)
one_subject (Ok m) (Err e) f g s t same by_f by_g is_s is_t = absurd (cc)
one_subject (Err e) b f g s t same by_f by_g is_s is_t = absurd (cc)

value_ok : {X : Type 0} (r : Result X BtfError) → fault_of r ≡ None → (x : X) × (r ≡ Ok x)
value_ok (Ok x) is = (x, refl)
value_ok (Err e) is = absurd (cc)

same_member : (strings : List ℕ) (a b : BtfMember) → text_at strings a.name_offset ≡ text_at strings b.name_offset → map_member_at strings a ≡ map_member_at strings b
same_member strings a b same = ap (λ (r : Result (List ℕ) BtfError). if_ok r (λ name. Ok (map_member name))) same

pub later_members : LaterMembersStand
unfolding member_value
later_members mode info name before between after earlier later same is =
    let p : (s : MemberValue) × (member_value mode info name earlier ≡ Ok s) = value_ok (member_value mode info name earlier) is in
    later_stands (member_value mode info name) before between after earlier later p.0 p.1
    (λ t said. one_subject (map_member_at info.strings earlier) (map_member_at info.strings later) (λ m. member_value_of mode info name m earlier.btf_type) (λ m. member_value_of mode info name m later.btf_type) p.0 t (same_member info.strings earlier later same)
    (λ m. member_subject mode info name m earlier.btf_type p.0) (λ m. member_subject mode info name m later.btf_type t) p.1 said)
    no_definitions

pub later_inner_members : LaterInnerMembersStand
unfolding inner_member_value
later_inner_members mode info name before between after earlier later same is =
    let p : (s : MemberValue) × (inner_member_value mode info name earlier ≡ Ok s) = value_ok (inner_member_value mode info name earlier) is in
    ap (λ (r : Result MapDefinitions BtfError). if_ok r (λ d. Ok d.def))
    (later_stands (inner_member_value mode info name) before between after earlier later p.0 p.1
    (λ t said. one_subject (map_member_at info.strings earlier) (map_member_at info.strings later) (λ m. inner_member_value_of mode info name m earlier.btf_type) (λ m. inner_member_value_of mode info name m later.btf_type) p.0 t (same_member info.strings earlier later same)
    (λ m. inner_subject mode info name m earlier.btf_type p.0) (λ m. inner_subject mode info name m later.btf_type t) p.1 said)
    no_definitions)

-- ---- the item of a list of one

pub only_item : {A : Type 0} (xs : List A) (x : A) → length xs ≡ 1 → slice_get xs 0 ≡ Some x → xs ≡ x ∷ []
only_item [] x one here = cc
only_item (y ∷ []) x one here = cc
only_item (y ∷ z ∷ more) x one here = cc
