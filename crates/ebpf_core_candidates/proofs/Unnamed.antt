-- Types without a name, and those whose names cannot be read.
use Rattle.std.proofs.Common.{◌≡◌, ◌+◌, ◌≤◌, ◌==◌, drop, ℕ, Bool, true, false, cond, List, [], ◌∷◌, Option, Some, None, Result, Ok, Err, refl, sym, ap, ◌∙◌, arith, if◌then◌else◌, ◌++◌, ◌&&◌, length, map, append_assoc, append-nil}
use Rattle.std.specs.Prelude.{nat_le, option_map}
use Rattle.std.specs.List.{enumerate_from}
use Rattle.std.specs.Result.{result_ok}
use Rattle.std.proofs.lemmas.Bool.Decides.{nat_tests}
use Rattle.std.proofs.Math.Bool.{and-false, and-true}
use Rattle.ebpf_base.proofs.Faults.{or_else-assoc}
use Rattle.ebpf_base.specs.Faults.{fault_of, first_some, or_else}
use Rattle.ebpf_btf.specs.declared.error.BtfError.{BtfError}
use Rattle.ebpf_btf.specs.declared.error.BtfError.TheVariants.{InvalidStringOffset}
use Rattle.ebpf_btf.specs.declared.kind.BtfKind.{BtfKind}
use Rattle.ebpf_btf.specs.declared.types.BtfType.{BtfType}
use Rattle.ebpf_btf.specs.EssentialNames.{essential_name}
use Rattle.ebpf_btf.specs.Strings.{before_zero, text_at, text_or_fault, type_name}
use Rattle.ebpf_btf.specs.TypeInfo.{TypeInfo}
use Rattle.ebpf_btf.specs.Types.{is_kind, kind_number, kind_of, name_off}
use Rattle.ebpf_core_candidates.specs.declared.kinds.UnreadableName.{UnreadableName}
use Rattle.ebpf_core_candidates.specs.Candidates.{candidates_fault, candidates_of_both_fault, type_name_fault, candidates, ids_from, is_candidate}
use Rattle.ebpf_core_candidates.specs.TypeRows.{readable_name, unread, unreadable_from, unreadable_name, lower, unreadable_offset_fault}

-- ---- one pass over the types

-- a type of another kind is passed over
pub unread_pass : (info : TypeInfo) (kind : BtfKind) (types : List BtfType) (i : ℕ) (t : BtfType) → drop i types ≡ t ∷ drop (i + 1) types
    → is_kind kind t ≡ false → unreadable_from info kind (i + 1) (drop (i + 1) types) ≡ unreadable_from info kind i (drop i types)
unread_pass info kind types i t here other = rw (here, other) refl

-- so is a name that can be read
pub unread_skip : (info : TypeInfo) (kind : BtfKind) (types : List BtfType) (i : ℕ) (t : BtfType) (text : List ℕ) → drop i types ≡ t ∷ drop (i + 1) types
    → Some text ≡ result_ok (type_name info t) → unreadable_from info kind (i + 1) (drop (i + 1) types) ≡ unreadable_from info kind i (drop i types)
unread_skip info kind types i t text here readable = by_name (type_name info t) refl readable
  where
    by_name : (r : Result (List ℕ) BtfError) → type_name info t ≡ r → Some text ≡ result_ok r
        → unreadable_from info kind (i + 1) (drop (i + 1) types) ≡ unreadable_from info kind i (drop i types)
    by_name (Ok read) is same = rw (here, is) (by_kind (is_kind kind t))
      where
        by_kind : (b : Bool) → unreadable_from info kind (i + 1) (drop (i + 1) types) ≡ or_else (cond b None None) (unreadable_from info kind (i + 1) (drop (i + 1) types))
        by_kind true = refl
        by_kind false = refl
    by_name (Err e) is same = cc

pub unread_past : (info : TypeInfo) (kind : BtfKind) (types : List BtfType) (i : ℕ) (t : BtfType) (name : List ℕ) → drop i types ≡ t ∷ drop (i + 1) types
    → readable_name info t ≡ Some name → unreadable_from info kind (i + 1) (drop (i + 1) types) ≡ unreadable_from info kind i (drop i types)
unread_past info kind types i t name here readable = by_name (type_name info t) refl readable
  where
    by_name : (r : Result (List ℕ) BtfError) → type_name info t ≡ r → option_map essential_name (result_ok r) ≡ Some name
        → unreadable_from info kind (i + 1) (drop (i + 1) types) ≡ unreadable_from info kind i (drop i types)
    by_name (Ok read) is same = unread_skip info kind types i t read here (rw is refl)
    by_name (Err e) is same = cc

pub unreadable_none : (info : TypeInfo) (t : BtfType) → readable_name info t ≡ None → result_ok (type_name info t) ≡ None
unreadable_none info t none = by_name (result_ok (type_name info t)) none
  where
    by_name : (o : Option (List ℕ)) → option_map essential_name o ≡ None → o ≡ None
    by_name None is = refl
    by_name (Some text) is = cc

-- and one that can't be is kept, where it is the first of its kind
pub unread_more : (info : TypeInfo) (kind : BtfKind) (types : List BtfType) (i : ℕ) (t : BtfType) (old new all : Option UnreadableName)
    → drop i types ≡ t ∷ drop (i + 1) types → result_ok (type_name info t) ≡ None
    → new ≡ or_else old (if kind_number (kind_of t) == kind_number kind then Some (record { id = i; offset = name_off t }) else None)
    → or_else old (unreadable_from info kind i (drop i types)) ≡ all
    → or_else new (unreadable_from info kind (i + 1) (drop (i + 1) types)) ≡ all
unread_more info kind types i t old new all here none kept before = by_name (type_name info t) refl none
  where
    by_name : (r : Result (List ℕ) BtfError) → type_name info t ≡ r → result_ok r ≡ None
        → or_else new (unreadable_from info kind (i + 1) (drop (i + 1) types)) ≡ all
    by_name (Ok read) is same = cc
    by_name (Err e) is same =
        let first : unreadable_name info kind i t ≡ (if is_kind kind t then Some (record { id = i; offset = name_off t }) else None) = rw is refl in
        let later = unreadable_from info kind (i + 1) (drop (i + 1) types) in
        ap (λ o. or_else o later) (kept ∙ ap (or_else old) (sym first))
        ∙ or_else-assoc old (unreadable_name info kind i t) later
        ∙ ap (λ ts. or_else old (unreadable_from info kind i ts)) (sym here)
        ∙ before

-- ---- their faults

text_fault : (strings : List ℕ) (offset : ℕ) (id : ℕ) (t : BtfType) → name_off t ≡ offset
    → fault_of (text_at strings offset) ≡ unreadable_offset_fault (unread id t (text_at strings offset))
unfolding text_at
text_fault strings offset id t name = by_bytes (before_zero (drop offset strings))
  where
    by_bytes : (b : Option (List ℕ)) → fault_of (text_or_fault offset b) ≡ unreadable_offset_fault (unread id t (text_or_fault offset b))
    by_bytes None = ap (λ n. Some (InvalidStringOffset n)) (sym name)
    by_bytes (Some bytes) = refl

one_fault : (info : TypeInfo) (kind : BtfKind) (id : ℕ) (t : BtfType) → type_name_fault info kind t ≡ unreadable_offset_fault (unreadable_name info kind id t)
one_fault info kind id t = by_kind (is_kind kind t)
  where
    by_kind : (b : Bool) → cond b (fault_of (type_name info t)) None ≡ unreadable_offset_fault (cond b (unread id t (type_name info t)) None)
    by_kind true = text_fault info.strings (name_off t) id t refl
    by_kind false = refl

fault_or_else : (a b : Option UnreadableName) → unreadable_offset_fault (or_else a b) ≡ or_else (unreadable_offset_fault a) (unreadable_offset_fault b)
fault_or_else None b = refl
fault_or_else (Some n) b = refl

-- of one kind
faults_from : (info : TypeInfo) (kind : BtfKind) (id : ℕ) (types : List BtfType) → first_some (type_name_fault info kind) types ≡ unreadable_offset_fault (unreadable_from info kind id types)
faults_from info kind id [] = refl
faults_from info kind id (t ∷ types) =
    (λ i. or_else (one_fault info kind id t i) (faults_from info kind (id + 1) types i))
    ∙ sym (fault_or_else (unreadable_name info kind id t) (unreadable_from info kind (id + 1) types))

pub fault_of_kind : (info : TypeInfo) (kind : BtfKind) → candidates_fault info kind ≡ unreadable_offset_fault (unreadable_from info kind 0 info.types)
fault_of_kind info kind = faults_from info kind 0 info.types

-- ---- of two kinds

-- ids are the indices
unread_id : (info : TypeInfo) (kind : BtfKind) (id : ℕ) (t : BtfType) (n : UnreadableName) → unreadable_name info kind id t ≡ Some n → n.id ≡ id
unread_id info kind id t n is = by_kind (is_kind kind t) (type_name info t) is
  where
    by_kind : (b : Bool) (r : Result (List ℕ) BtfError) → cond b (unread id t r) None ≡ Some n → n.id ≡ id
    by_kind true (Ok text) same = cc
    by_kind true (Err e) same = cc
    by_kind false r same = cc

unread_above : (info : TypeInfo) (kind : BtfKind) (id : ℕ) (types : List BtfType) (n : UnreadableName) → unreadable_from info kind id types ≡ Some n → id ≤ n.id
unread_above info kind id [] n is = cc
unread_above info kind id (t ∷ types) n is =
    by_first (unreadable_name info kind id t) (unread_id info kind id t n) (unread_above info kind (id + 1) types n) is
  where
    by_first : (o : Option UnreadableName) → (o ≡ Some n → n.id ≡ id) → (unreadable_from info kind (id + 1) types ≡ Some n → id + 1 ≤ n.id)
        → or_else o (unreadable_from info kind (id + 1) types) ≡ Some n → id ≤ n.id
    by_first None first later same = let up = later same in omega arith
    by_first (Some m) first later same = let at = first same in omega arith

lower_step : (id : ℕ) (a b rest_a rest_b rest : Option UnreadableName)
    → ((n : UnreadableName) → a ≡ Some n → n.id ≡ id) → ((n : UnreadableName) → b ≡ Some n → n.id ≡ id)
    → ((n : UnreadableName) → rest_a ≡ Some n → id + 1 ≤ n.id) → ((n : UnreadableName) → rest_b ≡ Some n → id + 1 ≤ n.id)
    → lower rest_a rest_b ≡ rest → lower (or_else a rest_a) (or_else b rest_b) ≡ or_else (or_else a b) rest
lower_step id None None rest_a rest_b rest at_a at_b above_a above_b is = is
lower_step id (Some m) (Some n) rest_a rest_b rest at_a at_b above_a above_b is =
    let one = at_a m refl in let other = at_b n refl in
    let first : nat_le m.id n.id ≡ true = grind (arith, nat_tests) in
    rw first refl
lower_step id (Some m) None rest_a None rest at_a at_b above_a above_b is = refl
lower_step id (Some m) None rest_a (Some n) rest at_a at_b above_a above_b is =
    let one = at_a m refl in let other = above_b n refl in
    let first : nat_le m.id n.id ≡ true = grind (arith, nat_tests) in
    rw first refl
lower_step id None (Some n) None rest_b rest at_a at_b above_a above_b is = refl
lower_step id None (Some n) (Some m) rest_b rest at_a at_b above_a above_b is =
    let one = above_a m refl in let other = at_b n refl in
    let second : nat_le m.id n.id ≡ false = grind (arith, nat_tests) in
    rw second refl

-- the lower of the first ones is the first of both
lower_from : (info : TypeInfo) (first second : BtfKind) (id : ℕ) (types : List BtfType)
    → lower (unreadable_from info first id types) (unreadable_from info second id types)
    ≡ first_some (λ e. or_else (unreadable_name info first e.0 e.1) (unreadable_name info second e.0 e.1)) (enumerate_from id types)
lower_from info first second id [] = refl
lower_from info first second id (t ∷ types) =
    lower_step id (unreadable_name info first id t) (unreadable_name info second id t) (unreadable_from info first (id + 1) types) (unreadable_from info second (id + 1) types) _
    (unread_id info first id t) (unread_id info second id t) (unread_above info first (id + 1) types) (unread_above info second (id + 1) types)
    (lower_from info first second (id + 1) types)

both_from : (info : TypeInfo) (first second : BtfKind) (id : ℕ) (types : List BtfType)
    → first_some (λ t. or_else (type_name_fault info first t) (type_name_fault info second t)) types
    ≡ unreadable_offset_fault (first_some (λ e. or_else (unreadable_name info first e.0 e.1) (unreadable_name info second e.0 e.1)) (enumerate_from id types))
both_from info first second id [] = refl
both_from info first second id (t ∷ types) =
    let a = unreadable_name info first id t in
    let b = unreadable_name info second id t in
    let later = first_some (λ e. or_else (unreadable_name info first e.0 e.1) (unreadable_name info second e.0 e.1)) (enumerate_from (id + 1) types) in
    (λ i. or_else (or_else (one_fault info first id t i) (one_fault info second id t i)) (both_from info first second (id + 1) types i))
    ∙ ap (λ o. or_else o (unreadable_offset_fault later)) (sym (fault_or_else a b))
    ∙ sym (fault_or_else (or_else a b) later)

pub fault_of_kinds : (info : TypeInfo) (first second : BtfKind)
    → candidates_of_both_fault info first second ≡ unreadable_offset_fault (lower (unreadable_from info first 0 info.types) (unreadable_from info second 0 info.types))
fault_of_kinds info first second = both_from info first second 0 info.types ∙ ap unreadable_offset_fault (sym (lower_from info first second 0 info.types))

-- ---- types without a name, gathered in one pass

-- the ids that are left
abbrev pub anonymous_from : TypeInfo → BtfKind → ℕ → List BtfType → List ℕ
anonymous_from info kind id types = ids_from (is_candidate info kind []) id types

no_name : essential_name [] ≡ []
unfolding essential_name
no_name = refl

-- what a test of a name's length tells
pub no_bytes : (xs : List ℕ) → true ≡ (length xs == 0) → xs ≡ []
no_bytes [] is = refl
no_bytes (x ∷ xs) is = absurd (grind (arith, nat_tests))

pub some_bytes : (xs : List ℕ) → false ≡ (length xs == 0) → (xs ≡ []) → ⊥
some_bytes [] is empty = cc
some_bytes (x ∷ xs) is empty = cc

-- what one look at a name tells
abbrev pub is_none : Option (List ℕ) → Bool
is_none None = false
is_none (Some []) = true
is_none (Some (x ∷ xs)) = false

is_anonymous : (info : TypeInfo) (kind : BtfKind) (t : BtfType) → is_candidate info kind [] t ≡ (is_kind kind t && is_none (readable_name info t))
is_anonymous info kind t = by_name (type_name info t) refl
  where
    by_text : (text : List ℕ) (essential : List ℕ) → essential_name text ≡ essential → type_name info t ≡ Ok text → is_candidate info kind [] t ≡ (is_kind kind t && is_none (readable_name info t))
    by_text text [] e is = rw (is, e, no_name) refl
    by_text text (x ∷ xs) e is = rw (is, e, no_name) refl

    by_name : (r : Result (List ℕ) BtfError) → type_name info t ≡ r → is_candidate info kind [] t ≡ (is_kind kind t && is_none (readable_name info t))
    by_name (Ok text) is = by_text text (essential_name text) refl is
    by_name (Err f) is = rw is refl

pub has_name : (o : Option (List ℕ)) (name : List ℕ) → o ≡ Some name → ((name ≡ []) → ⊥) → is_none o ≡ false
has_name o [] is some = absurd (some refl)
has_name o (x ∷ xs) is some = ap is_none is

-- a type of another kind is passed over
pub anonymous_pass : (info : TypeInfo) (kind : BtfKind) (types : List BtfType) (i : ℕ) (t : BtfType) → drop i types ≡ t ∷ drop (i + 1) types
    → is_kind kind t ≡ false → anonymous_from info kind (i + 1) (drop (i + 1) types) ≡ anonymous_from info kind i (drop i types)
anonymous_pass info kind types i t here other = rw (here, other) refl

-- so is one that has a name, or one that can't be read
pub anonymous_skip : (info : TypeInfo) (kind : BtfKind) (types : List BtfType) (i : ℕ) (t : BtfType) → drop i types ≡ t ∷ drop (i + 1) types
    → is_none (readable_name info t) ≡ false → anonymous_from info kind (i + 1) (drop (i + 1) types) ≡ anonymous_from info kind i (drop i types)
anonymous_skip info kind types i t here other =
    let test : is_candidate info kind [] t ≡ false = is_anonymous info kind t ∙ ap (λ b. is_kind kind t && b) other ∙ and-false (is_kind kind t) in
    rw (here, test) refl

first_id : (b : Bool) (e : ℕ × BtfType) (es : List (ℕ × BtfType)) → map (λ x. x.0) (cond b (e ∷ es) es) ≡ cond b (e.0 ∷ map (λ x. x.0) es) (map (λ x. x.0) es)
first_id true e es = refl
first_id false e es = refl

put_first : (b : Bool) (old : List ℕ) (i : ℕ) (rest : List ℕ) → (old ++ cond b (i ∷ []) []) ++ rest ≡ old ++ cond b (i ∷ rest) rest
put_first true old i rest = append_assoc old (i ∷ []) rest
put_first false old i rest = ap (λ ids. ids ++ rest) (append-nil old)

-- one without a name is the next of its kind
pub anonymous_more : (info : TypeInfo) (kind : BtfKind) (types : List BtfType) (i : ℕ) (t : BtfType) (old new all : List ℕ) → drop i types ≡ t ∷ drop (i + 1) types
    → readable_name info t ≡ Some [] → new ≡ old ++ (if kind_number (kind_of t) == kind_number kind then i ∷ [] else [])
    → old ++ anonymous_from info kind i (drop i types) ≡ all → new ++ anonymous_from info kind (i + 1) (drop (i + 1) types) ≡ all
anonymous_more info kind types i t old new all here none is before =
    let test : is_candidate info kind [] t ≡ is_kind kind t = is_anonymous info kind t ∙ ap (λ o. is_kind kind t && is_none o) none ∙ and-true (is_kind kind t) in
    let rest = anonymous_from info kind (i + 1) (drop (i + 1) types) in
    let left : anonymous_from info kind i (drop i types) ≡ cond (is_kind kind t) (i ∷ rest) rest = rw (here, test) (first_id (is_kind kind t) (i, t) _) in
    ap (λ ids. ids ++ rest) is ∙ put_first (is_kind kind t) old i rest ∙ ap (λ ids. old ++ ids) (sym left) ∙ before

-- candidates of a name without an essential part
module _ (info : TypeInfo) (kind : BtfKind) (name : List ℕ) (none : essential_name name ≡ []) where
  same_test : (t : BtfType) → is_candidate info kind [] t ≡ is_candidate info kind name t
  same_test t = by_name (type_name info t) refl
    where
      by_name : (r : Result (List ℕ) BtfError) → type_name info t ≡ r → is_candidate info kind [] t ≡ is_candidate info kind name t
      by_name (Ok text) is = rw (is, none, no_name) refl
      by_name (Err e) is = rw is refl

  pub anonymous_found : candidates info kind [] ≡ candidates info kind name
  anonymous_found = λ i. ids_from (λ t. same_test t i) 0 info.types
