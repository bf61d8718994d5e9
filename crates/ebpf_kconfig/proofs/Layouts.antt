-- The layouts of the kconfig externs in the types for the kernel and in the value of the map agree.
use Rattle.std.proofs.Common.{◌≡◌, ℕ, suc, ◌+◌, ◌-◌, ◌<◌, ◌≤◌, Bool, true, false, cond, List, [], ◌∷◌, ◌++◌, map, length, Option, Some, None, Result, Ok, Err, refl, ap, sym, subst, ◌∙◌, arith}
use Rattle.std.specs.Prelude.{unwrap_or, fold, nat_lt, ◌==◌, ◌*◌, ◌/◌, min, max, option_map, slice_get, ⊤, IfOk}
use Rattle.std.proofs.lemmas.Bool.Decides.{nat_tests}
use Rattle.std.specs.Cmp.{ranked}
use Rattle.std.specs.FinMap.{FinMap, empty, entries, get}
use Rattle.std.specs.List.{AllByRecursion, AllZip, flat_map, insert, position_from}
use Rattle.std.specs.Map.{keys_of}
use Rattle.std.specs.Option.{option_to_list}
use Rattle.std.specs.Ordering.{is_lt, nat_cmp, ordering_then}
use Rattle.std.specs.declared.cmp.Ordering.{Ordering}
use Rattle.std.specs.declared.cmp.Ordering.TheVariants.{Less, Equal, Greater}
use Rattle.ebpf_base.proofs.Faults.{both_None}
use Rattle.ebpf_base.proofs.Maps.{entries-empty, key_exact}
use Rattle.ebpf_base.proofs.TextMaps.{text_exact}
use Rattle.ebpf_base.specs.Faults.{fault_of, if_ok}
use Rattle.ebpf_base.specs.Maps.{key_cmp, key_total, text_cmp, text_total}
use Rattle.ebpf_btf.specs.Strings.{text_at}
use Rattle.ebpf_btf.specs.TypeInfo.{TypeInfo}
use Rattle.ebpf_btf.specs.declared.error.BtfError.{BtfError}
use Rattle.ebpf_btf.specs.declared.members.DataSecEntry.{DataSecEntry}
use Rattle.ebpf_btf.specs.declared.types.BtfType.{BtfType}
use Rattle.ebpf_btf.specs.declared.types.BtfType.TheVariants as types_of
use Rattle.ebpf_btf_load.specs.SectionWords.{extern_room, room_end, room_name, room_offset, room_of_variable, room_or_fault, rooms_end, rooms_in, rooms_in_fault, size_and_alignment, stands_before, with_found_room, with_room}
use Rattle.ebpf_btf_load.specs.declared.error.KernelTypesError.{KernelTypesError}
use Rattle.ebpf_btf_load.specs.declared.kconfig.ExternRoom.{ExternRoom}
use Rattle.ebpf_kconfig.specs.KconfigExterns.{extern_name, name_or_fault, readable_or_fault, extern_at, externs_fault_in, externs_in, externs_or_none, is_kconfig_name, kconfig_alignment, kconfig_type, kconfig_variable, typed_or_fault, variable_or_fault}
use Rattle.ebpf_kconfig.specs.KconfigMaps.{ExternsByName, alignment_of, extern_end, extern_groups, extern_offset, extern_offsets, extern_size, group_externs, laid_out, layout_end, layout_key}
use Rattle.ebpf_kconfig.specs.declared.error.KconfigError.{KconfigError}
use Rattle.ebpf_kconfig.specs.declared.error.KconfigError.TheVariants.{UnknownName}
use Rattle.ebpf_kconfig.specs.declared.externs.KconfigExtern.{KconfigExtern}
use Rattle.ebpf_kconfig.specs.declared.kconfig_type.KconfigType.{KconfigType}
use Rattle.ebpf_kconfig.specs.declared.kconfig_type.KconfigType.TheVariants as kconfig_types
use Rattle.ebpf_ksyms.proofs.Resolving.{all_found}
use Rattle.ebpf_kconfig.proofs.SortedGroups as sorted
use Rattle.ebpf_kconfig.specs.Layouts.{HasPlainName, HaveDistinctNames, KconfigLayoutsAgree, room_offsets}
use Rattle.ebpf_kconfig.proofs.ExternSizes.{AreOf, err_ok, ok_is, some_none, variable_sized}

-- ---- externs in order

abbrev name_of_extern : KconfigExtern → List ℕ
name_of_extern e = e.name

abbrev is_before : KconfigExtern → KconfigExtern → Bool
is_before e x = sorted.before key_cmp text_cmp key_total layout_key name_of_extern e x

abbrev with_extern_in_order : List KconfigExtern → KconfigExtern → List KconfigExtern
with_extern_in_order xs e = sorted.ins key_cmp text_cmp key_total layout_key name_of_extern e xs

-- the externs of a group are its values
named_externs : (group : ExternsByName) (es : List (List ℕ × KconfigExtern)) → AllByRecursion (λ e. get group e.0 ≡ Some e.1) es
    → flat_map (λ name. option_to_list (get group name)) (keys_of es) ≡ map (λ e. e.1) es
named_externs group [] all = refl
named_externs group (e ∷ es) all =
    ap (λ (o : Option KconfigExtern). option_to_list o ++ flat_map (λ name. option_to_list (get group name)) (keys_of es)) all.0
    ∙ ap (λ l. e.1 ∷ l) (named_externs group es all.1)

group_values : (group : ExternsByName) → group_externs group ≡ map (λ e. e.1) (entries group)
group_values group = named_externs group (entries group) (all_found group)

flat_values : (gs : List ((ℕ × ℕ) × ExternsByName)) → flat_map (λ group. group_externs group.1) gs ≡ flat_map (λ group. map (λ e. e.1) (entries group.1)) gs
flat_values [] = refl
flat_values (g ∷ gs) = λ i. group_values g.1 i ++ flat_values gs i

none_named : (es : List KconfigExtern) → AllByRecursion (λ (r : KconfigExtern). ⊤) es
none_named [] = tt
none_named (e ∷ es) = (tt, none_named es)

distinct_names : (es : List KconfigExtern) → HaveDistinctNames es → sorted.AreDistinct key_cmp text_cmp key_total layout_key name_of_extern text_total key_exact (entries-empty text_cmp KconfigExtern) es
distinct_names [] distinct = tt
distinct_names (e ∷ es) distinct = (distinct.0, distinct_names es distinct.1)

-- laid out, externs are as if each were put in its place one by one
in_order : (externs : List KconfigExtern) → HaveDistinctNames externs → laid_out externs ≡ fold with_extern_in_order [] externs
in_order externs distinct =
    flat_values (entries (extern_groups externs))
    ∙ sorted.listed key_cmp text_cmp key_total layout_key name_of_extern text_total key_exact (entries-empty text_cmp KconfigExtern) text_exact empty externs
    (subst (λ (gs : List ((ℕ × ℕ) × ExternsByName)). sorted.AreGroups key_cmp text_cmp key_total layout_key name_of_extern gs) (sym (entries-empty key_cmp ExternsByName)) tt)
    (subst (λ (gs : List ((ℕ × ℕ) × ExternsByName)). AllByRecursion (λ r. AllByRecursion (λ x. x.name ≡ r.name → ⊥) (flat_map (λ group. map (λ e. e.1) (entries group.1)) gs)) externs) (sym (entries-empty key_cmp ExternsByName)) (none_named externs))
    (distinct_names externs distinct)
    ∙ ap (λ (gs : List ((ℕ × ℕ) × ExternsByName)). fold with_extern_in_order (flat_map (λ group. map (λ e. e.1) (entries group.1)) gs) externs) (entries-empty key_cmp ExternsByName)

-- ---- a list with one element more, in its place

abbrev placed : {X : Type 0} → (X → Bool) → X → List X → List X
placed p x [] = x ∷ []
placed p x (y ∷ ys) = cond (p y) (x ∷ y ∷ ys) (y ∷ placed p x ys)

shift_test : {X : Type 0} (p : X → Bool) (from : ℕ) (ys : List X) (b : Bool) → position_from p (from + 1 + 1) ys ≡ option_map (λ i. i + 1) (position_from p (from + 1) ys)
    → cond b (Some (from + 1)) (position_from p (from + 1 + 1) ys) ≡ option_map (λ i. i + 1) (cond b (Some from) (position_from p (from + 1) ys))
shift_test p from ys true rest = refl
shift_test p from ys false rest = rest

shifted : {X : Type 0} (p : X → Bool) (from : ℕ) (ys : List X) → position_from p (from + 1) ys ≡ option_map (λ i. i + 1) (position_from p from ys)
shifted p from [] = refl
shifted p from (y ∷ ys) = shift_test p from ys (p y) (shifted p (from + 1) ys)

one_further : (o : Option ℕ) (n : ℕ) → unwrap_or (option_map (λ i. i + 1) o) (suc n) ≡ suc (unwrap_or o n)
one_further None n = refl
one_further (Some i) n = omega arith

place_test : {X : Type 0} (p : X → Bool) (x y : X) (ys : List X) (b : Bool) → insert ys (unwrap_or (position_from p 0 ys) (length ys)) x ≡ placed p x ys
    → insert (y ∷ ys) (unwrap_or (cond b (Some 0) (position_from p 1 ys)) (suc (length ys))) x ≡ cond b (x ∷ y ∷ ys) (y ∷ placed p x ys)
place_test p x y ys true rest = refl
place_test p x y ys false rest =
    ap (λ i. insert (y ∷ ys) i x) (ap (λ o. unwrap_or o (suc (length ys))) (shifted p 0 ys) ∙ one_further (position_from p 0 ys) (length ys))
    ∙ ap (λ l. y ∷ l) rest

in_place : {X : Type 0} (p : X → Bool) (x : X) (ys : List X) → insert ys (unwrap_or (position_from p 0 ys) (length ys)) x ≡ placed p x ys
in_place p x [] = refl
in_place p x (y ∷ ys) = place_test p x y ys (p y) (in_place p x ys)

-- ---- rooms and externs that are alike

abbrev IsAlike : List ℕ → ExternRoom → KconfigExtern → Type 0
IsAlike strings room e =
    (room_name strings room.name_offset ≡ e.name) × ((room.size ≡ extern_size e) × (room.alignment ≡ alignment_of e))

-- an alignment is at most 8
aligned : (kind : KconfigType) → kconfig_alignment kind ≤ 8
aligned kconfig_types.Bool = omega arith
aligned (kconfig_types.Tristate size) = capped size
  where
    capped : (size : ℕ) → max 1 (min 8 size) ≤ 8
    capped size = omega arith
aligned (kconfig_types.Char signed) = omega arith
aligned (kconfig_types.Integer size signed) = capped size
  where
    capped : (size : ℕ) → max 1 (min 8 size) ≤ 8
    capped size = omega arith
aligned (kconfig_types.CharArray len) = omega arith

abbrev told : Bool → Ordering → Bool
told named Less = true
told named Equal = named
told named Greater = false

-- the order of alignments, sizes and names, as two tests
by_size : (s t : ℕ) (named : Bool) (r : Ordering) → r ≡ nat_cmp s t
    → cond (s == t) named (nat_lt s t) ≡ told named r
by_size s t named Less is = let less : s < t = ranked s t Less is in grind (arith, nat_tests)
by_size s t named Equal is = let same : s ≡ t = ranked s t Equal is in grind (arith, nat_tests)
by_size s t named Greater is = let more : t < s = ranked s t Greater is in grind (arith, nat_tests)

by_alignment : (a b s t : ℕ) (named : Bool) (r q : Ordering) → a ≤ 8 → b ≤ 8 → r ≡ nat_cmp (8 - a) (8 - b) → q ≡ nat_cmp s t
    → cond (a == b) (cond (s == t) named (nat_lt s t)) (nat_lt b a) ≡ told named (ordering_then r q)
by_alignment a b s t named Less q low high is at =
    let less : 8 - a < 8 - b = ranked (8 - a) (8 - b) Less is in
    let below : b < a = omega arith in
    grind (arith, nat_tests)
by_alignment a b s t named Equal q low high is at =
    let even : 8 - a ≡ 8 - b = ranked (8 - a) (8 - b) Equal is in
    let same : a ≡ b = omega arith in
    let test : (a == b) ≡ true = grind (arith, nat_tests) in
    ap (λ (x : Bool). cond x (cond (s == t) named (nat_lt s t)) (nat_lt b a)) test ∙ by_size s t named q at
by_alignment a b s t named Greater q low high is at =
    let more : 8 - b < 8 - a = ranked (8 - a) (8 - b) Greater is in
    let below : a < b = omega arith in
    grind (arith, nat_tests)

told_before : (e x : KconfigExtern) (r : Ordering) → sorted.by_name key_cmp text_cmp key_total layout_key name_of_extern e x r ≡ told (is_lt (text_cmp e.name x.name)) r
told_before e x Less = refl
told_before e x Equal = refl
told_before e x Greater = refl

alike_before : (strings : List ℕ) (one other : ExternRoom) (e x : KconfigExtern) → IsAlike strings one e → IsAlike strings other x → stands_before strings one other ≡ is_before e x
unfolding stands_before
alike_before strings one other e x h g =
    (λ i. cond (h.1.1 i == g.1.1 i) (cond (h.1.0 i == g.1.0 i) (is_lt (text_cmp (h.0 i) (g.0 i))) (nat_lt (h.1.0 i) (g.1.0 i))) (nat_lt (g.1.1 i) (h.1.1 i)))
    ∙ by_alignment (alignment_of e) (alignment_of x) (extern_size e) (extern_size x) (is_lt (text_cmp e.name x.name)) _ _ (aligned e.kind) (aligned x.kind) refl refl
    ∙ sym (told_before e x (key_cmp (layout_key e) (layout_key x)))

placed_test : (strings : List ℕ) (room other : ExternRoom) (rooms more : List ExternRoom) (e x : KconfigExtern) (xs ys : List KconfigExtern) (b c : Bool) → b ≡ c
    → IsAlike strings room e → IsAlike strings other x → AllZip (IsAlike strings) rooms xs → AllZip (IsAlike strings) more ys
    → AllZip (IsAlike strings) (cond b (room ∷ other ∷ rooms) (other ∷ more)) (cond c (e ∷ x ∷ xs) (x ∷ ys))
placed_test strings room other rooms more e x xs ys true true is one two all rest = (one, (two, all))
placed_test strings room other rooms more e x xs ys true false is one two all rest = absurd (cc)
placed_test strings room other rooms more e x xs ys false true is one two all rest = absurd (cc)
placed_test strings room other rooms more e x xs ys false false is one two all rest = (two, rest)

placed_alike : (strings : List ℕ) (room : ExternRoom) (e : KconfigExtern) → IsAlike strings room e → (rooms : List ExternRoom) (xs : List KconfigExtern) → AllZip (IsAlike strings) rooms xs
    → AllZip (IsAlike strings) (placed (stands_before strings room) room rooms) (with_extern_in_order xs e)
placed_alike strings room e one [] [] all = (one, tt)
placed_alike strings room e one [] (x ∷ xs) all = absurd all
placed_alike strings room e one (other ∷ rooms) [] all = absurd all
placed_alike strings room e one (other ∷ rooms) (x ∷ xs) all =
    placed_test strings room other rooms (placed (stands_before strings room) room rooms) e x xs (with_extern_in_order xs e) (stands_before strings room other) (is_before e x)
    (alike_before strings room other e x one all.0) one all.0 all.1 (placed_alike strings room e one rooms xs all.1)

with_room_alike : (strings : List ℕ) (room : ExternRoom) (e : KconfigExtern) (rooms : List ExternRoom) (xs : List KconfigExtern) → IsAlike strings room e → AllZip (IsAlike strings) rooms xs
    → AllZip (IsAlike strings) (with_room strings rooms room) (with_extern_in_order xs e)
unfolding with_room
with_room_alike strings room e rooms xs one all =
    subst (λ (rs : List ExternRoom). AllZip (IsAlike strings) rs (with_extern_in_order xs e)) (sym (in_place (stands_before strings room) room rooms)) (placed_alike strings room e one rooms xs all)

-- ---- one extern and its room

typed_alike : (strings : List ℕ) (id offset : ℕ) (name : List ℕ) (weak : Bool) (kind : Option KconfigType) (sized : Option (ℕ × ℕ)) (e : KconfigExtern) (room : ExternRoom)
    → name ≡ room_name strings offset
    → ((k : KconfigType) (found : ℕ × ℕ) → kind ≡ Some k → sized ≡ Some found → AreOf k found)
    → typed_or_fault name weak kind ≡ Ok e → room_or_fault id offset sized ≡ Ok room → IsAlike strings room e
typed_alike strings id offset name weak None sized e room named are is read = absurd (err_ok _ e is)
typed_alike strings id offset name weak (Some kind) None e room named are is read = absurd (err_ok _ room read)
typed_alike strings id offset name weak (Some kind) (Some found) e room named are is read =
    let of = are kind found refl refl in
    subst (λ (x : KconfigExtern). IsAlike strings room x) (ok_is _ e is)
    (subst (λ (r : ExternRoom). IsAlike strings r (record { name = name; kind = kind; is_weak = weak })) (ok_is _ room read) (sym named, of))

named_test : (strings : List ℕ) (id offset : ℕ) (name : List ℕ) (weak : List ℕ → Bool) (b : Bool) (kind : Option KconfigType) (sized : Option (ℕ × ℕ)) (e : KconfigExtern) (room : ExternRoom)
    → name ≡ room_name strings offset
    → ((k : KconfigType) (found : ℕ × ℕ) → kind ≡ Some k → sized ≡ Some found → AreOf k found)
    → if_ok (cond b (Ok name) (Err (UnknownName name))) (λ n. typed_or_fault n (weak n) kind) ≡ Ok e → room_or_fault id offset sized ≡ Ok room → IsAlike strings room e
named_test strings id offset name weak true kind sized e room named are is read = typed_alike strings id offset name (weak name) kind sized e room named are is read
named_test strings id offset name weak false kind sized e room named are is read = absurd (err_ok _ e is)

-- the variable of an entry
plain_alike : (types : TypeInfo) (weak : FinMap text_cmp Bool) (id offset type : ℕ) (e : KconfigExtern) (room : ExternRoom) (text : Result (List ℕ) BtfError)
    → text ≡ Ok (room_name types.strings offset)
    → if_ok (if_ok (readable_or_fault offset text) name_or_fault) (λ name. typed_or_fault name (unwrap_or (get weak name) false) (kconfig_type types type)) ≡ Ok e
    → room_or_fault id offset (size_and_alignment types type) ≡ Ok room → IsAlike types.strings room e
plain_alike types weak id offset type e room (Err fault) plain is read = absurd (err_ok fault (room_name types.strings offset) plain)
plain_alike types weak id offset type e room (Ok name) plain is read =
    named_test types.strings id offset name (λ n. unwrap_or (get weak n) false) (is_kconfig_name name) (kconfig_type types type) (size_and_alignment types type) e room
    (ok_is name (room_name types.strings offset) plain) (variable_sized types type) is read

variable_alike : (types : TypeInfo) (weak : FinMap text_cmp Bool) (id : ℕ) (t : Option BtfType) (e : KconfigExtern) (room : ExternRoom)
    → IfOk (variable_or_fault id t) (λ variable. text_at types.strings variable.0 ≡ Ok (room_name types.strings variable.0))
    → if_ok (variable_or_fault id t) (λ variable. if_ok (extern_name types variable.0) (λ name. typed_or_fault name (unwrap_or (get weak name) false) (kconfig_type types variable.1))) ≡ Ok e
    → room_of_variable types id t ≡ Ok room → IsAlike types.strings room e
variable_alike types weak id None e room plain is read = absurd (err_ok _ e is)
variable_alike types weak id (Some types_of.Unknown) e room plain is read = absurd (err_ok _ e is)
variable_alike types weak id (Some (types_of.Int a b c)) e room plain is read = absurd (err_ok _ e is)
variable_alike types weak id (Some (types_of.Ptr a b)) e room plain is read = absurd (err_ok _ e is)
variable_alike types weak id (Some (types_of.Array a b c d)) e room plain is read = absurd (err_ok _ e is)
variable_alike types weak id (Some (types_of.Struct a b c d)) e room plain is read = absurd (err_ok _ e is)
variable_alike types weak id (Some (types_of.Union a b c d f)) e room plain is read = absurd (err_ok _ e is)
variable_alike types weak id (Some (types_of.Enum a b c d)) e room plain is read = absurd (err_ok _ e is)
variable_alike types weak id (Some (types_of.Fwd a b)) e room plain is read = absurd (err_ok _ e is)
variable_alike types weak id (Some (types_of.Typedef a b)) e room plain is read = absurd (err_ok _ e is)
variable_alike types weak id (Some (types_of.Volatile a b)) e room plain is read = absurd (err_ok _ e is)
variable_alike types weak id (Some (types_of.Const a b)) e room plain is read = absurd (err_ok _ e is)
variable_alike types weak id (Some (types_of.Restrict a b)) e room plain is read = absurd (err_ok _ e is)
variable_alike types weak id (Some (types_of.Func a b)) e room plain is read = absurd (err_ok _ e is)
variable_alike types weak id (Some (types_of.FuncProto a b c)) e room plain is read = absurd (err_ok _ e is)
variable_alike types weak id (Some (types_of.Var a b c)) e room plain is read = plain_alike types weak id a b e room (text_at types.strings a) plain is read
variable_alike types weak id (Some (types_of.DataSec a b c)) e room plain is read = absurd (err_ok _ e is)
variable_alike types weak id (Some (types_of.Float a b)) e room plain is read = absurd (err_ok _ e is)
variable_alike types weak id (Some (types_of.DeclTag a b c)) e room plain is read = absurd (err_ok _ e is)
variable_alike types weak id (Some (types_of.TypeTag a b)) e room plain is read = absurd (err_ok _ e is)
variable_alike types weak id (Some (types_of.Enum64 a b c d)) e room plain is read = absurd (err_ok _ e is)

entry_alike : (types : TypeInfo) (weak : FinMap text_cmp Bool) (id : ℕ) (e : KconfigExtern) (room : ExternRoom) → HasPlainName types id → extern_at types weak id ≡ Ok e → extern_room types id ≡ Ok room
    → IsAlike types.strings room e
unfolding extern_at extern_room kconfig_variable
entry_alike types weak id e room plain is read = variable_alike types weak id (slice_get types.types id) e room plain is read

-- ---- all externs and their rooms

module _ (types : TypeInfo) (weak : FinMap text_cmp Bool) where
  one_more : (rooms : List ExternRoom) (xs : List KconfigExtern) (id : ℕ) (r : Result KconfigExtern KconfigError) (s : Result ExternRoom KernelTypesError) → fault_of r ≡ None → fault_of s ≡ None
      → ((e : KconfigExtern) (room : ExternRoom) → r ≡ Ok e → s ≡ Ok room → IsAlike types.strings room e) → AllZip (IsAlike types.strings) rooms xs
      → AllZip (IsAlike types.strings) (with_found_room types rooms s) (fold with_extern_in_order xs (externs_or_none r))
  one_more rooms xs id (Err e) s none other alike all = absurd (some_none e none)
  one_more rooms xs id (Ok e) (Err f) none other alike all = absurd (some_none f other)
  one_more rooms xs id (Ok e) (Ok room) none other alike all = with_room_alike types.strings room e rooms xs (alike e room refl refl) all

  fold_append : (xs es more : List KconfigExtern) → fold with_extern_in_order xs (es ++ more) ≡ fold with_extern_in_order (fold with_extern_in_order xs es) more
  fold_append xs [] more = refl
  fold_append xs (e ∷ es) more = fold_append (with_extern_in_order xs e) es more

  all_alike : (rooms : List ExternRoom) (xs : List KconfigExtern) (rows : List DataSecEntry) → AllZip (IsAlike types.strings) rooms xs
      → externs_fault_in types weak rows ≡ None → rooms_in_fault types rows ≡ None → AllByRecursion (λ row. HasPlainName types row.btf_type) rows
      → AllZip (IsAlike types.strings) (rooms_in types rooms rows) (fold with_extern_in_order xs (externs_in types weak rows))
  all_alike rooms xs [] all none other plain = all
  all_alike rooms xs (row ∷ rows) all none other plain =
      let here = both_None (fault_of (extern_at types weak row.btf_type)) (externs_fault_in types weak rows) none in
      let there = both_None (fault_of (extern_room types row.btf_type)) (rooms_in_fault types rows) other in
      subst (λ ys. AllZip (IsAlike types.strings) (rooms_in types rooms (row ∷ rows)) ys) (sym (fold_append xs (externs_or_none (extern_at types weak row.btf_type)) (externs_in types weak rows)))
      (all_alike (with_found_room types rooms (extern_room types row.btf_type)) (fold with_extern_in_order xs (externs_or_none (extern_at types weak row.btf_type))) rows
      (one_more rooms xs row.btf_type (extern_at types weak row.btf_type) (extern_room types row.btf_type) here.0 there.0 (λ e room is read. entry_alike types weak row.btf_type e room plain.0 is read) all)
      here.1 there.1 plain.1)

-- ---- offsets

at_offset : (end a : ℕ) (b : Bool) → (a == 0) ≡ b → 1 ≤ a → cond b end ((end + (a - 1)) / a * a) ≡ (end + (a - 1)) / a * a
at_offset end a true none some = absurd (not_zero a none some)
  where
    not_zero : (a : ℕ) → (a == 0) ≡ true → 1 ≤ a → ⊥
    not_zero a is some = let none : a ≡ 0 = grind (arith, nat_tests) in omega arith
at_offset end a false none some = refl

some_alignment : (kind : KconfigType) → 1 ≤ kconfig_alignment kind
some_alignment kconfig_types.Bool = omega arith
some_alignment (kconfig_types.Tristate size) = omega arith
some_alignment (kconfig_types.Char signed) = omega arith
some_alignment (kconfig_types.Integer size signed) = omega arith
some_alignment (kconfig_types.CharArray len) = omega arith

same_offset : (strings : List ℕ) (end : ℕ) (room : ExternRoom) (e : KconfigExtern) → IsAlike strings room e → room_offset end room ≡ extern_offset end e
same_offset strings end room e alike =
    (λ i. cond (alike.1.1 i == 0) end ((end + (alike.1.1 i - 1)) / alike.1.1 i * alike.1.1 i))
    ∙ at_offset end (alignment_of e) (alignment_of e == 0) refl (some_alignment e.kind)

same_end : (strings : List ℕ) (end : ℕ) (room : ExternRoom) (e : KconfigExtern) → IsAlike strings room e → room_end end room ≡ extern_end end e
same_end strings end room e alike = λ i. same_offset strings end room e alike i + alike.1.0 i

same_offsets : (strings : List ℕ) (end : ℕ) (rooms : List ExternRoom) (es : List KconfigExtern) → AllZip (IsAlike strings) rooms es → room_offsets strings end rooms ≡ extern_offsets end es
same_offsets strings end [] [] all = refl
same_offsets strings end [] (e ∷ es) all = absurd all
same_offsets strings end (room ∷ rooms) [] all = absurd all
same_offsets strings end (room ∷ rooms) (e ∷ es) all =
    (λ i. (all.0.0 i, same_offset strings end room e all.0 i) ∷ room_offsets strings (same_end strings end room e all.0 i) rooms)
    ∙ ap (λ l. (e.name, extern_offset end e) ∷ l) (same_offsets strings (extern_end end e) rooms es all.1)

same_size : (strings : List ℕ) (end : ℕ) (rooms : List ExternRoom) (es : List KconfigExtern) → AllZip (IsAlike strings) rooms es → rooms_end end rooms ≡ layout_end end es
same_size strings end [] [] all = refl
same_size strings end [] (e ∷ es) all = absurd all
same_size strings end (room ∷ rooms) [] all = absurd all
same_size strings end (room ∷ rooms) (e ∷ es) all =
    (λ i. rooms_end (same_end strings end room e all.0 i) rooms) ∙ same_size strings (extern_end end e) rooms es all.1

pub layouts_agree : KconfigLayoutsAgree
layouts_agree types weak rows none other plain distinct =
    let order = in_order (externs_in types weak rows) distinct in
    let alike = all_alike types weak [] [] rows tt none other plain in
    record {
      offsets = same_offsets types.strings 0 (rooms_in types [] rows) (fold with_extern_in_order [] (externs_in types weak rows)) alike ∙ ap (extern_offsets 0) (sym order);
      size = same_size types.strings 0 (rooms_in types [] rows) (fold with_extern_in_order [] (externs_in types weak rows)) alike ∙ ap (layout_end 0) (sym order);
    }
