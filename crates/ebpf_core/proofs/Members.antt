-- The members of a type and the entries of its view.
use Rattle.std.proofs.Common.{◌≡◌, ℕ, zero, suc, ◌+◌, ◌-◌, ◌<◌, ◌≤◌, if◌then◌else◌, List, [], ◌∷◌, ◌++◌, Option, Some, None, Result, Ok, Err, refl, sym, ap, ◌∙◌, arith, drop, length, add-one, subst, inl, inr, ◌⊎◌, length-append, zero-add, suc-add, ltb, ◌==◌, Bool, true, false}
use Rattle.std.proofs.lemmas.List.{drop_all}
use Rattle.std.specs.List.{flat_map, slice_get}
use Rattle.std.proofs.lemmas.Bool.{ltb-true}
use Rattle.ebpf_btf.specs.declared.members.BtfMember.{BtfMember}
use Rattle.ebpf_btf.specs.declared.types.BtfType.{BtfType}
use Rattle.ebpf_btf.proofs.InOrder.{drop_some}
use Rattle.ebpf_btf.specs.Steps.{resolved}
use Rattle.ebpf_btf.specs.Strings.{is_name_at}
use Rattle.ebpf_btf.specs.TypeInfo.{TypeInfo}
use Rattle.ebpf_btf.specs.Types.{members_of}
use Rattle.ebpf_btf.specs.declared.error.BtfError.{BtfError}
use Rattle.ebpf_core_candidates.specs.Compatibility.{fields_compatible}
use Rattle.ebpf_core.specs.declared.places.PlaceFault.{PlaceFault}
use Rattle.ebpf_core.specs.declared.places.PlaceFault.TheVariants.{NestingLevel}
use Rattle.ebpf_core.specs.declared.member_search.Role.{Role}
use Rattle.ebpf_core.specs.declared.member_search.Role.TheVariants.{Anonymous, Other, Fitting, Misfit}
use Rattle.ebpf_core.specs.declared.member_search.Answer.{Answer}
use Rattle.ebpf_core.specs.declared.member_search.Answer.TheVariants.{Found, Absent}
use Rattle.ebpf_core.specs.Members.{MemberSearch, Member, indexed_member, members_from, member_search, members_in, role, if_read, named_role, anonymous_levels, ViewEntry, below, view_entry, flat_view, is_misfit, empty_view, own, view, IsLeaf, HasCount, Empty, Ended, Plain, Opened, IsEntry, Front, Next, Within, Behind, found_member, or_on, run_search, stop, stop_by}

-- go on where the name is absent
abbrev pub after : Result Answer PlaceFault → (ℕ → Result Answer PlaceFault) → Result Answer PlaceFault
after (Ok (Found m)) go = Ok (Found m)
after (Ok (Absent n)) go = go n
after (Err f) go = Err f

or_on_after : (o : Option (Result Answer PlaceFault)) (a : Result Answer PlaceFault) (go : ℕ → Result Answer PlaceFault)
    → ((r : Result Answer PlaceFault) → o ≡ Some r → after r go ≡ r) → or_on o (after a go) ≡ after (or_on o a) go
or_on_after None a go h = refl
or_on_after (Some r) a go h = sym (h r refl)

stop_ends : (role : Result Role PlaceFault) (e : ViewEntry) (go : ℕ → Result Answer PlaceFault) (r : Result Answer PlaceFault) → stop_by role e ≡ Some r → after r go ≡ r
stop_ends (Ok Fitting) e go (Ok (Found m)) h = refl
stop_ends (Ok Fitting) e go (Ok (Absent n)) h = cc
stop_ends (Ok Fitting) e go (Err f) h = cc
stop_ends (Err g) e go (Ok (Found m)) h = cc
stop_ends (Err g) e go (Ok (Absent n)) h = cc
stop_ends (Err g) e go (Err f) h = refl
stop_ends (Ok Misfit) e go r h = cc
stop_ends (Ok Other) e go r h = cc
stop_ends (Ok (Anonymous id)) e go r h = cc

-- a search through one list and then another
pub run_search-append : (member_search : MemberSearch) (left : ℕ) (xs ys : List ViewEntry) → run_search member_search left (xs ++ ys) ≡ after (run_search member_search left xs) (λ n. run_search member_search n ys)
unfolding run_search
run_search-append member_search left [] ys = refl
run_search-append member_search zero (x ∷ xs) ys = refl
run_search-append member_search (suc left) (x ∷ xs) ys =
    ap (or_on (stop member_search x)) (run_search-append member_search left xs ys)
    ∙ or_on_after (stop member_search x) (run_search member_search left xs) (λ n. run_search member_search n ys) (λ r. stop_ends (member_search.role_of x.inside x.member) x (λ n. run_search member_search n ys) r)

-- what a search does at a member, by its role
abbrev pub at_role : MemberSearch → Result Role PlaceFault → ViewEntry → ℕ → (ℕ → List ViewEntry) → List ViewEntry → Result Answer PlaceFault
at_role member_search (Err f) e left inner rest = Err f
at_role member_search (Ok Fitting) e left inner rest = Ok (Found (found_member e))
at_role member_search (Ok Misfit) e left inner rest = Ok (Absent left)
at_role member_search (Ok Other) e left inner rest = run_search member_search left rest
at_role member_search (Ok (Anonymous id)) e left inner rest = after (run_search member_search left (inner id)) (λ n. run_search member_search n rest)

by_role : (member_search : MemberSearch) (left : ℕ) (f : Member → List ViewEntry) (rest : List Member) (e : ViewEntry) (inner : ℕ → List ViewEntry) (role : Result Role PlaceFault)
    → or_on (stop_by role e) (run_search member_search left (below inner role ++ flat_map f (if is_misfit role then [] else rest))) ≡ at_role member_search role e left inner (flat_map f rest)
unfolding run_search
by_role member_search left f rest e inner (Err g) = refl
by_role member_search left f rest e inner (Ok Fitting) = refl
by_role member_search left f rest e inner (Ok Misfit) = refl
by_role member_search left f rest e inner (Ok Other) = refl
by_role member_search left f rest e inner (Ok (Anonymous id)) = run_search-append member_search left (inner id) (flat_map f rest)

abbrev pub Deeper : Type 0
Deeper = ℕ → ℕ → List Member → List ViewEntry

flat_step : (member_search : MemberSearch) (deeper : Deeper) (inside bits : ℕ) (m : Member) (ms : List Member) (left : ℕ)
    → run_search member_search (suc left) (flat_view member_search deeper inside bits (m ∷ ms))
    ≡ at_role member_search (member_search.role_of inside m) (view_entry inside bits m) left (λ id. deeper (inside + 1) (bits + m.bits) (member_search.members_of id)) (flat_view member_search deeper inside bits ms)
unfolding run_search
flat_step member_search deeper inside bits m ms left =
    by_role member_search left (λ x. view_entry inside bits x ∷ below (λ id. deeper (inside + 1) (bits + x.bits) (member_search.members_of id)) (member_search.role_of inside x)) (own member_search inside ms) (view_entry inside bits m) (λ id. deeper (inside + 1) (bits + m.bits) (member_search.members_of id)) (member_search.role_of inside m)

-- the view that is a level lower
abbrev pub lower : MemberSearch → ℕ → Deeper
lower member_search zero = empty_view
lower member_search (suc l) = view member_search l

view_step : (member_search : MemberSearch) (l inside bits : ℕ) (m : Member) (ms : List Member) (left : ℕ)
    → run_search member_search (suc left) (view member_search l inside bits (m ∷ ms))
    ≡ at_role member_search (member_search.role_of inside m) (view_entry inside bits m) left (λ id. lower member_search l (inside + 1) (bits + m.bits) (member_search.members_of id)) (view member_search l inside bits ms)
unfolding view
view_step member_search zero inside bits m ms left = flat_step member_search empty_view inside bits m ms left
view_step member_search (suc l) inside bits m ms left = flat_step member_search (view member_search l) inside bits m ms left

full_at : (member_search : MemberSearch) (l inside bits : ℕ) (m : Member) (ms : List Member) → run_search member_search zero (view member_search l inside bits (m ∷ ms)) ≡ Err NestingLevel
unfolding run_search view
full_at member_search zero inside bits m ms = refl
full_at member_search (suc l) inside bits m ms = refl

-- the members of a type from an index on
abbrev pub left_from : ℕ → BtfType → ℕ → List BtfMember → List Member
left_from id t i ms = members_from id t i (drop i ms)

-- a search that has come to a member of a type
module _ (member_search : MemberSearch) (parent : ℕ) (t : BtfType) (ms : List BtfMember) (l inside bits i left : ℕ) where
  pub arm : (n : ℕ) (x : BtfMember) (role : Result Role PlaceFault) → slice_get ms i ≡ Some x → left ≡ n + 1
      → member_search.role_of inside (indexed_member parent t (i, x)) ≡ role
      → run_search member_search left (view member_search l inside bits (left_from parent t i ms))
      ≡ at_role member_search role (view_entry inside bits (indexed_member parent t (i, x))) n
      (λ id. lower member_search l (inside + 1) (bits + (indexed_member parent t (i, x)).bits) (member_search.members_of id)) (view member_search l inside bits (left_from parent t (i + 1) ms))
  arm n x role here e is =
      let m : Member = indexed_member parent t (i, x) in
      let split : left_from parent t i ms ≡ m ∷ left_from parent t (i + 1) ms = rw (drop_some ms x i here) refl in
      rw (split, e, add-one n, ← is) (view_step member_search l inside bits m (left_from parent t (i + 1) ms) n)

  -- no entries are left, and there is one more
  pub full : (x : BtfMember) → slice_get ms i ≡ Some x → left ≡ 0 → run_search member_search left (view member_search l inside bits (left_from parent t i ms)) ≡ Err NestingLevel
  full x here e =
      let m : Member = indexed_member parent t (i, x) in
      let split : left_from parent t i ms ≡ m ∷ left_from parent t (i + 1) ms = rw (drop_some ms x i here) refl in
      rw (split, e) (full_at member_search l inside bits m (left_from parent t (i + 1) ms))

-- no members are left
pub none_left : (member_search : MemberSearch) (l inside bits left : ℕ) → run_search member_search left (view member_search l inside bits []) ≡ Ok (Absent left)
unfolding run_search view
none_left member_search zero inside bits left = refl
none_left member_search (suc l) inside bits left = refl

-- all members of a type are past
pub past : (member_search : MemberSearch) (parent : ℕ) (t : BtfType) (ms : List BtfMember) (l inside bits i left : ℕ)
    → length ms ≤ i → run_search member_search left (view member_search l inside bits (left_from parent t i ms)) ≡ Ok (Absent left)
past member_search parent t ms l inside bits i left le = rw (drop_all i ms le) (none_left member_search l inside bits left)

-- an anonymous member, in whose type the search came to this
pub entered : (member_search : MemberSearch) (parent : ℕ) (t : BtfType) (ms : List BtfMember) (inside bits i left n : ℕ) (x : BtfMember) (id b : ℕ) (vs : List Member) (r : Result Answer PlaceFault)
    → slice_get ms i ≡ Some x → left ≡ n + 1 → inside < 64 → member_search.role_of inside (indexed_member parent t (i, x)) ≡ Ok (Anonymous id)
    → vs ≡ member_search.members_of id → b ≡ bits + (indexed_member parent t (i, x)).bits
    → run_search member_search n (view member_search (64 - (inside + 1)) (inside + 1) b vs) ≡ r
    → run_search member_search left (view member_search (64 - inside) inside bits (left_from parent t i ms))
    ≡ after r (λ rest. run_search member_search rest (view member_search (64 - inside) inside bits (left_from parent t (i + 1) ms)))
entered member_search parent t ms inside bits i left n x id b vs r here e below_deepest is members bits_is inner =
    let level : 64 - inside ≡ suc (64 - (inside + 1)) = omega arith in
    rw level (arm member_search parent t ms (suc (64 - (inside + 1))) inside bits i left n x (Ok (Anonymous id)) here e is
    ∙ ap (λ (a : Result Answer PlaceFault). after a (λ rest. run_search member_search rest (view member_search (suc (64 - (inside + 1))) inside bits (left_from parent t (i + 1) ms)))) (rw (← bits_is, ← members) inner))

-- no members
pub none_in : (member_search : MemberSearch) (l inside bits left : ℕ) (ms : List Member) → ms ≡ [] → run_search member_search left (view member_search l inside bits ms) ≡ Ok (Absent left)
none_in member_search l inside bits left ms none = rw none (none_left member_search l inside bits left)

-- all members
pub all_left : (member_search : MemberSearch) (l inside bits left id : ℕ) (t : BtfType) (vs : List Member) (ms : List BtfMember) → vs ≡ members_from id t 0 ms
    → run_search member_search left (view member_search l inside bits vs) ≡ run_search member_search left (view member_search l inside bits (left_from id t 0 ms))
all_left member_search l inside bits left id t vs ms is = ap (λ (us : List Member). run_search member_search left (view member_search l inside bits us)) is

-- ---- the entries by their indices are those of the list

-- the view of a member and those after it, by the member's role
abbrev pub opened : Result Role PlaceFault → ViewEntry → (ℕ → List ViewEntry) → List ViewEntry → List ViewEntry
opened (Ok (Anonymous id)) e inner rest = e ∷ (inner id ++ rest)
opened (Ok Misfit) e inner rest = e ∷ []
opened (Ok Other) e inner rest = e ∷ rest
opened (Ok Fitting) e inner rest = e ∷ rest
opened (Err f) e inner rest = e ∷ rest

opened_role : (e : ViewEntry) (inner : ℕ → List ViewEntry) (f : Member → List ViewEntry) (rest : List Member) (role : Result Role PlaceFault)
    → e ∷ (below inner role ++ flat_map f (if is_misfit role then [] else rest)) ≡ opened role e inner (flat_map f rest)
opened_role e inner f rest (Ok (Anonymous id)) = refl
opened_role e inner f rest (Ok Misfit) = refl
opened_role e inner f rest (Ok Other) = refl
opened_role e inner f rest (Ok Fitting) = refl
opened_role e inner f rest (Err g) = refl

pub flat_cons : (member_search : MemberSearch) (deeper : Deeper) (inside bits : ℕ) (m : Member) (ms : List Member)
    → flat_view member_search deeper inside bits (m ∷ ms) ≡ opened (member_search.role_of inside m) (view_entry inside bits m) (λ id. deeper (inside + 1) (bits + m.bits) (member_search.members_of id)) (flat_view member_search deeper inside bits ms)
flat_cons member_search deeper inside bits m ms =
    opened_role (view_entry inside bits m) (λ id. deeper (inside + 1) (bits + m.bits) (member_search.members_of id)) (λ x. view_entry inside bits x ∷ below (λ id. deeper (inside + 1) (bits + x.bits) (member_search.members_of id)) (member_search.role_of inside x)) (own member_search inside ms) (member_search.role_of inside m)

-- what is anonymous lies inside fewer than so many
abbrev pub IsShallow : MemberSearch → ℕ → Type 0
IsShallow member_search deepest = (inside : ℕ) (m : Member) (id : ℕ) → member_search.role_of inside m ≡ Ok (Anonymous id) → inside < deepest

get_left : (xs ys : List ViewEntry) (k : ℕ) (e : ViewEntry) → slice_get xs k ≡ Some e → slice_get (xs ++ ys) k ≡ Some e
get_left [] ys k e h = cc
get_left (x ∷ xs) ys zero e h = h
get_left (x ∷ xs) ys (suc k) e h = get_left xs ys k e h

get_right : (xs ys : List ViewEntry) (k : ℕ) → slice_get (xs ++ ys) (length xs + k) ≡ slice_get ys k
get_right [] ys k = simp zero-add
get_right (x ∷ xs) ys k = rw (suc-add (length xs) k) (get_right xs ys k)

-- an entry of two lists is one of the first or of the second
get_either : (xs ys : List ViewEntry) (k : ℕ) (e : ViewEntry) → slice_get (xs ++ ys) k ≡ Some e → (slice_get xs k ≡ Some e) ⊎ ((j : ℕ) × (k ≡ length xs + j) × (slice_get ys j ≡ Some e))
get_either [] ys k e h = inr (k, sym (zero-add k), h)
get_either (x ∷ xs) ys zero e h = inl h
get_either (x ∷ xs) ys (suc k) e h = elim (get_either xs ys k e h) [
  | inl a ↦ inl a
  | inr b ↦ inr (b.0, omega arith, b.2)
]

module _ (member_search : MemberSearch) (deepest : ℕ) (shallow : IsShallow member_search deepest) where
  count_role : (inside : ℕ) (m : Member) (ms : List Member) (e : ViewEntry) (inner : ℕ → List ViewEntry) (rest : List ViewEntry) (role : Result Role PlaceFault) → member_search.role_of inside m ≡ role
      → ((id : ℕ) → role ≡ Ok (Anonymous id) → HasCount member_search (inside + 1) (member_search.members_of id) (length (inner id))) → HasCount member_search inside ms (length rest)
      → HasCount member_search inside (m ∷ ms) (length (opened role e inner rest))
  count_role inside m ms e inner rest (Ok (Anonymous id)) is lower more =
      subst (HasCount member_search inside (m ∷ ms)) (sym (ap suc (length-append (inner id) rest))) (Opened inside m ms id (length (inner id)) (length rest) is (lower id refl) more)
  count_role inside m ms e inner rest (Ok Misfit) is lower more = Ended inside m ms is
  count_role inside m ms e inner rest (Ok Other) is lower more = Plain inside m ms (length rest) (subst IsLeaf (sym is) tt) more
  count_role inside m ms e inner rest (Ok Fitting) is lower more = Plain inside m ms (length rest) (subst IsLeaf (sym is) tt) more
  count_role inside m ms e inner rest (Err f) is lower more = Plain inside m ms (length rest) (subst IsLeaf (sym is) tt) more

  count_flat : (deeper : Deeper) (inside bits : ℕ)
      → ((m : Member) (id : ℕ) → member_search.role_of inside m ≡ Ok (Anonymous id) → HasCount member_search (inside + 1) (member_search.members_of id) (length (deeper (inside + 1) (bits + m.bits) (member_search.members_of id))))
      → (ms : List Member) → HasCount member_search inside ms (length (flat_view member_search deeper inside bits ms))
  count_flat deeper inside bits lower [] = Empty inside
  count_flat deeper inside bits lower (m ∷ ms) =
      subst (λ (es : List ViewEntry). HasCount member_search inside (m ∷ ms) (length es)) (sym (flat_cons member_search deeper inside bits m ms))
      (count_role inside m ms (view_entry inside bits m) (λ id. deeper (inside + 1) (bits + m.bits) (member_search.members_of id)) (flat_view member_search deeper inside bits ms) (member_search.role_of inside m) refl (lower m) (count_flat deeper inside bits lower ms))

  pub counts : (l inside bits : ℕ) (ms : List Member) → deepest ≤ inside + l → HasCount member_search inside ms (length (view member_search l inside bits ms))
  unfolding view
  counts zero inside bits ms deep = count_flat empty_view inside bits (λ m id is. let below_deepest : inside < deepest = shallow inside m id is in absurd (omega arith)) ms
  counts (suc l) inside bits ms deep = count_flat (view member_search l) inside bits (λ m id is. counts l (inside + 1) (bits + m.bits) (member_search.members_of id) (omega arith)) ms

  entry_role : (inside bits : ℕ) (m : Member) (ms : List Member) (inner : ℕ → List ViewEntry) (rest : List ViewEntry) (role : Result Role PlaceFault) → member_search.role_of inside m ≡ role
      → ((id : ℕ) → role ≡ Ok (Anonymous id) → HasCount member_search (inside + 1) (member_search.members_of id) (length (inner id)))
      → ((id : ℕ) → role ≡ Ok (Anonymous id) → (k : ℕ) (e : ViewEntry) → slice_get (inner id) k ≡ Some e → IsEntry member_search (inside + 1) (bits + m.bits) (member_search.members_of id) k e)
      → ((k : ℕ) (e : ViewEntry) → slice_get rest k ≡ Some e → IsEntry member_search inside bits ms k e)
      → (k : ℕ) (e : ViewEntry) → slice_get (opened role (view_entry inside bits m) inner rest) k ≡ Some e → IsEntry member_search inside bits (m ∷ ms) k e
  entry_role inside bits m ms inner rest (Ok (Anonymous id)) is count lower more zero e h = let same : view_entry inside bits m ≡ e = cc in subst (IsEntry member_search inside bits (m ∷ ms) 0) same (Front inside bits m ms)
  entry_role inside bits m ms inner rest (Ok (Anonymous id)) is count lower more (suc k) e h = elim (get_either (inner id) rest k e h) [
    | inl a ↦ Within inside bits m ms id k e is (lower id refl k e a)
    | inr b ↦ subst (λ (n : ℕ). IsEntry member_search inside bits (m ∷ ms) (suc n) e) (sym b.1) (Behind inside bits m ms id (length (inner id)) b.0 e is (count id refl) (more b.0 e b.2))
  ]
  entry_role inside bits m ms inner rest (Ok Misfit) is count lower more zero e h = let same : view_entry inside bits m ≡ e = cc in subst (IsEntry member_search inside bits (m ∷ ms) 0) same (Front inside bits m ms)
  entry_role inside bits m ms inner rest (Ok Misfit) is count lower more (suc k) e h = cc
  entry_role inside bits m ms inner rest (Ok Other) is count lower more zero e h = let same : view_entry inside bits m ≡ e = cc in subst (IsEntry member_search inside bits (m ∷ ms) 0) same (Front inside bits m ms)
  entry_role inside bits m ms inner rest (Ok Other) is count lower more (suc k) e h = Next inside bits m ms k e (subst IsLeaf (sym is) tt) (more k e h)
  entry_role inside bits m ms inner rest (Ok Fitting) is count lower more zero e h = let same : view_entry inside bits m ≡ e = cc in subst (IsEntry member_search inside bits (m ∷ ms) 0) same (Front inside bits m ms)
  entry_role inside bits m ms inner rest (Ok Fitting) is count lower more (suc k) e h = Next inside bits m ms k e (subst IsLeaf (sym is) tt) (more k e h)
  entry_role inside bits m ms inner rest (Err f) is count lower more zero e h = let same : view_entry inside bits m ≡ e = cc in subst (IsEntry member_search inside bits (m ∷ ms) 0) same (Front inside bits m ms)
  entry_role inside bits m ms inner rest (Err f) is count lower more (suc k) e h = Next inside bits m ms k e (subst IsLeaf (sym is) tt) (more k e h)

  entry_flat : (deeper : Deeper) (inside bits : ℕ)
      → ((m : Member) (id : ℕ) → member_search.role_of inside m ≡ Ok (Anonymous id) → HasCount member_search (inside + 1) (member_search.members_of id) (length (deeper (inside + 1) (bits + m.bits) (member_search.members_of id))))
      → ((m : Member) (id : ℕ) → member_search.role_of inside m ≡ Ok (Anonymous id) → (k : ℕ) (e : ViewEntry) → slice_get (deeper (inside + 1) (bits + m.bits) (member_search.members_of id)) k ≡ Some e → IsEntry member_search (inside + 1) (bits + m.bits) (member_search.members_of id) k e)
      → (ms : List Member) (k : ℕ) (e : ViewEntry) → slice_get (flat_view member_search deeper inside bits ms) k ≡ Some e → IsEntry member_search inside bits ms k e
  entry_flat deeper inside bits count lower [] k e h = cc
  entry_flat deeper inside bits count lower (m ∷ ms) k e h =
      entry_role inside bits m ms (λ id. deeper (inside + 1) (bits + m.bits) (member_search.members_of id)) (flat_view member_search deeper inside bits ms) (member_search.role_of inside m) refl (count m) (lower m) (entry_flat deeper inside bits count lower ms) k e
      (subst (λ (es : List ViewEntry). slice_get es k ≡ Some e) (flat_cons member_search deeper inside bits m ms) h)

  -- what stands in the list is an entry
  pub is_entry : (l inside bits : ℕ) (ms : List Member) → deepest ≤ inside + l → (k : ℕ) (e : ViewEntry) → slice_get (view member_search l inside bits ms) k ≡ Some e → IsEntry member_search inside bits ms k e
  unfolding view
  is_entry zero inside bits ms deep = entry_flat empty_view inside bits (λ m id is. let below_deepest : inside < deepest = shallow inside m id is in absurd (omega arith)) (λ m id is. let below_deepest : inside < deepest = shallow inside m id is in absurd (omega arith)) ms
  is_entry (suc l) inside bits ms deep = entry_flat (view member_search l) inside bits (λ m id is. counts l (inside + 1) (bits + m.bits) (member_search.members_of id) (omega arith)) (λ m id is. is_entry l (inside + 1) (bits + m.bits) (member_search.members_of id) (omega arith)) ms

opened_plain : (role : Result Role PlaceFault) (e : ViewEntry) (inner : ℕ → List ViewEntry) (rest : List ViewEntry) → IsLeaf role → opened role e inner rest ≡ e ∷ rest
opened_plain (Ok (Anonymous id)) e inner rest h = absurd h
opened_plain (Ok Misfit) e inner rest h = absurd h
opened_plain (Ok Other) e inner rest h = refl
opened_plain (Ok Fitting) e inner rest h = refl
opened_plain (Err f) e inner rest h = refl

opened_front : (role : Result Role PlaceFault) (e : ViewEntry) (inner : ℕ → List ViewEntry) (rest : List ViewEntry) → slice_get (opened role e inner rest) 0 ≡ Some e
opened_front (Ok (Anonymous id)) e inner rest = refl
opened_front (Ok Misfit) e inner rest = refl
opened_front (Ok Other) e inner rest = refl
opened_front (Ok Fitting) e inner rest = refl
opened_front (Err f) e inner rest = refl

view_cons : (member_search : MemberSearch) (l inside bits : ℕ) (m : Member) (ms : List Member)
    → view member_search l inside bits (m ∷ ms) ≡ opened (member_search.role_of inside m) (view_entry inside bits m) (λ id. lower member_search l (inside + 1) (bits + m.bits) (member_search.members_of id)) (view member_search l inside bits ms)
unfolding view
view_cons member_search zero inside bits m ms = flat_cons member_search empty_view inside bits m ms
view_cons member_search (suc l) inside bits m ms = flat_cons member_search (view member_search l) inside bits m ms

view_none : (member_search : MemberSearch) (l inside bits : ℕ) → view member_search l inside bits [] ≡ []
unfolding view
view_none member_search zero inside bits = refl
view_none member_search (suc l) inside bits = refl

view_plain : (member_search : MemberSearch) (l inside bits : ℕ) (m : Member) (ms : List Member) → IsLeaf (member_search.role_of inside m)
    → view member_search l inside bits (m ∷ ms) ≡ view_entry inside bits m ∷ view member_search l inside bits ms
view_plain member_search l inside bits m ms h =
    view_cons member_search l inside bits m ms ∙ opened_plain (member_search.role_of inside m) (view_entry inside bits m) (λ id. lower member_search l (inside + 1) (bits + m.bits) (member_search.members_of id)) (view member_search l inside bits ms) h

view_by : (member_search : MemberSearch) (l inside bits : ℕ) (m : Member) (ms : List Member) (role : Result Role PlaceFault) → member_search.role_of inside m ≡ role
    → view member_search l inside bits (m ∷ ms) ≡ opened role (view_entry inside bits m) (λ id. lower member_search l (inside + 1) (bits + m.bits) (member_search.members_of id)) (view member_search l inside bits ms)
view_by member_search l inside bits m ms role is =
    view_cons member_search l inside bits m ms ∙ ap (λ (r : Result Role PlaceFault). opened r (view_entry inside bits m) (λ id. lower member_search l (inside + 1) (bits + m.bits) (member_search.members_of id)) (view member_search l inside bits ms)) is

module _ (member_search : MemberSearch) (deepest : ℕ) (shallow : IsShallow member_search deepest) where
  -- the number of entries
  counted : {inside : ℕ} {ms : List Member} {n : ℕ} → HasCount member_search inside ms n → (l bits : ℕ) → deepest ≤ inside + l → length (view member_search l inside bits ms) ≡ n
  counted (Empty inside) l bits deep = ap length (view_none member_search l inside bits)
  counted (Ended inside m ms is) l bits deep = ap length (view_by member_search l inside bits m ms (Ok Misfit) is)
  counted (Plain inside m ms n is more) l bits deep = ap length (view_plain member_search l inside bits m ms is) ∙ ap suc (counted more l bits deep)
  counted (Opened inside m ms id k n is in_it more) zero bits deep = let below_deepest : inside < deepest = shallow inside m id is in absurd (omega arith)
  counted (Opened inside m ms id k n is in_it more) (suc l) bits deep =
      ap length (view_by member_search (suc l) inside bits m ms (Ok (Anonymous id)) is)
      ∙ ap suc (length-append (view member_search l (inside + 1) (bits + m.bits) (member_search.members_of id)) (view member_search (suc l) inside bits ms)
      ∙ ap (λ (x : ℕ). x + length (view member_search (suc l) inside bits ms)) (counted in_it l (bits + m.bits) (omega arith))
      ∙ ap (λ (x : ℕ). k + x) (counted more (suc l) bits deep))

  -- an entry stands in the list
  pub stands : {inside bits : ℕ} {ms : List Member} {k : ℕ} {e : ViewEntry} → IsEntry member_search inside bits ms k e → (l : ℕ) → deepest ≤ inside + l → slice_get (view member_search l inside bits ms) k ≡ Some e
  stands (Front inside bits m ms) l deep =
      ap (λ (es : List ViewEntry). slice_get es 0) (view_cons member_search l inside bits m ms) ∙ opened_front (member_search.role_of inside m) (view_entry inside bits m) (λ id. lower member_search l (inside + 1) (bits + m.bits) (member_search.members_of id)) (view member_search l inside bits ms)
  stands (Next inside bits m ms k e is more) l deep = ap (λ (es : List ViewEntry). slice_get es (suc k)) (view_plain member_search l inside bits m ms is) ∙ stands more l deep
  stands (Within inside bits m ms id k e is in_it) zero deep = let below_deepest : inside < deepest = shallow inside m id is in absurd (omega arith)
  stands (Within inside bits m ms id k e is in_it) (suc l) deep =
      ap (λ (es : List ViewEntry). slice_get es (suc k)) (view_by member_search (suc l) inside bits m ms (Ok (Anonymous id)) is)
      ∙ get_left (view member_search l (inside + 1) (bits + m.bits) (member_search.members_of id)) (view member_search (suc l) inside bits ms) k e (stands in_it l (omega arith))
  stands (Behind inside bits m ms id n k e is in_it more) zero deep = let below_deepest : inside < deepest = shallow inside m id is in absurd (omega arith)
  stands (Behind inside bits m ms id n k e is in_it more) (suc l) deep =
      ap (λ (es : List ViewEntry). slice_get es (suc (n + k))) (view_by member_search (suc l) inside bits m ms (Ok (Anonymous id)) is)
      ∙ ap (λ (x : ℕ). slice_get (view member_search l (inside + 1) (bits + m.bits) (member_search.members_of id) ++ view member_search (suc l) inside bits ms) (x + k)) (sym (counted in_it l (bits + m.bits) (omega arith)))
      ∙ get_right (view member_search l (inside + 1) (bits + m.bits) (member_search.members_of id)) (view member_search (suc l) inside bits ms) k
      ∙ stands more (suc l) deep

-- ---- the members of a type, as they are read, and what is known of them

pub no_type : (types : List BtfType) (id : ℕ) → slice_get types id ≡ None → members_in types id ≡ []
unfolding members_in
no_type types id none = rw none refl

pub no_members : (types : List BtfType) (id : ℕ) (t : BtfType) → slice_get types id ≡ Some t → members_of t ≡ None → members_in types id ≡ []
unfolding members_in
no_members types id t is none = rw (is, none) refl

pub its_members : (types : List BtfType) (id : ℕ) (t : BtfType) (ms : List BtfMember) → slice_get types id ≡ Some t → members_of t ≡ Some ms
    → members_in types id ≡ members_from id t 0 ms
unfolding members_in
its_members types id t ms is some = rw (is, some) refl

module _ (local target : TypeInfo) (name : List ℕ) (local_type : ℕ) where
  pub known_members : (id : ℕ) → (member_search local target name local_type).members_of id ≡ members_in target.types id
  unfolding member_search
  known_members id = refl

  pub known_role : (inside : ℕ) (m : Member) → (member_search local target name local_type).role_of inside m ≡ role local target name local_type inside m.name m.type_id
  unfolding member_search
  known_role inside m = refl

-- ---- an anonymous member that leads on lies inside fewer than the limit

fits_leads : (fits : Result Bool BtfError) (id : ℕ) → if_read fits (λ b. Ok (if b then Fitting else Misfit)) ≡ Ok (Anonymous id) → ⊥
fits_leads (Ok true) id h = cc
fits_leads (Ok false) id h = cc
fits_leads (Err e) id h = cc

same_leads : (same : Bool) (fits : Result Bool BtfError) (id : ℕ)
    → (if same then if_read fits (λ b. Ok (if b then Fitting else Misfit)) else Ok Other) ≡ Ok (Anonymous id) → ⊥
same_leads true fits id h = fits_leads fits id h
same_leads false fits id h = cc

named_leads : (same : Result Bool BtfError) (fits : Result Bool BtfError) (id : ℕ)
    → if_read same (λ is. if is then if_read fits (λ b. Ok (if b then Fitting else Misfit)) else Ok Other) ≡ Ok (Anonymous id) → ⊥
named_leads (Ok same) fits id h = same_leads same fits id h
named_leads (Err e) fits id h = cc

by_tests : (anonymous deep : Bool) (type_id : Result ℕ BtfError) (named : Result Role PlaceFault) (id : ℕ) → (named ≡ Ok (Anonymous id) → ⊥)
    → (if anonymous then (if deep then if_read type_id (λ i. Ok (Anonymous i)) else Err NestingLevel) else named) ≡ Ok (Anonymous id) → deep ≡ true
by_tests true true type_id named id leads h = refl
by_tests true false type_id named id leads h = cc
by_tests false deep type_id named id leads h = absurd (leads h)

pub shallow : (local target : TypeInfo) (name : List ℕ) (local_type : ℕ) → IsShallow (member_search local target name local_type) anonymous_levels
unfolding member_search
shallow local target name local_type inside m id h =
    ltb-true inside anonymous_levels (by_tests (m.name == 0) (ltb inside anonymous_levels) (resolved target.types m.type_id) (named_role local target name local_type m.name m.type_id) id
    (named_leads (is_name_at target.strings m.name name) (fields_compatible local local_type target m.type_id) id) h)
