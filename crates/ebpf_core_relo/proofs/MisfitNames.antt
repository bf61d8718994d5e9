-- A name that a search finds no fitting member of stands in a type exactly where the search met a misfit.
use Rattle.std.proofs.Common.{◌≡◌, ℕ, zero, suc, ◌+◌, ◌<◌, Bool, true, false, ◌&&◌, ◌||◌, List, [], ◌∷◌, ◌++◌, Option, Some, None, Result, Ok, Err, refl, sym, ap, ◌∙◌, arith, slice_get, ◌-◌, ◌≤◌, length, drop, if◌then◌else◌}
use Rattle.std.specs.Prelude.{nat_lt, nat_eq, option_and_then, unwrap_or, ◌≢◌, slice_index_or}
use Rattle.std.specs.List.{flat_map, list_all, list_any}
use Rattle.std.specs.Option.{option_map_or}
use Rattle.std.specs.Result.{result_ok}
use Rattle.std.specs.Str.{bytes_eq}
use Rattle.std.proofs.lemmas.Bool.{ltb-true, and_parts, eq-eqb, ne_eqb}
use Rattle.std.proofs.lemmas.List.Folds.{list_all-append, list_any-append}
use Rattle.ebpf_btf.specs.Steps.{resolved, type_at}
use Rattle.ebpf_base.specs.Faults.{if_ok}
use Rattle.ebpf_btf.specs.Next.{if_some}
use Rattle.ebpf_btf.specs.Strings.{is_text, text_at}
use Rattle.ebpf_btf.specs.TypeInfo.{TypeInfo}
use Rattle.ebpf_btf.specs.Types.{members_of}
use Rattle.ebpf_btf.specs.declared.error.BtfError.{BtfError}
use Rattle.ebpf_btf.specs.declared.error.BtfError.TheVariants.{UnknownBtfType}
use Rattle.ebpf_btf.specs.declared.members.BtfMember.{BtfMember}
use Rattle.ebpf_btf.specs.declared.types.BtfType.{BtfType}
use Rattle.ebpf_core_candidates.specs.Compatibility.{fields_compatible}
use Rattle.ebpf_core.proofs.Members.{known_members, known_role}
use Rattle.ebpf_core.specs.Members.{MemberSearch, Member, if_read, member_search, indexed_member, members_from, members_in, named_role, role, anonymous_levels, anonymous_role, ViewEntry, below as under, view_entry, flat_view, is_misfit, empty_view, own, view, answer_member, or_on, run_search, search_entries, first_fitting, stop_by}
use Rattle.ebpf_core.specs.declared.places.PlaceFault.{PlaceFault}
use Rattle.ebpf_core.specs.declared.places.PlaceFault.TheVariants.{NestingLevel}
use Rattle.ebpf_core.specs.declared.member_search.Role.{Role}
use Rattle.ebpf_core.specs.declared.member_search.Role.TheVariants.{Anonymous, Other, Fitting, Misfit}
use Rattle.ebpf_core.specs.declared.member_search.Answer.{Answer}
use Rattle.ebpf_core.specs.declared.member_search.Answer.TheVariants.{Found, Absent}
use Rattle.ebpf_core_relo.specs.Absences.{NamesAreMisfits, has_member, is_or_has, members_of_id}
use Rattle.std.proofs.lemmas.List.{drop_all, drop_more}

module _ (target : TypeInfo) (name : List ℕ) where
  -- what an anonymous member is told by, so many levels above the last
  abbrev pub below : ℕ → ℕ → Bool
  below zero id = false
  below (suc levels) id = has_member target name levels (members_of_id target id)

  pub has_any : (levels : ℕ) (ms : List BtfMember) → has_member target name levels ms ≡ list_any (is_or_has target name (below levels)) ms
  unfolding has_member
  has_any zero ms = refl
  has_any (suc levels) ms = refl

  one_more : (levels : ℕ) (m : BtfMember) (ms : List BtfMember) (b : Bool) → is_or_has target name (below levels) m ≡ b
      → has_member target name levels (m ∷ ms) ≡ (b || has_member target name levels ms)
  one_more levels m ms b is =
      has_any levels (m ∷ ms)
      ∙ ap (λ test. test || list_any (is_or_has target name (below levels)) ms) is
      ∙ ap (λ rest. b || rest) (sym (has_any levels ms))

  module _ (levels : ℕ) (ms : List BtfMember) (i : ℕ) (m : BtfMember) (inside : i < length ms) (here : m ≡ slice_index_or ms i m) where
    told_at : (b : Bool) → is_or_has target name (below levels) m ≡ b → has_member target name levels (drop i ms) ≡ (b || has_member target name levels (drop (i + 1) ms))
    told_at b is =
        ap (has_member target name levels) (drop_more ms i m inside ∙ ap (λ x. x ∷ drop (i + 1) ms) (sym here)) ∙ one_more levels m (drop (i + 1) ms) b is

    -- a member with a name
    named : m.name_offset ≢ 0 → (b : Bool) → b ≡ is_text name (text_at target.strings m.name_offset) → is_or_has target name (below levels) m ≡ b
    named some b is =
        ap (λ test. if test then below levels m.btf_type else is_text name (text_at target.strings m.name_offset)) (ne_eqb m.name_offset 0 some) ∙ sym is

    -- one without
    unnamed : m.name_offset ≡ 0 → is_or_has target name (below levels) m ≡ below levels m.btf_type
    unnamed none =
        ap (λ test. if test then below levels m.btf_type else is_text name (text_at target.strings m.name_offset)) (eq-eqb m.name_offset 0 none)

    below_is : (n : ℕ) (id : ℕ) → n ≢ 0 → below n id ≡ has_member target name (n - 1) (members_of_id target id)
    below_is zero id some = absurd (some refl)
    below_is (suc n) id some = let on : n ≡ suc n - 1 = omega arith in ap (λ k. has_member target name k (members_of_id target id)) on

    nothing_below : (n : ℕ) (id : ℕ) → n ≡ 0 → below n id ≡ false
    nothing_below n id none = ap (λ k. below k id) none

    pub has_name : m.name_offset ≢ 0 → (b : Bool) → b ≡ is_text name (text_at target.strings m.name_offset)
        → has_member target name levels (drop i ms) ≡ (b || has_member target name levels (drop (i + 1) ms))
    has_name some b is = told_at b (named some b is)

    pub has_none : m.name_offset ≡ 0 → levels ≡ 0 → has_member target name levels (drop i ms) ≡ has_member target name levels (drop (i + 1) ms)
    has_none none last = told_at false (unnamed none ∙ nothing_below levels m.btf_type last)

    pub has_inside : m.name_offset ≡ 0 → levels ≢ 0 → (b : Bool) → b ≡ has_member target name (levels - 1) (members_of_id target m.btf_type)
        → has_member target name levels (drop i ms) ≡ (b || has_member target name levels (drop (i + 1) ms))
    has_inside none some b is = told_at b (unnamed none ∙ below_is levels m.btf_type some ∙ sym is)

  -- at the end
  pub none_left : (levels : ℕ) (ms : List BtfMember) (i : ℕ) → length ms ≤ i → has_member target name levels (drop i ms) ≡ false
  none_left levels ms i past = ap (has_member target name levels) (drop_all i ms past) ∙ has_any levels []

-- ---- a search that stops nowhere

abbrev quiet : Result Role PlaceFault → Bool
quiet (Ok (Anonymous id)) = true
quiet (Ok Other) = true
quiet (Ok Misfit) = true
quiet (Ok Fitting) = false
quiet (Err fault) = false

module _ (K : MemberSearch) where
  abbrev at : ViewEntry → Result Role PlaceFault
  at e = K.role_of e.inside e.member

  abbrev are_quiet : List ViewEntry → Bool
  are_quiet es = list_all (λ e. quiet (at e)) es

  abbrev any_misfit : List ViewEntry → Bool
  any_misfit es = list_any (λ e. is_misfit (at e)) es

  stops_nowhere : (es : List ViewEntry) (limit left : ℕ) → run_search K limit es ≡ Ok (Absent left) → are_quiet es ≡ true
  unfolding run_search
  stops_nowhere [] limit left e = refl
  stops_nowhere (x ∷ es) zero left e = cc
  stops_nowhere (x ∷ es) (suc limit) left e = by_role (at x) (stops_nowhere es limit left) e
    where
      by_role : (r : Result Role PlaceFault) → (run_search K limit es ≡ Ok (Absent left) → are_quiet es ≡ true) → or_on (stop_by r x) (run_search K limit es) ≡ Ok (Absent left)
          → (quiet r && are_quiet es) ≡ true
      by_role (Ok (Anonymous id)) more e = more e
      by_role (Ok Other) more e = more e
      by_role (Ok Misfit) more e = more e
      by_role (Ok Fitting) more e = cc
      by_role (Err fault) more e = cc

  found_nothing : (limit : ℕ) (ms : List Member) → first_fitting K limit ms ≡ Ok None → are_quiet (view K anonymous_levels 0 0 ms) ≡ true
  unfolding first_fitting
  found_nothing limit ms e = by_answer (run_search K limit (view K anonymous_levels 0 0 ms)) refl e
    where
      by_answer : (r : Result Answer PlaceFault) → run_search K limit (view K anonymous_levels 0 0 ms) ≡ r → answer_member r ≡ Ok None → are_quiet (view K anonymous_levels 0 0 ms) ≡ true
      by_answer (Ok (Found m)) is e = cc
      by_answer (Ok (Absent left)) is e = stops_nowhere (view K anonymous_levels 0 0 ms) limit left is
      by_answer (Err fault) is e = cc

-- ---- what a member is

module _ (local target : TypeInfo) (name : List ℕ) (local_type : ℕ) where
  abbrev K : MemberSearch
  K = member_search local target name local_type

  abbrev what : ℕ → BtfMember → Result Role PlaceFault
  what inside m = role local target name local_type inside m.name_offset m.btf_type

  data RoleIs (inside : ℕ) (m : BtfMember) : Type 0 where
    IsUnnamed : (id : ℕ) → nat_eq m.name_offset 0 ≡ true → inside < anonymous_levels → resolved target.types m.btf_type ≡ Ok id → what inside m ≡ Ok (Anonymous id) → RoleIs inside m
    IsOther : nat_eq m.name_offset 0 ≡ false → is_text name (text_at target.strings m.name_offset) ≡ false → what inside m ≡ Ok Other → RoleIs inside m
    IsMisfit : nat_eq m.name_offset 0 ≡ false → is_text name (text_at target.strings m.name_offset) ≡ true → what inside m ≡ Ok Misfit → RoleIs inside m

  module _ (inside : ℕ) (m : BtfMember) where
    abbrev by_name : Bool → Result Role PlaceFault
    by_name none = if none then anonymous_role target inside m.btf_type else named_role local target name local_type m.name_offset m.btf_type

    abbrev by_depth : Bool → Result Role PlaceFault
    by_depth shallow = if shallow then if_read (resolved target.types m.btf_type) (λ id. Ok (Anonymous id)) else Err NestingLevel

    abbrev by_type : Result ℕ BtfError → Result Role PlaceFault
    by_type r = if_read r (λ id. Ok (Anonymous id))

    abbrev by_fit : Result Bool BtfError → Result Role PlaceFault
    by_fit fits = if_read fits (λ fit. Ok (if fit then Fitting else Misfit))

    abbrev by_same : Bool → Result Role PlaceFault
    by_same same = if same then by_fit (fields_compatible local local_type target m.btf_type) else Ok Other

    abbrev by_text : Result (List ℕ) BtfError → Result Role PlaceFault
    by_text t = if_read (if_ok t (λ read. Ok (bytes_eq read name))) by_same

    quiet_role : quiet (what inside m) ≡ true → RoleIs inside m
    quiet_role calm = named (nat_eq m.name_offset 0) refl calm
      where
        at_type : nat_eq m.name_offset 0 ≡ true → nat_lt inside anonymous_levels ≡ true → (r : Result ℕ BtfError) → resolved target.types m.btf_type ≡ r → quiet (by_type r) ≡ true → RoleIs inside m
        at_type none shallow (Ok id) is calm = IsUnnamed id none (ltb-true inside anonymous_levels shallow) is (ap by_name none ∙ ap by_depth shallow ∙ ap by_type is)
        at_type none shallow (Err e) is calm = cc

        at_depth : nat_eq m.name_offset 0 ≡ true → (b : Bool) → nat_lt inside anonymous_levels ≡ b → quiet (by_depth b) ≡ true → RoleIs inside m
        at_depth none true shallow calm = at_type none shallow (resolved target.types m.btf_type) refl calm
        at_depth none false deep calm = cc

        at_fit : nat_eq m.name_offset 0 ≡ false → (read : List ℕ) → text_at target.strings m.name_offset ≡ Ok read → bytes_eq read name ≡ true → (fits : Result Bool BtfError)
            → fields_compatible local local_type target m.btf_type ≡ fits → quiet (by_fit fits) ≡ true → RoleIs inside m
        at_fit some read is same (Ok true) fits calm = cc
        at_fit some read is same (Ok false) fits calm =
            IsMisfit some (ap (is_text name) is ∙ same) (ap by_name some ∙ ap by_text is ∙ ap by_same same ∙ ap by_fit fits)
        at_fit some read is same (Err e) fits calm = cc

        at_same : nat_eq m.name_offset 0 ≡ false → (read : List ℕ) → text_at target.strings m.name_offset ≡ Ok read → (b : Bool) → bytes_eq read name ≡ b → quiet (by_same b) ≡ true → RoleIs inside m
        at_same some read is true same calm = at_fit some read is same (fields_compatible local local_type target m.btf_type) refl calm
        at_same some read is false other calm = IsOther some (ap (is_text name) is ∙ other) (ap by_name some ∙ ap by_text is ∙ ap by_same other)

        at_text : nat_eq m.name_offset 0 ≡ false → (t : Result (List ℕ) BtfError) → text_at target.strings m.name_offset ≡ t → quiet (by_text t) ≡ true → RoleIs inside m
        at_text some (Ok read) is calm = at_same some read is (bytes_eq read name) refl calm
        at_text some (Err e) is calm = cc

        named : (b : Bool) → nat_eq m.name_offset 0 ≡ b → quiet (by_name b) ≡ true → RoleIs inside m
        named true none calm = at_depth none (nat_lt inside anonymous_levels) refl calm
        named false some calm = at_text some (text_at target.strings m.name_offset) refl calm

  -- ---- the members of a type's own list

  -- what lies under an anonymous member that leads to a type
  abbrev AreToldUnder : ℕ → (ℕ → ℕ → List Member → List ViewEntry) → ℕ → Type 0
  AreToldUnder levels deeper inside =
      (type_id id bits : ℕ) → inside < anonymous_levels → resolved target.types type_id ≡ Ok id → are_quiet K (deeper (inside + 1) bits (K.members_of id)) ≡ true
      → any_misfit K (deeper (inside + 1) bits (K.members_of id)) ≡ below target name levels type_id

  module _ (levels : ℕ) (deeper : ℕ → ℕ → List Member → List ViewEntry) (inside bits : ℕ) (told : AreToldUnder levels deeper inside) (id : ℕ) (t : BtfType) where
    abbrev follow : Member → List ViewEntry
    follow m = view_entry inside bits m ∷ under (λ n. deeper (inside + 1) (bits + m.bits) (K.members_of n)) (K.role_of inside m)

    abbrev rest : Member → List Member → Result Role PlaceFault → List ViewEntry
    rest m ms r = under (λ n. deeper (inside + 1) (bits + m.bits) (K.members_of n)) r ++ flat_map follow (if is_misfit r then [] else own K inside ms)

    abbrev misfits : Member → List Member → Result Role PlaceFault → Bool
    misfits m ms r = is_misfit r || any_misfit K (rest m ms r)

    abbrev calm_by : Member → List Member → Result Role PlaceFault → Bool
    calm_by m ms r = quiet r && are_quiet K (rest m ms r)

    abbrev tells : BtfMember → Bool
    tells m = is_or_has target name (below target name levels) m

    -- with a name, and without
    tells_name : (m : BtfMember) → nat_eq m.name_offset 0 ≡ false → (b : Bool) → is_text name (text_at target.strings m.name_offset) ≡ b → tells m ≡ b
    tells_name m some b is = ap (λ test. if test then below target name levels m.btf_type else is_text name (text_at target.strings m.name_offset)) some ∙ is

    tells_under : (m : BtfMember) → nat_eq m.name_offset 0 ≡ true → tells m ≡ below target name levels m.btf_type
    tells_under m none = ap (λ test. if test then below target name levels m.btf_type else is_text name (text_at target.strings m.name_offset)) none

    one_told : (first : Member) (ms : List Member) (m : BtfMember) (bms : List BtfMember) → K.role_of inside first ≡ what inside m → RoleIs inside m
        → calm_by first ms (K.role_of inside first) ≡ true
        → (are_quiet K (flat_view K deeper inside bits ms) ≡ true → any_misfit K (flat_view K deeper inside bits ms) ≡ list_any tells bms)
        → misfits first ms (K.role_of inside first) ≡ (tells m || list_any tells bms)
    one_told first ms m bms same (IsMisfit some there is) calm later =
        ap (misfits first ms) (same ∙ is) ∙ sym (ap (λ b. b || list_any tells bms) (tells_name m some true there))
    one_told first ms m bms same (IsOther some other is) calm later =
        ap (misfits first ms) (same ∙ is)
        ∙ later (sym (ap (calm_by first ms) (same ∙ is)) ∙ calm)
        ∙ sym (ap (λ b. b || list_any tells bms) (tells_name m some false other))
    one_told first ms m bms same (IsUnnamed n none shallow leads is) calm later =
        let inner : List ViewEntry = deeper (inside + 1) (bits + first.bits) (K.members_of n) in
        let outer : List ViewEntry = flat_view K deeper inside bits ms in
        let all : are_quiet K (inner ++ outer) ≡ true = sym (ap (calm_by first ms) (same ∙ is)) ∙ calm in
        let parts = and_parts (are_quiet K inner) (are_quiet K outer) (sym (list_all-append (λ e. quiet (at K e)) inner outer) ∙ all) in
        ap (misfits first ms) (same ∙ is)
        ∙ list_any-append (λ e. is_misfit (at K e)) inner outer
        ∙ ap (λ b. b || any_misfit K outer) (told m.btf_type n (bits + first.bits) shallow leads parts.0)
        ∙ ap (λ b. below target name levels m.btf_type || b) (later parts.1)
        ∙ sym (ap (λ b. b || list_any tells bms) (tells_under m none))

    own_told : (number : ℕ) (bms : List BtfMember) → are_quiet K (flat_view K deeper inside bits (members_from id t number bms)) ≡ true
        → any_misfit K (flat_view K deeper inside bits (members_from id t number bms)) ≡ list_any tells bms
    own_told number [] calm = refl
    own_told number (m ∷ bms) calm =
        let first : Member = indexed_member id t (number, m) in
        let ms : List Member = members_from id t (number + 1) bms in
        let same : K.role_of inside first ≡ what inside m = known_role local target name local_type inside first in
        let here = and_parts (quiet (K.role_of inside first)) (are_quiet K (rest first ms (K.role_of inside first))) calm in
        one_told first ms m bms same (quiet_role inside m (sym (ap quiet same) ∙ here.0)) calm (own_told (number + 1) bms)

  -- ---- the view of a type

  none_told : (levels inside bits : ℕ) → any_misfit K (view K levels inside bits []) ≡ false
  unfolding view
  none_told zero inside bits = refl
  none_told (suc levels) inside bits = refl

  module _ (type_id id : ℕ) (leads : resolved target.types type_id ≡ Ok id) where
    abbrev spans_or_none : BtfType → List BtfMember
    spans_or_none t = unwrap_or (members_of t) []

    in_is : (o : Option BtfType) → slice_get target.types id ≡ o → members_in target.types id ≡ option_map_or (λ t. members_from id t 0 (spans_or_none t)) o []
    unfolding members_in
    in_is o there = ap (λ p. option_map_or (λ t. members_from id t 0 (spans_or_none t)) p []) there

    at_is : (o : Option BtfType) → slice_get target.types id ≡ o
        → members_of_id target type_id ≡ unwrap_or (option_and_then members_of (result_ok (if_some o (λ t. Ok t) (Err (UnknownBtfType id))))) []
    at_is o there =
        ap (λ r. unwrap_or (option_and_then members_of (result_ok (if_ok r (type_at target.types)))) []) leads
        ∙ ap (λ p. unwrap_or (option_and_then members_of (result_ok (if_some p (λ t. Ok t) (Err (UnknownBtfType id))))) []) there

    -- the members of a type, where those of each list are told
    members_told : (levels inside bits : ℕ)
        → ((t : BtfType) (bms : List BtfMember) → are_quiet K (view K levels inside bits (members_from id t 0 bms)) ≡ true
        → any_misfit K (view K levels inside bits (members_from id t 0 bms)) ≡ has_member target name levels bms)
        → are_quiet K (view K levels inside bits (members_in target.types id)) ≡ true
        → any_misfit K (view K levels inside bits (members_in target.types id)) ≡ has_member target name levels (members_of_id target type_id)
    members_told levels inside bits lists calm = by_type (slice_get target.types id) refl
      where
        by_type : (o : Option BtfType) → slice_get target.types id ≡ o
            → any_misfit K (view K levels inside bits (members_in target.types id)) ≡ has_member target name levels (members_of_id target type_id)
        by_type None there =
            ap (λ ms. any_misfit K (view K levels inside bits ms)) (in_is None there)
            ∙ none_told levels inside bits
            ∙ sym (ap (has_member target name levels) (at_is None there) ∙ has_any target name levels [])
        by_type (Some t) there =
            ap (λ ms. any_misfit K (view K levels inside bits ms)) (in_is (Some t) there)
            ∙ lists t (spans_or_none t) (sym (ap (λ ms. are_quiet K (view K levels inside bits ms)) (in_is (Some t) there)) ∙ calm)
            ∙ sym (ap (has_member target name levels) (at_is (Some t) there))

  list_told : (levels inside bits id number : ℕ) (t : BtfType) (bms : List BtfMember) → levels + inside ≡ anonymous_levels
      → are_quiet K (view K levels inside bits (members_from id t number bms)) ≡ true
      → any_misfit K (view K levels inside bits (members_from id t number bms)) ≡ has_member target name levels bms
  unfolding view
  list_told zero inside bits id number t bms depth calm =
      own_told zero empty_view inside bits (λ type_id n more shallow leads c. absurd (omega arith)) id t number bms calm ∙ sym (has_any target name zero bms)
  list_told (suc levels) inside bits id number t bms depth calm =
      own_told (suc levels) (view K levels) inside bits
      (λ type_id n more shallow leads c.
      ap (λ ms. any_misfit K (view K levels (inside + 1) more ms)) (known_members local target name local_type n)
      ∙ members_told type_id n leads levels (inside + 1) more (λ u others d. list_told levels (inside + 1) more n 0 u others (omega arith) d)
      (sym (ap (λ ms. are_quiet K (view K levels (inside + 1) more ms)) (known_members local target name local_type n)) ∙ c))
      id t number bms calm
      ∙ sym (has_any target name (suc levels) bms)

pub names_are_misfits : NamesAreMisfits
names_are_misfits local target name local_type type_id id leads nothing_fits =
    sym (members_told local target name local_type type_id id leads anonymous_levels 0 0
    (λ t bms calm. list_told local target name local_type anonymous_levels 0 0 id 0 t bms (omega arith) calm)
    (found_nothing (member_search local target name local_type) search_entries (members_in target.types id) nothing_fits))
