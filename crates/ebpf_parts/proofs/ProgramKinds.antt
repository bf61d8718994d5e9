-- One step of a walk over rows, and what holds of the row that a name gets.
use denote.Enum.Bare.{sameb, same_true}
use Rattle.std.proofs.Common.{◌≡◌, ℕ, ◌+◌, ◌<◌, ◌≤◌, Bool, true, false, List, [], ◌∷◌, length, drop, filter, refl, ap, ◌∙◌, ◌⊎◌, inl, inr, option_map, arith, suc, not, ◌&&◌, ◌++◌}
use Rattle.std.specs.Prelude.{Option, Some, None, IfSome, if◌then◌else◌, nat_le, slice_index_or, ◌==◌, nat_eq, slice_index}
use Rattle.std.specs.List.{fold, AllByRecursion, list_all, list_any, position_or_len, starts_with, flat_map}
use Rattle.std.proofs.lemmas.Bool.{eqb-true, and_parts, both_ways, cases_Bool, not-true, or_cases, or_parts}
use Rattle.std.specs.Str.{bytes_eq}
use Rattle.std.proofs.lemmas.Slice.Eq.{bytes_eq-Decides}
use Rattle.ebpf_base.proofs.Lists.{rest_more, rest_none, lists_more}
use Rattle.ebpf_base.specs.Faults.{or_else}
use Rattle.ebpf_elf.specs.Relocations.{table_entries}
use Rattle.ebpf_elf.specs.Sections.{SectionOf}
use Rattle.ebpf_elf.specs.declared.relocation.ElfRelocation.{ElfRelocation}
use Rattle.ebpf_parts.specs.contracts.programs.program_type.bpf_prog_type.{the_type}
use Rattle.ebpf_parts.specs.ProgramTypes.{name_fits, longer, longest_fit, row_name, TypesAgree, has_target, is_marked, program_kind, section_type, program_section, first_piece, second_piece, one_piece, two_pieces, piece_sections, pair_sections, xdp_sections, sk_skb_sections, sk_reuseport_sections, cgroup_skb_sections, cgroup_sections, socket_events, address_calls}
use Rattle.ebpf_parts.specs.Sections.{target_fault}
use Rattle.ebpf_parts.specs.declared.program_section.ProgramSection.{ProgramSection}
use Rattle.ebpf_parts.specs.declared.programs.kind.NamedKind.{NamedKind}
use Rattle.ebpf_parts.specs.declared.programs.kind.ProgramKind.{ProgramKind}
use Rattle.ebpf_parts.specs.declared.programs.kind.TheConstants.{NAMED_KINDS}
use Rattle.ebpf_parts.specs.declared.programs.program_type.bpf_prog_type.{bpf_prog_type}

-- a row that fits
pub row_fits : (name : List ℕ) (found : Option NamedKind) (rows : List NamedKind) (i : ℕ) (row : NamedKind)
    → i < length rows → row ≡ slice_index_or rows i row → name_fits name row ≡ true
    → fold longer found (filter (name_fits name) (drop i rows)) ≡ fold longer (longer found row) (filter (name_fits name) (drop (i + 1) rows))
row_fits name found rows i row below here fit =
    ap (λ rs. fold longer found (filter (name_fits name) rs)) (rest_more rows i row below here)
    ∙ ap (λ b. fold longer found (if b then row ∷ filter (name_fits name) (drop (i + 1) rows) else filter (name_fits name) (drop (i + 1) rows))) fit

-- a row that does not
pub row_passed : (name : List ℕ) (found : Option NamedKind) (rows : List NamedKind) (i : ℕ) (row : NamedKind)
    → i < length rows → row ≡ slice_index_or rows i row → name_fits name row ≡ false
    → fold longer found (filter (name_fits name) (drop i rows)) ≡ fold longer found (filter (name_fits name) (drop (i + 1) rows))
row_passed name found rows i row below here misfit =
    ap (λ rs. fold longer found (filter (name_fits name) rs)) (rest_more rows i row below here)
    ∙ ap (λ b. fold longer found (if b then row ∷ filter (name_fits name) (drop (i + 1) rows) else filter (name_fits name) (drop (i + 1) rows))) misfit

-- at the end
pub rows_seen : (name : List ℕ) (found : Option NamedKind) (rows : List NamedKind) (i : ℕ) → length rows ≤ i
    → fold longer found (filter (name_fits name) (drop i rows)) ≡ found
rows_seen name found rows i past = ap (λ rs. fold longer found (filter (name_fits name) rs)) (rest_none rows i past)

module _ (Q : NamedKind → Type 0) (name : List ℕ) where
  -- of two rows that Q holds of one is found
  one_of : (found : Option NamedKind) (row : NamedKind) → IfSome found Q → Q row → IfSome (longer found row) Q
  one_of None row q here = here
  one_of (Some other) row q here = by_length (nat_le (length (row_name row)) (length (row_name other)))
    where
      by_length : (b : Bool) → IfSome (if b then Some other else Some row) Q
      by_length true = q
      by_length false = here

  -- what holds of each row that fits holds of the one that is found
  pub of_found : (found : Option NamedKind) (rows : List NamedKind) → IfSome found Q
      → AllByRecursion (λ row. name_fits name row ≡ true → Q row) rows → IfSome (fold longer found (filter (name_fits name) rows)) Q
  of_found found [] q all = q
  of_found found (row ∷ rows) q all =
      by_fit (name_fits name row) refl (λ (next : Option NamedKind) (h : IfSome next Q). of_found next rows h all.1)
    where
      by_fit : (b : Bool) → name_fits name row ≡ b
          → ((next : Option NamedKind) → IfSome next Q → IfSome (fold longer next (filter (name_fits name) rows)) Q)
          → IfSome (fold longer found (if b then row ∷ filter (name_fits name) rows else filter (name_fits name) rows)) Q
      by_fit true e rest = rest (longer found row) (one_of found row q (all.0 e))
      by_fit false e rest = rest found q

  pub of_longest : (rows : List NamedKind) → AllByRecursion (λ row. name_fits name row ≡ true → Q row) rows → IfSome (longest_fit name rows) Q
  unfolding longest_fit
  of_longest rows all = of_found None rows tt all

-- ---- names that both tables have are of one type: the rows are looked at one after the other, each with the pieces that the
-- names which fit it have

-- whether a type is that of a section, where there is one
type_of : bpf_prog_type → Option bpf_prog_type → Bool
type_of t None = false
type_of t (Some s) = sameb the_type s t

typed : bpf_prog_type → Option ProgramSection → Bool
typed t None = true
typed t (Some section) = type_of t (section_type section)

-- what the pieces of a name say
abbrev pieces : List ℕ → Option (List ℕ) → Option ProgramSection
pieces first second = or_else (one_piece first) (two_pieces first second)

abbrev length_before : List ℕ → ℕ
length_before name = position_or_len (λ b. b == 47) name

abbrev pub has_slash : List ℕ → Bool
has_slash name = list_any (λ b. b == 47) name

-- a row alone: its own name, or its own as the first piece of a name
agrees : Option (List ℕ) → NamedKind → Bool
agrees second row =
    if row.takes_target then not (has_slash (row_name row)) && typed row.kind.program_type (pieces (row_name row) second)
    else typed row.kind.program_type (program_section (row_name row))

all_agree : (second : Option (List ℕ)) → list_all (agrees second) NAMED_KINDS ≡ true
unfolding agrees typed type_of piece_sections pair_sections xdp_sections sk_skb_sections sk_reuseport_sections cgroup_skb_sections cgroup_sections socket_events address_calls
all_agree second = refl

-- ---- the first piece of a name that a row fits

-- a name without a slash is one piece
pub own_piece : (own : List ℕ) → has_slash own ≡ false → first_piece own ≡ own
own_piece [] none = refl
own_piece (b ∷ own) none =
    let parts = or_parts (b == 47) (has_slash own) none in
    let on : 1 + length_before own ≡ suc (length_before own) = omega arith in
    rw (parts.0, on) (ap (λ rest. b ∷ rest) (own_piece own parts.1))

-- a name that goes on with a slash behind another has that as its first piece
pub target_piece : (name own : List ℕ) → has_slash own ≡ false → starts_with nat_eq name own ≡ true
    → slice_index name (length own) ≡ 47 → first_piece name ≡ own
target_piece [] [] none begins slash = absurd (omega arith)
target_piece (b ∷ name) [] none begins slash = rw slash refl
target_piece [] (o ∷ own) none begins slash = absurd (cc)
target_piece (b ∷ name) (o ∷ own) none begins slash =
    let same = and_parts (nat_eq o b) _ begins in
    let parts = or_parts (o == 47) (has_slash own) none in
    let is : o ≡ b = eqb-true o b same.0 in
    let on : 1 + length_before name ≡ suc (length_before name) = omega arith in
    rw (← is, parts.0, on) (ap (λ rest. o ∷ rest) (target_piece name own parts.1 same.1 slash))

-- ---- one row

-- where a check of all pieces passed, a name that the row fits is of its type
row_agrees : (name : List ℕ) (row : NamedKind) → ((second : Option (List ℕ)) → agrees second row ≡ true) → name_fits name row ≡ true
    → typed row.kind.program_type (program_section name) ≡ true
unfolding agrees
row_agrees name row checked fit = elim (cases_Bool row.takes_target) [
  | inl takes ↦
      let check : (second : Option (List ℕ))
      → (not (has_slash (row_name row)) && typed row.kind.program_type (pieces (row_name row) second)) ≡ true
      = λ second. rw takes at (checked second) in
      let none = not-true (has_slash (row_name row)) (and_parts _ _ (check None)).0 in
      of_pieces (first_of_fit none (or_cases _ _ fit)) (and_parts _ _ (check (second_piece name))).1
  | inr exact ↦
      elim (or_cases (bytes_eq name (row_name row)) _ fit) [
        | inl same ↦ rw ((bytes_eq-Decides name (row_name row)).0 same) (rw exact at (checked None))
        | inr longer ↦ absurd (both_ways row.takes_target exact (and_parts row.takes_target _ longer).0)
      ]
]
  where
    first_of_fit : has_slash (row_name row) ≡ false
        → (bytes_eq name (row_name row) ≡ true) ⊎ ((row.takes_target && has_target name (row_name row)) ≡ true)
        → first_piece name ≡ row_name row
    first_of_fit none (inl same) =
        let is = (bytes_eq-Decides name (row_name row)).0 same in
        ap first_piece is ∙ own_piece (row_name row) none
    first_of_fit none (inr longer) =
        let target = and_parts (starts_with nat_eq name (row_name row)) _ (and_parts row.takes_target _ longer).1 in
        target_piece name (row_name row) none target.0 (eqb-true _ 47 target.1)

    of_pieces : first_piece name ≡ row_name row
        → typed row.kind.program_type (pieces (row_name row) (second_piece name)) ≡ true
        → typed row.kind.program_type (program_section name) ≡ true
    of_pieces piece agreed = ap (λ first. typed row.kind.program_type (pieces first (second_piece name))) piece ∙ agreed

-- ---- all rows

rows_agree : (name : List ℕ) (rows : List NamedKind) → ((second : Option (List ℕ)) → list_all (agrees second) rows ≡ true)
    → AllByRecursion (λ row. name_fits name row ≡ true → typed row.kind.program_type (program_section name) ≡ true) rows
rows_agree name [] checked = tt
rows_agree name (row ∷ rows) checked = (
  row_agrees name row (λ second. (and_parts (agrees second row) _ (checked second)).0),
  rows_agree name rows (λ second. (and_parts (agrees second row) _ (checked second)).1),
)

inside : (s t : bpf_prog_type) → Some s ≡ Some t → s ≡ t
inside s t e = cc

-- the kind of a row has the row's type
kind_typed : (stated : Option ProgramSection) (found : Option NamedKind) (mark : Bool) (kind : ProgramKind)
    → IfSome found (λ row. typed row.kind.program_type stated ≡ true)
    → option_map (λ row. record row.kind { is_optional = mark }) found ≡ Some kind → typed kind.program_type stated ≡ true
kind_typed stated None mark kind agreed loaded = absurd (cc)
kind_typed stated (Some row) mark kind agreed loaded =
    let same : row.kind.program_type ≡ kind.program_type = inside _ _ (ap (option_map (λ (k : ProgramKind). k.program_type)) loaded) in
    rw (← same) agreed

-- a type that passed the check is the section's
type_is : (t : bpf_prog_type) (o : Option bpf_prog_type) → type_of t o ≡ true → o ≡ Some t
unfolding type_of
type_is t None same = absurd (cc)
type_is t (Some s) same = ap Some (same_true the_type tt s t same)

-- ---- names with a mark

-- no table has a piece that begins with `?`
no_pieces : (rest : List ℕ) (second : Option (List ℕ)) → pieces (63 ∷ rest) second ≡ None
unfolding piece_sections pair_sections
no_pieces rest second = refl

pub marked_says_none : (name : List ℕ) → is_marked name ≡ true → program_section name ≡ None
marked_says_none [] mark = absurd (cc)
marked_says_none (b ∷ name) mark =
    let is : b ≡ 63 = eqb-true b 63 mark in
    let on : 1 + length_before name ≡ suc (length_before name) = omega arith in
    rw (is, on) (no_pieces _ _)

pub types_agree : TypesAgree
unfolding program_kind typed
types_agree name section kind stated loaded = elim (cases_Bool (is_marked name)) [
  | inl marked ↦ absurd (cc (marked_says_none name marked))
  | inr plain ↦
      let found = of_longest (λ row. typed row.kind.program_type (program_section name) ≡ true) name NAMED_KINDS (rows_agree name NAMED_KINDS all_agree) in
      let agreed = kind_typed (program_section name) (longest_fit name NAMED_KINDS) false kind found (rw plain at loaded) in
      type_is kind.program_type (section_type section) (rw stated at agreed)
]

-- ---- relocation sections, one after the other

-- the fault of two lists, one after the other
pub target_append : (xs ys : List ElfRelocation) → target_fault (xs ++ ys) ≡ or_else (target_fault xs) (target_fault ys)
target_append [] ys = refl
target_append (x ∷ xs) ys = by_case (x.symbol_index == 0) refl (target_append xs ys)
  where
    by_case : (b : Bool) → (x.symbol_index == 0) ≡ b → target_fault (xs ++ ys) ≡ or_else (target_fault xs) (target_fault ys)
        → target_fault (x ∷ (xs ++ ys)) ≡ or_else (target_fault (x ∷ xs)) (target_fault ys)
    by_case true e h = rw e refl
    by_case false e h = rw e h

-- the entries of one relocation section, then those of the others
pub tables_more : (xs : List SectionOf) (i : ℕ) (x : SectionOf) → i < length xs → x ≡ slice_index_or xs i x
    → flat_map table_entries (drop i xs) ≡ table_entries x ++ flat_map table_entries (drop (i + 1) xs)
tables_more xs i x below here = lists_more table_entries xs i x below here

pub tables_none : (xs : List SectionOf) (i : ℕ) → length xs ≤ i → flat_map table_entries (drop i xs) ≡ []
tables_none xs i past = ap (flat_map table_entries) (rest_none xs i past)
