-- The first piece of a name, and the rows of program kinds that the name fits.
use Rattle.std.proofs.Common.{◌⊎◌, inl, inr, arith, ◌+◌, ◌≡◌, ℕ, suc, true, false, not, ◌&&◌, ◌||◌, List, [], ◌∷◌, refl, ap, ◌∙◌, sym, eq-eqb, Bool}
use Rattle.std.specs.Prelude.{◌==◌, nat_eq, Option, Some, None, IfSome, filter, if◌then◌else◌, is_some, length, nat_le, option_map}
use Rattle.std.specs.List.{position_or_len, starts_with, AllByRecursion, fold, list_all, list_any}
use Rattle.std.specs.Str.{bytes_eq}
use Rattle.std.proofs.lemmas.Bool.{and_parts, cases_Bool, eqb-true, not-true, or_cases}
use Rattle.std.proofs.lemmas.Slice.Eq.{bytes_eq-Decides}
use Rattle.std.specs.Option.{option_map_or}
use Rattle.ebpf_load_info.specs.AttachTargets.{targets, WantedAsKinds}
use Rattle.ebpf_load_info.specs.declared.attach.TargetKind.{TargetKind}
use Rattle.ebpf_parts.proofs.ProgramKinds.{has_slash, own_piece, target_piece, of_longest}
use Rattle.ebpf_parts.specs.ProgramTypes.{name_fits, has_target, row_name, first_piece, is_marked, longer, longest_fit, program_kind, without_mark, lookup_piece}
use Rattle.ebpf_parts.specs.declared.programs.kind.NamedKind.{NamedKind}
use Rattle.ebpf_parts.specs.declared.programs.kind.ProgramKind.{ProgramKind}
use Rattle.ebpf_parts.specs.declared.programs.kind.TheConstants.{NAMED_KINDS}

abbrev length_before : List ℕ → ℕ
length_before name = position_or_len (λ b. b == 47) name

-- a name that a row fits has the first piece of the row's own, where no row with a slash takes a target
pub piece_of_fit : (name : List ℕ) (row : NamedKind) → not (row.takes_target && has_slash (row_name row)) ≡ true → name_fits name row ≡ true
    → first_piece name ≡ first_piece (row_name row)
piece_of_fit name row plain fit = by_fit (or_cases _ _ fit)
  where
    by_fit : (bytes_eq name (row_name row) ≡ true) ⊎ ((row.takes_target && has_target name (row_name row)) ≡ true)
        → first_piece name ≡ first_piece (row_name row)
    by_fit (inl same) = ap first_piece ((bytes_eq-Decides name (row_name row)).0 same)
    by_fit (inr longer) =
        let takes = and_parts row.takes_target _ longer in
        let target = and_parts (starts_with nat_eq name (row_name row)) _ takes.1 in
        let none : has_slash (row_name row) ≡ false = not-true _ (rw takes.0 at plain) in
        target_piece name (row_name row) none target.0 (eqb-true _ 47 target.1) ∙ sym (own_piece (row_name row) none)

-- a name is its first piece, or goes on with a slash behind it
fits_piece : (name : List ℕ) → (bytes_eq name (first_piece name) || has_target name (first_piece name)) ≡ true
fits_piece [] = refl
fits_piece (b ∷ name) = elim (cases_Bool (b == 47)) [
  | inl slash ↦ rw slash (rw slash refl)
  | inr other ↦
      let on : 1 + length_before name ≡ suc (length_before name) = omega arith in
      rw (other, on) (rw (eq-eqb b b refl) (fits_piece name))
]

-- a row that takes a target fits each name that has its own as its first piece
pub fit_of_piece : (name : List ℕ) (row : NamedKind) → (row.takes_target && bytes_eq (row_name row) (first_piece name)) ≡ true → name_fits name row ≡ true
fit_of_piece name row is =
    let parts = and_parts row.takes_target _ is in
    rw (parts.0, (bytes_eq-Decides (row_name row) (first_piece name)).0 parts.1) (fits_piece name)

-- ---- the sections whose programs have targets are those of the rows of program kinds that say so

-- ---- each row says of its own name what the table of targets says

same : Bool → Bool → Bool
same a b = if a then b else not b

same_is : (a b : Bool) → same a b ≡ true → a ≡ b
unfolding same
same_is true b e = sym e
same_is false true e = absurd (cc)
same_is false false e = refl

-- whether programs of a section whose first piece this is have targets
abbrev has : List ℕ → Bool
has piece = is_some (lookup_piece targets piece)

agrees : NamedKind → Bool
agrees row = not (row.takes_target && has_slash (row_name row)) && same row.kind.wants_target_type (has (first_piece (row_name row)))

all_agree : list_all agrees NAMED_KINDS ≡ true
unfolding agrees same targets
all_agree = refl

abbrev AgreesOn : List ℕ → NamedKind → Type 0
AgreesOn name row = row.kind.wants_target_type ≡ has (first_piece name)

row_agrees : (name : List ℕ) (row : NamedKind) → agrees row ≡ true → name_fits name row ≡ true → AgreesOn name row
unfolding agrees
row_agrees name row checked fit =
    let parts = and_parts (not (row.takes_target && has_slash (row_name row))) _ checked in
    rw (piece_of_fit name row parts.0 fit) (same_is _ _ parts.1)

rows_agree : (name : List ℕ) (rows : List NamedKind) → list_all agrees rows ≡ true
    → AllByRecursion (λ row. name_fits name row ≡ true → AgreesOn name row) rows
rows_agree name [] checked = tt
rows_agree name (row ∷ rows) checked =
    let parts = and_parts (agrees row) _ checked in
    (row_agrees name row parts.0, rows_agree name rows parts.1)

-- ---- each name of the table of targets is that of a row

has_row : List NamedKind → List ℕ → Bool
has_row rows piece = list_any (λ row. row.takes_target && bytes_eq (row_name row) piece) rows

all_have_rows : list_all (λ (t : List ℕ × TargetKind). has_row NAMED_KINDS t.0) targets ≡ true
unfolding has_row targets
all_have_rows = refl

row_of : (rows : List NamedKind) (table : List (List ℕ × TargetKind)) (piece : List ℕ)
    → list_all (λ (t : List ℕ × TargetKind). has_row rows t.0) table ≡ true → is_some (lookup_piece table piece) ≡ true → has_row rows piece ≡ true
row_of rows [] piece checked found = absurd (cc)
row_of rows (t ∷ table) piece checked found = elim (cases_Bool (bytes_eq piece t.0)) [
  | inl is ↦ rw ((bytes_eq-Decides piece t.0).0 is) (and_parts (has_row rows t.0) _ checked).0
  | inr other ↦ row_of rows table piece (and_parts (has_row rows t.0) _ checked).1 (rw other at found)
]

fits_some : (name : List ℕ) (rows : List NamedKind) → has_row rows (first_piece name) ≡ true → list_any (name_fits name) rows ≡ true
unfolding has_row
fits_some name [] found = absurd (cc)
fits_some name (row ∷ rows) found = elim (cases_Bool (row.takes_target && bytes_eq (row_name row) (first_piece name))) [
  | inl here ↦ rw (fit_of_piece name row here) refl
  | inr later ↦ elim (cases_Bool (name_fits name row)) [
    | inl fit ↦ rw fit refl
    | inr misfit ↦ rw misfit (fits_some name rows (rw later at found))
  ]
]

-- ---- where no row is found none fits

stays : (row : NamedKind) (rows : List NamedKind) → is_some (fold longer (Some row) rows) ≡ true
stays row [] = refl
stays row (next ∷ rows) = by_length (nat_le (length (row_name next)) (length (row_name row))) (stays row rows) (stays next rows)
  where
    by_length : (b : Bool) → is_some (fold longer (Some row) rows) ≡ true → is_some (fold longer (Some next) rows) ≡ true
        → is_some (fold longer (if b then Some row else Some next) rows) ≡ true
    by_length true first second = first
    by_length false first second = second

finds_some : (name : List ℕ) (rows : List NamedKind) → list_any (name_fits name) rows ≡ true → is_some (longest_fit name rows) ≡ true
unfolding longest_fit
finds_some name [] found = absurd (cc)
finds_some name (row ∷ rows) found = elim (cases_Bool (name_fits name row)) [
  | inl fit ↦ rw fit (stays row (filter (name_fits name) rows))
  | inr misfit ↦ rw misfit (finds_some name rows (rw misfit at found))
]

-- ---- both

-- what is found says, and where none is found there is no target
by_found : (found : Option NamedKind) (mark target : Bool) → IfSome found (λ row. row.kind.wants_target_type ≡ target)
    → (target ≡ true → is_some found ≡ true)
    → target ≡ option_map_or (λ (kind : ProgramKind). kind.wants_target_type) (option_map (λ (row : NamedKind). record row.kind { is_optional = mark }) found) false
by_found None mark true agreed some = absurd (cc (some refl))
by_found None mark false agreed some = refl
by_found (Some row) mark target agreed some = sym agreed

pub wanted_as_kinds : WantedAsKinds
unfolding program_kind
wanted_as_kinds section =
    let name = without_mark section in
    by_found (longest_fit name NAMED_KINDS) (is_marked section) (has (first_piece name))
    (of_longest (AgreesOn name) name NAMED_KINDS (rows_agree name NAMED_KINDS all_agree))
    (λ target. finds_some name NAMED_KINDS (fits_some name NAMED_KINDS (row_of NAMED_KINDS targets (first_piece name) all_have_rows target)))
