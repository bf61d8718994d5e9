-- What a call leaves that takes no memory, and things by bytes that are a text or none.
use Rattle.std.proofs.Common.{◌≡◌, ℕ, ◌==◌, Bool, true, false, List, length, refl, sym, ap, ◌∙◌, subst, ◌+◌, ◌<◌, ◌++◌, drop, None}
use Rattle.std.specs.Prelude.{Result, Ok, Err, nat_le, if◌then◌else◌, slice_index_or}
use Rattle.std.proofs.lemmas.Bool.{eqb-true}
use Rattle.std.specs.List.{flat_map}
use Rattle.std.proofs.lemmas.List.{append_assoc, length-append}
use Rattle.std.specs.FinMap.{FinMap, get}
use Rattle.std.specs.Str.{is_utf8, IsUtf8}
use Rattle.std.proofs.lemmas.Str.{is_utf8-from_IsUtf8, IsUtf8-from_is_utf8}
use Rattle.ebpf_base.proofs.Lists.{rest_more}
use Rattle.ebpf_base.specs.Maps.{text_cmp}
use Rattle.capi_rows.specs.Answers.{FillsList, answer, done_or_room, or_memory}
use Rattle.capi_rows.specs.Listings.{rows_by, value_by_bytes}
use Rattle.capi_rows.specs.declared.codes.TheConstants.{MEMORY}

module _ {X : Type 0} where
  abbrev memory_if : Bool → Result (List X) ℕ → Result (List X) ℕ
  memory_if b found = if b then Err MEMORY else found

  same : (found : Result (List X) ℕ) (number : ℕ) (out : List X) → number ≡ answer found out → or_memory number found ≡ found
  same (Err e) number out is =
      elim (number == MEMORY) as (λ b. (number == MEMORY) ≡ b → memory_if b (Err e) ≡ Err e) [
        | true ↦ λ eq. ap Err (sym (eqb-true number MEMORY eq) ∙ is)
        | false ↦ λ eq. refl
      ] refl
  same (Ok xs) number out is =
      elim (nat_le (length xs) (length out)) as (λ b. number ≡ done_or_room b → memory_if (number == MEMORY) (Ok xs) ≡ Ok xs) [
        | true ↦ λ eq. rw eq refl
        | false ↦ λ eq. rw eq refl
      ] is

  -- out of memory is never answered
  pub unless_memory : (found : Result (List X) ℕ) (number : ℕ) (out out_left : List X) (count count_left : ℕ) → FillsList found number out out_left count count_left → FillsList (or_memory number found) number out out_left count count_left
  unless_memory found number out out_left count count_left fills =
      subst (λ f. FillsList f number out out_left count count_left) (sym (same found number out fills.answered)) fills

-- ---- rows and the names that they point to grow by one thing

-- the rows of the next thing, and those of the things behind it
pub one_row : {V R : Type 0} (rows_of : V → ℕ → List R) (text_of : V → List ℕ) (rows : List R) (text : List ℕ) (values : List V) (i : ℕ) (v : V) → i < length values → v ≡ slice_index_or values i v
    → (rows ++ rows_of v (length text)) ++ rows_by rows_of text_of (length (text ++ text_of v)) (drop (i + 1) values) ≡ rows ++ rows_by rows_of text_of (length text) (drop i values)
one_row rows_of text_of rows text values i v below here =
    append_assoc rows (rows_of v (length text)) _
    ∙ ap (λ n. rows ++ (rows_of v (length text) ++ rows_by rows_of text_of n (drop (i + 1) values))) (length-append text (text_of v))
    ∙ ap (λ rest. rows ++ rows_by rows_of text_of (length text) rest) (sym (rest_more values i v below here))

-- the names of the next thing, and those of the things behind it
pub one_text : {V : Type 0} (text_of : V → List ℕ) (text : List ℕ) (values : List V) (i : ℕ) (v : V) → i < length values → v ≡ slice_index_or values i v
    → (text ++ text_of v) ++ flat_map text_of (drop (i + 1) values) ≡ text ++ flat_map text_of (drop i values)
one_text text_of text values i v below here =
    append_assoc text (text_of v) _ ∙ ap (λ rest. text ++ flat_map text_of rest) (sym (rest_more values i v below here))

-- ---- things by bytes that are a text, and by bytes that are none

pub named_by_text : {V : Type 0} (m : FinMap text_cmp V) (name : List ℕ) → IsUtf8 name → value_by_bytes m name ≡ get m name
unfolding value_by_bytes
named_by_text m name utf8 = rw (is_utf8-from_IsUtf8 name utf8) refl

pub named_by_none : {V : Type 0} (m : FinMap text_cmp V) (name : List ℕ) → ¬ (IsUtf8 name) → value_by_bytes m name ≡ None
unfolding value_by_bytes
named_by_none m name broken =
    elim (is_utf8 name) as (λ b. is_utf8 name ≡ b → value_by_bytes m name ≡ None) [
      | true ↦ λ e. absurd (broken (IsUtf8-from_is_utf8 name e))
      | false ↦ λ e. rw e refl
    ] refl
