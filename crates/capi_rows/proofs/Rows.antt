-- Rows with names, read one after the other.
use Rattle.std.proofs.Common.{◌≡◌, ℕ, ◌+◌, ◌<◌, List, [], ◌∷◌, ◌++◌, map, length, drop, true, false, Some, None, Bor, refl, sym, ap, ◌∙◌, Option}
use Rattle.std.proofs.lemmas.List.{append_assoc, map-append}
use Rattle.std.proofs.lemmas.Str.{is_utf8-from_IsUtf8, IsUtf8-from_is_utf8}
use Rattle.std.specs.Prelude.{ℤ, slice_index_or, option_map, if◌then◌else◌, Ok, Err}
use Rattle.std.specs.List.{cons_option, filter_map}
use Rattle.std.specs.Str.{is_utf8, IsUtf8}
use Rattle.std.specs.FinMap.{FinMap, get, insert}
use Rattle.capi_rows.specs.Listings.{value_by_bytes}
use Rattle.ebpf_base.proofs.Lists.{rest_more}
use Rattle.ebpf_base.specs.Maps.{put_all, text_cmp}
use Rattle.ebpf_object.specs.Stages.{descriptor_of}
use Rattle.capi_rows.specs.Descriptors.{text_of, name_in, descriptors_in}
use Rattle.capi_rows.specs.Reads.{row_named, or_number}
use Rattle.capi_rows.specs.declared.reads.ebpf_descriptor.{ebpf_descriptor}
use Rattle.capi_rows.specs.declared.variables.ebpf_value.{ebpf_value}

pub text_is : (bytes : List ℕ) → IsUtf8 bytes → text_of bytes ≡ Some bytes
unfolding text_of
text_is bytes utf8 = rw (is_utf8-from_IsUtf8 bytes utf8) refl

pub no_text_is : (bytes : List ℕ) → ¬ (IsUtf8 bytes) → text_of bytes ≡ None
unfolding text_of
no_text_is bytes broken =
    elim (is_utf8 bytes) as (λ b. is_utf8 bytes ≡ b → text_of bytes ≡ None) [
      | true ↦ λ e. absurd (broken (IsUtf8-from_is_utf8 bytes e))
      | false ↦ λ e. rw e refl
    ] refl

module _ (text : List ℕ) where
  -- a row that names a map, and the rows that are left
  pub one_read : (named : List (Bor (List ℕ) × ℤ)) (rows : List ebpf_descriptor) (i : ℕ) (row : ebpf_descriptor) (name : Bor (List ℕ))
      → i < length rows → row ≡ slice_index_or rows i row → Some name.now ≡ name_in text row.name_at row.name_len
      → map descriptor_of (named ++ (name, row.descriptor) ∷ []) ++ descriptors_in text (drop (i + 1) rows) ≡ map descriptor_of named ++ descriptors_in text (drop i rows)
  one_read named rows i row name below here there =
      ap (λ front. front ++ descriptors_in text (drop (i + 1) rows)) (map-append descriptor_of named ((name, row.descriptor) ∷ []))
      ∙ append_assoc (map descriptor_of named) ((name.now, row.descriptor) ∷ []) (descriptors_in text (drop (i + 1) rows))
      ∙ ap (λ rest. map descriptor_of named ++ rest) (sym (ap (descriptors_in text) (rest_more rows i row below here) ∙ ap (λ found. cons_option (option_map (λ (n : List ℕ). (n, row.descriptor)) found) (descriptors_in text (drop (i + 1) rows))) (sym there)))

  -- a row that names none
  pub none_read : (rows : List ebpf_descriptor) (i : ℕ) (row : ebpf_descriptor)
      → i < length rows → row ≡ slice_index_or rows i row → None ≡ name_in text row.name_at row.name_len
      → descriptors_in text (drop (i + 1) rows) ≡ descriptors_in text (drop i rows)
  none_read rows i row below here absent =
      sym (ap (descriptors_in text) (rest_more rows i row below here) ∙ ap (λ found. cons_option (option_map (λ (n : List ℕ). (n, row.descriptor)) found) (descriptors_in text (drop (i + 1) rows))) (sym absent))

-- a text is its bytes
pub text_same : (bytes text : List ℕ) → Some text ≡ text_of bytes → text ≡ bytes
unfolding text_of
text_same bytes text =
    elim (is_utf8 bytes) as (λ b. Some text ≡ (if b then Some bytes else None) → text ≡ bytes) [
      | true ↦ λ e. cc
      | false ↦ λ e. cc
    ]

-- ---- things by bytes that are read as a text

-- what the text names
pub value_by_text : {V : Type 0} (m : FinMap text_cmp V) (bytes text : List ℕ) → Some text ≡ text_of bytes → value_by_bytes m bytes ≡ get m text
unfolding text_of value_by_bytes
value_by_text m bytes text =
    elim (is_utf8 bytes) as (λ b. Some text ≡ (if b then Some bytes else None) → (if b then get m bytes else None) ≡ get m text) [
      | true ↦ λ e. cc
      | false ↦ λ e. cc
    ]

-- bytes that are none name nothing
pub value_by_no_text : {V : Type 0} (m : FinMap text_cmp V) (bytes : List ℕ) → None ≡ text_of bytes → value_by_bytes m bytes ≡ None
unfolding text_of value_by_bytes
value_by_no_text m bytes =
    elim (is_utf8 bytes) as (λ b. None ≡ (if b then Some bytes else None) → (if b then get m bytes else None) ≡ None) [
      | true ↦ λ e. cc
      | false ↦ λ e. cc
    ]

module _ {V R : Type 0} (missing : ℕ) (row : List ℕ → V → ℕ → R) (m : FinMap text_cmp V) (bytes text : List ℕ) where
  -- the row of what the text names
  pub row_by_text : (v : V) (found : R) → Some text ≡ text_of bytes → Some v ≡ get m text → found ≡ row text v 0 → Ok found ≡ row_named missing row m bytes
  row_by_text v found read here is =
      ap Ok is
      ∙ ap (λ (name : List ℕ). Ok (row name v 0)) (text_same bytes text read)
      ∙ sym (ap (or_number missing (λ v. row bytes v 0)) (value_by_text m bytes text read ∙ sym here))

  -- the text names nothing
  pub no_row_by_text : Some text ≡ text_of bytes → None ≡ get m text → Err missing ≡ row_named missing row m bytes
  no_row_by_text read absent = sym (ap (or_number missing (λ v. row bytes v 0)) (value_by_text m bytes text read ∙ sym absent))

-- ---- rows that put values at names, read one after the other

module _ {V : Type 0} (given_by : ebpf_value → Option (List ℕ × V)) where
  abbrev left : FinMap text_cmp V → List ebpf_value → FinMap text_cmp V
  left before rows = put_all before (filter_map given_by rows)

  read : (before : FinMap text_cmp V) (rows : List ebpf_value) (i : ℕ) (row : ebpf_value) (found : Option (List ℕ × V))
      → i < length rows → row ≡ slice_index_or rows i row → found ≡ given_by row
      → put_all before (cons_option found (filter_map given_by (drop (i + 1) rows))) ≡ left before (drop i rows)
  read before rows i row found below here there =
      ap (λ (f : Option (List ℕ × V)). put_all before (cons_option f (filter_map given_by (drop (i + 1) rows)))) there
      ∙ sym (ap (left before) (rest_more rows i row below here))

  -- a row that hands over a value, and the rows that are left
  pub one_put : (before after : FinMap text_cmp V) (rows : List ebpf_value) (i : ℕ) (row : ebpf_value) (given : List ℕ × V)
      → i < length rows → row ≡ slice_index_or rows i row → Some given ≡ given_by row → after ≡ insert before given.0 given.1
      → left after (drop (i + 1) rows) ≡ left before (drop i rows)
  one_put before after rows i row given below here there put =
      ap (λ m. left m (drop (i + 1) rows)) put ∙ read before rows i row (Some given) below here there

  -- a row that hands over none
  pub none_put : (before : FinMap text_cmp V) (rows : List ebpf_value) (i : ℕ) (row : ebpf_value)
      → i < length rows → row ≡ slice_index_or rows i row → None ≡ given_by row
      → left before (drop (i + 1) rows) ≡ left before (drop i rows)
  none_put before rows i row below here absent = read before rows i row None below here absent
