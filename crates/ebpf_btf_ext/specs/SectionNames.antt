-- The sections of `.BTF.ext` by the names at their offsets in the strings, and copies of the names.
use Rattle.std.specs.Prelude.{ℕ, List, [], ◌∷◌, Result, Ok, Err, ◌≡◌}
use Rattle.std.specs.FinMap.{FinMap, empty}
use Rattle.std.specs.List.{flat_map, AllZip}
use Rattle.ebpf_base.specs.Maps.{put_all, text_cmp}
use Rattle.ebpf_btf.specs.Strings.{text_at}
use Rattle.ebpf_btf.specs.declared.error.BtfError.{BtfError}

-- ---- sections by the names at their offsets in some strings

-- ---- by names

-- a section by its name, where that can be read
abbrev pub section_with_name : {S : Type 0} → S → Result (List ℕ) BtfError → List (List ℕ × S)
section_with_name s (Ok name) = (name, s) ∷ []
section_with_name s (Err e) = []

abbrev pub sections_with_names : {S : Type 0} → List ℕ → List (ℕ × S) → List (List ℕ × S)
sections_with_names strings sections =
    flat_map (λ s. section_with_name s.1 (text_at strings s.0)) sections

-- of sections with equal names the last one counts
unfoldable pub by_offsets : {S : Type 0} → List ℕ → List (ℕ × S) → FinMap text_cmp S
by_offsets strings sections = put_all empty (sections_with_names strings sections)

-- ---- the indices of the last sections of some names

-- ---- copies of section names out of the strings

-- the text at an offset of the strings is at another offset of the names
pub record IsCopied (strings names : List ℕ) (offset copied : ℕ) : Type 0 where
  pub text : List ℕ
  pub was : text_at strings offset ≡ Ok text
  pub is : text_at names copied ≡ Ok text

-- the names of the sections are at these offsets of the names
abbrev pub AreCopied : {S : Type 0} → List ℕ → List ℕ → List (ℕ × S) → List ℕ → Type 0
AreCopied strings names sections offsets =
    AllZip (λ s copied. IsCopied strings names s.0 copied) sections offsets

-- sections with these offsets instead of theirs, as far as there are some
abbrev pub with_offsets : {S : Type 0} → List ℕ → List (ℕ × S) → List (ℕ × S)
with_offsets [] sections = sections
with_offsets (o ∷ offsets) [] = []
with_offsets (o ∷ offsets) (s ∷ sections) = (o, s.1) ∷ with_offsets offsets sections
