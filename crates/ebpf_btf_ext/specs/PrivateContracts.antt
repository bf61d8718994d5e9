-- Definitions that only contracts of private functions name.
use Rattle.std.specs.Prelude.{◌+◌, List, ◌++◌, Result, Ok, ◌≡◌, ◌≤◌, ℕ, length, ⊤, Option, Some}
use Rattle.std.specs.Prelude.{None, Err, option_map, slice_get, if◌then◌else◌}
use Rattle.ebpf_btf.specs.declared.error.BtfError.{BtfError}
use Rattle.ebpf_base.specs.Faults.{if_ok}
use Rattle.ebpf_btf.specs.Next.{if_some}
use Rattle.std.specs.Bool.{MatchBool}
use Rattle.std.specs.FinMap.{FinMap, get, insert}
use Rattle.ebpf_base.specs.Maps.{text_cmp}
use Rattle.ebpf_btf.specs.Memory.{is_btf_memory}
use Rattle.ebpf_btf.specs.Strings.{is_text, text_at}
use Rattle.ebpf_base.specs.declared.endianness.Endianness.{Endianness}
use Rattle.ebpf_btf.specs.Items.{items_at}
use Rattle.ebpf_btf_ext.specs.ExtFormat.{sec_name_off_at, num_info_at}
use Rattle.ebpf_btf_ext.specs.ExtReading.{checked_section}
use Rattle.ebpf_btf_ext.specs.SectionNames.{by_offsets}

-- a list before another
abbrev pub prepended : {X : Type 0} → List X → Result (List X) BtfError → Result (List X) BtfError
prepended front more = if_ok more (λ xs. Ok (front ++ xs))

-- the result of reading a section, with the offset of the name instead of the name; errors of
-- memory aside
abbrev pub GivesByOffset : {S : Type 0} → List ℕ → Result ((ℕ × S) × ℕ) BtfError
    → Result ((List ℕ × S) × ℕ) BtfError → Type 0
GivesByOffset strings (Ok found) stated =
    (name : List ℕ)
    × (text_at strings found.0.0 ≡ Ok name)
    × (stated ≡ Ok ((name, found.0.1), found.1))
GivesByOffset strings (Err e) stated = MatchBool (is_btf_memory e) ⊤ (stated ≡ Err e)

-- the section at an index
abbrev pub section_at : {S : Type 0} → List (ℕ × S) → Option ℕ → Option S
section_at sections None = None
section_at sections (Some index) = option_map (λ s. s.1) (slice_get sections index)

-- the index of each of these names is the index of its section
pub record AreLastIndices {S : Type 0} (strings : List ℕ) (sections : List (ℕ × S))
    (indices : FinMap text_cmp (Option ℕ))
    : Type 0 where
  pub is : (name : List ℕ) (index : Option ℕ)
      → get indices name ≡ Some index
      → section_at sections index ≡ get (by_offsets strings sections) name

-- these names have no index yet, and none is longer
pub record AreUnset (longest : ℕ) (indices : FinMap text_cmp (Option ℕ)) : Type 0 where
  pub is : (name : List ℕ) (index : Option ℕ) → get indices name ≡ Some index
      → (index ≡ None) × (length name ≤ longest)

-- none of these names is longer
pub record NoneLonger (longest : ℕ) (indices : FinMap text_cmp (Option ℕ)) : Type 0 where
  pub is : (name : List ℕ) (index : Option ℕ) → get indices name ≡ Some index
      → length name ≤ longest

-- the index of a name is set, where the name is among these
unfoldable pub with_index : FinMap text_cmp (Option ℕ) → List ℕ → ℕ → FinMap text_cmp (Option ℕ)
with_index indices name index =
    if_some (get indices name) (λ _. insert indices name (Some index)) indices

-- of these names the one at the offset has this index, and the others what they had
pub record IsIndexSet (strings : List ℕ) (offset index : ℕ)
    (before after : FinMap text_cmp (Option ℕ))
    : Type 0 where
  pub is : (name : List ℕ) (now : Option ℕ) → get after name ≡ Some now
      → (had : Option ℕ)
      × (get before name ≡ Some had)
      × (now ≡ (if is_text name (text_at strings offset) then Some index else had))

-- a section with its name, its func info or line info made of its records, and the offset after it
abbrev pub info_section : {R S : Type 0} → (ℕ → ℕ → List R → S) → (Endianness → List ℕ → ℕ → R)
    → ℕ → Endianness → List ℕ → List ℕ → ℕ → ℕ → ℕ → Result ((List ℕ × S) × ℕ) BtfError
info_section info row least o bytes strings size end =
    checked_section o bytes least size end (λ offset.
    if_ok (text_at strings (sec_name_off_at o bytes offset)) (λ name.
    Ok (
      name,
      info (sec_name_off_at o bytes offset) (num_info_at o bytes offset) (items_at (row o
          bytes) size (offset + 8) (num_info_at o bytes offset)),
    )))
