-- The shape of a function, which passes keep: all of it but the slots, and the number of these.
-- Then a walk over the relocations of sections, in step with functions.
use Rattle.std.specs.Prelude.{◌≡◌, length, Option, Some, None, IsSomeAnd, MatchOption, ◌≤◌, ◌==◌}
use Rattle.std.specs.Prelude.{◌^◌, ℕ, Bool, false, nat_lt, if◌then◌else◌, List, [], ◌∷◌}
use Rattle.std.specs.FinMap.{FinMap, get, entries}
use Rattle.std.specs.Option.{option_copied}
use Rattle.std.specs.Ordering.{nat_cmp}
use Rattle.ebpf_base.specs.Maps.{entries_from, key_cmp}
use Rattle.ebpf_elf.specs.declared.relocation.ElfRelocation.{ElfRelocation}
use Rattle.ebpf_model.specs.Symbols.{FunctionKey}
use Rattle.ebpf_model.specs.declared.function.Function.{Function}
use Rattle.ebpf_model.specs.declared.walk.Walk.{Walk}

-- name, address, section, place in it, records and sizes of records stay, and there are as many
-- slots
pub record KeepsShape (before after : Function) : Type 0 where
  pub others : after ≡ record before { instructions = after.instructions }
  pub slots : length after.instructions ≡ length before.instructions

-- the same keys, at each of which the function keeps its shape
abbrev pub KeepShapes : FinMap key_cmp Function → FinMap key_cmp Function → Type 0
KeepShapes before after =
    (key : FunctionKey)
    → MatchOption (get before key) (get after key ≡ None) (λ f.
    IsSomeAnd (get after key) (KeepsShape f))

-- ---- a walk over the relocations of sections, in step with functions and their slots

-- the relocation at an offset of a section, which is a number of 64 bits (ELF-64 gABI,
-- 'Relocation': r_offset)
abbrev pub found_at : Option (FinMap nat_cmp ElfRelocation) → ℕ → Option ElfRelocation
found_at None offset = None
found_at (Some section_relocations) offset =
    if nat_lt offset (2 ^ 64) then get section_relocations offset else None

-- the relocations of the section that the walk is in
abbrev pub walked_relocations : Walk → Option (FinMap nat_cmp ElfRelocation)
walked_relocations walk = option_copied walk.section_relocations

abbrev pub entries_or_none : Option (FinMap nat_cmp ElfRelocation) → List (ℕ × ElfRelocation)
entries_or_none None = []
entries_or_none (Some section_relocations) = entries section_relocations

abbrev pub ahead_in : Option (List (ℕ × ElfRelocation)) → List (ℕ × ElfRelocation)
ahead_in None = []
ahead_in (Some list) = list

-- the next one and those ahead of it; where there is no next one there are none
abbrev pub left : Option (ℕ × ElfRelocation) → Option (List (ℕ × ElfRelocation))
    → List (ℕ × ElfRelocation)
left None ahead = []
left (Some e) ahead = e ∷ ahead_in ahead

-- the relocations that are not passed
abbrev pub left_in : Walk → List (ℕ × ElfRelocation)
left_in walk = left walk.next walk.ahead

-- the next one is before the offset
abbrev pub is_passed : Option (ℕ × ElfRelocation) → ℕ → Bool
is_passed None offset = false
is_passed (Some e) offset = nat_lt e.0 offset

-- the next one, if it is at the offset
abbrev pub at_offset : Option (ℕ × ElfRelocation) → ℕ → Option ElfRelocation
at_offset None offset = None
at_offset (Some e) offset = if e.0 == offset then Some e.1 else None

-- what is left are the relocations from some offset on, which is not past this one
pub record IsBefore (walk : Walk) (offset : ℕ) : Type 0 where
  pub from : ℕ
  pub before : from ≤ offset
  pub are_left : left_in walk ≡ entries_from from (entries_or_none (walked_relocations walk))

-- the walk is over the relocations of its section, and has not passed the end of its function
pub record IsWithinFunction (relocations : FinMap nat_cmp (FinMap nat_cmp ElfRelocation))
    (walk : Walk)
    : Type 0 where
  pub section_relocations : walked_relocations walk ≡ get relocations walk.section
  pub before : IsBefore walk walk.function_end
