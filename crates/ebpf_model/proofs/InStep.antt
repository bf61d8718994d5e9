-- What is left of the relocations of a section from an offset on, and the one at that offset.
use Rattle.std.proofs.Common.{◌≡◌, ◌<◌, ◌≤◌, ◌+◌, ℕ, Bool, true, false, cond, List, [], ◌∷◌, Option, Some, None, refl, sym, ap, subst, ◌∙◌, arith}
use Rattle.std.specs.Prelude.{◌==◌, nat_lt, nat_le, ◌^◌}
use Rattle.std.specs.declared.cmp.Ordering.{Ordering}
use Rattle.std.specs.declared.cmp.Ordering.TheVariants.{Less, Equal, Greater}
use Rattle.std.specs.FinMap.{FinMap, entries, find as value_at, get-entries}
use Rattle.std.specs.List.{AllByRecursion}
use Rattle.std.specs.List.Sorted.{IsStrictlySortedBy}
use Rattle.std.specs.Map.{keys_of}
use Rattle.std.specs.Ordering.{nat_cmp}
use Rattle.std.proofs.lemmas.Bool.Decides.{nat_tests}
use Rattle.std.proofs.lemmas.List.Kept.{IsStrictlySortedBy-filter}
use Rattle.ebpf_base.proofs.Lists.{filter-map}
use Rattle.ebpf_base.proofs.Maps.{entries_rise}
use Rattle.ebpf_base.specs.Maps.{entries_from}
use Rattle.ebpf_elf.specs.declared.relocation.ElfRelocation.{ElfRelocation}
use Rattle.ebpf_model.specs.declared.walk.Walk.{Walk}
use Rattle.ebpf_model.specs.Walks.{found_at, entries_or_none, ahead_in, left, left_in, walked_relocations, is_passed, at_offset, IsBefore}

abbrev Entries : Type 0
Entries = List (ℕ × ElfRelocation)

-- those that stand above an offset stay, whatever offset up to it they are taken from
all_stay : (es : Entries) (a from : ℕ) → from ≤ a + 1 → AllByRecursion (λ y. nat_cmp a y ≡ Less) (keys_of es) → entries_from from es ≡ es
all_stay [] a from low h = refl
all_stay (e ∷ es) a from low h =
    let up : a < e.0 = grind (arith, nat_tests, h.0) in
    let stays : nat_le from e.0 ≡ true = grind (arith, nat_tests) in
    rw stays (ap (λ xs. e ∷ xs) (all_stay es a from low h.1))

-- the first of those from an offset on is not before it
first_there : (es : Entries) (from : ℕ) (e : ℕ × ElfRelocation) (rest : Entries) → e ∷ rest ≡ entries_from from es → from ≤ e.0
first_there [] from e rest h = cc
first_there (d ∷ es) from e rest h = step (nat_le from d.0) refl h (first_there es from e rest)
  where
    step : (b : Bool) → nat_le from d.0 ≡ b → e ∷ rest ≡ cond b (d ∷ entries_from from es) (entries_from from es) → (e ∷ rest ≡ entries_from from es → from ≤ e.0) → from ≤ e.0
    step true at g next =
        let same : e ≡ d = cc in
        let low : from ≤ d.0 = grind (arith, nat_tests) in
        subst (λ x. from ≤ x.0) (sym same) low
    step false at g next = next g

pub none_passed : (es : Entries) (from : ℕ) (next : Option (ℕ × ElfRelocation)) (ahead : Option Entries) → left next ahead ≡ entries_from from es → is_passed next from ≡ false
none_passed es from None ahead h = refl
none_passed es from (Some e) ahead h =
    let low : from ≤ e.0 = first_there es from e (ahead_in ahead) h in
    grind (arith, nat_tests)

-- behind the first of those from an offset on are those past it
behind : (es : Entries) (from : ℕ) (e : ℕ × ElfRelocation) (rest : Entries) → IsStrictlySortedBy nat_cmp (keys_of es) → e ∷ rest ≡ entries_from from es → rest ≡ entries_from (e.0 + 1) es
unfolding IsStrictlySortedBy
behind [] from e rest up h = cc
behind (d ∷ es) from e rest up h = step (nat_le from d.0) refl h (behind es from e rest up.1)
  where
    step : (b : Bool) → nat_le from d.0 ≡ b → e ∷ rest ≡ cond b (d ∷ entries_from from es) (entries_from from es) → (e ∷ rest ≡ entries_from from es → rest ≡ entries_from (e.0 + 1) es) → rest ≡ entries_from (e.0 + 1) (d ∷ es)
    step true at g next =
        let same : e ≡ d = cc in
        let others : rest ≡ entries_from from es = cc in
        let low : from ≤ d.0 + 1 = grind (arith, nat_tests) in
        let past : nat_le (d.0 + 1) d.0 ≡ false = grind (arith, nat_tests) in
        let at_d : rest ≡ entries_from (d.0 + 1) (d ∷ es) = rw past (others ∙ all_stay es d.0 from low up.0 ∙ sym (all_stay es d.0 (d.0 + 1) (omega (arith)) up.0)) in
        subst (λ x. rest ≡ entries_from (x.0 + 1) (d ∷ es)) (sym same) at_d
    step false at g next =
        let low : from ≤ e.0 = first_there es from e rest g in
        let past : nat_le (e.0 + 1) d.0 ≡ false = grind (arith, nat_tests) in
        rw past (next g)

-- an offset's value is that among those from an earlier offset on
value_left : (es : Entries) (from offset : ℕ) → from ≤ offset → value_at nat_cmp offset es ≡ value_at nat_cmp offset (entries_from from es)
value_left [] from offset before = refl
value_left (e ∷ es) from offset before = step (nat_le from e.0) refl (nat_cmp offset e.0) refl (value_left es from offset before)
  where
    step : (b : Bool) → nat_le from e.0 ≡ b → (r : Ordering) → nat_cmp offset e.0 ≡ r → value_at nat_cmp offset es ≡ value_at nat_cmp offset (entries_from from es) → value_at nat_cmp offset (e ∷ es) ≡ value_at nat_cmp offset (cond b (e ∷ entries_from from es) (entries_from from es))
    step true at Less is rest = rw is rest
    step true at Equal is rest = rw is refl
    step true at Greater is rest = rw is rest
    step false at r is rest =
        let above : nat_cmp offset e.0 ≡ Greater = grind (arith, nat_tests) in
        rw above rest

above_all : (es : Entries) (a offset : ℕ) → offset < a → AllByRecursion (λ y. nat_cmp a y ≡ Less) (keys_of es) → value_at nat_cmp offset es ≡ None
above_all [] a offset below h = refl
above_all (e ∷ es) a offset below h =
    let up : a < e.0 = grind (arith, nat_tests, h.0) in
    let less : nat_cmp offset e.0 ≡ Less = grind (arith, nat_tests) in
    rw less (above_all es a offset below h.1)

-- the value of the first, where it is not before the offset
value_first : (next : Option (ℕ × ElfRelocation)) (ahead : Option Entries) (offset : ℕ) → IsStrictlySortedBy nat_cmp (keys_of (left next ahead)) → is_passed next offset ≡ false → value_at nat_cmp offset (left next ahead) ≡ at_offset next offset
unfolding IsStrictlySortedBy
value_first None ahead offset up none = refl
value_first (Some e) ahead offset up none = step (nat_cmp offset e.0) refl
  where
    step : (r : Ordering) → nat_cmp offset e.0 ≡ r → value_at nat_cmp offset (e ∷ ahead_in ahead) ≡ at_offset (Some e) offset
    step Less at =
        let below : offset < e.0 = grind (arith, nat_tests) in
        let other : (e.0 == offset) ≡ false = grind (arith, nat_tests) in
        rw (at, other) (above_all (ahead_in ahead) e.0 offset below up.0)
    step Equal at =
        let same : (e.0 == offset) ≡ true = grind (arith, nat_tests) in
        rw (at, same) refl
    step Greater at = absurd (grind (arith, nat_tests))

-- those from an offset on rise too
from_up : (es : Entries) (from : ℕ) → IsStrictlySortedBy nat_cmp (keys_of es) → IsStrictlySortedBy nat_cmp (keys_of (entries_from from es))
from_up es from up = subst (IsStrictlySortedBy nat_cmp) (filter-map (λ k. nat_le from k) (λ e. e.0) es) (IsStrictlySortedBy-filter nat_cmp (λ k. nat_le from k) (keys_of es) up)

entries_up : (section_relocations : Option (FinMap nat_cmp ElfRelocation)) → IsStrictlySortedBy nat_cmp (keys_of (entries_or_none section_relocations))
unfolding IsStrictlySortedBy
entries_up None = tt
entries_up (Some section_relocations) = entries_rise section_relocations

-- where the first of those from an offset on is not before a later one, they are those from the later one on
none_between : (es : Entries) (from offset : ℕ) (next : Option (ℕ × ElfRelocation)) (ahead : Option Entries) → from ≤ offset → IsStrictlySortedBy nat_cmp (keys_of es) → left next ahead ≡ entries_from from es → is_passed next offset ≡ false → entries_from from es ≡ entries_from offset es
unfolding IsStrictlySortedBy
none_between [] from offset next ahead low up h none = refl
none_between (e ∷ es) from offset next ahead low up h none = step (nat_le from e.0) refl next h none (none_between es from offset next ahead low up.1)
  where
    step : (b : Bool) → nat_le from e.0 ≡ b → (n : Option (ℕ × ElfRelocation)) → left n ahead ≡ cond b (e ∷ entries_from from es) (entries_from from es) → is_passed n offset ≡ false
        → (left n ahead ≡ entries_from from es → is_passed n offset ≡ false → entries_from from es ≡ entries_from offset es) → cond b (e ∷ entries_from from es) (entries_from from es) ≡ entries_from offset (e ∷ es)
    step true at None g clear rest = cc
    step true at (Some d) g clear rest =
        let same : d ≡ e = cc in
        let clear_at : nat_lt e.0 offset ≡ false = subst (λ x. nat_lt x.0 offset ≡ false) same clear in
        let there : nat_le offset e.0 ≡ true = grind (arith, nat_tests) in
        let near : from ≤ e.0 + 1 = grind (arith, nat_tests) in
        let far : offset ≤ e.0 + 1 = grind (arith, nat_tests) in
        rw there (ap (λ xs. e ∷ xs) (all_stay es e.0 from near up.0 ∙ sym (all_stay es e.0 offset far up.0)))
    step false at n g clear rest =
        let past : nat_le offset e.0 ≡ false = grind (arith, nat_tests) in
        rw past (rest g clear)

-- where none before an offset is left, those from it on are
pub all_passed : (walk : Walk) (offset : ℕ) → IsBefore walk offset → is_passed walk.next offset ≡ false → left_in walk ≡ entries_from offset (entries_or_none (walked_relocations walk))
all_passed walk offset h none = h.are_left ∙ none_between (entries_or_none (walked_relocations walk)) h.from offset walk.next walk.ahead h.before (entries_up (walked_relocations walk)) h.are_left none

-- the first of those that are left is passed
pub first_passed : (walk after : Walk) (e : ℕ × ElfRelocation) (rest : Entries) (offset : ℕ) → IsBefore walk offset → left_in walk ≡ e ∷ rest → e.0 < offset → walked_relocations after ≡ walked_relocations walk → left_in after ≡ rest → IsBefore after offset
first_passed walk after e rest offset h is low same taken =
    let all : e ∷ rest ≡ entries_from h.from (entries_or_none (walked_relocations walk)) = sym is ∙ h.are_left in
    let others : rest ≡ entries_from (e.0 + 1) (entries_or_none (walked_relocations walk)) = behind (entries_or_none (walked_relocations walk)) h.from e rest (entries_up (walked_relocations walk)) all in
    record { from = e.0 + 1; before = omega (arith, low); are_left = taken ∙ others ∙ ap (λ k. entries_from (e.0 + 1) (entries_or_none k)) (sym same) }

-- the next one is passed, and the first of those behind it is next
pub one_passed : (walk after : Walk) (offset : ℕ) → IsBefore walk offset → is_passed walk.next offset ≡ true → walked_relocations after ≡ walked_relocations walk → left_in after ≡ ahead_in walk.ahead → IsBefore after offset
one_passed walk after offset h passed same taken = step walk.next refl
  where
    step : (next : Option (ℕ × ElfRelocation)) → walk.next ≡ next → IsBefore after offset
    step None is = cc
    step (Some e) is =
        let below : nat_lt e.0 offset ≡ true = cc in
        let low : e.0 < offset = grind (arith, nat_tests) in
        first_passed walk after e (ahead_in walk.ahead) offset h (ap (λ n. left n walk.ahead) is) low same taken

-- what stands at an offset is the next one, if that is there
pub found_next : (walk : Walk) (offset : ℕ) → offset < 2 ^ 64 → IsBefore walk offset → is_passed walk.next offset ≡ false → found_at (walked_relocations walk) offset ≡ at_offset walk.next offset
found_next walk offset fits h none = step (walked_relocations walk) refl
  where
    up : IsStrictlySortedBy nat_cmp (keys_of (left walk.next walk.ahead))
    up = subst (λ es. IsStrictlySortedBy nat_cmp (keys_of es)) (sym h.are_left) (from_up (entries_or_none (walked_relocations walk)) h.from (entries_up (walked_relocations walk)))

    there : value_at nat_cmp offset (left walk.next walk.ahead) ≡ at_offset walk.next offset
    there = value_first walk.next walk.ahead offset up none

    step : (section_relocations : Option (FinMap nat_cmp ElfRelocation)) → walked_relocations walk ≡ section_relocations → found_at section_relocations offset ≡ at_offset walk.next offset
    step None is =
        let nothing : left walk.next walk.ahead ≡ [] = h.are_left ∙ ap (λ k. entries_from h.from (entries_or_none k)) is in
        sym (ap (value_at nat_cmp offset) nothing) ∙ there
    step (Some section_relocations) is =
        let small : nat_lt offset (2 ^ 64) ≡ true = grind (arith, nat_tests) in
        let some : left walk.next walk.ahead ≡ entries_from h.from (entries section_relocations) = h.are_left ∙ ap (λ k. entries_from h.from (entries_or_none k)) is in
        rw (small, get-entries section_relocations offset) (value_left (entries section_relocations) h.from offset h.before ∙ sym (ap (value_at nat_cmp offset) some) ∙ there)

-- past 64 bits nothing stands
pub found_past : (section_relocations : Option (FinMap nat_cmp ElfRelocation)) (offset : ℕ) → 2 ^ 64 ≤ offset → found_at section_relocations offset ≡ None
found_past None offset past = refl
found_past (Some section_relocations) offset past =
    let large : nat_lt offset (2 ^ 64) ≡ false = grind (arith, nat_tests) in
    rw large refl

-- before an offset is before a later one
pub later : (walk : Walk) (earlier offset : ℕ) → IsBefore walk earlier → earlier ≤ offset → IsBefore walk offset
later walk earlier offset h up = record { from = h.from; before = omega (arith, h.before, up); are_left = h.are_left }
