-- The copies of functions in a linked program: their slots, their references, and what writing them
-- needs.
use Rattle.std.specs.Prelude.{◌≡◌, ℕ, ◌+◌, pos, ◌-ℤ◌, List, [], ◌∷◌, ◌++◌, length, slice_index}
use Rattle.std.specs.Prelude.{slice_set, None, Vec, Option, Some, slice_get, ◌<◌, ◌≤◌, All, Result}
use Rattle.std.specs.Prelude.{Ok, Err}
use Rattle.std.specs.declared.alloc.Global.{Global}
use Rattle.ebpf_linker.specs.Faults.{content_fault, checked_references, LeastFault}
use Rattle.ebpf_linker.specs.Functions.{relinked, SlotReference, Nothing, Faulty, Names, Among}
use Rattle.ebpf_linker.specs.Numbered.{referred, calls_at, functions_by_number}
use Rattle.ebpf_linker.specs.PrivateContracts.{content_in}
use Rattle.ebpf_linker.specs.Result.{IsLayout}
use Rattle.ebpf_linker.specs.declared.body.Body.{Body}
use Rattle.ebpf_linker.specs.declared.layout.ProgramLayout.{ProgramLayout}
use Rattle.ebpf_linker.specs.declared.link_map.PlacedReference.{PlacedReference}
use Rattle.ebpf_linker.specs.declared.reference.Reference.{Reference}
use Rattle.ebpf_linker.specs.declared.reference.Fault.{Fault}
use Rattle.ebpf_linker.specs.declared.reference.Fault.TheVariants.{ProgramTooLong, InvalidLineInfo}
use Rattle.ebpf_linker.specs.declared.reference.Target.{Target}
use Rattle.ebpf_linker.specs.declared.reference.Target.TheVariants.{Function, Nowhere}
use Rattle.ebpf_parts.specs.Slots.{is_pseudo_call}
use Rattle.ebpf_parts.specs.declared.insn.bpf_insn.{bpf_insn}

-- ---- the slots of a linked program, by the bases of the copies

-- the slots of function k
abbrev pub body_at : List Body → ℕ → List bpf_insn
body_at B k = (content_in B k).slots

-- a slot at this place
abbrev pub linked_slot : List ℕ → ℕ → SlotReference ℕ Fault → bpf_insn → bpf_insn
linked_slot bases place Nothing s = s
linked_slot bases place (Faulty e) s = s
linked_slot bases place (Names k) s = relinked s (pos (slice_index bases k) -ℤ pos (place + 1))

-- slots i and later of a function, the first at this place
abbrev pub copied_slots : List ℕ → List Reference → ℕ → ℕ → List bpf_insn → List bpf_insn
copied_slots bases cs place i [] = []
copied_slots bases cs place i (s ∷ body) =
    linked_slot bases place (referred cs i) s ∷ copied_slots bases cs (place + 1) (i + 1) body

-- copies of these functions, the first at this place
abbrev pub linked_copies : List Body → List (Vec Reference Global) → List ℕ → ℕ → List ℕ
    → List bpf_insn
linked_copies B C bases place [] = []
linked_copies B C bases place (k ∷ ks) =
    copied_slots bases (calls_at C k) place 0 (body_at B k)
    ++ linked_copies B C bases (place + length (body_at B k)) ks

-- bases, with the places at which these functions begin, the first at end
abbrev pub with_bases : List Body → ℕ → List ℕ → List ℕ → List ℕ
with_bases B end bases [] = bases
with_bases B end bases (k ∷ ks) =
    with_bases B (end + length (body_at B k)) (slice_set bases k end) ks

-- how many slots these functions have
abbrev pub bodies_slot_count : List Body → List ℕ → ℕ
bodies_slot_count B [] = 0
bodies_slot_count B (k ∷ ks) = length (body_at B k) + bodies_slot_count B ks

-- each of these functions can have its copy, the first at this place
abbrev pub Fit : List Body → ℕ → List ℕ → Type 0
Fit B place [] = Unit {0}
Fit B place (k ∷ ks) =
    (content_fault (content_in B k) place (ProgramTooLong k) (InvalidLineInfo k) ≡ None)
    × Fit B (place + length (body_at B k)) ks

-- ---- the references of the copies of functions, from the lists of references

-- the reference of a slot at this place, by where it leads and by where functions begin
abbrev pub linked_reference_by : List ℕ → ℕ → bpf_insn → Target → Option PlacedReference
linked_reference_by bases place s (Function k) =
    Some (record { place = place; base = slice_index bases k; is_call = is_pseudo_call s })
linked_reference_by bases place s (Nowhere e) = None

abbrev pub linked_reference_at : List ℕ → ℕ → Target → Option bpf_insn → Option PlacedReference
linked_reference_at bases place target None = None
linked_reference_at bases place target (Some s) = linked_reference_by bases place s target

-- that of a function whose copy begins at a base
abbrev pub linked_reference : List ℕ → ℕ → List bpf_insn → Reference → Option PlacedReference
linked_reference bases base body c =
    linked_reference_at bases (base + c.slot) c.target (slice_get body c.slot)

abbrev pub with_linked_reference : Option PlacedReference → List PlacedReference
    → List PlacedReference
with_linked_reference None rs = rs
with_linked_reference (Some r) rs = r ∷ rs

-- those of a function whose copy begins at a base
abbrev pub references_of_copy : List ℕ → ℕ → List bpf_insn → List Reference → List PlacedReference
references_of_copy bases base body [] = []
references_of_copy bases base body (c ∷ cs) =
    with_linked_reference (linked_reference bases base body c)
    (references_of_copy bases base body cs)

-- those of copies of these functions, the first at a base
abbrev pub references_of_copies : List Body → List (Vec Reference Global) → List ℕ → ℕ → List ℕ
    → List PlacedReference
references_of_copies B C bases base [] = []
references_of_copies B C bases base (k ∷ ks) =
    references_of_copy bases base (body_at B k) (calls_at C k)
    ++ references_of_copies B C bases (base + length (body_at B k)) ks

-- ---- what writing a program needs of the functions that it is linked with

-- these are the functions that the program p is linked with: each is there, and can have its copy
pub record IsReady (B : List Body) (C : List (Vec Reference Global)) (p : ℕ) (ks : List ℕ)
    : Type 0 where
  pub layout : IsLayout (functions_by_number B C) p ks
  pub start : p < length B
  pub copies : All (λ k. k < length B) ks
  pub order : All (λ k. k < length B) (p ∷ ks)
  pub fit : Fit B (length (body_at B p)) ks
  pub short : (k : ℕ)
      → 0 < length (calls_at C k)
      → Among (p ∷ ks) k
      → bodies_slot_count B (p ∷ ks) ≤ 2147483647

-- the layout of a program: the program, and the functions that it is linked with
abbrev pub IsLaidOut : List Body → List (Vec Reference Global) → ProgramLayout → Type 0
IsLaidOut B C l = (ks : List ℕ) × (l.order.items ≡ l.start ∷ ks) × IsReady B C l.start ks

-- the layout of the program p, or the least fault
abbrev pub IsLayoutAnswer : List Body → List (Vec Reference Global) → ℕ → Result ProgramLayout Fault
    → Type 0
IsLayoutAnswer B C p (Ok l) = (l.start ≡ p) × IsLaidOut B C l
IsLayoutAnswer B C p (Err e) =
    LeastFault (functions_by_number B C) (checked_references (functions_by_number B C) p) p e
