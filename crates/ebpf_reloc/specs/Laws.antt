-- What follows of linked programs from what linking promises.
use Rattle.std.specs.Prelude.{◌≡◌, ◌+◌, ℕ, List, ◌∷◌, Some, Result, Ok, Err, slice_get, ◌<◌, []}
use Rattle.std.specs.Prelude.{map, length}
use Rattle.std.specs.FinMap.{FinMap}
use Rattle.ebpf_base.specs.Maps.{key_cmp}
use Rattle.ebpf_linker.specs.Behaviour.{SameBehaviour}
use Rattle.ebpf_linker.specs.Functions.{Nothing, BeginsAt, body, Among}
use Rattle.ebpf_linker.specs.LinkMap.{CopyOf, Lands, copied_slot_count}
use Rattle.ebpf_linker.specs.Machine.{OnCallsOrLoads}
use Rattle.ebpf_linker.specs.declared.link_map.PlacedReference.{PlacedReference}
use Rattle.ebpf_model.specs.Symbols.{FunctionKey}
use Rattle.ebpf_model.specs.declared.error.EbpfRelocationError.{EbpfRelocationError}
use Rattle.ebpf_model.specs.declared.function.Function.{Function}
use Rattle.ebpf_parts.specs.declared.insn.bpf_insn.{bpf_insn}
use Rattle.ebpf_reloc.specs.Linking.{IsLinkMapAt, ProgramValue, IsLinked, AreLinked, IsFirstRefusal}
use Rattle.ebpf_reloc.specs.Linking.{key_of, IsProgramRefusal}
use Rattle.ebpf_reloc.specs.References.{functions_of}
use Rattle.ebpf_reloc.specs.SlotTargets.{LinkableValue}
use Rattle.ebpf_reloc.specs.declared.link_map.CodeCopy.{CodeCopy}
use Rattle.ebpf_reloc.specs.declared.link_map.LinkMap.{LinkMap}

-- what linking may answer, out of memory aside
abbrev pub IsAnswer : LinkableValue
    → List ProgramValue
    → Result (FinMap key_cmp Function) EbpfRelocationError
    → Type 0
IsAnswer parts programs (Ok linked) = AreLinked parts programs linked
IsAnswer parts programs (Err e) = IsFirstRefusal parts programs e

-- any two of these answers are equal
abbrev pub OneResult : Type 0
OneResult =
    (parts : LinkableValue) (programs : List ProgramValue)
    (r s : Result (FinMap key_cmp Function) EbpfRelocationError)
    → IsAnswer parts programs r → IsAnswer parts programs s → r ≡ s

-- a program at a key is linked in one way alone: one function, with its copies in one order
abbrev pub OneProgram : Type 0
OneProgram =
    (parts : LinkableValue) (key : FunctionKey) (f g : Function) (a : IsLinked parts key f)
    (b : IsLinked parts key g)
    → (f ≡ g) × (a.order ≡ b.order)

-- slot i of the function at a key is this one, and refers to nothing
abbrev pub RefersToNothing : LinkableValue → FunctionKey → ℕ → bpf_insn → Type 0
RefersToNothing parts key i slot =
    (slice_get (body (functions_of parts) key) i ≡ Some slot)
    × ((functions_of parts).reference key i ≡ Nothing)

-- such a slot of the program is at its place in the linked program
abbrev pub OwnSlotsStay : Type 0
OwnSlotsStay =
    (parts : LinkableValue) (key : FunctionKey) (linked : Function) → IsLinked parts key linked
    → (i : ℕ) (slot : bpf_insn)
    → RefersToNothing parts key i slot
    → slice_get linked.instructions i ≡ Some slot

-- such a slot of a function that the program reaches is in each copy, at the base of the copy
-- plus its number
abbrev pub CopiedSlotsStay : Type 0
CopiedSlotsStay =
    (parts : LinkableValue) (key : FunctionKey) (linked : Function) (is : IsLinked parts key linked)
    → (copied : FunctionKey) (base i : ℕ) (slot : bpf_insn)
    → BeginsAt (functions_of parts) (key ∷ is.order) copied base
    → RefersToNothing parts copied i slot → slice_get linked.instructions (base + i) ≡ Some slot

-- Under every semantics over these states, from every start and after every number of steps, a
-- linked program is in the state of the separate functions, at the corresponding slot.
abbrev pub LinkedBehaveAlike : (S : Type 0) → Type 0
LinkedBehaveAlike S =
    (parts : LinkableValue) (key : FunctionKey) (linked : Function) (is : IsLinked parts key linked)
    → OnCallsOrLoads (functions_of parts) (key ∷ is.order)
    → SameBehaviour S (functions_of parts) key is.order linked.instructions

-- ---- what follows of a linked program from what it is made of

-- a copy, without its name
abbrev pub copy_of : CodeCopy → CopyOf FunctionKey
copy_of c = record { key = c.key; base = c.base; slots = c.slots }

-- a program has one link map, with its copies in one order
abbrev pub OneLinkMap : Type 0
OneLinkMap =
    (parts : LinkableValue) (key : FunctionKey) (m n : LinkMap) (a : IsLinkMapAt parts key m)
    (b : IsLinkMapAt parts key n)
    → (m ≡ n) × (a.order ≡ b.order)

-- what may be answered where the link map of a program is wanted, out of memory aside
abbrev pub IsProgramLinkMapAnswer : LinkableValue → ProgramValue
    → Result LinkMap EbpfRelocationError → Type 0
IsProgramLinkMapAnswer parts program (Ok m) = IsLinkMapAt parts (key_of program) m
IsProgramLinkMapAnswer parts program (Err e) = IsProgramRefusal parts program e

-- any two of these answers are equal
abbrev pub OneLinkMapAnswer : Type 0
OneLinkMapAnswer =
    (parts : LinkableValue) (program : ProgramValue) (r s : Result LinkMap EbpfRelocationError)
    → IsProgramLinkMapAnswer parts program r → IsProgramLinkMapAnswer parts program s → r ≡ s

-- neither refuses, or both do with one error
abbrev pub RefuseAlike : Result LinkMap EbpfRelocationError
    → Result (FinMap key_cmp Function) EbpfRelocationError
    → Type 0
RefuseAlike (Ok m) (Ok linked) = Unit {0}
RefuseAlike (Err d) (Err e) = d ≡ e
RefuseAlike (Ok m) (Err e) = ⊥
RefuseAlike (Err d) (Ok linked) = ⊥

-- the link map of a program is refused where linking that program alone is
abbrev pub RefusedAsLinking : Type 0
RefusedAsLinking =
    (parts : LinkableValue) (program : ProgramValue) (r : Result LinkMap EbpfRelocationError)
    (s : Result (FinMap key_cmp Function) EbpfRelocationError)
    → IsProgramLinkMapAnswer parts program r → IsAnswer parts (program ∷ []) s → RefuseAlike r s

-- the link map of a linked program: it has the same copies in the same order, which have all its
-- slots, and the slot at the place of each reference holds the distance to the listed copy of the
-- function that it refers to
pub record MatchesLinked (parts : LinkableValue) (key : FunctionKey) (m : LinkMap)
    (linked : Function) (a : IsLinkMapAt parts key m) (b : IsLinked parts key linked)
    : Type 0 where
  pub order : a.order ≡ b.order
  pub size : copied_slot_count (map copy_of m.copies) ≡ length linked.instructions
  pub lands : (r : PlacedReference)
      → Among m.references r
      → Lands (functions_of parts) (map copy_of m.copies) linked.instructions r

-- a link map of a program is that of the linked program
abbrev pub LinkMapsMatch : Type 0
LinkMapsMatch =
    (parts : LinkableValue) (key : FunctionKey) (m : LinkMap) (linked : Function)
    (a : IsLinkMapAt parts key m) (b : IsLinked parts key linked)
    → MatchesLinked parts key m linked a b

-- a program that has a link map can be linked
abbrev pub WithLinkMapAreLinked : Type 0
WithLinkMapAreLinked =
    (parts : LinkableValue) (key : FunctionKey) (m : LinkMap)
    → IsLinkMapAt parts key m
    → (linked : Function) × IsLinked parts key linked

-- the refusal of the first program without a link map is that of linking them all
abbrev pub FirstWithoutLinkMap : Type 0
FirstWithoutLinkMap =
    (parts : LinkableValue) (programs : List ProgramValue) (index : ℕ) (program : ProgramValue)
    (e : EbpfRelocationError)
    → slice_get programs index ≡ Some program → IsProgramRefusal parts program e
    → ((k : ℕ) (earlier : ProgramValue)
    → k < index
    → slice_get programs k ≡ Some earlier
    → (m : LinkMap) × IsLinkMapAt parts (key_of earlier) m)
    → IsFirstRefusal parts programs e

-- programs that all have link maps are not refused
abbrev pub AllWithLinkMaps : Type 0
AllWithLinkMaps = (parts : LinkableValue) (programs : List ProgramValue)
    → ((k : ℕ) (program : ProgramValue)
    → slice_get programs k ≡ Some program
    → (m : LinkMap) × IsLinkMapAt parts (key_of program) m)
    → (e : EbpfRelocationError) → IsFirstRefusal parts programs e → ⊥
