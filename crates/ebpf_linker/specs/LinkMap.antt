-- What a linked program is made of: the copies of functions, and the references between them.
use Rattle.std.specs.Prelude.{◌≡◌, ℕ, ◌+◌, ◌≤◌, List, [], ◌∷◌, length, map, Some, slice_get, pos}
use Rattle.std.specs.Prelude.{◌-ℤ◌}
use Rattle.ebpf_linker.specs.Functions.{Names, Functions, body, Among, BeginsAt}
use Rattle.ebpf_linker.specs.Result.{IsLayout}
use Rattle.ebpf_linker.specs.declared.link_map.NumberedCopy.{NumberedCopy}
use Rattle.ebpf_linker.specs.declared.link_map.NumberedLinkMap.{NumberedLinkMap}
use Rattle.ebpf_linker.specs.declared.link_map.PlacedReference.{PlacedReference}
use Rattle.ebpf_parts.specs.Slots.{is_pseudo_call}
use Rattle.ebpf_parts.specs.declared.insn.bpf_insn.{bpf_insn}

-- a copy of the function at a key: the place at which it begins, and how many slots it has
pub record CopyOf (K : Type 0) : Type 0 where
  pub key : K
  pub base : ℕ
  pub slots : ℕ

-- places from low on, each above the one before
abbrev pub PlacesRise : ℕ → List PlacedReference → Type 0
PlacesRise low [] = Unit {0}
PlacesRise low (r ∷ rs) = (low ≤ r.place) × PlacesRise (r.place + 1) rs

module _ {K E : Type 0} where
  -- copies of these functions, one after the other, the first at a base
  abbrev pub copies_from : Functions K E → ℕ → List K → List (CopyOf K)
  copies_from F base [] = []
  copies_from F base (k ∷ ks) =
      record { key = k; base = base; slots = length (body F k) }
      ∷ copies_from F (base + length (body F k)) ks

  -- r is a reference of p, linked with the functions ks: slot i of the copy of k that begins at b
  -- is s and refers to m, whose copy among those of ks begins c slots after the end of p
  pub record IsReference (F : Functions K E) (p : K) (ks : List K) (r : PlacedReference)
      : Type 0 where
    pub k : K
    pub b : ℕ
    pub begins : BeginsAt F (p ∷ ks) k b
    pub i : ℕ
    pub s : bpf_insn
    pub slot : slice_get (body F k) i ≡ Some s
    pub m : K
    pub names : F.reference k i ≡ Names m
    pub c : ℕ
    pub reaches : BeginsAt F ks m c
    pub place : r.place ≡ b + i
    pub base : r.base ≡ length (body F p) + c
    pub is_call : r.is_call ≡ is_pseudo_call s

  -- these are the references of p, linked with the functions ks, in the order of their places
  pub record AreReferences (F : Functions K E) (p : K) (ks : List K) (rs : List PlacedReference)
      : Type 0 where
    pub sound : (r : PlacedReference) → Among rs r → IsReference F p ks r
    pub complete : (r : PlacedReference) → IsReference F p ks r → Among rs r
    pub rises : PlacesRise 0 rs

  -- p and each function ks that its references reach, in the order of their key paths, have these
  -- copies and these references
  pub record IsLinkMap (F : Functions K E) (p : K) (ks : List K) (cs : List (CopyOf K))
      (rs : List PlacedReference)
      : Type 0 where
    pub layout : IsLayout F p ks
    pub copies : cs ≡ copies_from F 0 (p ∷ ks)
    pub references : AreReferences F p ks rs

-- a copy with the number of its function
abbrev pub numbered_copy : CopyOf ℕ → NumberedCopy
numbered_copy c = record { function = c.key; base = c.base; slots = c.slots }

-- the link map of the program p, of functions by their numbers
abbrev pub IsNumberedLinkMap : {E : Type 0} → Functions ℕ E → ℕ → NumberedLinkMap → Type 0
IsNumberedLinkMap F p m =
    (ks : List ℕ)
    × (cs : List (CopyOf ℕ))
    × IsLinkMap F p ks cs m.references
    × (m.copies ≡ map numbered_copy cs)

-- ---- what follows of a linked program and of what it is made of

-- how many slots these copies have
abbrev pub copied_slot_count : {K : Type 0} → List (CopyOf K) → ℕ
copied_slot_count [] = 0
copied_slot_count (c ∷ cs) = c.slots + copied_slot_count cs

-- A reference of a linked program with these slots and copies: it stands in one of the copies, on a
-- slot that refers to a function; the slot names the distance from the slot after it to the base of
-- a copy of that function.
pub record Lands {K E : Type 0} (F : Functions K E) (copies : List (CopyOf K))
    (slots : List bpf_insn) (r : PlacedReference)
    : Type 0 where
  pub from : CopyOf K
  pub listed : Among copies from
  pub i : ℕ
  pub place : r.place ≡ from.base + i
  pub to : CopyOf K
  pub reached : Among copies to
  pub names : F.reference from.key i ≡ Names to.key
  pub base : r.base ≡ to.base
  pub slot : bpf_insn
  pub stands : slice_get slots r.place ≡ Some slot
  pub distance : slot.imm ≡ pos r.base -ℤ pos (r.place + 1)
