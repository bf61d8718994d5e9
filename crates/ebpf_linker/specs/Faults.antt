-- The faults of linking a program, their places, and the least fault: the first that a depth-first
-- walk by slot meets. The refusal of a program is its least fault.
--
-- The place of a fault is a path and a slot, read as one list of slot numbers. There are two kinds:
-- a slot that refers to something that can't be had, and a function that can't have a copy. The
-- place of the second is the slot at the end of the function's key path.
--
-- Example: P's slot 0 refers to f, P's slot 1 to g. f's slot 2 refers to a function of a missing
-- section. g has a line record before its first. The first fault has the place 0.2, the second the
-- place 1. 0.2 is before 1, so the least fault is that of f's slot 2.
--
-- Example of a copy: line records at the slots 8 and 5. The first one says that the function begins
-- at slot 8, so the second is before it, and the function can't have a copy (`fault_of_example` in
-- proofs/Examples.antt computes it).
use Rattle.std.specs.Prelude.{◌≡◌, ℕ, ◌+◌, ◌-◌, ◌^◌, Bool, true, false, not, ◌||◌, if◌then◌else◌}
use Rattle.std.specs.Prelude.{nat_lt, nat_le, ◌⊎◌, List, [], ◌∷◌, ◌++◌, length, Option, Some}
use Rattle.std.specs.List.{list_any}
use Rattle.ebpf_base.specs.Faults.{first_of}
use Rattle.ebpf_btf_ext.specs.declared.ext_infos.bpf_line_info.{bpf_line_info}
use Rattle.ebpf_linker.specs.Functions.{SlotReference, Nothing, Faulty, Names, References}
use Rattle.ebpf_linker.specs.Functions.{FunctionContent, Functions, content_at, Among, Distinct}
use Rattle.ebpf_linker.specs.Functions.{total}
use Rattle.ebpf_linker.specs.Order.{Before, KeyPath, HasReferenceFault}

abbrev pub same : Bool → Bool → Bool
same true b = b
same false b = not b

abbrev pub has_some : {X : Type 0} → List X → Bool
has_some [] = false
has_some (x ∷ xs) = true

-- the number that a function's line records count from
abbrev pub first_line : List bpf_line_info → ℕ
first_line [] = 0
first_line (line ∷ lines) = line.insn_off

-- a line record before the first one, or past 32 bits once the function's copy begins at the base
abbrev pub is_stray : ℕ → ℕ → bpf_line_info → Bool
is_stray first base line =
    nat_lt line.insn_off first || nat_le (2 ^ 32) (line.insn_off - first + base)

abbrev pub has_stray : ℕ → List bpf_line_info → Bool
has_stray base lines = list_any (is_stray (first_line lines) base) lines

-- the reason why a function can't have a copy at a base: the program would have more than
-- 2,147,483,647 slots, or a line record can't be moved
abbrev pub content_fault : {E : Type 0} → FunctionContent → ℕ → E → E → Option E
content_fault c base too_long stray_line =
    first_of
    ((nat_lt 2147483647 (base + length c.slots), too_long)
    ∷ (has_stray base c.line_info, stray_line)
    ∷ [])

module _ {K E : Type 0} where
  -- both functions have func info records, or neither has
  abbrev pub func_info_agrees : Functions K E → K → K → Bool
  func_info_agrees F p k =
      same (has_some (content_at F k).func_info) (has_some (content_at F p).func_info)

  -- a reference of a slot, in the program that begins with p
  abbrev pub checked : Functions K E → K → SlotReference K E → SlotReference K E
  checked F p Nothing = Nothing
  checked F p (Faulty e) = Faulty e
  checked F p (Names k) = if func_info_agrees F p k then Names k else Faulty (F.mismatch k)

  -- the references of all slots, in the program that begins with p
  abbrev pub checked_references : Functions K E → K → References K E
  checked_references F p k x = checked F p (F.reference k x)

  -- the reason why the function at a key can't have a copy at a base
  abbrev pub append_fault : Functions K E → K → ℕ → Option E
  append_fault F k base = content_fault (content_at F k) base (F.too_long k) (F.stray_line k)

  -- b is the number of slots of the program and of the functions whose key path is before this one
  pub record Base (F : Functions K E) (R : References K E) (p : K) (path : List ℕ) (b : ℕ)
      : Type 0 where
    pub earlier : List K
    pub once : Distinct earlier
    pub before : (m : K) → Among earlier m → (x : List ℕ) × KeyPath R p m x × Before x path
    pub all : (m : K) (x : List ℕ) → KeyPath R p m x → Before x path → Among earlier m
    pub size : b ≡ total F (p ∷ earlier)

  -- the function with this key path can't have a copy at its base
  pub record CopyFault (F : Functions K E) (R : References K E) (p : K) (path : List ℕ) (e : E)
      : Type 0 where
    pub key : K
    pub base : ℕ
    pub path_is : KeyPath R p key path
    pub base_is : Base F R p path base
    pub fault : append_fault F key base ≡ Some e

  -- the fault e has this path and slot x: the slot refers to something that can't be had, or the
  -- path with x at its end is the key path of a function that can't have a copy
  abbrev pub FaultStandsAt : Functions K E → References K E → K → List ℕ → ℕ → E → Type 0
  FaultStandsAt F R p path x e = HasReferenceFault R p path x e ⊎ CopyFault F R p (path ++ x ∷ []) e

  -- there is no fault
  abbrev pub Faultless : Functions K E → References K E → K → Type 0
  Faultless F R p = (path : List ℕ) (x : ℕ) (e : E) → FaultStandsAt F R p path x e → ⊥

  -- the fault e has a place before which there is no fault
  pub record LeastFault (F : Functions K E) (R : References K E) (p : K) (e : E) : Type 0 where
    pub path : List ℕ
    pub slot : ℕ
    pub stands : FaultStandsAt F R p path slot e
    pub none_before : (other : List ℕ) (y : ℕ) (d : E)
        → FaultStandsAt F R p other y d
        → Before (other ++ y ∷ []) (path ++ slot ∷ [])
        → ⊥
