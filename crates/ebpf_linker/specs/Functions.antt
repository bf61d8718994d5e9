-- Functions by their keys, what their slots refer to and do, and what a linked program is.
use Rattle.std.specs.Prelude.{ℕ, ◌/◌, ◌%◌, ℤ, pos, negsuc, Bool, ◌&&◌, ◌||◌, not, ◌==◌}
use Rattle.std.specs.Prelude.{if◌then◌else◌, List, Option, None, slice_get, ◌≡◌, ◌+◌, ◌-ℤ◌, ◌⊎◌, []}
use Rattle.std.specs.Prelude.{◌∷◌, length, Some}
use Rattle.ebpf_btf_ext.specs.declared.ext_infos.bpf_func_info.{bpf_func_info}
use Rattle.ebpf_btf_ext.specs.declared.ext_infos.bpf_line_info.{bpf_line_info}
use Rattle.ebpf_parts.specs.Slots.{class_jmp, class_jmp32, exit, ld_imm64, ja, ja32, pseudo_func}
use Rattle.ebpf_parts.specs.Slots.{dst_of, registers, is_pseudo_call}
use Rattle.ebpf_parts.specs.declared.insn.bpf_insn.{bpf_insn}

-- ---- what a slot does to the flow of control (RFC 9669, sections 4.3 and 5.4)

-- where control goes after a slot
pub data Flow : Type 0 where
  Return : Flow
  PseudoCall : Flow
  WideLoad : Flow
  Jump : (by : ℤ) → Flow
  Branch : (by : ℤ) → Flow
  Next : Flow

-- a jump that a condition decides: class 5 or 6, the operation none of 0 (always), 8 (call) and 9
-- (exit)
abbrev pub is_branch : ℕ → Bool
is_branch code =
    ((code % 8 == class_jmp) || (code % 8 == class_jmp32))
    && (not (code / 16 == 0) && (not (code / 16 == 8) && not (code / 16 == 9)))

unfoldable pub flow : bpf_insn → Flow
flow slot =
    if slot.code == exit then Return
    else (if is_pseudo_call slot then PseudoCall
    else (if slot.code == ld_imm64 then WideLoad
    else (if slot.code == ja then Jump slot.off
    else (if slot.code == ja32 then Jump slot.imm
    else (if is_branch slot.code then Branch slot.off else Next)))))

-- the slot at a whole number, which has none below 0 or past the end
abbrev pub slot_at_integer : List bpf_insn → ℤ → Option bpf_insn
slot_at_integer slots (pos n) = slice_get slots n
slot_at_integer slots (negsuc n) = None

-- a slot that names this distance to what it refers to
abbrev pub relinked : bpf_insn → ℤ → bpf_insn
relinked slot d =
    record slot {
      imm = d;
      regs = (if is_pseudo_call slot then slot.regs else registers pseudo_func (dst_of slot));
    }

-- ---- functions by their keys, what their slots refer to, and what a linked program is

-- what a slot refers to: no function, one that can't be had, or the function at a key
pub data SlotReference (K E : Type 0) : Type 0 where
  Nothing : SlotReference K E
  Faulty : E → SlotReference K E
  Names : K → SlotReference K E

-- what the slots of functions refer to
abbrev pub References : Type 0 → Type 0 → Type 0
References K E = K → ℕ → SlotReference K E

-- a function: its slots, and its func info and line info
pub record FunctionContent : Type 0 where
  pub slots : List bpf_insn
  pub func_info : List bpf_func_info
  pub line_info : List bpf_line_info

-- Functions: what stands at each key that is one, what slot i of the function at a key refers to,
-- and the names of what may be wrong with the function at a key.
pub record Functions (K E : Type 0) : Type 0 where
  pub content : K → Option FunctionContent
  pub reference : References K E
  pub mismatch : K → E
  pub too_long : K → E
  pub stray_line : K → E

abbrev pub or_empty : Option FunctionContent → FunctionContent
or_empty None = record { slots = []; func_info = []; line_info = [] }
or_empty (Some c) = c

module _ {K : Type 0} where
  abbrev pub Among : List K → K → Type 0
  Among [] k = ⊥
  Among (m ∷ ks) k = (m ≡ k) ⊎ Among ks k

  abbrev pub Distinct : List K → Type 0
  Distinct [] = Unit {0}
  Distinct (m ∷ ks) = (Among ks m → ⊥) × Distinct ks

  -- the last of some keys, or from where there are none
  abbrev pub last_key_or : K → List K → K
  last_key_or from [] = from
  last_key_or from (k ∷ ks) = last_key_or k ks

module _ {K E : Type 0} where
  -- the function at a key, or an empty one
  abbrev pub content_at : Functions K E → K → FunctionContent
  content_at F k = or_empty (F.content k)

  abbrev pub body : Functions K E → K → List bpf_insn
  body F k = (content_at F k).slots

  -- from the function at a key, these slots lead to these keys, one after the other
  abbrev pub Walk : References K E → K → List ℕ → List K → Type 0
  Walk R from [] [] = Unit {0}
  Walk R from (x ∷ path) (k ∷ keys) = (R from x ≡ Names k) × Walk R k path keys
  Walk R from [] (k ∷ keys) = ⊥
  Walk R from (x ∷ path) [] = ⊥

  abbrev pub Reached : References K E → K → K → Type 0
  Reached R p k =
      (x : ℕ)
      × (path : List ℕ)
      × (keys : List K)
      × Walk R p (x ∷ path) keys
      × (last_key_or p keys ≡ k)

  -- how many slots these functions have
  abbrev pub total : Functions K E → List K → ℕ
  total F [] = 0
  total F (k ∷ ks) = length (body F k) + total F ks

  -- one after the other, one of these functions is k and begins at b
  abbrev pub BeginsAt : Functions K E → List K → K → ℕ → Type 0
  BeginsAt F [] k b = ⊥
  BeginsAt F (m ∷ ks) k b =
      ((m ≡ k) × (b ≡ 0)) ⊎ ((c : ℕ) × (b ≡ length (body F m) + c) × BeginsAt F ks k c)

-- a slot s, at this place of the linked program of p and the functions ks, has become t
abbrev pub Becomes : {K E : Type 0} → Functions K E → K → List K → ℕ → SlotReference K E
    → bpf_insn → bpf_insn → Type 0
Becomes F p ks place Nothing s t = t ≡ s
Becomes F p ks place (Faulty e) s t = ⊥
Becomes F p ks place (Names k) s t =
    (c : ℕ) × BeginsAt F ks k c × (t ≡ relinked s (pos (length (body F p) + c) -ℤ pos (place + 1)))

-- out is p and then each of the functions ks, with what their slots have become
pub record Linked {K E : Type 0} (F : Functions K E) (p : K) (ks : List K) (out : List bpf_insn)
    : Type 0 where
  pub size : length out ≡ total F (p ∷ ks)
  pub slots : (k : K) (b i : ℕ) (s : bpf_insn)
      → BeginsAt F (p ∷ ks) k b
      → slice_get (body F k) i ≡ Some s
      → (t : bpf_insn)
      × (slice_get out (b + i) ≡ Some t)
      × Becomes F p ks (b + i) (F.reference k i) s t
