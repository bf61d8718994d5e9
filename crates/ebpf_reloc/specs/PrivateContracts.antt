-- What contracts of private functions name and no public one.
use Rattle.std.specs.Prelude.{◌≡◌, ℕ, ◌<◌, List, length, Vec, ◌+◌, [], ◌∷◌, Option, Some, None}
use Rattle.std.specs.declared.alloc.Global.{Global}
use Rattle.ebpf_linker.specs.declared.link_map.NumberedCopy.{NumberedCopy}
use Rattle.ebpf_linker.specs.declared.body.Body.{Body}
use Rattle.ebpf_linker.specs.declared.layout.ProgramLayout.{ProgramLayout}
use Rattle.ebpf_linker.specs.Copies.{IsLaidOut}
use Rattle.ebpf_model.specs.declared.function.Function.{Function}
use Rattle.ebpf_reloc.specs.declared.link_map.CodeCopy.{CodeCopy}
use Rattle.ebpf_reloc.specs.Numbers.{function_keys, key_in, function_name}
use Rattle.ebpf_reloc.specs.SlotTargets.{LinkableValue, slot_target_of, callback_target}
use Rattle.ebpf_model.specs.Symbols.{FunctionKey}
use Rattle.std.specs.List.{position_from}
use Rattle.std.specs.Ordering.{eq_by_cmp}
use Rattle.ebpf_base.specs.Maps.{key_cmp}
use Rattle.ebpf_linker.specs.declared.reference.Reference.{Reference}
use Rattle.ebpf_linker.specs.declared.reference.Fault.TheVariants.{UnsupportedTextSymbol}
use Rattle.ebpf_linker.specs.declared.reference.Fault.TheVariants.{UnknownFunction}
use Rattle.ebpf_linker.specs.declared.reference.Target.{Target}
use Rattle.ebpf_linker.specs.declared.reference.Target.TheVariants.{Function as ToFunction, Nowhere}
use Rattle.ebpf_parts.specs.declared.insn.bpf_insn.{bpf_insn}
use Rattle.ebpf_reloc.specs.declared.slot_target.SlotTarget.{SlotTarget}
use Rattle.ebpf_reloc.specs.declared.slot_target.SlotTarget.TheVariants.{Absent, Unsupported, At}

-- a copy, with the key and the name of the function with its number
abbrev pub named_copy : List FunctionKey → List Function → NumberedCopy → CodeCopy
named_copy keys functions c =
    record {
      key = key_in keys c.function;
      name = function_name functions c.function;
      base = c.base;
      slots = c.slots;
    }

-- the layout of the program at a key, of the functions by numbers
pub record IsLaidOutAt (parts : LinkableValue) (B : List Body) (C : List (Vec Reference Global))
    (key : FunctionKey) (l : ProgramLayout)
    : Type 0 where
  pub start : l.start < length (function_keys parts.functions)
  pub key_is : key_in (function_keys parts.functions) l.start ≡ key
  pub laid_out : IsLaidOut B C l

-- the number of a key
abbrev pub number_of_key : List FunctionKey → FunctionKey → Option ℕ
number_of_key keys key = position_from (λ k. eq_by_cmp key_cmp key k) 0 keys

abbrev pub numbered_target_by : Option ℕ → ℕ → ℕ → Target
numbered_target_by None caller address = Nowhere (UnknownFunction address caller)
numbered_target_by (Some number) caller address = ToFunction number

-- the target of a slot of the function with this number, by what the slot refers to
abbrev pub numbered_target : List FunctionKey → ℕ → SlotTarget → Option Target
numbered_target keys caller Absent = None
numbered_target keys caller (Unsupported index) = Some (Nowhere (UnsupportedTextSymbol index))
numbered_target keys caller (At section address) =
    Some (numbered_target_by (number_of_key keys (section, address)) caller address)

abbrev pub numbered_target_at : LinkableValue → List FunctionKey → ℕ → Function → ℕ → bpf_insn
    → Option Target
numbered_target_at parts keys caller f i slot =
    numbered_target keys caller (slot_target_of parts f i slot)

abbrev pub with_call : ℕ → Option Target → List Reference → List Reference
with_call i None calls = calls
with_call i (Some target) calls = record { slot = i; target = target } ∷ calls

-- the calls of slots that are numbered from i on, by where each leads, and behind the last slot the
-- call of a last target
abbrev pub calls_by : (ℕ → bpf_insn → Option Target) → Option Target → ℕ → List bpf_insn
    → List Reference
calls_by leads last i [] = with_call i last []
calls_by leads last i (slot ∷ slots) =
    with_call i (leads i slot) (calls_by leads last (i + 1) slots)

-- the calls of the slots of the function with this number
abbrev pub calls_of_slots : LinkableValue → List FunctionKey → ℕ → Function → List Reference
calls_of_slots parts keys caller f =
    calls_by (numbered_target_at parts keys caller f) None 0 f.instructions

-- the target of the exception callback of the function with this number
abbrev pub numbered_callback : LinkableValue → List FunctionKey → ℕ → Function → Option Target
numbered_callback parts keys caller f = numbered_target keys caller (callback_target parts f)

-- the calls of the function with this number, and behind its last slot that of its callback
abbrev pub calls_of : LinkableValue → List FunctionKey → ℕ → Function → List Reference
calls_of parts keys caller f =
    calls_by (numbered_target_at parts keys caller f) (numbered_callback parts keys caller f) 0
    f.instructions

-- the calls of functions that are numbered from n on
abbrev pub calls_from : LinkableValue → List FunctionKey → ℕ → List Function → List (List Reference)
calls_from parts keys n [] = []
calls_from parts keys n (f ∷ fs) = calls_of parts keys n f ∷ calls_from parts keys (n + 1) fs
