-- What linking the programs of an object gives, and what the linked program of each is made of.
use Rattle.std.specs.Prelude.{◌≡◌, List, map, Some, ◌<◌, ℕ, ◌∷◌, slice_get, unwrap_or, MatchOption}
use Rattle.std.specs.FinMap.{FinMap, get, contains_key}
use Rattle.std.specs.List.{list_any}
use Rattle.std.specs.Ordering.{eq_by_cmp}
use Rattle.ebpf_base.specs.Maps.{key_cmp}
use Rattle.ebpf_linker.specs.Behaviour.{SameBehaviour, History}
use Rattle.ebpf_linker.specs.Faults.{LeastFault, checked_references}
use Rattle.ebpf_linker.specs.LinkMap.{CopyOf, IsLinkMap}
use Rattle.ebpf_linker.specs.Machine.{SameVisits, OnCallsOrLoads}
use Rattle.ebpf_linker.specs.Result.{IsProgram}
use Rattle.ebpf_linker.specs.declared.body.LinkedProgram.{LinkedProgram}
use Rattle.ebpf_model.specs.Symbols.{FunctionKey, key_address, key_section}
use Rattle.ebpf_model.specs.declared.error.EbpfRelocationError.{EbpfRelocationError}
use Rattle.ebpf_model.specs.declared.error.RelocationError.{RelocationError}
use Rattle.ebpf_model.specs.declared.error.RelocationError.TheVariants.{UnknownProgram}
use Rattle.ebpf_model.specs.declared.function.Function.{Function}
use Rattle.ebpf_reloc.specs.References.{name_at, functions_of}
use Rattle.ebpf_reloc.specs.SlotTargets.{LinkableValue}
use Rattle.ebpf_reloc.specs.declared.link_map.CodeCopy.{CodeCopy}
use Rattle.ebpf_reloc.specs.declared.link_map.LinkMap.{LinkMap}

-- a copy, with the name of its function
abbrev pub code_copy : FinMap key_cmp Function → CopyOf FunctionKey → CodeCopy
code_copy functions c =
    record { key = c.key; name = name_at functions c.key; base = c.base; slots = c.slots }

-- m is the link map of the program at a key: that program, and each function that it reaches, in
-- the order of their key paths, with their names; and the references of them all, in the order of
-- their places
pub record IsLinkMapAt (parts : LinkableValue) (key : FunctionKey) (m : LinkMap) : Type 0 where
  pub function : Function
  pub stands : get parts.functions key ≡ Some function
  pub order : List FunctionKey
  pub copies : List (CopyOf FunctionKey)
  pub program : IsLinkMap (functions_of parts) key order copies m.references
  pub named : m.copies ≡ map (code_copy parts.functions) copies

-- ---- what linking the programs of an object gives

-- a program: its name, and the section and the address of its function
pub record ProgramValue : Type 0 where
  pub name : List ℕ
  pub section_index : ℕ
  pub address : ℕ

-- the key of a program's function
abbrev pub key_of : ProgramValue → FunctionKey
key_of program = (program.section_index, program.address)

-- a function with the slots and the records of a linked program; a count that linking does not
-- change stays
abbrev pub with_linked : Function → LinkedProgram → Function
with_linked f l = record f {
  instructions = l.slots;
  func_info =
      record f.func_info
      { num_info = unwrap_or l.func_count f.func_info.num_info; func_info = l.func_info };
  line_info =
      record f.line_info
      { num_info = unwrap_or l.line_count f.line_info.num_info; line_info = l.line_info };
}

-- The function at a key has become a linked program. It has the slots and the records of the
-- function and of each function that it reaches, in the order of their key paths.
--
-- Where each reference is on a pseudo call or a wide load, it visits the slots of the separate
-- functions, and it is in their state after every number of steps. `behaviour` is of states that
-- are histories, the law `LinkedBehaveAlike` of states of any type.
pub record IsLinked (parts : LinkableValue) (key : FunctionKey) (linked : Function) : Type 0 where
  pub function : Function
  pub stands : get parts.functions key ≡ Some function
  pub made : LinkedProgram
  pub is : linked ≡ with_linked function made
  pub order : List FunctionKey
  pub program : IsProgram (functions_of parts) key order made
  pub visits : OnCallsOrLoads (functions_of parts) (key ∷ order)
      → SameVisits (functions_of parts) key order made.slots
  pub behaviour : OnCallsOrLoads (functions_of parts) (key ∷ order)
      → SameBehaviour (History FunctionKey) (functions_of parts) key order made.slots

-- why the program at a key can't be linked: no function is there, or the least fault of its
-- references
abbrev pub IsProgramFault : LinkableValue → FunctionKey → RelocationError → Type 0
IsProgramFault parts key e =
    MatchOption (get parts.functions key) (e ≡ UnknownProgram (key_section key) (key_address key))
    (λ _. LeastFault (functions_of parts) (checked_references (functions_of parts) key) key e)

-- the refusal of a program: its name, and its fault
abbrev pub IsProgramRefusal : LinkableValue → ProgramValue → EbpfRelocationError → Type 0
IsProgramRefusal parts program e =
    (e.function ≡ program.name) × IsProgramFault parts (key_of program) e.error

-- the programs are linked, each from the functions as they stood
pub record AreLinked (parts : LinkableValue) (programs : List ProgramValue)
    (linked : FinMap key_cmp Function)
    : Type 0 where
  pub keys : (key : FunctionKey)
      → contains_key linked key ≡ list_any (λ p. eq_by_cmp key_cmp key (key_of p)) programs
  pub each : (key : FunctionKey) (g : Function) → get linked key ≡ Some g → IsLinked parts key g

-- the refusal of the first program that can't be linked
pub record IsFirstRefusal (parts : LinkableValue) (programs : List ProgramValue)
    (e : EbpfRelocationError)
    : Type 0 where
  pub index : ℕ
  pub program : ProgramValue
  pub at : slice_get programs index ≡ Some program
  pub refused : IsProgramRefusal parts program e
  pub before : (k : ℕ) (earlier : ProgramValue)
      → k < index
      → slice_get programs k ≡ Some earlier
      → (linked : Function) × IsLinked parts (key_of earlier) linked
