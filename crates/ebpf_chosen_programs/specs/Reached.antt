-- The functions that programs reach: the function of each program, and each function to which
-- references lead from there. References are those that linking follows. One that leads to no
-- function reaches none, so the search has no error.
--
-- Example: the program `a` calls `f`, the program `b` calls `f` and `g`, and `g` calls the kernel.
-- The program `a` reaches the functions of `a` and `f`. Both programs reach all four functions.
use Rattle.std.specs.Prelude.{◌≡◌, ℕ, Bool, true, List, Some}
use Rattle.std.specs.FinMap.{FinMap, get}
use Rattle.ebpf_base.specs.Maps.{text_cmp}
use Rattle.ebpf_linker.specs.Functions.{Walk, last_key_or}
use Rattle.ebpf_model.specs.Symbols.{FunctionKey}
use Rattle.ebpf_model.specs.declared.function.Function.{Function}
use Rattle.ebpf_model.specs.declared.function.Program.{Program}
use Rattle.ebpf_object.specs.LinkedPrograms.{linkable_of}
use Rattle.ebpf_object.specs.Names.{has_function_in}
use Rattle.ebpf_object.specs.declared.object.Object.{Object}
use Rattle.ebpf_reloc.specs.References.{functions_of}
use Rattle.ebpf_reloc.specs.SlotTargets.{LinkableValue}

-- what linking reads of an object, over the sections that hold its functions
abbrev pub own_linkable : Object → LinkableValue
own_linkable o = linkable_of o (has_function_in o.functions)

-- the key of a program's function
abbrev pub program_key : Program → FunctionKey
program_key p = (p.section_index, p.address)

-- from the function at one key, references lead to the function at another, or the keys are one
abbrev pub LeadsTo : LinkableValue → FunctionKey → FunctionKey → Type 0
LeadsTo parts from key =
    (path : List ℕ)
    × (keys : List FunctionKey)
    × Walk (functions_of parts).reference from path keys
    × (last_key_or from keys ≡ key)

-- a function is at this key, and references lead there from the function of some program
abbrev pub IsReached : LinkableValue → FinMap text_cmp Program → FunctionKey → Type 0
IsReached parts programs key =
    (function : Function)
    × (get parts.functions key ≡ Some function)
    × (name : List ℕ)
    × (program : Program)
    × (get programs name ≡ Some program)
    × LeadsTo parts (program_key program) key

-- these are the keys of the functions that the programs reach, and no others
pub record AreReached (parts : LinkableValue) (programs : FinMap text_cmp Program)
    (reached : FunctionKey → Bool)
    : Type 0 where
  pub sound : (key : FunctionKey) → reached key ≡ true → IsReached parts programs key
  pub complete : (key : FunctionKey) → IsReached parts programs key → reached key ≡ true
