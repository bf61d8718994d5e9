-- The functions numbered in the order of their keys, and their references by numbers.
use Rattle.std.specs.Prelude.{ℕ, List, map, slice_get, slice_index_or}
use Rattle.std.specs.FinMap.{FinMap, entries}
use Rattle.std.specs.Map.{keys_of}
use Rattle.ebpf_base.specs.Maps.{key_cmp}
use Rattle.ebpf_linker.specs.declared.reference.Fault.{Fault}
use Rattle.ebpf_linker.specs.declared.reference.Fault.TheVariants.{UnsupportedTextSymbol}
use Rattle.ebpf_linker.specs.declared.reference.Fault.TheVariants.{UnknownFunction}
use Rattle.ebpf_linker.specs.declared.reference.Fault.TheVariants.{FunctionInfoMismatch}
use Rattle.ebpf_linker.specs.declared.reference.Fault.TheVariants.{ProgramTooLong, InvalidLineInfo}
use Rattle.ebpf_model.specs.Symbols.{FunctionKey}
use Rattle.ebpf_model.specs.declared.error.RelocationError.{RelocationError}
use Rattle.ebpf_model.specs.declared.error.RelocationError.TheVariants.{UnsupportedTextSymbol as NoTextSymbol}
use Rattle.ebpf_model.specs.declared.error.RelocationError.TheVariants.{UnknownFunction as NoFunction}
use Rattle.ebpf_model.specs.declared.error.RelocationError.TheVariants.{FunctionInfoMismatch as Mismatch}
use Rattle.ebpf_model.specs.declared.error.RelocationError.TheVariants.{ProgramTooLong as TooLong}
use Rattle.ebpf_model.specs.declared.error.RelocationError.TheVariants.{InvalidLineInfo as StrayLine}
use Rattle.ebpf_model.specs.declared.function.Function.{Function}
use Rattle.ebpf_reloc.specs.References.{function_name_or_empty}
use Rattle.ebpf_reloc.specs.SlotTargets.{LinkableValue}

-- the keys of the functions in their order: the number of a function is the place of its key
abbrev pub function_keys : FinMap key_cmp Function → List FunctionKey
function_keys functions = keys_of (entries functions)

-- the functions in that order
abbrev pub function_list : FinMap key_cmp Function → List Function
function_list functions = map (λ e. e.1) (entries functions)

-- the key of a number
abbrev pub key_in : List FunctionKey → ℕ → FunctionKey
key_in keys number = slice_index_or keys number (0, 0)

-- the key of the function with a number
abbrev pub key_of_number : LinkableValue → ℕ → FunctionKey
key_of_number parts number = key_in (function_keys parts.functions) number

-- the name of the function with a number
abbrev pub function_name : List Function → ℕ → List ℕ
function_name functions number = function_name_or_empty (slice_get functions number)

-- a fault, with the names of functions for their numbers
abbrev pub with_function_names : List Function → Fault → RelocationError
with_function_names functions (UnsupportedTextSymbol index) = NoTextSymbol index
with_function_names functions (UnknownFunction address caller) =
    NoFunction address (function_name functions caller)
with_function_names functions (FunctionInfoMismatch callee) =
    Mismatch (function_name functions callee)
with_function_names functions (ProgramTooLong callee) = TooLong (function_name functions callee)
with_function_names functions (InvalidLineInfo callee) = StrayLine (function_name functions callee)
