-- The global variables of an object: the symbols that have some bytes, all of them inside the data
-- of a map; the value of one, as its bytes stand there; and why a value can't be written.
use Rattle.std.specs.Prelude.{ℕ, ◌+◌, ◌==◌, nat_le, Bool, true, false, List, length, take, drop}
use Rattle.std.specs.Prelude.{Option, Some, None, option_map, if◌then◌else◌}
use Rattle.std.specs.FinMap.{FinMap, empty, get, entries, insert}
use Rattle.std.specs.List.{filter_map, find}
use Rattle.std.specs.Option.{option_and_then}
use Rattle.std.specs.Ordering.{nat_cmp}
use Rattle.ebpf_base.specs.Maps.{text_cmp}
use Rattle.ebpf_model.specs.declared.symbol.Symbol.{Symbol}
use Rattle.ebpf_parts.specs.Maps.{bytes_of, section_index_of}
use Rattle.ebpf_parts.specs.declared.maps.either.Map.{Map}
use Rattle.ebpf_object.specs.Patches.{Global, symbol_indices, symbol_named}
use Rattle.ebpf_object.specs.declared.object.Object.{Object}
use Rattle.ebpf_object.specs.declared.variables.Variable.{Variable}
use Rattle.ebpf_object.specs.declared.variables.VariableError.{VariableError}
use Rattle.ebpf_object.specs.declared.variables.VariableError.TheVariants.{NotAVariable, WrongSize}
use Rattle.ebpf_object.specs.declared.variables.VariableError.TheVariants.{OutOfMemory}

-- ---- where a symbol's bytes are

-- the bytes at an offset of a block, where it is inside
abbrev pub bytes_in : List ℕ → ℕ → ℕ → Option (List ℕ)
bytes_in bytes at count =
    if nat_le (at + count) (length bytes) then Some (take count (drop at bytes)) else None

-- the first map, in byte order of the names, whose section it is
abbrev pub map_of_section : List (List ℕ × Map) → Option ℕ → Option (List ℕ × Map)
map_of_section maps None = None
map_of_section maps (Some section) = find (λ e. section == section_index_of e.1) maps

-- the bytes that a symbol names in the data of a map, where they are inside
abbrev pub symbol_bytes : List (List ℕ × Map) → Symbol → Option (List ℕ)
symbol_bytes maps s =
    option_and_then (λ e. bytes_in (bytes_of e.1) s.address s.size)
    (map_of_section maps s.section_index)

-- the name of the map that has a symbol's bytes, where it has some
abbrev pub map_if_inside : Symbol → List ℕ × Map → Option (List ℕ)
map_if_inside s e = if nat_le (s.address + s.size) (length (bytes_of e.1)) then Some e.0 else None

abbrev pub variable_map : List (List ℕ × Map) → Symbol → Option (List ℕ)
variable_map maps s =
    if s.size == 0
    then None
    else option_and_then (map_if_inside s) (map_of_section maps s.section_index)

-- ---- all variables, in byte order of their names

-- the name of the map of a variable, and its symbol
abbrev pub variable_at : FinMap nat_cmp Symbol → List (List ℕ × Map) → ℕ → Option (List ℕ × Symbol)
variable_at symbols maps index =
    option_and_then (λ s. option_map (λ map. (map, s)) (variable_map maps s)) (get symbols index)

-- a variable: its name, the name of its map, its offset in the map's data, and its size in bytes
pub record VariableValue : Type 0 where
  pub name : List ℕ
  pub map : List ℕ
  pub offset : ℕ
  pub size : ℕ

abbrev pub named_variable : List ℕ → List ℕ × Symbol → VariableValue
named_variable name v =
    record { name = name; map = v.0; offset = v.1.address; size = v.1.size }

-- the variables of an object; of symbols of one name that with the greatest index counts
abbrev pub variables : Object → List VariableValue
variables o =
    filter_map
    (λ e. option_map (named_variable e.0) (variable_at o.symbol_table (entries o.maps) e.1))
    (entries (symbol_indices o.symbol_table))

abbrev pub variable_value : Variable → VariableValue
variable_value v =
    record { name = v.name.now; map = v.map.now; offset = v.offset; size = v.size }

-- ---- one variable

-- the bytes of the symbol of a name, where they are inside the data of a map
abbrev pub value_named : Object → List ℕ → Option (List ℕ)
value_named o name =
    option_and_then (symbol_bytes (entries o.maps)) (symbol_named o.symbol_table name)

-- the value of one variable, which the object has to have
abbrev pub one_value : List ℕ → List ℕ → FinMap text_cmp Global
one_value name value = insert empty name (value, true)

-- why a value can't be written over the bytes that a variable has
abbrev pub value_fault : Option (List ℕ) → List ℕ → Option VariableError
value_fault None value = Some NotAVariable
value_fault (Some bytes) value =
    if length value == length bytes then None else Some (WrongSize (length bytes) (length value))

-- the one answer that no definition states: out of memory
abbrev pub is_variable_memory : VariableError → Bool
is_variable_memory OutOfMemory = true
is_variable_memory _ = false
