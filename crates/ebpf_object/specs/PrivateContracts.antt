-- What contracts of private functions name and no public one.
use denote.Ref.{Bor}
use Rattle.std.specs.Prelude.{◌≡◌, ℕ, List, [], ◌∷◌, Option, Some, None, option_map}
use Rattle.std.specs.FinMap.{FinMap, get}
use Rattle.std.specs.List.{AllByRecursion}
use Rattle.ebpf_base.specs.Maps.{text_cmp}
use Rattle.ebpf_model.specs.declared.function.Program.{Program}
use Rattle.ebpf_model.specs.declared.symbol.Symbol.{Symbol}
use Rattle.ebpf_reloc.specs.Linking.{ProgramValue}
use Rattle.ebpf_object.specs.LinkedPrograms.{program_value}
use Rattle.ebpf_object.specs.Patches.{PatchValue}
use Rattle.ebpf_object.specs.Variables.{VariableValue, named_variable}
use Rattle.ebpf_object.specs.declared.set_globals.write.Patch.{Patch}
use Rattle.ebpf_parts.specs.declared.maps.either.Map.{Map}

abbrev pub program_if : List ℕ → Option Program → List ProgramValue
program_if name None = []
program_if name (Some p) = program_value name p ∷ []

-- the program with a name, where there is one
abbrev pub program_with : FinMap text_cmp Program → List ℕ → List ProgramValue
program_with programs name = program_if name (get programs name)

abbrev pub value_of : Patch → PatchValue
value_of p = record { map_name = p.map_name; offset = p.offset; bytes = p.bytes.now }

abbrev pub values_of : Option Patch → List PatchValue
values_of None = []
values_of (Some p) = value_of p ∷ []

-- a map with its name, both lent
abbrev pub named_map : Bor (List ℕ) × Bor Map → List ℕ × Map
named_map e = (e.0.now, e.1.now)

-- the variable that a symbol is, by its own name
abbrev pub variable_in : List ℕ × Symbol → Option VariableValue
variable_in v = option_map (λ name. named_variable name v) v.1.name

-- each of these entries is one of the map
abbrev pub AreEntriesOf : FinMap text_cmp Map → List (List ℕ × Map) → Type 0
AreEntriesOf maps entries = AllByRecursion (λ e. get maps e.0 ≡ Some e.1) entries
