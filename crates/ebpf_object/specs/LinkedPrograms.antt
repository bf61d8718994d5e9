-- Linking the programs of an object with the functions that they reach.
use Rattle.std.specs.Prelude.{◌≡◌, ℕ, Bool, List, map, Some, MatchBool, slice_get, Option, None}
use Rattle.std.specs.Prelude.{Result, Ok, Err, ⊤, option_and_then}
use Rattle.std.specs.FinMap.{FinMap, get, entries}
use Rattle.std.specs.List.{list_any}
use Rattle.std.specs.Ordering.{eq_by_cmp}
use Rattle.ebpf_base.specs.Maps.{text_cmp, key_cmp}
use Rattle.ebpf_model.specs.Memory.{is_memory_at}
use Rattle.ebpf_model.specs.Symbols.{TextSections, FunctionKey}
use Rattle.ebpf_model.specs.declared.error.EbpfRelocationError.{EbpfRelocationError}
use Rattle.ebpf_model.specs.declared.function.Function.{Function}
use Rattle.ebpf_model.specs.declared.function.Program.{Program}
use Rattle.ebpf_object.specs.declared.object.Object.{Object}
use Rattle.ebpf_reloc.specs.Laws.{MatchesLinked}
use Rattle.ebpf_reloc.specs.Linking.{ProgramValue, key_of, IsLinked, IsLinkMapAt, IsProgramRefusal}
use Rattle.ebpf_reloc.specs.SlotTargets.{LinkableValue}
use Rattle.ebpf_reloc.specs.declared.link_map.LinkMap.{LinkMap}

-- what linking reads of an object
abbrev pub linkable_of : Object → TextSections → LinkableValue
linkable_of o text_sections = record {
  functions = o.functions;
  symbols = o.symbol_table;
  relocations = o.relocations;
  text_sections = text_sections;
  callbacks = o.exception_callbacks;
}

-- a program with its name
abbrev pub program_value : List ℕ → Program → ProgramValue
program_value name p = record { name = name; section_index = p.section_index; address = p.address }

-- the programs, in byte order of their names
abbrev pub programs_in_order : FinMap text_cmp Program → List ProgramValue
programs_in_order programs = map (λ e. program_value e.0 e.1) (entries programs)

-- whether this is the key of a program
abbrev pub is_program_key : List ProgramValue → FunctionKey → Bool
is_program_key programs key = list_any (λ p. eq_by_cmp key_cmp key (key_of p)) programs

-- each program's function has become its linked program, and the others stay
abbrev pub ProgramsAreLinked : LinkableValue → List ProgramValue → FinMap key_cmp Function → Type 0
ProgramsAreLinked parts programs after =
    (key : FunctionKey) → MatchBool (is_program_key programs key)
    ((g : Function) × (get after key ≡ Some g) × IsLinked parts key g)
    (get after key ≡ get parts.functions key)

-- the function at a key, after a function is put at a key
abbrev pub replaced : Option Function → Option Function → Option Function
replaced None g = None
replaced (Some f) None = Some f
replaced (Some f) (Some g) = Some g

-- linking the programs leaves one map of functions
abbrev pub OneLinking : Type 0
OneLinking =
    (parts : LinkableValue) (programs : List ProgramValue) (after other : FinMap key_cmp Function)
    → ProgramsAreLinked parts programs after → ProgramsAreLinked parts programs other
    → after ≡ other

-- ---- what the maps of programs tell of once the programs are linked

-- once programs are linked, the function of each is the linked program that its map tells of
abbrev pub MapsTellOfLinked : Type 0
MapsTellOfLinked =
    (parts : LinkableValue) (programs : List ProgramValue) (after : FinMap key_cmp Function)
    → ProgramsAreLinked parts programs after
    → (i : ℕ) (program : ProgramValue)
    → slice_get programs i ≡ Some program
    → (m : LinkMap) (a : IsLinkMapAt parts (key_of program) m)
    → (function : Function)
    × (get after (key_of program) ≡ Some function)
    × (b : IsLinked parts (key_of program) function)
    × MatchesLinked parts (key_of program) m function a b

-- ---- what the linked programs of an object are made of

-- the map of a program, or its refusal; out of memory fits beside both
abbrev pub MapsProgram : LinkableValue
    → ProgramValue
    → Result (Option LinkMap) EbpfRelocationError
    → Type 0
MapsProgram parts program (Ok (Some m)) = IsLinkMapAt parts (key_of program) m
MapsProgram parts program (Ok None) = ⊥
MapsProgram parts program (Err e) = MatchBool (is_memory_at e) ⊤ (IsProgramRefusal parts program e)

-- ---- the function of a program, by the program's name

-- the function at the key of the program with a name
abbrev pub function_of_named_program : Object → List ℕ → Option Function
function_of_named_program o name =
    option_and_then (λ p. get o.functions (p.section_index, p.address)) (get o.programs name)
