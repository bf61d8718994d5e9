-- What contracts of private functions name and no public one.
use Rattle.std.specs.Prelude.{◌≡◌, ℕ, ◌+◌, ◌*◌, ◌<◌, ◌==◌, ◌&&◌, nat_le, nat_lt, Bool, true, false}
use Rattle.std.specs.Prelude.{List, [], ◌∷◌, ◌++◌, map, length, Vec}
use Rattle.std.specs.Prelude.{if◌then◌else◌, not, ◌||◌, slice_set, slice_index_or}
use Rattle.std.specs.declared.alloc.Global.{Global}
use Rattle.std.specs.FinMap.{FinMap, entries, empty}
use Rattle.std.specs.List.{filter, filter_map, list_any}
use Rattle.std.specs.Map.{values_of}
use Rattle.ebpf_base.specs.Maps.{text_cmp, key_cmp, put_all}
use Rattle.ebpf_linker.specs.Functions.{Among, last_key_or}
use Rattle.ebpf_linker.specs.Numbered.{calls_at}
use Rattle.ebpf_linker.specs.declared.reference.Reference.{Reference}
use Rattle.ebpf_linker.specs.declared.reference.Target.{Target}
use Rattle.ebpf_linker.specs.declared.reference.Target.TheVariants.{Function as ToFunction, Nowhere}
use Rattle.ebpf_model.specs.Symbols.{FunctionKey}
use Rattle.ebpf_model.specs.declared.function.Function.{Function}
use Rattle.ebpf_model.specs.declared.function.Program.{Program}
use Rattle.ebpf_object.specs.declared.object.Object.{Object}
use Rattle.ebpf_reloc.specs.PrivateContracts.{number_of_key}
use Rattle.ebpf_chosen_programs.specs.LeavingOut.{kept_externs, kept_relocations, remaining}
use Rattle.ebpf_chosen_programs.specs.Reached.{AreReached, own_linkable, program_key}
use Rattle.ebpf_chosen_programs.specs.declared.chosen.ChosenParts.{ChosenParts}
use Rattle.ebpf_chosen_programs.specs.declared.relocations.CodeBytes.{CodeBytes}
use Rattle.ebpf_chosen_programs.specs.declared.search.Search.{Search}

-- ---- sets, as maps whose values say nothing

abbrev pub member : {K : Type 0} → K → K × Unit {0}
member k = (k, tt)

-- a set of names with some more
abbrev pub with_names : FinMap text_cmp (Unit {0}) → List (List ℕ) → FinMap text_cmp (Unit {0})
with_names set names = put_all set (map member names)

abbrev pub name_set : List (List ℕ) → FinMap text_cmp (Unit {0})
name_set names = with_names empty names

abbrev pub key_set : List FunctionKey → FinMap key_cmp (Unit {0})
key_set keys = put_all empty (map member keys)

-- ---- the search for functions, by number

-- for each function whether it is found, and the found ones that are to be followed
pub record Found : Type 0 where
  pub flags : List Bool
  pub pending : List ℕ

abbrev pub search_of : Search → Found
search_of s = record { flags = s.is_found.items; pending = s.pending.items }

abbrev pub is_found : List Bool → ℕ → Bool
is_found flags number = slice_index_or flags number false

-- a function is found, unless it was found before or no function has the number
abbrev pub with_found : Found → ℕ → Found
with_found s number =
    if slice_index_or s.flags number true
    then s
    else record {
      flags = slice_set s.flags number true;
      pending = s.pending ++ number ∷ [];
    }

abbrev pub with_target : Found → Target → Found
with_target s (ToFunction number) = with_found s number
with_target s (Nowhere e) = s

-- the targets of a function's references
abbrev pub targets_of : List (Vec Reference Global) → ℕ → List Target
targets_of references number = map (λ r. r.target) (calls_at references number)

-- a reference of one function has another function as its target
abbrev pub Refers : List (Vec Reference Global) → ℕ → ℕ → Type 0
Refers references from number = Among (targets_of references from) (ToFunction number)

-- each number refers to the next one
abbrev pub Chain : List (Vec Reference Global) → ℕ → List ℕ → Type 0
Chain references from [] = Unit {0}
Chain references from (n ∷ numbers) = Refers references from n × Chain references n numbers

-- from one of the first functions a chain of references leads to this one
abbrev pub IsLedTo : List (Vec Reference Global) → List ℕ → ℕ → Type 0
IsLedTo references first number =
    (from : ℕ)
    × Among first from
    × (numbers : List ℕ)
    × Chain references from numbers
    × (last_key_or from numbers ≡ number)

-- the functions that are found are the first ones and those to which references lead from there
pub record AreFound (references : List (Vec Reference Global)) (first : List ℕ) (flags : List Bool)
    : Type 0 where
  pub as_many : length flags ≡ length references
  pub starts : (n : ℕ) → Among first n → n < length references → is_found flags n ≡ true
  pub closed : (m n : ℕ) → is_found flags m ≡ true → Refers references m n
      → n < length references
      → is_found flags n ≡ true
  pub sound : (n : ℕ) → is_found flags n ≡ true → IsLedTo references first n

-- ---- functions by number and by key

-- the numbers of the programs' functions
abbrev pub program_numbers : List FunctionKey → FinMap text_cmp Program → List ℕ
program_numbers keys programs =
    filter_map (λ p. number_of_key keys (program_key p)) (values_of (entries programs))

-- the keys whose flag is set
abbrev pub found_keys : List FunctionKey → List Bool → List FunctionKey
found_keys [] flags = []
found_keys (key ∷ keys) [] = []
found_keys (key ∷ keys) (flag ∷ flags) =
    if flag then key ∷ found_keys keys flags else found_keys keys flags

-- ---- the bytes of functions

-- whether some bytes hold the byte at an offset
abbrev pub holds : ℕ → CodeBytes → Bool
holds offset b = nat_le b.start offset && nat_lt offset b.end

abbrev pub code_bytes : (FunctionKey → Bool) → FunctionKey × Function → CodeBytes
code_bytes reached e = record {
  start = e.1.section_offset;
  end = e.1.section_offset + 8 * length e.1.instructions;
  is_reached = reached e.0;
}

-- the bytes of the functions of a section
abbrev pub bytes_in_section : FinMap key_cmp Function → (FunctionKey → Bool) → ℕ → List CodeBytes
bytes_in_section functions reached section =
    map (code_bytes reached) (filter (λ e. e.1.section_index.0 == section) (entries functions))

-- a relocation stays by the bytes of the functions of its section
abbrev pub stays_among : List CodeBytes → ℕ → Bool
stays_among bytes offset =
    list_any (λ b. b.is_reached && holds offset b) bytes || not (list_any (holds offset) bytes)

-- ---- the parts of an object that change

-- these are the parts of an object without the programs that have one of the names
pub record ArePartsWithout (names : List (List ℕ)) (o : Object) (parts : ChosenParts)
    : Type 0 where
  pub reached : FunctionKey → Bool
  pub are_reached : AreReached (own_linkable o) (remaining names o.programs) reached
  pub programs : parts.programs ≡ remaining names o.programs
  pub relocations : parts.relocations ≡ kept_relocations o.functions reached o.relocations
  pub externs : parts.externs
      ≡ kept_externs o.symbol_table o.relocations
      (kept_relocations o.functions reached o.relocations) o.externs
