-- Leaving programs out of an object. The programs with the names are gone. What only they need is
-- gone with them: the relocations in functions that no remaining program reaches, and the externs
-- to which only these relocations refer. All else stays, functions too.
--
-- Example: the program `a` calls `f`, the program `b` calls `f` and the extern `lacking`. `f` calls
-- the extern `present`. Without `b` the relocations in `a` and `f` stay, and the extern `present`.
-- The relocations in the function of `b` are gone, and so is the extern `lacking`.
use Rattle.std.specs.Prelude.{◌≡◌, ℕ, ◌+◌, ◌*◌, ◌==◌, ◌&&◌, ◌||◌, not, nat_le, nat_lt, Bool, true}
use Rattle.std.specs.Prelude.{false, List, [], map, length, Option, Some, None, unwrap_or}
use Rattle.std.specs.Prelude.{if◌then◌else◌}
use Rattle.std.specs.FinMap.{FinMap, get, contains_key, entries, empty, retain_keys}
use Rattle.std.specs.List.{list_any, filter_map, flat_map}
use Rattle.std.specs.Ordering.{nat_cmp, eq_by_cmp}
use Rattle.ebpf_base.specs.Faults.{first_some}
use Rattle.ebpf_base.specs.Maps.{text_cmp, key_cmp, put_all}
use Rattle.ebpf_elf.specs.declared.relocation.ElfRelocation.{ElfRelocation}
use Rattle.ebpf_model.specs.Symbols.{FunctionKey, is_extern}
use Rattle.ebpf_model.specs.declared.function.Function.{Function}
use Rattle.ebpf_model.specs.declared.function.Program.{Program}
use Rattle.ebpf_model.specs.declared.symbol.ExternDesc.{ExternDesc}
use Rattle.ebpf_model.specs.declared.symbol.Symbol.{Symbol}
use Rattle.ebpf_object.specs.declared.object.Object.{Object}
use Rattle.ebpf_reloc.specs.Relocated.{Relocations, SectionRelocations}
use Rattle.ebpf_chosen_programs.specs.Reached.{AreReached, own_linkable}
use Rattle.ebpf_chosen_programs.specs.declared.error.LeaveOutError.{LeaveOutError}
use Rattle.ebpf_chosen_programs.specs.declared.error.LeaveOutError.TheVariants.{OutOfMemory}
use Rattle.ebpf_chosen_programs.specs.declared.error.LeaveOutError.TheVariants.{UnknownProgram}

-- ---- programs

abbrev pub is_among : List (List ℕ) → List ℕ → Bool
is_among names name = list_any (eq_by_cmp text_cmp name) names

-- the programs without those that have one of the names
abbrev pub remaining : List (List ℕ) → FinMap text_cmp Program → FinMap text_cmp Program
remaining names programs = retain_keys programs (λ name. not (is_among names name))

-- ---- relocations

-- whether the byte at an offset of a section is in a function
abbrev pub lies_in : ℕ → ℕ → Function → Bool
lies_in section offset f =
    f.section_index.0 == section
    && (nat_le f.section_offset offset
    && nat_lt offset (f.section_offset + 8 * length f.instructions))

-- whether the byte is in a function with one of these keys
abbrev pub lies_in_some : FinMap key_cmp Function → (FunctionKey → Bool) → ℕ → ℕ → Bool
lies_in_some functions keys section offset =
    list_any (λ e. keys e.0 && lies_in section offset e.1) (entries functions)

-- A relocation stays where it is in a function that is reached, or in no function. Functions may
-- overlap: a byte that is in two functions is needed where one of them is reached.
abbrev pub stays : FinMap key_cmp Function → (FunctionKey → Bool) → ℕ → ℕ → Bool
stays functions reached section offset =
    lies_in_some functions reached section offset
    || not (lies_in_some functions (λ key. true) section offset)

abbrev pub kept_in_section : FinMap key_cmp Function → (FunctionKey → Bool) → ℕ
    → SectionRelocations → SectionRelocations
kept_in_section functions reached section relocations =
    retain_keys relocations (stays functions reached section)

-- the relocations that stay, in the tables of their sections
abbrev pub kept_relocations : FinMap key_cmp Function → (FunctionKey → Bool) → Relocations
    → Relocations
kept_relocations functions reached relocations =
    put_all empty
    (map (λ s. (s.0, kept_in_section functions reached s.0 s.1)) (entries relocations))

-- ---- externs

abbrev pub name_if_extern : Option Symbol → Option (List ℕ)
name_if_extern None = None
name_if_extern (Some symbol) =
    if is_extern symbol then Some (unwrap_or symbol.name []) else None

-- the name of the extern that a relocation refers to
abbrev pub extern_name : FinMap nat_cmp Symbol → ElfRelocation → Option (List ℕ)
extern_name symbols relocation = name_if_extern (get symbols relocation.symbol_index)

abbrev pub extern_names_in : FinMap nat_cmp Symbol → SectionRelocations → List (List ℕ)
extern_names_in symbols relocations =
    filter_map (λ r. extern_name symbols r.1) (entries relocations)

-- the names of all externs that relocations refer to
abbrev pub extern_names : FinMap nat_cmp Symbol → Relocations → List (List ℕ)
extern_names symbols relocations =
    flat_map (λ s. extern_names_in symbols s.1) (entries relocations)

-- An extern stays where a relocation that stays refers to it, or where none did before.
abbrev pub extern_stays : FinMap nat_cmp Symbol → Relocations → Relocations → List ℕ → Bool
extern_stays symbols before after name =
    is_among (extern_names symbols after) name || not (is_among (extern_names symbols before) name)

abbrev pub kept_externs : FinMap nat_cmp Symbol → Relocations → Relocations
    → FinMap text_cmp ExternDesc → FinMap text_cmp ExternDesc
kept_externs symbols before after externs =
    retain_keys externs (extern_stays symbols before after)

-- ---- the object

-- an object without some programs, by the keys of the functions that the others reach
abbrev pub without_programs : List (List ℕ) → (FunctionKey → Bool) → Object → Object
without_programs names reached o =
    let kept : Relocations = kept_relocations o.functions reached o.relocations in
    record o {
      programs = remaining names o.programs;
      relocations = kept;
      externs = kept_externs o.symbol_table o.relocations kept o.externs;
    }

-- the programs with these names are left out of an object
pub record AreLeftOut (names : List (List ℕ)) (before after : Object) : Type 0 where
  pub reached : FunctionKey → Bool
  pub are_reached : AreReached (own_linkable before) (remaining names before.programs) reached
  pub is : after ≡ without_programs names reached before

-- ---- the refusal

-- the one error that no definition states: an allocation failure
abbrev pub is_leave_out_memory : LeaveOutError → Bool
is_leave_out_memory OutOfMemory = true
is_leave_out_memory _ = false

abbrev pub unknown_program : FinMap text_cmp Program → List ℕ → Option LeaveOutError
unknown_program programs name =
    if contains_key programs name then None else Some (UnknownProgram name)

-- the first of the names that no program has
abbrev pub leave_out_fault : List (List ℕ) → FinMap text_cmp Program → Option LeaveOutError
leave_out_fault names programs = first_some (unknown_program programs) names
