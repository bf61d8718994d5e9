-- What `ebpf list` writes from: the object's tables, row by row, in their order. The maps are read
-- of the object itself.
use Rattle.std.specs.Prelude.{ℕ, Bool, true, false, List, map, Option, Some, None, slice_get, ◌≡◌}
use Rattle.std.specs.Prelude.{MatchBool, ◌⊎◌, ◌-◌, ◌^◌, min, [], ◌∷◌, not, length, codes}
use Rattle.std.specs.Prelude.{Result, Ok, Err, is_some, if◌then◌else◌}
use Rattle.std.specs.FinMap.{entries, get, FinMap}
use Rattle.std.specs.FinMap as finite
use Rattle.std.specs.List.{AllZip, filter, find, list_any, enumerate_from}
use Rattle.std.specs.Map.{keys_of}
use Rattle.std.specs.Ordering.{eq_by_cmp}
use Rattle.std.specs.declared.cmp.Ordering.{Ordering}
use Rattle.ebpf_base.specs.Faults.{first_in, first_of, first_some}
use Rattle.ebpf_base.specs.declared.endianness.Endianness.{Endianness}
use Rattle.ebpf_btf.specs.Reading.{type_info_of}
use Rattle.ebpf_btf.specs.TypeInfo.{TypeInfo}
use Rattle.ebpf_btf.specs.declared.error.BtfError.{BtfError}
use Rattle.ebpf_btf.specs.declared.types.BtfType.{BtfType}
use Rattle.ebpf_btf.specs.declared.types.BtfType.TheVariants.{Func}
use Rattle.ebpf_btf_maps.specs.Arenas.{named_arena}
use Rattle.ebpf_elf.specs.Faults.{faults}
use Rattle.ebpf_elf.specs.Names.{is_name}
use Rattle.ebpf_elf.specs.Sections.{SectionOf, data_faults, data_of, section_name, sections}
use Rattle.ebpf_elf.specs.declared.error.ElfReadError.{ElfReadError}
use Rattle.ebpf_model.specs.declared.error.EbpfRelocationError.{EbpfRelocationError}
use Rattle.ebpf_model.specs.declared.function.Function.{Function}
use Rattle.ebpf_model.specs.declared.symbol.ExternDesc.{ExternDesc}
use Rattle.ebpf_object.specs.WrittenSlots.{with_externs, externs_fault}
use Rattle.ebpf_object.specs.Variables.{VariableValue, variable_value, variables}
use Rattle.ebpf_object.specs.declared.object.Object.{Object}
use Rattle.cli_common.specs.ObjectPrograms.{known_externs, program_row, program_rows}
use Rattle.cli_common.specs.ObjectPrograms.{object_settings}
use Rattle.ebpf_linker.specs.LinkMap.{copied_slot_count}
use Rattle.ebpf_model.specs.declared.function.Program.{Program}
use Rattle.ebpf_object.specs.Headline.{linkable}
use Rattle.ebpf_object.specs.LinkedPrograms.{program_value}
use Rattle.ebpf_reloc.specs.Laws.{copy_of}
use Rattle.ebpf_reloc.specs.Linking.{IsLinkMapAt, key_of, IsProgramRefusal}
use Rattle.ebpf_reloc.specs.declared.link_map.CodeCopy.{CodeCopy}
use Rattle.ebpf_reloc.specs.declared.link_map.LinkMap.{LinkMap}
use Rattle.cli_common.specs.declared.programs.ObjectProgram.{ObjectProgram}
use Rattle.ebpf_base.specs.Maps.{key_cmp, text_cmp}
use Rattle.ebpf_model.specs.Symbols.{FunctionKey}
use Rattle.cli_common.specs.HelperCalls.{calls_helper}
use Rattle.cli_common.specs.declared.map_uses.MapUse.{MapUse}
use Rattle.cli_common.specs.FunctionMaps.{function_maps}
use Rattle.cli_list.specs.RecordCounts.{AreCounts}
use Rattle.cli_list.specs.StructOps.{declared_struct_ops}
use Rattle.cli_list.specs.declared.listing.Extern.{Extern}
use Rattle.cli_list.specs.declared.layout.ListedLayout.{ListedLayout}
use Rattle.cli_list.specs.declared.listing.ObjectListing.{ObjectListing}
use Rattle.cli_list.specs.declared.listing.ObjectContents.{ObjectContents}

-- ---- the externs of an object, row by row.

abbrev pub is_func_type : Option BtfType → Bool
is_func_type (Some (Func _ _)) = true
is_func_type _ = false

-- whether the type with an id is a FUNC
unfoldable pub is_func : TypeInfo → ℕ → Bool
is_func types id = is_func_type (slice_get types.types id)

abbrev pub is_function : Option TypeInfo → ℕ → Bool
is_function None id = false
is_function (Some types) id = is_func types id

-- an extern by its name
abbrev pub extern_row : Option TypeInfo → List ℕ → ExternDesc → Extern
extern_row types name x =
    record {
      name = name;
      is_function = is_function types x.btf_id;
      is_typed = x.is_typed;
      is_weak = x.is_weak;
    }

-- those of an object, in byte order of their names
abbrev pub extern_rows : Object → List Extern
extern_rows o = map (λ e. extern_row o.btf e.0 e.1) (entries o.externs)

-- ---- the number of types of a file.
--
-- A worked example: the section `.BTF` of a file has the types 1 to 7 behind void. The file has 7
-- types, also where reading the object adds the variable of the kernel's functions.

-- the number of types that are read, void aside; none where they can't be read
abbrev pub read_type_count : Result TypeInfo BtfError → Option ℕ
read_type_count (Ok types) = Some (length types.types - 1)
read_type_count (Err _) = None

abbrev pub type_count_in : Endianness → List ℕ → Option ElfReadError → Option ℕ
type_count_in order bytes None = read_type_count (type_info_of order bytes)
type_count_in order bytes (Some _) = None

-- the number of types in a section
abbrev pub section_type_count : Endianness → Option SectionOf → Option ℕ
section_type_count order None = None
section_type_count order (Some s) = type_count_in order (data_of s) (first_of (data_faults s))

-- the first section `.BTF` of a file
abbrev pub types_section : List ℕ → Option SectionOf
types_section file = find (λ s. is_name (codes ".BTF") (section_name s)) (sections file)

abbrev pub sound_type_count : Endianness → List ℕ → Option ElfReadError → Option ℕ
sound_type_count order file None = section_type_count order (types_section file)
sound_type_count order file (Some _) = None

-- the number of types in a file's section `.BTF`, void aside; none where it has no such section, or
-- none that can be read
unfoldable pub file_type_count : Endianness → List ℕ → Option ℕ
file_type_count order file = sound_type_count order file (first_in (faults file))

-- ---- single facts of an object

-- the license that the file states (its section `license`)
abbrev pub stated_license : Object → Option (List ℕ)
stated_license o =
    if finite.contains_key o.section_infos (codes "license") then Some o.license else None

-- the number of slots of a function; 0 where there is none
abbrev pub slots_in : Option Function → ℕ
slots_in None = 0
slots_in (Some f) = length f.instructions

-- the number of slots of the function at a key, before it is linked
abbrev pub slot_count : Object → FunctionKey → ℕ
slot_count o key = slots_in (get o.functions key)

-- the numbers of the programs that use a thing; none where no program does
abbrev pub numbers_or_none : Option (List ℕ) → List ℕ
numbers_or_none None = []
numbers_or_none (Some numbers) = numbers

abbrev pub users_of : FinMap text_cmp (List ℕ) → List ℕ → List ℕ
users_of users name = numbers_or_none (get users name)

-- ---- an object whose externs are written as if a kernel had them all, so that what calls them is
-- no reference to a function

-- the object with all its externs known, and those that the kernel's configuration gives
abbrev pub with_known : Object → List (List ℕ) → Object
with_known o settings = record o { externs = known_externs o.externs settings }

-- They are written, or one of them can't be.
abbrev pub WritesExterns : Object → List (List ℕ) → Object → Bool → Type 0
WritesExterns before settings after is_written =
    MatchBool is_written
    (after ≡ with_externs (with_known before settings))
    ((after ≡ with_known before settings)
    × ((e : EbpfRelocationError) × (externs_fault (with_known before settings) ≡ Some e)))

-- ---- what the programs of an object are made of.

-- the slots of these copies, which are those of the linked program (`MatchesLinked`), and their
-- functions
pub record IsOfCopies (copies : List CodeCopy) (l : ListedLayout) : Type 0 where
  pub slots : l.slots ≡ Some (min (copied_slot_count (map copy_of copies)) (2 ^ 64 - 1))
  pub functions : l.functions.items ≡ map (λ c. c.key) copies

-- the program's own function alone
pub record IsOfOne (p : ObjectProgram) (l : ListedLayout) : Type 0 where
  pub slots : l.slots ≡ None
  pub functions : l.functions.items ≡ p.key ∷ []

-- a program that can be linked: the copies of its link map, its own function first
pub record IsLinkedLayout (o : Object) (p : ObjectProgram) (l : ListedLayout) : Type 0 where
  pub program : Program
  pub stands : get o.programs p.name ≡ Some program
  pub link_map : LinkMap
  pub mapped : IsLinkMapAt (linkable o) (key_of (program_value p.name program)) link_map
  pub copies : IsOfCopies link_map.copies l

-- one that linking refuses
pub record IsRefusedLayout (o : Object) (p : ObjectProgram) (l : ListedLayout) : Type 0 where
  pub program : Program
  pub stands : get o.programs p.name ≡ Some program
  pub error : EbpfRelocationError
  pub refused : IsProgramRefusal (linkable o) (program_value p.name program) error
  pub own : IsOfOne p l

-- one that the object lacks
pub record IsLackingLayout (o : Object) (p : ObjectProgram) (l : ListedLayout) : Type 0 where
  pub lacks : get o.programs p.name ≡ None
  pub own : IsOfOne p l

abbrev pub IsLayout : Object → ObjectProgram → ListedLayout → Type 0
IsLayout o p l = IsLinkedLayout o p l ⊎ (IsRefusedLayout o p l ⊎ IsLackingLayout o p l)

-- a layout of each program, in their order
abbrev pub AreLayouts : Object → List ObjectProgram → List ListedLayout → Type 0
AreLayouts o programs layouts = AllZip (IsLayout o) programs layouts

-- ---- the functions that programs reach, by their layouts.

-- whether a program reaches the function at a key
abbrev pub reaches : ListedLayout → FunctionKey → Bool
reaches layout key = list_any (eq_by_cmp key_cmp key) layout.functions.items

-- whether some program does
abbrev pub is_reached : List ListedLayout → FunctionKey → Bool
is_reached layouts key = list_any (λ layout. reaches layout key) layouts

-- the keys of the functions that none reaches, in their order
abbrev pub unreached_keys : Object → List ListedLayout → List FunctionKey
unreached_keys o layouts =
    filter (λ key. not (is_reached layouts key)) (keys_of (entries o.functions))

-- ---- the global variables of an object with an arena; none of others, whose list names none

abbrev pub listed_variables : Object → List VariableValue
listed_variables o = if is_some (first_some named_arena (entries o.maps)) then variables o else []

-- ---- which programs use what: those of which some function that they reach does.

-- the numbers of the programs whose layouts pass a test, from 0 on, rising
abbrev pub numbers_of : (ListedLayout → Bool) → List ListedLayout → List ℕ
numbers_of uses layouts = map (λ e. e.0) (filter (λ e. uses e.1) (enumerate_from 0 layouts))

abbrev pub if_any : List ℕ → Option (List ℕ)
if_any [] = None
if_any (n ∷ ns) = Some (n ∷ ns)

-- at each thing the numbers of the programs that use it, where some does
abbrev pub AreUsers : {K : Type 0} {R : K → K → Ordering} → (K → ListedLayout → Bool)
    → List ListedLayout → FinMap R (List ℕ) → Type 0
AreUsers {K} uses layouts users =
    (used : K) → get users used ≡ if_any (numbers_of (uses used) layouts)

-- whether some function that a program reaches calls a helper function
abbrev pub calls : Object → ℕ → ListedLayout → Bool
calls o helper layout =
    list_any (λ key. calls_helper (get o.functions key) helper) layout.functions.items

-- whether the map of a name is among those that a function uses
abbrev pub has_use : Option (List MapUse) → List ℕ → Bool
has_use None name = false
has_use (Some uses) name = list_any (λ u. eq_by_cmp text_cmp name u.name) uses

-- whether some function that a program reaches uses a map, by the maps that each function uses
abbrev pub uses_map : FinMap key_cmp (List MapUse) → List ℕ → ListedLayout → Bool
uses_map uses name layout = list_any (λ key. has_use (get uses key) name) layout.functions.items

-- ---- what `ebpf list` writes from: the object's tables, row by row, in their order. The maps are
-- read of the object itself.

-- the contents of the parsed object of a file: its programs, its externs, those that the kernel's
-- configuration gives, the maps that its functions use, its maps of struct_ops or why they can't be
-- read, and the number of the file's types
pub record IsWanted (file : List ℕ) (o : Object) (w : ObjectContents) : Type 0 where
  pub programs : map program_row w.programs.items ≡ program_rows o.programs
  pub externs : w.externs ≡ extern_rows o
  pub settings : w.settings ≡ object_settings o.btf
  pub map_uses : w.map_uses ≡ function_maps o
  pub struct_ops : w.struct_ops ≡ declared_struct_ops file o
  pub types : w.types ≡ file_type_count o.endianness file

-- what each of its programs is made of, once its externs are written as if a kernel had them all; a
-- program alone where one of them can't be written
pub record AreObjectLayouts (before : Object) (w : ObjectContents) (after : Object)
    (made : List ListedLayout)
    : Type 0 where
  pub is_written : Bool
  pub written : WritesExterns before w.settings after is_written
  pub each : MatchBool is_written (AreLayouts after w.programs.items made)
      (AllZip IsOfOne w.programs.items made)

-- what is told of an object with these layouts: which of its programs use which maps and helper
-- functions, the number of CO-RE records of each group, the functions that no program reaches, and
-- the variables where it has an arena
pub record IsListing (o : Object) (w : ObjectContents) (made : List ListedLayout)
    (l : ObjectListing)
    : Type 0 where
  pub object : l.object.now ≡ o
  pub wanted : l.wanted.now ≡ w
  pub layouts : l.layouts.now ≡ made
  pub map_users : AreUsers (uses_map w.map_uses) made l.map_users
  pub helper_users : AreUsers (calls o) made l.helper_users
  pub records : AreCounts o l.records
  pub unreached : l.unreached.items ≡ unreached_keys o made
  pub variables : map variable_value l.variables ≡ listed_variables o

-- Of the parsed object of a file: all that is printed, where the layouts are those of its programs.
-- But for its externs and the slots of its functions the object is as it was parsed, its maps, its
-- license and its CO-RE records among the rest.
pub record IsListed (file : List ℕ) (parsed : Object) (l : ObjectListing) : Type 0 where
  pub object : l.object.now
      ≡ record parsed { externs = l.object.now.externs; functions = l.object.now.functions }
  pub wanted : IsWanted file parsed l.wanted.now
  pub layouts : AreObjectLayouts parsed l.wanted.now l.object.now l.layouts.now
  pub listing : IsListing l.object.now l.wanted.now l.layouts.now l
