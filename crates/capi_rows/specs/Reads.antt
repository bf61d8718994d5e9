-- What C reads of an object: its lists, what stands under a name, and the rows of maps and programs
-- by their names.
use Rattle.std.specs.Prelude.{ℕ, List, Option, Some, None, Result, Ok, Err}
use Rattle.std.specs.FinMap.{FinMap, entries, get}
use Rattle.ebpf_base.specs.Maps.{key_cmp, text_cmp}
use Rattle.ebpf_btf_ext.specs.declared.ext_infos.bpf_func_info.{bpf_func_info}
use Rattle.ebpf_btf_ext.specs.declared.ext_infos.bpf_line_info.{bpf_line_info}
use Rattle.ebpf_object.specs.declared.object.Object.{Object}
use Rattle.ebpf_model.specs.declared.function.Program.{Program}
use Rattle.ebpf_parts.specs.Maps.{bytes_of}
use Rattle.ebpf_parts.specs.declared.insn.bpf_insn.{bpf_insn}
use Rattle.ebpf_model.specs.declared.function.Function.{Function}
use Rattle.capi_rows.specs.Answers.{Listed}
use Rattle.capi_rows.specs.Listings.{value_by_bytes, extern_row, section_row, listing_of}
use Rattle.capi_rows.specs.declared.codes.TheConstants.{CLOSED, NO_MAP, NO_PROGRAM, DONE}
use Rattle.capi_rows.specs.declared.entries.ebpf_extern.{ebpf_extern}
use Rattle.capi_rows.specs.declared.entries.ebpf_section.{ebpf_section}
use Rattle.capi_rows.specs.MapRows.{map_row}
use Rattle.capi_rows.specs.ProgramRows.{program_row, name_of_section_number}
use Rattle.capi_rows.specs.declared.maps.ebpf_map.{ebpf_map}
use Rattle.capi_rows.specs.declared.programs.ebpf_program.{ebpf_program}

-- ---- what C reads of an object: lists, or the number of the refusal

-- what a call on a handle gives, which may be closed
abbrev pub of_open : {X : Type 0} → (Object → Result X ℕ) → Option Object → Result X ℕ
of_open f None = Err CLOSED
of_open f (Some o) = f o

-- what a thing gives, or a number where there is none
abbrev pub or_number : {X Y : Type 0} → ℕ → (X → Y) → Option X → Result Y ℕ
or_number number f None = Err number
or_number number f (Some x) = Ok (f x)

-- ---- lists of named things

abbrev pub program_list : Object → Listed ebpf_program
program_list o = listing_of (program_row o.functions (entries o.section_infos)) o.programs

abbrev pub map_list : Object → Listed ebpf_map
map_list o = listing_of (map_row o.btf) o.maps

abbrev pub extern_list : Object → Listed ebpf_extern
extern_list o = listing_of extern_row o.externs

-- of two sections with one name the later one
abbrev pub section_list : Object → Listed ebpf_section
section_list o = listing_of section_row o.section_infos

-- ---- what a program has, as it stands

-- the function of a program
abbrev pub function_of : FinMap key_cmp Function → Option Program → Option Function
function_of functions None = None
function_of functions (Some p) = get functions (p.section_index, p.address)

-- that of the program that some bytes name
abbrev pub function_by_bytes : Object → List ℕ → Option Function
function_by_bytes o name = function_of o.functions (value_by_bytes o.programs name)

abbrev pub read_slots : List ℕ → Object → Result (List bpf_insn) ℕ
read_slots name o = or_number NO_PROGRAM (λ f. f.instructions) (function_by_bytes o name)

abbrev pub read_func_infos : List ℕ → Object → Result (List bpf_func_info) ℕ
read_func_infos name o =
    or_number NO_PROGRAM (λ f. f.func_info.func_info) (function_by_bytes o name)

abbrev pub read_line_infos : List ℕ → Object → Result (List bpf_line_info) ℕ
read_line_infos name o =
    or_number NO_PROGRAM (λ f. f.line_info.line_info) (function_by_bytes o name)

-- ---- bytes

-- the name of the section of the program that some bytes name, empty where no named section has its
-- index
abbrev pub read_section_name : List ℕ → Object → Result (List ℕ) ℕ
read_section_name name o =
    or_number NO_PROGRAM (λ p. name_of_section_number (entries o.section_infos) p.section_index)
    (value_by_bytes o.programs name)

-- the data that the map that some bytes name begins with
abbrev pub read_map_data : List ℕ → Object → Result (List ℕ) ℕ
read_map_data name o = or_number NO_MAP bytes_of (value_by_bytes o.maps name)

abbrev pub read_license : Object → Result (List ℕ) ℕ
read_license o = Ok o.license

-- ---- the row of one thing by its name, as the lists of such things have it

-- the row of the thing that some bytes name, which are the text that the row points into; a number
-- where there is none
abbrev pub row_named : {V R : Type 0} → ℕ → (List ℕ → V → ℕ → R) → FinMap text_cmp V → List ℕ
    → Result R ℕ
row_named missing row values name =
    or_number missing (λ v. row name v 0) (value_by_bytes values name)

abbrev pub map_named : List ℕ → Object → Result ebpf_map ℕ
map_named name o = row_named NO_MAP (map_row o.btf) o.maps name

abbrev pub program_named : List ℕ → Object → Result ebpf_program ℕ
program_named name o =
    row_named NO_PROGRAM (program_row o.functions (entries o.section_infos)) o.programs name

-- ---- what a call leaves of one row: `Err` is a number that it answers without writing

abbrev pub answer_row : {R : Type 0} → Result R ℕ → ℕ
answer_row (Err number) = number
answer_row (Ok found) = DONE

abbrev pub row_after : {R : Type 0} → Result R ℕ → R → R
row_after (Err number) row = row
row_after (Ok found) row = found
