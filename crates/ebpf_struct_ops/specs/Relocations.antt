-- The programs that relocations put at the members of variables of struct_ops (libbpf 1.7,
-- libbpf.c: bpf_object__collect_st_ops_relos, find_struct_ops_map_by_offset,
-- find_member_by_offset). At one offset of a section the last relocation counts.
use Rattle.std.specs.Prelude.{ℕ, ◌-◌, ◌*◌, ◌==◌, ◌&&◌, Bool, true, false, not, nat_le, nat_lt, List}
use Rattle.std.specs.Prelude.{[], fold, Option, Some, None, option_map, unwrap_or}
use Rattle.std.specs.Prelude.{if◌then◌else◌}
use Rattle.std.specs.FinMap.{FinMap, empty, get, insert}
use Rattle.std.specs.List.{find}
use Rattle.std.specs.Option.{option_and_then, option_map_or}
use Rattle.std.specs.Ordering.{nat_cmp}
use Rattle.ebpf_base.specs.Faults.{first_some, or_else}
use Rattle.ebpf_btf.specs.Next.{if_some}
use Rattle.ebpf_btf.specs.TypeInfo.{TypeInfo}
use Rattle.ebpf_btf.specs.Types.{bit_offset}
use Rattle.ebpf_btf.specs.declared.members.BtfMember.{BtfMember}
use Rattle.ebpf_btf.specs.declared.types.BtfType.{BtfType}
use Rattle.ebpf_elf.specs.Sections.{section_name, sections}
use Rattle.ebpf_elf.specs.declared.relocation.ElfRelocation.{ElfRelocation}
use Rattle.ebpf_model.specs.declared.function.Program.{Program}
use Rattle.ebpf_model.specs.declared.symbol.Symbol.{Symbol}
use Rattle.ebpf_object.specs.declared.object.Object.{Object}
use Rattle.ebpf_parts.specs.ProgramTypes.{program_kind}
use Rattle.ebpf_parts.specs.declared.programs.kind.ProgramKind.{ProgramKind}
use Rattle.ebpf_parts.specs.declared.programs.program_type.bpf_prog_type.{bpf_prog_type}
use Rattle.ebpf_parts.specs.declared.programs.program_type.bpf_prog_type.TheVariants as program_types
use Rattle.ebpf_struct_ops.specs.TypeFacts.{is_function_pointer, members_in, type_behind}
use Rattle.ebpf_struct_ops.specs.Variables.{stands_in}
use Rattle.ebpf_struct_ops.specs.declared.bare.BareVariable.{BareVariable}
use Rattle.ebpf_struct_ops.specs.declared.error.StructOpsError.{StructOpsError}
use Rattle.ebpf_struct_ops.specs.declared.error.StructOpsError.TheVariants as errors
use Rattle.ebpf_struct_ops.specs.declared.faults.RelocationFault.{RelocationFault}
use Rattle.ebpf_struct_ops.specs.declared.faults.RelocationFault.TheVariants as faults

-- ---- the member: the first of its variable that begins at the relocation's offset

abbrev pub holds_place : ℕ → BareVariable → Bool
holds_place place v = nat_le v.place.offset place && nat_lt (place - v.place.offset) v.place.size

abbrev pub begins_at : BtfType → ℕ → BtfMember → Bool
begins_at t offset m = bit_offset t m == 8 * offset

abbrev pub member_there : BtfType → ℕ → Option BtfMember
member_there t offset = find (begins_at t offset) (members_in t)

abbrev pub pointer_fault : TypeInfo → Option BtfMember → Option RelocationFault
pointer_fault types None = Some faults.NoMember
pointer_fault types (Some m) =
    if is_function_pointer types m.btf_type then None else Some faults.NotAFunctionPointer

abbrev pub member_fault : TypeInfo → ℕ → ℕ → Option RelocationFault
member_fault types id offset = pointer_fault types (member_there (type_behind types id) offset)

-- ---- the program: the one of the symbol's name, which begins where the symbol is

abbrev pub symbol_text : Symbol → List ℕ
symbol_text s = unwrap_or s.name []

unfoldable pub is_struct_ops_type : bpf_prog_type → Bool
is_struct_ops_type program_types.BPF_PROG_TYPE_STRUCT_OPS = true
is_struct_ops_type _ = false

abbrev pub is_struct_ops_name : List ℕ → Bool
is_struct_ops_name name =
    option_map_or (λ (kind : ProgramKind). is_struct_ops_type kind.program_type)
    (program_kind name) false

abbrev pub is_struct_ops_section : List ℕ → ℕ → Bool
is_struct_ops_section bytes index =
    option_map_or is_struct_ops_name
    (option_and_then section_name (find (λ s. s.index == index) (sections bytes))) false

abbrev pub is_entry_point : Symbol → Program → Bool
is_entry_point s p = stands_in p.section_index s.section_index && p.address == s.address

abbrev pub found_fault : List ℕ → Symbol → Option Program → Option RelocationFault
found_fault bytes s None = Some faults.UnknownProgram
found_fault bytes s (Some p) =
    if not (is_entry_point s p) then Some faults.UnknownProgram
    else if is_struct_ops_section bytes p.section_index then None
    else Some faults.NotStructOps

abbrev pub program_fault : List ℕ → Object → Symbol → Option RelocationFault
program_fault bytes object s = found_fault bytes s (get object.programs (symbol_text s))

-- ---- one relocation

unfoldable pub relocation_fault : List ℕ → Object → TypeInfo → List BareVariable → ElfRelocation
    → Option RelocationFault
relocation_fault bytes object types variables r =
    if_some (get object.symbol_table r.symbol_index)
    (λ s.
    if_some (find (holds_place r.offset) variables)
    (λ v.
    or_else (member_fault types v.place.type_id (r.offset - v.place.offset))
    (program_fault bytes object s))
    (Some faults.OutsideVariables))
    (Some faults.UnknownSymbol)

abbrev pub named_fault : Option RelocationFault → ℕ → Option StructOpsError
named_fault fault place = option_map (λ f. errors.Relocation place f) fault

abbrev pub target_name : Object → ElfRelocation → List ℕ
target_name object r = option_map_or symbol_text (get object.symbol_table r.symbol_index) []

-- ---- all of a section

abbrev pub with_program_at : Object → FinMap nat_cmp (List ℕ) → ElfRelocation
    → FinMap nat_cmp (List ℕ)
with_program_at object found r = insert found r.offset (target_name object r)

-- the names of programs by offset
abbrev pub programs_put : Object → List ElfRelocation → FinMap nat_cmp (List ℕ)
programs_put object rs = fold (with_program_at object) empty rs

abbrev pub relocations_fault : List ℕ → Object → TypeInfo → List BareVariable
    → List ElfRelocation
    → Option StructOpsError
relocations_fault bytes object types variables rs =
    first_some (λ r. named_fault (relocation_fault bytes object types variables r) r.offset) rs
