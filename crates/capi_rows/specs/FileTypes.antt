-- The names of the types of a file.
use Rattle.std.specs.Prelude.{ℕ, List, Option, Some, None, slice_get, Bool, is_some, codes}
use Rattle.std.specs.Prelude.{unwrap_or, ◌≡◌, ⊤, [], ◌∷◌, Result, Ok, Err, MatchBool, ◌==◌}
use Rattle.std.specs.Prelude.{if◌then◌else◌}
use Rattle.std.specs.Option.{option_and_then}
use Rattle.std.specs.Result.{result_ok}
use Rattle.std.specs.FinMap.{contains_key}
use Rattle.capi_rows.specs.Refusals.{flag}
use Rattle.capi_rows.specs.FaultNumbers.{type_refusal}
use Rattle.capi_rows.specs.declared.refusal.Refusal.{Refusal}
use Rattle.ebpf_base.specs.Faults.{first_in, first_of}
use Rattle.ebpf_base.specs.declared.endianness.Endianness.{Endianness}
use Rattle.ebpf_base.specs.declared.endianness.Endianness.TheVariants.{Little, Big}
use Rattle.ebpf_btf.specs.Memory.{is_btf_memory}
use Rattle.ebpf_btf.specs.TypeInfo.{TypeInfo}
use Rattle.ebpf_btf.specs.Reading.{type_info_of}
use Rattle.ebpf_btf.specs.Strings.{type_name}
use Rattle.ebpf_btf.specs.declared.error.BtfError.{BtfError}
use Rattle.ebpf_elf.specs.Faults.{faults}
use Rattle.ebpf_elf.specs.Headers.{ei_data}
use Rattle.ebpf_elf.specs.Sections.{SectionOf, data_faults, data_of}
use Rattle.ebpf_btf_load.specs.KernelTypes.{btf_section}
use Rattle.ebpf_object.specs.TypedExterns.{has_typed}
use Rattle.ebpf_object.specs.declared.object.Object.{Object}
use Rattle.ebpf_parsing.specs.FileTypes.{has_relocations}
use Rattle.ebpf_parsing.specs.Sections.{is_big}
use Rattle.capi_rows.specs.Handles.{IsRefusal}
use Rattle.capi_rows.specs.declared.info.ebpf_object_info.{ebpf_object_info}

-- a value, unless there is a fault
abbrev pub if_sound : {X E : Type 0} → Option E → Option X → Option X
if_sound None value = value
if_sound (Some e) value = None

-- the types of a section of a file, where they can be read
abbrev pub types_of_section : List ℕ → SectionOf → Option TypeInfo
types_of_section file s =
    if_sound (first_of (data_faults s)) (result_ok (type_info_of (ei_data file) (data_of s)))

-- those of the first section .BTF of a file
unfoldable pub file_types : List ℕ → Option TypeInfo
file_types file =
    if_sound (first_in (faults file)) (option_and_then (types_of_section file) (btf_section file))

-- the name of the type with an id, where it can be read
abbrev pub name_of_id : TypeInfo → ℕ → Option (List ℕ)
name_of_id types id =
    option_and_then (λ t. result_ok (type_name types t)) (slice_get types.types id)

abbrev pub file_type_name : List ℕ → ℕ → Option (List ℕ)
file_type_name file id = option_and_then (λ types. name_of_id types id) (file_types file)

-- ---- what an object is, in numbers

abbrev pub info_of : Object → ebpf_object_info
info_of o = record {
  is_big_endian = flag (is_big o.endianness);
  has_kernel_version = flag (is_some o.kernel_version);
  kernel_version = unwrap_or o.kernel_version 0;
  has_types = flag (is_some o.btf);
  has_relocations = flag (has_relocations o.btf_ext);
  has_typed_externs = flag (has_typed o.btf o.externs);
}

-- the file has a section `license`; else the license is the default
abbrev pub states_license : Object → Bool
states_license o = contains_key o.section_infos (codes "license")

-- ---- the types of a kernel, as bytes

-- the byte order that the magic number 0xeb9f tells
abbrev pub order_by_magic : List ℕ → Endianness
order_by_magic [] = Little
order_by_magic (first ∷ rest) = if first == 235 then Big else Little

-- the types that the bytes spell, or why they spell none
abbrev pub types_in : List ℕ → Result TypeInfo BtfError
types_in bytes = type_info_of (order_by_magic bytes) bytes

-- the types can't be read, or memory was refused
abbrev pub CannotRead : List ℕ → Refusal → Type 0
CannotRead bytes =
    IsRefusal (λ e. MatchBool (is_btf_memory e) ⊤ (types_in bytes ≡ Err e)) (type_refusal 200)

abbrev pub some_types : Result TypeInfo BtfError → Result (Option TypeInfo) BtfError
some_types (Ok types) = Ok (Some types)
some_types (Err e) = Err e

-- a kernel's types, where there are any: no bytes are none
abbrev pub types_if : List ℕ → Result (Option TypeInfo) BtfError
types_if [] = Ok None
types_if (first ∷ rest) = some_types (types_in (first ∷ rest))

-- a kernel's types, where there are any, can't be read, or memory was refused
abbrev pub CannotReadIf : List ℕ → Refusal → Type 0
CannotReadIf bytes =
    IsRefusal (λ e. MatchBool (is_btf_memory e) ⊤ (types_if bytes ≡ Err e)) (type_refusal 200)
