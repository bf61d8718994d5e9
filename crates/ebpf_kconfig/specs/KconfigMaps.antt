-- The map `.kconfig`, the offsets of the externs in its value, and the symbols that are defined in
-- it (libbpf 1.5, libbpf.c: cmp_externs, bpf_object__collect_externs,
-- bpf_object__init_kconfig_map).
use Rattle.std.specs.Prelude.{ℕ, ◌+◌, ◌-◌, ◌*◌, ◌/◌, ◌^◌, nat_lt, ◌==◌, List, [], ◌∷◌, ◌++◌, length}
use Rattle.std.specs.Prelude.{fold, replicate, Option, Some, None, unwrap_or, if◌then◌else◌, true}
use Rattle.std.specs.Prelude.{◌≡◌, option_map, map}
use Rattle.std.specs.FinMap.{FinMap, get, insert, entries, empty}
use Rattle.std.specs.List.{flat_map}
use Rattle.std.specs.Map.{keys_of}
use Rattle.std.specs.Option.{option_to_list, option_and_then}
use Rattle.std.specs.Ordering.{nat_cmp}
use denote.Ref.{Bor}
use Rattle.ebpf_base.specs.Faults.{first_some, or_else}
use Rattle.ebpf_base.specs.Maps.{put_all, text_cmp, key_cmp, map_values}
use Rattle.ebpf_btf.specs.TypeInfo.{TypeInfo}
use Rattle.ebpf_ksyms.specs.Sources.{Source}
use Rattle.ebpf_model.specs.Symbols.{is_extern}
use Rattle.ebpf_model.specs.declared.symbol.Symbol.{Symbol}
use Rattle.ebpf_object.specs.Chain.{Passes}
use Rattle.ebpf_object.specs.Headline.{IsFinished}
use Rattle.ebpf_object.specs.Prepared.{Stages}
use Rattle.ebpf_object.specs.Stages.{own_maps, Chosen}
use Rattle.ebpf_object.specs.Names.{has_function_in}
use Rattle.ebpf_object.specs.declared.object.Object.{Object}
use Rattle.ebpf_parts.specs.declared.maps.either.Map.{Map}
use Rattle.ebpf_parts.specs.declared.maps.either.Map.TheVariants.{Legacy}
use Rattle.ebpf_parts.specs.declared.section.EbpfSectionKind.TheVariants.{Rodata}
use Rattle.ebpf_parts.specs.declared.maps.definition.PinningType.TheVariants as pinned
use Rattle.ebpf_kconfig.specs.KconfigExterns.{kconfig_alignment, kconfig_size, kconfig_section}
use Rattle.ebpf_kconfig.specs.KconfigExterns.{kconfig_externs, kconfig_externs_fault}
use Rattle.ebpf_kconfig.specs.declared.error.KconfigError.{KconfigError}
use Rattle.ebpf_kconfig.specs.declared.error.KconfigError.TheVariants.{NoValue, WrongSize, TooLarge}
use Rattle.ebpf_kconfig.specs.declared.externs.KconfigExtern.{KconfigExtern}

-- ---- the offsets of the kconfig externs in the value of the map `.kconfig`
-- (libbpf 1.5, libbpf.c: cmp_externs, bpf_object__collect_externs).

abbrev pub alignment_of : KconfigExtern → ℕ
alignment_of e = kconfig_alignment e.kind

abbrev pub extern_size : KconfigExtern → ℕ
extern_size e = kconfig_size e.kind

-- ---- order

-- externs by name; of equal names the last
abbrev pub ExternsByName : Type 0
ExternsByName = FinMap text_cmp KconfigExtern

-- descending alignment, then ascending size
abbrev pub layout_key : KconfigExtern → ℕ × ℕ
layout_key e = (8 - alignment_of e, extern_size e)

abbrev pub with_extern : FinMap key_cmp ExternsByName → KconfigExtern → FinMap key_cmp ExternsByName
with_extern groups e =
    insert groups (layout_key e) (insert (unwrap_or (get groups (layout_key e)) empty) e.name e)

abbrev pub extern_groups : List KconfigExtern → FinMap key_cmp ExternsByName
extern_groups externs = fold with_extern empty externs

abbrev pub group_externs : ExternsByName → List KconfigExtern
group_externs group = flat_map (λ name. option_to_list (get group name)) (keys_of (entries group))

-- by descending alignment, then ascending size, then name
abbrev pub laid_out : List KconfigExtern → List KconfigExtern
laid_out externs = flat_map (λ group. group_externs group.1) (entries (extern_groups externs))

-- ---- offsets

-- the first multiple of an alignment from an offset on
abbrev pub rounded_up : ℕ → ℕ → ℕ
rounded_up offset alignment = (offset + (alignment - 1)) / alignment * alignment

-- the offset of an extern behind data that end at an offset
abbrev pub extern_offset : ℕ → KconfigExtern → ℕ
extern_offset end e = rounded_up end (alignment_of e)

abbrev pub extern_end : ℕ → KconfigExtern → ℕ
extern_end end e = extern_offset end e + extern_size e

-- the offsets, by name, of consecutive externs
abbrev pub extern_offsets : ℕ → List KconfigExtern → List (List ℕ × ℕ)
extern_offsets end [] = []
extern_offsets end (e ∷ es) = (e.name, extern_offset end e) ∷ extern_offsets (extern_end end e) es

abbrev pub kconfig_offsets : List KconfigExtern → FinMap text_cmp ℕ
kconfig_offsets externs = put_all empty (extern_offsets 0 (laid_out externs))

-- the end of the last extern
abbrev pub layout_end : ℕ → List KconfigExtern → ℕ
layout_end end [] = end
layout_end end (e ∷ es) = layout_end (extern_end end e) es

abbrev pub kconfig_value_size : List KconfigExtern → ℕ
kconfig_value_size externs = layout_end 0 (laid_out externs)

-- an end past 32 bits
abbrev pub size_fault_from : ℕ → List KconfigExtern → Option KconfigError
size_fault_from end [] = None
size_fault_from end (e ∷ es) =
    if nat_lt (extern_end end e) (2 ^ 32)
    then size_fault_from (extern_end end e) es
    else Some TooLarge

-- ---- values

abbrev pub KconfigValues : Type 0
KconfigValues = FinMap text_cmp (List ℕ)

-- the value of an extern: zeros if none is given
abbrev pub value_or_zeros : KconfigValues → KconfigExtern → List ℕ
value_or_zeros values e = unwrap_or (get values e.name) (replicate (extern_size e) 0)

-- the bytes of consecutive externs, each behind zeros up to its offset
abbrev pub bytes_from : KconfigValues → ℕ → List KconfigExtern → List ℕ
bytes_from values end [] = []
bytes_from values end (e ∷ es) =
    replicate (extern_offset end e - end) 0
    ++ (value_or_zeros values e ++ bytes_from values (extern_end end e) es)

abbrev pub kconfig_bytes : KconfigValues → List KconfigExtern → List ℕ
kconfig_bytes values externs = bytes_from values 0 (laid_out externs)

-- an extern that has to have a value and has none, or a value of another size
abbrev pub given_fault : KconfigExtern → Option (List ℕ) → Option KconfigError
given_fault e None = if e.is_weak then None else Some (NoValue e.name)
given_fault e (Some bytes) =
    if length bytes == extern_size e
    then None
    else Some (WrongSize e.name (extern_size e) (length bytes))

abbrev pub value_fault : KconfigValues → KconfigExtern → Option KconfigError
value_fault values e = given_fault e (get values e.name)

-- the faults of values in the order of the externs, then the fault of their size
unfoldable pub values_fault : KconfigValues → List KconfigExtern → Option KconfigError
values_fault values externs =
    or_else (first_some (value_fault values) externs) (size_fault_from 0 (laid_out externs))

-- ---- the map `.kconfig`, and the symbols in it (libbpf 1.5, libbpf.c:
-- bpf_object__init_kconfig_map).

-- ---- the map

-- an array of one value that programs only read (BPF_MAP_TYPE_ARRAY, BPF_F_RDONLY_PROG), in no
-- section
unfoldable pub kconfig_map : ℕ → List ℕ → Map
kconfig_map size bytes = Legacy (record {
  def = record {
    map_type = 2;
    key_size = 4;
    value_size = size;
    max_entries = 1;
    map_flags = 128;
    id = 0;
    pinning = pinned.None;
  };
  inner_def = None;
  section_index = 0;
  section_kind = Rodata;
  symbol_index = None;
  bytes = bytes;
})

-- the map of some externs
abbrev pub externs_map : KconfigValues → List KconfigExtern → Map
externs_map values externs = kconfig_map (kconfig_value_size externs) (kconfig_bytes values externs)

-- without externs there is no map
abbrev pub with_kconfig_map : KconfigValues → List KconfigExtern → FinMap text_cmp Map
    → FinMap text_cmp Map
with_kconfig_map values externs maps =
    if length externs == 0 then maps else insert maps kconfig_section (externs_map values externs)

-- ---- symbols

-- the symbol of an extern is in the map at its offset: the index of the map's section is 0, which
-- is no section (SHN_UNDEF)
abbrev pub defined_at : Symbol → Option ℕ → Symbol
defined_at s None = s
defined_at s (Some offset) =
    record s { section_index = Some 0; address = offset; is_definition = true }

abbrev pub defined_symbol : FinMap text_cmp ℕ → Symbol → Symbol
defined_symbol offsets s =
    if is_extern s then defined_at s (option_and_then (get offsets) s.name) else s

unfoldable pub symbols_defined : List KconfigExtern → FinMap nat_cmp Symbol → FinMap nat_cmp Symbol
symbols_defined externs symbols = map_values (defined_symbol (kconfig_offsets externs)) symbols

-- ---- both

-- the first fault: of an extern, of a value, of the size
unfoldable pub kconfig_fault : Option TypeInfo → FinMap nat_cmp Symbol → KconfigValues
    → Option KconfigError
kconfig_fault types symbols values =
    or_else (kconfig_externs_fault types symbols)
    (values_fault values (kconfig_externs types symbols))

-- ---- theorems about the map's data, and about an object prepared after values are set

-- if no value has a fault, the data are as long as the map's value
abbrev pub DataIsValueSized : Type 0
DataIsValueSized =
    (values : KconfigValues) (externs : List KconfigExtern) → values_fault values externs ≡ None
    → length (kconfig_bytes values externs) ≡ kconfig_value_size externs

-- the passes that the stages made over an object: the sections of code are those of the functions
abbrev pub passes_made : {steps : Chosen} {lines : Source} {o after : Object}
    → Stages steps lines o after
    → Passes
passes_made {steps} stages = record {
  target = steps.target;
  maps =
      option_map
      (λ descriptors. (
        has_function_in stages.relocated.functions,
        own_maps stages.relocated.maps
            descriptors,
      )) steps.descriptors;
  externs = steps.externs;
  calls = if steps.calls then Some (has_function_in stages.unlinked.functions) else None;
}

-- The object after all stages is finished, for any values of variables, sizes of maps and values of
-- the kernel's configuration that were set before.
abbrev pub PreparedIsFinished : Type 0
PreparedIsFinished =
    (steps : Chosen) (lines : Source) (o after : Object) (stages : Stages steps lines o after)
    → IsFinished (passes_made stages) o after

-- ---- definitions for contracts of private functions alone

abbrev pub defined_in : FinMap text_cmp ℕ → FinMap nat_cmp Symbol → ℕ → Option Symbol
    → FinMap nat_cmp Symbol
defined_in offsets symbols index None = symbols
defined_in offsets symbols index (Some s) = insert symbols index (defined_symbol offsets s)

-- the symbols, of which that of an index stands in the map where it is an extern of it
abbrev pub with_defined : FinMap text_cmp ℕ → FinMap nat_cmp Symbol → ℕ → FinMap nat_cmp Symbol
with_defined offsets symbols index = defined_in offsets symbols index (get symbols index)

-- the groups, one of which has one more extern
abbrev pub with_extern_in : FinMap key_cmp ExternsByName → KconfigExtern → Option ExternsByName
    → FinMap key_cmp ExternsByName
with_extern_in groups e group =
    insert groups (layout_key e) (insert (unwrap_or group empty) e.name e)

abbrev pub lent_externs : List (Bor KconfigExtern) → List KconfigExtern
lent_externs = map (λ e. e.now)
