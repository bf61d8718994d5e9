-- The numbers of helpers and of map types that a kernel knows, by the enumerators of its types (the
-- kernel's include/uapi/linux/bpf.h, enum bpf_func_id and enum bpf_map_type).
use Rattle.std.specs.Prelude.{ℕ, List, length, drop, nat_eq, Option, Some, None, if◌then◌else◌}
use Rattle.std.specs.Prelude.{Bool, not, ◌&&◌, ◌==◌, [], codes, option_map, find}
use Rattle.std.specs.List.{starts_with, list_any}
use Rattle.std.specs.Str.{is_utf8}
use Rattle.std.specs.Option.{option_and_then}
use Rattle.ebpf_base.specs.Faults.{first_some}
use Rattle.ebpf_btf.specs.Strings.{before_zero, is_named, is_text, text_at}
use Rattle.ebpf_btf.specs.TypeInfo.{TypeInfo}
use Rattle.ebpf_btf.specs.declared.members.BtfEnum.{BtfEnum}
use Rattle.ebpf_btf.specs.declared.types.BtfType.{BtfType}
use Rattle.ebpf_btf.specs.declared.types.BtfType.TheVariants.{Enum}
use Rattle.ebpf_btf.specs.declared.kind.BtfKind.TheVariants as kinds

-- ---- texts with a prefix

-- the part of a text behind a prefix, where the text begins with it
abbrev pub without_prefix : List ℕ → List ℕ → Option (List ℕ)
without_prefix prefix text =
    if starts_with nat_eq text prefix then Some (drop (length prefix) text) else None

-- bytes that are a text
abbrev pub as_text : List ℕ → Option (List ℕ)
as_text bytes = if is_utf8 bytes then Some bytes else None

-- ---- the numbers that a kernel knows, by the enumerators of its types (the kernel's
-- include/uapi/linux/bpf.h, enum bpf_func_id and enum bpf_map_type).

-- the enumerators of an ENUM
unfoldable pub enumerators_of : BtfType → List BtfEnum
enumerators_of (Enum _ _ _ enumerators) = enumerators
enumerators_of _ = []

-- the enumerators of an ENUM that has a name
abbrev pub named_enumerators : TypeInfo → List ℕ → BtfType → Option (List BtfEnum)
named_enumerators types name t =
    if is_named types name kinds.Enum t then Some (enumerators_of t) else None

-- the enumerators of the first ENUM of a name
abbrev pub enumeration : TypeInfo → List ℕ → Option (List BtfEnum)
enumeration types name = first_some (named_enumerators types name) types.types

-- ---- numbers

-- an enumeration, and its enumerator that has the number behind the last one
pub record Numbering : Type 0 where
  pub enumeration : List ℕ
  pub end : List ℕ

abbrev pub helpers : Numbering
helpers = record { enumeration = codes "bpf_func_id"; end = codes "__BPF_FUNC_MAX_ID" }

abbrev pub map_type_numbering : Numbering
map_type_numbering = record { enumeration = codes "bpf_map_type"; end = codes "__MAX_BPF_MAP_TYPE" }

-- whether an enumerator has a number; the one at the end doesn't count
abbrev pub has_number : TypeInfo → List ℕ → ℕ → BtfEnum → Bool
has_number types end number e =
    e.value == number && not (is_text end (text_at types.strings e.name_offset))

-- whether a kernel knows a number, where its types have the enumeration
abbrev pub knows : Numbering → TypeInfo → ℕ → Option Bool
knows numbering types number =
    option_map (list_any (has_number types numbering.end number))
    (enumeration types numbering.enumeration)

unfoldable pub knows_helper : TypeInfo → ℕ → Option Bool
knows_helper = knows helpers

unfoldable pub knows_map_type : TypeInfo → ℕ → Option Bool
knows_map_type = knows map_type_numbering

-- ---- names of helpers

abbrev pub helper_mark : List ℕ
helper_mark = codes "BPF_FUNC_"

-- the name that an enumerator gives a helper: what stands behind the mark, where it is a text
abbrev pub name_by : TypeInfo → BtfEnum → Option (List ℕ)
name_by types e =
    option_and_then (without_prefix helper_mark)
    (option_and_then as_text (before_zero (drop e.name_offset types.strings)))

-- the first enumerator with a number
abbrev pub enumerator_with : Numbering → TypeInfo → ℕ → Option BtfEnum
enumerator_with numbering types number =
    option_and_then (find (has_number types numbering.end number))
    (enumeration types numbering.enumeration)

unfoldable pub helper_name : TypeInfo → ℕ → Option (List ℕ)
helper_name types number = option_and_then (name_by types) (enumerator_with helpers types number)
