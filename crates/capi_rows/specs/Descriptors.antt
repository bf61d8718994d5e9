-- Descriptors of maps, as C names them: each row says where its map's name stands in a text.
use Rattle.std.specs.Prelude.{◌≡◌, ℕ, ◌+◌, List, length, take, drop, nat_le, Bool, true, Option}
use Rattle.std.specs.Prelude.{Some, None, option_map, is_some, MatchBool, if◌then◌else◌}
use Rattle.std.specs.List.{filter_map, list_all}
use Rattle.std.specs.Str.{is_utf8}
use Rattle.ebpf_object.specs.Stages.{fds_written, fds_fault, given_fault, CompleteFdsFault}
use Rattle.ebpf_object.specs.Stages.{Descriptor}
use Rattle.ebpf_object.specs.Prepared.{RefusesPreparing}
use Rattle.ebpf_object.specs.declared.object.Object.{Object}
use Rattle.capi_rows.specs.Handles.{IsRefusal}
use Rattle.capi_rows.specs.Numbers.{prepare_refusal}
use Rattle.capi_rows.specs.Refusals.{plain}
use Rattle.capi_rows.specs.declared.codes.TheConstants.{BAD_NAME}
use Rattle.capi_rows.specs.declared.reads.ebpf_descriptor.{ebpf_descriptor}
use Rattle.capi_rows.specs.declared.refusal.Refusal.{Refusal}

-- the bytes as a text, where they are one
unfoldable pub text_of : List ℕ → Option (List ℕ)
text_of bytes = if is_utf8 bytes then Some bytes else None

-- the name at an offset of a text, where it is inside and is itself a text
abbrev pub name_in : List ℕ → ℕ → ℕ → Option (List ℕ)
name_in text at count =
    if nat_le (at + count) (length text) then text_of (take count (drop at text)) else None

-- a map's name, and its descriptor
abbrev pub descriptor_in : List ℕ → ebpf_descriptor → Option Descriptor
descriptor_in text row =
    option_map (λ name. (name, row.descriptor)) (name_in text row.name_at row.name_len)

-- each row names a map
abbrev pub have_names : List ℕ → List ebpf_descriptor → Bool
have_names text rows = list_all (λ row. is_some (name_in text row.name_at row.name_len)) rows

abbrev pub descriptors_in : List ℕ → List ebpf_descriptor → List Descriptor
descriptors_in text rows = filter_map (descriptor_in text) rows

-- a row that names no map is refused first; what else refuses does so only where each row names one
abbrev pub NamesFirst : List ebpf_descriptor → List ℕ → (Refusal → Type 0) → Refusal → Type 0
NamesFirst rows text Why r = MatchBool (have_names text rows) (Why r) (r ≡ plain BAD_NAME)

-- written into the slots that refer to the maps, each of which has and can take its descriptor
pub record HasWrittenMapFds (rows : List ebpf_descriptor) (text : List ℕ) (old new : Object)
    : Type 0 where
  pub named : have_names text rows ≡ true
  pub complete : given_fault (Some (descriptors_in text rows)) true old ≡ None
  pub sound : fds_fault (Some (descriptors_in text rows)) old ≡ None
  pub is : new ≡ fds_written (Some (descriptors_in text rows)) old

-- they can't be written
abbrev pub CannotWriteMapFds : List ebpf_descriptor → List ℕ → Object → Refusal → Type 0
CannotWriteMapFds rows text o =
    NamesFirst rows text
    (IsRefusal
    (RefusesPreparing (CompleteFdsFault (descriptors_in text rows) o)) prepare_refusal)
