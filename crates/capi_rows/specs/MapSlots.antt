-- Slots that refer to a map without a descriptor, as C reads them.
use Rattle.std.specs.Prelude.{ℕ, List, [], ◌∷◌, length, Result, Ok, Err, if◌then◌else◌}
use Rattle.capi_rows.specs.Answers.{Listed}
use Rattle.capi_rows.specs.Descriptors.{descriptors_in, have_names}
use Rattle.capi_rows.specs.Listings.{listed_by, zero_terminated}
use Rattle.capi_rows.specs.declared.codes.TheConstants.{BAD_NAME}
use Rattle.capi_rows.specs.declared.map_slots.ebpf_map_slot.{ebpf_map_slot}
use Rattle.capi_rows.specs.declared.reads.ebpf_descriptor.{ebpf_descriptor}
use Rattle.ebpf_object.specs.Stages.{maps_without_descriptors}
use Rattle.ebpf_object.specs.declared.object.Object.{Object}
use Rattle.ebpf_reloc.specs.declared.named_slots.NamedSlot.{NamedSlot}

-- the row of a slot whose map's name begins at an offset of the text
abbrev pub map_slot_row : NamedSlot → ℕ → ebpf_map_slot
map_slot_row s name_at = record {
  name_at = name_at;
  name_len = length s.name;
  section = s.key.0;
  address = s.key.1;
  slot = s.slot;
}

-- slots in their order
abbrev pub map_slot_list : List NamedSlot → Listed ebpf_map_slot
map_slot_list slots =
    listed_by (λ s name_at. map_slot_row s name_at ∷ []) (λ s. zero_terminated s.name) slots

-- the slots whose own map none of the rows names
abbrev pub slots_without_descriptors : List ℕ → List ebpf_descriptor → Object → Listed ebpf_map_slot
slots_without_descriptors text rows o =
    map_slot_list (maps_without_descriptors o (descriptors_in text rows))

-- those; a row that names no map is refused first
abbrev pub read_slots_without_descriptors : List ℕ → List ebpf_descriptor → Object
    → Result (Listed ebpf_map_slot) ℕ
read_slots_without_descriptors text rows o =
    if have_names text rows then Ok (slots_without_descriptors text rows o) else Err BAD_NAME
