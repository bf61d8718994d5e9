-- What C reads of the initial values of maps.
use Rattle.std.specs.Prelude.{◌≡◌, ⊤, ℕ, ◌+◌, Bool, true, false, List, [], ◌∷◌, ◌++◌, length, Some}
use Rattle.std.specs.Prelude.{None, MatchBool}
use Rattle.ebpf_initial_slots.specs.InitialSlots.{is_initial_slot_memory, initial_slots}
use Rattle.ebpf_initial_slots.specs.InitialSlots.{initial_slots_fault}
use Rattle.ebpf_initial_slots.specs.declared.slots.InitialSlot.{InitialSlot}
use Rattle.ebpf_initial_slots.specs.declared.target.InitialTarget.{InitialTarget}
use Rattle.ebpf_initial_slots.specs.declared.target.InitialTarget.TheVariants.{Map, Program}
use Rattle.ebpf_object.specs.declared.object.Object.{Object}
use Rattle.capi_rows.specs.Answers.{Listed}
use Rattle.capi_rows.specs.Refusals.{flag}
use Rattle.capi_rows.specs.Handles.{IsRefusal}
use Rattle.capi_rows.specs.Listings.{listed_by, zero_terminated}
use Rattle.capi_rows.specs.Numbers.{initial_slots_refusal}
use Rattle.capi_rows.specs.declared.refusal.Refusal.{Refusal}
use Rattle.capi_rows.specs.declared.programs.ebpf_initial_slot.{ebpf_initial_slot}

-- the name of what stands in a slot
abbrev pub target_name : InitialTarget → List ℕ
target_name (Map name) = name
target_name (Program name) = name

abbrev pub names_program : InitialTarget → Bool
names_program (Map name) = false
names_program (Program name) = true

-- the names of a slot's map and of its target
abbrev pub slot_text : InitialSlot → List ℕ
slot_text s = zero_terminated s.map ++ zero_terminated (target_name s.target)

-- the row of a slot whose names begin at two places
abbrev pub slot_row : InitialSlot → ℕ → ℕ → ebpf_initial_slot
slot_row s name_at target_at = record {
  name_at = name_at;
  name_len = length s.map;
  target_at = target_at;
  target_len = length (target_name s.target);
  index = s.index;
  is_program = flag (names_program s.target);
}

-- slots in their order
abbrev pub slot_list : List InitialSlot → Listed ebpf_initial_slot
slot_list slots =
    listed_by (λ s at. slot_row s at (at + length (zero_terminated s.map)) ∷ []) slot_text slots

-- those of an object, by the bytes of its file
pub record IsSlotList (file : List ℕ) (o : Object) (listed : Listed ebpf_initial_slot)
    : Type 0 where
  pub sound : initial_slots_fault file o ≡ None
  pub is : listed ≡ slot_list (initial_slots file o)

abbrev pub CannotListSlots : List ℕ → Object → Refusal → Type 0
CannotListSlots file o =
    IsRefusal (λ e. MatchBool (is_initial_slot_memory e) ⊤ (initial_slots_fault file o ≡ Some e))
    initial_slots_refusal
