-- The outcomes of the passes over maps and externs: what refuses an object, and the object that the passes before leave.
use Rattle.std.proofs.Common.{◌≡◌, Bool, true, false, List, [], ◌∷◌, map, Option, Some, None, refl, sym, ap, ◌∙◌, subst, if◌then◌else◌}
use Rattle.std.specs.Prelude.{is_some}
use Rattle.ebpf_base.specs.Faults.{first_some, or_else}
use Rattle.ebpf_ksyms.specs.Sources.{Source}
use Rattle.ebpf_object.specs.Names.{has_function_in}
use Rattle.ebpf_object.specs.Prepared.{Stages, before_externs, before_maps, before_resolution}
use Rattle.ebpf_object.specs.Stages.{Chosen, Resolves, own_maps}
use Rattle.ebpf_object.specs.declared.object.Object.{Object}
use Rattle.ebpf_outcomes.specs.SlotOutcomes.{AreExternOutcomes, AreMapOutcomes, ExternsRefuseByOutcomes, MapsRefuseByOutcomes, extern_slots_if, map_outcome, map_slots, map_slots_if, slot_error}
use Rattle.ebpf_outcomes.specs.declared.slot_outcomes.MapOutcome.{MapOutcome}
use Rattle.ebpf_reloc.proofs.SlotOutcomes.{first_refused}
use Rattle.ebpf_reloc.specs.Maps.{map_edit}
use Rattle.ebpf_reloc.specs.NamedSlots.{map_names}
use Rattle.ebpf_reloc.specs.Passes.{extern_edit, extern_fault, inputs_of}
use Rattle.ebpf_reloc.specs.SlotOutcomes.{extern_outcomes}
use Rattle.ebpf_reloc.specs.declared.slot_outcomes.SlotOutcome.{SlotOutcome}

-- ---- what refuses an object

first_of_made : {A B E : Type 0} (g : B → Option E) (f : A → B) (xs : List A) → first_some g (map f xs) ≡ first_some (λ x. g (f x)) xs
first_of_made g f [] = refl
first_of_made g f (x ∷ xs) = ap (or_else (g (f x))) (first_of_made g f xs)

pub maps_refuse : MapsRefuseByOutcomes
maps_refuse descriptors o =
    first_refused (map_edit (inputs_of o.symbol_table (has_function_in o.functions) (own_maps o.maps descriptors))) o.symbol_table o.relocations o.functions
    ∙ sym (first_of_made (λ (row : MapOutcome). slot_error o row.slot) (map_outcome (map_names o.maps) o.symbol_table) (map_slots descriptors o))

pub externs_refuse : ExternsRefuseByOutcomes
externs_refuse o = by (is_some o.btf)
  where
    by : (b : Bool) → (if b then extern_fault o.symbol_table o.externs o.relocations o.functions else None) ≡ first_some (slot_error o) (if b then extern_outcomes o.symbol_table o.externs o.relocations o.functions else [])
    by true = first_refused (extern_edit (record { symbols = o.symbol_table; externs = o.externs })) o.symbol_table o.relocations o.functions
    by false = refl

-- ---- the object that the passes before leave

pub are_map_outcomes : {lines : Source} (s t : Chosen) (o before : Object) (rows : List MapOutcome) → t ≡ before_maps s → Stages t lines o before → rows ≡ map_slots_if s.descriptors before → AreMapOutcomes s o rows
are_map_outcomes {lines = lines} s t o before rows same stages are = record { before = before; lines = lines; stages = subst (λ x. Stages x lines o before) same stages; are = are }

-- externs are resolved after descriptors are written
resolved_after : (s : Chosen) (none lines : Source) (o b c : Object) → Stages (before_resolution s) none o b → Resolves s.kernel lines b c → Stages (before_externs s) lines o c
resolved_after s none lines o b c stages resolves = record {
  relocated = stages.relocated;
  fds_written = stages.fds_written;
  resolved = c;
  unlinked = c;
  given = stages.given;
  types = stages.types;
  maps_sound = stages.maps_sound;
  maps = stages.maps;
  resolution = subst (λ (x : Object). Resolves s.kernel lines x c) (stages.calls ∙ stages.externs ∙ stages.resolution) resolves;
  externs_sound = refl;
  externs = refl;
  written = refl;
  calls = refl;
}

pub are_extern_outcomes : {none : Source} (s t : Chosen) (lines : Source) (o b c : Object) (rows : List SlotOutcome) → t ≡ before_resolution s → Stages t none o b → Resolves s.kernel lines b c → rows ≡ extern_slots_if s.externs c
    → AreExternOutcomes s lines o rows
are_extern_outcomes {none = none} s t lines o b c rows same stages resolves are =
    record { before = c; stages = resolved_after s none lines o b c (subst (λ x. Stages x none o b) same stages) resolves; are = are }
