-- An object that is written for a kernel, stage by stage, up to the linking of its programs.
use Rattle.std.specs.Prelude.{◌≡◌, List, [], Some, None, Result, Ok, Err, true, pos, ⊤}
use Rattle.std.specs.FinMap.{entries, get}
use Rattle.std.specs.Map.{keys_of}
use Rattle.ebpf_btf.specs.TypeInfo.{TypeInfo}
use Rattle.ebpf_core_relo.specs.Records.{Written, with_slots}
use Rattle.ebpf_ksyms.specs.Sources.{Source, Text}
use Rattle.ebpf_model.specs.Symbols.{FunctionKey}
use Rattle.ebpf_object.specs.Stages as stage
use Rattle.ebpf_object.specs.Stages.{Chosen, Descriptor, Resolves, fds_fault, given_fault}
use Rattle.ebpf_object.specs.Stages.{numbered_descriptors, unwritten_fault}
use Rattle.ebpf_object.specs.WrittenSlots.{externs_fault, with_externs}
use Rattle.ebpf_object.specs.declared.object.Object.{Object}
use Rattle.ebpf_object.specs.declared.prepare_error.PrepareError.{PrepareError}
use Rattle.ebpf_verdict.specs.declared.writing.WrittenObject.{WrittenObject}

-- the descriptors 1, 2, .. of the object's own maps, in byte order of their names
abbrev pub own_descriptors : Object → List Descriptor
own_descriptors o = numbered_descriptors (pos 0) (keys_of (entries o.maps))

-- all passes, over the types of a kernel, with these descriptors, and with nothing missing
abbrev pub all_passes : TypeInfo → Object → Chosen
all_passes kernel o = record {
  target = Some kernel;
  descriptors = Some (own_descriptors o);
  kernel = Some (Some kernel);
  externs = true;
  calls = true;
  complete = true;
}

-- the lines of a kernel's symbols where none are given
abbrev pub no_symbols : Source
no_symbols = Text []

-- the functions of an object have these slots, and all else is as before
pub record HasSlots (slots : Written) (o after : Object) : Type 0 where
  pub each : (key : FunctionKey)
      → get after.functions key ≡ with_slots (get slots key) (get o.functions key)
  pub others_stay : after ≡ record o { functions = after.functions }

-- From an object that is relocated to the kernel's types to what linking begins with: with
-- descriptors, then with externs resolved by the kernel's types, then with externs written. No call
-- of an extern is left unwritten.
pub record IsWritten (kernel : TypeInfo) (relocated unlinked : Object) : Type 0 where
  pub fds_written : Object
  pub resolved : Object
  pub maps_sound : fds_fault (Some (own_descriptors relocated)) relocated ≡ None
  pub maps : fds_written ≡ stage.fds_written (Some (own_descriptors relocated)) relocated
  pub resolution : Resolves (Some (Some kernel)) no_symbols fds_written resolved
  pub externs_sound : externs_fault resolved ≡ None
  pub externs : unlinked ≡ with_externs resolved
  pub complete : unwritten_fault true true unlinked ≡ None

-- the same from an object with the slots that CO-RE relocations write, where each slot's own map
-- has a descriptor
pub record IsWrittenOver (kernel : TypeInfo) (slots : Written) (o unlinked : Object)
    : Type 0 where
  pub given : given_fault (Some (own_descriptors o)) true o ≡ None
  pub relocated : Object
  pub slots_put : HasSlots slots o relocated
  pub passes : IsWritten kernel relocated unlinked

-- an object that was written, where no extern is lacking; nothing is said of one that a pass
-- refuses
abbrev pub IsWrittenAs : TypeInfo → Written → Object → Result WrittenObject PrepareError → Type 0
IsWrittenAs kernel slots o (Ok w) = w.lacking ≡ [] → IsWrittenOver kernel slots o w.object
IsWrittenAs kernel slots o (Err e) = ⊤

-- a refusal, of which nothing is said for any object
abbrev pub IsUnstated : Result WrittenObject PrepareError → Type 0
IsUnstated r = (kernel : TypeInfo) (slots : Written) (o : Object) → IsWrittenAs kernel slots o r
