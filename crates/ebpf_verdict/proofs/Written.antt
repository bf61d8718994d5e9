-- An object that is written for a kernel, and its verdict, put together from the steps.
use Rattle.std.proofs.Common.{◌≡◌, ◌<◌, ℕ, List, [], ◌∷◌, length, Some, None, Ok, Err, Result, Bool, refl, arith, true}
use Rattle.std.specs.FinMap.{get}
use Rattle.ebpf_btf.specs.TypeInfo.{TypeInfo}
use Rattle.ebpf_core_relo.specs.Records.{Written, with_slots}
use Rattle.ebpf_model.specs.Symbols.{FunctionKey}
use Rattle.ebpf_object.specs.Stages as stage
use Rattle.ebpf_object.specs.Stages.{Resolves, fds_fault, given_fault, unwritten_fault}
use Rattle.ebpf_object.specs.WrittenSlots.{externs_fault, with_externs}
use Rattle.ebpf_object.specs.declared.object.Object.{Object}
use Rattle.ebpf_verdict.specs.declared.externs.LackingExtern.{LackingExtern}
use Rattle.ebpf_verdict.specs.Writing.{HasSlots, IsWritten, IsWrittenOver, no_symbols, own_descriptors}

-- a list of some items isn't empty
pub not_none : {A P : Type 0} (xs : List A) → 0 < length xs → xs ≡ [] → P
not_none [] h e = absurd (omega (arith, h))
not_none (x ∷ xs) h e = cc

pub has_slots : (slots : Written) (o after : Object) → ((key : FunctionKey) → get after.functions key ≡ with_slots (get slots key) (get o.functions key)) → after ≡ record o { functions = after.functions } → HasSlots slots o after
has_slots slots o after each others = record { each = each; others_stay = others }

pub written : (kernel : TypeInfo) (a b c d : Object) → b ≡ stage.fds_written (Some (own_descriptors a)) a → fds_fault (Some (own_descriptors a)) a ≡ None → Resolves (Some (Some kernel)) no_symbols b c → d ≡ with_externs c → externs_fault c ≡ None → unwritten_fault true true d ≡ None → IsWritten kernel a d
written kernel a b c d maps maps_sound resolution externs externs_sound complete = record {
  fds_written = b;
  resolved = c;
  maps_sound = maps_sound;
  maps = maps;
  resolution = resolution;
  externs_sound = externs_sound;
  externs = externs;
  complete = complete;
}

pub written_over : (kernel : TypeInfo) (slots : Written) (o a d : Object) → given_fault (Some (own_descriptors o)) true o ≡ None → HasSlots slots o a → IsWritten kernel a d → IsWrittenOver kernel slots o d
written_over kernel slots o a d given put passes = record { given = given; relocated = a; slots_put = put; passes = passes }

pub written_as : (kernel : TypeInfo) (slots : Written) (o a d : Object) (lacking : List LackingExtern) → given_fault (Some (own_descriptors o)) true o ≡ None → HasSlots slots o a → (lacking ≡ [] → IsWritten kernel a d) → lacking ≡ [] → IsWrittenOver kernel slots o d
written_as kernel slots o a d lacking given put passes empty = written_over kernel slots o a d given put (passes empty)
