-- What holds of an object after programs are left out: the functions that the remaining programs
-- reach have all that they had.
use Rattle.std.specs.Prelude.{◌≡◌, ℕ, ◌<◌, List, length, Some}
use Rattle.std.specs.FinMap.{get}
use Rattle.ebpf_elf.specs.declared.relocation.ElfRelocation.{ElfRelocation}
use Rattle.ebpf_model.specs.Symbols.{FunctionKey}
use Rattle.ebpf_model.specs.Walks.{found_at}
use Rattle.ebpf_model.specs.declared.function.Function.{Function}
use Rattle.ebpf_object.specs.declared.object.Object.{Object}
use Rattle.ebpf_reloc.specs.References.{functions_of}
use Rattle.ebpf_reloc.specs.SlotTargets.{relocation_of}
use Rattle.ebpf_chosen_programs.specs.LeavingOut.{AreLeftOut, extern_name, remaining}
use Rattle.ebpf_chosen_programs.specs.Reached.{IsReached, own_linkable}

-- each slot of a reached function has its relocation
abbrev pub RelocationsOfReachedStay : Type 0
RelocationsOfReachedStay =
    (names : List (List ℕ)) (before after : Object)
    → AreLeftOut names before after
    → (key : FunctionKey) (f : Function)
    → IsReached (own_linkable before) (remaining names before.programs) key
    → get before.functions key ≡ Some f
    → (i : ℕ)
    → i < length f.instructions
    → relocation_of (own_linkable after) f i ≡ relocation_of (own_linkable before) f i

-- so linking sees the same references there
abbrev pub ReferencesOfReachedStay : Type 0
ReferencesOfReachedStay =
    (names : List (List ℕ)) (before after : Object)
    → AreLeftOut names before after
    → (key : FunctionKey)
    → IsReached (own_linkable before) (remaining names before.programs) key
    → (i : ℕ)
    → (functions_of (own_linkable after)).reference key i
    ≡ (functions_of (own_linkable before)).reference key i

-- no relocation that is left refers to an extern that is gone
abbrev pub ReferredExternsStay : Type 0
ReferredExternsStay =
    (names : List (List ℕ)) (before after : Object)
    → AreLeftOut names before after
    → (section offset : ℕ) (relocation : ElfRelocation) (name : List ℕ)
    → found_at (get after.relocations section) offset ≡ Some relocation
    → extern_name before.symbol_table relocation ≡ Some name
    → get after.externs name ≡ get before.externs name

-- one object is left, by the names and the object before
abbrev pub OneLeavingOut : Type 0
OneLeavingOut =
    (names : List (List ℕ)) (before after other : Object)
    → AreLeftOut names before after → AreLeftOut names before other
    → after ≡ other
