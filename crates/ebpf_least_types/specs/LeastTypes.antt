-- The outcomes of an object's CO-RE records over two kernels' types (the kernel's
-- Documentation/bpf/llvm_reloc.rst, "CO-RE Relocations"; `bpftool gen min_core_btf` makes such
-- types of a kernel's).
use Rattle.std.specs.Prelude.{ℕ, Bool, true, false, List, [], Option, Some, None, All, ◌≡◌}
use Rattle.ebpf_btf.specs.TypeInfo.{TypeInfo}
use Rattle.ebpf_btf_ext.specs.ExtReading.{ExtInfo}
use Rattle.ebpf_btf_ext.specs.declared.relocation.Relocation.{Relocation}
use Rattle.ebpf_btf_ext.specs.declared.relocation.RelocationKind.{RelocationKind}
use Rattle.ebpf_btf_ext.specs.declared.relocation.RelocationKind.TheVariants.{TypeIdTarget}
use Rattle.ebpf_core.specs.Searches.{outcome_of}
use Rattle.ebpf_object.specs.WrittenSlots.{relocated_slots}
use Rattle.ebpf_object.specs.declared.object.Object.{Object}

-- ---- the records of an object, section by section: the offset of the section's name, and its
-- records in order

-- none without type information or without `.BTF.ext`
abbrev pub records_with : Option TypeInfo → Option ExtInfo → List (ℕ × List Relocation)
records_with None ext = []
records_with (Some local) None = []
records_with (Some local) (Some ext) = ext.relocations

abbrev pub records_of : Object → List (ℕ × List Relocation)
records_of o = records_with o.btf o.btf_ext

-- whether a record asks for the kernel's id of a type (BPF_CORE_TYPE_ID_TARGET)
abbrev pub is_target_id : RelocationKind → Bool
is_target_id TypeIdTarget = true
is_target_id _ = false

abbrev pub asks_for_kernel_id : Relocation → Bool
asks_for_kernel_id r = is_target_id r.kind

-- ---- outcomes over two kernels' types

-- a record that asks for no id of the kernel has the same outcome over both
pub record HasSameOutcome (local kernel types : TypeInfo) (r : Relocation) : Type 0 where
  pub same : asks_for_kernel_id r ≡ false → outcome_of local types r ≡ outcome_of local kernel r

-- all records of some sections do
abbrev pub HaveOutcomesBySection : TypeInfo → TypeInfo → TypeInfo → List (ℕ × List Relocation)
    → Type 0
HaveOutcomesBySection local kernel types sections =
    All (λ section. All (HasSameOutcome local kernel types) section.1) sections

-- all records of an object do
pub record HaveSameOutcomes (object : Object) (kernel types : TypeInfo) : Type 0 where
  pub same : (local : TypeInfo) → object.btf ≡ Some local
      → HaveOutcomesBySection local kernel types (records_of object)

-- ---- the slots that the records write

-- no record of some sections asks for an id of the kernel
abbrev pub AskForNoId : List (ℕ × List Relocation) → Type 0
AskForNoId sections =
    All (λ section. All (λ r. asks_for_kernel_id r ≡ false) section.1) sections

-- the records of an object write the same slots over both, or are refused with the same fault
abbrev pub HasSameSlots : TypeInfo → TypeInfo → Object → Type 0
HasSameSlots kernel types o = relocated_slots o types ≡ relocated_slots o kernel

-- They do where no record asks for an id.
abbrev pub SlotsAreAlike : Type 0
SlotsAreAlike =
    (o : Object) (kernel types : TypeInfo)
    → HaveSameOutcomes o kernel types → AskForNoId (records_of o)
    → HasSameSlots kernel types o
