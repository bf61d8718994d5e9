-- The bytes that `ebpf btf` writes: types over which objects have the outcomes that they have over
-- the kernel's (`bpftool gen min_core_btf` writes such a file).
use Rattle.std.specs.Prelude.{◌≡◌, ◌-◌, ℕ, List, All, Ok, length}
use Rattle.ebpf_btf.specs.Header.{order_of}
use Rattle.ebpf_btf.specs.Reading.{type_info_of}
use Rattle.ebpf_btf.specs.TypeInfo.{TypeInfo}
use Rattle.ebpf_least_types.specs.LeastTypes.{HasSameSlots, HaveSameOutcomes}
use Rattle.ebpf_object.specs.declared.object.Object.{Object}

-- A reader of the bytes finds types, so many without `void`. Over these each CO-RE record of each
-- object has the same outcome as over the kernel's, but for one that asks for the kernel's id of a
-- type.
pub record HoldsLeastTypes (objects : List Object) (kernel : TypeInfo) (bytes : List ℕ) (count : ℕ)
    : Type 0 where
  pub types : TypeInfo
  pub read : type_info_of (order_of bytes) bytes ≡ Ok types
  pub counted : count ≡ length types.types - 1
  pub same : All (λ o. HaveSameOutcomes o kernel types) objects

-- The records of each object write the same slots over the types in the bytes as over the kernel's,
-- or are refused with the same fault.
pub record HoldsSameSlots (objects : List Object) (kernel : TypeInfo) (bytes : List ℕ) : Type 0
  where
    pub types : TypeInfo
    pub read : type_info_of (order_of bytes) bytes ≡ Ok types
    pub slots : All (HasSameSlots kernel types) objects
