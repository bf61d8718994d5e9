-- The bytes of the least types of a kernel that an object asks for.
use Rattle.std.specs.Prelude.{◌≡◌, ◌⊎◌, ⊤, ℕ, List, [], ◌∷◌, Some, Ok, MatchBool}
use Rattle.ebpf_btf.specs.Header.{order_of}
use Rattle.ebpf_btf.specs.Memory.{is_btf_memory}
use Rattle.ebpf_btf.specs.Reading.{type_info_of}
use Rattle.ebpf_btf.specs.TypeInfo.{TypeInfo}
use Rattle.ebpf_btf.specs.Words.{written_fault}
use Rattle.ebpf_least_types.specs.IdUses.{first_id_use}
use Rattle.ebpf_least_types.specs.LeastTypes.{HaveSameOutcomes}
use Rattle.ebpf_least_types.specs.Memory.{is_least_memory}
use Rattle.ebpf_object.specs.declared.object.Object.{Object}
use Rattle.capi_rows.specs.FaultNumbers.{type_refusal}
use Rattle.capi_rows.specs.Handles.{IsRefusal}
use Rattle.capi_rows.specs.LeastTypes.{least_types_refusal}
use Rattle.capi_rows.specs.declared.refusal.Refusal.{Refusal}

-- they spell types over which the relocations of the object have the outcomes that they have over
-- the kernel's
pub record AreLeastTypes (kernel : TypeInfo) (o : Object) (bytes : List ℕ) : Type 0 where
  pub types : TypeInfo
  pub spelled : type_info_of (order_of bytes) bytes ≡ Ok types
  pub same : HaveSameOutcomes o kernel types

-- something needs an id of the kernel's own types
abbrev pub NeedsKernelId : Object → Refusal → Type 0
NeedsKernelId o =
    IsRefusal (λ e. MatchBool (is_least_memory e) ⊤ (first_id_use (o ∷ []) ≡ Some e))
    least_types_refusal

-- such types can't be written
pub record CannotWriteLeast (kernel : TypeInfo) (o : Object) (r : Refusal) : Type 0 where
  pub types : TypeInfo
  pub same : HaveSameOutcomes o kernel types
  pub refusal : IsRefusal (λ e. MatchBool (is_btf_memory e) ⊤ (written_fault types ≡ Some e))
      (type_refusal 1020) r

abbrev pub CannotMakeLeast : TypeInfo → Object → Refusal → Type 0
CannotMakeLeast kernel o r = NeedsKernelId o r ⊎ CannotWriteLeast kernel o r
