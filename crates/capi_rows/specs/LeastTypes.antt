-- Numbers and details of the refusals of least types: 1000 to 1019.
use Rattle.std.specs.Prelude.{ℕ}
use Rattle.capi_rows.specs.Refusals.{no_details, of_relocation, plain, refusal_with_details}
use Rattle.capi_rows.specs.Refusals.{refusal_with_name}
use Rattle.capi_rows.specs.declared.codes.TheConstants.{MEMORY}
use Rattle.capi_rows.specs.declared.refusal.Refusal.{Refusal}
use Rattle.ebpf_least_types.specs.declared.error.LeastTypesError.{LeastTypesError}
use Rattle.ebpf_least_types.specs.declared.error.LeastTypesError.TheVariants as least
use Rattle.ebpf_least_types.specs.declared.id_uses.KernelIdUse.{KernelIdUse}
use Rattle.ebpf_least_types.specs.declared.id_uses.KernelIdUse.TheVariants as needs

-- what needs an id of the kernel's own types, about the extern or the program
abbrev pub id_use_refusal : KernelIdUse → Refusal
id_use_refusal (needs.Record section number) =
    refusal_with_details 1000 (of_relocation number no_details)
id_use_refusal (needs.Extern name) = refusal_with_name 1001 name
id_use_refusal (needs.Target program target) = refusal_with_name 1002 program

abbrev pub least_types_refusal : LeastTypesError → Refusal
least_types_refusal (least.NeedsKernelId object needed) = id_use_refusal needed
least_types_refusal least.OutOfMemory = plain MEMORY
