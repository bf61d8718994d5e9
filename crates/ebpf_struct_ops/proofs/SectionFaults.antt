-- The faults of the variables of a section, once its DATASEC, its bytes and its entries are read.
use Rattle.std.proofs.Common.{◌≡◌, ℕ, List, Option, Some, None, ap, ◌∙◌, sym}
use Rattle.std.specs.Prelude.{option_map}
use Rattle.ebpf_base.specs.Faults.{first_of, or_else}
use Rattle.ebpf_btf.specs.TypeInfo.{TypeInfo}
use Rattle.ebpf_btf.specs.declared.types.BtfType.{BtfType}
use Rattle.ebpf_elf.specs.Relocations.{relocations}
use Rattle.ebpf_elf.specs.Sections.{SectionOf, data_faults, data_of}
use Rattle.ebpf_elf.specs.declared.relocation.ElfRelocation.{ElfRelocation}
use Rattle.ebpf_object.specs.declared.object.Object.{Object}
use Rattle.ebpf_struct_ops.specs.ObjectVariables.{bare_of, datasec, entries_of, facts_of, variables_by_fault, variables_fault, with_types_fault}
use Rattle.ebpf_struct_ops.specs.Relocations.{relocations_fault}
use Rattle.ebpf_struct_ops.specs.Variables.{bare_variables_fault}
use Rattle.ebpf_struct_ops.specs.declared.bare.BareVariable.{BareVariable}
use Rattle.ebpf_struct_ops.specs.declared.error.StructOpsError.TheVariants.{ElfError}

-- the faults of relocations are left where no entry has one
pub relocations_are_left : (file : List ℕ) (object : Object) (types : TypeInfo) (bytes : List ℕ) (index : ℕ) (t : BtfType) (rs : List ElfRelocation) (bare : List BareVariable)
    → bare_variables_fault file types (facts_of bytes index t) (entries_of t) ≡ None
    → bare ≡ bare_of file types bytes index t
    → relocations_fault file object types bare rs ≡ variables_fault file object types bytes index t rs
relocations_are_left file object types bytes index t rs bare clear same =
    ap (λ v. relocations_fault file object types v rs) same
    ∙ ap (λ f. or_else f (relocations_fault file object types (bare_of file types bytes index t) rs)) (sym clear)

-- the faults of variables are left where the section has a DATASEC and bytes
pub variables_are_left : (file : List ℕ) (object : Object) (types : TypeInfo) (s : SectionOf) (bytes : List ℕ) (index : ℕ) (t : BtfType) (rs : List ElfRelocation)
    → datasec types s ≡ Some t → first_of (data_faults s) ≡ None → bytes ≡ data_of s → index ≡ s.index → rs ≡ relocations s
    → variables_fault file object types bytes index t rs ≡ with_types_fault file object types s
variables_are_left file object types s bytes index t rs named inside own at here =
    ap (λ b. variables_fault file object types b index t rs) own
    ∙ ap (λ i. variables_fault file object types (data_of s) i t rs) at
    ∙ ap (λ r. variables_fault file object types (data_of s) s.index t r) here
    ∙ ap (λ f. or_else (option_map ElfError f) (variables_fault file object types (data_of s) s.index t (relocations s))) (sym inside)
    ∙ sym (ap (variables_by_fault file object types s) named)
