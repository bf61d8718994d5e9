-- The kinds of CO-RE relocations by their numbers (the kernel's include/uapi/linux/bpf.h, enum
-- bpf_core_relo_kind).
use Rattle.std.specs.Prelude.{◌≡◌, ℕ, Bool, true, Option, Some, None, ◌==◌, ◌&&◌}
use Rattle.std.specs.Prelude.{if◌then◌else◌}
use Rattle.ebpf_btf_ext.specs.declared.relocation.RelocationKind.{RelocationKind}
use Rattle.ebpf_btf_ext.specs.declared.relocation.RelocationKind.TheVariants.{FieldByteOffset}
use Rattle.ebpf_btf_ext.specs.declared.relocation.RelocationKind.TheVariants.{FieldByteSize}
use Rattle.ebpf_btf_ext.specs.declared.relocation.RelocationKind.TheVariants.{FieldExists}
use Rattle.ebpf_btf_ext.specs.declared.relocation.RelocationKind.TheVariants.{FieldSigned}
use Rattle.ebpf_btf_ext.specs.declared.relocation.RelocationKind.TheVariants.{FieldLShift64}
use Rattle.ebpf_btf_ext.specs.declared.relocation.RelocationKind.TheVariants.{FieldRShift64}
use Rattle.ebpf_btf_ext.specs.declared.relocation.RelocationKind.TheVariants.{TypeIdLocal}
use Rattle.ebpf_btf_ext.specs.declared.relocation.RelocationKind.TheVariants.{TypeIdTarget}
use Rattle.ebpf_btf_ext.specs.declared.relocation.RelocationKind.TheVariants.{TypeExists, TypeSize}
use Rattle.ebpf_btf_ext.specs.declared.relocation.RelocationKind.TheVariants.{EnumVariantExists}
use Rattle.ebpf_btf_ext.specs.declared.relocation.RelocationKind.TheVariants.{EnumVariantValue}
use Rattle.ebpf_btf_ext.specs.declared.relocation.RelocationKind.TheVariants.{TypeMatches}

unfoldable pub relocation_kind_number : RelocationKind → ℕ
relocation_kind_number FieldByteOffset = 0
relocation_kind_number FieldByteSize = 1
relocation_kind_number FieldExists = 2
relocation_kind_number FieldSigned = 3
relocation_kind_number FieldLShift64 = 4
relocation_kind_number FieldRShift64 = 5
relocation_kind_number TypeIdLocal = 6
relocation_kind_number TypeIdTarget = 7
relocation_kind_number TypeExists = 8
relocation_kind_number TypeSize = 9
relocation_kind_number EnumVariantExists = 10
relocation_kind_number EnumVariantValue = 11
relocation_kind_number TypeMatches = 12

-- the kind of a number up to 11; there is none past 11
unfoldable pub relocation_kind : ℕ → Option RelocationKind
relocation_kind n =
    if n == 0 then Some FieldByteOffset else
    (if n == 1 then Some FieldByteSize else
    (if n == 2 then Some FieldExists else
    (if n == 3 then Some FieldSigned else
    (if n == 4 then Some FieldLShift64 else
    (if n == 5 then Some FieldRShift64 else
    (if n == 6 then Some TypeIdLocal else
    (if n == 7 then Some TypeIdTarget else
    (if n == 8 then Some TypeExists else
    (if n == 9 then Some TypeSize else
    (if n == 10 then Some EnumVariantExists else
    (if n == 11 then Some EnumVariantValue else None)))))))))))

-- the kind of a number, where kind 12 (BPF_CORE_TYPE_MATCHES) may be known as well
unfoldable pub known_kind : Bool → ℕ → Option RelocationKind
known_kind type_matches n =
    if type_matches && n == 12 then Some TypeMatches else relocation_kind n

-- ---- the tables compared with each other

-- the relocation kind of a number has this number
abbrev pub RelocationKindsByNumber : Type 0
RelocationKindsByNumber =
    (type_matches : Bool) (n : ℕ) (kind : RelocationKind) → known_kind type_matches n ≡ Some kind
    → relocation_kind_number kind ≡ n

-- each kind is the kind of its number, where kind 12 is known
abbrev pub NumbersOfRelocationKinds : Type 0
NumbersOfRelocationKinds =
    (kind : RelocationKind) → known_kind true (relocation_kind_number kind) ≡ Some kind
