-- What a CO-RE record of a kind is about.
use Rattle.ebpf_btf_ext.specs.declared.relocation.RelocationKind.{RelocationKind}
use Rattle.ebpf_btf_ext.specs.declared.relocation.RelocationKind.TheVariants as relocation_kinds
use Rattle.cli_common.specs.declared.kinds.Kind.{Kind}
use Rattle.cli_common.specs.declared.kinds.Kind.TheVariants as kinds

unfoldable pub kind_of : RelocationKind → Kind
kind_of relocation_kinds.FieldByteOffset = kinds.ByteOffset
kind_of relocation_kinds.FieldByteSize = kinds.ByteSize
kind_of relocation_kinds.FieldExists = kinds.FieldExists
kind_of relocation_kinds.FieldSigned = kinds.Signed
kind_of relocation_kinds.FieldLShift64 = kinds.LeftShift
kind_of relocation_kinds.FieldRShift64 = kinds.RightShift
kind_of relocation_kinds.TypeIdLocal = kinds.LocalTypeId
kind_of relocation_kinds.TypeIdTarget = kinds.TargetTypeId
kind_of relocation_kinds.TypeExists = kinds.TypeExists
kind_of relocation_kinds.TypeMatches = kinds.TypeMatches
kind_of relocation_kinds.TypeSize = kinds.TypeSize
kind_of relocation_kinds.EnumVariantExists = kinds.EnumeratorExists
kind_of relocation_kinds.EnumVariantValue = kinds.EnumeratorValue
