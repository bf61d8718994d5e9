-- The variants of enumerations, each a name and a value of 64 bits (the kernel's
-- Documentation/bpf/btf.rst, 2.2.6 BTF_KIND_ENUM and 2.2.19 BTF_KIND_ENUM64).
use Rattle.std.specs.Prelude.{ℕ, ◌+◌, ◌*◌, ◌-◌, ◌^◌, Bool, List, map, Option, Some, None, nat_le}
use Rattle.std.specs.Prelude.{◌&&◌, if◌then◌else◌}
use Rattle.ebpf_btf.specs.declared.members.BtfEnum.{BtfEnum}
use Rattle.ebpf_btf.specs.declared.members.BtfEnum64.{BtfEnum64}
use Rattle.ebpf_btf.specs.declared.members.Enum64VariantFallback.{Enum64VariantFallback}
use Rattle.ebpf_btf.specs.declared.types.BtfType.{BtfType}
use Rattle.ebpf_btf.specs.declared.types.BtfType.TheVariants.{Enum, Enum64, Union}
use Rattle.ebpf_btf.specs.declared.variants.BtfVariant.{BtfVariant}

-- 32 bits as 64, sign-extended in a signed enumeration
abbrev pub sign_extended : Bool → ℕ → ℕ
sign_extended signed value =
    if signed && nat_le (2 ^ 31) value then value + (2 ^ 64 - 2 ^ 32) else value

-- the variant of an ENUM
abbrev pub variant_of_32 : Bool → BtfEnum → BtfVariant
variant_of_32 signed v =
    record { name_offset = v.name_offset; value = sign_extended signed v.value }

-- the variant of an ENUM64, whose value has two halves
abbrev pub variant_of_64 : BtfEnum64 → BtfVariant
variant_of_64 v =
    record { name_offset = v.name_offset; value = v.value_high * 2 ^ 32 + v.value_low }

-- the variant of an enumeration that a UNION replaces
abbrev pub variant_of_fallback : Enum64VariantFallback → BtfVariant
variant_of_fallback v = record { name_offset = v.name_offset; value = v.value }

-- The variants in order. Other types have none.
unfoldable pub variants_of : BtfType → Option (List BtfVariant)
variants_of (Enum _ _ signed variants) = Some (map (variant_of_32 signed) variants)
variants_of (Enum64 _ _ _ variants) = Some (map variant_of_64 variants)
variants_of (Union _ _ _ _ (Some fallback)) = Some (map variant_of_fallback fallback.variants)
variants_of _ = None
