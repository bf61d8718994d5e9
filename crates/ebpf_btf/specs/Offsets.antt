-- Types by their offsets in the bytes, and the enumerations that UNIONs replace.
use Rattle.std.specs.Prelude.{◌≡◌, ◌≤◌, ◌*◌, ◌^◌, ◌<◌, ◌==◌, ℕ, List, [], ◌∷◌, Option, None, Some}
use Rattle.std.specs.Prelude.{map, length, drop, option_map, unwrap_or}
use Rattle.std.specs.List.{All, find}
use Rattle.ebpf_base.specs.declared.endianness.Endianness.{Endianness}
use Rattle.ebpf_btf.specs.declared.fallback.Enum64Fallback.{Enum64Fallback}
use Rattle.ebpf_btf.specs.declared.fallback.OffsetFallback.{OffsetFallback}
use Rattle.ebpf_btf.specs.declared.kind.BtfKind.{BtfKind}
use Rattle.ebpf_btf.specs.declared.kind.BtfKind.TheVariants as kinds
use Rattle.ebpf_btf.specs.declared.types.BtfType.{BtfType}
use Rattle.ebpf_btf.specs.declared.types.BtfType.TheVariants.{Union}
use Rattle.ebpf_btf.specs.Format.{AreTypesAt, end_of, info_at, info_kind, spelled}

-- the kind that the type at an offset states
unfoldable pub kind_here : Endianness → List ℕ → ℕ → BtfKind
kind_here o bytes offset = unwrap_or (info_kind (info_at o bytes offset)) kinds.Unknown

-- the type at an offset
unfoldable pub type_here : Endianness → List ℕ → ℕ → BtfType
type_here o bytes offset = spelled o bytes offset (kind_here o bytes offset)

-- the end of the type at an offset
unfoldable pub end_here : Endianness → List ℕ → ℕ → ℕ
end_here o bytes offset = end_of o bytes offset (kind_here o bytes offset)

-- the types at some offsets
unfoldable pub types_here : Endianness → List ℕ → List ℕ → List BtfType
types_here o bytes offsets = map (type_here o bytes) offsets

-- the types at the offsets end inside the bytes
abbrev pub AreInside : Endianness → List ℕ → List ℕ → Type 0
AreInside o bytes offsets = All (λ offset. end_here o bytes offset ≤ length bytes) offsets

-- types begin at the offsets, one after the other from an offset up to another
abbrev pub AreOffsets : Endianness → List ℕ → ℕ → ℕ → List ℕ → Type 0
AreOffsets o bytes offset end [] = offset ≡ end
AreOffsets o bytes offset end (p ∷ ps) =
    (p ≡ offset)
    × (info_kind (info_at o bytes p) ≡ Some (kind_here o bytes p))
    × AreOffsets o bytes (end_here o bytes p) end ps

-- What is kept of types: they are one after the other in the bytes from an offset on, which are
-- fewer than 2 ^ 32, and these are their offsets.
pub record HoldsTypes (o : Endianness) (bytes : List ℕ) (start : ℕ) (offsets : List ℕ)
    : Type 0 where
  pub within : start ≤ length bytes
  pub small : length (drop start bytes) < 2 ^ 32
  pub few : 12 * length offsets ≤ length (drop start bytes)
  pub inside : AreInside o (drop start bytes) offsets
  pub tiled : AreOffsets o (drop start bytes) 0 (length (drop start bytes)) offsets
  pub whole : AreTypesAt o (drop start bytes) 0 (types_here o (drop start bytes) offsets)

-- ---- the fallbacks: the enumerations of 64 bits that UNIONs replace, which no bytes hold

-- the enumeration that the UNION at an offset replaces
unfoldable pub fallback_at : List OffsetFallback → ℕ → Option Enum64Fallback
fallback_at fallbacks offset =
    option_map (λ f. f.fallback) (find (λ f. f.offset == offset) fallbacks)

-- a UNION with the enumeration that it replaces
unfoldable pub with_fallback : Option Enum64Fallback → BtfType → BtfType
with_fallback None t = t
with_fallback (Some fallback) (Union name size flag members _) =
    Union name size flag members (Some fallback)
with_fallback (Some _) t = t

-- a type as its bytes have it
unfoldable pub without_fallback : BtfType → BtfType
without_fallback (Union name size flag members _) = Union name size flag members None
without_fallback t = t

-- the type at an offset, with its fallback
unfoldable pub held_type : Endianness → List ℕ → List OffsetFallback → ℕ → BtfType
held_type o bytes fallbacks offset =
    with_fallback (fallback_at fallbacks offset) (type_here o bytes offset)

unfoldable pub held_types : Endianness → List ℕ → List OffsetFallback → List ℕ → List BtfType
held_types o bytes fallbacks offsets = map (held_type o bytes fallbacks) offsets

-- the fallbacks are of types that are in the bytes
abbrev pub AreBeside : List ℕ → List OffsetFallback → Type 0
AreBeside bytes fallbacks = All (λ f. f.offset < length bytes) fallbacks

-- the fallback that is added with a type at an offset
abbrev pub beside : ℕ → Option Enum64Fallback → List OffsetFallback
beside offset None = []
beside offset (Some fallback) = (record { offset = offset; fallback = fallback }) ∷ []
