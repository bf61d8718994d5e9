-- Additions to types and strings, and their removal. An addition is at the end; ids and offsets
-- have 32 bits.
use Rattle.std.specs.Prelude.{ℕ, ◌^◌, List, [], ◌∷◌, ◌++◌, take, Option, Some, None, nat_lt}
use Rattle.std.specs.Prelude.{if◌then◌else◌}
use Rattle.ebpf_btf.specs.declared.error.BtfError.{BtfError}
use Rattle.ebpf_btf.specs.declared.error.BtfError.TheVariants.{TooLarge}
use Rattle.ebpf_btf.specs.declared.types.BtfType.{BtfType}
use Rattle.ebpf_btf.specs.TypeInfo.{TypeInfo}

-- a type is added behind the others, and its id is their number
abbrev pub with_type : TypeInfo → BtfType → TypeInfo
with_type info t = record info { types = info.types ++ t ∷ [] }

-- a text is added behind the other strings with a zero byte after it, and its offset is their
-- length
abbrev pub with_string : TypeInfo → List ℕ → TypeInfo
with_string info text = record info { strings = info.strings ++ text ++ 0 ∷ [] }

-- the first types and the first bytes of the strings, so many of each
abbrev pub only_first : TypeInfo → ℕ → ℕ → TypeInfo
only_first info types strings =
    record { types = take types info.types; strings = take strings info.strings }

-- an id or an offset is a number below 2 ^ 32
abbrev pub too_large_fault : ℕ → Option BtfError
too_large_fault n = if nat_lt n (2 ^ 32) then None else Some TooLarge
