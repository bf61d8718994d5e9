-- The strings by offset: a text is the bytes from an offset up to the next zero byte (the kernel's
-- Documentation/bpf/btf.rst, 2.1 "String Encoding").
use Rattle.std.specs.Prelude.{◌≡◌, ℕ, Bool, false, List, take, drop, Option, Some, None, Result, Ok}
use Rattle.std.specs.Prelude.{Err, option_map, is_some, nat_lt, ◌==◌, ◌&&◌}
use Rattle.std.specs.List.{position, position_from}
use Rattle.std.specs.Str.{bytes_eq}
use Rattle.std.specs.Str.Lossy.{utf8_lossy}
use Rattle.ebpf_btf.specs.declared.error.BtfError.{BtfError}
use Rattle.ebpf_btf.specs.declared.error.BtfError.TheVariants.{InvalidStringOffset}
use Rattle.ebpf_btf.specs.declared.types.BtfType.{BtfType}
use Rattle.ebpf_btf.specs.TypeInfo.{TypeInfo}
use Rattle.ebpf_btf.specs.Types.{name_off, is_kind}
use Rattle.ebpf_btf.specs.declared.kind.BtfKind.{BtfKind}
use Rattle.ebpf_btf.specs.EssentialNames.{essential_name}
use Rattle.ebpf_base.specs.Faults.{if_ok}

-- the bytes up to the first zero byte
abbrev pub before_zero : List ℕ → Option (List ℕ)
before_zero bytes = option_map (λ n. take n bytes) (position (λ b. b == 0) bytes)

-- the text of some bytes, where there are bytes at the offset
abbrev pub text_or_fault : ℕ → Option (List ℕ) → Result (List ℕ) BtfError
text_or_fault offset None = Err (InvalidStringOffset offset)
text_or_fault offset (Some bytes) = Ok (utf8_lossy bytes)

-- The text at an offset: the bytes from there up to the next zero byte, where what is not UTF-8 is
-- U+FFFD.
-- There is none where the offset is outside the strings or no zero byte follows.
unfoldable pub text_at : List ℕ → ℕ → Result (List ℕ) BtfError
text_at strings offset = text_or_fault offset (before_zero (drop offset strings))

-- a text can be read at each offset below a number, and at no other
abbrev pub AreReadableBelow : List ℕ → ℕ → Type 0
AreReadableBelow strings n =
    (offset : ℕ) → is_some (before_zero (drop offset strings)) ≡ nat_lt offset n

-- whether the text at an offset is a given one
abbrev pub is_name_at : List ℕ → ℕ → List ℕ → Result Bool BtfError
is_name_at strings offset text = if_ok (text_at strings offset) (λ read. Ok (bytes_eq read text))

-- whether the two are equal before the first three underscores
abbrev pub is_essential_name_at : List ℕ → ℕ → List ℕ → Result Bool BtfError
is_essential_name_at strings offset text =
    if_ok (text_at strings offset) (λ read.
    Ok (bytes_eq (essential_name read) (essential_name text)))

-- the name of a type
abbrev pub type_name : TypeInfo → BtfType → Result (List ℕ) BtfError
type_name info t = text_at info.strings (name_off t)

-- whether a text was read and is this one
abbrev pub is_text : List ℕ → Result (List ℕ) BtfError → Bool
is_text name (Ok text) = bytes_eq text name
is_text name (Err e) = false

-- whether a type is of this kind and has this name; a name that can't be read is no name
abbrev pub is_named : TypeInfo → List ℕ → BtfKind → BtfType → Bool
is_named info name kind t = is_kind kind t && is_text name (type_name info t)

-- the lowest id of a kind and name
abbrev pub id_of_name : TypeInfo → List ℕ → BtfKind → Option ℕ
id_of_name info name kind = position_from (is_named info name kind) 0 info.types
