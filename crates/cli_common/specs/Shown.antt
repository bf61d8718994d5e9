-- Names from files as text shows them: none of them says anything to a terminal.
use Rattle.std.specs.Prelude.{ℕ, ◌/◌, ◌%◌, Bool, ◌||◌, ◌&&◌, nat_le, nat_lt, ◌==◌, if◌then◌else◌}
use Rattle.std.specs.Prelude.{List, [], ◌∷◌, ◌++◌}
use Rattle.std.specs.Char.{digit_char, encode_utf8}
use Rattle.std.specs.List.{flat_map}
use Rattle.std.specs.Str.{chars}

-- from one character to another
abbrev pub is_within : ℕ → ℕ → ℕ → Bool
is_within first last c = nat_le first c && nat_le c last

-- Whether a character speaks to a terminal: the controls C0, DEL and C1, the marks and overrides of
-- a line's direction, and the two separators of lines (Unicode: Cc, Bidi_Control, Zl and Zp).
abbrev pub speaks : ℕ → Bool
speaks c =
    nat_lt c 32
    || is_within 127 159 c
    || (c == 1564)
    || is_within 8206 8207 c
    || is_within 8232 8238 c
    || is_within 8294 8297 c

-- a sign, and the two digits of a byte, of base 16
abbrev pub byte_behind : List ℕ → ℕ → List ℕ
byte_behind sign b = sign ++ digit_char (b / 16) ∷ digit_char (b % 16) ∷ []

-- the bytes of a character's UTF-8, each behind a sign
abbrev pub bytes_behind : List ℕ → ℕ → List ℕ
bytes_behind sign c = flat_map (byte_behind sign) (encode_utf8 c)

-- a character that speaks, and a backslash, as the bytes of its UTF-8; each other one as it is
abbrev pub visible_char : List ℕ → ℕ → List ℕ
visible_char sign c =
    if (c == 92) || speaks c then bytes_behind sign c else encode_utf8 c

-- `\x`
abbrev pub one_backslash : List ℕ
one_backslash = 92 ∷ 120 ∷ []

-- a character of a name: the bytes are `\xNN` each
abbrev pub shown_char : ℕ → List ℕ
shown_char c = visible_char one_backslash c

-- a name as it is shown
abbrev pub shown : List ℕ → List ℕ
shown name = flat_map shown_char (chars name)
