-- Texts from files in the syntax of each format, character by character.
--
-- By these definitions no character ends the string that it is in, and none that a terminal obeys
-- is left. Both are seen by reading each case, and tested with hostile names (tests/look.py).
--
-- Worked examples, of the character U+202E, which turns the direction of a line, of `[` and of `]`
-- (those that are escaped are computed in proofs/Examples.antt, but for `]` and `#91;`):
--
--     HTML       \xe2\x80\xae             [        ]
--     JSON       \\xe2\\x80\\xae          [        ]
--     SARIF      \\\\xe2\\\\x80\\\\xae    \\[      \\]
--     Mermaid    #92;xe2#92;x80#92;xae    #91;     #93;
--     a path     %E2%80%AE                %5B      %5D
use Rattle.std.specs.Prelude.{ℕ, ◌+◌, ◌/◌, ◌%◌, nat_lt, Bool, ◌||◌, ◌==◌, if◌then◌else◌}
use Rattle.std.specs.Prelude.{List, [], ◌∷◌, ◌++◌, codes}
use Rattle.std.specs.Char.{encode_utf8}
use Rattle.std.specs.Fmt.{decimal}
use Rattle.std.specs.List.{flat_map}
use Rattle.std.specs.Str.{chars}
use Rattle.cli_common.specs.Shown.{is_within, speaks, bytes_behind, visible_char, one_backslash}
use Rattle.cli_formats.specs.declared.escape.Syntax.{Syntax}
use Rattle.cli_formats.specs.declared.escape.Syntax.TheVariants.{Html, Json, Sarif, Source, Dot}
use Rattle.cli_formats.specs.declared.escape.Syntax.TheVariants.{Mermaid, Message, Property, Path}

-- `\\x`, which a string with escapes reads as `\x`
abbrev pub two_backslashes : List ℕ
two_backslashes = 92 ∷ 92 ∷ 120 ∷ []

-- between tags and in the value of an attribute (HTML, 'Character references')
abbrev pub html_char : ℕ → List ℕ
html_char c =
    if c == 38 then codes "&amp;"
    else if c == 60 then codes "&lt;"
    else if c == 62 then codes "&gt;"
    else if c == 34 then codes "&quot;"
    else if c == 39 then codes "&#39;"
    else visible_char one_backslash c

-- In a string of JSON (RFC 8259). No `<` is left, so a string within `<script>` can't end it.
abbrev pub json_char : ℕ → List ℕ
json_char c =
    if c == 34 then codes "\\\""
    else if c == 60 then codes "\\u003c"
    else if c == 62 then codes "\\u003e"
    else if c == 38 then codes "\\u0026"
    else visible_char two_backslashes c

-- `\\\\x`, which a string of JSON reads as `\\x`, and a message of SARIF reads that as `\x`
abbrev pub four_backslashes : List ℕ
four_backslashes = 92 ∷ 92 ∷ 92 ∷ 92 ∷ 120 ∷ []

-- In a message of SARIF (2.1.0, 3.11.5 and 3.11.6), in a string of JSON: `{0}` is a placeholder and
-- `[text](target)` a link, so braces are doubled, and brackets and backslashes are behind a
-- backslash.
abbrev pub sarif_char : ℕ → List ℕ
sarif_char c =
    if c == 123 then codes "{{"
    else if c == 125 then codes "}}"
    else if c == 91 then codes "\\\\["
    else if c == 93 then codes "\\\\]"
    else if (c == 92) || speaks c then bytes_behind four_backslashes c
    else json_char c

-- In a string of JSON that is a line of a program's source: a backslash and a tab are themselves.
abbrev pub source_char : ℕ → List ℕ
source_char c =
    if c == 92 then codes "\\\\"
    else if c == 9 then codes "\\t"
    else json_char c

-- in a label in quotes of Graphviz, which reads escapes and HTML's character references
abbrev pub dot_char : ℕ → List ℕ
dot_char c =
    if c == 38 then codes "&amp;"
    else if c == 60 then codes "&lt;"
    else if c == 62 then codes "&gt;"
    else if c == 34 then codes "&quot;"
    else visible_char two_backslashes c

-- Whether Mermaid, the Markdown or the mathematics in its labels may read a character as more than
-- itself: each of ASCII that is seen, but letters, digits and the backslash, which is a byte below.
abbrev pub is_read_by_mermaid : ℕ → Bool
is_read_by_mermaid c =
    is_within 33 47 c
    || is_within 58 64 c
    || (c == 91)
    || is_within 93 96 c
    || is_within 123 126 c

-- In a label in quotes of Mermaid: `#N;` is the character of the number N. A colon is a byte, since
-- Mermaid makes icons of `fa:fa-bug` behind the reading of `#58;`.
abbrev pub mermaid_char : ℕ → List ℕ
mermaid_char c =
    if c == 58 then bytes_behind (codes "#92;x") c
    else if is_read_by_mermaid c then 35 ∷ decimal c ++ 59 ∷ []
    else visible_char (codes "#92;x") c

-- in the message of an annotation of GitHub, which decodes `%25`
abbrev pub message_char : ℕ → List ℕ
message_char c = if c == 37 then codes "%25" else visible_char one_backslash c

-- in the value of an annotation's property, which `:` and `,` end
abbrev pub property_char : ℕ → List ℕ
property_char c =
    if c == 58 then codes "%3A"
    else if c == 44 then codes "%2C"
    else message_char c

-- the character that writes a digit below 16, with upper-case letters
abbrev pub upper_digit : ℕ → ℕ
upper_digit d = if nat_lt d 10 then 48 + d else 55 + d

-- `%`, and the two digits of a byte (RFC 3986, 'Percent-Encoding': upper case)
abbrev pub percent_byte : ℕ → List ℕ
percent_byte b = 37 ∷ upper_digit (b / 16) ∷ upper_digit (b % 16) ∷ []

-- the bytes of a character's UTF-8, `%NN` each
abbrev pub percent_bytes : ℕ → List ℕ
percent_bytes c = flat_map percent_byte (encode_utf8 c)

-- Whether a path has a character as it is: letters, digits and `-./_~` (RFC 3986, 'Unreserved
-- Characters', and the slash).
abbrev pub is_plain_in_paths : ℕ → Bool
is_plain_in_paths c =
    is_within 45 57 c
    || is_within 65 90 c
    || (c == 95)
    || is_within 97 122 c
    || (c == 126)

-- in a path of a URI, where other characters are the bytes of their UTF-8, `%NN` each
abbrev pub path_char : ℕ → List ℕ
path_char c = if is_plain_in_paths c then encode_utf8 c else percent_bytes c

-- a character in a syntax
abbrev pub char_in : Syntax → ℕ → List ℕ
char_in Html c = html_char c
char_in Json c = json_char c
char_in Sarif c = sarif_char c
char_in Source c = source_char c
char_in Dot c = dot_char c
char_in Mermaid c = mermaid_char c
char_in Message c = message_char c
char_in Property c = property_char c
char_in Path c = path_char c

-- a text in a syntax
abbrev pub text_in : Syntax → List ℕ → List ℕ
text_in syntax text = flat_map (char_in syntax) (chars text)
