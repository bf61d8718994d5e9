-- Parts of pages, of logs and of annotations, with texts from files in the syntax around them.
use Rattle.std.specs.Prelude.{ℕ, nat_lt, if◌then◌else◌}
use Rattle.std.specs.Prelude.{List, [], ◌∷◌, ◌++◌, codes}
use Rattle.cli_formats.specs.Escapes.{text_in}
use Rattle.cli_formats.specs.declared.escape.Syntax.{Syntax}
use Rattle.cli_formats.specs.declared.escape.Syntax.TheVariants.{Html, Json, Source, Sarif}
use Rattle.cli_pages.specs.declared.matrix.CellVerdict.{CellVerdict}
use Rattle.cli_pages.specs.declared.matrix.CellVerdict.TheVariants.{Runs, Breaks, NoTarget}

-- a string of JSON
abbrev pub json_string : List ℕ → List ℕ
json_string text = 34 ∷ text_in Json text ++ 34 ∷ []

-- a line of source as a string of JSON
abbrev pub source_string : List ℕ → List ℕ
source_string text = 34 ∷ text_in Source text ++ 34 ∷ []

-- the comma before the item of a number
abbrev pub comma_before : ℕ → List ℕ
comma_before number = if nat_lt 0 number then 44 ∷ [] else []

-- the letter for a verdict, in the data of a page
abbrev pub verdict_letter : CellVerdict → List ℕ
verdict_letter Runs = codes "o"
verdict_letter Breaks = codes "b"
verdict_letter NoTarget = codes "n"

-- on a kernel whose types can't be read
abbrev pub unread_message : Syntax → List ℕ → List ℕ → List ℕ
unread_message syntax name fault =
    codes "kernel " ++ text_in syntax name ++ codes " can't be read: " ++ text_in syntax fault

-- a notification of SARIF (2.1.0, 3.58) with that
abbrev pub notification : List ℕ → List ℕ → List ℕ
notification name fault =
    codes "{\"level\":\"error\",\"message\":{\"text\":\""
    ++ unread_message Sarif name fault
    ++ codes "\"}}"
