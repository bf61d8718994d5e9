-- The words of the command line `NAME FILE [--btf FILE] [--kallsyms FILE] [--program NAME]`.
use Rattle.std.specs.Prelude.{ℕ, Bool, true, false, List, [], ◌∷◌, Option, Some, None, nat_eq}
use Rattle.std.specs.Prelude.{if◌then◌else◌, codes}
use Rattle.std.specs.List.{starts_with}
use Rattle.std.specs.Str.{bytes_eq}
use Rattle.cli_plain.specs.declared.arguments.ArgumentKind.{ArgumentKind}
use Rattle.cli_plain.specs.declared.arguments.ArgumentKind.TheVariants.{File, Btf, Kallsyms}
use Rattle.cli_plain.specs.declared.arguments.ArgumentKind.TheVariants.{Program}
use Rattle.cli_plain.specs.declared.arguments.Words.{Words}
use Rattle.cli_plain.specs.declared.arguments.WordsError.{WordsError}
use Rattle.cli_plain.specs.declared.arguments.WordsError.TheVariants.{Usage, OutOfMemory}

abbrev pub is_words_memory : WordsError → Bool
is_words_memory OutOfMemory = true
is_words_memory Usage = false

-- the option that a word is
abbrev pub option_of : List ℕ → Option ArgumentKind
option_of word =
    if bytes_eq word (codes "--btf") then Some Btf else
    (if bytes_eq word (codes "--kallsyms") then Some Kallsyms else
    (if bytes_eq word (codes "--program") then Some Program else None))

abbrev pub has_dashes : List ℕ → Bool
has_dashes word = starts_with nat_eq word (codes "--")

-- an argument: what it is for, and its text
abbrev pub Argument : Type 0
Argument = ArgumentKind × List ℕ

abbrev pub with_first_argument : Argument → Option (List Argument) → Option (List Argument)
with_first_argument argument None = None
with_first_argument argument (Some others) = Some (argument ∷ others)

-- What words are after an option that waits for its text, or after none. An option takes the word
-- behind it whatever it is, and has one; no other word begins with two dashes; each other word is a
-- file.
abbrev pub arguments : Option ArgumentKind → List (List ℕ) → Option (List Argument)
arguments None [] = Some []
arguments (Some kind) [] = None
arguments (Some kind) (word ∷ words) = with_first_argument (kind, word) (arguments None words)
arguments None (word ∷ words) =
    elim (option_of word) [
      | Some kind ↦ arguments (Some kind) words
      | None ↦ if has_dashes word
          then None
          else with_first_argument (File, word) (arguments None words)
    ]

-- the texts of each
pub record FoundValue : Type 0 where
  pub file : Option (List ℕ)
  pub btf : Option (List ℕ)
  pub kallsyms : Option (List ℕ)
  pub program : Option (List ℕ)

abbrev pub nothing : FoundValue
nothing = record { file = None; btf = None; kallsyms = None; program = None }

-- a text of a kind that has none yet
abbrev pub set_once : Option (List ℕ) → FoundValue → Option FoundValue
set_once None with_text = Some with_text
set_once (Some text) with_text = None

unfoldable pub put : FoundValue → Argument → Option FoundValue
put texts (File, text) = set_once texts.file (record texts { file = Some text })
put texts (Btf, text) = set_once texts.btf (record texts { btf = Some text })
put texts (Kallsyms, text) = set_once texts.kallsyms (record texts { kallsyms = Some text })
put texts (Program, text) = set_once texts.program (record texts { program = Some text })

-- arguments by their kinds, each at most once
abbrev pub put_each : FoundValue → List Argument → Option FoundValue
put_each texts [] = Some texts
put_each texts (argument ∷ others) =
    elim (put texts argument) [ Some next ↦ put_each next others | None ↦ None ]

abbrev pub put_arguments : FoundValue → Option (List Argument) → Option FoundValue
put_arguments texts None = None
put_arguments texts (Some list) = put_each texts list

abbrev pub texts_in : List (List ℕ) → Option FoundValue
texts_in words = put_arguments nothing (arguments None words)

-- there is a file
abbrev pub with_file : FoundValue → Option (List ℕ) → Option Words
with_file texts None = None
with_file texts (Some file) =
    Some
    (record
    { file = file; btf = texts.btf; kallsyms = texts.kallsyms; program = texts.program })

abbrev pub words_in : Option FoundValue → Option Words
words_in None = None
words_in (Some texts) = with_file texts texts.file

-- what words ask for, where they are as the line says
abbrev pub parsed_words : List (List ℕ) → Option Words
parsed_words words = words_in (texts_in words)

abbrev pub usage_without : Option Words → Option WordsError
usage_without None = Some Usage
usage_without (Some words) = None

abbrev pub words_fault : List (List ℕ) → Option WordsError
words_fault words = usage_without (parsed_words words)
