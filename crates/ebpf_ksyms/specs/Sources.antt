-- Resolution with the lines of a reader or of a text in memory. A line ends before a byte 0x0a.
-- Where the bytes are known, so are the lines, and the externs after resolution or the refusal.
use Rattle.std.specs.Prelude.{◌≡◌, ℕ, ◌<◌, ◌⊎◌, ⊤, Bool, true, false, List, [], ◌∷◌, ◌++◌, length}
use Rattle.std.specs.Prelude.{map, Option, Some, None, Ok, IfSome, Err, MatchBool, MatchOption}
use Rattle.std.specs.Prelude.{string_bytes, if◌then◌else◌}
use Rattle.std.specs.Io.BufRead.{drop_through, first_line}
use Rattle.std.specs.IoError.{error_kind}
use Rattle.std.specs.List.{AllByRecursion}
use Rattle.std.specs.Str.{IsUtf8, is_utf8}
use Rattle.std.specs.declared.io.Error.{Error}
use Rattle.std.specs.Str.Lines.{lines}
use Rattle.std.specs.declared.io.ErrorKind.TheVariants.{InvalidData}
use Rattle.ebpf_base.specs.Faults.{or_else}
use Rattle.ebpf_btf.specs.TypeInfo.{TypeInfo}
use Rattle.ebpf_ksyms.specs.Addresses.{Line, Item, is_memory_kind}
use Rattle.ebpf_ksyms.specs.Externs.{Externs, lines_refused, names_refused, reads_lines}
use Rattle.ebpf_ksyms.specs.Externs.{resolved_externs, types_refused}
use Rattle.ebpf_ksyms.specs.declared.error.KsymsError.{KsymsError}
use Rattle.ebpf_ksyms.specs.declared.error.KsymsError.TheVariants.{KallsymsAccessError}

-- Resolution with the lines of a reader. `known` are the reader's bytes, where they are known; of
-- other readers all is stated but which lines came.

-- the state after some lines
abbrev pub after_lines : List ℕ → List (List ℕ) → List ℕ
after_lines bytes [] = bytes
after_lines bytes (line ∷ lines) = after_lines (drop_through 10 bytes) lines

-- The first lines of some bytes, one after the other. Each ends before a byte 0x0a, or at the end.
abbrev pub AreFirst : List ℕ → List (List ℕ) → Type 0
AreFirst bytes [] = ⊤
AreFirst bytes (line ∷ lines) =
    ((0 < length bytes) × (line ≡ first_line bytes)) × AreFirst (drop_through 10 bytes) lines

-- all lines of some bytes
abbrev pub AreLines : List ℕ → List (List ℕ) → Type 0
AreLines bytes lines = AreFirst bytes lines × (after_lines bytes lines ≡ [])

-- lines that could be read
abbrev pub read_lines : List (List ℕ) → List Line
read_lines lines = map Ok lines

-- ---- the lines that came from a reader

-- all are UTF-8
abbrev pub AreTexts : List (List ℕ) → Type 0
AreTexts lines = AllByRecursion IsUtf8 lines

-- lines that came first: those of the bytes, where these are known
abbrev pub CameFirst : Option (List ℕ) → List (List ℕ) → Type 0
CameFirst known lines = AreTexts lines × IfSome known (λ bytes. AreFirst bytes lines)

-- all lines that came
abbrev pub CameAll : Option (List ℕ) → List (List ℕ) → Type 0
CameAll known lines = AreTexts lines × IfSome known (λ bytes. AreLines bytes lines)

-- the lines that count: all of them, where lines are read
abbrev pub CountsLines : Bool → Option (List ℕ) → List (List ℕ) → Type 0
CountsLines true known lines = CameAll known lines
CountsLines false known lines = lines ≡ []

-- ---- answers

-- the externs afterwards, where nothing is refused
pub record IsResolvedIn (known : Option (List ℕ)) (local kernel : Option TypeInfo)
    (externs after : Externs)
    : Type 0 where
  pub lines : List (List ℕ)
  pub counted : CountsLines (reads_lines local externs) known lines
  pub types : types_refused local kernel externs ≡ None
  pub read : lines_refused local externs (read_lines lines) ≡ None
  pub names : names_refused local externs (read_lines lines) ≡ None
  pub stands : after ≡ resolved_externs local kernel (read_lines lines) externs

-- the last line that was read is refused, and none before it
pub record StopsAtLineIn (known : Option (List ℕ)) (local kernel : Option TypeInfo)
    (externs : Externs) (e : KsymsError)
    : Type 0 where
  pub lines : List (List ℕ)
  pub line : List ℕ
  pub wanted : reads_lines local externs ≡ true
  pub came : CameFirst known (lines ++ line ∷ [])
  pub types : types_refused local kernel externs ≡ None
  pub before : lines_refused local externs (read_lines lines) ≡ None
  pub refused : lines_refused local externs (read_lines (lines ++ line ∷ [])) ≡ Some e

-- all lines are accepted, and an extern is left without an address
pub record StopsAtNameIn (known : Option (List ℕ)) (local kernel : Option TypeInfo)
    (externs : Externs) (e : KsymsError)
    : Type 0 where
  pub lines : List (List ℕ)
  pub counted : CountsLines (reads_lines local externs) known lines
  pub types : types_refused local kernel externs ≡ None
  pub read : lines_refused local externs (read_lines lines) ≡ None
  pub refused : names_refused local externs (read_lines lines) ≡ Some e

-- a line could not be read, for another reason than out of memory, and none before it is refused
pub record StopsAtAccessIn (known : Option (List ℕ)) (local kernel : Option TypeInfo)
    (externs : Externs) (e : KsymsError)
    : Type 0 where
  pub lines : List (List ℕ)
  pub error : Error
  pub wanted : reads_lines local externs ≡ true
  pub came : CameFirst known lines
  pub types : types_refused local kernel externs ≡ None
  pub before : lines_refused local externs (read_lines lines) ≡ None
  pub other : is_memory_kind (error_kind error) ≡ false
  pub is : e ≡ KallsymsAccessError error

-- The least refusal: externs with types come first, then the lines, each refused or not read, then
-- the names left.
abbrev pub IsRefusedIn : Option (List ℕ) → Option TypeInfo → Option TypeInfo → Externs → KsymsError
    → Type 0
IsRefusedIn known local kernel externs e =
    (types_refused local kernel externs ≡ Some e)
    ⊎
    (StopsAtLineIn known local kernel externs e ⊎
    (StopsAtNameIn known local kernel externs e ⊎ StopsAtAccessIn known local kernel
    externs e))

-- The lines of a text in memory, one after the other, as strings. A line ends before a byte 0x0a,
-- which it is without, as it is without a byte 0x0d right before that; what stands behind the last
-- 0x0a is a line where it is not empty.

-- what is left of a text, and the error that stands in the place of a line that is not UTF-8
pub record Unread : Type 0 where
  pub text : List ℕ
  pub error : Error

abbrev pub lines_left : Unread → List (List ℕ)
lines_left s = lines s.text

-- the string of a line; the error exactly where it is not UTF-8, out of memory for the string
-- aside
abbrev pub IsItem : Error → List ℕ → Item → Type 0
IsItem error line (Ok text) = string_bytes text ≡ line
IsItem error line (Err e) =
    MatchBool (is_memory_kind (error_kind e)) ⊤ ((e ≡ error) × (IsUtf8 line → ⊥))

-- a call gave the first line that is left and left the others, or none is left
abbrev pub GivesLine : Unread → Option Item → Unread → Type 0
GivesLine s r t =
    MatchOption r (lines_left s ≡ []) (λ item.
    (line : List ℕ) × (lines_left s ≡ line ∷ lines_left t) × IsItem s.error line item × (t.error ≡
    s.error))

-- ---- resolution with the lines of a text in memory. An error stands in the place of a line that
-- is not UTF-8

-- a line of a text
abbrev pub text_line : Error → List ℕ → Line
text_line error line = if is_utf8 line then Ok line else Err (KallsymsAccessError error)

-- the lines that count: all of them, where lines are read
abbrev pub counted : Error → List ℕ → Bool → List Line
counted error text true = map (text_line error) (lines text)
counted error text false = []

module _ (text : List ℕ) (local kernel : Option TypeInfo) (externs : Externs) where
  abbrev pub text_lines : Error → List Line
  text_lines error = counted error text (reads_lines local externs)

  -- the least fault: externs with types come first, then the lines, then the names left
  abbrev pub kallsyms_text_fault : Error → Option KsymsError
  kallsyms_text_fault error =
      or_else (types_refused local kernel externs)
      (or_else (lines_refused local externs (text_lines error))
      (names_refused local externs (text_lines error)))

  -- there is no fault, and these are the externs afterwards
  pub record IsResolvedBy (after : Externs) : Type 0 where
    pub sound : (error : Error) → kallsyms_text_fault error ≡ None
    pub stands : (error : Error) → after ≡ resolved_externs local kernel (text_lines error) externs

  -- this is the least fault, where the error is of kind `InvalidData`
  pub record IsRefusedBy (e : KsymsError) : Type 0 where
    pub error : Error
    pub kind : error_kind error ≡ InvalidData
    pub fault : kallsyms_text_fault error ≡ Some e

-- ---- resolution with lines from a reader or from a text

-- where lines come from: a text in memory, or a reader with the bytes that it has left, where they
-- are known
pub data Source : Type 0 where
  Text : List ℕ → Source
  Reader : Option (List ℕ) → Source

abbrev pub IsResolvedFrom : Source → Option TypeInfo → Option TypeInfo → Externs → Externs → Type 0
IsResolvedFrom (Text text) local kernel externs after = IsResolvedBy text local kernel externs after
IsResolvedFrom (Reader known) local kernel externs after =
    IsResolvedIn known local kernel externs after

abbrev pub IsRefusedFrom : Source → Option TypeInfo → Option TypeInfo → Externs → KsymsError
    → Type 0
IsRefusedFrom (Text text) local kernel externs e = IsRefusedBy text local kernel externs e
IsRefusedFrom (Reader known) local kernel externs e = IsRefusedIn known local kernel externs e
