-- The addresses that a kernel's symbols state of names, and the lines that are refused. Each line
-- has an address in hexadecimal digits, a letter for the kind, a name, and more (proc(5),
-- "/proc/kallsyms"; the kernel's kernel/kallsyms.c, s_show). The address of a name is the first
-- that a line states and that is not 0. A line that states another one is refused.
use Rattle.std.specs.Char.{digit_value, is_ascii_whitespace}
use Rattle.std.specs.IoError.{error_kind}
use Rattle.std.specs.Iterator.{Drains}
use Rattle.std.specs.List.{slice_split, list_all, list_any, filter_map}
use Rattle.std.specs.Prelude.{Bool, true, false, if◌then◌else◌, ℕ, ◌^◌, ◌&&◌, List, [], ◌∷◌, length}
use Rattle.std.specs.Prelude.{filter, nat_lt, Option, Some, None, ◌≡◌, ◌++◌, Result, Ok, Err, ◌==◌}
use Rattle.std.specs.Prelude.{slice_get, string_bytes}
use Rattle.std.specs.Str.{bytes_eq}
use Rattle.std.specs.Str.Parse.{digits_value, without_leading_plus}
use Rattle.std.specs.declared.alloc.Global.{Global}
use Rattle.std.specs.declared.io.Error.{Error}
use Rattle.std.specs.declared.io.ErrorKind.{ErrorKind}
use Rattle.std.specs.declared.io.ErrorKind.TheVariants as kinds
use Rattle.std.specs.declared.string.String.{String}
use Rattle.ebpf_base.specs.Faults.{first_some}
use Rattle.ebpf_btf.specs.declared.error.BtfError.{BtfError}
use Rattle.ebpf_btf.specs.declared.error.BtfError.TheVariants as types
use Rattle.ebpf_ksyms.specs.declared.error.KsymsError.{KsymsError}
use Rattle.ebpf_ksyms.specs.declared.error.KsymsError.TheVariants.{BtfError as BtfFault}
use Rattle.ebpf_ksyms.specs.declared.error.KsymsError.TheVariants.{KallsymsAccessError, OutOfMemory}
use Rattle.ebpf_ksyms.specs.declared.error.KsymsError.TheVariants.{AmbiguousResolution}
use Rattle.ebpf_ksyms.specs.declared.error.KsymsError.TheVariants.{KallsymsParseError}

-- ---- refusals of the layers below, as refusals of resolution

-- out of memory: the one error that no definition states
abbrev pub is_ksyms_memory : KsymsError → Bool
is_ksyms_memory OutOfMemory = true
is_ksyms_memory _ = false

-- the refusal for a fault of types
abbrev pub of_type_fault : BtfError → KsymsError
of_type_fault types.OutOfMemory = OutOfMemory
of_type_fault e = BtfFault e

abbrev pub is_memory_kind : ErrorKind → Bool
is_memory_kind kinds.OutOfMemory = true
is_memory_kind _ = false

-- the refusal for a line that could not be read
abbrev pub line_read_fault : Error → KsymsError
line_read_fault e = if is_memory_kind (error_kind e) then OutOfMemory else KallsymsAccessError e

-- ---- the words of a line

-- the words of a line: the bytes between runs of 0x09, 0x0a, 0x0c, 0x0d and 0x20
unfoldable pub words : List ℕ → List (List ℕ)
words line = filter (λ word. nat_lt 0 (length word)) (slice_split is_ascii_whitespace line)

-- the first and the third of some words, where there are three
abbrev pub first_and_third : List (List ℕ) → Option (List ℕ × List ℕ)
first_and_third [] = None
first_and_third (first ∷ []) = None
first_and_third (first ∷ second ∷ []) = None
first_and_third (first ∷ second ∷ third ∷ more) = Some (first, third)

-- the word that states an address, and the name that it is the address of
abbrev pub address_and_name : List ℕ → Option (List ℕ × List ℕ)
address_and_name line = first_and_third (words line)

-- one or more hexadecimal digits, and nothing else
abbrev pub is_hexadecimal : List ℕ → Bool
is_hexadecimal digits = nat_lt 0 (length digits) && list_all (λ c. nat_lt (digit_value c) 16) digits

-- the number of some digits, where they are hexadecimal and it is below 2^64
abbrev pub hexadecimal_number : List ℕ → Option ℕ
hexadecimal_number digits =
    if is_hexadecimal digits && nat_lt (digits_value 16 digits) (2 ^ 64)
    then Some (digits_value 16 digits)
    else None

-- the address that a word states, with or without a plus before it
unfoldable pub stated_address : List ℕ → Option ℕ
stated_address word = hexadecimal_number (without_leading_plus word)

-- ---- which items of an iterator count

module _ {S A : Type 0} (steps : S → Option A → S → Type 0) (lines : S) where
  -- the items that count: all that the iterator gives, where lines are read, else none
  abbrev pub Counts : Bool → List A → Type 0
  Counts true items = Drains steps lines items
  Counts false items = items ≡ []

-- ---- values by name

-- whether a name is one of some names
abbrev pub is_one_of : List (List ℕ) → List ℕ → Bool
is_one_of names name = list_any (λ n. bytes_eq n name) names

-- ---- lines, and items of an iterator

-- an item of an iterator: the string of a line, or an error
abbrev pub Item : Type 0
Item = Result (String Global) Error

-- the bytes of a line, or why it could not be read
abbrev pub Line : Type 0
Line = Result (List ℕ) KsymsError

abbrev pub line_of_item : Item → Line
line_of_item (Ok text) = Ok (string_bytes text)
line_of_item (Err e) = Err (line_read_fault e)

-- ---- the addresses of a name

-- an address that is not 0
abbrev pub nonzero : Option ℕ → Option ℕ
nonzero None = None
nonzero (Some address) = if address == 0 then None else Some address

-- the nonzero address that a word states, where it is that of a name
abbrev pub address_if_named : List ℕ → Option (List ℕ × List ℕ) → Option ℕ
address_if_named name None = None
address_if_named name (Some pair) =
    if bytes_eq pair.1 name then nonzero (stated_address pair.0) else None

-- the nonzero address that a line states of a name
abbrev pub address_in_line : List ℕ → Line → Option ℕ
address_in_line name (Err e) = None
address_in_line name (Ok line) = address_if_named name (address_and_name line)

-- all nonzero addresses that lines state of a name
unfoldable pub addresses : List ℕ → List Line → List ℕ
addresses name lines = filter_map (address_in_line name) lines

-- the address of a name: the first that lines state of it
unfoldable pub address_of : List ℕ → List Line → Option ℕ
address_of name lines = slice_get (addresses name lines) 0

-- ---- the lines that are refused

-- `invalid address: ` and the word
abbrev pub invalid_address : List ℕ → List ℕ
invalid_address word =
    105 ∷ 110 ∷ 118 ∷ 97 ∷ 108 ∷ 105 ∷ 100 ∷ 32 ∷ 97 ∷ 100 ∷ 100 ∷ 114 ∷ 101 ∷ 115 ∷ 115 ∷ 58 ∷ 32
    ∷ word

-- a nonzero address that differs from the one before
abbrev pub clash : List ℕ → Option ℕ → ℕ → Option KsymsError
clash name None address = None
clash name (Some first) address =
    if first == address then None else Some (AmbiguousResolution name first address)

-- the fault of what a word states of a name, given the address before
abbrev pub stated_fault : List ℕ → Option ℕ → List ℕ → Option ℕ → Option KsymsError
stated_fault name before word None = Some (KallsymsParseError (invalid_address word))
stated_fault name before word (Some address) =
    if address == 0 then None else clash name before address

-- the fault of an address and a name: none where the name is not wanted
abbrev pub named_address_fault : (List ℕ → Bool) → List Line → Option (List ℕ × List ℕ)
    → Option KsymsError
named_address_fault is_wanted before None = None
named_address_fault is_wanted before (Some pair) =
    if is_wanted pair.1
    then stated_fault pair.1 (address_of pair.1 before) pair.0 (stated_address pair.0)
    else None

-- The fault of a line after others: it could not be read, or it is wanted and states no address, or
-- another one than those before. For example, after `12 T a` the line `12 t a` has no fault,
-- `13 t a` has the fault `AmbiguousResolution a 0x12 0x13`, and `13 t b` has none
-- (proofs/Examples.antt).
unfoldable pub line_fault : (List ℕ → Bool) → List Line → Line → Option KsymsError
line_fault is_wanted before (Err e) = Some e
line_fault is_wanted before (Ok line) = named_address_fault is_wanted before (address_and_name line)

-- each line, with those before it
abbrev pub with_before : List Line → List Line → List (List Line × Line)
with_before before [] = []
with_before before (line ∷ lines) = (before, line) ∷ with_before (before ++ line ∷ []) lines

-- the fault of the first line that has one
unfoldable pub lines_fault : (List ℕ → Bool) → List Line → Option KsymsError
lines_fault is_wanted lines = first_some (λ e. line_fault is_wanted e.0 e.1) (with_before [] lines)
