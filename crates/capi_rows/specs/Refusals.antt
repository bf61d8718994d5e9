-- What C reads of a refusal, and of the numbers that its error states: a number that it doesn't
-- state is 0.
use Rattle.std.specs.Prelude.{ℕ, Bool, if◌then◌else◌, ◌+◌, ◌*◌, Some, None, is_some, unwrap_or, ◌≡◌}
use Rattle.std.specs.Prelude.{List, [], ◌++◌, length, take, drop, min, Option}
use Rattle.capi_rows.specs.declared.refusal.Details.{Details}
use Rattle.capi_rows.specs.declared.refusal.Refusal.{Refusal}
use Rattle.capi_rows.specs.declared.refusal.ebpf_refusal.{ebpf_refusal}

-- ---- truth values as numbers

abbrev pub flag : Bool → ℕ
flag b = if b then 1 else 0

-- ---- the numbers that an error states beside its name

abbrev pub no_details : Details
no_details = record {
  slot = None;
  offset = None;
  symbol = None;
  address = None;
  other_address = None;
  section = None;
  size = None;
  other_size = None;
  type_id = None;
  relocation = None;
  index = None;
  count = None;
  kind = None;
}

-- ---- some numbers, and one more

abbrev pub at_slot : ℕ → Details → Details
at_slot slot d = record d { slot = Some slot }

abbrev pub at_offset : ℕ → Details → Details
at_offset offset d = record d { offset = Some offset }

abbrev pub of_symbol : ℕ → Details → Details
of_symbol symbol d = record d { symbol = Some symbol }

abbrev pub at_address : ℕ → Details → Details
at_address address d = record d { address = Some address }

abbrev pub two_addresses : ℕ → ℕ → Details → Details
two_addresses first second d = record d { address = Some first; other_address = Some second }

abbrev pub at_section : ℕ → Details → Details
at_section section d = record d { section = Some section }

abbrev pub of_size : ℕ → Details → Details
of_size size d = record d { size = Some size }

abbrev pub two_sizes : ℕ → ℕ → Details → Details
two_sizes first second d = record d { size = Some first; other_size = Some second }

abbrev pub of_type : ℕ → Details → Details
of_type type_id d = record d { type_id = Some type_id }

abbrev pub of_relocation : ℕ → Details → Details
of_relocation relocation d = record d { relocation = Some relocation }

abbrev pub of_index : ℕ → Details → Details
of_index index d = record d { index = Some index }

abbrev pub of_count : ℕ → Details → Details
of_count count d = record d { count = Some count }

abbrev pub of_kind : ℕ → Details → Details
of_kind kind d = record d { kind = Some kind }

-- ---- which numbers there are, as flags that are added up

abbrev pub bits_of_places : Details → ℕ
bits_of_places d =
    flag (is_some d.slot)
    + 2 * flag (is_some d.offset)
    + 4 * flag (is_some d.symbol)
    + 8 * flag (is_some d.address)
    + 16 * flag (is_some d.other_address)
    + 32 * flag (is_some d.section)

abbrev pub bits_of_counts : Details → ℕ
bits_of_counts d =
    64 * flag (is_some d.size)
    + 128 * flag (is_some d.other_size)
    + 256 * flag (is_some d.type_id)
    + 512 * flag (is_some d.relocation)
    + 1024 * flag (is_some d.index)
    + 2048 * flag (is_some d.count)
    + 4096 * flag (is_some d.kind)

abbrev pub has_of : Details → ℕ
has_of d = bits_of_places d + bits_of_counts d

-- ---- what C reads of a refusal. A number that its error doesn't state is 0.

-- of a number, the numbers of an error, and how many bytes of a name were written
unfoldable pub refusal_row : ℕ → Details → ℕ → ebpf_refusal
refusal_row number d name_len = record {
  number = number;
  has = has_of d;
  slot = unwrap_or d.slot 0;
  offset = unwrap_or d.offset 0;
  symbol = unwrap_or d.symbol 0;
  address = unwrap_or d.address 0;
  other_address = unwrap_or d.other_address 0;
  section = unwrap_or d.section 0;
  size = unwrap_or d.size 0;
  other_size = unwrap_or d.other_size 0;
  type_id = unwrap_or d.type_id 0;
  relocation = unwrap_or d.relocation 0;
  index = unwrap_or d.index 0;
  count = unwrap_or d.count 0;
  kind = unwrap_or d.kind 0;
  name_len = name_len;
}

-- ---- a refusal, as C is told of it

-- a refusal that is about nothing with a name, and whose error states numbers
abbrev pub refusal_with_details : ℕ → Details → Refusal
refusal_with_details number details = record { number = number; name = None; details = details }

-- a refusal that is about what has a name, and whose error states numbers
abbrev pub detailed_with_name : ℕ → List ℕ → Details → Refusal
detailed_with_name number name details =
    record { number = number; name = Some name; details = details }

-- a refusal that is about nothing with a name
abbrev pub plain : ℕ → Refusal
plain number = refusal_with_details number no_details

-- a refusal that is about what has a name
abbrev pub refusal_with_name : ℕ → List ℕ → Refusal
refusal_with_name number name = detailed_with_name number name no_details

abbrev pub text_if : Option (List ℕ) → List ℕ
text_if None = []
text_if (Some text) = text

-- the name of what a refusal is about, empty where it is about nothing with a name
abbrev pub name_of : Refusal → List ℕ
name_of r = text_if r.name

-- a call answers the number of a refusal, the name, cut to the buffer, stands at the front of it,
-- and the row tells all
pub record IsReported (r : Refusal) (answer : ℕ) (before after : List ℕ) (row : ebpf_refusal)
    : Type 0 where
  pub number_is : answer ≡ r.number
  pub name_is : after ≡ take (length before) (name_of r) ++ drop (length (name_of r)) before
  pub row_is : row ≡ refusal_row r.number r.details (min (length (name_of r)) (length before))
