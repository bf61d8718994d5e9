-- What a call leaves in the buffers of its caller. Where it found what it has to write, it does so
-- where all of it fits, and else says how much there is.
use Rattle.std.specs.Prelude.{◌≡◌, ℕ, Bool, ◌&&◌, ◌==◌, List, ◌++◌, length, drop, Result, Ok, Err}
use Rattle.std.specs.Prelude.{nat_le, if◌then◌else◌, [], take, min, Option, is_some, unwrap_or}
use denote.Ref.{Bor}
use Rattle.capi_rows.specs.declared.codes.TheConstants.{DONE, ROOM, MEMORY}
use Rattle.capi_rows.specs.declared.buffers.ebpf_counts.{ebpf_counts}
use Rattle.capi_rows.specs.declared.buffers.Listing.{Listing}
use Rattle.capi_rows.specs.declared.refusal.Refusal.{Refusal}
use Rattle.capi_rows.specs.Refusals.{no_details, flag, name_of, refusal_row}
use Rattle.capi_rows.specs.declared.refusal.ebpf_refusal.{ebpf_refusal}

-- ---- what a call leaves in the buffers of its caller. `Err` is a number that the call answers
-- without writing; `Ok` is what it has to write: it does so where all of it fits, and else says how
-- much there is.

-- a list at the front of a buffer, where it may be written
abbrev pub front : {X : Type 0} → Bool → List X → List X → List X
front fits xs buffer = if fits then xs ++ drop (length xs) buffer else buffer

-- the number of an answer
abbrev pub done_or_room : Bool → ℕ
done_or_room fits = if fits then DONE else ROOM

-- out of memory where the answer tells it, else what is stated
abbrev pub or_memory : {X : Type 0} → ℕ → Result X ℕ → Result X ℕ
or_memory answered stated = if answered == MEMORY then Err MEMORY else stated

-- ---- one list, whose length is the count

abbrev pub answer : {X : Type 0} → Result (List X) ℕ → List X → ℕ
answer (Err number) buffer = number
answer (Ok xs) buffer = done_or_room (nat_le (length xs) (length buffer))

abbrev pub filled : {X : Type 0} → Result (List X) ℕ → List X → List X
filled (Err number) buffer = buffer
filled (Ok xs) buffer = front (nat_le (length xs) (length buffer)) xs buffer

abbrev pub count_after : {X : Type 0} → Result (List X) ℕ → ℕ → ℕ
count_after (Err number) count = count
count_after (Ok xs) count = length xs

-- what a call leaves of a buffer and a count
pub record FillsList {X : Type 0} (found : Result (List X) ℕ) (number : ℕ) (out out_left : List X)
    (count count_left : ℕ)
    : Type 0 where
  pub answered : number ≡ answer found out
  pub listed : out_left ≡ filled found out
  pub counted : count_left ≡ count_after found count

-- ---- rows and the text that they point into

abbrev pub Listed : Type 0 → Type 0
Listed R = List R × List ℕ

abbrev pub both_fit : {R : Type 0} → Listed R → List R → List ℕ → Bool
both_fit listed rows text =
    nat_le (length listed.0) (length rows) && nat_le (length listed.1) (length text)

abbrev pub answer_listed : {R : Type 0} → Result (Listed R) ℕ → List R → List ℕ → ℕ
answer_listed (Err number) rows text = number
answer_listed (Ok listed) rows text = done_or_room (both_fit listed rows text)

abbrev pub filled_rows : {R : Type 0} → Result (Listed R) ℕ → List R → List ℕ → List R
filled_rows (Err number) rows text = rows
filled_rows (Ok listed) rows text = front (both_fit listed rows text) listed.0 rows

abbrev pub filled_text : {R : Type 0} → Result (Listed R) ℕ → List R → List ℕ → List ℕ
filled_text (Err number) rows text = text
filled_text (Ok listed) rows text = front (both_fit listed rows text) listed.1 text

abbrev pub counts_of : {R : Type 0} → Result (Listed R) ℕ → ebpf_counts → ebpf_counts
counts_of (Err number) counts = counts
counts_of (Ok listed) counts = record { rows = length listed.0; text = length listed.1 }

pub record FillsListing {R : Type 0} (found : Result (Listed R) ℕ) (number : ℕ)
    (rows rows_left : List R) (text text_left : List ℕ) (counts counts_left : ebpf_counts)
    : Type 0 where
  pub answered : number ≡ answer_listed found rows text
  pub rows_are : rows_left ≡ filled_rows found rows text
  pub text_is : text_left ≡ filled_text found rows text
  pub counted : counts_left ≡ counts_of found counts

-- ---- what a call of the crate found, as what is stated

-- a list that is lent
abbrev pub found_list : {X : Type 0} → Result (Bor (List X)) ℕ → Result (List X) ℕ
found_list (Err number) = Err number
found_list (Ok xs) = Ok xs.now

-- rows and their text
abbrev pub told_listing : {R : Type 0} → Result (Listing R) Refusal → Result (Listed R) Refusal
told_listing (Err r) = Err r
told_listing (Ok listing) = Ok (listing.rows.items, listing.text.items)

-- ---- what a call leaves that fills buffers and can refuse by a name. Where it found what it has
-- to write, that stands at the front of the buffers, or the counts say how much there is; else C is
-- told of the refusal.

-- a refusal by its number alone
abbrev pub numbered : {X : Type 0} → Result X Refusal → Result X ℕ
numbered (Ok x) = Ok x
numbered (Err r) = Err r.number

-- the name of what a refusal is about, cut to the buffer, at the front of it
abbrev pub about_after : {X : Type 0} → Result X Refusal → List ℕ → List ℕ
about_after (Ok x) about = about
about_after (Err r) about = take (length about) (name_of r) ++ drop (length (name_of r)) about

-- the row of a number alone
abbrev pub plain_row : ℕ → ebpf_refusal
plain_row number = refusal_row number no_details 0

-- the row that tells of it; want of room is told by its number alone
abbrev pub report_after : {X : Type 0} → Result X Refusal → ℕ → List ℕ → ebpf_refusal → ebpf_refusal
report_after (Ok x) number about report = if number == ROOM then plain_row ROOM else report
report_after (Err r) number about report =
    refusal_row r.number r.details (min (length (name_of r)) (length about))

-- ---- one list, whose length is the count

pub record LeavesList {X : Type 0} (found : Result (List X) Refusal) (number : ℕ)
    (out out_left : List X) (count count_left : ℕ) (about about_left : List ℕ)
    (report report_left : ebpf_refusal)
    : Type 0 where
  pub fills : FillsList (numbered found) number out out_left count count_left
  pub told : about_left ≡ about_after found about
  pub reported : report_left ≡ report_after found number about report

-- ---- bytes that may be none, and a number that says whether there are

abbrev pub bytes_found : Result (Option (List ℕ)) Refusal → Result (List ℕ) Refusal
bytes_found (Ok value) = Ok (unwrap_or value [])
bytes_found (Err r) = Err r

abbrev pub found_after : Result (Option (List ℕ)) Refusal → ℕ → ℕ
found_after (Ok value) is_found = flag (is_some value)
found_after (Err r) is_found = is_found

pub record LeavesValue (found : Result (Option (List ℕ)) Refusal) (number : ℕ)
    (out out_left : List ℕ) (count count_left is_found is_found_left : ℕ)
    (about about_left : List ℕ) (report report_left : ebpf_refusal)
    : Type 0 where
  pub bytes : LeavesList (bytes_found found) number out out_left count count_left about about_left
      report report_left
  pub says : is_found_left ≡ found_after found is_found

-- ---- rows and the text that they point into

pub record LeavesListing {R : Type 0} (found : Result (Listed R) Refusal) (number : ℕ)
    (rows rows_left : List R) (text text_left : List ℕ) (counts counts_left : ebpf_counts)
    (about about_left : List ℕ) (report report_left : ebpf_refusal)
    : Type 0 where
  pub fills : FillsListing (numbered found) number rows rows_left text text_left counts counts_left
  pub told : about_left ≡ about_after found about
  pub reported : report_left ≡ report_after found number about report
