-- Preparing has one result where the bytes of the kernel's symbols are known: those of a text in
-- memory, or those that a reader has left. Texts in errors that are for people to read are aside,
-- and so is the error in the place of a line that could not be read.
use Rattle.std.specs.Prelude.{◌≡◌, ◌||◌, ℕ, List, Bool, true, false, Option, Some, None}
use Rattle.std.specs.Prelude.{Result, Ok, Err, option_map}
use Rattle.ebpf_ksyms.specs.Sources.{Source, Text, Reader}
use Rattle.ebpf_ksyms.specs.declared.error.KsymsError.{KsymsError}
use Rattle.ebpf_ksyms.specs.declared.error.KsymsError.TheVariants.{KallsymsAccessError}
use Rattle.ebpf_object.specs.Prepared.{Answer, MayPrepare, MayStage, is_access_error}
use Rattle.ebpf_object.specs.Prepared.{is_prepare_memory, prepare_error_without_texts}
use Rattle.ebpf_object.specs.Stages.{Chosen}
use Rattle.ebpf_object.specs.declared.object.Object.{Object}
use Rattle.ebpf_object.specs.declared.prepare_error.PrepareError.{PrepareError}
use Rattle.ebpf_object.specs.declared.prepare_error.PrepareError.TheVariants.{Ksyms}
use Rattle.ebpf_parts.specs.declared.parse_mode.ParseMode.{ParseMode}

abbrev pub has_known_bytes : Source → Bool
has_known_bytes (Text text) = true
has_known_bytes (Reader (Some bytes)) = true
has_known_bytes (Reader None) = false

-- ---- results that are not determined

-- A reader may fail at any line. A text fails where a line is not UTF-8, each time.
abbrev pub may_fail_to_read : Source → KsymsError → Bool
may_fail_to_read (Text text) e = false
may_fail_to_read (Reader known) e = is_access_error e

abbrev pub is_read_failure : Source → PrepareError → Bool
is_read_failure lines (Ksyms e) = may_fail_to_read lines e
is_read_failure lines _ = false

-- out of memory, or a failure to read
abbrev pub is_undetermined : Source → Answer → Bool
is_undetermined lines (Ok o) = false
is_undetermined lines (Err e) = is_prepare_memory e || is_read_failure lines e

-- ---- the determined part of a result

-- none for a line that could not be read: which `io::Error` it has is open
abbrev pub determined_resolution : KsymsError → Option KsymsError
determined_resolution (KallsymsAccessError error) = None
determined_resolution e = Some e

abbrev pub determined_error : PrepareError → Option PrepareError
determined_error (Ksyms e) = option_map Ksyms (determined_resolution e)
determined_error e = Some (prepare_error_without_texts e)

abbrev pub determined : Answer → Result Object (Option PrepareError)
determined (Ok o) = Ok o
determined (Err e) = Err (determined_error e)

-- ---- the laws

-- any two results that may come of a source are the same
abbrev pub HasOneResult : Source → (Answer → Type 0) → Type 0
HasOneResult lines May =
    (r s : Answer)
    → May r
    → May s
    → is_undetermined lines r ≡ false
    → is_undetermined lines s ≡ false
    → determined r ≡ determined s

-- of an object, and of a file
abbrev pub StagingHasOneResult : Type 0
StagingHasOneResult =
    (steps : Chosen) (lines : Source) (o : Object)
    → has_known_bytes lines ≡ true
    → HasOneResult lines (MayStage steps lines o)

abbrev pub PreparingHasOneResult : Type 0
PreparingHasOneResult =
    (steps : Chosen) (lines : Source) (mode : ParseMode) (bytes : List ℕ)
    → has_known_bytes lines ≡ true
    → HasOneResult lines (MayPrepare steps lines mode bytes)
