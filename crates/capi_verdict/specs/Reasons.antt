-- A reason for which programs of an object break on a kernel, as C reads it.
use Rattle.std.specs.Prelude.{ℕ, ◌+◌, List, [], ◌∷◌, ◌++◌, length, None, is_some, unwrap_or}
use Rattle.capi_rows.specs.Answers.{Listed}
use Rattle.capi_rows.specs.Listings.{listed_by, zero_terminated}
use Rattle.capi_rows.specs.Records.{slot_or_zeros}
use Rattle.capi_rows.specs.Refusals.{flag}
use Rattle.capi_verdict.specs.declared.reason.Reason.{Reason}
use Rattle.capi_verdict.specs.declared.reason.ReasonKind.{ReasonKind}
use Rattle.capi_verdict.specs.declared.reason.ReasonKind.TheVariants.{EmptySection, Extern, Pass}
use Rattle.capi_verdict.specs.declared.reason.ReasonKind.TheVariants.{Relocation, Linking, Poisoned}
use Rattle.capi_verdict.specs.declared.reason.ReasonKind.TheVariants.{Helper, Function, MapType}
use Rattle.capi_verdict.specs.declared.reason.ReasonKind.TheVariants.{Target}
use Rattle.capi_verdict.specs.declared.reason.ebpf_reason.{ebpf_reason}

abbrev pub kind_number : ReasonKind → ℕ
kind_number EmptySection = 1
kind_number Extern = 2
kind_number Pass = 3
kind_number Relocation = 4
kind_number Linking = 5
kind_number Poisoned = 6
kind_number Helper = 7
kind_number Function = 8
kind_number MapType = 9
kind_number Target = 10

-- a reason of a kind for a program, about what has a name, and without numbers
abbrev pub plain_reason : ReasonKind → List ℕ → List ℕ → Reason
plain_reason kind program subject = record {
  kind = kind;
  program = program;
  subject = subject;
  slot = None;
  function_slot = None;
  relocation = None;
  number = 0;
  fault = 0;
}

-- a reason for all programs has no program's name
abbrev pub reason_for_all : ReasonKind → List ℕ → Reason
reason_for_all kind subject = plain_reason kind [] subject

-- ---- rows

-- the names of a reason's program and of its subject
abbrev pub reason_text : Reason → List ℕ
reason_text r = zero_terminated r.program ++ zero_terminated r.subject

-- the row of a reason whose names begin at two offsets of the text
abbrev pub reason_row : Reason → ℕ → ℕ → ebpf_reason
reason_row r name_at subject_at = record {
  name_at = name_at;
  name_len = length r.program;
  subject_at = subject_at;
  subject_len = length r.subject;
  slot = unwrap_or r.slot 0;
  section = (slot_or_zeros r.function_slot).function.0;
  address = (slot_or_zeros r.function_slot).function.1;
  function_slot = (slot_or_zeros r.function_slot).slot;
  relocation = unwrap_or r.relocation 0;
  number = r.number;
  kind = kind_number r.kind;
  fault = r.fault;
  has_slot = flag (is_some r.slot);
  has_relocation = flag (is_some r.relocation);
}

-- reasons in their order
abbrev pub reason_list : List Reason → Listed ebpf_reason
reason_list reasons =
    listed_by (λ r at. reason_row r at (at + length (zero_terminated r.program)) ∷ []) reason_text
    reasons
