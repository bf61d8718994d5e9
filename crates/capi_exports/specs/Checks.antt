-- What `ebpf_check` finds of what a handle holds, and leaves of its caller's summary.
use Rattle.std.specs.Prelude.{Result, Ok, Err}
use Rattle.capi_rows.specs.Answers.{Listed}
use Rattle.capi_rows.specs.declared.refusal.Refusal.{Refusal}
use Rattle.capi_verdict.specs.Checked.{Checked}
use Rattle.capi_verdict.specs.declared.checked.CheckedObject.{CheckedObject}
use Rattle.capi_verdict.specs.declared.reason.ebpf_reason.{ebpf_reason}
use Rattle.capi_verdict.specs.declared.summary.ebpf_verdict_summary.{ebpf_verdict_summary}

-- what was found, without the capacity of its lists
abbrev pub told_check : Result CheckedObject Refusal → Result Checked Refusal
told_check (Ok c) = Ok ((c.listing.rows.items, c.listing.text.items), c.summary)
told_check (Err r) = Err r

-- the rows and their text
abbrev pub rows_found : Result Checked Refusal → Result (Listed ebpf_reason) Refusal
rows_found (Ok c) = Ok c.0
rows_found (Err r) = Err r

-- the summary is written where the object could be judged, also where the rows don't fit
abbrev pub summary_after : Result Checked Refusal → ebpf_verdict_summary → ebpf_verdict_summary
summary_after (Ok c) summary = c.1
summary_after (Err r) summary = summary
