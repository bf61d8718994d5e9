-- The verdict of a kernel on an object, as C reads it.
use Rattle.std.specs.Prelude.{◌≡◌, ◌==◌, not, List, ◌++◌, length, map}
use Rattle.std.specs.FinMap.{len}
use Rattle.std.specs.List.{flat_map}
use Rattle.ebpf_btf.specs.TypeInfo.{TypeInfo}
use Rattle.ebpf_object.specs.declared.object.Object.{Object}
use Rattle.ebpf_verdict.specs.Verdicts.{is_ok, IsVerdict, RunsPrepared}
use Rattle.ebpf_verdict.specs.declared.verdict.Verdict.{Verdict}
use Rattle.capi_rows.specs.Answers.{Listed}
use Rattle.capi_verdict.specs.Assumed.{assumed}
use Rattle.capi_verdict.specs.ObjectReasons.{object_reasons}
use Rattle.capi_verdict.specs.ProgramReasons.{program_reasons}
use Rattle.capi_verdict.specs.Reasons.{reason_list}
use Rattle.capi_verdict.specs.Summaries.{fate_of, summary}
use Rattle.capi_verdict.specs.declared.reason.Reason.{Reason}
use Rattle.capi_verdict.specs.declared.reason.ebpf_reason.{ebpf_reason}
use Rattle.capi_verdict.specs.declared.summary.ebpf_verdict_summary.{ebpf_verdict_summary}

-- the reasons of a verdict: those for all programs, then those of each program
abbrev pub verdict_reasons : Object → TypeInfo → Verdict → List Reason
verdict_reasons o kernel v =
    object_reasons v ++ flat_map (program_reasons o kernel v.records) v.programs

-- all programs break where there is a reason for all
abbrev pub verdict_summary : Object → TypeInfo → Verdict → ebpf_verdict_summary
verdict_summary o kernel v =
    summary (is_ok v) (not (length (object_reasons v) == 0)) (len o.programs)
    (map (fate_of o kernel) v.programs) (length (verdict_reasons o kernel v))

-- rows with their text, and a summary
abbrev pub Checked : Type 0
Checked = Listed ebpf_reason × ebpf_verdict_summary

-- they are of a verdict of the kernel on the object
pub record IsChecked (kernel : TypeInfo) (o : Object) (checked : Checked) : Type 0 where
  pub verdict : Verdict
  pub judged : IsVerdict (assumed o) kernel verdict
  pub reasons : checked.0 ≡ reason_list (verdict_reasons o kernel verdict)
  pub told : checked.1 ≡ verdict_summary o kernel verdict

-- where the summary says ok, the object can be prepared over the kernel's types, and its programs
-- run (`RunsPrepared`)
abbrev pub OkOfCheckIsPrepared : Type 0
OkOfCheckIsPrepared =
    (kernel : TypeInfo) (o : Object) (checked : Checked)
    → IsChecked kernel o checked
    → checked.1.verdict ≡ 0
    → RunsPrepared (assumed o) kernel
