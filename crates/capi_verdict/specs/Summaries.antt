-- How many programs of an object run on a kernel, as C reads it.
use Rattle.std.specs.Prelude.{ℕ, ◌==◌, Bool, not, List, count_by, is_some, if◌then◌else◌}
use Rattle.ebpf_btf.specs.TypeInfo.{TypeInfo}
use Rattle.ebpf_object.specs.declared.object.Object.{Object}
use Rattle.ebpf_verdict.specs.Verdicts.{code_is_ok}
use Rattle.ebpf_verdict.specs.declared.programs.ProgramVerdict.{ProgramVerdict}
use Rattle.capi_verdict.specs.ProgramReasons.{missing_target}
use Rattle.capi_verdict.specs.declared.summary.ProgramFate.{ProgramFate}
use Rattle.capi_verdict.specs.declared.summary.ProgramFate.TheVariants.{Runs, NoTarget, Breaks}
use Rattle.capi_verdict.specs.declared.summary.ebpf_verdict_summary.{ebpf_verdict_summary}

-- ---- the fate of one program, if not all programs break

abbrev pub fate_by : Bool → Bool → ProgramFate
fate_by ok has_target = if ok then (if has_target then Runs else NoTarget) else Breaks

-- a program that breaks for no other reason, and whose target the kernel lacks, has no target
abbrev pub fate_of : Object → TypeInfo → ProgramVerdict → ProgramFate
fate_of o kernel v =
    fate_by (code_is_ok v.code) (not (is_some (missing_target o kernel v.name)))

abbrev pub fate_number : ProgramFate → ℕ
fate_number Runs = 0
fate_number NoTarget = 1
fate_number Breaks = 2

abbrev pub count_fates : ProgramFate → List ProgramFate → ℕ
count_fates fate fates = count_by (λ f. fate_number f == fate_number fate) fates

-- ---- all programs

-- ok 0, breaks 1
abbrev pub verdict_number : Bool → ℕ
verdict_number ok = if ok then 0 else 1

-- of programs with these fates, where some reason is for all programs; of so many programs
abbrev pub summary : Bool → Bool → ℕ → List ProgramFate → ℕ → ebpf_verdict_summary
summary ok for_all programs fates reasons = record {
  programs_ok = if for_all then 0 else count_fates Runs fates;
  programs_break = if for_all then programs else count_fates Breaks fates;
  programs_without_target = if for_all then 0 else count_fates NoTarget fates;
  reasons = reasons;
  verdict = verdict_number ok;
}
