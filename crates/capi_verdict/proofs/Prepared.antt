-- What follows where a summary says ok.
use Rattle.std.proofs.Common.{◌≡◌, ◌∙◌, sym, ap, Bool, true, false, refl, arith}
use Rattle.ebpf_verdict.specs.Verdicts.{is_ok}
use Rattle.ebpf_verdict.proofs.OkPrepared.{ok_is_prepared}
use Rattle.capi_verdict.specs.Assumed.{assumed}
use Rattle.capi_verdict.specs.Checked.{OkOfCheckIsPrepared}
use Rattle.capi_verdict.specs.Summaries.{verdict_number}
use Rattle.capi_verdict.specs.declared.summary.ebpf_verdict_summary.{ebpf_verdict_summary}

-- the number 0 says ok
zero_is_ok : (ok : Bool) → verdict_number ok ≡ 0 → ok ≡ true
zero_is_ok true e = refl
zero_is_ok false e = absurd (omega arith)

pub ok_of_check_is_prepared : OkOfCheckIsPrepared
ok_of_check_is_prepared kernel o checked c e =
    ok_is_prepared (assumed o) kernel c.verdict c.judged (zero_is_ok (is_ok c.verdict) (sym (ap (λ (s : ebpf_verdict_summary). s.verdict) c.told) ∙ e))
