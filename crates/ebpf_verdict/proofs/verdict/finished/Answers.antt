use Rattle.std.proofs.Common.{subst, sym}
use Rattle.std.specs.Prelude.{IfOk, Result}
use Rattle.ebpf_core_relo.specs.Records.{Written}
use Rattle.ebpf_object.specs.WrittenSlots.{AreRecordOutcomes}
use Rattle.ebpf_object.specs.declared.prepare_error.PrepareError.{PrepareError}
use Rattle.ebpf_verdict.specs.Verdicts.{IsVerdict}
use Rattle.ebpf_verdict.specs.Writing.{IsWrittenAs}
use Rattle.ebpf_verdict.specs.declared.writing.WrittenObject.{WrittenObject}
use Rattle.ebpf_verdict.proofs.verdict.finished.Goals as goal

pub returns-in-Ok : goal.returns-in-Ok
returns-in-Ok c =
    let o = c.args.object.now in
    let kernel = c.args.kernel.now in
    subst (λ (w : Result WrittenObject PrepareError). IfOk c.of_written.result (λ v. (slots : Written) → AreRecordOutcomes o kernel (record { records = c.args.records; written = slots }) → IsWrittenAs kernel slots o w → IsVerdict o kernel v))
    (sym c.in-Ok.is) c.of_written.ensures

pub returns-in-Err : goal.returns-in-Err
returns-in-Err c = λ slots outcomes written. c.of_refused.ensures c.args.kernel.now slots outcomes
