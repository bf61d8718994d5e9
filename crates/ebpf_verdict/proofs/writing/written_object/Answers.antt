use Rattle.ebpf_verdict.proofs.Written.{written_as}
use Rattle.ebpf_verdict.proofs.writing.written_object.Goals as goal

pub returns-in-Ok : goal.returns-in-Ok
returns-in-Ok c =
    written_as c.args.kernel.now c.args.slots c.args.object.now c.in_ok-copy.copy c.write_complete.new.copy c.in-Ok.lacking c.in-Ok.ensures.given c.in_ok-copy.ensures c.in-Ok.ensures.written
