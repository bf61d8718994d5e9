use Rattle.std.proofs.Common.{◌≡◌, ◌++◌, ◌∷◌, ◌+◌, [], List, length, arith, subst, sym}
use Rattle.ebpf_reloc.specs.SlotTargets.{read}
use Rattle.ebpf_verdict.proofs.SoFar.{SoFar, all_judged, one_more}
use Rattle.ebpf_verdict.specs.declared.programs.ProgramVerdict.{ProgramVerdict}
use Rattle.ebpf_verdict.proofs.programs.ProgramJudge.verdicts_on.Goals as goal

pub loop-program-preserved : goal.loop-program-preserved
loop-program-preserved c =
    let self = c.args.self.now in
    let kernel = self.numbers.now.kernel in
    let maps = self.numbers.now.map_types.now in
    let records = self.records.now in
    let parts = read self.functions.now.parts in
    subst (λ (all : List ProgramVerdict). SoFar kernel maps records parts c.args.programs.now (c.loop-program.program-index + 1) all) (sym c.in_ok-push.ensures.ok)
    (one_more kernel maps records parts c.args.programs.now c.loop-program.program-index c.loop-program.all c.loop-program.invariant c.program-item.result c.in_ok-verdict_on.field-0 c.program-item.is c.in_ok-verdict_on.ensures)

pub returns : goal.returns
returns c =
    let self = c.args.self.now in
    let end : c.loop-program.program-index ≡ length c.args.programs.now = omega arith in
    all_judged self.numbers.now.kernel self.numbers.now.map_types.now self.records.now (read self.functions.now.parts) c.args.programs.now c.loop-program.program-index c.loop-program.all c.loop-program.invariant end
