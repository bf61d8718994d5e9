use Rattle.std.proofs.Common.{◌∙◌}
use Rattle.ebpf_model.proofs.InStep.{none_passed}
use Rattle.ebpf_model.specs.Walks.{entries_or_none, walked_relocations}
use Rattle.ebpf_model.proofs.walk.Walk.begin_anew.Goals as goal

pub returns-clause-none : goal.returns-clause-none
returns-clause-none c = none_passed (entries_or_none (walked_relocations c.args.self.now)) c.args.offset c.pass.new.self.next c.pass.new.self.ahead (c.pass.ensures.left ∙ c.all_from-self.ensures)
