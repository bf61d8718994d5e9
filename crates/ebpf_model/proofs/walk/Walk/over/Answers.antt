use Rattle.std.proofs.Common.{◌∙◌}
use Rattle.std.specs.Option.{option_copied}
use Rattle.ebpf_model.proofs.InStep.{none_passed}
use Rattle.ebpf_model.specs.Walks.{entries_or_none}
use Rattle.ebpf_model.proofs.walk.Walk.over.Goals as goal

pub returns-clause-none : goal.returns-clause-none
returns-clause-none c = none_passed (entries_or_none (option_copied c.args.section_relocations)) c.args.offset c.take_first-next.result c.take_first-next.new.ahead (c.take_first-next.ensures ∙ c.all_from-ahead.ensures)
