use Rattle.ebpf_object.proofs.Replaced.{are_linked}
use Rattle.ebpf_model.specs.Symbols.{text_sections_in}
use Rattle.ebpf_object.specs.LinkedPrograms.{linkable_of, programs_in_order}
use Rattle.ebpf_object.proofs.object.Object.relocate_calls.Goals as goal

pub returns-in-Ok-clause-functions : goal.returns-in-Ok-clause-functions
returns-in-Ok-clause-functions c = are_linked (linkable_of c.args.self.now (text_sections_in c.args.text_sections.now)) (programs_in_order c.args.self.now.programs) c.in-Ok.linked c.take_places.new.functions c.in-Ok.ensures.linked c.take_places.ensures
