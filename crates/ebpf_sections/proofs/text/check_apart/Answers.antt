use Rattle.ebpf_sections.proofs.FunctionSymbols.{no_conflict}
use Rattle.ebpf_sections.proofs.text.check_apart.Goals as goal

pub returns-then-rises : goal.returns-then-rises
returns-then-rises c = no_conflict (λ y. y.now) c.args.section_index c.args.rows.now c.args.symbols.now c.if-rises.ensures c.requires
