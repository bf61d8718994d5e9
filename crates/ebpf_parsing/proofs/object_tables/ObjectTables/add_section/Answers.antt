use Rattle.ebpf_sections.proofs.RelocationTables.{of_one_file}
use Rattle.ebpf_parsing.proofs.object_tables.ObjectTables.add_section.Goals as goal

pub put_relocations-requires : goal.put_relocations-requires
put_relocations-requires c = of_one_file c.args.section.now.file c.args.section.now.index c.args.tables.now c.requires
