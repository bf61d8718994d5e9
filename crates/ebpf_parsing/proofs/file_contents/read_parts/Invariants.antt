use Rattle.ebpf_parsing.proofs.file_contents.read_parts.Given as goal

abbrev pub ghost-read_tables : goal.ghost-read_tables
ghost-read_tables a = a.head.metadata.mode
