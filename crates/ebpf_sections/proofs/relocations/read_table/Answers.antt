use Rattle.std.proofs.Common.{sym, subst}
use Rattle.ebpf_sections.specs.Relocations.{EntryRangesAreCached}
use Rattle.ebpf_sections.proofs.RelocationTables.{cached_more}
use Rattle.ebpf_sections.proofs.relocations.read_table.Goals as goal

pub returns-clause-cached : goal.returns-clause-cached
returns-clause-cached c =
    subst (EntryRangesAreCached c.args.section.file) (sym c.in_ok-insert.ensures.ok) (cached_more c.args.section c.args.cached.now c.lacks_symbol-lacks.result c.requires c.lacks_symbol-lacks.ensures)
