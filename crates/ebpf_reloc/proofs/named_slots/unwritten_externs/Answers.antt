use Rattle.std.proofs.Common.{sym, ◌∙◌}
use Rattle.ebpf_reloc.proofs.NoNames.{none_unwritten}
use Rattle.ebpf_reloc.proofs.named_slots.unwritten_externs.Goals as goal

pub returns-then-refers_to_no_extern : goal.returns-then-refers_to_no_extern
returns-then-refers_to_no_extern c =
    c.new.ensures
    ∙ none_unwritten c.args.symbols.now c.as_map.result.now.entries c.args.relocations.now c.args.functions.now c.as_map.ensures (sym c.refers_to_no_extern.ensures ∙ c.if-refers_to_no_extern.true)
