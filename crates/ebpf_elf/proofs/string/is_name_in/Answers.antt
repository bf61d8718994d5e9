use Rattle.std.proofs.Common.{◌∙◌}
use Rattle.ebpf_elf.proofs.Names.{same_in_front}
use Rattle.ebpf_elf.proofs.string.is_name_in.Goals as goal

pub returns : goal.returns
returns c = c.reads_as-2.ensures ∙ same_in_front c.args.names.now c.args.text.now c.args.index
