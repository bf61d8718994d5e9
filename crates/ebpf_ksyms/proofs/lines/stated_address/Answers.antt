use Rattle.std.proofs.Common.{◌∙◌}
use Rattle.ebpf_ksyms.proofs.Reading.{stated}
use Rattle.ebpf_ksyms.proofs.lines.stated_address.Goals as goal

pub returns : goal.returns
returns c = c.ok.ensures.value ∙ stated c.args.word.now c.from_str_radix.result c.from_str_radix.ensures.value
