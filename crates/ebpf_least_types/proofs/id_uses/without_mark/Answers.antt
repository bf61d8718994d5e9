use Rattle.std.proofs.Common.{arith, None}
use Rattle.std.proofs.lemmas.Str.Pattern.{strip_prefix_char}
use Rattle.ebpf_parts.proofs.NamesRead.{unmarked_plain}
use Rattle.ebpf_least_types.proofs.id_uses.without_mark.Goals as goal

pub returns-in-None : goal.returns-in-None
returns-in-None c = unmarked_plain c.args.section.now (strip_prefix_char 63 c.args.section.now None c.in-None.ensures.cases (omega arith))
