use Rattle.std.proofs.Common.{sym}
use Rattle.std.proofs.lemmas.Iterator.Adapters.{position_from-zero}
use Rattle.ebpf_btf_decls.specs.Externs.{is_word}
use Rattle.ebpf_btf_decls.proofs.externs.word_id.Goals as goal

pub loop-id-init : goal.loop-id-init
loop-id-init c = sym (position_from-zero is_word c.args.btf.now.types)
