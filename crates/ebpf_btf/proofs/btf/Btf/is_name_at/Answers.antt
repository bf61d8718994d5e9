use Rattle.std.proofs.Common.{◌∙◌, Ok, ap}
use Rattle.ebpf_btf.specs.Strings.{is_text, text_at}
use Rattle.ebpf_btf.proofs.ReadableOffsets.{named_here, named_nowhere}
use Rattle.ebpf_btf.proofs.btf.Btf.is_name_at.Goals as goal

pub returns-then-start-readable : goal.returns-then-start-readable
returns-then-start-readable c =
    named_nowhere c.args.self.now.strings c.args.text.now c.args.offset c.readable.result c.readable.ensures c.if-start-readable.true

pub returns : goal.returns
returns c =
    ap Ok (c.is_text_at.ensures ∙ ap (λ strings. is_text c.args.text.now (text_at strings c.args.offset)) c.strings.ensures)
    ∙ named_here c.args.self.now.strings c.args.text.now c.args.offset c.readable.result c.readable.ensures c.if-start-readable.false
