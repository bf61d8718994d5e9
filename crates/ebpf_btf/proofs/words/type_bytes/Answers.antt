use Rattle.std.proofs.Common.{◌≡◌, ◌∙◌}
use Rattle.ebpf_btf.specs.Words.{words_of}
use Rattle.ebpf_btf.proofs.Written.{written_type}
use Rattle.ebpf_btf.proofs.words.type_bytes.Goals as goal

pub returns : goal.returns
returns c =
    let words = c.in_ok-words.words.items in
    let same : c.deref.result.now ≡ words_of c.args.ty.now = c.deref.ensures.value ∙ c.in_ok-words.ensures in
    written_type c.args.order c.args.ty.now c.deref.result.now c.in_ok-bytes.bytes.items c.requires.few c.requires.some c.bytes_of.ensures.fits same c.in_ok-bytes.ensures.bytes
