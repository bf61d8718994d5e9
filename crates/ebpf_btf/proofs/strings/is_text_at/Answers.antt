use Rattle.std.proofs.Common.{refl}
use Rattle.ebpf_btf.proofs.NearTexts.{found_near, missing_near}
use Rattle.ebpf_btf.proofs.strings.is_text_at.Goals as goal

pub returns-in-Some : goal.returns-in-Some
returns-in-Some c =
    rw (c.reads_as.ensures, c.as_bytes.ensures.value)
    (found_near c.args.strings.now c.args.text.now c.first_bytes.result.now c.in-Some.bytes.now c.args.offset _ c.first_bytes.ensures refl c.in-Some.ensures)

pub returns-in-None : goal.returns-in-None
returns-in-None c =
    missing_near c.args.strings.now c.args.text.now c.first_bytes.result.now c.args.offset _ c.first_bytes.ensures refl c.in-None.ensures
