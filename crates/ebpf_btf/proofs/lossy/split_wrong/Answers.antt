use Rattle.std.proofs.Common.{length, drop, sym, ap, ◌∙◌, arith}
use Rattle.std.specs.Prelude.{unwrap_or}
use Rattle.std.specs.Str.Lossy.{utf8_error_len}
use Rattle.ebpf_btf.proofs.LossyTexts.{lossy_split}
use Rattle.ebpf_btf.proofs.lossy.split_wrong.Goals as goal

pub returns-in-Err-clause-wrong : goal.returns-in-Err-clause-wrong
returns-in-Err-clause-wrong c =
    let bytes = c.args.bytes.now in
    let back = c.split_at.result.1.now in
    let short = c.in-Err.ensures.cases.1.short in
    let same = c.valid_up_to.ensures in
    let fault = c.error_len.ensures ∙ c.in-Err.ensures.fault ∙ ap (λ k. utf8_error_len (drop k bytes)) (sym same) in
    lossy_split bytes c.split_at.result.0.now back c.valid_up_to.result c.unwrap_or-len.result
    c.split_at.ensures.front c.split_at.ensures.back (same ∙ c.in-Err.ensures.valid_len) (omega arith)
    (c.unwrap_or-len.ensures ∙ ap (λ o. unwrap_or o (length back)) fault)
