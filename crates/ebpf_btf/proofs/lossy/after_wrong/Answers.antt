use Rattle.std.proofs.Common.{◌++◌, Some, None, ◌∙◌}
use Rattle.std.specs.Str.Lossy.{replacement_bytes}
use Rattle.ebpf_btf.proofs.LossyTexts.{stripped}
use Rattle.ebpf_btf.proofs.lossy.after_wrong.Goals as goal

pub returns-in-Some : goal.returns-in-Some
returns-in-Some c = λ rest.
    stripped c.args.name.now c.args.text.now (Some c.in-Some.left) c.in-Some.ensures.cases (replacement_bytes ++ rest)
    ∙ stripped c.in-Some.left.now replacement_bytes c.strip_prefix-in-Some.result c.strip_prefix-in-Some.ensures.cases rest

pub returns-in-None : goal.returns-in-None
returns-in-None c = λ rest. stripped c.args.name.now c.args.text.now None c.in-None.ensures.cases (replacement_bytes ++ rest)
