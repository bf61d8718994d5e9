use Rattle.cli_common.proofs.programs.with_section.Goals as goal

pub returns : goal.returns
returns c = λ i. (c.in_ok-name.ensures i, c.function_key-key.ensures i)
