use Rattle.std.proofs.Common.{rules, sym, ap, ◌∙◌}
use Rattle.std.specs.Prelude.{option_map}
use Rattle.ebpf_base.proofs.Lists.{find-map}
use Rattle.ebpf_sections.specs.Texts.{is_at}
use Rattle.ebpf_sections.proofs.text.FunctionSymbols.at.Goals as goal

pub returns : goal.returns
returns c =
    ap (option_map (λ y. y.now)) c.row_at.ensures
    ∙ sym (find-map (is_at c.args.address) (λ y. y.now) _)
    ∙ search rules
