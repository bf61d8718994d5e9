use Rattle.std.proofs.Common.{map, filter, ap, ◌∙◌}
use Rattle.ebpf_sections.specs.Texts.{is_at}
use Rattle.ebpf_sections.proofs.FunctionSymbols.{first_at, texts_at}
use Rattle.ebpf_sections.proofs.text.FunctionSymbols.new.Goals as goal

pub check_apart-requires : goal.check_apart-requires
check_apart-requires c = λ q.
    ap (λ l. filter (is_at q) (map (λ y. y.now) l)) c.as_slice.ensures.value
    ∙ texts_at (λ y. y.now) _ _ c.args.symbols.now q c.in_ok-defined_symbols.ensures.rows (c.in_ok-rows.ensures.grouped q)

pub invariant_of-result : goal.invariant_of-result
invariant_of-result c = record {
  rising = c.in_ok-rows.ensures.rising;
  by_address = λ q. first_at (λ y. y.now) _ c.args.symbols.now q (texts_at (λ y. y.now) _ _ c.args.symbols.now q c.in_ok-defined_symbols.ensures.rows (c.in_ok-rows.ensures.grouped q));
}
