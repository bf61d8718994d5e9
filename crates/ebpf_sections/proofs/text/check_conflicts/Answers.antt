use Rattle.std.proofs.Common.{◌≡◌, ◌<◌, rules, arith, length}
use Rattle.std.proofs.lemmas.Grind.{common_steps}
use Rattle.std.specs.Prelude.{slice_index_or}
use Rattle.ebpf_sections.specs.Texts.{is_text_at}
use Rattle.ebpf_sections.proofs.FunctionSymbols.{find_front, repeated_more}
use Rattle.ebpf_sections.proofs.text.check_conflicts.Goals.{then-is_defined_text+in_ok-insert+else-not-branch, else-is_defined_text}
use Rattle.ebpf_sections.proofs.text.check_conflicts.Goals as goal

pub loop-symbol-preserved : goal.loop-symbol-preserved
loop-symbol-preserved c =
    let ys = c.args.symbols.now in
    let i = c.loop-symbol.symbol-index in
    let y = c.symbol-item.result in
    let below : i < length ys = omega arith in
    let here : y ≡ slice_index_or ys i y = search rules in
    elim c.if-is_defined_text.branch [
      | then-is_defined_text+in_ok-insert+else-not-branch w ↦ record {
        found = λ q. grind (arith, common_steps, c.loop-symbol.invariant.found q, c.loop-symbol.invariant.found y.address, find_front (is_text_at q) ys i y below here, find_front (is_text_at y.address) ys i y below here);
        repeated = grind (arith, common_steps, c.loop-symbol.invariant.found y.address, repeated_more ys i y below here);
      }
      | else-is_defined_text w ↦ record {
        found = λ q. grind (arith, common_steps, c.loop-symbol.invariant.found q, find_front (is_text_at q) ys i y below here);
        repeated = grind (arith, common_steps, repeated_more ys i y below here);
      }
    ]
