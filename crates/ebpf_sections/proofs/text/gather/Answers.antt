use Rattle.std.proofs.Common.{◌≡◌, ◌<◌, ◌≤◌, ◌∷◌, ◌+◌, [], ◌++◌, rules, arith, length, None}
use Rattle.std.proofs.lemmas.Grind.{common_steps}
use Rattle.ebpf_sections.specs.Texts.{function_at, size_at, text_fault_at}
use Rattle.ebpf_sections.proofs.Tiles.{more, fault_here, none_left, all_kept}
use Rattle.ebpf_sections.proofs.text.gather.Goals as goal

pub loop-offset-preserved : goal.loop-offset-preserved
loop-offset-preserved c =
    let infos = c.args.records.now in
    let s = c.args.section.now in
    let ys = c.args.symbols.now.symbols.now in
    let o = c.loop-offset.offset in
    let e = c.in_ok-function.end in
    let f = c.in_ok-function.function in
    let within : o < length s.bytes = search rules in
    let here : function_at infos s ys o ≡ f ∷ [] = search rules in
    let next : e ≡ o + size_at s ys o = search rules in
    let sound : text_fault_at s ys o ≡ None = search rules in
    let further : o < e = search rules in
    let ends : e ≤ length s.bytes = search rules in
    let pushed : c.push.new.self.items ≡ c.loop-offset.entries.items ++ ((f.section_index.0, f.address), f) ∷ [] = search rules in
    more infos s ys _ _ o e f pushed within here next sound further ends c.loop-offset.invariant

pub returns-in_err-function-clause-fault : goal.returns-in_err-function-clause-fault
returns-in_err-function-clause-fault c =
    let s = c.args.section.now in
    let within : c.loop-offset.offset < length s.bytes = search rules in
    let here = fault_here c.args.records.now s c.args.symbols.now.symbols.now _ c.loop-offset.offset within c.loop-offset.invariant in
    grind (arith, common_steps, here.1)

pub returns-clause-all : goal.returns-clause-all
returns-clause-all c =
    let past : length c.args.section.now.bytes ≤ c.loop-offset.offset = search rules in
    all_kept c.args.records.now c.args.section.now c.args.symbols.now.symbols.now _ c.loop-offset.offset past c.loop-offset.invariant

pub returns-clause-fault : goal.returns-clause-fault
returns-clause-fault c =
    let past : length c.args.section.now.bytes ≤ c.loop-offset.offset = search rules in
    none_left c.args.records.now c.args.section.now c.args.symbols.now.symbols.now _ c.loop-offset.offset past c.loop-offset.invariant
