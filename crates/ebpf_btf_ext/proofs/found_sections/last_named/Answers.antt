use Rattle.std.proofs.Common.{◌≡◌, ◌+◌, ◌∙◌, true, false, drop, sym, ap, Some}
use Rattle.std.specs.Prelude.{if◌then◌else◌}
use Rattle.std.specs.Option.{option_copied}
use Rattle.ebpf_base.specs.Maps.{last_at, text_cmp}
use Rattle.ebpf_btf.specs.Strings.{is_text, text_at}
use Rattle.ebpf_btf_ext.specs.SectionNames.{sections_with_names}
use Rattle.ebpf_btf_ext.proofs.SectionNames.{from_all, last_done, last_more}
use Rattle.ebpf_btf_ext.proofs.found_sections.last_named.Goals as goal

pub loop-offset-init : goal.loop-offset-init
loop-offset-init g c = from_all c.args.strings.now c.args.name.now c.args.sections.now

pub loop-offset-preserved-then-not-is_text_at : goal.loop-offset-preserved-then-not-is_text_at
loop-offset-preserved-then-not-is_text_at g c =
    let s = c.loop-offset-item.result in
    let last = option_copied c.loop-offset.last in
    let other : is_text c.args.name.now (text_at c.args.strings.now s.0) ≡ false = sym c.is_text_at.ensures ∙ c.if-not-is_text_at.true in
    ap (λ b. last_at text_cmp c.args.name.now (if b then Some s.1 else last) (sections_with_names c.args.strings.now (drop (c.loop-offset.offset-index + 1) c.args.sections.now))) (sym other)
    ∙ sym (last_more c.args.strings.now c.args.name.now last c.args.sections.now c.loop-offset.offset-index s c.loop-offset-test.true c.loop-offset-item.is)
    ∙ c.loop-offset.invariant

pub loop-offset-preserved : goal.loop-offset-preserved
loop-offset-preserved g c =
    let s = c.loop-offset-item.result in
    let last = option_copied c.loop-offset.last in
    let here : is_text c.args.name.now (text_at c.args.strings.now s.0) ≡ true = sym c.is_text_at.ensures ∙ c.if-not-is_text_at.false in
    ap (λ b. last_at text_cmp c.args.name.now (if b then Some s.1 else last) (sections_with_names c.args.strings.now (drop (c.loop-offset.offset-index + 1) c.args.sections.now))) (sym here)
    ∙ sym (last_more c.args.strings.now c.args.name.now last c.args.sections.now c.loop-offset.offset-index s c.loop-offset-test.true c.loop-offset-item.is)
    ∙ c.loop-offset.invariant

pub returns : goal.returns
returns g c =
    let last = option_copied c.loop-offset.last in
    sym (last_done c.args.strings.now c.args.name.now last c.args.sections.now c.loop-offset.offset-index c.loop-offset-test.false)
    ∙ c.loop-offset.invariant
