use Rattle.std.proofs.Common.{◌++◌, sym, ap, ◌∙◌}
use Rattle.std.specs.Str.{bytes_eq}
use Rattle.std.specs.Str.Lossy.{replacement_bytes, utf8_lossy}
use Rattle.ebpf_btf.specs.EssentialNames.{essential_name}
use Rattle.ebpf_btf.proofs.Essentials.{essential_front, essential_past}
use Rattle.ebpf_btf.proofs.lossy.reads_essentially_as.Goals as goal

pub returns-then-has_flavor : goal.returns-then-has_flavor
returns-then-has_flavor c =
    let front = c.split_wrong.result.0.now in
    let read = rw c.in-Some.is at c.split_wrong.ensures.wrong in
    let decides = essential_front front (replacement_bytes ++ utf8_lossy c.in-Some.rest.now) (sym c.has_flavor.ensures ∙ c.if-has_flavor.true) in
    c.eq-then-has_flavor.ensures
    ∙ ap (λ name. bytes_eq name c.loop-rest.wanted.now) (c.essential_name-then-has_flavor.ensures ∙ sym decides ∙ ap essential_name (sym read))
    ∙ c.loop-rest.invariant

pub returns-in_default-after_wrong : goal.returns-in_default-after_wrong
returns-in_default-after_wrong c =
    let front = c.split_wrong.result.0.now in
    let rest = utf8_lossy c.in-Some.rest.now in
    let read = rw c.in-Some.is at c.split_wrong.ensures.wrong in
    let past = essential_past front rest (sym c.has_flavor.ensures ∙ c.if-has_flavor.false) in
    let other = rw c.in_default-after_wrong.is at (c.after_wrong.ensures (essential_name rest)) in
    sym other ∙ ap (λ name. bytes_eq name c.loop-rest.wanted.now) (sym past ∙ ap essential_name (sym read)) ∙ c.loop-rest.invariant

pub loop-rest-preserved : goal.loop-rest-preserved
loop-rest-preserved c =
    let front = c.split_wrong.result.0.now in
    let rest = utf8_lossy c.in-Some.rest.now in
    let read = rw c.in-Some.is at c.split_wrong.ensures.wrong in
    let past = essential_past front rest (sym c.has_flavor.ensures ∙ c.if-has_flavor.false) in
    let same = rw c.in-Some-after_wrong.is at (c.after_wrong.ensures (essential_name rest)) in
    sym same ∙ ap (λ name. bytes_eq name c.loop-rest.wanted.now) (sym past ∙ ap essential_name (sym read)) ∙ c.loop-rest.invariant
