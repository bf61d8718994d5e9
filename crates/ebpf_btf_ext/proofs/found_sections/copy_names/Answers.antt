use Rattle.std.proofs.Common.{◌++◌, ◌+◌, take, List, ℕ, subst, sym}
use Rattle.ebpf_btf_ext.specs.SectionNames.{AreCopied, IsCopied}
use Rattle.ebpf_btf_ext.proofs.SectionNames.{one_more_copied}
use Rattle.ebpf_btf_ext.proofs.found_sections.copy_names.Goals as goal

pub loop-offset-preserved : goal.loop-offset-preserved
loop-offset-preserved g c =
    let strings = c.args.strings.now in
    let sections = c.args.sections.now in
    let names = c.loop-offset.names in
    let i = c.loop-offset.offset-index in
    let s = c.loop-offset-item.result in
    let offsets = c.loop-offset.offsets.items in
    let copied : IsCopied strings (names ++ c.in-Some.name.now) s.0 c.in-Some.copied =
    subst (λ l. IsCopied strings (l ++ c.in-Some.name.now) s.0 c.in-Some.copied) c.as_slice.ensures c.in-Some.ensures in
    let more = one_more_copied strings names c.in-Some.name.now c.extend_from_slice.new.self sections i s offsets c.in-Some.copied c.loop-offset.invariant c.loop-offset-test.true c.loop-offset-item.is c.in_ok-extend_from_slice.ensures.ok copied in
    subst (λ l. AreCopied strings c.extend_from_slice.new.self (take (i + 1) sections) l) (sym {A = List ℕ} c.in_ok-push.ensures.items) more
