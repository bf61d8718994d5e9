use Rattle.std.proofs.Common.{◌≡◌, length, Some, sym, ap, ◌∙◌, refl}
use Rattle.std.specs.List.{slice_get}
use Rattle.std.proofs.lemmas.Option.{same_Some}
use Rattle.ebpf_base.proofs.Lists.{get_end}
use Rattle.ebpf_core.proofs.Searching.{has_searched}
use Rattle.ebpf_core.proofs.search.index_for.Goals as goal

pub returns-clause-names : goal.returns-clause-names
returns-clause-names c = λ index there.
    let count : c.len-n.result ≡ length c.args.indices.now.items = c.len-n.ensures ∙ sym c.deref.ensures.len ∙ ap length c.deref.ensures.value in
    let last : slice_get c.push.new.self.items c.len-n.result ≡ Some c.in_ok-index.index = rw (c.in_ok-push.ensures.items, count) (get_end c.args.indices.now.items c.in_ok-index.index) in
    rw (← same_Some _ _ (sym last ∙ there))
    (has_searched c.in_ok-index.index c.args.local.now c.args.local.now c.args.searched.ty.now c.args.searched.name.now c.searched_kinds-first.result c.searched_kinds-first.ensures refl
    c.in_ok-index.ensures.names c.requires.named)
