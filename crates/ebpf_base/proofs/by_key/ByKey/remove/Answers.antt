use Rattle.std.proofs.Common.{sym, ◌∙◌, ap}
use Rattle.std.specs.FinMap.{get, remove}
use Rattle.ebpf_base.specs.Maps.{key_total}
use Rattle.ebpf_base.proofs.Maps.{key_exact, get-view, one_removed}
use Rattle.ebpf_base.proofs.by_key.ByKey.remove.Goals as goal

pub returns-clause-value : goal.returns-clause-value
returns-clause-value g c = c.remove.ensures.value ∙ sym (get-view key_total _ c.args.key) ∙ ap (λ m. get m c.args.key) c.self.view_is

pub returns-clause-others : goal.returns-clause-others
returns-clause-others g c = one_removed key_total key_exact _ _ c.args.key c.remove.ensures.updates.0 ∙ ap (λ m. remove m c.args.key) c.self.view_is
