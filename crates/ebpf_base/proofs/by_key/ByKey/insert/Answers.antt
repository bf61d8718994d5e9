use Rattle.std.proofs.Common.{sym, ◌∙◌, ap}
use Rattle.std.specs.FinMap.{get, insert}
use Rattle.ebpf_base.specs.Maps.{key_total}
use Rattle.ebpf_base.proofs.Maps.{key_exact, get-view, one_set}
use Rattle.ebpf_base.proofs.by_key.ByKey.insert.Goals as goal

pub returns-clause-before : goal.returns-clause-before
returns-clause-before g c = c.in_ok-insert.ensures.old ∙ sym (get-view key_total _ c.args.key) ∙ ap (λ m. get m c.args.key) c.self.view_is

pub returns-clause-ok : goal.returns-clause-ok
returns-clause-ok g c = one_set key_total key_exact _ _ c.args.key c.args.value c.in_ok-insert.ensures.updates.0 ∙ ap (λ m. insert m c.args.key c.args.value) c.self.view_is
