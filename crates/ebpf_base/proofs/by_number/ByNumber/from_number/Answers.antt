use Rattle.std.proofs.Common.{◌∙◌, ap}
use Rattle.std.specs.FinMap.{entries}
use Rattle.ebpf_base.specs.Maps.{entries_from}
use Rattle.ebpf_base.proofs.Maps.{from-view}
use Rattle.ebpf_base.proofs.by_number.ByNumber.from_number.Goals as goal

pub returns-clause-part : goal.returns-clause-part
returns-clause-part g c =
    c.range.ensures.between tt
    ∙ from-view c.args.from _ c.range.ensures.ordered
    ∙ ap (λ m. entries_from c.args.from (entries m)) c.self.view_is
