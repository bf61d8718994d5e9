use Rattle.std.proofs.Common.{ap, ◌∙◌}
use Rattle.std.specs.FinMap.{get}
use Rattle.std.specs.List.{flat_map}
use Rattle.ebpf_base.specs.Maps.{lent_bytes}
use Rattle.ebpf_ksyms.specs.PrivateContracts.{entry_named}
use Rattle.ebpf_ksyms.proofs.Resolving.{all_named}
use Rattle.ebpf_ksyms.proofs.named.entries_of.Goals as goal

pub returns : goal.returns
returns c =
    c.in_ok-all.ensures
    ∙ ap (λ names. flat_map (λ name. entry_named name (get c.args.externs.now name)) (lent_bytes names)) c.deref.ensures.value
    ∙ ap (flat_map (λ name. entry_named name (get c.args.externs.now name))) c.in_ok-names.ensures
    ∙ all_named c.args.externs.now
