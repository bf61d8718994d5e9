use Rattle.std.proofs.Common.{◌≡◌, ℕ, List, ap, sym, subst, ◌∙◌}
use Rattle.std.specs.Prelude.{IfOk}
use Rattle.std.specs.Option.{option_copied}
use Rattle.ebpf_base.specs.Maps.{lent_bytes}
use Rattle.ebpf_ksyms.specs.PrivateContracts.{ids_in, only_at, value_named, KnowsIds}
use Rattle.ebpf_ksyms.proofs.externs.ids_of.Goals as goal

pub returns-clause-known : goal.returns-clause-known
returns-clause-known c =
    subst (λ k. IfOk c.ids_in.result (λ ids. KnowsIds c.args.local.now (option_copied k) c.args.all.now (value_named ids))) (sym c.in-Some.is)
    (subst (λ names. IfOk c.ids_in.result (λ ids. (q : List ℕ) → value_named ids q ≡ only_at names (ids_in c.in-Some.types.now) q)) (ap lent_bytes c.deref.ensures.value ∙ c.in_ok-names.ensures) c.ids_in.ensures.ok)
