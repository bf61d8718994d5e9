use Rattle.std.proofs.Common.{◌≡◌, [], ◌++◌, map, sym, ap, ◌∙◌}
use Rattle.std.specs.FinMap.{entries}
use Rattle.std.specs.Map.{keys_of}
use Rattle.std.specs.String.{string_bytes}
use Rattle.ebpf_base.specs.Maps.{lent_bytes}
use Rattle.ebpf_base.proofs.TextMaps.{keys-by_bytes, entries-text}
use Rattle.ebpf_base.proofs.by_name.ByName.names.Goals as goal

pub loop-name-init : goal.loop-name-init
loop-name-init g c =
    let start : lent_bytes c.in_ok-names.names.items ≡ [] = ap lent_bytes c.in_ok-names.ensures.items in
    let rest : map string_bytes c.into_iter-name-iterator.result ≡ keys_of (entries c.args.self.now) =
    ap (map string_bytes) (c.into_iter-name-iterator.ensures.into_iter_gives ∙ c.keys-name-items.ensures.rest)
    ∙ keys-by_bytes _
    ∙ ap keys_of (sym (entries-text c.self.inside.entries.entries c.keys-name-items.ensures.ordered))
    ∙ ap (λ m. keys_of (entries m)) c.self.view_is in
    λ i. start i ++ rest i
