use Rattle.std.proofs.Common.{◌≡◌, [], ◌++◌, sym, ap, ◌∙◌}
use Rattle.std.specs.FinMap.{entries}
use Rattle.std.specs.List.{flat_map}
use Rattle.std.specs.Option.{option_to_list}
use Rattle.ebpf_base.specs.Maps.{by_bytes}
use Rattle.ebpf_base.proofs.TextMaps.{entries-text}
use Rattle.cli_common.specs.FunctionMaps.{map_use}
use Rattle.cli_common.proofs.map_uses.uses_at.Goals as goal

pub loop-name-init : goal.loop-name-init
loop-name-init c =
    let given = c.into_iter-name-iterator.ensures.into_iter_gives in
    let all : by_bytes c.into_iter-name-iterator.result ≡ entries c.args.slots =
    ap by_bytes given.0 ∙ sym (entries-text c.into_map-name-items.result.entries given.5) ∙ ap entries c.into_map-name-items.ensures in
    let start : c.new-uses.result ≡ [] = c.new-uses.ensures in
    λ i. start i ++ flat_map (λ e. option_to_list (map_use c.args.object.now e.0 e.1)) (all i)
