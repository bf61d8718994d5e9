use Rattle.std.proofs.Common.{rules, ◌≡◌, ◌≤◌, None, length, ap, arith}
use Rattle.std.specs.Prelude.{string_bytes}
use Rattle.std.specs.FinMap.{insert}
use Rattle.ebpf_btf_ext.proofs.LastIndices.{none_unset, unset_more}
use Rattle.ebpf_btf_ext.proofs.found_sections.unset_indices.Goals as goal

pub loop-name-init : goal.loop-name-init
loop-name-init c = none_unset 0 c.new-indices.result c.new-indices.ensures

pub loop-name-preserved : goal.loop-name-preserved
loop-name-preserved c =
    let name = string_bytes c.in_ok-from_str.field-0 in
    let put : c.insert.new.self ≡ insert c.loop-name.indices name None = search rules in
    let up : c.loop-name.longest ≤ c.max-longest.result = omega (arith, c.max-longest.ensures) in
    let within : length name ≤ c.max-longest.result = omega (arith, c.max-longest.ensures, ap length c.in_ok-from_str.ensures.ok) in
    unset_more c.loop-name.longest c.max-longest.result c.loop-name.indices c.insert.new.self name c.loop-name.invariant up within put
