use Rattle.std.proofs.Common.{rules, ◌≡◌, ◌≤◌, [], length, ap, arith}
use Rattle.std.specs.Prelude.{string_bytes}
use Rattle.std.specs.FinMap.{insert}
use Rattle.ebpf_btf_decls.proofs.SectionMaps.{none_wanted, wanted_more}
use Rattle.ebpf_btf_decls.proofs.data_sections.wanted_names.Goals as goal

pub loop-name-init : goal.loop-name-init
loop-name-init c = none_wanted 0 c.new-by_name.result c.new-by_name.ensures

pub loop-name-preserved : goal.loop-name-preserved
loop-name-preserved c =
    let name = string_bytes c.in_ok-from_str.field-0 in
    let put : c.insert.new.self ≡ insert c.loop-name.by_name name [] = search rules in
    let up : c.loop-name.longest ≤ c.max-longest.result = omega (arith, c.max-longest.ensures) in
    let within : length name ≤ c.max-longest.result = omega (arith, c.max-longest.ensures, ap length c.in_ok-from_str.ensures.ok) in
    wanted_more c.loop-name.longest c.max-longest.result c.loop-name.by_name c.insert.new.self name c.loop-name.invariant up within put
