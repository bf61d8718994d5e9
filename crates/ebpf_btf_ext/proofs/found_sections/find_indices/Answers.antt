use Rattle.std.proofs.Common.{◌≡◌, ◌+◌, Some, drop, refl, subst}
use Rattle.std.specs.Prelude.{slice_get}
use Rattle.std.proofs.lemmas.Option.{slice_get_read}
use Rattle.ebpf_btf_ext.proofs.LastIndices.{AreLeft, all_left, none_left, one_less}
use Rattle.ebpf_base.proofs.Lists.{rest_more, rest_none}
use Rattle.ebpf_btf_ext.proofs.found_sections.find_indices.Goals as goal

pub loop-index-init : goal.loop-index-init
loop-index-init g c = all_left c.args.strings.now c.args.sections.now c.in_ok-indices.longest c.in_ok-indices.indices c.in_ok-indices.ensures

pub loop-index-preserved : goal.loop-index-preserved
loop-index-preserved g c =
    let sections = c.args.sections.now in
    let s = c.index-sections-index.result in
    let left = subst (AreLeft c.args.strings.now sections c.in_ok-indices.longest c.loop-index.indices) (rest_more sections c.loop-index.index s c.loop-index-test.true c.index-sections-index.is) c.loop-index.invariant in
    let here : slice_get sections c.loop-index.index ≡ Some s = slice_get_read sections _ c.loop-index.index s refl c.loop-index-test.true c.index-sections-index.is in
    one_less c.args.strings.now sections c.in_ok-indices.longest c.loop-index.indices c.look_at.new.indices c.loop-index.index s (drop (c.loop-index.index + 1) sections) left c.in_ok-look_at.ensures here

pub returns : goal.returns
returns g c =
    let sections = c.args.sections.now in
    none_left c.args.strings.now sections c.in_ok-indices.longest c.loop-index.indices
    (subst (AreLeft c.args.strings.now sections c.in_ok-indices.longest c.loop-index.indices) (rest_none sections c.loop-index.index c.loop-index-test.false) c.loop-index.invariant)
