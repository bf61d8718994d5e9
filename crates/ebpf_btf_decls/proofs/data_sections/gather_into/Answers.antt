use Rattle.std.proofs.Common.{◌≡◌, ◌+◌, ◌<◌, ◌≤◌, ◌∷◌, ◌∙◌, Some, drop, length, refl, sym, subst, ap, arith}
use Rattle.ebpf_btf.specs.declared.error.BtfError.TheVariants.{InvalidStringOffset}
use Rattle.ebpf_btf_decls.specs.SectionMaps.{IsScanned, datasec_name_fault}
use Rattle.ebpf_btf_decls.proofs.SectionMaps.{AreGathered, all_left, none_left, one_less, stopped}
use Rattle.ebpf_btf_decls.proofs.data_sections.gather_into.Goals as goal
use Rattle.ebpf_base.proofs.Lists.{rest_more, rest_none}

pub loop-id-init : goal.loop-id-init
loop-id-init c = all_left c.args.btf.now c.args.longest c.args.by_name c.requires

pub returns-then-not-branch-clause-found : goal.returns-then-not-branch-clause-found
returns-then-not-branch-clause-found c =
    let info = c.args.btf.now in
    let below : c.loop-id.id < length info.types = omega (arith, c.loop-id-test.true, c.len-id-end.ensures.all) in
    let left : AreGathered info c.args.by_name c.args.longest c.loop-id.by_name (c.at-ty.result ∷ drop (c.loop-id.id + 1) info.types) =
    subst (AreGathered info c.args.by_name c.args.longest c.loop-id.by_name) (rest_more info.types c.loop-id.id c.at-ty.result below c.at-ty.ensures.item) c.loop-id.invariant in
    let looked = subst (IsScanned info c.at-ty.result c.loop-id.by_name c.scan_type.new.by_name) c.if-not-branch.true c.in_ok-scan_type.ensures.looked in
    let fault : datasec_name_fault info c.at-ty.result ≡ Some (InvalidStringOffset c.name_offset.result) = looked.1 ∙ ap (λ n. Some (InvalidStringOffset n)) (sym c.name_offset.ensures) in
    stopped info c.at-ty.result c.args.by_name c.args.longest c.loop-id.by_name _ left c.name_offset.result c.scan_type.new.by_name _ looked.0 fault refl

pub loop-id-preserved : goal.loop-id-preserved
loop-id-preserved c =
    let info = c.args.btf.now in
    let below : c.loop-id.id < length info.types = omega (arith, c.loop-id-test.true, c.len-id-end.ensures.all) in
    let left : AreGathered info c.args.by_name c.args.longest c.loop-id.by_name (c.at-ty.result ∷ drop (c.loop-id.id + 1) info.types) =
    subst (AreGathered info c.args.by_name c.args.longest c.loop-id.by_name) (rest_more info.types c.loop-id.id c.at-ty.result below c.at-ty.ensures.item) c.loop-id.invariant in
    let looked = subst (IsScanned info c.at-ty.result c.loop-id.by_name c.scan_type.new.by_name) c.if-not-branch.false c.in_ok-scan_type.ensures.looked in
    one_less info c.at-ty.result c.args.by_name c.args.longest c.loop-id.by_name _ left c.scan_type.new.by_name looked.0 looked.1

pub returns-clause-found : goal.returns-clause-found
returns-clause-found c =
    let info = c.args.btf.now in
    let past : length info.types ≤ c.loop-id.id = omega (arith, c.loop-id-test.false, c.len-id-end.ensures.all) in
    none_left info c.args.by_name c.args.longest _
    (subst (AreGathered info c.args.by_name c.args.longest c.loop-id.by_name) (rest_none info.types c.loop-id.id past) c.loop-id.invariant) refl
