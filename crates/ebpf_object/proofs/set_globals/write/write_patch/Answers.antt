use Rattle.std.proofs.Common.{◌≡◌, subst}
use Rattle.std.specs.FinMap.{insert}
use Rattle.std.specs.Option.{OnSome}
use Rattle.ebpf_object.specs.PrivateContracts.{value_of}
use Rattle.ebpf_object.proofs.Patches.{written}
use Rattle.ebpf_object.proofs.set_globals.write.write_patch.Goals as goal

pub returns : goal.returns
returns c =
    let w = c.overwrite_map.new.target in
    written c.args.maps.now (c.get_mut.follows.lender w) (value_of c.args.patch.now) c.as_str.result.now c.in-Some.target.now w
    (subst (λ r. OnSome r (c.get_mut.follows.lender w ≡ insert c.args.maps.now c.as_str.result.now w)) c.in-Some.is (c.get_mut.follows.holds w))
    c.as_str.ensures c.in-Some.ensures.value c.overwrite_map.ensures
