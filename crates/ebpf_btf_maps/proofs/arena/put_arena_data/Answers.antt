use Rattle.std.proofs.Common.{◌≡◌, ap, ◌∙◌, subst, sym, Some}
use Rattle.std.specs.FinMap.{insert, get}
use Rattle.std.specs.Option.{OnSome, option_copied_mut, option_map_or}
use Rattle.ebpf_btf_maps.specs.Arenas.{with_arena_data, with_data}
use Rattle.ebpf_btf_maps.proofs.arena.put_arena_data.Goals as goal

pub returns-in-Some-get_mut : goal.returns-in-Some-get_mut
returns-in-Some-get_mut c =
    let m = c.args.maps.now in
    let d = c.in-Some.given in
    let w = c.put_data.new.map in
    let before = c.in-Some-get_mut.map.now in
    let found : get m d.name ≡ Some before = ap (get m) (sym c.as_str.ensures) ∙ sym c.get_mut.ensures.value ∙ ap option_copied_mut c.in-Some-get_mut.is in
    let written : w ≡ with_data before d.section d.bytes = c.put_data.ensures in
    subst (λ r. OnSome r (c.get_mut.follows.lender w ≡ insert m c.as_str.result.now w)) c.in-Some-get_mut.is (c.get_mut.follows.holds w)
    ∙ ap (λ k. insert m k w) c.as_str.ensures
    ∙ ap (insert m d.name) written
    ∙ sym (ap (λ o. option_map_or (λ x. insert m d.name (with_data x d.section d.bytes)) o m) found)
    ∙ sym (ap (with_arena_data m) c.in-Some.is)
