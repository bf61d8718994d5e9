use Rattle.std.proofs.Common.{◌≡◌, length, rules, List}
use Rattle.std.specs.Prelude.{None, Some}
use Rattle.std.specs.Vec.Iter.{into_iter_len}
use Rattle.ebpf_object.specs.WrittenSlots.{with_maps, maps_fault}
use Rattle.ebpf_reloc.specs.Maps.{GivenMap}
use Rattle.ebpf_reloc.specs.Relocated.{out_of_memory}
use Rattle.ebpf_model.specs.Memory.{is_memory_at}
use Rattle.ebpf_model.specs.Symbols.{text_sections_in}
use Rattle.ebpf_object.proofs.Values.{first_ok, given_ok, given_err, second_ok}
use Rattle.ebpf_object.proofs.own_maps.relocate_listed.Goals as goal

pub returns-clause-ok : goal.returns-clause-ok
returns-clause-ok c =
    let len : into_iter_len c.into_iter.result ≡ length c.args.maps.items = search rules in
    first_ok _ _ c.relocate_maps.result (given_ok c.into_iter.result c.args.maps.items c.into_iter.ensures.rest len c.relocate_maps.result
    (λ (given : List GivenMap). (c.relocate_maps.new.self ≡ with_maps c.args.object.now (text_sections_in c.args.text_sections.now) given) × (maps_fault c.args.object.now (text_sections_in c.args.text_sections.now) given ≡ None)) c.relocate_maps.ensures.ok)

pub returns-clause-sound : goal.returns-clause-sound
returns-clause-sound c =
    let len : into_iter_len c.into_iter.result ≡ length c.args.maps.items = search rules in
    second_ok _ _ c.relocate_maps.result (given_ok c.into_iter.result c.args.maps.items c.into_iter.ensures.rest len c.relocate_maps.result
    (λ (given : List GivenMap). (c.relocate_maps.new.self ≡ with_maps c.args.object.now (text_sections_in c.args.text_sections.now) given) × (maps_fault c.args.object.now (text_sections_in c.args.text_sections.now) given ≡ None)) c.relocate_maps.ensures.ok)

pub returns-clause-fault : goal.returns-clause-fault
returns-clause-fault c =
    let len : into_iter_len c.into_iter.result ≡ length c.args.maps.items = search rules in
    given_err c.into_iter.result c.args.maps.items c.into_iter.ensures.rest len c.relocate_maps.result is_memory_at (λ e. e ≡ out_of_memory)
    (λ e (given : List GivenMap). maps_fault c.args.object.now (text_sections_in c.args.text_sections.now) given ≡ Some e) c.relocate_maps.ensures.fault
