use Rattle.std.proofs.Common.{◌≡◌, map, subst}
use Rattle.std.specs.FinMap.{empty}
use Rattle.std.specs.Prelude.{IfOk}
use Rattle.ebpf_base.specs.Maps.{put_all}
use Rattle.ebpf_model.specs.Symbols.{text_sections_in}
use Rattle.ebpf_object.specs.LinkedPrograms.{linkable_of}
use Rattle.ebpf_object.specs.Names.{has_function_in}
use Rattle.ebpf_object.specs.Stages.{descriptor_of}
use Rattle.ebpf_reloc.specs.NamedSlots as slots
use Rattle.ebpf_object.proofs.object.Object.maps_without_descriptors.Goals as goal

pub returns : goal.returns
returns c =
    let o = c.args.self.now in
    let named = put_all empty (map descriptor_of c.args.descriptors.now) in
    subst (λ sections. IfOk c.maps_without_descriptors.result (λ found. found ≡ slots.maps_without_descriptors (linkable_of o sections) o.maps named)) c.in_ok-sections.ensures
    (subst (λ names. IfOk c.maps_without_descriptors.result (λ found. found ≡ slots.maps_without_descriptors (linkable_of o (text_sections_in c.in_ok-sections.sections)) o.maps names)) c.in_ok-named.ensures c.maps_without_descriptors.ensures)
