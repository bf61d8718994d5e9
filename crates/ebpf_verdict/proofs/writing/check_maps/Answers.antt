use Rattle.std.proofs.Common.{◌≡◌, map, Some, None, true, subst}
use Rattle.ebpf_object.specs.Stages.{descriptor_of, given_fault}
use Rattle.ebpf_verdict.specs.Writing.{own_descriptors}
use Rattle.ebpf_verdict.proofs.writing.check_maps.Goals as goal

pub returns : goal.returns
returns c =
    let o = c.args.object.now in
    let named : map descriptor_of c.as_slice-2.result.now ≡ own_descriptors o = cc (c.as_slice-2.ensures.value, c.in_ok-descriptors.ensures, c.as_slice.ensures, c.in_ok-names.ensures) in
    subst (λ ds. given_fault (Some ds) true o ≡ None) named c.in_ok-check_descriptors.ensures.sound
