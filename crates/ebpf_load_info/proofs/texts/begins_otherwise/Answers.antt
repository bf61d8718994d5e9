use Rattle.std.proofs.Common.{◌≡◌, ◌∙◌, ap, sym, Some, length, refl, slice_get}
use Rattle.std.proofs.lemmas.Bool.{ltb-true}
use Rattle.std.proofs.lemmas.Option.{slice_get_read}
use Rattle.ebpf_load_info.proofs.FirstBytes.{apart, otherwise}
use Rattle.ebpf_load_info.proofs.texts.begins_otherwise.Goals as goal

pub returns-then-wanted : goal.returns-then-wanted
returns-then-wanted c differs =
    let strings = c.args.strings.now in
    let wanted = c.in-Some.wanted.now in
    let byte = c.in-Some-get.byte.now in
    let read = c.in-Some-get.ensures.lookup in
    let first : slice_get c.args.text.now 0 ≡ Some wanted = ap (λ t. slice_get t 0) (sym c.as_bytes.ensures.value) ∙ sym c.in-Some.ensures.value in
    let at : slice_get strings c.args.offset ≡ Some byte =
    slice_get_read strings (length strings) c.args.offset _ refl (ltb-true c.args.offset (length strings) (sym read.0)) read.1 in
    otherwise strings c.args.text.now c.args.offset byte wanted first at c.if-wanted.true (apart byte wanted differs)
