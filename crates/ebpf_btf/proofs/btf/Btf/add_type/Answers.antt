use Rattle.std.proofs.Common.{◌≡◌, ◌+◌, ◌++◌, ◌<◌, length, drop, sym, ap, ◌∙◌, arith}
use Rattle.std.proofs.lemmas.List.{drop-append-le, length-append}
use Rattle.ebpf_btf.specs.declared.types.BtfType.TheVariants.{Unknown}
use Rattle.ebpf_btf.specs.Offsets.{types_here, without_fallback}
use Rattle.ebpf_btf.specs.Types.{kind_of, kind_number}
use Rattle.ebpf_btf.specs.Words.{count_of, type_length, types_length}
use Rattle.ebpf_btf.proofs.Added.{holds_added}
use Rattle.ebpf_btf.proofs.Beside.{beside_added, length_without}
use Rattle.ebpf_btf.proofs.Held.{held_lengths}
use Rattle.ebpf_btf.proofs.Lengths.{at_least, fault_large, fault_none, length_here, length_of_all}
use Rattle.ebpf_btf.proofs.btf.Btf.add_type.Goals as goal

pub returns-then-offset-as_slice-ge-LENGTH_LIMIT-clause-fault : goal.returns-then-offset-as_slice-ge-LENGTH_LIMIT-clause-fault
returns-then-offset-as_slice-ge-LENGTH_LIMIT-clause-fault c =
    let s = c.self.inside in
    let part = drop s.start s.bytes.items in
    let t = c.args.ty.now in
    let added = c.in_ok-added.added.items in
    let all : types_length c.args.self.now.types ≡ length part =
    ap (λ info. types_length info.types) (sym c.self.view_is) ∙ held_lengths s.order part s.fallbacks.items s.offsets.items ∙ length_of_all s.order part Unknown (types_here s.order part s.offsets.items) c.self.invariant.0.whole in
    let one : length added ≡ 0 + type_length (without_fallback t) = length_here s.order added 0 (length added) (without_fallback t) c.in_ok-added.ensures in
    let plain : type_length (without_fallback t) ≡ type_length t = length_without t in
    let size : c.as_slice.result.now ≡ added = c.as_slice.ensures.value in
    let offset : length c.behind-offset.result.now ≡ length part = ap length c.behind-offset.ensures ∙ ap (λ xs. length (drop s.start xs)) c.deref.ensures.value in
    let some : 0 < kind_number (kind_of t) = omega (arith, c.kind_number.ensures.number) in
    let few : count_of t < 65536 = omega (arith, c.count.ensures) in
    fault_large c.args.self.now t some few (omega (arith, ap length size))

pub invariant_of-self-2 : goal.invariant_of-self-2
invariant_of-self-2 c =
    let s = c.self.inside in
    let part = drop s.start s.bytes.items in
    let t = c.args.ty.now in
    let added = c.in_ok-added.added.items in
    let at = length c.behind-offset.result.now in
    let size : c.as_slice-2.result.now ≡ added = c.as_slice-2.ensures.value in
    let offset : at ≡ length part = ap length c.behind-offset.ensures ∙ ap (λ xs. length (drop s.start xs)) c.deref.ensures.value in
    let holds = holds_added s.order s.bytes.items s.start s.offsets.items added (without_fallback t) at c.self.invariant.0 c.in_ok-added.ensures offset (omega (arith, ap length c.as_slice.ensures.value)) in
    let one : length added ≡ 0 + type_length (without_fallback t) = length_here s.order added 0 (length added) (without_fallback t) c.in_ok-added.ensures in
    let some = at_least (without_fallback t) in
    let longer : length (drop s.start (s.bytes.items ++ added)) ≡ length part + length added = ap length (drop-append-le s.start s.bytes.items added c.self.invariant.0.within) ∙ length-append part added in
    rw (c.in_ok-append.ensures.bytes, c.in_ok-append.ensures.offsets, c.in_ok-append.ensures.fallbacks, size)
    (holds, beside_added part (drop s.start (s.bytes.items ++ added)) s.fallbacks.items at _ c.self.invariant.1 (omega arith) (omega arith), c.self.invariant.2)

pub returns-clause-fault : goal.returns-clause-fault
returns-clause-fault c =
    let s = c.self.inside in
    let part = drop s.start s.bytes.items in
    let t = c.args.ty.now in
    let added = c.in_ok-added.added.items in
    let all : types_length c.args.self.now.types ≡ length part =
    ap (λ info. types_length info.types) (sym c.self.view_is) ∙ held_lengths s.order part s.fallbacks.items s.offsets.items ∙ length_of_all s.order part Unknown (types_here s.order part s.offsets.items) c.self.invariant.0.whole in
    let one : length added ≡ 0 + type_length (without_fallback t) = length_here s.order added 0 (length added) (without_fallback t) c.in_ok-added.ensures in
    let plain : type_length (without_fallback t) ≡ type_length t = length_without t in
    let size : c.as_slice.result.now ≡ added = c.as_slice.ensures.value in
    let offset : length c.behind-offset.result.now ≡ length part = ap length c.behind-offset.ensures ∙ ap (λ xs. length (drop s.start xs)) c.deref.ensures.value in
    let some : 0 < kind_number (kind_of t) = omega (arith, c.kind_number.ensures.number) in
    let few : count_of t < 65536 = omega (arith, c.count.ensures) in
    fault_none c.args.self.now t some few (omega (arith, ap length size))
