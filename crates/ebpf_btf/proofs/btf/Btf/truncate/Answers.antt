use Rattle.std.proofs.Common.{◌≡◌, ◌+◌, ◌-◌, ◌∷◌, Some, take, drop, sym, ap, ◌∙◌, arith}
use Rattle.std.specs.Prelude.{is_some, slice_get}
use Rattle.ebpf_btf.specs.Additions.{only_first}
use Rattle.ebpf_btf.specs.Offsets.{held_types}
use Rattle.ebpf_btf.specs.Strings.{before_zero}
use Rattle.ebpf_btf.specs.declared.types.BtfType.TheVariants.{Unknown}
use Rattle.ebpf_btf.proofs.Beside.{beside_cut}
use Rattle.ebpf_btf.proofs.Held.{first_some, held_front}
use Rattle.ebpf_btf.proofs.Tiles.{cut_length, holds_front}
use Rattle.ebpf_btf.proofs.btf.Btf.truncate.Goals as goal

pub invariant_of-self-2 : goal.invariant_of-self-2
invariant_of-self-2 c =
    let s = c.self.inside in
    let there : slice_get s.offsets.items (c.args.types - 1) ≡ Some c.in-Some.offset = cc in
    let long = cut_length s.order s.bytes.items s.start s.offsets.items (c.args.types - 1) c.in-Some.offset c.self.invariant.0 there in
    rw (c.truncate-2.ensures.items, c.truncate-3.ensures.items, c.cut_fallbacks.ensures) (
      holds_front s.order s.bytes.items s.start s.offsets.items (c.args.types - 1) c.in-Some.offset c.self.invariant.0 there,
      beside_cut (drop s.start (take (s.start + c.in-Some.offset) s.bytes.items)) s.fallbacks.items c.in-Some.offset (omega arith),
      (λ offset. ap (λ xs. is_some (before_zero (drop offset xs))) (sym c.deref.ensures.value) ∙ c.readable_below-self-inside.ensures offset),
    )

pub returns : goal.returns
returns c =
    let s = c.self.inside in
    let part = drop s.start s.bytes.items in
    let fs = s.fallbacks.items in
    let n = c.in-Some.offset in
    let there : slice_get s.offsets.items (c.args.types - 1) ≡ Some n = cc in
    let types =
    (λ i. Unknown ∷ held_types s.order (drop s.start (c.truncate-2.ensures.items i)) (c.cut_fallbacks.ensures i) (c.truncate-3.ensures.items i))
    ∙ ap (λ ts. Unknown ∷ ts) (held_front s.order s.bytes.items s.start s.offsets.items fs (c.args.types - 1) n c.self.invariant.0 there)
    ∙ sym (first_some s.order part fs s.offsets.items Unknown c.args.types c.requires) in
    let cut : record { types = Unknown ∷ held_types s.order (drop s.start c.truncate-2.new.self.items) c.cut_fallbacks.new.fallbacks.items c.truncate-3.new.self.items; strings = c.truncate.new.self.items }
    ≡ only_first (record { types = Unknown ∷ held_types s.order part fs s.offsets.items; strings = s.strings.items }) c.args.types c.args.strings =
    λ i. record { types = types i; strings = c.truncate.ensures.items i } in
    cut ∙ ap (λ info. only_first info c.args.types c.args.strings) c.self.view_is
